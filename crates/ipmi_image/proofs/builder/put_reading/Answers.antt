use Rattle.std.proofs.Common.{◌≡◌, ◌++◌, ◌∷◌, [], ap, sym, subst, ◌∙◌, map, arith}
use Rattle.std.proofs.lemmas.List.{map-append}
use Rattle.ipmi_image.specs.Below.{IsSensorReading, SensorReading}
use Rattle.ipmi_image.specs.Prelude.{AreReadings, sensor_of}
use Rattle.ipmi_image.proofs.StoreLemmas.{AreReadings-new}
use Rattle.ipmi_image.proofs.builder.put_reading.Goals as goal

pub returns-in-Ok-clause-keeps : goal.returns-in-Ok-clause-keeps
returns-in-Ok-clause-keeps c =
    let sensors = c.args.sensors.now in
    let all = c.are_bytes.ensures in
    let new : SensorReading = record { lun = c.args.lun; number = c.args.number; reading = c.args.reading } in
    let is : IsSensorReading new = omega (arith, c.ranges.lun, c.ranges.number, all 0 0 (omega arith), all 1 0 (omega arith), all 2 0 (omega arith), all 3 0 (omega arith)) in
    let has : map sensor_of c.push.new.self ≡ map sensor_of sensors ++ new ∷ [] = ap (map sensor_of) c.in-Ok.ensures.put.1 ∙ map-append sensor_of sensors _ in
    subst AreReadings (sym has) (AreReadings-new (map sensor_of sensors) new c.requires.none is c.requires.all)
