use Rattle.std.proofs.Common.{◌≡◌, ◌++◌, ◌∷◌, [], ap, sym, subst, ◌∙◌, arith, map, None, inl, inr}
use Rattle.std.proofs.lemmas.List.{map-append}
use Rattle.std.proofs.lemmas.Result.{err_from_is_err_and}
use Rattle.ipmi_image.specs.Below.{SensorReading, IsSensorReading, reading_in}
use Rattle.ipmi_image.specs.Prelude.{StoredSensor, place_of, sensor_key, reading_of_bytes, sensor_of, AreReadings}
use Rattle.ipmi_image.proofs.TableLemmas.{is_some_reading_in, not_found}
use Rattle.ipmi_image.proofs.StoreLemmas.{reading_fine, AreReadings-new}
use Rattle.ipmi_image.proofs.contents.put_reading.Goals as goal

pub returns : goal.returns
returns c =
    let sensors = c.args.sensors.now in
    let fine = reading_fine c.args.lun (reading_in (map sensor_of sensors) c.args.lun c.args.number) c.args.bytes.now (sym c.in_default.ensures) in
    let there = is_some_reading_in c.args.lun c.args.number (omega (arith, c.ranges.number)) sensors c.requires.all in
    let none : place_of (λ (s : StoredSensor). sensor_key s.lun s.number) (sensor_key c.args.lun c.args.number) sensors ≡ None = grind (arith, there, fine.0) in
    let new : SensorReading = record { lun = c.args.lun; number = c.args.number; reading = reading_of_bytes c.args.bytes.now } in
    let is : IsSensorReading new = omega (arith, c.ranges.lun, c.ranges.number, c.type_inv.bytes 0, c.type_inv.bytes 1, c.type_inv.bytes 2, c.type_inv.bytes 3) in
    let has : map sensor_of c.push.new.self ≡ map sensor_of sensors ++ new ∷ [] = ap (map sensor_of) c.in_ok-push.ensures.put.1 ∙ map-append sensor_of sensors _ in
    record { keeps = subst AreReadings (sym has) (AreReadings-new (map sensor_of sensors) new fine.0 is c.requires); put = (sym c.in_default.ensures, has) }

-- the sensor has no reading yet
pub returns-in_err-push-clause-put : goal.returns-in_err-push-clause-put
returns-in_err-push-clause-put c =
    let out = err_from_is_err_and c.from_residual.result c.from_residual.ensures.1 in
    let sensors = c.args.sensors.now in
    let fine = reading_fine c.args.lun (reading_in (map sensor_of sensors) c.args.lun c.args.number) c.args.bytes.now (sym c.in_default.ensures) in
    let there = is_some_reading_in c.args.lun c.args.number (omega (arith, c.ranges.number)) sensors c.requires.all in
    let none : place_of (λ (s : StoredSensor). sensor_key s.lun s.number) (sensor_key c.args.lun c.args.number) sensors ≡ None = grind (arith, there, fine.0) in
    rw (out.1, out.2) (elim c.in_err-push.ensures.put [
      | inl memory ↦ inl memory
      | inr twice ↦ absurd (not_found none twice.1)
    ])
