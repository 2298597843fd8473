use Rattle.std.proofs.Common.{◌≡◌, ◌+◌, ◌*◌, ◌/◌, ◌%◌, ◌<◌, false, arith, slice_index_or}
use Rattle.ipmi_capture.specs.Below.{reading_of}
use Rattle.ipmi_capture.specs.Left.{IsStateOf}
use Rattle.ipmi_capture.proofs.CountLemmas.{is_state}
use Rattle.ipmi_capture.proofs.FoundLemmas.{not_read}
use Rattle.ipmi_capture.proofs.ReadLemmas.{absent_now, reading_begun, reading_done, reading_lacks, reading_read, reading_skipped, readings_accounted, readings_while}
use Rattle.ipmi_bus.specs.Seen.{stays_trans}
use Rattle.ipmi_capture.proofs.values.capture_readings.Goals as goal

pub places-init : goal.places-init
places-init g c = reading_begun c.args.asking.part c.args.asking.tries c.args.named.now.sensors.items _ c.args.left.now.items c.args.image.now c.requires.none

pub returns-clause-honest : goal.returns-clause-honest
returns-clause-honest g c = reading_done c.places.invariant (omega (arith, c.places-test.false))

pub returns-clause-meanwhile : goal.returns-clause-meanwhile
returns-clause-meanwhile g c = readings_while c.places.invariant (omega (arith, c.places-test.false))

pub places-preserved-then-not-has_sensor : goal.places-preserved-then-not-has_sensor
places-preserved-then-not-has_sensor g c =
    let unmarked : slice_index_or c.args.named.now.sensors.items c.places.place false ≡ false = grind (arith, c.has_sensor.ensures, c.if-not-has_sensor.true) in
    reading_skipped c.places.invariant unmarked

pub capture_reading-requires-clause-none : goal.capture_reading-requires-clause-none
capture_reading-requires-clause-none g c =
    not_read c.places.place (c.places.place / 256) (c.places.place % 256) c.places.image.readings c.places.invariant.below (omega arith)

pub places-preserved : goal.places-preserved
places-preserved g c =
    let at : c.places.place / 256 * 256 + c.places.place % 256 ≡ c.places.place = omega arith in
    let small : c.places.place % 256 < 256 = omega arith in
    rw c.in-Ok-note.ensures (reading_read c.in-Ok.lacks (c.places.place / 256) (c.places.place % 256) c.places.invariant at small c.in-Ok.ensures.image c.in-Ok.ensures.lacks
    (absent_now (IsStateOf g.C.Controller.seen) (reading_of (c.places.place / 256) (c.places.place % 256) c.capture_reading.new.image) (g.C.Controller.seen c.capture_reading.new.ctl) (is_state g.C.Controller.seen c.capture_reading.new.ctl) c.in-Ok.lacks c.in-Ok.ensures.none)
    c.in-Ok.ensures.calls c.in-Ok.ensures.asked c.in-Ok.ensures.stays c.in-Ok.ensures.honest c.in-Ok.ensures.meanwhile)

pub returns-clause-accounted : goal.returns-clause-accounted
returns-clause-accounted g c = readings_accounted c.places.invariant (omega (arith, c.places-test.false))

pub returns-clause-lacks : goal.returns-clause-lacks
returns-clause-lacks g c = reading_lacks c.places.invariant

pub returns-in-Err-clause-stays : goal.returns-in-Err-clause-stays
returns-in-Err-clause-stays g c = λ h. let before = c.places.invariant.stays h in stays_trans _ _ _ before (c.capture_reading.ensures.stays before.honest)

pub returns-in-Err-note-clause-stays : goal.returns-in-Err-note-clause-stays
returns-in-Err-note-clause-stays g c = λ h. let before = c.places.invariant.stays h in stays_trans _ _ _ before (c.capture_reading.ensures.stays before.honest)
