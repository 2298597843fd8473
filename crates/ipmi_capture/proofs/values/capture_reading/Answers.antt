use Rattle.std.proofs.Common.{[], ◌∷◌, ap, refl, sym, ◌∙◌}
use Rattle.std.proofs.lemmas.Option.{none-some}
use Rattle.ipmi_capture.specs.Below.{reading_of}
use Rattle.ipmi_capture.specs.Left.{LacksReading}
use Rattle.ipmi_capture.specs.declared.left.Left.{Left}
use Rattle.ipmi_capture.specs.declared.left.Unread.{Unread}
use Rattle.ipmi_capture.proofs.CountLemmas.{is_state}
use Rattle.ipmi_capture.proofs.ReadLemmas.{has_read, came_reading, left_value, left_while, read_again, reading_while}
use Rattle.ipmi_capture.proofs.values.capture_reading.Goals as goal

pub returns-in_ok-put_reading-in-Ok-Some-clause-image : goal.returns-in_ok-put_reading-in-Ok-Some-clause-image
returns-in_ok-put_reading-in-Ok-Some-clause-image g c =
    has_read c.args.lun c.args.number c.in-Ok-Some.reading c.args.image.now c.put_reading.new.self c.requires.none c.in_ok-put_reading-in-Ok-Some.ensures.ok

pub returns-in_ok-put_reading-in-Ok-Some-clause-honest : goal.returns-in_ok-put_reading-in-Ok-Some-clause-honest
returns-in_ok-put_reading-in-Ok-Some-clause-honest g c = λ h.
    came_reading c.args.lun c.args.number c.in-Ok-Some.reading c.args.image.now c.put_reading.new.self c.requires.none c.in_ok-put_reading-in-Ok-Some.ensures.ok (rw c.in-Ok-Some.field-0-is at (c.in-Ok-Some.ensures.honest h))

pub returns-in_ok-put_reading-in-Ok-Some-clause-meanwhile : goal.returns-in_ok-put_reading-in-Ok-Some-clause-meanwhile
returns-in_ok-put_reading-in-Ok-Some-clause-meanwhile g c = λ h.
    reading_while c.args.lun c.args.number c.in-Ok-Some.reading c.args.image.now c.put_reading.new.self c.requires.none c.in_ok-put_reading-in-Ok-Some.ensures.ok (rw c.in-Ok-Some.field-0-is at (c.in-Ok-Some.ensures.honest h))

pub returns-in_ok-put_reading-in-Ok-Some-clause-none : goal.returns-in_ok-put_reading-in-Ok-Some-clause-none
returns-in_ok-put_reading-in-Ok-Some-clause-none g c = λ none.
    absurd (none-some c.in-Ok-Some.reading (sym none ∙ read_again c.args.lun c.args.number c.in-Ok-Some.reading c.args.image.now c.put_reading.new.self c.requires.none c.in_ok-put_reading-in-Ok-Some.ensures.ok))

pub returns-in-Err-clause-meanwhile : goal.returns-in-Err-clause-meanwhile
returns-in-Err-clause-meanwhile g c = λ h.
    left_while (g.C.Controller.seen c.args.ctl.now) (g.C.Controller.seen c.read_reading.new.ctl) (reading_of c.args.lun c.args.number) (LacksReading c.args.lun c.args.number) (Left.Reading c.args.lun c.args.number c.of-unread.result) _ c.requires.none (refl, refl)

pub returns-in-Err-clause-honest : goal.returns-in-Err-clause-honest
returns-in-Err-clause-honest g c = λ h.
    left_value (reading_of c.args.lun c.args.number) (LacksReading c.args.lun c.args.number) c.in-Err.ended
    (Left.Reading c.args.lun c.args.number c.of-unread.result) _ (is_state g.C.Controller.seen c.args.ctl.now)
    (is_state g.C.Controller.seen c.read_reading.new.ctl) c.requires.none (refl, refl)
    (ap (λ (u : Unread). u ∷ []) c.of-unread.ensures) (c.in-Err.ensures.honest h)
