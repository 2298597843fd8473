use Rattle.std.proofs.Common.{◌≡◌, None, Some, ◌∷◌, [], refl}
use Rattle.ipmi_capture.proofs.ReadLemmas.{adds_none, adds_some, any_after, any_of_one, captures_after, on_ok, walk_after}
use Rattle.ipmi_capture.proofs.CountLemmas.{is_state}
use Rattle.ipmi_capture.proofs.CaptureLemmas.{captures_walk, captures_whole_walk}
use Rattle.ipmi_capture.proofs.WhileLemmas.{first_records, whole_log}
use Rattle.ipmi_capture.specs.declared.left.Left.{Left}
use Rattle.ipmi_capture.proofs.capturing.note_shelf.Goals as goal

pub returns-in-Ok-Some-clause-honest : goal.returns-in-Ok-Some-clause-honest
returns-in-Ok-Some-clause-honest g c = λ h.
    on_ok c.note.result c.note.ensures (λ added. rw added (captures_after c.args.left.now.items (Left.Records c.args.shelf c.in-Ok-Some.ended ∷ [])
    (walk_after c.args.shelf c.args.left.now.items (Left.Records c.args.shelf c.in-Ok-Some.ended ∷ []) _ _)
    (captures_walk c.args.shelf _ c.in-Ok-Some.ended (c.in-Ok-Some.ensures.stays h) (rw c.in-Ok-Some.field-0-is at (c.in-Ok-Some.ensures.honest h))
    (rw c.in-Ok-Some.field-0-is at (c.in-Ok-Some.ensures.meanwhile h)))))

pub returns-in-Ok-None-clause-honest : goal.returns-in-Ok-None-clause-honest
returns-in-Ok-None-clause-honest g c = λ h.
    captures_whole_walk c.args.shelf _ c.args.left.now.items (rw c.in-Ok-None.field-0-is at (c.in-Ok-None.ensures.honest h))

pub returns-in-Ok-Some-clause-meanwhile : goal.returns-in-Ok-Some-clause-meanwhile
returns-in-Ok-Some-clause-meanwhile g c = λ h.
    on_ok c.note.result c.note.ensures (λ added. rw added (first_records c.args.left.now.items c.in-Ok-Some.ended (rw c.in-Ok-Some.field-0-is at (c.in-Ok-Some.ensures.meanwhile h))))

pub returns-in-Ok-None-clause-meanwhile : goal.returns-in-Ok-None-clause-meanwhile
returns-in-Ok-None-clause-meanwhile g c = λ h.
    whole_log c.args.left.now.items (rw c.in-Ok-None.field-0-is at (c.in-Ok-None.ensures.meanwhile h))

pub returns-in-Ok-Some-clause-lacks : goal.returns-in-Ok-Some-clause-lacks
returns-in-Ok-Some-clause-lacks g c =
    let ends = rw c.in-Ok-Some.field-0-is at c.in-Ok-Some.ensures.ends in
    on_ok c.note.result c.note.ensures (λ added. rw added (adds_some _ c.args.left.now.items (Some (Left.Records c.args.shelf c.in-Ok-Some.ended)) (record { ended = c.in-Ok-Some.ended; is = refl; ends = ends.0 })))

pub returns-in-Ok-None-clause-lacks : goal.returns-in-Ok-None-clause-lacks
returns-in-Ok-None-clause-lacks g c = adds_none _ c.args.left.now.items

pub returns-in-Ok-Some-clause-accounted : goal.returns-in-Ok-Some-clause-accounted
returns-in-Ok-Some-clause-accounted g c =
    let ends = rw c.in-Ok-Some.field-0-is at c.in-Ok-Some.ensures.ends in
    let item = Left.Records c.args.shelf c.in-Ok-Some.ended in
    on_ok c.note.result c.note.ensures (λ added. rw added (record {
      ended = Some c.in-Ok-Some.ended;
      has = (g.C.Controller.seen c.capture_shelf.new.ctl, is_state g.C.Controller.seen c.capture_shelf.new.ctl, ends);
      listed = any_after (λ l. l ≡ item) c.args.left.now.items (item ∷ []) (any_of_one (λ l. l ≡ item) item refl);
    }))

pub returns-in-Ok-None-clause-accounted : goal.returns-in-Ok-None-clause-accounted
returns-in-Ok-None-clause-accounted g c = record {
  ended = None;
  has = (g.C.Controller.seen c.capture_shelf.new.ctl, is_state g.C.Controller.seen c.capture_shelf.new.ctl, rw c.in-Ok-None.field-0-is at c.in-Ok-None.ensures.ends);
  listed = tt;
}
