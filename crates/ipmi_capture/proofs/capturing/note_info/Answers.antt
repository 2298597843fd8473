use Rattle.std.specs.Option.{option_to_list}
use Rattle.ipmi_capture.proofs.ReadLemmas.{absent_now, adds_some, captures_after, listed_after, listed_one, on_ok, same_after}
use Rattle.ipmi_capture.proofs.MeanwhileLemmas.{of_held}
use Rattle.ipmi_capture.proofs.CountLemmas.{is_state}
use Rattle.ipmi_capture.specs.Below.{info_of}
use Rattle.ipmi_capture.specs.Left.{IsStateOf, LacksInfo}
use Rattle.ipmi_capture.proofs.capturing.note_info.Goals as goal

pub returns-clause-honest : goal.returns-clause-honest
returns-clause-honest g c = λ h.
    on_ok c.note.result c.note.ensures (λ added. rw added (captures_after c.args.left.now.items (option_to_list c.capture_info-lacks.result)
    (same_after (LacksInfo c.args.shelf) c.args.left.now.items (option_to_list c.capture_info-lacks.result) _ _) (c.capture_info-lacks.ensures.honest h)))

pub returns-clause-meanwhile : goal.returns-clause-meanwhile
returns-clause-meanwhile g c = λ h.
    on_ok c.note.result c.note.ensures (λ added. rw added (of_held (g.C.Controller.seen c.args.ctl.now) (g.C.Controller.seen c.capture_info-lacks.new.ctl) (λ store. same_after (LacksInfo c.args.shelf) c.args.left.now.items (option_to_list c.capture_info-lacks.result) _ _) (c.capture_info-lacks.ensures.meanwhile h)))

pub returns-clause-accounted : goal.returns-clause-accounted
returns-clause-accounted g c =
    let S = IsStateOf g.C.Controller.seen in
    let lacks = c.capture_info-lacks.result in
    let value = info_of c.args.shelf c.capture_info-lacks.new.image in
    let absent = absent_now S value (g.C.Controller.seen c.capture_info-lacks.new.ctl) (is_state g.C.Controller.seen c.capture_info-lacks.new.ctl) lacks c.capture_info-lacks.ensures.none in
    on_ok c.note.result c.note.ensures (λ added. rw added (listed_after S (LacksInfo c.args.shelf) c.args.left.now.items (option_to_list lacks) value
    (listed_one S (LacksInfo c.args.shelf) value lacks c.capture_info-lacks.ensures.lacks absent)))

pub returns-clause-lacks : goal.returns-clause-lacks
returns-clause-lacks g c =
    on_ok c.note.result c.note.ensures (λ added. rw added (adds_some _ c.args.left.now.items c.capture_info-lacks.result c.capture_info-lacks.ensures.lacks))
