use Rattle.std.proofs.Common.{add-one}
use Rattle.ipmi_image.proofs.RespondLemmas.{look_chained}
use Rattle.ipmi_image.proofs.responder.look_up.Goals as goal

pub returns : goal.returns
returns c = rw (look_chained c.args.rows.now c.args.id, ← c.in_ok-place.ensures, ← c.in_ok-row.ensures.row, c.next_of.ensures, add-one)
