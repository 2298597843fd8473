use Rattle.ipmi_commands.specs.Below.{IsStateOf}
use Rattle.ipmi_commands.proofs.ReadLemmas.{bytes_found, bytes_unread, parts_unread}
use Rattle.ipmi_commands.proofs.inventory.read_inventory.Goals as goal

pub returns-in-Ok-clause-honest : goal.returns-in-Ok-clause-honest
returns-in-Ok-clause-honest g c = λ h. bytes_found (IsStateOf g.C.Controller.seen) c.args.id c.args.limits.tries _ _ c.in-Ok.bytes (c.in-Ok.ensures.honest h)

pub returns-in-Err-clause-honest : goal.returns-in-Err-clause-honest
returns-in-Err-clause-honest g c = λ h.
    rw c.unread_inventory.ensures.is (bytes_unread (IsStateOf g.C.Controller.seen) c.args.id c.args.limits.tries _ _ c.in-Err.ended (c.in-Err.ensures.honest h))

pub returns-in-Err-clause-parts : goal.returns-in-Err-clause-parts
returns-in-Err-clause-parts g c = λ h.
    rw c.unread_inventory.ensures.is (parts_unread (IsStateOf g.C.Controller.seen) c.args.id c.args.limits.tries _ _ c.in-Err.ended (c.in-Err.ensures.honest h))
