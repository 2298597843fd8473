use Rattle.std.proofs.Common.{refl, rules}
use Rattle.ipmi_bus.specs.Prelude.{IsStateOf}
use Rattle.ipmi_bus.proofs.InventoryLemmas.{part_answers, part_failed}
use Rattle.ipmi_bus.proofs.inventory_reader.FruRetrieval.ask_part.Goals as goal

pub returns-in-Ok-clause-honest : goal.returns-in-Ok-clause-honest
returns-in-Ok-clause-honest g c =
    λ s since. part_answers (IsStateOf g.C.Controller.seen) c.args.self.now c.request.new.self s _ _ c.asked_len-asked.result
    c.in-Ok.got c.in-Ok.ensures.len c.in-Ok.ensures.front since c.requires (c.request.new.ctl, refl) (search rules) (c.in-Ok.ensures.honest since.stays.honest)
    c.take_part.new.self c.take_part.result c.request.ensures.bytes c.take_part.ensures.takes

pub returns-in-Err-clause-honest : goal.returns-in-Err-clause-honest
returns-in-Err-clause-honest g c =
    λ s since. part_failed (IsStateOf g.C.Controller.seen) c.args.self.now c.request.new.self.bytes s _ _ c.asked_len-asked.result c.in-Err.code _ c.in-Err.ensures.err c.requires since (c.request.new.ctl, refl) c.request.ensures.counted.calls c.in-Err.ensures.failure (c.in-Err.ensures.honest since.stays.honest)
    c.request.new.self c.fail_part.new.self c.fail_part.result c.request.ensures.bytes c.fail_part.ensures.fails

pub request-requires-clause-len : goal.request-requires-clause-len
request-requires-clause-len g c = search rules
