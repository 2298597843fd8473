use Rattle.std.proofs.Common.{arith}
use Rattle.ipmi_bus.proofs.PartLemmas.{open_requested, reaches_within, honest_part, part_failed}
use Rattle.ipmi_bus.proofs.retrieval.Retrieval.ask_part.Goals as goal

pub returns-in-Ok-clause-honest : goal.returns-in-Ok-clause-honest
returns-in-Ok-clause-honest g c =
    λ start s same since. honest_part start c.args.self.now c.request.new.self c.take_part.new.self s _ _ c.args.reservation c.asked_len-asked.result c.in-Ok.part c.take_part.result
    same since c.requires.is_open c.request.ensures.buffer c.request.ensures.front c.requires.reserved (c.in-Ok.ensures.honest since.stays.honest) c.take_part.ensures.takes

pub returns-in-Err-clause-honest : goal.returns-in-Err-clause-honest
returns-in-Err-clause-honest g c =
    let fails = rw c.in-Err.ensures.err at c.fail_part.ensures.fails in
    λ start s same since. part_failed start c.args.self.now c.fail_part.new.self s _ _ c.args.reservation c.asked_len-asked.result c.in-Err.code _ same since c.requires.is_open c.requires.reserved
    (c.in-Err.ensures.honest since.stays.honest) c.fail_part.result fails

pub take_part-requires-clause-is_open : goal.take_part-requires-clause-is_open
take_part-requires-clause-is_open g c = rw c.request.ensures.buffer (open_requested c.args.self.now _ c.requires.is_open c.request.ensures.front)

pub take_part-requires-clause-fits : goal.take_part-requires-clause-fits
take_part-requires-clause-fits g c =
    let asked = rw c.asked_to.ensures at c.asked_len-asked.ensures in
    let within = reaches_within c.args.self.now c.requires.is_open in
    rw c.request.ensures.buffer (omega (arith, asked, within, c.in-Ok.ensures.got))
