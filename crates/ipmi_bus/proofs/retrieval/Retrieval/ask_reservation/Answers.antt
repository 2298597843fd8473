use Rattle.ipmi_bus.proofs.CallLemmas.{reserve_given, reserve_failed}
use Rattle.ipmi_bus.proofs.retrieval.Retrieval.ask_reservation.Goals as goal

pub returns-in-Ok-clause-honest : goal.returns-in-Ok-clause-honest
returns-in-Ok-clause-honest g c = λ start s same since.
    let answers = c.in-Ok.ensures.honest since.stays.honest in
    reserve_given start c.args.self.now s _ _ same since answers.change.stays c.in-Ok.reservation c.requires.is_open c.requires.none answers

pub returns-in-Err-clause-honest : goal.returns-in-Err-clause-honest
returns-in-Err-clause-honest g c = λ start s same since.
    let answers = c.in-Err.ensures.honest since.stays.honest in
    reserve_failed start c.args.self.now s _ _ same since answers.change.stays c.fail_reserve.new.self c.in-Err.code c.fail_reserve.result c.requires.is_open answers c.fail_reserve.ensures.fails
