use Rattle.std.proofs.Common.{rules, ◌∙◌, ap, Some, length, arith}
use Rattle.ipmi_fru.specs.Prelude.{record_of, items_after}
use Rattle.ipmi_fru.proofs.RecordLemmas.{items_in-more}
use Rattle.ipmi_fru.proofs.multirecord.RecordsIterator.next.Goals as goal

pub returns-clause-steps : goal.returns-clause-steps
returns-clause-steps c =
    let found = c.in-Ok.found in
    ap items_after {x = c.args.self.now.left} {y = Some c.in_ok-bytes.bytes} (search rules)
    ∙ items_in-more c.in_ok-bytes.bytes.now (search rules) (record_of found.0) found.1.now
    (search rules) (search rules) (search rules) (search rules)

pub returns-clause-goes : goal.returns-clause-goes
returns-clause-goes c = let steps = ap length (returns-clause-steps c) in record { on = λ fin. (tt, tt, omega (arith, steps)); keeps = tt; rests = λ fin. tt }

pub returns-in-Err-clause-steps : goal.returns-in-Err-clause-steps
returns-in-Err-clause-steps c = search rules

pub returns-in-Err-clause-goes : goal.returns-in-Err-clause-goes
returns-in-Err-clause-goes c = search rules
