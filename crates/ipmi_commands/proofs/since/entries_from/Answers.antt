use Rattle.std.proofs.Common.{arith}
use Rattle.ipmi_commands.specs.Output.{no_output}
use Rattle.ipmi_commands.proofs.NewLemmas.{finds_all, finds_none}
use Rattle.ipmi_commands.proofs.since.entries_from.Goals as goal

pub returns-in-Ok-clause-honest : goal.returns-in-Ok-clause-honest
returns-in-Ok-clause-honest g c = λ h.
    finds_all (g.F.Format.texts c.args.format.now) c.new-kept.result.most _ c.args.limits.tries _ _ h no_output c.keep_entries.new.kept
    (omega (arith, c.new-kept.ensures.most)) (rw c.in_detail-all.ensures at (c.in-Ok.ensures.honest h no_output))

pub returns-clause-honest : goal.returns-clause-honest
returns-clause-honest g c = λ h.
    finds_none (g.F.Format.texts c.args.format.now) c.new-kept.result.most _ c.args.limits.tries _ _ h no_output c.keep_entries.new.kept
    c.in-Err.failure (rw c.in_detail-all.ensures at (c.in-Err.ensures.honest h no_output))
