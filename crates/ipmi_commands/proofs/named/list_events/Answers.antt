use Rattle.ipmi_commands.specs.Below.{records_in}
use Rattle.ipmi_commands.specs.Prelude.{named_entries, printed}
use Rattle.ipmi_commands.proofs.AskLemmas.{passed}
use Rattle.ipmi_commands.proofs.NamedLemmas.{events_without_memory}
use Rattle.ipmi_commands.proofs.named.list_events.Goals as goal

pub returns-in_err-of-clause-runs : goal.returns-in_err-of-clause-runs
returns-in_err-of-clause-runs g c =
    rw (passed _ _ c.from_residual.ensures.1) (events_without_memory (g.F.Format.texts c.args.format.now) (named_entries c.args.selection (records_in c.args.records.items)) c.args.count c.args.from c.args.limits.tries (g.C.Controller.seen c.args.ctl.now) (printed (g.O.Sink.taken c.args.out.now) c.args.summary.now))
