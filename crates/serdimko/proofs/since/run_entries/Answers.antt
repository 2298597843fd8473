use Rattle.std.proofs.Common.{ap, arith}
use Rattle.ipmi_commands.specs.Output.{Output}
use Rattle.ipmi_commands.specs.Printed.{faults_of, pieces_of}
use Rattle.serdimko.specs.Out.{out_of}
use Rattle.serdimko.proofs.since.run_entries.Goals as goal

pub returns : goal.returns
returns g c =
    let none = c.new-summary.ensures in record {
      said = c.last_line-said.result;
      last_line = c.last_line-said.ensures;
      asked = c.print_new-ending.ensures.asked;
      runs = record {
        after = out_of c.print_new-ending.new.out;
        printed = c.print_new-ending.result;
        pieces = pieces_of c.print_new-ending.new.summary;
        faults = faults_of c.print_new-ending.new.summary;
        prints = rw (ap (λ (o : Output). o.pieces) none, ap (λ (o : Output). o.faults) none, c.selection_of-selection.ensures) at c.print_new-ending.ensures.prints;
        ends = c.end_run.ensures.ends;
        counts = omega (arith, c.end_run.ensures.faults, c.print_new-ending.ensures.faults);
      };
    }
