use Rattle.std.proofs.Common.{Ok, Err, refl}
use Rattle.ipmi_commands.proofs.AskLemmas.{passed}
use Rattle.ipmi_commands.proofs.NamedLemmas.{some_is}
use Rattle.ipmi_commands.proofs.since.print_named.Goals as goal

pub returns-in_err-print_with-clause-prints : goal.returns-in_err-print_with-clause-prints
returns-in_err-print_with-clause-prints g c =
    let reads = rw (c.new-records.ensures.taken, c.new.ensures.items, c.new-counted.ensures) at c.in_ok-walked.ensures.reads in
    let bytes = some_is _ _ (c.into_inner-records.ensures.bytes (λ w. refl)) in
    rw (passed _ _ c.from_residual-in_err-print_with.ensures.1) (record {
      records = _;
      walked = Ok c.in_ok-walked.walked;
      reads = reads;
      prints = (Err c.in_err-print_with.field-0.0, refl, c.in_err-print_with.ensures.ends, rw bytes at c.in_err-print_with.ensures.prints);
    })
