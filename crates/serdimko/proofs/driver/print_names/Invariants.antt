-- So far the blocks of each name before this one were printed.
use Rattle.std.proofs.Common.{◌≡◌}
use Rattle.ipmi_commands.specs.Prelude.{printed}
use Rattle.serdimko.specs.Out.{out_of}
use Rattle.serdimko.proofs.NamesLemmas.{NamedTo}
use Rattle.serdimko.proofs.driver.print_names.Given as goal

abbrev pub invariant-loop-name : goal.invariant-loop-name
invariant-loop-name g l =
    ((out_of l.out).faults ≡ (out_of l.fn.out).faults)
    × NamedTo l.report l.found l.names (printed (out_of l.fn.out).taken l.fn.summary) l.name-index (printed (out_of l.out).taken l.summary)
