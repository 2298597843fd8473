-- So far each name before this one was printed.
use Rattle.serdimko.specs.Out.{out_of}
use Rattle.serdimko.specs.Printing.{RunsName}
use Rattle.serdimko.proofs.EachLemmas.{PrintedTo}
use Rattle.serdimko.proofs.driver.print_each_name.Given as goal

abbrev pub invariant-loop-name : goal.invariant-loop-name
invariant-loop-name g l =
    PrintedTo (RunsName l.report l.found) l.names (out_of l.fn.out) (g.E.MessageSink.received l.fn.err)
    l.name-index (out_of l.out) (g.E.MessageSink.received l.err) l.outcome
