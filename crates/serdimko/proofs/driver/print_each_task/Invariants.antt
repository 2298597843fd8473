-- So far each task before this one was done.
use Rattle.serdimko.specs.Out.{out_of, state}
use Rattle.serdimko.specs.Printing.{RunsTask}
use Rattle.serdimko.proofs.EachLemmas.{PrintedTo}
use Rattle.serdimko.proofs.driver.print_each_task.Given as goal

abbrev pub invariant-loop-task : goal.invariant-loop-task
invariant-loop-task g l =
    PrintedTo (RunsTask l.limits l.report) l.tasks (state (g.C.Controller.seen l.fn.ctl) (g.C.Connection.lost l.fn.ctl) (out_of l.fn.out)) (g.E.MessageSink.received l.fn.err)
    l.task-index (state (g.C.Controller.seen l.ctl) (g.C.Connection.lost l.ctl) (out_of l.out)) (g.E.MessageSink.received l.err) l.outcome
