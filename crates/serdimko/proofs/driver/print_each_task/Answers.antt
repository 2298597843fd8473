use Rattle.std.proofs.Common.{arith}
use Rattle.serdimko.specs.Out.{out_of, state}
use Rattle.serdimko.specs.Printing.{RunsTask}
use Rattle.serdimko.proofs.EachLemmas.{printed_all, printed_last, printed_none, printed_one}
use Rattle.serdimko.proofs.driver.print_each_task.Goals as goal

pub loop-task-init : goal.loop-task-init
loop-task-init g c =
    rw c.of-outcome.ensures (
    printed_none (RunsTask c.args.limits c.args.report.now) c.args.tasks.now
    (state (g.C.Controller.seen c.args.ctl.now) (g.C.Connection.lost c.args.ctl.now) (out_of c.args.out.now)) (g.E.MessageSink.received c.args.err.now))

pub returns-then-not-is_recoverable : goal.returns-then-not-is_recoverable
returns-then-not-is_recoverable g c =
    rw c.and-outcome.ensures (
    printed_last (RunsTask c.args.limits c.args.report.now) c.args.tasks.now
    (state (g.C.Controller.seen c.args.ctl.now) (g.C.Connection.lost c.args.ctl.now) (out_of c.args.out.now)) (g.E.MessageSink.received c.args.err.now)
    c.loop-task.task-index (state (g.C.Controller.seen c.loop-task.ctl) (g.C.Connection.lost c.loop-task.ctl) (out_of c.loop-task.out))
    (state (g.C.Controller.seen c.run_task-error.new.ctl) (g.C.Connection.lost c.run_task-error.new.ctl) (out_of c.run_task-error.new.out))
    (g.E.MessageSink.received c.loop-task.err) (g.E.MessageSink.received c.tell-told.new.err) c.loop-task.outcome c.task-item.result c.tell-told.result
    c.is_recoverable.result c.loop-task.invariant (omega (arith, c.loop-task-test.true)) c.task-item.is
    (c.run_task-error.result, rw c.new-filters.ensures at c.run_task-error.ensures, c.tell-told.ensures, c.is_recoverable.ensures)
    c.if-not-is_recoverable.true)

pub loop-task-preserved : goal.loop-task-preserved
loop-task-preserved g c =
    rw c.and-outcome.ensures (
    printed_one (RunsTask c.args.limits c.args.report.now) c.args.tasks.now
    (state (g.C.Controller.seen c.args.ctl.now) (g.C.Connection.lost c.args.ctl.now) (out_of c.args.out.now)) (g.E.MessageSink.received c.args.err.now)
    c.loop-task.task-index (state (g.C.Controller.seen c.loop-task.ctl) (g.C.Connection.lost c.loop-task.ctl) (out_of c.loop-task.out))
    (state (g.C.Controller.seen c.run_task-error.new.ctl) (g.C.Connection.lost c.run_task-error.new.ctl) (out_of c.run_task-error.new.out))
    (g.E.MessageSink.received c.loop-task.err) (g.E.MessageSink.received c.tell-told.new.err) c.loop-task.outcome c.task-item.result c.tell-told.result
    c.is_recoverable.result c.loop-task.invariant (omega (arith, c.loop-task-test.true)) c.task-item.is
    (c.run_task-error.result, rw c.new-filters.ensures at c.run_task-error.ensures, c.tell-told.ensures, c.is_recoverable.ensures)
    c.if-not-is_recoverable.false)

pub returns : goal.returns
returns g c =
    printed_all (RunsTask c.args.limits c.args.report.now) c.args.tasks.now
    (state (g.C.Controller.seen c.args.ctl.now) (g.C.Connection.lost c.args.ctl.now) (out_of c.args.out.now)) (g.E.MessageSink.received c.args.err.now)
    c.loop-task.task-index (state (g.C.Controller.seen c.loop-task.ctl) (g.C.Connection.lost c.loop-task.ctl) (out_of c.loop-task.out))
    (g.E.MessageSink.received c.loop-task.err) c.loop-task.outcome c.loop-task.invariant
    (omega (arith, c.loop-task-test.false, c.loop-task.auto.task-index-end))
