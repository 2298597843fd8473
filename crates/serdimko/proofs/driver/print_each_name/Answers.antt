use Rattle.std.proofs.Common.{arith}
use Rattle.serdimko.specs.Out.{out_of}
use Rattle.serdimko.specs.Printing.{RunsName}
use Rattle.serdimko.proofs.EachLemmas.{printed_all, printed_last, printed_none, printed_one}
use Rattle.serdimko.proofs.driver.print_each_name.Goals as goal

pub loop-name-init : goal.loop-name-init
loop-name-init g c =
    rw c.of-outcome.ensures (
    printed_none (RunsName c.args.report.now c.args.found.now) c.args.names.now (out_of c.args.out.now) (g.E.MessageSink.received c.args.err.now))

pub returns-then-not-is_recoverable : goal.returns-then-not-is_recoverable
returns-then-not-is_recoverable g c =
    rw c.and-outcome.ensures (
    printed_last (RunsName c.args.report.now c.args.found.now) c.args.names.now (out_of c.args.out.now) (g.E.MessageSink.received c.args.err.now)
    c.loop-name.name-index (out_of c.loop-name.out) (out_of c.run_name-error.new.out) (g.E.MessageSink.received c.loop-name.err)
    (g.E.MessageSink.received c.tell.new.err) c.loop-name.outcome c.name-item.result c.tell.result c.is_recoverable.result
    c.loop-name.invariant (omega (arith, c.loop-name-test.true)) c.name-item.is
    (c.run_name-error.result, rw c.as_str.ensures at c.run_name-error.ensures, c.tell.ensures, c.is_recoverable.ensures)
    c.if-not-is_recoverable.true)

pub loop-name-preserved : goal.loop-name-preserved
loop-name-preserved g c =
    rw c.and-outcome.ensures (
    printed_one (RunsName c.args.report.now c.args.found.now) c.args.names.now (out_of c.args.out.now) (g.E.MessageSink.received c.args.err.now)
    c.loop-name.name-index (out_of c.loop-name.out) (out_of c.run_name-error.new.out) (g.E.MessageSink.received c.loop-name.err)
    (g.E.MessageSink.received c.tell.new.err) c.loop-name.outcome c.name-item.result c.tell.result c.is_recoverable.result
    c.loop-name.invariant (omega (arith, c.loop-name-test.true)) c.name-item.is
    (c.run_name-error.result, rw c.as_str.ensures at c.run_name-error.ensures, c.tell.ensures, c.is_recoverable.ensures)
    c.if-not-is_recoverable.false)

pub returns : goal.returns
returns g c =
    printed_all (RunsName c.args.report.now c.args.found.now) c.args.names.now (out_of c.args.out.now) (g.E.MessageSink.received c.args.err.now)
    c.loop-name.name-index (out_of c.loop-name.out) (g.E.MessageSink.received c.loop-name.err) c.loop-name.outcome c.loop-name.invariant
    (omega (arith, c.loop-name-test.false, c.loop-name.auto.name-index-end))
