use Rattle.std.proofs.Common.{ℕ, List, Err, arith, refl, subst}
use Rattle.ipmi_commands.specs.Prelude.{printed}
use Rattle.ipmi_sensors.specs.Sensors.{PrintsFound}
use Rattle.serdimko.specs.Settings.{texts_for}
use Rattle.serdimko.specs.Out.{out_of}
use Rattle.serdimko.proofs.NamesLemmas.{named_all, named_last, named_none, named_one}
use Rattle.serdimko.proofs.driver.print_names.Goals as goal

pub loop-name-init : goal.loop-name-init
loop-name-init g c = (refl, named_none c.args.report.now c.args.found.now c.args.names.now (printed (out_of c.args.out.now).taken c.args.summary.now))

pub returns-in-Err-clause-faults : goal.returns-in-Err-clause-faults
returns-in-Err-clause-faults g c = omega (arith, c.loop-name.invariant.0, c.in-Err.ensures.faults)

pub returns-in-Err-clause-prints : goal.returns-in-Err-clause-prints
returns-in-Err-clause-prints g c =
    named_last c.args.report.now c.args.found.now c.args.names.now _ c.loop-name.name-index _ _ c.name-item.result
    c.loop-name.invariant.1 (omega (arith, c.loop-name-test.true)) c.name-item.is _
    (subst (λ (n : List ℕ). PrintsFound (texts_for c.args.report.now) n c.args.found.now (printed (out_of c.loop-name.out).taken c.loop-name.summary)
    (printed (out_of c.print_sensors.new.out).taken c.print_sensors.new.summary) (Err c.in-Err.failure)) c.as_str.ensures c.in-Err.ensures.prints)

pub loop-name-preserved : goal.loop-name-preserved
loop-name-preserved g c = (
  omega (arith, c.loop-name.invariant.0, c.in-Ok.ensures.faults),
  named_one c.args.report.now c.args.found.now c.args.names.now _ c.loop-name.name-index _ _ c.name-item.result
      c.loop-name.invariant.1 (omega (arith, c.loop-name-test.true)) c.name-item.is (rw c.as_str.ensures at c.in-Ok.ensures.prints),
)

pub returns-clause-prints : goal.returns-clause-prints
returns-clause-prints g c =
    named_all c.args.report.now c.args.found.now c.args.names.now _ c.loop-name.name-index _ c.loop-name.invariant.1
    (omega (arith, c.loop-name-test.false, c.loop-name.auto.name-index-end))
