use Rattle.std.proofs.Common.{refl}
use Rattle.ipmi_metrics.specs.Gathered.{IsFamilyOf}
use Rattle.ipmi_text.proofs.TextsLemmas.{texts_more}
use Rattle.ipmi_metrics.proofs.text.push_families.Goals as goal

pub loop-family-preserved : goal.loop-family-preserved
loop-family-preserved c =
    texts_more (IsFamilyOf c.args.gathered.now) c.args.families.now c.loop-family.family-index _ _ _ _ c.loop-family-test.true
    c.loop-family.invariant
    (record { part = _; is_text = refl; text_is = rw c.samples.ensures at c.in_ok-push_with_head.ensures })
