use Rattle.ipmi_metrics.proofs.GatheredLemmas.{families_made, from_none, only_part}
use Rattle.ipmi_text.specs.Texts.{AreTexts}
use Rattle.ipmi_metrics.specs.Families.{families}
use Rattle.ipmi_metrics.specs.Gathered.{IsFamilyOf}
use Rattle.ipmi_metrics.specs.Metrics.{AreSamples}
use Rattle.ipmi_metrics.proofs.text.sensors_text.Goals as goal

pub returns : goal.returns
returns c =
    let gathered = c.add_all.new.self in
    let samples = from_none (λ family. AreTexts (AreSamples family) c.args.found.now) c.new-gathered.result gathered c.new-gathered.ensures c.in_ok-add_all.ensures in
    families_made c.args.found.now gathered samples families _
    (only_part (AreTexts (IsFamilyOf gathered) families) _ _ c.in_ok-text.ensures.bytes c.in_ok-push_families.ensures)
