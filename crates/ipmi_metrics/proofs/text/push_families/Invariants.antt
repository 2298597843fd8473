use Rattle.std.proofs.Common.{string_bytes, take}
use Rattle.ipmi_text.specs.Appended.{Appends}
use Rattle.ipmi_metrics.specs.Gathered.{IsFamilyOf}
use Rattle.ipmi_text.specs.Texts.{AreTexts}
use Rattle.ipmi_metrics.proofs.text.push_families.Given as goal

-- The families so far.
abbrev pub invariant-loop-family : goal.invariant-loop-family
invariant-loop-family l =
    Appends (AreTexts (IsFamilyOf l.gathered) (take l.family-index l.families)) (string_bytes l.fn.text) (string_bytes l.text)
