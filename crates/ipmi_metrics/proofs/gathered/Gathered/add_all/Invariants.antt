use Rattle.std.proofs.Common.{take}
use Rattle.ipmi_metrics.specs.Gathered.{Adds}
use Rattle.ipmi_metrics.specs.Metrics.{AreSamples}
use Rattle.ipmi_text.specs.Texts.{AreTexts}
use Rattle.ipmi_metrics.proofs.gathered.Gathered.add_all.Given as goal

-- The samples of the sensors so far.
abbrev pub invariant-loop-sensor : goal.invariant-loop-sensor
invariant-loop-sensor l = Adds (λ family. AreTexts (AreSamples family) (take l.sensor-index l.found)) l.fn.self l.self
