use Rattle.std.proofs.Common.{take}
use Rattle.ipmi_text.specs.Appended.{Appends}
use Rattle.ipmi_text.specs.Texts.{AreTexts}
use Rattle.ipmi_check.specs.Performance.{IsDatumOf}
use Rattle.ipmi_check.proofs.performance.push_all.Given as goal

-- The data of the sensors so far.
abbrev pub invariant-loop-sensor : goal.invariant-loop-sensor
invariant-loop-sensor l = Appends (AreTexts IsDatumOf (take l.sensor-index l.found)) l.fn.text.items l.text.items
