use Rattle.std.proofs.Common.{string_bytes, take}
use Rattle.ipmi_text.specs.Appended.{Appends}
use Rattle.ipmi_check.specs.Text.{AreLines}
use Rattle.ipmi_check.proofs.text.push_lines.Given as goal

-- The lines of the sensors so far.
abbrev pub invariant-loop-sensor : goal.invariant-loop-sensor
invariant-loop-sensor l = Appends (AreLines l.lacks (take l.sensor-index l.found)) (string_bytes l.fn.text) (string_bytes l.text)
