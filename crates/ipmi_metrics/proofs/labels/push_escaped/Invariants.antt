use Rattle.std.proofs.Common.{◌≡◌, ◌++◌, string_bytes}
use lib.Utf8.{encodes}
use Rattle.ipmi_metrics.specs.Labels.{escaped}
use Rattle.ipmi_metrics.proofs.labels.push_escaped.Given as goal

-- The characters so far.
abbrev pub invariant-loop-character : goal.invariant-loop-character
invariant-loop-character l = string_bytes l.text ≡ string_bytes l.fn.text ++ escaped (encodes l.yielded)
