-- The digit is none of the lower ones.
use Rattle.std.proofs.Common.{ℕ, ◌≢◌, ◌<◌, slice_index}
use Rattle.ipmi_raw.specs.Words.{digits}
use Rattle.ipmi_raw.proofs.words.digit_value.Given as goal

abbrev pub invariant-loop-value : goal.invariant-loop-value
invariant-loop-value l = (k : ℕ) → k < l.value → slice_index (digits l.fn.tool) k ≢ l.digit
