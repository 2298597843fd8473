use Rattle.std.proofs.Common.{◌≡◌, ◌+◌, ◌-◌, ◌*◌, ◌/◌, ◌≤◌, ◌++◌, drop, length}
use Rattle.ipmi_raw.specs.Words.{words_from}
use Rattle.ipmi_command_tests.proofs.raw.printed.push_words.Given as goal

abbrev pub invariant-loop-i : goal.invariant-loop-i
invariant-loop-i l =
    (l.text.items ++ words_from l.tool l.i (drop l.i l.bytes) ≡ l.fn.text.items ++ words_from l.tool 0 l.bytes)
    × (length l.text.items ≤ length l.fn.text.items + 3 * l.i + (l.i - 1) / 16)
