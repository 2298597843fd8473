use Rattle.std.proofs.Common.{arith}
use Rattle.ipmi_command_line.proofs.FilterLemmas.{no_ids, some_ids}
use Rattle.ipmi_command_line.proofs.filters.ids_of.Goals as goal

pub returns-then-not-are_ranges : goal.returns-then-not-are_ranges
returns-then-not-are_ranges c = no_ids c.args.text.now _ c.in_ok-parts.ensures (grind (arith, c.are_ranges.ensures, c.as_slice.ensures.value, c.if-not-are_ranges.true))

pub returns : goal.returns
returns c = some_ids c.args.text.now _ _ c.in_ok-parts.ensures (grind (arith, c.are_ranges.ensures, c.as_slice.ensures.value, c.if-not-are_ranges.false))
    (grind (arith, c.in_ok-ranges.ensures, c.as_slice-2.ensures.value))
