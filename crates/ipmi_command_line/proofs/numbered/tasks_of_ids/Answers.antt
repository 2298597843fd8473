use Rattle.std.proofs.Common.{All, ◌∙◌, arith, subst, sym}
use Rattle.ipmi_command_line.specs.Command.{IsTask}
use Rattle.ipmi_command_line.proofs.NumberedLemmas.{tasks_of_ranges_are}
use Rattle.ipmi_command_line.proofs.numbered.tasks_of_ids.Goals as goal

pub returns-clause-range : goal.returns-clause-range
returns-clause-range c = subst (All IsTask) (sym (c.new.ensures ∙ c.in_ok-tasks_of_ranges.ensures))
    (tasks_of_ranges_are c.args.kind c.as_slice-2.result.now
    (grind (arith, c.are_in_range.ensures, c.if-not-are_in_range.false, c.as_slice.ensures, c.as_slice-2.ensures)))
