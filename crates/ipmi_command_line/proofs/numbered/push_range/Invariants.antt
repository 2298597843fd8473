-- So far each number before this one has its task.
use Rattle.std.proofs.Common.{◌≡◌, ◌++◌, ◌+◌, ◌-◌, ◌≤◌, map}
use Rattle.std.specs.List.{range_with_len}
use Rattle.ipmi_command_line.specs.Numbered.{task_numbered}
use Rattle.ipmi_command_line.proofs.numbered.push_range.Given as goal

abbrev pub invariant-loop-number : goal.invariant-loop-number
invariant-loop-number l = (l.range.first ≤ l.number)
    × (l.number - l.range.first ≤ l.range.last + 1 - l.range.first)
    × (l.tasks.items ≡ l.initial.tasks.items ++ map (task_numbered l.kind) (range_with_len l.range.first (l.number - l.range.first)))
