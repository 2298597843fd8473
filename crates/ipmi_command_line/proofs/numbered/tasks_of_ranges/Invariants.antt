-- So far each range before this one has its tasks.
use Rattle.std.proofs.Common.{◌≡◌, flat_map, take}
use Rattle.ipmi_command_line.specs.Numbered.{tasks_in}
use Rattle.ipmi_command_line.proofs.numbered.tasks_of_ranges.Given as goal

abbrev pub invariant-loop-range : goal.invariant-loop-range
invariant-loop-range l = l.tasks.items ≡ flat_map (tasks_in l.kind) (take l.range-index l.ranges)
