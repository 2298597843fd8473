-- What is printed by its number: entries of the event log by their record ids, and inventories by their device ids.
use Rattle.std.specs.Prelude.{ℕ, ◌+◌, ◌-◌, ◌&&◌, Bool, List, Option, Some, None, option_map, is_some, map, flat_map, nat_le, if◌then◌else◌}
use Rattle.std.specs.List.{filter_map, list_all, range_with_len}
use Rattle.clap.specs.Words.{Text}
use Rattle.ipmi_command_line.specs.Filters.{ids_of}
use Rattle.ipmi_command_line.specs.Number.{number_of, within}
use Rattle.ipmi_command_line.specs.declared.filters.IdRange.{IdRange}
use Rattle.ipmi_command_line.specs.declared.numbered.Numbered.{Numbered}
use Rattle.ipmi_command_line.specs.declared.task.Task.{Task}

abbrev pub lowest : Numbered → ℕ
lowest Numbered.Entry = 1
lowest Numbered.Inventory = 0

abbrev pub highest : Numbered → ℕ
highest Numbered.Entry = 65534
highest Numbered.Inventory = 254

abbrev pub task_numbered : Numbered → ℕ → Task
task_numbered Numbered.Entry number = Task.SelGet number
task_numbered Numbered.Inventory number = Task.Fru (Some number)

-- ---- words, each a number

abbrev pub task_of_word : Numbered → Text → Option Task
task_of_word kind word = option_map (task_numbered kind) (within (lowest kind) (highest kind) (number_of word))

abbrev pub is_number : Numbered → Text → Bool
is_number kind word = is_some (task_of_word kind word)

abbrev pub tasks_of_words : Numbered → List Text → Option (List Task)
tasks_of_words kind words =
    if list_all (is_number kind) words then Some (filter_map (task_of_word kind) words) else None

-- ---- `--id`: numbers and ranges of numbers, in hex

-- the numbers of a range, from the first to the last
abbrev pub numbers_in : IdRange → List ℕ
numbers_in range = range_with_len range.first (range.last + 1 - range.first)

abbrev pub is_in_range : Numbered → IdRange → Bool
is_in_range kind range = nat_le (lowest kind) range.first && nat_le range.last (highest kind)

abbrev pub tasks_in : Numbered → IdRange → List Task
tasks_in kind range = map (task_numbered kind) (numbers_in range)

abbrev pub tasks_of_ranges : Numbered → Option (List IdRange) → Option (List Task)
tasks_of_ranges kind None = None
tasks_of_ranges kind (Some ranges) =
    if list_all (is_in_range kind) ranges then Some (flat_map (tasks_in kind) ranges) else None

abbrev pub tasks_of_ids : Numbered → Text → Option (List Task)
tasks_of_ids kind text = tasks_of_ranges kind (ids_of text)
