-- The meaning of a command line.
use Rattle.std.specs.Prelude.{◌≤◌, ◌==◌, ℕ, length, ◌&&◌, not, List, Option, Some, None, option_map, is_some, Result, Ok, Err, ⊤, codes, IfSome, OnSome, IsTrue, if◌then◌else◌}
use Rattle.clap.specs.Words.{Row, first_of}
use Rattle.ipmi_command_line.specs.declared.task.Count.{Count}
use Rattle.ipmi_command_line.specs.declared.task.Task.{Task}
use Rattle.ipmi_command_line.specs.declared.command.UsageFault.{UsageFault}
use Rattle.ipmi_command_line.specs.Arguments.{is_reference, is_taken, rows_of_words}
use Rattle.ipmi_command_line.specs.Values.{free_words}
use Rattle.ipmi_command_line.specs.Number.{decimal_of, digits_of, within}
use Rattle.ipmi_command_line.specs.Table.{task_of}
use Rattle.ipmi_command_line.specs.Task.{takes_from}

-- a command as contracts see it
pub record CommandState : Type 0 where
  pub task : Task
  pub from : Option ℕ
  pub part : ℕ
  pub tries : ℕ
  pub image : Option (List ℕ)

-- ---- the ranges

abbrev pub IsCount : Count → Type 0
IsCount Count.All = ⊤
IsCount (Count.First n) = 1 ≤ n
IsCount (Count.Last n) = 1 ≤ n
IsCount (Count.Tail n) = 1 ≤ n

abbrev pub IsTask : Task → Type 0
IsTask (Task.Fru id) = IfSome id (λ n. n ≤ 254)
IsTask (Task.SelList entries) = IsCount entries
IsTask (Task.SelGet id) = (1 ≤ id) × (id ≤ 65534)
IsTask _ = ⊤

pub record IsCommand (task : Task) (from : Option ℕ) (part : ℕ) : Type 0 where
  pub in_range : IsTask task
  pub part_low : 1 ≤ part
  pub part_high : part ≤ 254
  pub from_low : IfSome from (λ id. 1 ≤ id)
  pub from_high : IfSome from (λ id. id ≤ 65534)
  pub taken : OnSome from (IsTrue (takes_from task))

-- ---- the options

-- Some None without `--from`; None if its text is not four hex digits from 0001 to FFFE
abbrev pub start_of_text : Option (List ℕ) → Option (Option ℕ)
start_of_text None = Some None
start_of_text (Some text) =
    if length text == 4 then option_map (λ id. Some id) (within 1 65534 (digits_of 16 text)) else None

-- the number of an option, in decimal, or its default if the option is not given; None if malformed
-- or out of range
abbrev pub number_or : ℕ → ℕ → ℕ → Option (List ℕ) → Option ℕ
number_or default low high None = Some default
number_or default low high (Some text) = within low high (decimal_of text)

-- a task with its options `--from`, `--part` and `--tries`; only a task that takes an id to start
-- from may have one
abbrev pub with_options : Option (List ℕ) → Task → Option (Option ℕ) → Option ℕ → Option ℕ
    → Result CommandState UsageFault
with_options image task (Some from) (Some part) (Some tries) =
    if is_some from && not (takes_from task) then Err UsageFault.Option
    else Ok (record { task = task; from = from; part = part; tries = tries; image = image })
with_options image task from part tries = Err UsageFault.Option

-- ---- the command

abbrev pub command_of_task : List Row → Option Task → Result CommandState UsageFault
command_of_task rows None = Err UsageFault.Command
command_of_task rows (Some task) = with_options (first_of (codes "image") rows) task
    (start_of_text (first_of (codes "from") rows))
    (number_or 32 1 254 (first_of (codes "part") rows))
    (number_or 5 0 255 (first_of (codes "tries") rows))

-- the meaning of the words; the first is the program's name; each other option, and a second image,
-- is a fault of the line
unfoldable pub meaning_of : List (List ℕ) → Result CommandState UsageFault
meaning_of words = if is_taken words && is_reference (rows_of_words words)
    then command_of_task (rows_of_words words) (task_of (free_words (rows_of_words words)))
    else Err UsageFault.Line
