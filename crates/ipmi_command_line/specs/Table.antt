-- The table of commands: the task for the words of a command line. There is a function for each
-- number of words, with a line for each command.
use Rattle.std.specs.Prelude.{ℕ, Bool, ◌&&◌, List, [], ◌∷◌, zero, suc, Option, Some, None, option_map, codes, if◌then◌else◌, bytes_eq}
use Rattle.std.specs.Borrow.{Bor}
use Rattle.ipmi_bus.specs.declared.controller.Shelf.{Shelf}
use Rattle.ipmi_command_line.specs.declared.task.Count.{Count}
use Rattle.ipmi_command_line.specs.declared.task.Kind.{Kind}
use Rattle.ipmi_command_line.specs.declared.task.Task.{Task}
use Rattle.ipmi_command_line.specs.Number.{number_of, within}

-- the first two words of a command are these
abbrev pub are : List ℕ → List ℕ → List ℕ → List ℕ → Bool
are a b first second = bytes_eq a first && bytes_eq b second

-- ---- the last word of a command

-- a row of the table of kinds in the program: a word, and the kind that it names
abbrev pub KindRow : Type 0
KindRow = Bor (List ℕ) × Kind

-- the kind that a word names by a table
abbrev pub kind_among : List KindRow → List ℕ → Option Kind
kind_among [] word = None
kind_among (row ∷ table) word = if bytes_eq word row.0.now then Some row.1 else kind_among table word

-- a kind of sensor data record
abbrev pub kind_of : List ℕ → Option Kind
kind_of word =
    if bytes_eq word (codes "all") then Some Kind.All
    else (if bytes_eq word (codes "full") then Some Kind.Full
    else (if bytes_eq word (codes "compact") then Some Kind.Compact
    else (if bytes_eq word (codes "event") then Some Kind.Event
    else (if bytes_eq word (codes "generic") then Some Kind.Generic
    else (if bytes_eq word (codes "mclocator") then Some Kind.Mc
    else (if bytes_eq word (codes "fru") then Some Kind.Fru
    else None))))))

-- the n oldest entries of the event log; 0 means all entries
abbrev pub oldest : ℕ → Count
oldest zero = Count.All
oldest (suc n) = Count.First (suc n)

-- the n newest entries; 0 means all entries
abbrev pub newest : ℕ → Count
newest zero = Count.All
newest (suc n) = Count.Last (suc n)

abbrev pub inventory_of : List ℕ → Option Task
inventory_of word = option_map (λ id. Task.Fru (Some id)) (within 0 254 (number_of word))

-- list this many entries
abbrev pub entries_of : (ℕ → Count) → List ℕ → Option Task
entries_of listed word = option_map (λ n. Task.SelList (listed n)) (within 0 65535 (number_of word))

-- ---- the rows

abbrev pub task_of_one : List ℕ → Option Task
task_of_one a =
    if bytes_eq a (codes "fru") then Some (Task.Fru None)
    else (if bytes_eq a (codes "sdr") then Some (Task.List Kind.Sensors)
    else (if bytes_eq a (codes "sel") then Some (Task.Info Shelf.Sel)
    else None))

abbrev pub task_of_two : List ℕ → List ℕ → Option Task
task_of_two a b =
    if are a b (codes "fru") (codes "print") then Some (Task.Fru None)
    else (if are a b (codes "sdr") (codes "list") then Some (Task.List Kind.Sensors)
    else (if are a b (codes "sdr") (codes "elist") then Some (Task.Elist Kind.Sensors)
    else (if are a b (codes "sdr") (codes "hex") then Some Task.Hex
    else (if are a b (codes "sdr") (codes "info") then Some (Task.Info Shelf.Sdr)
    else (if are a b (codes "sel") (codes "info") then Some (Task.Info Shelf.Sel)
    else (if are a b (codes "sel") (codes "list") then Some (Task.SelList Count.All)
    else (if are a b (codes "image") (codes "rewrite") then Some Task.Rewrite
    else None)))))))

abbrev pub task_of_three : List ℕ → List ℕ → List ℕ → Option Task
task_of_three a b c =
    if are a b (codes "fru") (codes "print") then inventory_of c
    else (if are a b (codes "sdr") (codes "list") then option_map (λ kind. Task.List kind) (kind_of c)
    else (if are a b (codes "sdr") (codes "elist") then option_map (λ kind. Task.Elist kind) (kind_of c)
    else (if are a b (codes "sdr") (codes "get") then Some (Task.Get c)
    else (if are a b (codes "sel") (codes "list") then entries_of oldest c
    else (if are a b (codes "sel") (codes "get") then option_map (λ id. Task.SelGet id) (within 1 65534 (number_of c))
    else None)))))

abbrev pub task_of_four : List ℕ → List ℕ → List ℕ → List ℕ → Option Task
task_of_four a b c d =
    if are a b (codes "sel") (codes "list") && bytes_eq c (codes "first") then entries_of oldest d
    else (if are a b (codes "sel") (codes "list") && bytes_eq c (codes "last") then entries_of newest d
    else None)

-- no words mean `sdr hex`; more than four words are not a command
abbrev pub task_of : List (List ℕ) → Option Task
task_of [] = Some Task.Hex
task_of (a ∷ []) = task_of_one a
task_of (a ∷ b ∷ []) = task_of_two a b
task_of (a ∷ b ∷ c ∷ []) = task_of_three a b c
task_of (a ∷ b ∷ c ∷ d ∷ []) = task_of_four a b c d
task_of (a ∷ b ∷ c ∷ d ∷ e ∷ words) = None
