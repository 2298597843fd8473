-- The rows of the table, by the number of words; and kinds of sensor data records.
use Rattle.std.proofs.Common.{◌≡◌, ◌≤◌, ◌<◌, ◌∙◌, ap, Bool, true, false, bytes_eq, if◌then◌else◌, List, ◌∷◌, [], Option, None, Some, option_map, Bor, arith, get_or, length, map, refl}
use Rattle.std.specs.List.{find}
use Rattle.clap.specs.Words.{Text}
use Rattle.ipmi_command_line.specs.declared.task.Kind.{Kind}
use Rattle.ipmi_command_line.specs.Table.{KindRow, kind_among, task_of, task_of_four, task_of_one, task_of_three, task_of_two}

-- ---- kinds

kind_if : (is : Bool) (row : KindRow) (r : Option KindRow) (k : Option Kind) → option_map (λ (row : KindRow). row.1) r ≡ k
    → option_map (λ (row : KindRow). row.1) (if is then Some row else r) ≡ (if is then Some row.1 else k)
kind_if true row r k h = refl
kind_if false row r k h = h

kind_of_row : (word : Text) (table : List KindRow)
    → option_map (λ (row : KindRow). row.1) (find (λ (row : KindRow). bytes_eq word row.0.now) table) ≡ kind_among table word
kind_of_row word [] = refl
kind_of_row word (row ∷ table) = kind_if (bytes_eq word row.0.now) row _ _ (kind_of_row word table)

row_read : (r : Option (Bor KindRow))
    → option_map (λ (row : Bor KindRow). row.now.1) r ≡ option_map (λ (row : KindRow). row.1) (option_map (λ (row : Bor KindRow). row.now) r)
row_read None = refl
row_read (Some row) = refl

-- a row that `find` gives
pub kind_found : (word : Text) (r : Option (Bor KindRow)) (table : List KindRow)
    → option_map (λ (row : Bor KindRow). row.now) r ≡ find (λ (row : KindRow). bytes_eq word row.0.now) table
    → option_map (λ (row : Bor KindRow). row.now.1) r ≡ kind_among table word
kind_found word r table found = row_read r ∙ ap (option_map (λ (row : KindRow). row.1)) found ∙ kind_of_row word table

-- ---- tasks

pub one_word : (words : List (Bor Text)) (e : Bor Text) → 1 ≤ length words → length words < 2
    → task_of_one (get_or words 0 e).now ≡ task_of (map (λ word. word.now) words)
one_word (a ∷ []) e h l = refl
one_word _ e h l = absurd (omega arith)

pub two_words : (words : List (Bor Text)) (e f : Bor Text) → 2 ≤ length words → length words < 3
    → task_of_two (get_or words 0 e).now (get_or words 1 f).now
    ≡ task_of (map (λ word. word.now) words)
two_words (a ∷ b ∷ []) e f h l = refl
two_words _ e f h l = absurd (omega arith)

pub three_words : (words : List (Bor Text)) (e f g : Bor Text) → 3 ≤ length words → length words < 4
    → task_of_three (get_or words 0 e).now (get_or words 1 f).now (get_or words 2 g).now
    ≡ task_of (map (λ word. word.now) words)
three_words (a ∷ b ∷ c ∷ []) e f g h l = refl
three_words _ e f g h l = absurd (omega arith)

pub four_words : (words : List (Bor Text)) (e f g i : Bor Text) → 4 ≤ length words → length words < 5
    → task_of_four (get_or words 0 e).now (get_or words 1 f).now (get_or words 2 g).now
    (get_or words 3 i).now
    ≡ task_of (map (λ word. word.now) words)
four_words (a ∷ b ∷ c ∷ d ∷ []) e f g i h l = refl
four_words _ e f g i h l = absurd (omega arith)

-- the table has no row of five words or more
pub too_many : (words : List (Bor Text)) → 5 ≤ length words
    → None ≡ task_of (map (λ word. word.now) words)
too_many (a ∷ b ∷ c ∷ d ∷ e ∷ words) h = refl
too_many _ h = absurd (omega arith)

pub ruleset rows = (one_word, two_words, three_words, four_words, too_many)
