-- Tasks of numbers: of words, and of ranges.
use Rattle.std.proofs.Common.{◌≡◌, ◌∙◌, ◌&&◌, ◌≤◌, ◌+◌, ◌-◌, ◌<◌, ℕ, ap, append_assoc, arith, refl, subst, sym, true, false, Bool, Bor, cond, List, [], ◌∷◌, ◌++◌, map, Option, Some, None, option_map, IfSome, flat_map, nat_le, if◌then◌else◌}
use Rattle.std.proofs.lemmas.Bool.Decides.{nat_tests}
use Rattle.std.proofs.lemmas.List.FromFn.{get_or-map-range_with_len, length-map-range_with_len, map-range_with_len_more}
use Rattle.std.specs.List.{All, cons_option, filter_map, list_all, range_with_len}
use Rattle.std.proofs.lemmas.Bool.{and_parts}
use Rattle.std.proofs.lemmas.List.Elements.{All-append, All-cons, All-nil}
use Rattle.clap.specs.Words.{Text}
use Rattle.ipmi_command_line.proofs.FilterLemmas.{all_of_texts, those_of_texts}
use Rattle.ipmi_command_line.specs.Command.{IsTask}
use Rattle.ipmi_command_line.specs.Commands.{texts}
use Rattle.ipmi_command_line.specs.Number.{number_of, within}
use Rattle.ipmi_command_line.specs.Numbered.{highest, is_in_range, is_number, lowest, task_numbered, task_of_word, tasks_in, tasks_of_words}
use Rattle.ipmi_command_line.specs.declared.filters.IdRange.{IdRange}
use Rattle.ipmi_command_line.specs.declared.numbered.Numbered.{Numbered}
use Rattle.ipmi_command_line.specs.declared.task.Task.{Task}

chosen : (kind : Numbered) (words : List Text) (b : Bool) → list_all (is_number kind) words ≡ b
    → tasks_of_words kind words ≡ cond b (Some (filter_map (task_of_word kind) words)) None
chosen kind words b is = rw is refl

pub no_tasks : (kind : Numbered) (words : List (Bor Text)) → list_all (λ word. is_number kind word.now) words ≡ false
    → None ≡ tasks_of_words kind (texts words)
no_tasks kind words none = sym (chosen kind (texts words) false (sym (all_of_texts (is_number kind) words) ∙ none))

pub some_tasks : (kind : Numbered) (words : List (Bor Text)) (tasks : List Task) → list_all (λ word. is_number kind word.now) words ≡ true
    → tasks ≡ filter_map (λ word. task_of_word kind word.now) words → Some tasks ≡ tasks_of_words kind (texts words)
some_tasks kind words tasks all is =
    ap (λ (t : List Task). Some t) (is ∙ those_of_texts (task_of_word kind) words)
    ∙ sym (chosen kind (texts words) true (sym (all_of_texts (is_number kind) words) ∙ all))

-- ---- each task is in its range

is_task : (kind : Numbered) (n : ℕ) → lowest kind ≤ n → n ≤ highest kind → IsTask (task_numbered kind n)
is_task Numbered.Entry n low high = (low, high)
is_task Numbered.Inventory n low high = high

kept : (kind : Numbered) (n : ℕ) (b : Bool) → (nat_le (lowest kind) n && nat_le n (highest kind)) ≡ b
    → IfSome (option_map (task_numbered kind) (if b then Some n else None)) IsTask
kept kind n false is = tt
kept kind n true is =
    let both = and_parts (nat_le (lowest kind) n) (nat_le n (highest kind)) is in
    is_task kind n (grind (arith, nat_tests, both.0)) (grind (arith, nat_tests, both.1))

read_task : (kind : Numbered) (n : Option ℕ) → IfSome (option_map (task_numbered kind) (within (lowest kind) (highest kind) n)) IsTask
read_task kind None = tt
read_task kind (Some n) = kept kind n _ refl

with_task : (task : Option Task) (tasks : List Task) → IfSome task IsTask → All IsTask tasks → All IsTask (cons_option task tasks)
with_task None tasks is all = all
with_task (Some task) tasks is all = All-cons IsTask task tasks is all

tasks_read : (kind : Numbered) (words : List (Bor Text)) → All IsTask (filter_map (λ word. task_of_word kind word.now) words)
tasks_read kind [] = All-nil IsTask
tasks_read kind (word ∷ words) = with_task _ _ (read_task kind (number_of word.now)) (tasks_read kind words)

pub tasks_of_words_are : (kind : Numbered) (words : List (Bor Text)) (tasks : List Task)
    → tasks ≡ filter_map (λ word. task_of_word kind word.now) words → All IsTask tasks
tasks_of_words_are kind words tasks is = subst (All IsTask) (sym is) (tasks_read kind words)

range_is : (kind : Numbered) (range : IdRange) → is_in_range kind range ≡ true → All IsTask (tasks_in kind range)
range_is kind range is k d lt =
    let both = and_parts (nat_le (lowest kind) range.first) (nat_le range.last (highest kind)) is in
    let low : lowest kind ≤ range.first = grind (arith, nat_tests, both.0) in
    let high : range.last ≤ highest kind = grind (arith, nat_tests, both.1) in
    let few : k < range.last + 1 - range.first = subst (λ (n : ℕ). k < n) (length-map-range_with_len (task_numbered kind) range.first (range.last + 1 - range.first)) lt in
    subst IsTask (sym (get_or-map-range_with_len (task_numbered kind) range.first (range.last + 1 - range.first) k (range.first + k) d few refl))
    (is_task kind (range.first + k) (omega (arith, low)) (omega (arith, high, few)))

pub tasks_of_ranges_are : (kind : Numbered) (ranges : List IdRange) → list_all (is_in_range kind) ranges ≡ true
    → All IsTask (flat_map (tasks_in kind) ranges)
tasks_of_ranges_are kind [] is = All-nil IsTask
tasks_of_ranges_are kind (range ∷ ranges) is =
    let both = and_parts (is_in_range kind range) (list_all (is_in_range kind) ranges) is in
    All-append IsTask (tasks_in kind range) (flat_map (tasks_in kind) ranges) (range_is kind range both.0) (tasks_of_ranges_are kind ranges both.1)

-- ---- a range, number by number

pub one_more : (f : ℕ → Task) (before items : List Task) (first number : ℕ) → first ≤ number
    → items ≡ before ++ map f (range_with_len first (number - first))
    → items ++ f number ∷ [] ≡ before ++ map f (range_with_len first (number + 1 - first))
one_more f before items first number le is =
    let next : number + 1 - first ≡ (number - first) + 1 = omega (arith, le) in
    let at : first + (number - first) ≡ number = omega (arith, le) in
    ap (λ (items : List Task). items ++ f number ∷ []) is
    ∙ append_assoc before (map f (range_with_len first (number - first))) (f number ∷ [])
    ∙ ap (λ (more : List Task). before ++ more) (sym (map-range_with_len_more f first (number - first) number at))
    ∙ ap (λ (n : ℕ). before ++ map f (range_with_len first n)) (sym next)
