-- The table of commands: words as `starts_with` compares them, and rows as `find` finds them.
use Rattle.std.proofs.Common.{◌≡◌, ◌≤◌, ◌<◌, ◌∙◌, ap, arith, refl, List, [], ◌∷◌, Bool, true, false, Bor, bytes_eq, ◌&&◌, ◌||◌, codes, get_or, if◌then◌else◌, length, map, Option, None, Some, option_map, unwrap_or}
use Rattle.std.specs.List.{cons_option, filter_map, find, list_any, starts_with}
use Rattle.clap.proofs.WalkLemmas.{find-map}
use Rattle.clap.specs.Words.{Text, Row as Found}
use Rattle.ipmi_command_line.specs.Options.{OptionRow, OptionState, option_state}
use Rattle.ipmi_command_line.specs.Request.{asks_for_types, events_of, has_option, help_of, named_of, records_named, start_of, tail_of, topic_named, topic_of}
use Rattle.ipmi_command_line.specs.Number.{number_of, within}
use Rattle.ipmi_command_line.specs.Table.{entries_of, oldest, task_of_four}
use Rattle.ipmi_command_line.specs.declared.request.Topic.{Topic}
use Rattle.ipmi_command_line.specs.declared.task.Count.{Count}
use Rattle.ipmi_command_line.specs.declared.task.Task.{Task}
use Rattle.ipmi_command_line.specs.Commands.{RowState, Row, begins_with, row_among, row_state, texts}

pub begins_with_is : (words own : List (Bor Text)) → starts_with (λ a b. bytes_eq a.now b.now) words own ≡ begins_with (texts words) (texts own)
begins_with_is words [] = refl
begins_with_is [] (first ∷ more) = refl
begins_with_is (word ∷ words) (first ∷ more) = ap (λ b. bytes_eq first.now word.now && b) (begins_with_is words more)

state_of_found : (r : Option (Bor Row)) → option_map (λ row. row_state row.now) r ≡ option_map row_state (option_map (λ row. row.now) r)
state_of_found None = refl
state_of_found (Some row) = refl

pub row_found : (r : Option (Bor Row)) (words : List Text) (table : List Row)
    → option_map (λ row. row.now) r ≡ find (λ row. begins_with words (row_state row).words) table
    → option_map (λ row. row_state row.now) r ≡ row_among (map row_state table) words
row_found r words table found = state_of_found r ∙ ap (option_map row_state) found
    ∙ find-map (λ (row : RowState). begins_with words row.words) row_state table

-- `contains` of a text among texts
pub has_option_is : (options : List (Bor Text)) (name : Text)
    → list_any (λ y. bytes_eq y.now name) options ≡ has_option (texts options) name
has_option_is [] name = refl
has_option_is (option ∷ options) name = ap (λ b. bytes_eq option.now name || b) (has_option_is options name)

-- ---- the table of options: rows as `find` and `filter_map` find them

name_of : (r : Option (Bor OptionRow)) → option_map (λ (row : Bor OptionRow). row.now.0.now) r
    ≡ option_map (λ (row : OptionRow). row.0.now) (option_map (λ (row : Bor OptionRow). row.now) r)
name_of None = refl
name_of (Some row) = refl

state_name : (r : Option OptionRow) → option_map (λ (row : OptionRow). row.0.now) r
    ≡ option_map (λ (option : OptionState). option.name) (option_map option_state r)
state_name None = refl
state_name (Some row) = refl

pub option_found : (passes : OptionState → Bool) (r : Option (Bor OptionRow)) (table : List OptionRow)
    → option_map (λ row. row.now) r ≡ find (λ (row : OptionRow). passes (option_state row)) table
    → option_map (λ (row : Bor OptionRow). row.now.0.now) r ≡ option_map (λ option. option.name) (find passes (map option_state table))
option_found passes r table found =
    name_of r ∙ ap (option_map (λ (row : OptionRow). row.0.now)) found ∙ state_name (find (λ (row : OptionRow). passes (option_state row)) table)
    ∙ ap (option_map (λ (option : OptionState). option.name)) (find-map passes option_state table)

pub filter_map-map : {A B C : Type 0} (f : B → Option C) (h : A → B) (xs : List A) → filter_map (λ x. f (h x)) xs ≡ filter_map f (map h xs)
filter_map-map f h [] = refl
filter_map-map f h (x ∷ xs) = ap (cons_option (f (h x))) (filter_map-map f h xs)

-- ---- the words of `sel elist`

pub no_word_of_events : (words : List (Bor Text)) → length words < 2 → None ≡ events_of (texts words)
no_word_of_events [] h = refl
no_word_of_events (a ∷ []) h = refl
no_word_of_events _ h = absurd (omega arith)

pub two_words_of_events : (words : List (Bor Text)) → 2 ≤ length words → length words < 3
    → Some (Task.SelList Count.All) ≡ events_of (texts words)
two_words_of_events (a ∷ b ∷ []) h l = refl
two_words_of_events _ h l = absurd (omega arith)

pub three_words_of_events : (words : List (Bor Text)) (e : Bor Text) → 3 ≤ length words → length words < 4
    → entries_of oldest (get_or words 2 e).now ≡ events_of (texts words)
three_words_of_events (a ∷ b ∷ c ∷ []) e h l = refl
three_words_of_events _ e h l = absurd (omega arith)

pub four_words_of_events : (words : List (Bor Text)) (e f : Bor Text) → 4 ≤ length words → length words < 5
    → task_of_four (codes "sel") (codes "list") (get_or words 2 e).now (get_or words 3 f).now ≡ events_of (texts words)
four_words_of_events (a ∷ b ∷ c ∷ d ∷ []) e f h l = refl
four_words_of_events _ e f h l = absurd (omega arith)

pub many_words_of_events : (words : List (Bor Text)) → 5 ≤ length words → None ≡ events_of (texts words)
many_words_of_events (a ∷ b ∷ c ∷ d ∷ e ∷ words) h = refl
many_words_of_events _ h = absurd (omega arith)

pub ruleset events = (no_word_of_events, two_words_of_events, three_words_of_events, four_words_of_events, many_words_of_events)

-- ---- the words of `sel tail`

pub few_words_of_tail : (words : List (Bor Text)) → length words < 3 → None ≡ tail_of (texts words)
few_words_of_tail [] h = refl
few_words_of_tail (a ∷ []) h = refl
few_words_of_tail (a ∷ b ∷ []) h = refl
few_words_of_tail _ h = absurd (omega arith)

pub three_words_of_tail : (words : List (Bor Text)) (e : Bor Text) → 3 ≤ length words → length words < 4
    → option_map (λ n. Task.SelList (Count.Tail n)) (within 1 65535 (number_of (get_or words 2 e).now)) ≡ tail_of (texts words)
three_words_of_tail (a ∷ b ∷ c ∷ []) e h l = refl
three_words_of_tail _ e h l = absurd (omega arith)

pub many_words_of_tail : (words : List (Bor Text)) → 4 ≤ length words → None ≡ tail_of (texts words)
many_words_of_tail (a ∷ b ∷ c ∷ d ∷ words) h = refl
many_words_of_tail _ h = absurd (omega arith)

pub ruleset tails = (few_words_of_tail, three_words_of_tail, many_words_of_tail)

-- ---- the words beside `--help`

pub one_word_of_topic : (words : List (Bor Text)) (e : Bor Text) → 1 ≤ length words → length words < 2
    → unwrap_or (topic_named (get_or words 0 e).now) Topic.General ≡ topic_of (texts words)
one_word_of_topic (a ∷ []) e h l = refl
one_word_of_topic _ e h l = absurd (omega arith)

pub two_words_of_topic : (words : List (Bor Text)) (e f : Bor Text) → 2 ≤ length words
    → unwrap_or (topic_named (if bytes_eq (get_or words 0 e).now (codes "help") then (get_or words 1 f).now else (get_or words 0 e).now)) Topic.General
    ≡ topic_of (texts words)
two_words_of_topic (a ∷ b ∷ words) e f h = refl
two_words_of_topic _ e f h = absurd (omega arith)

pub ruleset topics = (one_word_of_topic, two_words_of_topic)

-- ---- the words after `help`

pub no_word_of_help : (words : List (Bor Text)) → length words < 2 → Some Topic.General ≡ help_of (texts words)
no_word_of_help [] h = refl
no_word_of_help (a ∷ []) h = refl
no_word_of_help _ h = absurd (omega arith)

pub word_of_help : (words : List (Bor Text)) (e : Bor Text) → 2 ≤ length words
    → topic_named (get_or words 1 e).now ≡ help_of (texts words)
word_of_help (a ∷ b ∷ words) e h = refl
word_of_help _ e h = absurd (omega arith)

pub ruleset helps = (no_word_of_help, word_of_help)

-- ---- the words of `sdr type`

pub asks_none : (words : List (Bor Text)) → length words < 2 → false ≡ asks_for_types (texts words)
asks_none [] h = refl
asks_none (a ∷ []) h = refl
asks_none _ h = absurd (omega arith)

pub asks_two : (words : List (Bor Text)) → 2 ≤ length words → length words < 3 → true ≡ asks_for_types (texts words)
asks_two (a ∷ b ∷ []) h l = refl
asks_two _ h l = absurd (omega arith)

pub asks_three : (words : List (Bor Text)) (e : Bor Text) → 3 ≤ length words → length words < 4
    → bytes_eq (get_or words 2 e).now (codes "list") ≡ asks_for_types (texts words)
asks_three (a ∷ b ∷ c ∷ []) e h l = refl
asks_three _ e h l = absurd (omega arith)

pub asks_more : (words : List (Bor Text)) → 4 ≤ length words → false ≡ asks_for_types (texts words)
asks_more (a ∷ b ∷ c ∷ d ∷ words) h = refl
asks_more _ h = absurd (omega arith)

pub ruleset asks = (asks_none, asks_two, asks_three, asks_more)

-- ---- names

pub not_one_name : (words : List (Bor Text)) (rows : List Found) → (length words ≡ 3 → ⊥) → records_named (texts words) rows ≡ named_of (texts words) (start_of rows)
not_one_name [] rows h = refl
not_one_name (a ∷ []) rows h = refl
not_one_name (a ∷ b ∷ []) rows h = refl
not_one_name (a ∷ b ∷ c ∷ []) rows h = absurd (h refl)
not_one_name (a ∷ b ∷ c ∷ d ∷ words) rows h = refl
