-- Each line that the reference program takes is the same request: the words name a row of the table, and no other option is given.
use Rattle.std.specs.Bool.{⊤}
use Rattle.std.specs.List.{filter_map, find, list_any}
use Rattle.std.specs.Option.{option_and_then}
use Rattle.std.proofs.lemmas.Bool.{false≢true, true≢false}
use Rattle.std.proofs.lemmas.Bool.Decides.{nat_tests}
use Rattle.std.specs.Result.{result_ok}
use Rattle.std.proofs.Common.{◌||◌, ◌==◌, Result, Ok, Err, is_some, nat_le, slice_get, ◌≡◌, ◌∙◌, ◌&&◌, ℕ, ap, sym, refl, subst, arith, Bool, true, false, not, List, [], ◌∷◌, Option, Some, None, option_map, bytes_eq, codes, length, if◌then◌else◌, unwrap_or}
use Rattle.std.proofs.lemmas.Bool.{and_parts}
use Rattle.std.proofs.lemmas.Option.{none-some}
use Rattle.std.proofs.lemmas.Slice.Eq.{bytes_eq-Decides}
use Rattle.clap.specs.Words.{Row, Text, first_of}
use Rattle.ipmi_command_line.specs.Arguments.{has_other, is_reference, is_taken, rows_of_words}
use Rattle.ipmi_command_line.specs.Options.{OptionState, form_in, is_present, options}
use Rattle.ipmi_command_line.specs.Values.{free_words, has_value, is_given, values_of}
use Rattle.ipmi_command_line.specs.Filters.{filters_of, no_filters}
use Rattle.ipmi_command_line.specs.Laws.{CommandsAreRequests, action_of_task, images_of, same_request}
use Rattle.ipmi_command_line.specs.Task.{takes_from}
use Rattle.ipmi_command_line.specs.declared.command.UsageFault.{UsageFault}
use Rattle.ipmi_command_line.specs.declared.filters.Filters.{Filters}
use Rattle.ipmi_command_line.specs.declared.numbered.Numbered.{Numbered}
use Rattle.ipmi_command_line.specs.declared.request.Action.{Action}
use Rattle.ipmi_command_line.specs.declared.request.Format.{Format}
use Rattle.ipmi_command_line.specs.declared.request.Limits.{Limits}
use Rattle.ipmi_command_line.specs.declared.request.Request.{Request}
use Rattle.ipmi_command_line.specs.declared.request.Source.{Source}
use Rattle.ipmi_command_line.specs.Command.{CommandState, command_of_task, meaning_of, number_or, start_of_text, with_options}
use Rattle.ipmi_command_line.specs.Commands.{RowState, commands, row_of}
use Rattle.ipmi_command_line.specs.Number.{digits_of, number_of, within}
use Rattle.ipmi_command_line.specs.Request.{action_of, format_of, goes_with, has_option, limits_of, listed_of, misplaced, numbered_of, part_of_text, printed_of, records_named, records_of, request_of, request_of_found, request_of_row, request_of_words, rewrite_of, source_of, task_of_row, text_format, with_parts}
use Rattle.ipmi_command_line.specs.Table.{are, entries_of, newest, oldest, task_of, task_of_four, task_of_one, task_of_three, task_of_two}
use Rattle.ipmi_command_line.specs.declared.commands.Verb.{Verb}
use Rattle.ipmi_command_line.specs.declared.task.Task.{Task}

abbrev pub is_rewrite : Task → Bool
is_rewrite Task.Rewrite = true
is_rewrite task = false

-- the row's command is the task, and takes an image
abbrev pub Reads : Verb → List Text → Task → Type 0
Reads Verb.Task words task = is_rewrite task ≡ false
Reads Verb.GetEntries words task = (is_rewrite task ≡ false) × (nat_le (length words) 3 ≡ true)
Reads Verb.PrintInventories words task = (is_rewrite task ≡ false) × (nat_le (length words) 3 ≡ true)
Reads Verb.GetRecords words task = (a : Text) × (b : Text) × (name : Text) × (words ≡ a ∷ b ∷ name ∷ []) × (task ≡ Task.Get name)
Reads Verb.Rewrite words task = (length words ≡ 2) × (task ≡ Task.Rewrite)
Reads verb words task = ⊥

abbrev pub IsFound : Option RowState → List Text → Task → Type 0
IsFound None words task = ⊥
IsFound (Some row) words task = Reads row.verb words task × (has_option row.options (codes "image") ≡ true)

-- ---- tasks that are not `image rewrite`

rewrites : Option Task → Bool
rewrites None = false
rewrites (Some task) = is_rewrite task

plain : (o : Option Task) (task : Task) → o ≡ Some task → rewrites o ≡ false → is_rewrite task ≡ false
unfolding rewrites
plain o task is none = sym (ap rewrites is) ∙ none

mapped : {A : Type 0} (o : Option A) (f : A → Task) → ((x : A) → is_rewrite (f x) ≡ false) → rewrites (option_map f o) ≡ false
unfolding rewrites
mapped None f each = refl
mapped (Some x) f each = each x

-- ---- the table

branch : {R : Type 0} (b : Bool) (x y : Option Task) (task : Task) → (if b then x else y) ≡ Some task
    → (b ≡ true → x ≡ Some task → R) → (y ≡ Some task → R) → R
branch true x y task is first more = first refl is
branch false x y task is first more = more is

-- the words are those of a row
same_word : (a first : Text) (P : Text → Type 0) → bytes_eq a first ≡ true → P first → P a
same_word a first P eq p = subst P (sym ((bytes_eq-Decides a first).0 eq)) p

same_words : (a b first second : Text) (P : Text → Text → Type 0) → are a b first second ≡ true
    → P first second → P a b
same_words a b first second P eq p =
    let both = and_parts (bytes_eq a first) (bytes_eq b second) eq in
    same_word a first (λ a. P a b) both.0 (same_word b second (λ b. P first b) both.1 p)

found_one : (a : Text) (task : Task) → task_of_one a ≡ Some task
    → IsFound (row_of (a ∷ [])) (a ∷ []) task
unfolding row_of commands rewrites
found_one a task is =
    let P : Text → Type 0 = λ a. IsFound (row_of (a ∷ [])) (a ∷ []) task in
    branch _ _ _ task is (λ eq at. same_word a (codes "fru") P eq (plain _ task at refl, refl))
    (λ more0. branch _ _ _ task more0 (λ eq at. same_word a (codes "sdr") P eq (plain _ task at refl, refl))
    (λ more1. branch _ _ _ task more1 (λ eq at. same_word a (codes "sel") P eq (plain _ task at refl, refl))
    (λ more2. absurd (none-some task more2))))

found_two : (a b : Text) (task : Task) → task_of_two a b ≡ Some task
    → IsFound (row_of (a ∷ b ∷ [])) (a ∷ b ∷ []) task
unfolding row_of commands rewrites
found_two a b task is =
    let P : Text → Text → Type 0 = λ a b. IsFound (row_of (a ∷ b ∷ [])) (a ∷ b ∷ []) task in
    branch _ _ _ task is (λ eq at. same_words a b (codes "fru") (codes "print") P eq ((plain _ task at refl, refl), refl))
    (λ more0. branch _ _ _ task more0 (λ eq at. same_words a b (codes "sdr") (codes "list") P eq (plain _ task at refl, refl))
    (λ more1. branch _ _ _ task more1 (λ eq at. same_words a b (codes "sdr") (codes "elist") P eq (plain _ task at refl, refl))
    (λ more2. branch _ _ _ task more2 (λ eq at. same_words a b (codes "sdr") (codes "hex") P eq (plain _ task at refl, refl))
    (λ more3. branch _ _ _ task more3 (λ eq at. same_words a b (codes "sdr") (codes "info") P eq (plain _ task at refl, refl))
    (λ more4. branch _ _ _ task more4 (λ eq at. same_words a b (codes "sel") (codes "info") P eq (plain _ task at refl, refl))
    (λ more5. branch _ _ _ task more5 (λ eq at. same_words a b (codes "sel") (codes "list") P eq (plain _ task at refl, refl))
    (λ more6. branch _ _ _ task more6 (λ eq at. same_words a b (codes "image") (codes "rewrite") P eq ((refl, sym (ap (λ o. unwrap_or o Task.Hex) at)), refl))
    (λ more7. absurd (none-some task more7)))))))))

found_three : (a b c : Text) (task : Task) → task_of_three a b c ≡ Some task
    → IsFound (row_of (a ∷ b ∷ c ∷ [])) (a ∷ b ∷ c ∷ []) task
unfolding row_of commands rewrites
found_three a b c task is =
    let P : Text → Text → Type 0 = λ a b. IsFound (row_of (a ∷ b ∷ c ∷ [])) (a ∷ b ∷ c ∷ []) task in
    branch _ _ _ task is (λ eq at. same_words a b (codes "fru") (codes "print") P eq ((plain _ task at (mapped _ (λ id. Task.Fru (Some id)) (λ x. refl)), refl), refl))
    (λ more0. branch _ _ _ task more0 (λ eq at. same_words a b (codes "sdr") (codes "list") P eq (plain _ task at (mapped _ (λ kind. Task.List kind) (λ x. refl)), refl))
    (λ more1. branch _ _ _ task more1 (λ eq at. same_words a b (codes "sdr") (codes "elist") P eq (plain _ task at (mapped _ (λ kind. Task.Elist kind) (λ x. refl)), refl))
    (λ more2. branch _ _ _ task more2 (λ eq at. same_words a b (codes "sdr") (codes "get") P eq ((codes "sdr", codes "get", c, refl, sym (ap (λ o. unwrap_or o Task.Hex) at)), refl))
    (λ more3. branch _ _ _ task more3 (λ eq at. same_words a b (codes "sel") (codes "list") P eq (plain _ task at (mapped _ (λ n. Task.SelList (oldest n)) (λ x. refl)), refl))
    (λ more4. branch _ _ _ task more4 (λ eq at. same_words a b (codes "sel") (codes "get") P eq ((plain _ task at (mapped _ (λ id. Task.SelGet id) (λ x. refl)), refl), refl))
    (λ more5. absurd (none-some task more5)))))))

found_four : (a b c d : Text) (task : Task) → task_of_four a b c d ≡ Some task
    → IsFound (row_of (a ∷ b ∷ c ∷ d ∷ [])) (a ∷ b ∷ c ∷ d ∷ []) task
unfolding row_of commands rewrites
found_four a b c d task is =
    let P : Text → Text → Type 0 = λ a b. IsFound (row_of (a ∷ b ∷ c ∷ d ∷ [])) (a ∷ b ∷ c ∷ d ∷ []) task in
    let last : Option Task = if (are a b (codes "sel") (codes "list") && bytes_eq c (codes "last")) then entries_of newest d else None in
    branch (are a b (codes "sel") (codes "list") && bytes_eq c (codes "first")) (entries_of oldest d) last task is (λ eq at. same_words a b (codes "sel") (codes "list") P (and_parts (are a b (codes "sel") (codes "list")) (bytes_eq c (codes "first")) eq).0
    (plain (entries_of oldest d) task at (mapped (within 0 65535 (number_of d)) (λ n. Task.SelList (oldest n)) (λ x. refl)), refl))
    (λ more. branch (are a b (codes "sel") (codes "list") && bytes_eq c (codes "last")) (entries_of newest d) None task more (λ eq at. same_words a b (codes "sel") (codes "list") P (and_parts (are a b (codes "sel") (codes "list")) (bytes_eq c (codes "last")) eq).0
    (plain (entries_of newest d) task at (mapped (within 0 65535 (number_of d)) (λ n. Task.SelList (newest n)) (λ x. refl)), refl))
    (λ none. absurd (none-some task none)))

found : (words : List Text) (task : Task) → task_of words ≡ Some task → IsFound (row_of words) words task
unfolding row_of commands rewrites
found [] task is = (plain _ task is refl, refl)
found (a ∷ []) task is = found_one a task is
found (a ∷ b ∷ []) task is = found_two a b task is
found (a ∷ b ∷ c ∷ []) task is = found_three a b c task is
found (a ∷ b ∷ c ∷ d ∷ []) task is = found_four a b c d task is
found (a ∷ b ∷ c ∷ d ∷ e ∷ words) task is = absurd (none-some task is)

-- ---- the options

none_or : (a b : Bool) → (a || b) ≡ false → (a ≡ false) × (b ≡ false)
none_or true b is = absurd (true≢false is)
none_or false b is = (refl, is)

not_true : (a : Bool) → not a ≡ true → a ≡ false
not_true true is = absurd (false≢true is)
not_true false is = refl

record Alone (rows : List Row) : Type 0 where
  table : list_any (is_present rows) options ≡ false
  label : has_value (codes "label") rows ≡ false
  live : has_value (codes "live") rows ≡ false
  records : has_value (codes "records") rows ≡ false
  id : has_value (codes "id") rows ≡ false
  separator : has_value (codes "separator") rows ≡ false
  type : has_value (codes "type") rows ≡ false
  entity : has_value (codes "entity") rows ≡ false
  exclude : has_value (codes "exclude") rows ≡ false
  since : has_value (codes "since") rows ≡ false
  until : has_value (codes "until") rows ≡ false
  now : has_value (codes "now") rows ≡ false
  worse : has_value (codes "worse") rows ≡ false
  cursor_file : has_value (codes "cursor-file") rows ≡ false
  strict : is_given (codes "strict") rows ≡ false
  version : is_given (codes "version") rows ≡ false
  help : is_given (codes "help") rows ≡ false
  images : nat_le (length (values_of (codes "image") rows)) 1 ≡ true

alone : (rows : List Row) → is_reference rows ≡ true → Alone rows
unfolding has_other options
alone rows is =
    let all = and_parts (not (has_other rows)) (nat_le (length (values_of (codes "image") rows)) 1) is in
    let both = none_or (list_any (is_present rows) options) (is_given (codes "version") rows || is_given (codes "help") rows) (not_true _ all.0) in
    let version = none_or (is_given (codes "version") rows) (is_given (codes "help") rows) both.1 in
    let json = none_or (is_given (codes "json") rows) _ both.0 in
    let csv = none_or (is_given (codes "csv") rows) _ json.1 in
    let label = none_or (has_value (codes "label") rows) _ csv.1 in
    let live = none_or (has_value (codes "live") rows) _ label.1 in
    let records = none_or (has_value (codes "records") rows) _ live.1 in
    let id = none_or (has_value (codes "id") rows) _ records.1 in
    let separator = none_or (has_value (codes "separator") rows) _ id.1 in
    let type = none_or (has_value (codes "type") rows) _ separator.1 in
    let entity = none_or (has_value (codes "entity") rows) _ type.1 in
    let exclude = none_or (has_value (codes "exclude") rows) _ entity.1 in
    let since = none_or (has_value (codes "since") rows) _ exclude.1 in
    let until = none_or (has_value (codes "until") rows) _ since.1 in
    let now = none_or (has_value (codes "now") rows) _ until.1 in
    let worse = none_or (has_value (codes "worse") rows) _ now.1 in
    let cursor_file = none_or (has_value (codes "cursor-file") rows) _ worse.1 in
    let output = none_or (has_value (codes "output") rows) _ cursor_file.1 in
    let strict = none_or (is_given (codes "strict") rows) _ output.1 in
    record {
      table = both.0;
      label = label.0;
      live = live.0;
      records = records.0;
      id = id.0;
      separator = separator.0;
      type = type.0;
      entity = entity.0;
      exclude = exclude.0;
      since = since.0;
      until = until.0;
      now = now.0;
      worse = worse.0;
      cursor_file = cursor_file.0;
      strict = strict.0;
      version = version.0;
      help = version.1;
      images = all.1;
    }

no_value : (o : Option Text) → is_some o ≡ false → o ≡ None
no_value None is = refl
no_value (Some text) is = absurd (true≢false is)

-- no option is misplaced if none is given
none_found : (table : List OptionState) (names : List Text) (rows : List Row) → list_any (is_present rows) table ≡ false
    → find (λ option. is_present rows option && not (goes_with names option)) table ≡ None
none_found [] names rows none = refl
none_found (option ∷ table) names rows none =
    let both = none_or (is_present rows option) (list_any (is_present rows) table) none in
    rw (both.0) (none_found table names rows both.1)

all_placed : (names : List Text) (rows : List Row) → Alone rows → has_option names (codes "image") ≡ true
    → misplaced names rows ≡ None
unfolding misplaced
all_placed names rows h takes =
    grind (arith, takes, ap (option_map (λ (option : OptionState). option.name)) (none_found options names rows h.table))

-- nor is a form of output asked for
no_forms : (table : List OptionState) (rows : List Row) → list_any (is_present rows) table ≡ false → filter_map (form_in rows) table ≡ []
no_forms [] rows none = refl
no_forms (option ∷ table) rows none =
    let both = none_or (is_present rows option) (list_any (is_present rows) table) none in
    rw (both.0) (no_forms table rows both.1)

-- ---- the images

first_of_row : (o : Option Row) → option_and_then (λ (r : Row). slice_get r.values 0) o
    ≡ slice_get (unwrap_or (option_map (λ (r : Row). r.values) o) []) 0
first_of_row None = refl
first_of_row (Some row) = refl

first_is : (name : Text) (rows : List Row) → first_of name rows ≡ slice_get (values_of name rows) 0
first_is name rows = first_of_row (find (λ (r : Row). bytes_eq r.id name) rows)

one_image : (images : List Text) → nat_le (length images) 1 ≡ true → images_of (slice_get images 0) ≡ images
one_image [] few = refl
one_image (image ∷ []) few = refl
one_image (image ∷ second ∷ images) few = absurd (grind (arith, nat_tests, few))

source_is : (images : List Text) → nat_le (length images) 1 ≡ true → source_of images None ≡ Some (Source.Images images)
source_is [] few = refl
source_is (image ∷ []) few = grind (arith, nat_tests)
source_is (image ∷ second ∷ images) few = absurd (grind (arith, nat_tests, few))

sources : (rows : List Row) → Alone rows
    → source_of (values_of (codes "image") rows) (first_of (codes "live") rows)
    ≡ Some (Source.Images (images_of (first_of (codes "image") rows)))
sources rows h =
    ap (source_of (values_of (codes "image") rows)) (no_value (first_of (codes "live") rows) h.live)
    ∙ source_is (values_of (codes "image") rows) h.images
    ∙ ap (λ images. Some (Source.Images images)) (sym (one_image (values_of (codes "image") rows) h.images)
    ∙ ap images_of (sym (first_is (codes "image") rows)))

-- ---- the filters

none_among : (texts : List Text) → slice_get texts 0 ≡ None → texts ≡ []
none_among [] is = refl
none_among (text ∷ texts) is = absurd (none-some text (sym is))

no_excluded : (rows : List Row) → Alone rows → values_of (codes "exclude") rows ≡ []
no_excluded rows h = none_among (values_of (codes "exclude") rows)
    (sym (first_is (codes "exclude") rows) ∙ no_value (first_of (codes "exclude") rows) h.exclude)

-- the row's command has no filter as a word
abbrev pub AsksAll : Verb → Type 0
AsksAll Verb.ListOfType = ⊥
AsksAll Verb.ListOfEntity = ⊥
AsksAll verb = ⊤

none_given : (clock : ℕ) (rows : List Row) → Alone rows → filters_of clock Verb.GetEntries [] rows ≡ Some no_filters
none_given clock rows h =
    rw (
      no_value (first_of (codes "type") rows) h.type,
      no_value (first_of (codes "entity") rows) h.entity,
      no_excluded rows h,
      no_value (first_of (codes "now") rows) h.now,
      no_value (first_of (codes "since") rows) h.since,
      no_value (first_of (codes "until") rows) h.until,
      no_value (first_of (codes "worse") rows) h.worse,
    ) refl

all_pass : (clock : ℕ) (verb : Verb) (words : List Text) (rows : List Row) → AsksAll verb → Alone rows
    → filters_of clock verb words rows ≡ Some no_filters
all_pass clock Verb.ListOfType words rows asks h = absurd asks
all_pass clock Verb.ListOfEntity words rows asks h = absurd asks
all_pass clock Verb.GetEntries words rows asks h = none_given clock rows h
all_pass clock Verb.PrintInventories words rows asks h = none_given clock rows h
all_pass clock verb words rows asks h =
    rw (
      no_value (first_of (codes "type") rows) h.type,
      no_value (first_of (codes "entity") rows) h.entity,
      no_value (first_of (codes "id") rows) h.id,
      no_excluded rows h,
      no_value (first_of (codes "now") rows) h.now,
      no_value (first_of (codes "since") rows) h.since,
      no_value (first_of (codes "until") rows) h.until,
      no_value (first_of (codes "worse") rows) h.worse,
    ) refl

no_records : (rows : List Row) → Alone rows → records_of rows ≡ Some None
no_records rows h = rw (h.records, no_value (first_of (codes "records") rows) h.records) refl

-- ---- the values

err-ok : {fault : UsageFault} {command : CommandState} → Err fault ≡ Ok command → ⊥
err-ok is = none-some _ (ap result_ok is)

not_first : (b : Bool) (o : Option ℕ) → (if b then option_map (λ id. Some id) o else None) ≡ Some None → ⊥
not_first true None is = none-some _ is
not_first true (Some id) is = none-some id (sym (ap (λ o. unwrap_or o None) is))
not_first false o is = none-some _ is

no_start : (text : Option Text) → start_of_text text ≡ Some None → is_some text ≡ false
no_start None is = refl
no_start (Some text) is = absurd (not_first (length text == 4) (within 1 65534 (digits_of 16 text)) is)

no_from : (from : Option ℕ) → (is_some from && true) ≡ false → from ≡ None
no_from None is = refl
no_from (Some id) is = absurd (true≢false is)

part_is : (text : Option Text) (n : ℕ) → number_or 32 1 254 text ≡ Some n
    → (part : Option ℕ) × (part_of_text text ≡ Some part) × (unwrap_or part 32 ≡ n)
part_is None n is = (None, refl, ap (λ o. unwrap_or o 0) is)
part_is (Some text) n is = (Some n, ap (option_map (λ part. Some part)) is, refl)

record Parts (image : Option Text) (task : Task) (start : Option (Option ℕ)) (part tries : Option ℕ) (command : CommandState) : Type 0 where
  from : Option ℕ
  n : ℕ
  t : ℕ
  start_is : start ≡ Some from
  part_is : part ≡ Some n
  tries_is : tries ≡ Some t
  taken : (is_some from && not (takes_from task)) ≡ false
  command_is : record { task = task; from = from; part = n; tries = t; image = image } ≡ command

ok_of : (b : Bool) (made command : CommandState) → (if b then Err UsageFault.Option else Ok made) ≡ Ok command
    → (b ≡ false) × (made ≡ command)
ok_of true made command is = absurd (err-ok is)
ok_of false made command is = (refl, ap (λ r. unwrap_or (result_ok r) made) is)

parts_of : (image : Option Text) (task : Task) (start : Option (Option ℕ)) (part tries : Option ℕ) (command : CommandState)
    → with_options image task start part tries ≡ Ok command → Parts image task start part tries command
parts_of image task (Some from) (Some n) (Some t) command is =
    let made = ok_of (is_some from && not (takes_from task)) _ command is in
    record { from = from; n = n; t = t; start_is = refl; part_is = refl; tries_is = refl; taken = made.0; command_is = made.1 }
parts_of image task start part tries command is = absurd (err-ok is)

-- ---- the request

assembled : (m : Option Text) (A : Option Action) (P : Option Filters) (S : Option Source) (R : Option (Option Text)) (L : Option Limits) (F : Option Format) (b : Bool)
    (a : Action) (s : Source) (l : Limits) → m ≡ None → A ≡ Some a → P ≡ Some no_filters → S ≡ Some s → R ≡ Some None → L ≡ Some l → F ≡ Some Format.Plain
    → b ≡ false → (if is_some m then None else with_parts A P S R L F b)
    ≡ Some (record { action = a; filters = no_filters; source = s; records = None; limits = l; format = Format.Plain; strict = false })
assembled m A P S R L F b a s l m_is A_is P_is S_is R_is L_is F_is b_is = rw (m_is, A_is, P_is, S_is, R_is, L_is, F_is, b_is) refl

printed : (start : Option (Option ℕ)) (o : Option Task) (task : Task) (from : Option ℕ) → start ≡ Some from → o ≡ Some task
    → (is_some from && not (takes_from task)) ≡ false → printed_of start o ≡ Some (Action.Print task from)
printed start o task from start_is task_is taken = rw (start_is, task_is, taken) refl

plain_action : (task : Task) (from : Option ℕ) → is_rewrite task ≡ false → Action.Print task from ≡ action_of_task task from
plain_action Task.Rewrite from h = absurd (true≢false h)
plain_action task from h = refl

plain_format : (rows : List Row) (verb : Verb) → Alone rows → text_format verb ≡ Format.Plain → format_of verb rows ≡ Some Format.Plain
plain_format rows verb h is = rw (no_value (first_of (codes "separator") rows) h.separator, no_forms options rows h.table, h.label, is) refl

limits_are : (rows : List Row) (part : Option ℕ) (tries : ℕ) → part_of_text (first_of (codes "part") rows) ≡ Some part
    → number_or 5 0 255 (first_of (codes "tries") rows) ≡ Some tries → limits_of rows ≡ Some (record { part = part; tries = tries })
limits_are rows part tries part_is tries_is = rw (part_is, tries_is) refl

-- the task of a row is printed, as `image rewrite` is no such task
abbrev Options : List Row → Task → CommandState → Type 0
Options rows task command = Parts (first_of (codes "image") rows) task (start_of_text (first_of (codes "from") rows))
    (number_or 32 1 254 (first_of (codes "part") rows)) (number_or 5 0 255 (first_of (codes "tries") rows)) command

abbrev IsSame : ℕ → RowState → List Text → List Row → CommandState → Type 0
IsSame clock row words rows command = (part : Option ℕ) × (unwrap_or part 32 ≡ command.part)
    × (request_of_found clock (Some row) words rows ≡ Some (same_request part command))

getting : (words : List Text) (rows : List Row) (task : Task) (from : Option ℕ) → Reads Verb.GetRecords words task
    → start_of_text (first_of (codes "from") rows) ≡ Some from → records_named words rows ≡ Some (action_of_task task from)
getting words rows task from reads start = rw (reads.3, reads.4, start) refl

rewriting : (words : List Text) (rows : List Row) (task : Task) (from : Option ℕ) → Alone rows → length words ≡ 2 → task ≡ Task.Rewrite
    → start_of_text (first_of (codes "from") rows) ≡ Some from → (is_some from && not (takes_from task)) ≡ false
    → rewrite_of (length words == 2) rows ≡ Some (action_of_task task from)
rewriting words rows task from h two is start taken =
    let none = no_from from (ap (λ t. is_some from && not (takes_from t)) (sym is) ∙ taken) in
    let unset = no_start (first_of (codes "from") rows) (start ∙ ap (λ o. Some o) none) in
    rw (two, is, unset, h.images) refl

numbered : (kind : Numbered) (row : RowState) (words : List Text) (rows : List Row) → Alone rows → nat_le (length words) 3 ≡ true
    → numbered_of kind row words rows ≡ printed_of (start_of_text (first_of (codes "from") rows)) (task_of_row row words)
numbered kind row words rows h few = rw (h.id, few) refl

unlisted : (row : RowState) (words : List Text) (rows : List Row) → Alone rows
    → listed_of row words rows ≡ printed_of (start_of_text (first_of (codes "from") rows)) (task_of_row row words)
unlisted row words rows h = rw (no_value (first_of (codes "cursor-file") rows) h.cursor_file) refl

-- the row's command does what the task is, with no other option
carried : (clock : ℕ) (row : RowState) (words : List Text) (rows : List Row) (task : Task) (command : CommandState) → Alone rows
    → AsksAll row.verb → text_format row.verb ≡ Format.Plain → has_option row.options (codes "image") ≡ true
    → (parts : Options rows task command) → action_of row words rows ≡ Some (action_of_task task parts.from)
    → (part : Option ℕ) × (unwrap_or part 32 ≡ command.part) × (request_of_row clock row words rows ≡ Some (same_request part command))
carried clock row words rows task command h asks plain takes parts action =
    let part = part_is (first_of (codes "part") rows) parts.n parts.part_is in (
      part.0,
      part.2 ∙ ap (λ c. c.part) parts.command_is,
      assembled _ _ _ _ _ _ _ _ _ _ _ (all_placed row.options rows h takes) action (all_pass clock row.verb words rows asks h) (sources rows h)
          (no_records rows h) (limits_are rows part.0 parts.t part.1 parts.tries_is) (plain_format rows row.verb h plain) h.strict
          ∙ ap (λ c. Some (same_request part.0 c)) parts.command_is,
    )

same : (clock : ℕ) (w : List Text) (v : Verb) (o words : List Text) (rows : List Row) (task : Task) (command : CommandState) → Alone rows
    → Reads v words task → has_option o (codes "image") ≡ true → task_of words ≡ Some task → Options rows task command
    → IsSame clock (record { words = w; verb = v; options = o }) words rows command
same clock w Verb.Task o words rows task command h reads takes is parts =
    carried clock (record { words = w; verb = Verb.Task; options = o }) words rows task command h tt refl takes parts
    (unlisted (record { words = w; verb = Verb.Task; options = o }) words rows h ∙ printed _ _ task parts.from parts.start_is is parts.taken ∙ ap (λ a. Some a) (plain_action task parts.from reads))
same clock w Verb.GetEntries o words rows task command h reads takes is parts =
    let row : RowState = record { words = w; verb = Verb.GetEntries; options = o } in
    carried clock row words rows task command h tt refl takes parts (numbered Numbered.Entry row words rows h reads.1
    ∙ printed _ _ task parts.from parts.start_is is parts.taken ∙ ap (λ a. Some a) (plain_action task parts.from reads.0))
same clock w Verb.PrintInventories o words rows task command h reads takes is parts =
    let row : RowState = record { words = w; verb = Verb.PrintInventories; options = o } in
    carried clock row words rows task command h tt refl takes parts (numbered Numbered.Inventory row words rows h reads.1
    ∙ printed _ _ task parts.from parts.start_is is parts.taken ∙ ap (λ a. Some a) (plain_action task parts.from reads.0))
same clock w Verb.GetRecords o words rows task command h reads takes is parts =
    carried clock (record { words = w; verb = Verb.GetRecords; options = o }) words rows task command h tt refl takes parts
    (getting words rows task parts.from reads parts.start_is)
same clock w Verb.Rewrite o words rows task command h reads takes is parts =
    carried clock (record { words = w; verb = Verb.Rewrite; options = o }) words rows task command h tt refl takes parts
    (rewriting words rows task parts.from h reads.0 reads.1 parts.start_is parts.taken)
same clock w v o words rows task command h reads takes is parts = absurd reads

same_of : (clock : ℕ) (r : Option RowState) (words : List Text) (rows : List Row) (task : Task) (command : CommandState) → Alone rows
    → IsFound r words task → task_of words ≡ Some task → Options rows task command
    → (part : Option ℕ) × (unwrap_or part 32 ≡ command.part) × (request_of_found clock r words rows ≡ Some (same_request part command))
same_of clock None words rows task command h reads is parts = absurd reads
same_of clock (Some row) words rows task command h reads is parts =
    same clock row.words row.verb row.options words rows task command h reads.0 reads.1 is parts

tasked : (rows : List Row) (o : Option Task) (command : CommandState) → command_of_task rows o ≡ Ok command
    → (task : Task) × (o ≡ Some task) × Options rows task command
tasked rows None command is = absurd (err-ok is)
tasked rows (Some task) command is = (task, refl, parts_of _ task _ _ _ command is)

taken_of : (b : Bool) (x : Result CommandState UsageFault) (command : CommandState) → (if b then x else Err UsageFault.Line) ≡ Ok command
    → (b ≡ true) × (x ≡ Ok command)
taken_of true x command is = (refl, is)
taken_of false x command is = absurd (err-ok is)

request_is : (clock : ℕ) (words : List Text) (request : Request) → is_taken words ≡ true → Alone (rows_of_words words)
    → request_of_found clock (row_of (free_words (rows_of_words words))) (free_words (rows_of_words words)) (rows_of_words words) ≡ Some request
    → request_of clock words ≡ Some request
unfolding request_of request_of_words
request_is clock words request taken h is = rw (taken, h.help, h.version) is

pub commands_are_requests : CommandsAreRequests
unfolding meaning_of
commands_are_requests clock words command is =
    let rows = rows_of_words words in
    let line = taken_of (is_taken words && is_reference rows) _ command is in
    let both = and_parts (is_taken words) (is_reference rows) line.0 in
    let task = tasked rows (task_of (free_words rows)) command line.1 in
    let h = alone rows both.1 in
    let part = same_of clock (row_of (free_words rows)) (free_words rows) rows task.0 command h (found (free_words rows) task.0 task.1) task.1 task.2 in
    (part.0, part.1, request_is clock words (same_request part.0 command) both.0 h part.2)
