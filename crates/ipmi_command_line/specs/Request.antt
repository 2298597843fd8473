-- What a command line asks for: a function of the options and words that `clap` found, and of the table of commands. None if
-- the line is refused.
use Rattle.std.specs.Prelude.{ℕ, ◌≤◌, ◌==◌, ◌&&◌, Bool, true, false, not, is_some, List, [], ◌∷◌, Option, Some, None, ⊤, option_map, unwrap_or, codes, bytes_eq, count_by, drop, length, map, nat_le, nat_lt, IfSome, All, IsTrue, OnSome, if◌then◌else◌}
use Rattle.std.specs.List.{find, list_any}
use Rattle.std.specs.Option.{option_and_then}
use Rattle.clap.specs.Words.{Row, Text, first_of}
use Rattle.ipmi_command_line.specs.Arguments.{is_taken, rows_of_words}
use Rattle.ipmi_command_line.specs.Command.{IsTask, number_or, start_of_text}
use Rattle.ipmi_command_line.specs.Commands.{RowState, row_of}
use Rattle.ipmi_command_line.specs.Filters.{after_byte, before_byte, filters_of, has_byte, no_filters, optional}
use Rattle.ipmi_command_line.specs.Number.{decimal_of, number_of, within}
use Rattle.ipmi_command_line.specs.Numbered.{tasks_of_ids, tasks_of_words}
use Rattle.ipmi_command_line.specs.Options.{OptionState, forms_of, is_present, options}
use Rattle.ipmi_command_line.specs.Values.{free_words, has_value, is_given, values_of}
use Rattle.ipmi_command_line.specs.Table.{entries_of, oldest, task_of, task_of_four}
use Rattle.ipmi_command_line.specs.Task.{takes_from}
use Rattle.ipmi_command_line.specs.declared.commands.Verb.{Verb}
use Rattle.ipmi_command_line.specs.declared.filters.Filters.{Filters}
use Rattle.ipmi_command_line.specs.declared.numbered.Numbered.{Numbered}
use Rattle.ipmi_command_line.specs.declared.request.Action.{Action}
use Rattle.ipmi_command_line.specs.declared.request.Format.{Format}
use Rattle.ipmi_command_line.specs.declared.request.Separator.{Separator}
use Rattle.ipmi_command_line.specs.declared.request.Limits.{Limits}
use Rattle.ipmi_command_line.specs.declared.request.LiveTool.{LiveTool}
use Rattle.ipmi_command_line.specs.declared.request.Request.{Request}
use Rattle.ipmi_command_line.specs.declared.request.Source.{Source}
use Rattle.ipmi_command_line.specs.declared.request.Topic.{Topic}
use Rattle.ipmi_command_line.specs.declared.options.Form.{Form}
use Rattle.ipmi_command_line.specs.declared.options.Given.{Given}
use Rattle.ipmi_command_line.specs.declared.request.TheConstants.{BESIDE_TYPES}
use Rattle.ipmi_command_line.specs.declared.task.Count.{Count}
use Rattle.ipmi_command_line.specs.declared.task.Kind.{Kind}
use Rattle.ipmi_command_line.specs.declared.task.Task.{Task}

-- ---- the ranges

abbrev pub IsId : ℕ → Type 0
IsId id = (1 ≤ id) × (id ≤ 65534)

-- a task that takes an id to start from may have one
abbrev pub IsAction : Action → Type 0
IsAction (Action.Print task from) = IsTask task × IfSome from IsId × OnSome from (IsTrue (takes_from task))
IsAction (Action.PrintEach tasks) = All IsTask tasks
IsAction (Action.GetSensors names from) = IfSome from IsId
IsAction _ = ⊤

pub record IsRequest (request : Request) : Type 0 where
  pub action : IsAction request.action
  pub part : IfSome request.limits.part (λ n. (1 ≤ n) × (n ≤ 254))

-- ---- values

abbrev pub start_of : List Row → Option (Option ℕ)
start_of rows = start_of_text (first_of (codes "from") rows)

abbrev pub part_of_text : Option Text → Option (Option ℕ)
part_of_text text = optional (λ text. within 1 254 (decimal_of text)) text

abbrev pub with_limits : Option (Option ℕ) → Option ℕ → Option Limits
with_limits (Some part) (Some tries) = Some (record { part = part; tries = tries })
with_limits part tries = None

abbrev pub limits_of : List Row → Option Limits
limits_of rows = with_limits (part_of_text (first_of (codes "part") rows))
    (number_or 5 0 255 (first_of (codes "tries") rows))

-- ---- where the records come from

abbrev pub tool_of : Text → Option LiveTool
tool_of name =
    if bytes_eq name (codes "ipmitool") then Some LiveTool.Ipmitool
    else (if bytes_eq name (codes "freeipmi") then Some LiveTool.FreeIpmi else None)

-- FOLDER, or FOLDER:HOST
abbrev pub live_at : LiveTool → Text → Source
live_at tool place =
    if has_byte 58 place then Source.Live tool (before_byte 58 place) (Some (after_byte 58 place)) else Source.Live tool place None

-- the tool's name, a colon, and where it is
abbrev pub live_of : Text → Option Source
live_of text =
    if has_byte 58 text
    then (if length (after_byte 58 text) == 0 then None
    else option_map (λ tool. live_at tool (after_byte 58 text)) (tool_of (before_byte 58 text)))
    else None

abbrev pub standard_inputs : List Text → ℕ
standard_inputs images = count_by (λ image. bytes_eq image (codes "-")) images

-- the images, of which one may be standard input, or a live controller without an image
abbrev pub source_of : List Text → Option Text → Option Source
source_of images None = if nat_lt 1 (standard_inputs images) then None else Some (Source.Images images)
source_of [] (Some text) = live_of text
source_of (image ∷ images) (Some text) = None

-- an image for the records of a live controller
abbrev pub records_of : List Row → Option (Option Text)
records_of rows = if has_value (codes "records") rows && not (has_value (codes "live") rows) then None
    else Some (first_of (codes "records") rows)

-- ---- help

abbrev pub topic_named : Text → Option Topic
topic_named word =
    if bytes_eq word (codes "sdr") then Some Topic.Sdr
    else (if bytes_eq word (codes "sensor") then Some Topic.Sensor
    else (if bytes_eq word (codes "sel") then Some Topic.Sel
    else (if bytes_eq word (codes "fru") then Some Topic.Fru
    else (if bytes_eq word (codes "check") then Some Topic.Check
    else (if bytes_eq word (codes "metrics") then Some Topic.Metrics
    else (if bytes_eq word (codes "capture") then Some Topic.Capture
    else (if bytes_eq word (codes "image") then Some Topic.Image
    else (if bytes_eq word (codes "help") then Some Topic.General
    else None))))))))

-- what `help` prints: the first of these words is `help`
abbrev pub help_of : List Text → Option Topic
help_of [] = Some Topic.General
help_of (word ∷ []) = Some Topic.General
help_of (word ∷ second ∷ words) = topic_named second

-- `--help` beside these words
abbrev pub topic_of : List Text → Topic
topic_of [] = Topic.General
topic_of (word ∷ []) = unwrap_or (topic_named word) Topic.General
topic_of (word ∷ second ∷ words) =
    unwrap_or (topic_named (if bytes_eq word (codes "help") then second else word)) Topic.General

-- ---- what is to be done

-- `sel elist` takes what `sel list` takes
abbrev pub events_of : List Text → Option Task
events_of (a ∷ b ∷ []) = Some (Task.SelList Count.All)
events_of (a ∷ b ∷ c ∷ []) = entries_of oldest c
events_of (a ∷ b ∷ c ∷ d ∷ []) = task_of_four (codes "sel") (codes "list") c d
events_of _ = None

-- `sel tail` takes a number of entries, at least 1
abbrev pub tail_of : List Text → Option Task
tail_of (a ∷ b ∷ c ∷ []) = option_map (λ n. Task.SelList (Count.Tail n)) (within 1 65535 (number_of c))
tail_of _ = None

-- a command that prints records; `whole`: nothing follows its own words
abbrev pub task_of_verb : Verb → Bool → List Text → Option Task
task_of_verb Verb.Task whole words = task_of words
task_of_verb Verb.GetEntries whole words = task_of words
task_of_verb Verb.PrintInventories whole words = task_of words
task_of_verb Verb.DescribeEvents whole words = events_of words
task_of_verb Verb.TailEvents whole words = tail_of words
task_of_verb Verb.ListOfType whole words = if length words == 3 then Some (Task.Elist Kind.All) else None
task_of_verb Verb.ListOfEntity whole words = if length words == 3 then Some (Task.Elist Kind.All) else None
task_of_verb Verb.DescribeSensors whole words = if whole then Some (Task.List Kind.Sensors) else None
task_of_verb Verb.ListDevices whole words = if whole then Some (Task.Fru None) else None
task_of_verb _ whole words = None

abbrev pub task_of_row : RowState → List Text → Option Task
task_of_row row words = task_of_verb row.verb (length words == length row.words) words

-- only a task that takes an id to start from may have one
abbrev pub printed_of : Option (Option ℕ) → Option Task → Option Action
printed_of (Some from) (Some task) =
    if is_some from && not (takes_from task) then None else Some (Action.Print task from)
printed_of from task = None

-- the ids after the first two words, or those of `--id`
abbrev pub tasks_of : Numbered → List Text → Option Text → Option (List Task)
tasks_of kind words None = tasks_of_words kind (drop 2 words)
tasks_of kind words (Some id) = if length words == 2 then tasks_of_ids kind id else None

-- one id as a word is a task, and so is none
abbrev pub numbered_of : Numbered → RowState → List Text → List Row → Option Action
numbered_of kind row words rows =
    if not (has_value (codes "id") rows) && nat_le (length words) 3 then printed_of (start_of rows) (task_of_row row words)
    else (if has_value (codes "from") rows then None
    else option_map (λ tasks. Action.PrintEach tasks) (tasks_of kind words (first_of (codes "id") rows)))

-- the names after the first two words
abbrev pub named_of : List Text → Option (Option ℕ) → Option Action
named_of (a ∷ b ∷ name ∷ names) (Some from) = Some (Action.GetSensors (name ∷ names) from)
named_of words from = None

-- one name is a task
abbrev pub records_named : List Text → List Row → Option Action
records_named (a ∷ b ∷ name ∷ []) rows = option_map (λ from. Action.Print (Task.Get name) from) (start_of rows)
records_named words rows = named_of words (start_of rows)

abbrev pub capture_of : Bool → List Row → Option Action
capture_of whole rows = if whole && (has_value (codes "live") rows && not (has_value (codes "from") rows))
    then Some (Action.Capture (first_of (codes "output") rows) (is_given (codes "quiet") rows) (is_given (codes "partial") rows))
    else None

-- no id to start from, and at most one image
abbrev pub has_one_image : List Row → Bool
has_one_image rows = not (has_value (codes "from") rows) && nat_le (length (values_of (codes "image") rows)) 1

abbrev pub check_of : Bool → List Row → Option Action
check_of whole rows = if whole && has_one_image rows then Some (Action.Check (is_given (codes "perfdata") rows)) else None

abbrev pub metrics_of : Bool → List Row → Option Action
metrics_of whole rows = if whole && has_one_image rows
    then Some (Action.Metrics (is_given (codes "openmetrics") rows) (first_of (codes "output") rows))
    else None

abbrev pub rewrite_of : Bool → List Row → Option Action
rewrite_of whole rows = if whole && has_one_image rows then Some Action.Rewrite else None

-- only new entries, if all entries of one log were to be printed
abbrev pub new_of : Text → Bool → Option Action → Option Action
new_of file has_one_log (Some (Action.Print (Task.SelList Count.All) None)) = if has_one_log then Some (Action.PrintNew file) else None
new_of file has_one_log action = None

abbrev pub new_if_given : Option Text → Bool → Option Action → Option Action
new_if_given None has_one_log action = action
new_if_given (Some file) has_one_log action = new_of file has_one_log action

-- what the task says, or only new entries
abbrev pub listed_of : RowState → List Text → List Row → Option Action
listed_of row words rows = new_if_given (first_of (codes "cursor-file") rows) (nat_le (length (values_of (codes "image") rows)) 1)
    (printed_of (start_of rows) (task_of_row row words))

abbrev pub action_of_verb : Verb → RowState → List Text → List Row → Option Action
action_of_verb Verb.GetEntries row words rows = numbered_of Numbered.Entry row words rows
action_of_verb Verb.PrintInventories row words rows = numbered_of Numbered.Inventory row words rows
action_of_verb Verb.GetRecords row words rows = records_named words rows
action_of_verb Verb.GetSensors row words rows = named_of words (start_of rows)
action_of_verb Verb.Check row words rows = check_of (length words == 1) rows
action_of_verb Verb.Metrics row words rows = metrics_of (length words == 1) rows
action_of_verb Verb.Capture row words rows = capture_of (length words == 1) rows
action_of_verb Verb.Rewrite row words rows = rewrite_of (length words == 2) rows
action_of_verb _ row words rows = listed_of row words rows

abbrev pub action_of : RowState → List Text → List Row → Option Action
action_of row words rows = action_of_verb row.verb row words rows

-- ---- options

abbrev pub has_option : List Text → Text → Bool
has_option options name = list_any (λ option. bytes_eq option name) options

-- an option goes with a command that has these; a form of output goes with labels
abbrev pub name_among : Given → Text → Text
name_among (Given.Form form) name = codes "label"
name_among given name = name

abbrev pub goes_with : List Text → OptionState → Bool
goes_with names option = has_option names (name_among option.given option.name)

-- the first option of a table that was given and does not go with a command that has these
abbrev pub misplaced_in : List OptionState → List Text → List Row → Option Text
misplaced_in table names rows =
    option_map (λ option. option.name) (find (λ option. is_present rows option && not (goes_with names option)) table)

unfoldable pub misplaced : List Text → List Row → Option Text
misplaced names rows =
    if has_value (codes "image") rows && not (has_option names (codes "image")) then Some (codes "image")
    else misplaced_in options names rows

abbrev pub text_format : Verb → Format
text_format Verb.DescribeEvents = Format.Descriptive
text_format Verb.TailEvents = Format.Descriptive
text_format Verb.DescribeSensors = Format.Descriptive
text_format Verb.GetSensors = Format.Descriptive
text_format Verb.ListDevices = Format.Descriptive
text_format _ = Format.Plain

-- what separates the values in a row, if this is said; the outer None: no such separator
abbrev pub separator_of : Option Text → Option (Option Separator)
separator_of None = Some None
separator_of (Some text) =
    if bytes_eq text (codes "comma") then Some (Some Separator.Comma)
    else (if bytes_eq text (codes "semicolon") then Some (Some Separator.Semicolon) else None)

-- only forms of output have labels
abbrev pub format_in_text : Verb → Option Separator → List Row → Option Format
format_in_text verb separator rows =
    if is_some separator then None else (if has_value (codes "label") rows then None else Some (text_format verb))

abbrev pub is_csv : Form → Bool
is_csv Form.Csv = true
is_csv form = false

-- only CSV has separators, which are commas unless it says otherwise
abbrev pub format_in_form : Form → Option Separator → List Row → Option Format
format_in_form form separator rows =
    if is_some separator && not (is_csv form) then None
    else Some (Format.Labelled form (unwrap_or separator Separator.Comma) (values_of (codes "label") rows))

abbrev pub format_in_forms : Verb → List Form → List Row → Option Separator → Option Format
format_in_forms verb [] rows separator = format_in_text verb separator rows
format_in_forms verb (form ∷ []) rows separator = format_in_form form separator rows
format_in_forms verb forms rows separator = None

abbrev pub format_of : Verb → List Row → Option Format
format_of verb rows = option_and_then (format_in_forms verb (forms_of rows) rows) (separator_of (first_of (codes "separator") rows))

-- ---- the request

-- help and the version need nothing else
abbrev pub short_request : Action → Request
short_request action = record {
  action = action;
  filters = no_filters;
  source = Source.Images [];
  records = None;
  limits = record { part = None; tries = 5 };
  format = Format.Plain;
  strict = false;
}

abbrev pub with_parts : Option Action → Option Filters → Option Source → Option (Option Text) → Option Limits → Option Format → Bool
    → Option Request
with_parts (Some action) (Some filters) (Some source) (Some records) (Some limits) (Some format) strict = Some (record {
  action = action;
  filters = filters;
  source = source;
  records = records;
  limits = limits;
  format = format;
  strict = strict;
})
with_parts action filters source records limits format strict = None

-- each option that is given goes with the command
abbrev pub request_of_row : ℕ → RowState → List Text → List Row → Option Request
request_of_row clock row words rows =
    if is_some (misplaced row.options rows) then None
    else with_parts (action_of row words rows) (filters_of clock row.verb words rows)
    (source_of (values_of (codes "image") rows) (first_of (codes "live") rows)) (records_of rows) (limits_of rows)
    (format_of row.verb rows) (is_given (codes "strict") rows)

abbrev pub request_of_help : List Text → Option Request
request_of_help words = option_map (λ topic. short_request (Action.Help topic)) (help_of words)

-- `sdr type`, or `sdr type list`
abbrev pub asks_for_types : List Text → Bool
asks_for_types (a ∷ b ∷ []) = true
asks_for_types (a ∷ b ∷ c ∷ []) = bytes_eq c (codes "list")
asks_for_types words = false

-- only these options may stand beside a text that is always the same
abbrev pub types_request : List Row → Option Request
types_request rows =
    if is_some (misplaced (map (λ name. name.now) BESIDE_TYPES) rows) then None
    else Some (short_request (Action.Help Topic.SensorTypes))

abbrev pub request_of_verb : ℕ → Verb → RowState → List Text → List Row → Option Request
request_of_verb clock Verb.Help row words rows = request_of_help words
request_of_verb clock Verb.ListOfType row words rows =
    if asks_for_types words then types_request rows else request_of_row clock row words rows
request_of_verb clock verb row words rows = request_of_row clock row words rows

abbrev pub request_of_command : ℕ → RowState → List Text → List Row → Option Request
request_of_command clock row words rows = request_of_verb clock row.verb row words rows

abbrev pub request_of_found : ℕ → Option RowState → List Text → List Row → Option Request
request_of_found clock None words rows = None
request_of_found clock (Some row) words rows = request_of_command clock row words rows

unfoldable pub request_of_words : ℕ → List Text → List Row → Option Request
request_of_words clock words rows = request_of_found clock (row_of words) words rows

-- help, then the version, then the command
abbrev pub request_of_rows : ℕ → List Row → Option Request
request_of_rows clock rows =
    if is_given (codes "help") rows then Some (short_request (Action.Help (topic_of (free_words rows))))
    else (if is_given (codes "version") rows then Some (short_request Action.Version)
    else request_of_words clock (free_words rows) rows)

-- The first word is the program's name. `clock`: the seconds since 1970.
unfoldable pub request_of : ℕ → List Text → Option Request
request_of clock words = if is_taken words then request_of_rows clock (rows_of_words words) else None
