-- Which records of a listing are printed: a function of the options and words that `clap` found, and of the clock. None if one of
-- them can't be read, or if the times are out of order.
use Rattle.jiff.specs.Words.{parse_timestamp}
use Rattle.std.specs.Prelude.{ℕ, ◌-◌, ◌*◌, ◌==◌, ◌&&◌, ◌||◌, not, ◌++◌, ℤ, pos, negsuc, int_div, Result, Ok, Err, Bool, true, List, [], Option, Some, None, option_map, bytes_eq, codes, is_some, length, nat_le, nat_lt, slice_get, if◌then◌else◌}
use Rattle.std.specs.List.{after_first, before_first, filter_map, list_all, position_or_len, slice_split}
use Rattle.std.specs.Option.{option_or}
use Rattle.ipmi_text.specs.SensorTypes.{sensor_type_named}
use Rattle.clap.specs.Words.{Row, Text, first_of}
use Rattle.ipmi_command_line.specs.Values.{values_of}
use Rattle.ipmi_command_line.specs.Number.{decimal_of, hex_id_of, number_of, within}
use Rattle.ipmi_command_line.specs.declared.commands.Verb.{Verb}
use Rattle.ipmi_command_line.specs.declared.filters.EntityFilter.{EntityFilter}
use Rattle.ipmi_command_line.specs.declared.filters.Filters.{Filters}
use Rattle.ipmi_command_line.specs.declared.filters.IdRange.{IdRange}
use Rattle.ipmi_command_line.specs.declared.filters.Worse.{Worse}

-- every record passes
abbrev pub no_filters : Filters
no_filters = record { sensor_type = None; entity = None; ids = None; excluded = []; since = None; until = None; worse = None }

-- there are any
abbrev pub are_given : Filters → Bool
are_given filters = is_some filters.sensor_type || (is_some filters.entity || (is_some filters.ids
    || (not (length filters.excluded == 0) || (is_some filters.since || (is_some filters.until || is_some filters.worse)))))

-- ---- values

-- the text has this byte, and what is before and after the first one
abbrev pub has_byte : ℕ → Text → Bool
has_byte byte text = nat_lt (position_or_len (λ b. b == byte) text) (length text)

abbrev pub before_byte : ℕ → Text → Text
before_byte byte text = before_first (λ b. b == byte) text

abbrev pub after_byte : ℕ → Text → Text
after_byte byte text = after_first (λ b. b == byte) text

abbrev pub byte_of : ℕ → Text → Option ℕ
byte_of high text = within 0 high (number_of text)

-- the name of a sensor type, or its number
abbrev pub sensor_type_of : Text → Option ℕ
sensor_type_of text = option_or (sensor_type_named text) (byte_of 255 text)

-- an entity with an instance
abbrev pub with_instance : Option ℕ → Option ℕ → Option EntityFilter
with_instance (Some id) (Some instance) = Some (record { id = id; instance = Some instance })
with_instance id instance = None

-- ID, or ID.INSTANCE
abbrev pub entity_of : Text → Option EntityFilter
entity_of text =
    if has_byte 46 text then with_instance (byte_of 255 (before_byte 46 text)) (byte_of 127 (after_byte 46 text))
    else option_map (λ id. record { id = id; instance = None }) (byte_of 255 text)

-- the ids from the first to the last
abbrev pub range : Option ℕ → Option ℕ → Option IdRange
range (Some first) (Some last) = if nat_le first last then Some (record { first = first; last = last }) else None
range first last = None

-- ID, or FIRST-LAST
abbrev pub id_range : Text → Option IdRange
id_range text =
    if has_byte 45 text then range (hex_id_of 0 (before_byte 45 text)) (hex_id_of 0 (after_byte 45 text))
    else option_map (λ id. record { first = id; last = id }) (hex_id_of 0 text)

abbrev pub is_id_range : Text → Bool
is_id_range text = is_some (id_range text)

-- ids and ranges between commas
abbrev pub ids_of : Text → Option (List IdRange)
ids_of text =
    if list_all is_id_range (slice_split (λ b. b == 44) text) then Some (filter_map id_range (slice_split (λ b. b == 44) text)) else None

-- a date begins at midnight
abbrev pub full_time : Text → Text
full_time text = text ++ (if length text == 10 then codes "T00:00:00Z" else [])

-- a time stamp can hold so many seconds
abbrev pub stamp_of : ℤ → Option ℕ
stamp_of (pos seconds) = within 0 4294967295 (Some seconds)
stamp_of (negsuc seconds) = None

abbrev pub seconds_of : {E : Type 0} → Result ℤ E → Option ℕ
seconds_of (Ok nanoseconds) = stamp_of (int_div nanoseconds (pos 1000000000))
seconds_of (Err error) = None

-- the seconds since 1970 of a date, or of a moment in ISO 8601 with Z or an offset
abbrev pub time_of : Text → Option ℕ
time_of text = seconds_of (parse_timestamp (full_time text))

-- a number of these units, whose letter ends the text, in seconds
abbrev pub units_of : ℕ → ℕ → Text → Option ℕ
units_of letter seconds text =
    if has_byte letter text && (length (after_byte letter text) == 0)
    then option_map (λ n. n * seconds) (within 0 65535 (decimal_of (before_byte letter text)))
    else None

-- days, as 3d
abbrev pub days_of : Text → Option ℕ
days_of text = units_of 100 86400 text

-- hours, as 2h, or days
abbrev pub ago_of : Text → Option ℕ
ago_of text =
    if has_byte 104 text && (length (after_byte 104 text) == 0) then units_of 104 3600 text else days_of text

-- so long before now, or a time
abbrev pub time_from : ℕ → Text → Option ℕ
time_from now text = option_or (option_map (λ ago. now - ago) (ago_of text)) (time_of text)

-- `--now`, or else the clock
abbrev pub now_of : ℕ → Option Text → Option ℕ
now_of clock None = Some clock
now_of clock (Some text) = time_of text

abbrev pub worse_of : Text → Option Worse
worse_of text =
    if bytes_eq text (codes "warning") then Some Worse.Warning
    else (if bytes_eq text (codes "critical") then Some Worse.Critical else None)

-- a value that may be left out; the outer None: it can't be read
abbrev pub optional : {T : Type 0} → (Text → Option T) → Option Text → Option (Option T)
optional value_of None = Some None
optional value_of (Some text) = option_map (λ value. Some value) (value_of text)

-- ---- the options

-- `sdr type` and `sdr entity` have it as the third word
abbrev pub type_text : Verb → List Text → List Row → Option Text
type_text Verb.ListOfType words rows = slice_get words 2
type_text verb words rows = first_of (codes "type") rows

abbrev pub entity_text : Verb → List Text → List Row → Option Text
entity_text Verb.ListOfEntity words rows = slice_get words 2
entity_text verb words rows = first_of (codes "entity") rows

-- `--id` of `sel get` and of `fru print` is no filter
abbrev pub ids_text : Verb → List Row → Option Text
ids_text Verb.GetEntries rows = None
ids_text Verb.PrintInventories rows = None
ids_text verb rows = first_of (codes "id") rows

-- the first time is not after the second
abbrev pub are_ordered : Option ℕ → Option ℕ → Bool
are_ordered (Some since) (Some until) = nat_le since until
are_ordered since until = true

abbrev pub with_filters : Option (Option ℕ) → Option (Option EntityFilter) → Option (Option (List IdRange)) → List Text
    → Option (Option ℕ) → Option (Option ℕ) → Option (Option Worse) → Option Filters
with_filters (Some sensor_type) (Some entity) (Some ids) excluded (Some since) (Some until) (Some worse) =
    if are_ordered since until then Some (record {
      sensor_type = sensor_type;
      entity = entity;
      ids = ids;
      excluded = excluded;
      since = since;
      until = until;
      worse = worse;
    }) else None
with_filters sensor_type entity ids excluded since until worse = None

abbrev pub times_of : Option ℕ → Option Text → Option (Option ℕ)
times_of None text = None
times_of (Some now) text = optional (time_from now) text

-- `clock`: the seconds since 1970
abbrev pub filters_of : ℕ → Verb → List Text → List Row → Option Filters
filters_of clock verb words rows = with_filters (optional sensor_type_of (type_text verb words rows))
    (optional entity_of (entity_text verb words rows)) (optional ids_of (ids_text verb rows)) (values_of (codes "exclude") rows)
    (times_of (now_of clock (first_of (codes "now") rows)) (first_of (codes "since") rows))
    (times_of (now_of clock (first_of (codes "now") rows)) (first_of (codes "until") rows))
    (optional worse_of (first_of (codes "worse") rows))
