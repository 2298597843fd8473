-- Which sensor data records and which entries of the event log a listing prints.
use Rattle.std.specs.Prelude.{◌≡◌, ℕ, ◌==◌, ◌&&◌, ◌||◌, not, nat_le, nat_lt, Bool, true, false, Option, Some, None, option_map, Result, Ok, Err, List, [], bytes_eq, if◌then◌else◌}
use Rattle.std.specs.List.{filter, list_any}
use Rattle.std.specs.Option.{option_or}
use Rattle.ipmi_bus.specs.Shelf.{Row}
use Rattle.ipmi_records.specs.Sdr.{sdr_view_of}
use Rattle.ipmi_records.specs.declared.sdr.SdrFault.{SdrFault}
use Rattle.ipmi_records.specs.declared.sdr.SdrView.{SdrView}
use Rattle.ipmi_command_line.specs.declared.task.Kind.{Kind}
use Rattle.ipmi_command_line.specs.declared.filters.EntityFilter.{EntityFilter}
use Rattle.ipmi_command_line.specs.declared.filters.Filters.{Filters}
use Rattle.ipmi_command_line.specs.declared.filters.IdRange.{IdRange}
use Rattle.ipmi_command_line.specs.declared.filters.Worse.{Worse}
use Rattle.ipmi_events.specs.Severity.{event_severity}
use Rattle.ipmi_events.specs.declared.severity.Severity.{Severity}
use Rattle.ipmi_records.specs.Sdr as sdr
use Rattle.ipmi_records.specs.Sel as sel
use Rattle.ipmi_records.specs.declared.sel.SelView.{SelView}
use Rattle.ipmi_selection.specs.declared.detail.Detail.{Detail}
use Rattle.ipmi_records.specs.declared.entity.Entity.{Entity}

-- the records of this kind that pass the filters, if there are any
pub record Selected : Type 0 where
  pub kind : Kind
  pub filters : Option Filters

abbrev pub of_kind : Kind → Selected
of_kind kind = record { kind = kind; filters = None }

-- those of the same kind that pass these filters
abbrev pub with_filters : Filters → Selected → Selected
with_filters filters selection = record { kind = selection.kind; filters = Some filters }

-- entries in this detail that pass the filters, if there are any
pub record SelectedEntries : Type 0 where
  pub detail : Detail
  pub filters : Option Filters

abbrev pub in_detail : Detail → SelectedEntries
in_detail detail = record { detail = detail; filters = None }

abbrev pub with_entry_filters : Filters → SelectedEntries → SelectedEntries
with_entry_filters filters selection = record { detail = selection.detail; filters = Some filters }

-- ---- kinds

-- the type byte determines the kind of a record, even of a record with a fault
abbrev pub is_of_kind : Kind → ℕ → Bool
is_of_kind Kind.Sensors type = (type == 0x01) || (type == 0x02)
is_of_kind Kind.All type = true
is_of_kind Kind.Full type = type == 0x01
is_of_kind Kind.Compact type = type == 0x02
is_of_kind Kind.Event type = type == 0x03
is_of_kind Kind.Generic type = type == 0x10
is_of_kind Kind.Mc type = type == 0x12
is_of_kind Kind.Fru type = type == 0x11

abbrev pub row_is_of_kind : Kind → Row → Bool
row_is_of_kind kind row = is_of_kind kind (sdr.record_type row.bytes)

-- ---- names

-- the record has this printed name; a record of a type without a view of its own has no name
abbrev pub is_name : List ℕ → Option (List ℕ) → Bool
is_name wanted None = false
is_name wanted (Some name) = bytes_eq wanted name

-- the printed name of a record is one of the names
abbrev pub has_one_of : List (List ℕ) → Result SdrView SdrFault → Bool
has_one_of names (Ok view) = list_any (λ name. is_name name (sdr.name_of view)) names
has_one_of names (Err fault) = false

-- ---- filters

-- a filter that was not given lets each record pass; another one no record without what it looks at
abbrev pub is_wanted : {W T : Type 0} → (W → T → Bool) → Option W → Option T → Bool
is_wanted Is None found = true
is_wanted Is (Some wanted) None = false
is_wanted Is (Some wanted) (Some found) = Is wanted found

abbrev pub is_number : ℕ → ℕ → Bool
is_number wanted found = wanted == found

-- the sensor type of the sensor that a record describes; a record with a fault describes none
abbrev pub sensor_type_of : Result SdrView SdrFault → Option ℕ
sensor_type_of (Ok view) = option_map (λ sensor. sensor.sensor_type) (sdr.sensor_of view)
sensor_type_of (Err fault) = None

-- the entity of the sensor or of the device that a record describes
abbrev pub entity_of : SdrView → Option Entity
entity_of view = option_or (option_map (λ sensor. sensor.entity) (sdr.sensor_of view))
    (option_map (λ locator. locator.entity) (sdr.locator_of view))

abbrev pub entity_in : Result SdrView SdrFault → Option Entity
entity_in (Ok view) = entity_of view
entity_in (Err fault) = None

-- the id is that of the entity, and so is the instance, if the filter has one
abbrev pub is_entity : EntityFilter → Entity → Bool
is_entity wanted entity = (wanted.id == entity.id) && is_wanted is_number wanted.instance (Some entity.instance)

-- the id is in one of the ranges
abbrev pub is_among : List IdRange → ℕ → Bool
is_among ranges id = list_any (λ range. nat_le range.first id && nat_le id range.last) ranges

-- not before the first time and not after the last one, if they are given
abbrev pub is_between : Option ℕ → Option ℕ → Option ℕ → Bool
is_between since until time = is_wanted nat_le since time && is_wanted (λ last found. nat_le found last) until time

-- whether a filter of sensor data records looks at more than the id; false only if no type, no entity and no name is given
abbrev pub LooksInside : Filters → Bool → Type 0
LooksInside filters true = Unit {0}
LooksInside filters false = (filters.sensor_type ≡ None) × (filters.entity ≡ None) × (filters.excluded ≡ [])

-- as bad as this, or worse
abbrev pub is_at_least : Worse → Severity → Bool
is_at_least worse Severity.Nominal = false
is_at_least worse Severity.Critical = true
is_at_least Worse.Warning Severity.Warning = true
is_at_least Worse.Critical Severity.Warning = false

-- a record passes all filters; it has no time, and no severity
abbrev pub passes : Filters → Row → Bool
passes filters row =
    is_wanted is_number filters.sensor_type (sensor_type_of (sdr_view_of row.bytes))
    && (is_wanted is_entity filters.entity (entity_in (sdr_view_of row.bytes))
    && (is_wanted is_among filters.ids (Some row.id)
    && (is_between filters.since filters.until None
    && (is_wanted is_at_least filters.worse None
    && not (has_one_of filters.excluded (sdr_view_of row.bytes))))))

-- a check looks at the sensors that pass the filters, and at each record with a fault, which may be one of a sensor, unless its id
-- is filtered out
abbrev pub checks_view : Filters → Row → Result SdrView SdrFault → Bool
checks_view filters row (Err fault) = true
checks_view filters row (Ok (SdrView.Full bytes)) = passes filters row
checks_view filters row (Ok (SdrView.Compact bytes)) = passes filters row
checks_view filters row (Ok view) = false

abbrev pub checks : Filters → Row → Bool
checks filters row =
    is_wanted is_among filters.ids (Some row.id) && checks_view filters row (sdr_view_of row.bytes)

abbrev pub if_passes : Option Filters → Row → Bool → Bool
if_passes None row chosen = chosen
if_passes (Some filters) row chosen = chosen && passes filters row

abbrev pub selects : Selected → Row → Bool
selects selection row = if_passes selection.filters row (row_is_of_kind selection.kind row)

-- ---- entries of the event log

-- the sensor type of an event; other entries have none
abbrev pub event_sensor_type : SelView → Option ℕ
event_sensor_type (SelView.Event bytes) = Some (sel.sensor_type bytes)
event_sensor_type _ = None

-- seconds since 1970, if a time stamp says so (IPMI v2.0, section 37)
abbrev pub clock_time : ℕ → Option ℕ
clock_time stamp = if nat_lt 0x2000_0000 stamp && nat_lt stamp 0xffff_ffff then Some stamp else None

-- the time of an entry; one without a time stamp, or whose stamp is no time of the clock, has none
abbrev pub time_of : SelView → Option ℕ
time_of (SelView.Event bytes) = clock_time (sel.time_stamp bytes)
time_of (SelView.OemTimed bytes) = clock_time (sel.time_stamp bytes)
time_of _ = None

-- the severity of an event; other entries have none
abbrev pub severity_of : SelView → Option Severity
severity_of (SelView.Event bytes) = event_severity bytes
severity_of _ = None

-- an entry with this id passes all filters; it has no entity, and no name
abbrev pub passes_entry : Filters → ℕ → SelView → Bool
passes_entry filters id entry =
    is_wanted is_number filters.sensor_type (event_sensor_type entry)
    && (is_wanted is_entity filters.entity None
    && (is_wanted is_among filters.ids (Some id)
    && (is_between filters.since filters.until (time_of entry) && is_wanted is_at_least filters.worse (severity_of entry))))

abbrev pub is_passed : Option Filters → ℕ → SelView → Bool
is_passed None id entry = true
is_passed (Some filters) id entry = passes_entry filters id entry

abbrev pub selects_entry : SelectedEntries → Row → Bool
selects_entry selection row = is_passed selection.filters row.id (sel.sel_view_of row.bytes)

abbrev pub chosen_by : Option Filters → List Row → List Row
chosen_by None rows = rows
chosen_by (Some filters) rows = filter (λ row. passes_entry filters row.id (sel.sel_view_of row.bytes)) rows

-- the entries that pass the filters, or all if there are no filters
abbrev pub chosen : SelectedEntries → List Row → List Row
chosen selection rows = chosen_by selection.filters rows
