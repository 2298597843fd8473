-- The objects of multirecords (Platform Management FRU Information Storage Definition v1.0, section 16).
use Rattle.std.specs.Prelude.{◌≡◌, ℕ, nat_le, if◌then◌else◌, Option, Some, None, option_map, Result, Ok, Err, List, [], ◌∷◌, ◌++◌, slice_get, slice_index, codes}
use Rattle.json.specs.Json.{Json, boolean, number, string}
use Rattle.ipmi_text.specs.Decimal.{IsDecimalOf}
use Rattle.ipmi_fru.specs.Prelude.{MultiRecord, access_text, dc_fields, form_of}
use Rattle.ipmi_fru.specs.declared.multirecord.MultiFault.{MultiFault}
use Rattle.ipmi_fru.specs.declared.record_text.DcFields.{DcFields}
use Rattle.ipmi_fru.specs.declared.record_text.DcKind.{DcKind}
use Rattle.ipmi_fru.specs.declared.record_text.RecordForm.{RecordForm}
use Rattle.ipmi_json.specs.Object.{array_in, integer, object_in, Pair, text_or_null}
use Rattle.ipmi_json.specs.Record.{raw_members}

-- the names of record types, starting with 00h (table 16-2); 0Bh to BFh are reserved, and C0h to FFh are OEM types
abbrev pub record_types : List (List ℕ)
record_types =
    codes "power_supply" ∷
    codes "dc_output" ∷
    codes "dc_load" ∷
    codes "management_access" ∷
    codes "base_compatibility" ∷
    codes "extended_compatibility" ∷
    codes "asf_fixed_smbus_device" ∷
    codes "asf_legacy_device_alerts" ∷
    codes "asf_remote_control" ∷
    codes "extended_dc_output" ∷
    codes "extended_dc_load" ∷ []

abbrev pub record_type_name : ℕ → Option (List ℕ)
record_type_name type =
    if nat_le 0xc0 type then Some (codes "oem") else slice_get record_types type

abbrev pub record_head : List ℕ → MultiRecord → List Pair
record_head kind r =
    (codes "kind", string kind)
    ∷ (codes "type", integer r.kind)
    ∷ (codes "type_name", text_or_null (record_type_name r.kind))
    ∷ []

-- the number of an output or a load; only an output can be a standby one
abbrev pub number_members : DcKind → DcFields → List Pair
number_members DcKind.Output fields =
    (codes "number", integer fields.number) ∷ (codes "standby", boolean fields.standby) ∷ []
number_members DcKind.Load fields = (codes "number", integer fields.number) ∷ []

abbrev pub dc_word : DcKind → List ℕ
dc_word DcKind.Output = codes "dc_output"
dc_word DcKind.Load = codes "dc_load"

-- the limits of an output are deviations, and those of a load are voltages
abbrev pub low_key : DcKind → List ℕ
low_key DcKind.Output = codes "negative_deviation_volts"
low_key DcKind.Load = codes "minimum_volts"

abbrev pub high_key : DcKind → List ℕ
high_key DcKind.Output = codes "positive_deviation_volts"
high_key DcKind.Load = codes "maximum_volts"

abbrev pub current_members : DcFields → List Pair
current_members fields =
    (codes "ripple_millivolts", integer fields.ripple)
    ∷ (codes "minimum_milliamperes", integer fields.least_current)
    ∷ (codes "maximum_milliamperes", integer fields.greatest_current)
    ∷ []

-- the voltages and the currents
pub record AreRangeMembers (kind : DcKind) (fields : DcFields) (ms : List Pair) : Type 0 where
  pub nominal : List ℕ
  pub low : List ℕ
  pub high : List ℕ
  pub nominal_is : IsDecimalOf fields.nominal.0 nominal
  pub low_is : IsDecimalOf fields.low.0 low
  pub high_is : IsDecimalOf fields.high.0 high
  pub are : ms ≡
      (codes "nominal_volts", number nominal)
      ∷ (low_key kind, number low)
      ∷ (high_key kind, number high)
      ∷ current_members fields

pub record AreDcMembers (kind : DcKind) (r : MultiRecord) (ms : List Pair) : Type 0 where
  pub ranges : List Pair
  pub are_ranges : AreRangeMembers kind (dc_fields r.bytes) ranges
  pub are : ms ≡ (record_head (dc_word kind) r ++ number_members kind (dc_fields r.bytes)) ++ ranges

-- management access: the subtype and the value after it
abbrev pub access_members : List ℕ → List Pair
access_members bytes =
    (codes "subtype", integer (slice_index bytes 0))
    ∷ (codes "value", string (access_text bytes))
    ∷ []

-- a record in the form in which ipmi_fru prints it: an output or a load, management access, or only its data
abbrev pub AreFormMembers : RecordForm → MultiRecord → List Pair → Type 0
AreFormMembers (RecordForm.Dc kind) r ms = AreDcMembers kind r ms
AreFormMembers RecordForm.Access r ms =
    ms ≡ record_head (codes "management_access") r ++ access_members r.bytes
AreFormMembers RecordForm.Other r ms = ms ≡ record_head (codes "other") r

pub record IsRecordObject (r : MultiRecord) (j : Json) : Type 0 where
  pub told : List Pair
  pub are_told : AreFormMembers (form_of r) r told
  pub is : j ≡ object_in (told ++ raw_members r.bytes)

abbrev pub AreObjects : List MultiRecord → List Json → Type 0
AreObjects [] js = js ≡ []
AreObjects (r ∷ records) js =
    (j : Json) × (more : List Json) × (IsRecordObject r j
    × (AreObjects records more × (js ≡ j ∷ more)))

-- the words for faults
abbrev pub record_fault_word : MultiFault → List ℕ
record_fault_word MultiFault.Outside = codes "outside"
record_fault_word MultiFault.HeaderSum = codes "header_checksum"
record_fault_word MultiFault.DataSum = codes "data_checksum"

-- the records among the items, and the last fault, or the earlier fault if there is none
abbrev pub records_among : List (Result MultiRecord MultiFault) → List MultiRecord
records_among [] = []
records_among (Ok r ∷ items) = r ∷ records_among items
records_among (Err f ∷ items) = records_among items

abbrev pub fault_among : Option MultiFault → List (Result MultiRecord MultiFault) → Option MultiFault
fault_among before [] = before
fault_among before (Ok r ∷ items) = fault_among before items
fault_among before (Err f ∷ items) = fault_among (Some f) items

-- the records and the fault after the last one
pub record AreRecordMembers (items : List (Result MultiRecord MultiFault)) (ms : List Pair) : Type 0 where
  pub objects : List Json
  pub are_objects : AreObjects (records_among items) objects
  pub are : ms ≡ (codes "records", array_in objects)
      ∷ (codes "records_fault", text_or_null (option_map record_fault_word (fault_among None items)))
      ∷ []
