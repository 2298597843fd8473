-- The text of an inventory: the lines of the chassis, the board and the product, then those of the
-- records. Lines, labels and the names of faults are the project's own. So are two choices: volts
-- are in two's complement, and the standard's marks for an unspecified value are printed as
-- numbers. Record types are the standard's (Platform Management FRU Information Storage Definition
-- v1.0, sections 16 and 18).
use Rattle.std.specs.Prelude.{◌≡◌, ℕ, ◌%◌, ◌^◌, ◌==◌, ◌&&◌, nat_le, if◌then◌else◌, pos, ◌*ℤ◌, Option, Some, None, Result, Ok, Err, List, [], ◌∷◌, ◌++◌, length, drop, take, slice_index, codes, decimal}
use Rattle.byteorder.specs.Endian.{little_from, twos_complement}
use Rattle.ipmi_text.specs.FieldText.{binary_text, latin1_text, fru_text_of}
use Rattle.ipmi_text.specs.Chassis.{chassis_text_of}
use Rattle.ipmi_text.specs.Decimal.{IsDecimalOf}
use Rattle.ipmi_text.specs.Lines.{labelled}
use Rattle.ipmi_text.specs.Times.{IsMinutesTextOf}
use Rattle.ipmi_text.specs.declared.decimal.Fixed.{Fixed}
use Rattle.ipmi_fru.specs.declared.header.FruFault.{FruFault}
use Rattle.ipmi_fru.specs.declared.area.AreaKind.{AreaKind}
use Rattle.ipmi_fru.specs.declared.area.AreaKind.TheVariants.{Chassis, Board, Product}
use Rattle.ipmi_fru.specs.declared.area.AreaFault.{AreaFault}
use Rattle.ipmi_fru.specs.declared.multirecord.MultiFault.{MultiFault}
use Rattle.ipmi_fru.specs.declared.record_text.DcFields.{DcFields}
use Rattle.ipmi_fru.specs.declared.record_text.DcKind.{DcKind}
use Rattle.ipmi_fru.specs.declared.record_text.DcKind.TheVariants.{Output, Load}
use Rattle.ipmi_fru.specs.declared.record_text.RecordForm.{RecordForm}
use Rattle.ipmi_fru.specs.declared.record_text.RecordForm.TheVariants.{Dc, Access, Other}
use Rattle.ipmi_fru.specs.Header.{header_fault, fru_fault_name}
use Rattle.ipmi_fru.specs.Field.{AreaField}
use Rattle.ipmi_fru.specs.Area.{Area, IsFound, area_fault_name}
use Rattle.ipmi_fru.specs.Multirecord.{MultiRecord, multi_fault_name, HasItems}

-- ---- areas

abbrev pub area_name : AreaKind → List ℕ
area_name Chassis = codes "Chassis"
area_name Board = codes "Board"
area_name Product = codes "Product"

-- the labels of an area's fields, in order
abbrev pub labels_of : AreaKind → List (List ℕ)
labels_of Chassis = codes "Chassis Part Number" ∷ codes "Chassis Serial" ∷ []
labels_of Board =
    codes "Board Mfg"
    ∷ codes "Board Product"
    ∷ codes "Board Serial"
    ∷ codes "Board Part Number"
    ∷ codes "Board FRU ID"
    ∷ []
labels_of Product =
    codes "Product Manufacturer"
    ∷ codes "Product Name"
    ∷ codes "Product Part Number"
    ∷ codes "Product Version"
    ∷ codes "Product Serial"
    ∷ codes "Product Asset Tag"
    ∷ codes "Product FRU ID"
    ∷ []

-- the language of an area's texts; it is English for a chassis
abbrev pub language_of : AreaKind → List ℕ → ℕ
language_of Chassis area = 0
language_of _ area = slice_index area 2

-- no line for a field without text
abbrev pub field_line : List ℕ → List ℕ → List ℕ
field_line label [] = []
field_line label (character ∷ text) = labelled label (character ∷ text)

-- the lines of fields, each with the label of its position; fields past the last label get the
-- label `extra`; a field without text also uses up its label
abbrev pub field_lines : ℕ → List (List ℕ) → List ℕ → List AreaField → List ℕ
field_lines language labels extra [] = []
field_lines language [] extra (field ∷ fields) =
    field_line extra (fru_text_of field.code language field.bytes)
    ++ field_lines language [] extra fields
field_lines language (label ∷ labels) extra (field ∷ fields) =
    field_line label (fru_text_of field.code language field.bytes)
    ++ field_lines language labels extra fields

-- the line before those of the fields: the type of a chassis, the date of a board
abbrev pub IsLead : AreaKind → List ℕ → List ℕ → Type 0
IsLead Chassis area text =
    text ≡ labelled (codes "Chassis Type") (chassis_text_of (slice_index area 2))
IsLead Board area text =
    (date : List ℕ) × (IsMinutesTextOf (little_from 3 3 area) date
    × (text ≡ labelled (codes "Board Mfg Date") date))
IsLead Product area text = text ≡ []

-- the lines of an area
pub record IsAreaText (area : Area) (text : List ℕ) : Type 0 where
  pub lead : List ℕ
  pub is_lead : IsLead area.kind area.bytes lead
  pub text_is : text ≡ lead ++ field_lines (language_of area.kind area.bytes) (labels_of area.kind)
      (area_name area.kind ++ codes " Extra") area.fields

-- the text for an area of a kind: nothing if the inventory has none, the lines of the area, or its
-- fault
abbrev pub IsTextFound : AreaKind → Option (Result Area AreaFault) → List ℕ → Type 0
IsTextFound kind None text = text ≡ []
IsTextFound kind (Some (Ok area)) text = IsAreaText area text
IsTextFound kind (Some (Err f)) text =
    text ≡ labelled (area_name kind ++ codes " fault") (area_fault_name f)

pub record IsTextOfArea (kind : AreaKind) (bytes text : List ℕ) : Type 0 where
  pub found : Option (Result Area AreaFault)
  pub is_found : IsFound kind bytes found
  pub is_text : IsTextFound kind found text

-- ---- records

-- the volts in the two bytes at an offset: a signed number of 10 mV
abbrev pub volts_at : ℕ → List ℕ → Fixed
volts_at place bytes = record {
  0 = twos_complement 2 (little_from place 2 bytes) *ℤ pos (10 ^ 14);
}

abbrev pub IsVoltsAt : ℕ → List ℕ → List ℕ → Type 0
IsVoltsAt place bytes text = IsDecimalOf (volts_at place bytes).0 text

-- the values in the data of an output or a load; bit 7 of the first byte has a meaning only for an output
abbrev pub dc_fields : List ℕ → DcFields
dc_fields bytes = record {
  number = slice_index bytes 0 % 16;
  standby = nat_le 128 (slice_index bytes 0);
  nominal = volts_at 1 bytes;
  low = volts_at 3 bytes;
  high = volts_at 5 bytes;
  ripple = little_from 7 2 bytes;
  least_current = little_from 9 2 bytes;
  greatest_current = little_from 11 2 bytes;
}

-- the text after the voltages: the ripple in mV, and the minimum and the maximum current in mA
abbrev pub current_text : List ℕ → List ℕ
current_text bytes =
    codes "ripple " ++ (decimal (little_from 7 2 bytes)
    ++ (codes " mV, current " ++ (decimal (little_from 9 2 bytes)
    ++ (codes " to " ++ (decimal (little_from 11 2 bytes) ++ codes " mA\n")))))

-- the start of the line of an output and of a load
abbrev pub dc_start : DcKind → List ℕ
dc_start Output = codes "DC Output "
dc_start Load = codes "DC Load "

-- bit 7 of the byte with an output's number
abbrev pub standby_text : DcKind → ℕ → List ℕ
standby_text Output byte = if nat_le 128 byte then codes " standby" else []
standby_text Load byte = []

-- the limits of an output are deviations; those of a load are voltages
abbrev pub before_low : DcKind → List ℕ
before_low Output = codes " V, negative deviation "
before_low Load = codes " V, "

abbrev pub before_high : DcKind → List ℕ
before_high Output = codes " V, positive deviation "
before_high Load = codes " to "

-- the voltages are in data bytes 1 to 6: the nominal voltage, and two limits or deviations
pub record IsDcText (kind : DcKind) (bytes text : List ℕ) : Type 0 where
  pub nominal : List ℕ
  pub low : List ℕ
  pub high : List ℕ
  pub nominal_is : IsVoltsAt 1 bytes nominal
  pub low_is : IsVoltsAt 3 bytes low
  pub high_is : IsVoltsAt 5 bytes high
  pub text_is : text ≡ dc_start kind ++
      (decimal (slice_index bytes 0 % 16) ++ (standby_text kind (slice_index bytes 0)
      ++ (codes ": nominal " ++ (nominal
      ++ (before_low kind ++ (low
      ++ (before_high kind ++ (high ++ (codes " V, " ++ current_text bytes)))))))))

-- the data of a management access record after its subtype: text for subtypes 01h to 06h, otherwise
-- hex
abbrev pub access_text : List ℕ → List ℕ
access_text bytes =
    if nat_le 1 (slice_index bytes 0) && nat_le (slice_index bytes 0) 6
    then latin1_text (drop 1 bytes) else binary_text (drop 1 bytes)

abbrev pub access_line : List ℕ → List ℕ
access_line bytes = codes "Management Access 0x"
    ++ (binary_text (take 1 bytes) ++ (codes ": " ++ (access_text bytes ++ codes "\n")))

-- a record of another type, or with too few data bytes
abbrev pub other_line : MultiRecord → List ℕ
other_line r = codes "Record 0x"
    ++ (binary_text (r.kind ∷ []) ++ (codes ": " ++ (binary_text r.bytes ++ codes "\n")))

-- the form in which a record is printed, by its type and the number of its data bytes
abbrev pub form_of : MultiRecord → RecordForm
form_of r =
    if (r.kind == 1) && nat_le 13 (length r.bytes) then Dc Output
    else if (r.kind == 2) && nat_le 13 (length r.bytes) then Dc Load
    else if (r.kind == 3) && nat_le 1 (length r.bytes) then Access
    else Other

abbrev pub IsTextInForm : RecordForm → MultiRecord → List ℕ → Type 0
IsTextInForm (Dc kind) r text = IsDcText kind r.bytes text
IsTextInForm Access r text = text ≡ access_line r.bytes
IsTextInForm Other r text = text ≡ other_line r

-- the line of a record, or of the fault after the last record
abbrev pub IsItemText : Result MultiRecord MultiFault → List ℕ → Type 0
IsItemText (Ok r) text = IsTextInForm (form_of r) r text
IsItemText (Err f) text = text ≡ labelled (codes "Record fault") (multi_fault_name f)

-- one line for each item
abbrev pub AreItemTexts : List (Result MultiRecord MultiFault) → List ℕ → Type 0
AreItemTexts [] text = text ≡ []
AreItemTexts (item ∷ items) text =
    (line more : List ℕ) × (IsItemText item line
    × (AreItemTexts items more × (text ≡ line ++ more)))

-- the text for the records: nothing if there are none
pub record IsTextOfRecords (bytes text : List ℕ) : Type 0 where
  pub items : List (Result MultiRecord MultiFault)
  pub are_items : HasItems bytes items
  pub are_texts : AreItemTexts items text

-- ---- the inventory

-- chassis, board, product and records; each is printed independently of the others
pub record IsTextOfAreas (bytes text : List ℕ) : Type 0 where
  pub chassis : List ℕ
  pub board : List ℕ
  pub product : List ℕ
  pub records : List ℕ
  pub is_chassis : IsTextOfArea Chassis bytes chassis
  pub is_board : IsTextOfArea Board bytes board
  pub is_product : IsTextOfArea Product bytes product
  pub is_records : IsTextOfRecords bytes records
  pub text_is : text ≡ chassis ++ (board ++ (product ++ records))

-- the text of an inventory: a single line if its header has a fault
abbrev pub IsTextByFault : Option FruFault → List ℕ → List ℕ → Type 0
IsTextByFault None bytes text = IsTextOfAreas bytes text
IsTextByFault (Some f) bytes text = text ≡ labelled (codes "FRU fault") (fru_fault_name f)

abbrev pub IsFruText : List ℕ → List ℕ → Type 0
IsFruText bytes text = IsTextByFault (header_fault bytes) bytes text
