-- The details in event data 2 and 3 of a threshold event (IPMI v2.0, table 29-6).
use Rattle.std.specs.Prelude.{◌≡◌, ℕ, ◌%◌, ◌==◌, ◌||◌, Bool, true, false, if◌then◌else◌, ℤ, pos, List, [], ◌++◌, codes, Option, Some, None, unwrap_or}
use Rattle.std.specs.Ordering.{int_cmp}
use Rattle.std.specs.declared.cmp.Ordering.{Ordering}
use Rattle.std.specs.declared.cmp.Ordering.TheVariants.{Less, Equal, Greater}
use Rattle.ipmi_text.specs.Appended.{Appends}
use Rattle.ipmi_text.specs.ReadingValue.{reading_value}
use Rattle.ipmi_records.specs.Columns.{IsRawText, IsRawValue, raw_byte_text}
use Rattle.ipmi_records.specs.Prelude.{factors_in}
use Rattle.ipmi_events.specs.declared.event_data.Byte.{Byte}
use Rattle.ipmi_events.specs.declared.event_data.EventData.{EventData}
use Rattle.ipmi_events.specs.declared.event_data.Holding.{Holding}
use Rattle.ipmi_events.specs.Discrete.{raw_part}
use Rattle.ipmi_events.specs.Parts.{parts_text}

-- ---- the reading and the threshold

-- the byte contains a reading or a threshold
abbrev pub has_value : Holding → Bool
has_value Holding.Value = true
has_value _ = false

-- the value of a raw byte with its units, converted by the full record of the sensor if there is
-- one
abbrev pub IsReading : Option (List ℕ) → ℕ → List ℕ → Type 0
IsReading None raw text = text ≡ raw_byte_text raw
IsReading (Some full) raw text = IsRawText full raw text

-- the value without units
abbrev pub IsLimit : Option (List ℕ) → ℕ → List ℕ → Type 0
IsLimit None raw text = text ≡ raw_byte_text raw
IsLimit (Some full) raw text = IsRawValue full raw text

-- the number that is printed of a raw byte: its value by the full record, or the byte itself if
-- there is no value; by one record either all bytes have a value or none
abbrev pub printed_number : Option (List ℕ) → ℕ → ℤ
printed_number None raw = pos raw
printed_number (Some full) raw = unwrap_or (reading_value (factors_in full) raw) (pos raw)

-- how the printed reading compares to the printed threshold
abbrev pub order_of : Option (List ℕ) → EventData → Ordering
order_of full event = int_cmp (printed_number full event.second) (printed_number full event.third)

-- the event says that the reading went high, and not low: its offset is odd (table 42-2)
abbrev pub is_going_high : EventData → Bool
is_going_high event = event.offset % 2 == 1

-- the sign of an order, unless the event says the opposite
abbrev pub sign : Ordering → Bool → List ℕ
sign Less true = codes ", "
sign Less false = codes " < "
sign Equal going_high = codes " = "
sign Greater true = codes " > "
sign Greater false = codes ", "

-- the text between the reading and the threshold; in a deassertion event the reading has crossed
-- back, so no sign would be correct
abbrev pub comparison : Option (List ℕ) → EventData → List ℕ
comparison full event =
    if event.is_deasserted then codes ", "
    else sign (order_of full event) (is_going_high event)

-- the reading, then the threshold
pub record IsComparison (full : Option (List ℕ)) (event : EventData) (text : List ℕ)
    : Type 0 where
  pub reading : List ℕ
  pub limit : List ℕ
  pub is_reading : IsReading full event.second reading
  pub is_limit : IsLimit full event.third limit
  pub text_is : text ≡ codes "Reading "
      ++ (reading ++ (comparison full event ++ (codes "threshold " ++ limit)))

-- the text for an event with or without a reading, and with or without a threshold
abbrev pub IsCompared : Bool → Bool → Option (List ℕ) → EventData → List ℕ → Type 0
IsCompared true true full event text = IsComparison full event text
IsCompared true false full event text =
    Appends (IsReading full event.second) (codes "Reading ") text
IsCompared false true full event text =
    Appends (IsReading full event.third) (codes "Threshold ") text
IsCompared false false full event text = text ≡ []

abbrev pub IsComparedOf : Option (List ℕ) → EventData → List ℕ → Type 0
IsComparedOf full event text =
    IsCompared (has_value event.second_holds) (has_value event.third_holds) full event text

-- ---- codes

-- a byte that contains a code; the standard has no words for it in these events
abbrev pub code_parts : Byte → Holding → ℕ → List (List ℕ)
code_parts byte Holding.Nothing value = []
code_parts byte Holding.Value value = []
code_parts byte Holding.Oem value = raw_part byte value
code_parts byte Holding.Extension value = raw_part byte value

abbrev pub codes_parts : EventData → List (List ℕ)
codes_parts event =
    code_parts Byte.Two event.second_holds event.second
    ++ code_parts Byte.Three event.third_holds event.third

-- ---- both

pub record IsThresholdDetails (event : EventData) (full : Option (List ℕ)) (text : List ℕ)
    : Type 0 where
  pub compared : List ℕ
  pub is_compared : IsComparedOf full event compared
  pub text_is : text ≡ compared ++ parts_text
      (has_value event.second_holds || has_value event.third_holds) (codes_parts event)
