-- A record, an entry and an info have at most one text.
use Rattle.std.proofs.Common.{◌≡◌, ◌∙◌, ℕ, Bool, true, false, Option, None, Some, ℤ, List, [], ◌∷◌, length, slice_index, ◌==◌, if◌then◌else◌, ◌<◌, inl, inr, sym, arith}
use Rattle.std.proofs.lemmas.Bool.{cases_lt}
use Rattle.std.proofs.lemmas.List.{get_or_past}
use Rattle.byteorder.specs.Endian.{little_from}
use Rattle.byteorder.specs.Numbers.{little_from-lt}
use Rattle.ipmi_records.specs.Below.{AreBytes, reading_value, IsUtcTextOf, DecimalIsUnique, UtcTextIsUnique}
use Rattle.ipmi_records.specs.Prelude.{KnownReading, Shown, SdrView, SelView, Threshold, IsRawText, IsReadingColumn, IsSensorColumn, IsValueText, analog_format, shown_of, unit_text_in, IsInfoBlock, AreReadingLines, AreThresholdTexts, AreValueLines, IsExtendedLine, IsSdrBlock, IsSdrLine, IsThresholdText, thresholds_of, entry_bytes, AreFieldLines, IsSelBlock, IsSelLine, factors_in, is_readable, sensor_in, threshold_in}

-- ---- sensor data records

module _ (one_text : DecimalIsUnique) where
  one_value : (value : Option ℤ) (unit : List ℕ) (raw : ℕ) (text other : List ℕ)
      → IsValueText value unit raw text → IsValueText value unit raw other → text ≡ other
  one_value None unit raw text other h k = h ∙ sym k
  one_value (Some value) unit raw text other h k = cc (one_text value h.number k.number h.is_decimal k.is_decimal)

  one_raw : (bytes : List ℕ) (raw : ℕ) (text other : List ℕ) → IsRawText bytes raw text
      → IsRawText bytes raw other → text ≡ other
  one_raw bytes raw = one_value (reading_value (factors_in bytes) raw) (unit_text_in bytes) raw

  one_sensor : (s : Shown) (analog : Option (List ℕ)) (text other : List ℕ)
      → IsSensorColumn s analog text → IsSensorColumn s analog other → text ≡ other
  one_sensor (Shown.Value reading) (Some bytes) text other h k = one_raw bytes reading.raw text other h k
  one_sensor _ _ text other h k = h ∙ sym k

  pub one_column : (view : SdrView) (reading : KnownReading) (text other : List ℕ)
      → IsReadingColumn view reading text → IsReadingColumn view reading other → text ≡ other
  one_column (SdrView.Full bytes) reading text other h k = one_sensor (shown_of (sensor_in bytes) reading) (if analog_format bytes == 3 then None else Some bytes) text other h k
  one_column (SdrView.Compact bytes) reading text other h k = one_sensor (shown_of (sensor_in bytes) reading) None text other h k
  one_column _ reading text other h k = h ∙ sym k

  pub one_sdr_line : (view : SdrView) (reading : KnownReading) (text other : List ℕ)
      → IsSdrLine view reading text → IsSdrLine view reading other → text ≡ other
  one_sdr_line view reading text other h k = cc (one_column view reading h.column k.column h.is_column k.is_column)

  pub one_extended_line : (view : SdrView) (reading : KnownReading) (text other : List ℕ)
      → IsExtendedLine view reading text → IsExtendedLine view reading other → text ≡ other
  one_extended_line view reading text other h k = cc (one_column view reading h.column k.column h.is_column k.is_column)

  one_pair : (view : SdrView) (reading : KnownReading) (text other : List ℕ)
      → AreReadingLines view reading text → AreReadingLines view reading other → text ≡ other
  one_pair view reading text other h k = cc (one_column view reading h.column k.column h.is_column k.is_column)

  one_threshold : (readable : Bool) (bytes : List ℕ) (threshold : Threshold) (text other : List ℕ)
      → IsThresholdText readable bytes threshold text
      → IsThresholdText readable bytes threshold other → text ≡ other
  one_threshold false bytes threshold text other h k = h ∙ sym k
  one_threshold true bytes threshold text other h k = cc (one_raw bytes (threshold_in threshold bytes) h.value k.value h.is_value k.is_value)

  pub one_list : (bytes : List ℕ) (thresholds : List Threshold) (text other : List ℕ)
      → AreThresholdTexts bytes thresholds text → AreThresholdTexts bytes thresholds other
      → text ≡ other
  one_list bytes [] text other h k = h ∙ sym k
  one_list bytes (threshold ∷ thresholds) text other h k =
      h.2.1.1 ∙ rw (one_threshold (is_readable threshold bytes) bytes threshold h.0 k.0 h.2.0 k.2.0, one_list bytes thresholds h.1 k.1 h.2.1.0 k.2.1.0) (sym k.2.1.1)

  one_values : (view : SdrView) (reading : KnownReading) (text other : List ℕ)
      → AreValueLines view reading text → AreValueLines view reading other → text ≡ other
  one_values (SdrView.Full bytes) reading text other h k =
      h.text_is ∙ rw (one_pair (SdrView.Full bytes) reading h.columns k.columns h.are_columns k.are_columns, one_list bytes (thresholds_of (sensor_in bytes)) h.thresholds k.thresholds h.are_thresholds k.are_thresholds) (sym k.text_is)
  one_values (SdrView.Compact bytes) reading text other h k = one_pair (SdrView.Compact bytes) reading text other h k
  one_values _ reading text other h k = h ∙ sym k

  pub one_sdr_block : (id : ℕ) (view : SdrView) (reading : KnownReading) (text other : List ℕ)
      → IsSdrBlock id view reading text → IsSdrBlock id view reading other → text ≡ other
  one_sdr_block id view reading text other h k = cc (one_values view reading h.values k.values h.are_values k.are_values)

-- ---- the event log and infos

module _ (one_utc_text : UtcTextIsUnique) where
  -- the value at a place is a byte; past the end it is 0
  slice_index-lt : (bytes : List ℕ) → AreBytes bytes → (k : ℕ) → slice_index bytes k < 256
  slice_index-lt bytes are k = elim (cases_lt k (length bytes)) [
    | inl within ↦ are k 0 within
    | inr past ↦ let none = get_or_past bytes k 0 past in omega (arith, none)
  ]

  one_time : (place : ℕ) (bytes text other : List ℕ) → AreBytes bytes
      → IsUtcTextOf (little_from place 4 bytes) text → IsUtcTextOf (little_from place 4 bytes) other
      → text ≡ other
  one_time place bytes text other are = one_utc_text (little_from place 4 bytes) text other (omega (arith, little_from-lt place 4 bytes (slice_index-lt bytes are)))

  pub one_sel_line : (id : ℕ) (view : SelView) (text other : List ℕ) → AreBytes (entry_bytes view)
      → IsSelLine id view text → IsSelLine id view other → text ≡ other
  one_sel_line id (SelView.Event bytes) text other are h k = cc (one_time 3 bytes h.time k.time are h.is_time k.is_time)
  one_sel_line id (SelView.OemTimed bytes) text other are h k = cc (one_time 3 bytes h.time k.time are h.is_time k.is_time)
  one_sel_line id _ text other are h k = h ∙ sym k

  one_fields : (view : SelView) (text other : List ℕ) → AreBytes (entry_bytes view)
      → AreFieldLines view text → AreFieldLines view other → text ≡ other
  one_fields (SelView.Event bytes) text other are h k = cc (one_time 3 bytes h.time k.time are h.is_time k.is_time)
  one_fields (SelView.OemTimed bytes) text other are h k = cc (one_time 3 bytes h.time k.time are h.is_time k.is_time)
  one_fields _ text other are h k = h ∙ sym k

  pub one_sel_block : (id : ℕ) (view : SelView) (text other : List ℕ) → AreBytes (entry_bytes view)
      → IsSelBlock id view text → IsSelBlock id view other → text ≡ other
  one_sel_block id view text other are h k = cc (one_fields view h.fields k.fields are h.are_fields k.are_fields)

  pub one_info_block : (bytes text other : List ℕ) → AreBytes bytes → IsInfoBlock bytes text
      → IsInfoBlock bytes other → text ≡ other
  one_info_block bytes text other are h k =
      cc (one_time 5 bytes h.addition k.addition are h.is_addition k.is_addition, one_time 9 bytes h.erase k.erase are h.is_erase k.is_erase)
