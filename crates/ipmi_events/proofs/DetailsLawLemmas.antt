-- An event has exactly one text of details.
use Rattle.std.proofs.Common.{◌≡◌, ◌∙◌, ℕ, ℤ, Bool, true, false, Option, None, Some, List, ◌==◌, refl, sym}
use Rattle.ipmi_text.specs.Laws.{DecimalExists, DecimalIsUnique}
use Rattle.ipmi_text.specs.ReadingValue.{reading_value}
use Rattle.ipmi_records.specs.Prelude.{factors_in, IsNumberText, IsValueText, unit_text_in}
use Rattle.ipmi_events.specs.declared.event_data.EventData.{EventData}
use Rattle.ipmi_events.specs.Details.{AreDetails, IsDetails}
use Rattle.ipmi_events.specs.EventData.{data_of}
use Rattle.ipmi_events.specs.Threshold.{has_value, IsCompared, IsLimit, IsReading}

module _ (one_decimal : DecimalIsUnique) where
  one_value : (value : Option ℤ) (unit : List ℕ) (raw : ℕ) (text other : List ℕ)
      → IsValueText value unit raw text → IsValueText value unit raw other → text ≡ other
  one_value None unit raw text other h k = h ∙ sym k
  one_value (Some value) unit raw text other h k = cc (one_decimal value h.number k.number h.is_decimal k.is_decimal)

  one_number : (value : Option ℤ) (raw : ℕ) (text other : List ℕ)
      → IsNumberText value raw text → IsNumberText value raw other → text ≡ other
  one_number None raw text other h k = h ∙ sym k
  one_number (Some value) raw text other h k = one_decimal value text other h k

  one_reading : (full : Option (List ℕ)) (raw : ℕ) (text other : List ℕ)
      → IsReading full raw text → IsReading full raw other → text ≡ other
  one_reading None raw text other h k = h ∙ sym k
  one_reading (Some bytes) raw text other h k = one_value (reading_value (factors_in bytes) raw) (unit_text_in bytes) raw text other h k

  one_limit : (full : Option (List ℕ)) (raw : ℕ) (text other : List ℕ)
      → IsLimit full raw text → IsLimit full raw other → text ≡ other
  one_limit None raw text other h k = h ∙ sym k
  one_limit (Some bytes) raw text other h k = one_number (reading_value (factors_in bytes) raw) raw text other h k

  one_comparison : (reading limit : Bool) (full : Option (List ℕ)) (event : EventData)
      (text other : List ℕ) → IsCompared reading limit full event text
      → IsCompared reading limit full event other → text ≡ other
  one_comparison true true full event text other h k =
      let readings = one_reading full event.second h.reading k.reading h.is_reading k.is_reading in
      let limits = one_limit full event.third h.limit k.limit h.is_limit k.is_limit in
      h.text_is ∙ rw (readings, limits) (sym k.text_is)
  one_comparison true false full event text other h k = h.text_is ∙ rw (one_reading full event.second h.part k.part h.is_text k.is_text) (sym k.text_is)
  one_comparison false true full event text other h k = h.text_is ∙ rw (one_reading full event.third h.part k.part h.is_text k.is_text) (sym k.text_is)
  one_comparison false false full event text other h k = h ∙ sym k

  by_kind : (threshold : Bool) (event : EventData) (full : Option (List ℕ)) (text other : List ℕ)
      → AreDetails threshold event full text → AreDetails threshold event full other → text ≡ other
  by_kind true event full text other h k =
      let same = one_comparison (has_value event.second_holds) (has_value event.third_holds) full event h.compared k.compared h.is_compared k.is_compared in
      h.text_is ∙ rw same (sym k.text_is)
  by_kind false event full text other h k = h ∙ sym k

  pub one_text_of_details : (event : List ℕ) (full : Option (List ℕ)) (text other : List ℕ)
      → IsDetails event full text → IsDetails event full other → text ≡ other
  one_text_of_details event full = by_kind ((data_of event).event_type == 0x01) (data_of event) full

module _ (decimal : DecimalExists) where
  value_text : (value : Option ℤ) (unit : List ℕ) (raw : ℕ)
      → (text : List ℕ) × IsValueText value unit raw text
  value_text None unit raw = (_, refl)
  value_text (Some value) unit raw = let number = decimal value in (_, record { number = number.0; is_decimal = number.1; text_is = refl })

  number_text : (value : Option ℤ) (raw : ℕ) → (text : List ℕ) × IsNumberText value raw text
  number_text None raw = (_, refl)
  number_text (Some value) raw = decimal value

  reading : (full : Option (List ℕ)) (raw : ℕ) → (text : List ℕ) × IsReading full raw text
  reading None raw = (_, refl)
  reading (Some bytes) raw = value_text (reading_value (factors_in bytes) raw) (unit_text_in bytes) raw

  limit : (full : Option (List ℕ)) (raw : ℕ) → (text : List ℕ) × IsLimit full raw text
  limit None raw = (_, refl)
  limit (Some bytes) raw = number_text (reading_value (factors_in bytes) raw) raw

  comparison : (value limited : Bool) (full : Option (List ℕ)) (event : EventData)
      → (text : List ℕ) × IsCompared value limited full event text
  comparison true true full event =
      let value = reading full event.second in
      let threshold = limit full event.third in
      (_, record { reading = value.0; limit = threshold.0; is_reading = value.1; is_limit = threshold.1; text_is = refl })
  comparison true false full event = let value = reading full event.second in (_, record { part = value.0; is_text = value.1; text_is = refl })
  comparison false true full event = let value = reading full event.third in (_, record { part = value.0; is_text = value.1; text_is = refl })
  comparison false false full event = (_, refl)

  of_kind : (threshold : Bool) (event : EventData) (full : Option (List ℕ))
      → (text : List ℕ) × AreDetails threshold event full text
  of_kind true event full =
      let compared = comparison (has_value event.second_holds) (has_value event.third_holds) full event in
      (_, record { compared = compared.0; is_compared = compared.1; text_is = refl })
  of_kind false event full = (_, refl)

  pub details : (event : List ℕ) (full : Option (List ℕ)) → (text : List ℕ) × IsDetails event full text
  details event full = of_kind ((data_of event).event_type == 0x01) (data_of event) full
