-- An inventory has a text.
use Rattle.std.proofs.Common.{◌≡◌, ℕ, ◌<◌, ◌*◌, ◌+◌, ◌^◌, ◌*ℤ◌, pos, Bool, true, false, inl, Option, None, Some, Result, Ok, Err, List, [], ◌∷◌, ◌++◌, slice_index, drop, is_some, refl, arith}
use Rattle.std.proofs.lemmas.Grind.{common_steps}
use Rattle.std.proofs.lemmas.List.Elements.{All-take, All-drop}
use Rattle.byteorder.specs.Endian.{little_from, twos_complement}
use Rattle.byteorder.specs.Numbers.{little_from-lt}
use Rattle.ipmi_text.specs.Bytes.{AreBytes}
use Rattle.ipmi_text.specs.Laws.{DecimalExists, MinutesTextExists}
use Rattle.ipmi_fru.specs.Prelude.{AreaKind, Chassis, Board, Product, AreaFault, FruFault, MultiFault, RecordForm, Dc, Access, Other, header_fault, offset_of, place_of, area_at, area_fault, area_in, field_bytes, fields_in, MultiRecord, items_in, IsLead, IsTextOfArea, IsVoltsAt, IsTextInForm, IsItemText, AreItemTexts, IsTextOfRecords, IsTextByFault, IsFruText, form_of}
use Rattle.ipmi_fru.proofs.AreaLemmas.{is_area, past_end}
use Rattle.ipmi_fru.proofs.RecordLemmas.{no_items, some_items}

slice_index-lt : (bytes : List ℕ) → AreBytes bytes → (k : ℕ) → slice_index bytes k < 256
slice_index-lt bytes are k = grind (arith, common_steps)

module _ (decimal : DecimalExists) (minutes_text : MinutesTextExists) where
  -- ---- areas

  lead : (kind : AreaKind) (area : List ℕ) → AreBytes area → (text : List ℕ) × IsLead kind area text
  lead Chassis area are = (_, refl)
  lead Board area are =
      let date = minutes_text (little_from 3 3 area) (omega (arith, little_from-lt 3 3 area (slice_index-lt area are))) in
      (_, (date.0, (date.1, refl)))
  lead Product area are = (_, refl)

  module _ (kind : AreaKind) (bytes : List ℕ) (are : AreBytes bytes) (offset : ℕ)
      (is : offset_of (place_of kind) bytes ≡ Some offset) where
    by_fields : area_fault offset bytes ≡ None → (some : Bool)
        → is_some (fields_in (field_bytes kind (area_at offset bytes))) ≡ some
        → (text : List ℕ) × IsTextOfArea kind bytes text
    by_fields fine true some =
        let area = area_at offset bytes in
        let start = lead kind area (All-take (λ (b : ℕ). b < 256) (8 * slice_index bytes (offset + 1)) (drop offset bytes) (All-drop (λ (b : ℕ). b < 256) offset bytes are)) in (
          _,
          record {
            found = Some (Ok (area_in kind area));
            is_found = (offset, (is, is_area kind offset bytes area _ fine refl refl some));
            is_text = record { lead = start.0; is_lead = start.1; text_is = refl };
          },
        )
    by_fields fine false none = (
      _,
      record {
        found = Some (Err AreaFault.FieldPastEnd);
        is_found = (offset, (is, past_end kind offset bytes (area_at offset bytes) _ fine refl refl none));
        is_text = refl;
      },
    )

    by_area_fault : (f : Option AreaFault) → area_fault offset bytes ≡ f
        → (text : List ℕ) × IsTextOfArea kind bytes text
    by_area_fault None fine = by_fields fine (is_some (fields_in (field_bytes kind (area_at offset bytes)))) refl
    by_area_fault (Some f) e = (_, record { found = Some (Err f); is_found = (offset, (is, inl e)); is_text = refl })

  pub area_text : (kind : AreaKind) (bytes : List ℕ) → AreBytes bytes
      → (text : List ℕ) × IsTextOfArea kind bytes text
  area_text kind bytes are = by (offset_of (place_of kind) bytes) refl
    where
      by : (o : Option ℕ) → offset_of (place_of kind) bytes ≡ o
          → (text : List ℕ) × IsTextOfArea kind bytes text
      by None none = (_, record { found = None; is_found = none; is_text = refl })
      by (Some offset) is = by_area_fault kind bytes are offset is (area_fault offset bytes) refl

  -- ---- records

  volts : (place : ℕ) (bytes : List ℕ) → (text : List ℕ) × IsVoltsAt place bytes text
  volts place bytes = decimal (twos_complement 2 (little_from place 2 bytes) *ℤ pos (10 ^ 14))

  text_in_form : (form : RecordForm) (r : MultiRecord) → (text : List ℕ) × IsTextInForm form r text
  text_in_form (Dc kind) r =
      let nominal = volts 1 r.bytes in
      let low = volts 3 r.bytes in
      let high = volts 5 r.bytes in
      (_, record { nominal = nominal.0; low = low.0; high = high.0; nominal_is = nominal.1; low_is = low.1; high_is = high.1; text_is = refl })
  text_in_form Access r = (_, refl)
  text_in_form Other r = (_, refl)

  item_text : (item : Result MultiRecord MultiFault) → (text : List ℕ) × IsItemText item text
  item_text (Ok r) = text_in_form (form_of r) r
  item_text (Err f) = (_, refl)

  item_texts : (items : List (Result MultiRecord MultiFault))
      → (text : List ℕ) × AreItemTexts items text
  item_texts [] = (_, refl)
  item_texts (item ∷ items) =
      let line = item_text item in
      let more = item_texts items in
      (line.0 ++ more.0, (line.0, more.0, (line.1, (more.1, refl))))

  records_text : (bytes : List ℕ) → (text : List ℕ) × IsTextOfRecords bytes text
  records_text bytes = by (offset_of 5 bytes) refl
    where
      by : (o : Option ℕ) → offset_of 5 bytes ≡ o → (text : List ℕ) × IsTextOfRecords bytes text
      by None none = (_, record { items = []; are_items = no_items bytes [] none refl; are_texts = refl })
      by (Some offset) is =
          let items = items_in (drop offset bytes) in
          let texts = item_texts items in
          (texts.0, record { items = items; are_items = some_items bytes (drop offset bytes) items offset is refl refl; are_texts = texts.1 })

  -- ---- the inventory

  pub fru_text : (bytes : List ℕ) → AreBytes bytes → (text : List ℕ) × IsFruText bytes text
  fru_text bytes are = by (header_fault bytes)
    where
      by : (o : Option FruFault) → (text : List ℕ) × IsTextByFault o bytes text
      by (Some f) = (_, refl)
      by None =
          let chassis = area_text Chassis bytes are in
          let board = area_text Board bytes are in
          let product = area_text Product bytes are in
          let records = records_text bytes in (
            _,
            record {
              chassis = chassis.0;
              board = board.0;
              product = product.0;
              records = records.0;
              is_chassis = chassis.1;
              is_board = board.1;
              is_product = product.1;
              is_records = records.1;
              text_is = refl;
            },
          )
