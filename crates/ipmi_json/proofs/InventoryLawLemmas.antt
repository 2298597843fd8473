-- A device has at most one list of members and at most one line.
use Rattle.std.proofs.Common.{◌≡◌, ◌∙◌, ◌<◌, ◌+◌, ◌++◌, ◌/◌, ◌%◌, ℕ, Option, None, Some, Result, Ok, Err, List, [], ◌∷◌, arith, codes, inl, inr, subst, sym}
use Rattle.std.proofs.lemmas.Bool.{cases_lt}
use Rattle.json.specs.Json.{Json}
use Rattle.ipmi_text.specs.Laws.{DecimalIsUnique, MinutesTextIsUnique}
use Rattle.ipmi_text.specs.Times.{IsMinutesTextOf, minute_text}
use Rattle.ipmi_fru.specs.Prelude.{Area, AreRecordsAt, HasItems, MultiRecord, dc_fields, form_of, header_fault, offset_of}
use Rattle.ipmi_fru.specs.declared.area.AreaFault.{AreaFault}
use Rattle.ipmi_fru.specs.declared.area.AreaKind.{AreaKind}
use Rattle.ipmi_fru.specs.declared.header.FruFault.{FruFault}
use Rattle.ipmi_fru.specs.declared.multirecord.MultiFault.{MultiFault}
use Rattle.ipmi_fru.specs.declared.record_text.DcFields.{DcFields}
use Rattle.ipmi_fru.specs.declared.record_text.DcKind.{DcKind}
use Rattle.ipmi_fru.specs.declared.record_text.RecordForm.{RecordForm}
use Rattle.ipmi_fru.proofs.TextLemmas.{one_found}
use Rattle.ipmi_fru.proofs.UniqueLemmas.{one_list_of_records}
use Rattle.ipmi_json.specs.Areas.{AreAreaMembers, AreLeadMembers, IsAreaObject, IsAreaValue}
use Rattle.ipmi_json.specs.Fru.{AreContentMembers, AreFoundMembers, AreFruMembers, AreMembersByFault}
use Rattle.ipmi_json.specs.Laws.{DeviceLineIsUnique, DeviceMembersAreUnique}
use Rattle.ipmi_json.specs.Multirecords.{AreFormMembers, AreObjects, AreRangeMembers, AreRecordMembers, IsRecordObject, records_among}
use Rattle.ipmi_json.specs.Object.{Pair}
use Rattle.ipmi_json.specs.Time.{IsIsoMinuteOf, IsIsoMoment}
use Rattle.ipmi_json.proofs.LineLawLemmas.{one_if_iso, one_moment, one_of_some}

module _ (one : DecimalIsUnique) (one_minutes_text : MinutesTextIsUnique) where
  -- ---- areas

  minutes_text : (minutes : ℕ) (end text : List ℕ) → 0 < minutes
      → (h : IsIsoMoment (9496 + minutes / 1440) (minute_text (minutes % 1440)) end text)
      → IsMinutesTextOf minutes (h.date ++ (codes " " ++ minute_text (minutes % 1440)))
  minutes_text minutes end text some h = record {
    unspecified = λ none. absurd (omega (arith, none, some));
    moment = λ after. h.is_moment;
  }

  one_minute : (minutes : ℕ) (text other : Option (List ℕ)) → IsIsoMinuteOf minutes text
      → IsIsoMinuteOf minutes other → text ≡ other
  one_minute minutes text other h k = elim (cases_lt 0 minutes) [
    | inr past ↦ let none : minutes ≡ 0 = omega (arith, past) in h.none none ∙ sym (k.none none)
    | inl some ↦ one_if_iso _ text other (λ a b x y. one_moment _ _ _ a b x y (one_minutes_text minutes _ _ (minutes_text minutes _ a some x) (minutes_text minutes _ b some y))) (h.moment some) (k.moment some)
  ]

  one_lead : (kind : AreaKind) (area : List ℕ) (ms more : List Pair)
      → AreLeadMembers kind area ms → AreLeadMembers kind area more → ms ≡ more
  one_lead AreaKind.Chassis area ms more h k = h ∙ sym k
  one_lead AreaKind.Board area ms more h k = h.1.1 ∙ rw (one_minute _ h.0 k.0 h.1.0 k.1.0) (sym k.1.1)
  one_lead AreaKind.Product area ms more h k = h ∙ sym k

  one_area : (area : Area) (i j : Json) → IsAreaObject area i → IsAreaObject area j → i ≡ j
  one_area area i j h k =
      h.is ∙ rw (one_lead area.kind area.bytes h.lead k.lead h.are_lead k.are_lead) (sym k.is)

  one_value : (found : Option (Result Area AreaFault)) (i j : Json) → IsAreaValue found i
      → IsAreaValue found j → i ≡ j
  one_value None i j h k = h ∙ sym k
  one_value (Some (Ok area)) i j h k = one_area area i j h k
  one_value (Some (Err f)) i j h k = h ∙ sym k

  one_found_area : (kind : AreaKind) (key fault_key bytes : List ℕ) (ms more : List Pair)
      → AreFoundMembers kind key fault_key bytes ms → AreFoundMembers kind key fault_key bytes more
      → ms ≡ more
  one_found_area kind key fault_key bytes ms more h k =
      let same = one_found one one_minutes_text kind bytes h.found k.found h.is_found k.is_found in
      let moved = subst (λ (found : Option (Result Area AreaFault)). AreAreaMembers key fault_key found ms) same h.are_members in
      moved.are ∙ rw (one_value k.found moved.value k.are_members.value moved.is_value k.are_members.is_value) (sym k.are_members.are)

  -- ---- records

  one_ranges : (kind : DcKind) (fields : DcFields) (ms more : List Pair)
      → AreRangeMembers kind fields ms → AreRangeMembers kind fields more → ms ≡ more
  one_ranges kind fields ms more h k =
      let nominal = one _ h.nominal k.nominal h.nominal_is k.nominal_is in
      let low = one _ h.low k.low h.low_is k.low_is in
      let high = one _ h.high k.high h.high_is k.high_is in
      h.are ∙ rw (nominal, low, high) (sym k.are)

  one_form : (form : RecordForm) (r : MultiRecord) (ms more : List Pair) → AreFormMembers form r ms
      → AreFormMembers form r more → ms ≡ more
  one_form (RecordForm.Dc kind) r ms more h k =
      h.are ∙ rw (one_ranges kind (dc_fields r.bytes) h.ranges k.ranges h.are_ranges k.are_ranges) (sym k.are)
  one_form RecordForm.Access r ms more h k = h ∙ sym k
  one_form RecordForm.Other r ms more h k = h ∙ sym k

  one_record : (r : MultiRecord) (i j : Json) → IsRecordObject r i → IsRecordObject r j → i ≡ j
  one_record r i j h k =
      h.is ∙ rw (one_form (form_of r) r h.told k.told h.are_told k.are_told) (sym k.is)

  one_list : (records : List MultiRecord) (is js : List Json) → AreObjects records is
      → AreObjects records js → is ≡ js
  one_list [] is js h k = h ∙ sym k
  one_list (r ∷ records) is js h k =
      h.2.1.1 ∙ rw (one_record r h.0 k.0 h.2.0 k.2.0, one_list records h.1 k.1 h.2.1.0 k.2.1.0) (sym k.2.1.1)

  one_records_at : (at : Option ℕ) (bytes : List ℕ) (a b : List MultiRecord) (e f : Option MultiFault)
      → AreRecordsAt at bytes a e → AreRecordsAt at bytes b f → (a ≡ b) × (e ≡ f)
  one_records_at None bytes a b e f h k = (h.0 ∙ sym k.0, h.1 ∙ sym k.1)
  one_records_at (Some offset) bytes a b e f h k = one_list_of_records _ a b e f h k

  one_items : (bytes : List ℕ) (a b : List (Result MultiRecord MultiFault)) → HasItems bytes a
      → HasItems bytes b → a ≡ b
  one_items bytes a b h k =
      let same = one_records_at (offset_of 5 bytes) bytes h.records k.records h.end k.end h.are_records k.are_records in
      h.items_are ∙ rw (same.0, same.1) (sym k.items_are)

  one_record_part : (items : List (Result MultiRecord MultiFault)) (ms more : List Pair)
      → AreRecordMembers items ms → AreRecordMembers items more → ms ≡ more
  one_record_part items ms more h k =
      h.are ∙ rw (one_list (records_among items) h.objects k.objects h.are_objects k.are_objects) (sym k.are)

  -- ---- the inventory

  one_content : (bytes : List ℕ) (ms more : List Pair) → AreContentMembers bytes ms
      → AreContentMembers bytes more → ms ≡ more
  one_content bytes ms more h k =
      let chassis = one_found_area _ _ _ bytes h.chassis k.chassis h.are_chassis k.are_chassis in
      let board = one_found_area _ _ _ bytes h.board k.board h.are_board k.are_board in
      let product = one_found_area _ _ _ bytes h.product k.product h.are_product k.are_product in
      let same = one_items bytes h.items k.items h.are_items k.are_items in
      let moved = subst (λ (items : List (Result MultiRecord MultiFault)). AreRecordMembers items h.records) same h.are_records in
      let records = one_record_part k.items h.records k.records moved k.are_records in
      h.are ∙ rw (chassis, board, product, records) (sym k.are)

  one_by_fault : (fault : Option FruFault) (id : ℕ) (name : Option (List ℕ)) (bytes : List ℕ) (ms more : List Pair)
      → AreMembersByFault fault id name bytes ms → AreMembersByFault fault id name bytes more → ms ≡ more
  one_by_fault (Some fault) id name bytes ms more h k = h ∙ sym k
  one_by_fault None id name bytes ms more h k =
      h.are ∙ rw (one_content bytes h.content k.content h.are_content k.are_content) (sym k.are)

  pub one_inventory : DeviceMembersAreUnique
  one_inventory id name None ms more h k = h ∙ sym k
  one_inventory id name (Some bytes) ms more h k = one_by_fault (header_fault bytes) id name bytes ms more h k

  pub one_device : DeviceLineIsUnique
  one_device id name inventory labels text other =
      one_of_some (AreFruMembers id name inventory) labels text other (one_inventory id name inventory)
