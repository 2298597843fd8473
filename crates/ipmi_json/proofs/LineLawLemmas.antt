-- A record, an entry and an info have at most one list of members and at most one line, and no line is empty.
use Rattle.std.proofs.Common.{◌≡◌, ◌∙◌, ◌≤◌, ◌<◌, ◌++◌, ◌/◌, ◌%◌, ℕ, ℤ, Option, None, Some, List, ap, arith, codes, inl, inr, length, slice_index, sym}
use Rattle.std.proofs.lemmas.Bool.{cases_lt}
use Rattle.std.proofs.lemmas.Grind.{common_steps}
use Rattle.std.proofs.lemmas.List.{append_cancel_right}
use Rattle.json.specs.Json.{Json, number}
use Rattle.ipmi_text.specs.Bytes.{AreBytes}
use Rattle.ipmi_text.specs.Laws.{DecimalIsUnique, UtcTextIsUnique}
use Rattle.ipmi_text.specs.Times.{IsUtcTextOf, second_text}
use Rattle.ipmi_records.specs.declared.column.KnownReading.{KnownReading}
use Rattle.ipmi_text.specs.declared.units.Units.{Units}
use Rattle.ipmi_events.specs.EventLines.{full_of}
use Rattle.ipmi_events.specs.Laws.{DetailsAreUnique}
use Rattle.ipmi_records.specs.Prelude.{entry_bytes, number_at, time_stamp}
use Rattle.ipmi_records.specs.declared.sdr.SdrView.{SdrView}
use Rattle.ipmi_records.specs.declared.sel.SelView.{SelView}
use Rattle.ipmi_json.specs.declared.object.Label.{Label}
use Rattle.ipmi_json.specs.Info.{AreInfoMembers}
use Rattle.ipmi_json.specs.Laws.{EntryLineIsUnique, EntryMembersAreUnique, InfoLineIsUnique, InfoMembersAreUnique, NoObjectLineIsEmpty, ObjectLineIsUnique, RecordLineIsUnique, RecordMembersAreUnique}
use Rattle.ipmi_json.specs.Object.{IsDecimalOrNull, IsLineOfJson, IsLineOfSome, Pair}
use Rattle.ipmi_json.specs.Sdr.{AreCompactMembers, AreFullMembers, AreRecordMembers, AreThresholdMembers, AreTold, AreValueMembers}
use Rattle.ipmi_json.specs.Sel.{AreEntryMembers, AreEventMembers, AreTimedMembers, sensor_record}
use Rattle.ipmi_json.specs.Sel as sel
use Rattle.ipmi_json.specs.Time.{IfIso, IsIsoMoment, IsIsoTimeOf}

-- ---- lines of a value

pub one_line : (j : Json) (text other : List ℕ) → IsLineOfJson j text → IsLineOfJson j other
    → text ≡ other
one_line j text other h k = h.line_is ∙ sym k.line_is

pub some_line : (j : Json) (text : List ℕ) → IsLineOfJson j text → 0 < length text
some_line j text h = grind (arith, h.line_is, common_steps)

pub one_object : ObjectLineIsUnique
one_object ms labels text other h k = one_line _ text other h k

-- an object has at most one line if it has at most one list of members
pub one_of_some : (Are : List Pair → Type 0) (labels : List Label) (text other : List ℕ)
    → ((ms more : List Pair) → Are ms → Are more → ms ≡ more)
    → IsLineOfSome Are labels text → IsLineOfSome Are labels other → text ≡ other
one_of_some Are labels text other one h k =
    one_line _ text other (rw (one h.ms k.ms h.are k.are) at h.is_line) k.is_line

pub some_object : NoObjectLineIsEmpty
some_object ms labels text h = some_line _ text h

-- ---- values

pub one_number : DecimalIsUnique → (value : Option ℤ) (j k : Json) → IsDecimalOrNull value j
    → IsDecimalOrNull value k → j ≡ k
one_number one None j k h l = h ∙ sym l
one_number one (Some value) j k h l = h.1.1 ∙ ap number (one value h.0 l.0 h.1.0 l.1.0) ∙ sym l.1.1

-- ---- times

-- from the uniqueness of the texts with a space instead of the T
pub one_moment : (day : ℕ) (time end text other : List ℕ) (h : IsIsoMoment day time end text)
    (k : IsIsoMoment day time end other)
    → h.date ++ (codes " " ++ time) ≡ k.date ++ (codes " " ++ time) → text ≡ other
one_moment day time end text other h k same =
    h.text_is ∙ rw (append_cancel_right h.date k.date (codes " " ++ time) same) (sym k.text_is)

pub one_if_iso : (Is : List ℕ → Type 0) (text other : Option (List ℕ))
    → ((a b : List ℕ) → Is a → Is b → a ≡ b) → IfIso text Is → IfIso other Is → text ≡ other
one_if_iso Is None other one h k = absurd h
one_if_iso Is (Some a) None one h k = absurd k
one_if_iso Is (Some a) (Some b) one h k = ap Some (one a b h k)

module _ (one_utc_text : UtcTextIsUnique) where
  utc_text : (seconds : ℕ) (end text : List ℕ) → 0x2000_0000 < seconds → seconds < 0xffff_ffff
      → (h : IsIsoMoment (seconds / 86_400) (second_text (seconds % 86_400)) end text)
      → IsUtcTextOf seconds (h.date ++ (codes " " ++ second_text (seconds % 86_400)))
  utc_text seconds end text late below h = record {
    unspecified = λ last. absurd (omega (arith, last, below));
    since_start = λ early. absurd (omega (arith, early, late));
    moment = λ after before. h.is_moment;
  }

  one_time : (seconds : ℕ) (text other : Option (List ℕ)) → seconds ≤ 0xffff_ffff
      → IsIsoTimeOf seconds text → IsIsoTimeOf seconds other → text ≡ other
  one_time seconds text other bound h k = elim (cases_lt 0x2000_0000 seconds) [
    | inr early ↦ h.none (inl early) ∙ sym (k.none (inl early))
    | inl late ↦ elim (cases_lt seconds 0xffff_ffff) [
      | inr last ↦ let all_ones : seconds ≡ 0xffff_ffff = omega (arith, bound, last) in h.none (inr all_ones) ∙ sym (k.none (inr all_ones))
      | inl below ↦ one_if_iso _ text other (λ a b x y. one_moment _ _ _ a b x y (one_utc_text seconds _ _ bound (utc_text seconds _ a late below x) (utc_text seconds _ b late below y))) (h.moment late below) (k.moment late below)
    ]
  ]

  slice_index-lt : (bytes : List ℕ) → AreBytes bytes → (k : ℕ) → slice_index bytes k < 256
  slice_index-lt bytes are k = grind (arith, common_steps)

  one_stamp : (bytes : List ℕ) (text other : Option (List ℕ)) → AreBytes bytes
      → IsIsoTimeOf (time_stamp bytes) text → IsIsoTimeOf (time_stamp bytes) other → text ≡ other
  one_stamp bytes text other are =
      let byte = slice_index-lt bytes are in
      one_time (time_stamp bytes) text other (omega (arith, byte 3, byte 4, byte 5, byte 6))

  -- ---- entries

  one_event : DetailsAreUnique → (bytes : List ℕ) (view : Option SdrView) (ms more : List Pair)
      → AreBytes bytes → AreEventMembers bytes view ms → AreEventMembers bytes view more → ms ≡ more
  one_event one_text bytes view ms more are h k =
      let time = one_stamp bytes h.time k.time are h.is_time k.is_time in
      let text = one_text bytes (full_of view) h.are_details.0 k.are_details.0 h.are_details.1.0 k.are_details.1.0 in
      let details = h.are_details.1.1 ∙ rw text (sym k.are_details.1.1) in
      h.are ∙ rw (time, details) (sym k.are)

  one_timed : (bytes : List ℕ) (ms more : List Pair) → AreBytes bytes → AreTimedMembers bytes ms
      → AreTimedMembers bytes more → ms ≡ more
  one_timed bytes ms more are h k =
      h.are ∙ rw (one_stamp bytes h.time k.time are h.is_time k.is_time) (sym k.are)

  one_of_entry : DetailsAreUnique → (view : SelView) (records : Option (List (List ℕ)))
      (ms more : List Pair) → AreBytes (entry_bytes view) → sel.AreTold view records ms
      → sel.AreTold view records more → ms ≡ more
  one_of_entry one_text (SelView.Event bytes) records ms more are h k = one_event one_text bytes (sensor_record bytes records) ms more are h k
  one_of_entry one_text (SelView.OemTimed bytes) records ms more are h k = one_timed bytes ms more are h k
  one_of_entry one_text (SelView.OemPlain bytes) records ms more are h k = h ∙ sym k
  one_of_entry one_text (SelView.Other bytes) records ms more are h k = h ∙ sym k

  pub one_entry_told : DetailsAreUnique → EntryMembersAreUnique
  one_entry_told one_text id view records are ms more h k =
      h.are ∙ rw (one_of_entry one_text view records h.told k.told are h.are_told k.are_told) (sym k.are)

  pub one_entry : DetailsAreUnique → EntryLineIsUnique
  one_entry one_text id view records labels text other are =
      one_of_some (AreEntryMembers id view records) labels text other (one_entry_told one_text id view records are)

  -- ---- infos

  pub one_info_told : InfoMembersAreUnique
  one_info_told name bytes are ms more h k =
      let byte = slice_index-lt bytes are in
      let addition = one_time (number_at 6 4 bytes) h.addition k.addition (omega (arith, byte 5, byte 6, byte 7, byte 8)) h.is_addition k.is_addition in
      let erase = one_time (number_at 10 4 bytes) h.erase k.erase (omega (arith, byte 9, byte 10, byte 11, byte 12)) h.is_erase k.is_erase in
      h.are ∙ rw (addition, erase) (sym k.are)

  pub one_info : InfoLineIsUnique
  one_info name bytes labels text other are =
      one_of_some (AreInfoMembers name bytes) labels text other (one_info_told name bytes are)

-- ---- records

module _ (one : DecimalIsUnique) where
  one_value : (value : Option ℤ) (units : Units) (ms more : List Pair) → AreValueMembers value units ms
      → AreValueMembers value units more → ms ≡ more
  one_value value units ms more h k =
      h.are ∙ rw (one_number one value h.number k.number h.is_number k.is_number) (sym k.are)

  one_thresholds : (bytes : List ℕ) (ms more : List Pair) → AreThresholdMembers bytes ms
      → AreThresholdMembers bytes more → ms ≡ more
  one_thresholds bytes ms more h k =
      let a = one_number one _ _ _ h.is_upper_non_recoverable k.is_upper_non_recoverable in
      let b = one_number one _ _ _ h.is_upper_critical k.is_upper_critical in
      let c = one_number one _ _ _ h.is_upper_non_critical k.is_upper_non_critical in
      let d = one_number one _ _ _ h.is_lower_non_recoverable k.is_lower_non_recoverable in
      let e = one_number one _ _ _ h.is_lower_critical k.is_lower_critical in
      let f = one_number one _ _ _ h.is_lower_non_critical k.is_lower_non_critical in
      h.are ∙ rw (a, b, c, d, e, f) (sym k.are)

  one_full : (bytes : List ℕ) (reading : KnownReading) (status : List ℕ) (ms more : List Pair)
      → AreFullMembers bytes reading status ms → AreFullMembers bytes reading status more
      → ms ≡ more
  one_full bytes reading status ms more h k =
      h.are ∙ rw (one_value _ _ h.value k.value h.are_value k.are_value, one_thresholds bytes h.thresholds k.thresholds h.are_thresholds k.are_thresholds) (sym k.are)

  one_compact : (bytes : List ℕ) (reading : KnownReading) (status : List ℕ) (ms more : List Pair)
      → AreCompactMembers bytes reading status ms → AreCompactMembers bytes reading status more
      → ms ≡ more
  one_compact bytes reading status ms more h k =
      h.are ∙ rw (one_value _ _ h.value k.value h.are_value k.are_value) (sym k.are)

  one_told : (view : SdrView) (reading : KnownReading) (ms more : List Pair)
      → AreTold view reading ms → AreTold view reading more → ms ≡ more
  one_told (SdrView.Full bytes) reading ms more h k = one_full bytes reading _ ms more h k
  one_told (SdrView.Compact bytes) reading ms more h k = one_compact bytes reading _ ms more h k
  one_told (SdrView.EventOnly bytes) reading ms more h k = h ∙ sym k
  one_told (SdrView.Generic bytes) reading ms more h k = h ∙ sym k
  one_told (SdrView.Fru bytes) reading ms more h k = h ∙ sym k
  one_told (SdrView.Controller bytes) reading ms more h k = h ∙ sym k
  one_told (SdrView.Other bytes) reading ms more h k = h ∙ sym k

  pub one_record_told : RecordMembersAreUnique
  one_record_told id view reading ms more h k =
      h.are ∙ rw (one_told view reading h.told k.told h.are_told k.are_told) (sym k.are)

  pub one_record : RecordLineIsUnique
  one_record id view reading labels text other =
      one_of_some (AreRecordMembers id view reading) labels text other (one_record_told id view reading)
