-- An entry has exactly one line in words.
use Rattle.std.proofs.Common.{◌≡◌, ◌∙◌, ℕ, Option, List, ◌<◌, slice_index, refl, sym, arith}
use Rattle.std.proofs.lemmas.Grind.{common_steps}
use Rattle.ipmi_text.specs.Bytes.{AreBytes}
use Rattle.ipmi_text.specs.Laws.{UtcTextExists, UtcTextIsUnique}
use Rattle.ipmi_text.specs.Times.{IsUtcTextOf}
use Rattle.ipmi_records.specs.Laws.{SelLineIsUnique}
use Rattle.ipmi_records.specs.Prelude.{entry_bytes, IsSelLine, time_stamp}
use Rattle.ipmi_records.specs.declared.sdr.SdrView.{SdrView}
use Rattle.ipmi_records.specs.declared.sel.SelView.{SelView}
use Rattle.ipmi_events.specs.EventLines.{full_of, IsEventInWords, IsEventLineInWords, record_for}
use Rattle.ipmi_events.specs.Laws.{DetailsAreUnique, DetailsExist}

slice_index-lt : (bytes : List ℕ) → AreBytes bytes → (k : ℕ) → slice_index bytes k < 256
slice_index-lt bytes are k = grind (arith, common_steps)

module _ (one_utc_text : UtcTextIsUnique) (one_line : SelLineIsUnique) (one_text : DetailsAreUnique) where
  one_time : (bytes text other : List ℕ) → AreBytes bytes → IsUtcTextOf (time_stamp bytes) text
      → IsUtcTextOf (time_stamp bytes) other → text ≡ other
  one_time bytes text other are =
      let byte = slice_index-lt bytes are in
      one_utc_text (time_stamp bytes) text other (omega (arith, byte 3, byte 4, byte 5, byte 6))

  one_event_line : (id : ℕ) (bytes : List ℕ) (view : Option SdrView) (text other : List ℕ)
      → AreBytes bytes → IsEventLineInWords id bytes view text
      → IsEventLineInWords id bytes view other → text ≡ other
  one_event_line id bytes view text other are h k =
      let times = one_time bytes h.time k.time are h.is_time k.is_time in
      let details = one_text bytes (full_of view) h.details k.details h.are_details k.are_details in
      h.text_is ∙ rw (times, details) (sym k.text_is)

  pub one_event_in_words : (id : ℕ) (view : SelView) (records : List (List ℕ))
      (text other : List ℕ) → AreBytes (entry_bytes view) → IsEventInWords id view records text
      → IsEventInWords id view records other → text ≡ other
  one_event_in_words id (SelView.Event bytes) records text other are h k = one_event_line id bytes (record_for bytes records) text other are h k
  one_event_in_words id (SelView.OemTimed bytes) records text other are h k = one_line id (SelView.OemTimed bytes) text other are h k
  one_event_in_words id (SelView.OemPlain bytes) records text other are h k = one_line id (SelView.OemPlain bytes) text other are h k
  one_event_in_words id (SelView.Other bytes) records text other are h k = one_line id (SelView.Other bytes) text other are h k

module _ (utc_text : UtcTextExists) (sel_line : (id : ℕ) (view : SelView) → (text : List ℕ) × IsSelLine id view text) (details : DetailsExist) where
  pub event_in_words : (id : ℕ) (view : SelView) (records : List (List ℕ))
      → (text : List ℕ) × IsEventInWords id view records text
  event_in_words id (SelView.Event bytes) records =
      let time = utc_text (time_stamp bytes) in
      let said = details bytes (full_of (record_for bytes records)) in
      (_, record { time = time.0; details = said.0; is_time = time.1; are_details = said.1; text_is = refl })
  event_in_words id (SelView.OemTimed bytes) records = sel_line id (SelView.OemTimed bytes)
  event_in_words id (SelView.OemPlain bytes) records = sel_line id (SelView.OemPlain bytes)
  event_in_words id (SelView.Other bytes) records = sel_line id (SelView.Other bytes)
