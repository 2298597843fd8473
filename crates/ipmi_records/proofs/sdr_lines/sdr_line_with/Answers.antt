use Rattle.std.proofs.Common.{◌≡◌, ◌∙◌, ◌-◌, Option, List, [], ◌++◌, ℕ, ap, append_assoc, codes, drop, length, refl, replicate}
use Rattle.std.proofs.lemmas.List.Prefix.{front_rest}
use Rattle.std.specs.Fmt.{char_count}
use Rattle.ipmi_records.specs.Below.{Appends}
use Rattle.ipmi_records.specs.Prelude.{KnownReading, IsReadingColumn, IsSdrLine, SdrView, padded_to, printed_name, status_of}
use Rattle.ipmi_records.proofs.sdr_lines.sdr_line_with.Goals as goal

short_line_made : (view : SdrView) (reading : KnownReading)
    (empty named begun shown filled text status : List ℕ) (start : ℕ) → empty ≡ []
    → named ≡ empty ++ padded_to 16 (printed_name view) → begun ≡ named ++ codes " | "
    → start ≡ length begun → Appends (IsReadingColumn view reading) begun shown
    → filled ≡ shown ++ replicate (17 - char_count (drop start shown)) 32
    → status ≡ status_of view reading
    → text ≡ filled ++ (codes " | " ++ (status ++ codes "\n")) → IsSdrLine view reading text
short_line_made view reading empty named begun shown filled text status start empty_is named_is begun_is start_is h filled_is status_is text_is = record {
  column = h.part;
  is_column = h.is_text;
  text_is = text_is ∙ rw (filled_is, h.text_is, start_is, front_rest (begun ++ h.part) begun h.part refl, begun_is, named_is, empty_is, status_is) (simp append_assoc);
}

pub returns : goal.returns
returns c = short_line_made c.args.view.now c.args.reading _ _ _ _ _ _ _ _ c.in_ok-line.ensures.bytes c.in_ok-push_name_column.ensures c.in_ok-push_str.ensures.bytes (ap length c.as_bytes-start.ensures.value) c.in_ok-push_reading.ensures c.in_ok-pad.ensures c.status_of-status.ensures c.in_ok-write.ensures.bytes
