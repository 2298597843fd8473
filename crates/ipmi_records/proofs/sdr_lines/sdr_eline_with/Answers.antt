use Rattle.std.proofs.Common.{◌≡◌, ◌∙◌, Option, List, [], ◌++◌, ℕ, append_assoc, codes}
use Rattle.ipmi_records.specs.Below.{Appends}
use Rattle.ipmi_records.specs.Prelude.{KnownReading, IsExtendedLine, IsReadingColumn, SdrView, padded_to, printed_name, sensor_columns, status_of}
use Rattle.ipmi_records.proofs.sdr_lines.sdr_eline_with.Goals as goal

extended_line_made : (view : SdrView) (reading : KnownReading)
    (empty named told shown text status : List ℕ) → empty ≡ []
    → named ≡ empty ++ padded_to 16 (printed_name view) → status ≡ status_of view reading
    → told ≡ named ++ sensor_columns view status → Appends (IsReadingColumn view reading) told shown
    → text ≡ shown ++ codes "\n" → IsExtendedLine view reading text
extended_line_made view reading empty named told shown text status empty_is named_is status_is told_is h text_is = record {
  column = h.part;
  is_column = h.is_text;
  text_is = text_is ∙ rw (h.text_is, told_is, named_is, empty_is, status_is) (simp append_assoc);
}

pub returns : goal.returns
returns c = extended_line_made c.args.view.now c.args.reading _ _ _ _ _ _ c.in_ok-line.ensures.bytes c.in_ok-push_name_column.ensures c.status_of.ensures c.in_ok-push_sensor_columns.ensures c.in_ok-push_reading.ensures c.in_ok-push_str.ensures.bytes
