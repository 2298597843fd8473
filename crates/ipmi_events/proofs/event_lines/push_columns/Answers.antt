use Rattle.std.proofs.Common.{◌≡◌, ◌∙◌, ℕ, Option, List, [], ◌∷◌, ◌++◌, OnOk, append_assoc, codes, refl, rules, string_bytes}
use Rattle.std.proofs.lemmas.Result.{on_ok_weaker}
use Rattle.ipmi_text.specs.Appended.{Appends}
use Rattle.ipmi_text.specs.Hex.{hex_word}
use Rattle.ipmi_text.specs.Times.{IsUtcTextOf}
use Rattle.ipmi_records.specs.Bytes.{columns_line}
use Rattle.ipmi_records.specs.Prelude.{direction_text, event_type, is_deasserted, sensor_type, time_stamp}
use Rattle.ipmi_records.specs.declared.sdr.SdrView.{SdrView}
use Rattle.ipmi_events.specs.Details.{IsDetails}
use Rattle.ipmi_events.specs.EventLines.{details_column, details_columns, full_of, IsEventLineInWords, sensor_column}
use Rattle.ipmi_events.specs.Severity.{event_severity, severity_column}
use Rattle.ipmi_events.specs.Words.{event_in_words, event_offset}
use Rattle.ipmi_events.proofs.event_lines.push_columns.Goals as goal

joined : (old id time sensor words direction severity last bar end : List ℕ)
    → ((((old ++ (id ++ (bar ++ (time ++ bar)))) ++ sensor) ++ (bar ++ (words ++ (bar ++ (direction ++ (bar ++ severity)))))) ++ last) ++ end
    ≡ old ++ (id ++ (bar ++ (time ++ (bar ++ (sensor ++ (bar ++ (words ++ (bar ++ (direction ++ (bar ++ (severity ++ (last ++ end))))))))))))
joined old id time sensor words direction severity last bar end = simp append_assoc

last_columns : (severity details : List ℕ)
    → columns_line (severity ∷ details_columns details) ≡ severity ++ (details_column details ++ codes "\n")
last_columns severity [] = refl
last_columns severity (c ∷ details) = refl

line_made : (id : ℕ) (event : List ℕ) (view : Option SdrView)
    (details time words direction severity old begun named told detailed text : List ℕ)
    → IsDetails event (full_of view) details → IsUtcTextOf (time_stamp event) time
    → words ≡ event_in_words (event_type event) (sensor_type event) (event_offset event)
    → direction ≡ direction_text (is_deasserted event)
    → severity ≡ severity_column (event_severity event)
    → begun ≡ old ++ (hex_word id ++ (codes " | " ++ (time ++ codes " | ")))
    → named ≡ begun ++ sensor_column event view
    → told ≡ named ++ (codes " | " ++ (words ++ (codes " | " ++ (direction ++ (codes " | " ++ severity)))))
    → detailed ≡ told ++ details_column details → text ≡ detailed ++ codes "\n"
    → Appends (IsEventLineInWords id event view) old text
line_made id event view details time words direction severity old begun named told detailed text are_details is_time words_is direction_is severity_is begun_is named_is told_is detailed_is text_is = record {
  part = hex_word id ++ (codes " | " ++ (time ++ (codes " | " ++ (sensor_column event view ++ (codes " | " ++ (words ++ (codes " | " ++ (direction ++ (codes " | " ++ (severity ++ (details_column details ++ codes "\n")))))))))));
  is_text = record {
    time = time;
    details = details;
    is_time = is_time;
    are_details = are_details;
    text_is = rw (words_is, direction_is, severity_is, last_columns (severity_column (event_severity event)) details) refl;
  };
  text_is = text_is ∙ rw (detailed_is, told_is, named_is, begun_is)
      (joined old (hex_word id) time (sensor_column event view) words direction severity (details_column details) (codes " | ") (codes "\n"));
}

pub returns : goal.returns
returns c =
    let ended : OnOk c.push_str.result (string_bytes c.push_str.new.self ≡ string_bytes c.push_details_column.new.line ++ codes "\n") = search rules in
    on_ok_weaker c.push_str.result
    (line_made _ _ _ _ c.of-time.result _ _ _ _ _ _ _ _ _ c.requires (rw c.time_stamp.ensures at c.of-time.ensures) c.words_of-words.ensures c.direction_text-direction.ensures
    (c.severity_column-severity.ensures ∙ rw c.event_severity.ensures refl)
    c.in_ok-write.ensures.bytes c.in_ok-push_sensor.ensures c.in_ok-write-2.ensures.bytes c.in_ok-push_details_column.ensures) ended
