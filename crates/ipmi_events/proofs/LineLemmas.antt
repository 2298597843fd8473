-- The line of a sensor consists of its columns.
use Rattle.std.proofs.Common.{◌≡◌, ◌∙◌, ℕ, List, [], ◌∷◌, ◌++◌, Option, append_assoc, codes, refl}
use Rattle.std.specs.List.{flat_map}
use Rattle.ipmi_events.specs.Below.{Appends, KnownReading, SdrView, Sensor, columns_line, padded_to, shown_of}
use Rattle.ipmi_events.specs.SensorLines.{AppendsColumns, AppendsPadded, IsLineOfSensor, from_lowest, head_columns, with_thresholds}
use Rattle.ipmi_events.specs.Severity.{severity_column}
use Rattle.ipmi_events.specs.Shown.{IsReadingInWords}
use Rattle.ipmi_events.specs.Status.{status_in_words}
use Rattle.ipmi_events.specs.Worst.{sensor_severity}

-- ` | ` comes before each column after the first, and a line feed at the end
columns_after : (first : List ℕ) (columns : List (List ℕ))
    → columns_line (first ∷ columns) ≡ first ++ (flat_map (λ column. codes " | " ++ column) columns ++ codes "\n")
columns_after first [] = refl
columns_after first (next ∷ columns) = rw (columns_after next columns) (simp append_assoc)

pub line_made : (view : SdrView) (sensor : Sensor) (reading : KnownReading) (told : Option (List ℕ))
    (empty named shown status rated severity judged bounded text : List ℕ) → empty ≡ []
    → named ≡ empty ++ head_columns view sensor
    → AppendsPadded 17 (IsReadingInWords view reading) named shown
    → status ≡ status_in_words sensor (shown_of sensor reading)
    → rated ≡ shown ++ (codes " | " ++ padded_to 3 status)
    → severity ≡ severity_column (sensor_severity sensor (shown_of sensor reading))
    → judged ≡ rated ++ (codes " | " ++ padded_to 8 severity) → told ≡ with_thresholds view
    → AppendsColumns told from_lowest judged bounded → text ≡ bounded ++ codes "\n"
    → IsLineOfSensor view sensor reading text
line_made view sensor reading told empty named shown status rated severity judged bounded text empty_is named_is h status_is rated_is severity_is judged_is told_is k text_is = record {
  column = h.part;
  thresholds = k.columns;
  is_column = h.is_text;
  are_thresholds = rw told_is at k.are_columns;
  text_is = text_is ∙ rw (k.text_is, judged_is, rated_is, h.text_is, named_is, empty_is, status_is, severity_is, columns_after (padded_to 8 (severity_column (sensor_severity sensor (shown_of sensor reading)))) k.columns) (simp append_assoc);
}

-- what was appended to an empty text is the whole text
pub only_part : (IsText : List ℕ → Type 0) (old new : List ℕ) → old ≡ [] → Appends IsText old new
    → IsText new
only_part IsText old new old_is appended = rw (appended.text_is, old_is) appended.is_text
