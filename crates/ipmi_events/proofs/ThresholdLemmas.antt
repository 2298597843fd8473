-- Appending columns of thresholds one by one.
use Rattle.std.proofs.Common.{◌≡◌, ◌∙◌, ℕ, List, [], ◌∷◌, ◌++◌, Option, append_assoc, append-nil, codes, refl}
use Rattle.std.proofs.lemmas.Grind.{flat_map-append}
use Rattle.ipmi_events.specs.Below.{Appends, Threshold}
use Rattle.ipmi_events.specs.SensorLines.{AppendsColumns, AreThresholdColumns, IsThresholdColumn}

-- one more column
one_more : (told : Option (List ℕ)) (thresholds : List Threshold) (threshold : Threshold)
    (columns : List (List ℕ)) (column : List ℕ) → AreThresholdColumns told thresholds columns
    → IsThresholdColumn told threshold column
    → AreThresholdColumns told (thresholds ++ threshold ∷ []) (columns ++ column ∷ [])
one_more told [] threshold columns column are is = (column, [], (is, (refl, rw are refl)))
one_more told (first ∷ thresholds) threshold columns column are is =
    (are.0, are.1 ++ column ∷ [], (are.2.0, (one_more told thresholds threshold are.1 column are.2.1.0 is, rw are.2.1.1 refl)))

-- one more column is appended after ` | `
pub column_appended : (told : Option (List ℕ)) (thresholds : List Threshold) (threshold : Threshold)
    (old text begun new : List ℕ) → AppendsColumns told thresholds old text
    → begun ≡ text ++ codes " | " → Appends (IsThresholdColumn told threshold) begun new
    → AppendsColumns told (thresholds ++ threshold ∷ []) old new
column_appended told thresholds threshold old text begun new h begun_is k = record {
  columns = h.columns ++ k.part ∷ [];
  are_columns = one_more told thresholds threshold h.columns k.part h.are_columns k.is_text;
  text_is = k.text_is ∙ rw (begun_is, h.text_is, flat_map-append (λ column. codes " | " ++ column) h.columns (k.part ∷ [])) (simp (append_assoc, append-nil));
}
