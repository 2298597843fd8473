-- The samples of a sensor, part by part.
use Rattle.std.proofs.Common.{◌≡◌, ◌∙◌, ℕ, ℤ, Option, None, Some, List, [], ◌∷◌, ◌++◌, append_assoc, append-nil, ap, codes, refl, sym}
use Rattle.ipmi_text.specs.Appended.{Appends}
use Rattle.ipmi_text.specs.Texts.{AreTexts}
use Rattle.ipmi_records.specs.Prelude.{all_thresholds}
use Rattle.ipmi_records.specs.declared.sdr.SdrView.{SdrView}
use Rattle.ipmi_records.specs.declared.sensor.Sensor.{Sensor}
use Rattle.ipmi_records.specs.declared.threshold.Threshold.{Threshold}
use Rattle.ipmi_metrics.specs.Families.{family_name}
use Rattle.ipmi_metrics.specs.Labels.{info_labels, place_labels}
use Rattle.ipmi_metrics.specs.Samples.{IsNumber, IsSampleIfAny, IsThresholdSample, IsValueSample, sample, threshold_of}
use Rattle.ipmi_metrics.specs.declared.families.Family.{Family}

pub value_made : (name labels end : List ℕ) (value : Option ℤ) (old begun ended number text : List ℕ)
    → begun ≡ old ++ (name ++ (codes "{" ++ labels)) → ended ≡ begun ++ end → Appends (IsNumber value) ended number → text ≡ number ++ codes "\n"
    → (all : List ℕ) → labels ++ end ≡ all ++ codes "} " → Appends (IsValueSample name all value) old text
value_made name labels end value old begun ended number text begun_is ended_is is text_is all all_is =
    let rest : List ℕ = is.part ++ codes "\n" in
    let same : old ++ (name ++ (codes "{" ++ ((labels ++ end) ++ rest))) ≡ old ++ (name ++ (codes "{" ++ ((all ++ codes "} ") ++ rest)))
    = ap (λ (both : List ℕ). old ++ (name ++ (codes "{" ++ (both ++ rest)))) all_is in record {
      part = sample name all is.part;
      is_text = record { number = is.part; is_number = is.is_text; text_is = refl };
      text_is = text_is ∙ rw (is.text_is, ended_is, begun_is) (simp append_assoc (simp append_assoc at same));
    }

pub state_made : (name labels number old begun text : List ℕ)
    → begun ≡ old ++ (name ++ (codes "{" ++ labels)) → text ≡ begun ++ (codes "} " ++ (number ++ codes "\n"))
    → text ≡ old ++ sample name labels number
state_made name labels number old begun text begun_is text_is = text_is ∙ rw begun_is (simp append_assoc)

-- ---- thresholds

pub threshold_made : (labels : List ℕ) (found : Option ℤ) (value : ℤ) (old text : List ℕ) → found ≡ Some value
    → Appends (IsValueSample (family_name Family.Threshold) labels (Some value)) old text → Appends (IsSampleIfAny labels found) old text
threshold_made labels found value old text found_is is = rw found_is is

no_texts : {A : Type 0} (IsText : A → List ℕ → Type 0) → ((x : A) → IsText x []) → (xs : List A) → AreTexts IsText xs []
no_texts IsText none [] = refl
no_texts IsText none (x ∷ xs) = record { first = []; rest = []; is_first = none x; are_rest = no_texts IsText none xs; text_is = refl }

no_threshold : (view : SdrView) → ((bytes : List ℕ) → view ≡ SdrView.Full bytes → ⊥) → (threshold : Threshold) → threshold_of view threshold ≡ None
no_threshold (SdrView.Full bytes) other threshold = absurd (other bytes refl)
no_threshold view other threshold = refl

-- only a full record has thresholds
pub no_thresholds : (labels : List ℕ) (view : SdrView) → ((bytes : List ℕ) → view ≡ SdrView.Full bytes → ⊥) → (old : List ℕ)
    → Appends (AreTexts (IsThresholdSample labels view) all_thresholds) old old
no_thresholds labels view other old = record {
  part = [];
  is_text = no_texts (IsThresholdSample labels view) (λ threshold. rw (no_threshold view other threshold) refl) all_thresholds;
  text_is = sym (append-nil old);
}

-- ---- what else a record says

pub info_made : (name labels : List ℕ) (sensor : Sensor) (old begun placed text : List ℕ)
    → begun ≡ old ++ (name ++ (codes "{" ++ labels)) → placed ≡ begun ++ place_labels sensor → text ≡ placed ++ codes "} 1\n"
    → text ≡ old ++ sample name (info_labels labels sensor) (codes "1")
info_made name labels sensor old begun placed text begun_is placed_is text_is =
    text_is ∙ rw (placed_is, begun_is) (simp append_assoc)
