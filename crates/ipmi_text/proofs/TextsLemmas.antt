-- Texts one after another.
use Rattle.std.proofs.Common.{◌≡◌, ◌∙◌, ℕ, ◌+◌, ◌<◌, List, [], ◌∷◌, ◌++◌, append_assoc, append-nil, get_or, length, refl, sym, take}
use Rattle.std.proofs.lemmas.List.{take_more}
use Rattle.ipmi_text.specs.Appended.{Appends}
use Rattle.ipmi_text.specs.Texts.{AreTexts}

one_more : {A : Type 0} (IsText : A → List ℕ → Type 0) (xs : List A) (last : A) (text more : List ℕ) → AreTexts IsText xs text → IsText last more
    → AreTexts IsText (xs ++ last ∷ []) (text ++ more)
one_more IsText [] last text more are is = record { first = more; rest = []; is_first = is; are_rest = refl; text_is = rw are (sym (append-nil more)) }
one_more IsText (x ∷ xs) last text more are is = record {
  first = are.first;
  rest = are.rest ++ more;
  is_first = are.is_first;
  are_rest = one_more IsText xs last are.rest more are.are_rest is;
  text_is = rw are.text_is (append_assoc are.first are.rest more);
}

-- one more of a list
pub texts_more : {A : Type 0} (IsText : A → List ℕ → Type 0) (all : List A) (k : ℕ) (default : A) (old text new : List ℕ) → k < length all
    → Appends (AreTexts IsText (take k all)) old text → Appends (IsText (get_or all k default)) text new
    → Appends (AreTexts IsText (take (k + 1) all)) old new
texts_more {A} IsText all k default old text new below before one =
    let more : take (k + 1) all ≡ take k all ++ get_or all k default ∷ [] = take_more all k default below in
    rw more (record {
      part = before.part ++ one.part;
      is_text = one_more IsText (take k all) (get_or all k default) before.part one.part before.is_text one.is_text;
      text_is = one.text_is ∙ rw before.text_is (append_assoc old before.part one.part);
    })
