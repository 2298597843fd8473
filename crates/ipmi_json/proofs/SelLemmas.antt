-- Event data in hex.
use Rattle.std.proofs.Common.{◌≡◌, ◌∙◌, ℕ, zero, suc, ◌*◌, ◌/◌, ◌%◌, List, [], ◌∷◌, ap, arith, drop, length, refl, slice_index, sym}
use Rattle.std.proofs.lemmas.List.{drop_all, length-drop, take_all}
use Rattle.hex.specs.Hex.{encode_with, lower_digits}
use Rattle.ipmi_text.specs.FieldText.{binary_text}
use Rattle.ipmi_records.specs.Prelude.{event_data}

encode-drop : (t : List ℕ) (k : ℕ) (bytes : List ℕ) → encode_with t (drop k bytes) ≡ drop (2 * k) (encode_with t bytes)
unfolding encode_with
encode-drop t zero bytes = refl
encode-drop t (suc k) [] = sym (drop_all (2 * suc k) [] (omega arith))
encode-drop t (suc k) (b ∷ bytes) =
    let twice : suc (suc (2 * k)) ≡ 2 * suc k = omega arith in
    encode-drop t k bytes ∙ ap (λ n. drop n (slice_index t (b / 16) ∷ slice_index t (b % 16) ∷ encode_with t bytes)) twice

pub data_text : (bytes : List ℕ) → length bytes ≡ 16
    → binary_text (event_data bytes) ≡ drop 26 (binary_text bytes)
data_text bytes long =
    ap binary_text (take_all 3 (drop 13 bytes) (omega (arith, length-drop 13 bytes)))
    ∙ encode-drop lower_digits 13 bytes
