-- Escapes of characters and of texts: only three ASCII characters have one.
use Rattle.std.proofs.Common.{◌≡◌, ◌∙◌, ℕ, ◌<◌, ◌≤◌, List, [], ◌∷◌, ◌++◌, append_assoc, append-nil, ap₂, arith, get_or, inl, inr, length, refl, suc, sym}
use Rattle.std.proofs.lemmas.Bool.{cases_lt}
use Rattle.std.proofs.lemmas.Bool.Decides.{nat_tests}
use Rattle.std.proofs.lemmas.Grind.{flat_map-append}
use Rattle.std.proofs.lemmas.Str.{encode_ascii, encodes-append, inside_one}
use lib.Utf8.{encode, encodes}
use Rattle.ipmi_metrics.specs.Labels.{escaped, escaped_byte, IsPlain}

one_plain : (byte : ℕ) → (byte ≡ 92 → ⊥) → (byte ≡ 34 → ⊥) → (byte ≡ 10 → ⊥) → escaped_byte byte ≡ byte ∷ []
one_plain byte slash quote feed = grind (arith, nat_tests)

pub escaped_plain : (bytes : List ℕ) → ((k : ℕ) → k < length bytes → IsPlain (get_or bytes k 0)) → escaped bytes ≡ bytes
escaped_plain [] plain = refl
escaped_plain (byte ∷ bytes) plain =
    let here = plain 0 (omega arith) in
    ap₂ (λ (a b : List ℕ). a ++ b) (one_plain byte here.0 here.1 here.2) (escaped_plain bytes (λ k below. plain (suc k) (omega arith)))

not_ascii : (byte : ℕ) → 128 ≤ byte → IsPlain byte
not_ascii byte high = ((λ e. omega arith), (λ e. omega arith), (λ e. omega arith))

pub escaped-encode : (c : ℕ) → (c ≡ 92 → ⊥) → (c ≡ 34 → ⊥) → (c ≡ 10 → ⊥) → escaped (encode c) ≡ encode c
escaped-encode c slash quote feed = elim (cases_lt c 128) [
  | inl small ↦ rw (encode_ascii c small, append-nil) (one_plain c slash quote feed)
  | inr big ↦ escaped_plain (encode c) (λ k below. not_ascii _ (elim (cases_lt (get_or (encode c) k 0) 128) [
    | inl low ↦ absurd (omega (arith, inside_one c [] (encode c) k (sym (append-nil _)) below low))
    | inr high ↦ high
  ]))
]

-- one more character
pub escaped-more : (old text new : List ℕ) (cs : List ℕ) (c : ℕ) → text ≡ old ++ escaped (encodes cs) → new ≡ text ++ escaped (encode c)
    → new ≡ old ++ escaped (encodes (cs ++ c ∷ []))
escaped-more old text new cs c text_is new_is =
    new_is ∙ rw (text_is, append_assoc, encodes-append cs (c ∷ []), flat_map-append escaped_byte (encodes cs) (encodes (c ∷ [])), append-nil) refl
