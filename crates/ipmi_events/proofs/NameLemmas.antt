-- Appending names and their suffixes; finding locators among records.
use Rattle.std.proofs.Common.{◌≡◌, ◌∙◌, ℕ, ◌+◌, ◌-◌, ◌<◌, None, Option, Some, List, [], ◌∷◌, ◌++◌, length, take, drop, take_all, filter_map, append_assoc, append-nil, length-append, codes, nat_eq, refl, sym, ap, arith}
use Rattle.std.specs.List.{ends_with, find}
use Rattle.std.specs.Option.{option_or}
use Rattle.std.proofs.Math.Seq.{drop-append-add}
use Rattle.std.proofs.lemmas.List.{length-drop}
use Rattle.std.proofs.lemmas.List.Elements.{filter_map-append}
use Rattle.std.proofs.lemmas.List.Folds.{find-append}
use Rattle.ipmi_records.specs.declared.sdr.SdrView.{SdrView}
use Rattle.ipmi_events.specs.Name.{followed_by, locates, locator_for, suffix_text}
use Rattle.ipmi_events.specs.Sensors.{first_record, records_in, view_of}
use Rattle.ipmi_events.proofs.RecordLemmas.{len_of_first, next_record}

-- what comes before a name does not change how it ends
ends_alike : (old : List ℕ) (c : ℕ) (name : List ℕ)
    → ends_with nat_eq (old ++ c ∷ name) (codes " ") ≡ ends_with nat_eq (c ∷ name) (codes " ")
ends_alike old c name =
    let last = length (c ∷ name) - 1 in
    let place : length (old ++ c ∷ name) - 1 ≡ length old + last = omega (arith, length-append old (c ∷ name)) in
    rw (place, drop-append-add old (c ∷ name) last) refl

suffix_alike : (old : List ℕ) (c : ℕ) (name : List ℕ) (suffix : Option (List ℕ))
    → suffix_text (old ++ c ∷ name) suffix ≡ suffix_text (c ∷ name) suffix
suffix_alike old c name None = refl
suffix_alike old c name (Some suffix) = rw (ends_alike old c name) refl

-- a suffix after a name, if the name made the text longer
pub followed_some : (old text name : List ℕ) (suffix : Option (List ℕ)) (new : List ℕ)
    → text ≡ old ++ name → (length text ≡ length old → ⊥) → new ≡ text ++ suffix_text text suffix
    → new ≡ old ++ followed_by suffix name
followed_some old text [] suffix new is differs new_is = absurd (differs (ap length (is ∙ append-nil old)))
followed_some old text (c ∷ name) suffix new is differs new_is =
    new_is ∙ rw (is, suffix_alike old c name suffix) (append_assoc old (c ∷ name) (suffix_text (c ∷ name) suffix))

-- ---- the first record, and those after it

pub split_first : (bytes first : List ℕ) → Some first ≡ first_record bytes
    → let after = take (length bytes - length first) (drop (length first) bytes) in
    (records_in bytes ≡ first ∷ records_in after) × (length after < length bytes)
split_first bytes first is =
    let len = len_of_first bytes first (sym is) in
    let all = take_all (length bytes - length first) (drop (length first) bytes) (omega (arith, length-drop (length first) bytes)) in
    rw all (next_record bytes first (sym is), omega (arith, len, length-drop (length first) bytes))

-- the first record is the locator, or the locator is among the later records
module _ (id : ℕ) (bytes first after : List ℕ) (is : records_in bytes ≡ first ∷ records_in after) where
  locator_for-next : locator_for id (records_in bytes)
      ≡ option_or (locator_for id (first ∷ [])) (locator_for id (records_in after))
  locator_for-next =
      let rest = records_in after in
      ap (locator_for id) is
      ∙ (ap (find (locates id)) (filter_map-append view_of (first ∷ []) rest)
      ∙ find-append (locates id) (filter_map view_of (first ∷ [])) (filter_map view_of rest))

  pub locator_is_first : (view : SdrView) → Some view ≡ locator_for id (first ∷ [])
      → Some view ≡ locator_for id (records_in bytes)
  locator_is_first view found = rw (locator_for-next, ← found) refl

  pub locator_is_later : None ≡ locator_for id (first ∷ [])
      → locator_for id (records_in after) ≡ locator_for id (records_in bytes)
  locator_is_later none = rw (locator_for-next, ← none) refl

pub locator_for-none : (id : ℕ) (bytes : List ℕ) → records_in bytes ≡ []
    → None ≡ locator_for id (records_in bytes)
locator_for-none id bytes none = rw none refl
