-- Places of records, on pages.
use Rattle.std.proofs.Common.{◌≡◌, ℕ, zero, suc, ◌<◌, ◌==◌, ◌&&◌, Bool, List, [], ◌∷◌, ◌++◌, length, map, replicate, get_or, set, refl, inl, inr, arith}
use Rattle.std.proofs.lemmas.Bool.{cases_eq}
use Rattle.std.proofs.lemmas.Bool.Decides.{nat_tests}
use Rattle.std.proofs.lemmas.List.{get_or-map, get_or-set_other, get_or-set_same, length-map, map-set}
use Rattle.ipmi_events.specs.Sensors.{noted, place_in}

-- places of no record mean the same as missing places
pub get_or-filled : (page : List ℕ) (more number none : ℕ)
    → get_or (page ++ replicate more none) number none ≡ get_or page number none
get_or-filled [] zero number none = refl
get_or-filled [] (suc more) zero none = refl
get_or-filled [] (suc more) (suc number) none = get_or-filled [] more number none
get_or-filled (x ∷ page) more zero none = refl
get_or-filled (x ∷ page) more (suc number) none = get_or-filled page more number none

-- numbers that are noted on a row's page are noted in the row, and in no other row
pub place_in-noted : {V : Type 0} (places : V → List ℕ) (pages : List V) (row : ℕ) (page new : V)
    (named : ℕ → Bool) (place none : ℕ) → row < length pages → page ≡ get_or pages row page
    → ((number : ℕ) → get_or (places new) number none ≡ noted (named number) place none (get_or (places page) number none))
    → (other number : ℕ) → place_in (map places (set pages row new)) other number none
    ≡ noted ((other == row) && named number) place none (place_in (map places pages) other number none)
place_in-noted places pages row page new named place none within is new_is other number = rw map-set (elim (cases_eq other row) [
  | inl same ↦ rw (same, get_or-set_same (map places pages) row (places new) [] (rw length-map within), get_or-map places pages row page [] within, ← is) (grind (arith, nat_tests, new_is number))
  | inr apart ↦ rw (get_or-set_other (map places pages) row other (places new) [] apart) (grind (arith, nat_tests))
])
