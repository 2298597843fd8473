-- Places by their keys, in pages.
use Rattle.std.proofs.Common.{◌≡◌, ℕ, zero, suc, ◌/◌, ◌%◌, ◌<◌, ◌≤◌, cond, nat_eq, Some, List, [], ◌∷◌, ◌++◌, length, map, replicate, get_or, set, refl, sym, ap, ◌∙◌, inl, inr, arith, eq-eqb, length-set}
use Rattle.std.proofs.lemmas.Bool.{cases_eq, cases_lt}
use Rattle.std.proofs.lemmas.Bool.Decides.{nat_tests}
use Rattle.std.proofs.lemmas.List.{get_or-set_same, get_or-set_other, get_or_past, get_or-replicate, length-replicate, map-set, length-map}
use Rattle.ipmi_image.specs.Prelude.{HasRoom, place_in}
use Rattle.ipmi_image.specs.Table.{kept_place}

-- an additional page without slots has no places
pub place_in-empty_page : (pages : List (List ℕ)) (key : ℕ)
    → place_in (pages ++ [] ∷ []) key ≡ place_in pages key
place_in-empty_page pages key = ap (λ (page : List ℕ). kept_place (get_or page (key % 256) 65535)) (by pages (key / 256))
  where
    by : (pages : List (List ℕ)) (k : ℕ) → get_or (pages ++ [] ∷ []) k [] ≡ get_or pages k []
    by [] zero = refl
    by [] (suc k) = refl
    by (x ∷ pages) zero = refl
    by (x ∷ pages) (suc k) = by pages k

module _ (pages : List (List ℕ)) (at : ℕ) (page : List ℕ) (within : at < length pages) where
  -- after replacing a page, its keys have the places in the new page
  pub place_in-set_at : (key : ℕ) → key / 256 ≡ at
      → place_in (set pages at page) key ≡ kept_place (get_or page (key % 256) 65535)
  place_in-set_at key is = rw is (rw (get_or-set_same pages at page [] within) refl)

  pub place_in-set_other : (key : ℕ) → (key / 256 ≡ at → ⊥)
      → place_in (set pages at page) key ≡ place_in pages key
  place_in-set_other key other = rw (get_or-set_other pages at (key / 256) page [] other) refl

  -- replacing a page by one with the same places changes nothing
  pub place_in-same_page : ((slot : ℕ) → get_or page slot 65535 ≡ get_or (get_or pages at []) slot 65535)
      → (key : ℕ) → place_in (set pages at page) key ≡ place_in pages key
  place_in-same_page same key = elim (cases_eq (key / 256) at) [
    | inl is ↦ place_in-set_at key is ∙ ap kept_place (same (key % 256)) ∙ rw is refl
    | inr other ↦ place_in-set_other key other
  ]

-- the place of a key that has room
pub place_in-put : (pages : List (List ℕ)) (key place other : ℕ) → HasRoom key pages → place < 65535
    → place_in (set pages (key / 256) (set (get_or pages (key / 256) []) (key % 256) place)) other
    ≡ cond (nat_eq key other) (Some place) (place_in pages other)
place_in-put pages key place other room lt = elim (cases_eq (other / 256) (key / 256)) [
  | inl is ↦ place_in-set_at pages (key / 256) _ room.0 other is ∙ elim (cases_eq (other % 256) (key % 256)) [
    | inl same ↦
        let one : key ≡ other = omega (arith, is, same) in
        rw (same, get_or-set_same (get_or pages (key / 256) []) (key % 256) place 65535 room.1, eq-eqb key other one) (grind (arith, nat_tests))
    | inr slot ↦ rw (get_or-set_other (get_or pages (key / 256) []) (key % 256) (other % 256) place 65535 slot, sym is) (grind (arith, nat_tests))
  ]
  | inr page ↦ place_in-set_other pages (key / 256) _ room.0 other page ∙ grind (arith, nat_tests)
]

-- slots without a place mean the same as missing slots
pub get_or-filled : (slots : List ℕ) (more slot none : ℕ)
    → get_or (slots ++ replicate more none) slot none ≡ get_or slots slot none
get_or-filled [] more slot none = elim (cases_lt slot more) [
  | inl lt ↦ get_or-replicate more slot none none lt
  | inr le ↦ get_or_past (replicate more none) slot none (rw (length-replicate more none) (omega (arith, le)))
]
get_or-filled (x ∷ slots) more zero none = refl
get_or-filled (x ∷ slots) more (suc slot) none = get_or-filled slots more slot none

-- ---- pages of another type

module _ {V : Type 0} (slots : V → List ℕ) where
  item_at : (pages : List V) (at : ℕ) (page : V) → at < length pages → page ≡ get_or pages at page
      → get_or (map slots pages) at [] ≡ slots page
  item_at [] at page within is = absurd (omega (arith, within))
  item_at (x ∷ pages) zero page within is = ap slots (sym is)
  item_at (x ∷ pages) (suc at) page within is = item_at pages at page (omega (arith, within)) is

  module _ (pages : List V) (key : ℕ) (page new : V) (within : key / 256 < length pages)
      (is : page ≡ get_or pages (key / 256) page) where
    pub same_page : ((slot : ℕ) → get_or (slots new) slot 65535 ≡ get_or (slots page) slot 65535)
        → (other : ℕ)
        → place_in (map slots (set pages (key / 256) new)) other ≡ place_in (map slots pages) other
    same_page same other =
        rw (map-set slots pages (key / 256) new) (place_in-same_page (map slots pages) (key / 256) (slots new) (rw (length-map pages slots) within)
        (λ slot. same slot ∙ ap (λ (l : List ℕ). get_or l slot 65535) (sym (item_at pages (key / 256) page within is))) other)

    pub filled_page : 256 ≤ length (slots new) → HasRoom key (map slots (set pages (key / 256) new))
    filled_page long = rw (map-set slots pages (key / 256) new) (
      rw (length-set (map slots pages) (key / 256) (slots new), length-map pages slots) within,
      rw (get_or-set_same (map slots pages) (key / 256) (slots new) [] (rw (length-map pages slots) within)) (omega (arith, long)),
    )

    pub put_place : (place : ℕ) → slots new ≡ set (slots page) (key % 256) place
        → HasRoom key (map slots pages) → place < 65535 → (other : ℕ)
        → place_in (map slots (set pages (key / 256) new)) other
        ≡ cond (nat_eq key other) (Some place) (place_in (map slots pages) other)
    put_place place puts room lt other =
        rw (map-set slots pages (key / 256) new, puts, sym (item_at pages (key / 256) page within is)) (place_in-put (map slots pages) key place other room lt)
