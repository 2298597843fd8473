-- Tables of what belongs to each number below a bound.
use Rattle.std.proofs.Common.{◌≡◌, ◌∙◌, ℕ, ◌<◌, List, [], ap, arith, map, slice_index_or}
use Rattle.std.specs.List.{range_with_len}
use Rattle.std.proofs.lemmas.List.FromFn.{get_or-map-range_with_len}

pub entry_at : {A : Type 0} (entry_of : ℕ → A) (entries : List A) (default : A) (n number : ℕ)
    → entries ≡ map entry_of (range_with_len 0 n) → number < n → slice_index_or entries number default ≡ entry_of number
entry_at entry_of entries default n number are below =
    ap (λ all. slice_index_or all number default) are
    ∙ get_or-map-range_with_len entry_of 0 n number number default below (omega arith)

pub text_at : (text_of : ℕ → List ℕ) (texts : List (List ℕ)) (n number : ℕ)
    → texts ≡ map text_of (range_with_len 0 n) → number < n → slice_index_or texts number [] ≡ text_of number
text_at text_of texts n number are below = entry_at text_of texts [] n number are below
