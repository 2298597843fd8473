-- The rows within a limit: those of a walk up to the last one that the limit counts.
use Rattle.std.proofs.Common.{◌≡◌, ℕ, zero, suc, ◌+◌, ◌-◌, ◌<◌, ◌≤◌, Bool, true, false, cond, nat_le, if◌then◌else◌, Option, None, Some, List, [], ◌∷◌, ◌++◌, length, take, drop, refl, sym, ap, ◌∙◌, arith, take_all, length-take-le, take-append-drop, append-nil}
use Rattle.std.specs.Int.{from_bool}
use Rattle.std.proofs.Math.Seq.{drop-append_seam, take-append_seam}
use Rattle.std.proofs.lemmas.Bool.Decides.{nat_tests}
use Rattle.std.proofs.lemmas.List.Sums.{sum_by-append, sum_by-cons}
use Rattle.ipmi_commands.specs.Below.{Done, first_row, Row, WalkEnd}
use Rattle.ipmi_commands.specs.Prelude.{AreWithin, counted, counts, first_end, first_rows, Form, IsWithin, up_to}

-- 1 for a row that counts
abbrev pub counts_as : Form → Row → ℕ
counts_as form row = cond (counts form row) 1 0

pub number_of : (one : Bool) → from_bool one ≡ cond one 1 0
number_of true = refl
number_of false = refl

-- the limit that is left after so many rows that count
abbrev pub less : Option ℕ → ℕ → Option ℕ
less None count = None
less (Some n) count = Some (n - count)

pub within_as : (most : Option ℕ) (count : ℕ) (form : Form) (row : Row) → IsWithin most (count + 1)
    → IsWithin most (count + counts_as form row)
within_as most count form row below = by most (counts form row) below
  where
    by : (most : Option ℕ) (one : Bool) → IsWithin most (count + 1) → IsWithin most (count + cond one 1 0)
    by None one below = tt
    by (Some n) true below = below
    by (Some n) false below = omega (arith, below)

pub at_most_one : (form : Form) (row : Row) → counts_as form row ≤ 1
at_most_one form row = by (counts form row)
  where
    by : (one : Bool) → cond one 1 0 ≤ 1
    by true = omega arith
    by false = omega arith

left_of : (one : Bool) (n count : ℕ) → (if one then n else suc n) - count ≡ suc n - (cond one 1 0 + count)
left_of true n count = omega arith
left_of false n count = omega arith

fewer_of : (one : Bool) (n count : ℕ) → cond one 1 0 + count < suc n → count < (if one then n else suc n)
fewer_of true n count below = omega (arith, below)
fewer_of false n count below = omega (arith, below)

module _ (form : Form) where
  counted-cons : (row : Row) (rows : List Row) → counted form (row ∷ rows) ≡ counts_as form row + counted form rows
  counted-cons row rows = sum_by-cons (counts_as form) row rows

  pub counted-append : (rows more : List Row) → counted form (rows ++ more) ≡ counted form rows + counted form more
  counted-append rows more = sum_by-append (counts_as form) rows more

  pub counted-more : (rows : List Row) (row : Row) → counted form (rows ++ row ∷ []) ≡ counted form rows + counts_as form row
  counted-more rows row = omega (arith, counted-append rows (row ∷ []), counted-cons row [])

  pub counted_split : (size : ℕ) (rows : List Row)
      → counted form (take size rows) + counted form (drop size rows) ≡ counted form rows
  counted_split size rows = sym (counted-append (take size rows) (drop size rows)) ∙ ap (counted form) (take-append-drop size rows)

  -- if every row counts
  counted_all : ((row : Row) → counts form row ≡ true) → (rows : List Row) → counted form rows ≡ length rows
  counted_all every [] = refl
  counted_all every (row ∷ rows) =
      let one : counts_as form row ≡ 1 = ap (λ (b : Bool). cond b 1 0) (every row) in
      omega (arith, counted-cons row rows, one, counted_all every rows)

  -- ---- the first rows

  up_to-nil : (n : ℕ) → up_to form n [] ≡ []
  up_to-nil zero = refl
  up_to-nil (suc n) = refl

  up_to-append : (n : ℕ) (done rest : List Row) → up_to form n done ≡ done
      → up_to form n (done ++ rest) ≡ done ++ up_to form (n - counted form done) rest
  up_to-append n [] rest within =
      let same : n ≡ n - counted form [] = omega arith in
      ap (λ (m : ℕ). up_to form m rest) same
  up_to-append zero (row ∷ done) rest within = cc within
  up_to-append (suc n) (row ∷ done) rest within =
      let m = if counts form row then n else suc n in
      let left : m - counted form done ≡ suc n - counted form (row ∷ done) =
      left_of (counts form row) n (counted form done) ∙ ap (λ (count : ℕ). suc n - count) (sym (counted-cons row done)) in
      ap (λ (l : List Row). row ∷ l)
      (up_to-append m done rest (ap (drop 1) within) ∙ ap (λ (k : ℕ). done ++ up_to form k rest) left)

  pub up_to-all : (n : ℕ) (rows : List Row) → counted form rows < n → up_to form n rows ≡ rows
  up_to-all n [] below = up_to-nil n
  up_to-all zero (row ∷ rows) below = absurd (omega (arith, below))
  up_to-all (suc n) (row ∷ rows) below =
      let less_left = fewer_of (counts form row) n (counted form rows) (omega (arith, below, counted-cons row rows)) in
      ap (λ (l : List Row). row ∷ l) (up_to-all (if counts form row then n else suc n) rows less_left)

  up_to-take : (n : ℕ) (rows : List Row) → up_to form n rows ≡ take (length (up_to form n rows)) rows
  up_to-take zero rows = refl
  up_to-take (suc n) [] = refl
  up_to-take (suc n) (row ∷ rows) = ap (λ (l : List Row). row ∷ l) (up_to-take (if counts form row then n else suc n) rows)

  -- they are a first part
  pub first_rows-take : (most : Option ℕ) (rows : List Row)
      → first_rows form most rows ≡ take (length (first_rows form most rows)) rows
  first_rows-take None rows = sym (take_all (length rows) rows (omega arith))
  first_rows-take (Some n) rows = up_to-take n rows

  pub first_rows-append : (most : Option ℕ) (done rest : List Row) → AreWithin form most done
      → first_rows form most (done ++ rest) ≡ done ++ first_rows form (less most (counted form done)) rest
  first_rows-append None done rest within = refl
  first_rows-append (Some n) done rest within = up_to-append n done rest within

  pub within_nil : (most : Option ℕ) → AreWithin form most []
  within_nil None = refl
  within_nil (Some n) = up_to-nil n

  -- ---- the limit is not reached

  -- the next row is listed
  pub first_row-left : (most : Option ℕ) (count : ℕ) (rest : List Row) → IsWithin most (count + 1)
      → first_row (first_rows form (less most count) rest) ≡ first_row rest
  first_row-left None count rest below = refl
  first_row-left (Some n) count rest below = by (n - count) rest (omega (arith, below))
    where
      by : (k : ℕ) (rest : List Row) → 1 ≤ k → first_row (up_to form k rest) ≡ first_row rest
      by zero rest some = absurd (omega (arith, some))
      by (suc k) [] some = refl
      by (suc k) (row ∷ rest) some = refl

  -- if no row within the limit is left, no row is
  pub none_left : (most : Option ℕ) (count : ℕ) (rest : List Row) → IsWithin most (count + 1)
      → first_rows form (less most count) rest ≡ [] → rest ≡ []
  none_left None count rest below none = none
  none_left (Some n) count rest below none = by (n - count) rest (omega (arith, below)) none
    where
      by : (k : ℕ) (rest : List Row) → 1 ≤ k → up_to form k rest ≡ [] → rest ≡ []
      by zero rest some none = absurd (omega (arith, some))
      by (suc k) [] some none = refl
      by (suc k) (row ∷ rest) some none = cc none

  one_left : (most : Option ℕ) (count : ℕ) (row : Row) → IsWithin most (count + 1)
      → first_rows form (less most count) (row ∷ []) ≡ row ∷ []
  one_left None count row below = refl
  one_left (Some n) count row below = by (n - count) (omega (arith, below))
    where
      by : (k : ℕ) → 1 ≤ k → up_to form k (row ∷ []) ≡ row ∷ []
      by zero some = absurd (omega (arith, some))
      by (suc k) some = ap (λ (l : List Row). row ∷ l) (up_to-nil (if counts form row then k else suc k))

  -- one more row is within the limit
  pub are_within_more : (most : Option ℕ) (rows : List Row) (row : Row) → AreWithin form most rows
      → IsWithin most (counted form rows + 1) → AreWithin form most (rows ++ row ∷ [])
  are_within_more most rows row within below = first_rows-append most rows (row ∷ []) within
      ∙ ap (λ (l : List Row). rows ++ l) (one_left most (counted form rows) row below)

  pub first_end-below : (most : Option ℕ) (rows : List Row) (end : WalkEnd) → IsWithin most (counted form rows + 1)
      → first_end form most rows end ≡ end
  first_end-below None rows end below = refl
  first_end-below (Some n) rows end below = by (counted form rows) below
    where
      by : (count : ℕ) → count + 1 ≤ n → (if nat_le n count then Done else end) ≡ end
      by count below = grind (arith, nat_tests)

  -- ---- the limit is reached

  pub none_at_limit : (most : Option ℕ) (count : ℕ) (rest : List Row) → most ≡ Some count
      → first_rows form (less most count) rest ≡ []
  none_at_limit None count rest is = cc is
  none_at_limit (Some n) count rest is =
      let same : n ≡ count = cc is in
      let none : n - count ≡ 0 = omega (arith, same) in
      ap (λ (k : ℕ). up_to form k rest) none

  pub first_end-reached : (most : Option ℕ) (count : ℕ) (rows : List Row) (end : WalkEnd) → most ≡ Some count
      → count ≤ counted form rows → first_end form most rows end ≡ Done
  first_end-reached None count rows end is reached = cc is
  first_end-reached (Some n) count rows end is reached =
      let same : n ≡ count = cc is in
      by (counted form rows) (omega (arith, same, reached))
    where
      by : (all : ℕ) → n ≤ all → (if nat_le n all then Done else end) ≡ Done
      by all reached = grind (arith, nat_tests)

  -- ---- the first `size` rows, which are within the limit, and those within it that are left

  module _ (most : Option ℕ) (size : ℕ) (rows : List Row) (fits : size ≤ length rows) (within : AreWithin form most (take size rows)) where
    abbrev left : List Row
    left = first_rows form (less most (counted form (take size rows))) (drop size rows)

    split : first_rows form most rows ≡ take size rows ++ left
    split = ap (first_rows form most) (sym (take-append-drop size rows)) ∙ first_rows-append most (take size rows) (drop size rows) within

    pub take_used : take size (first_rows form most rows) ≡ take size rows
    take_used = ap (take size) split ∙ ap (λ (k : ℕ). take k (take size rows ++ left)) (sym (length-take-le size rows fits))
        ∙ take-append_seam (take size rows) left

    pub drop_used : drop size (first_rows form most rows) ≡ left
    drop_used = ap (drop size) split ∙ ap (λ (k : ℕ). drop k (take size rows ++ left)) (sym (length-take-le size rows fits))
        ∙ drop-append_seam (take size rows) left

    -- they are all, if the limit is reached
    pub full_used : most ≡ Some (counted form (take size rows)) → first_rows form most rows ≡ take size rows
    full_used limit = split ∙ ap (λ (l : List Row). take size rows ++ l) (none_at_limit most (counted form (take size rows)) (drop size rows) limit)
        ∙ append-nil (take size rows)

-- ---- skipped entries: each of them counts

pub counted_skipped : (rows : List Row) → counted Form.Skipped rows ≡ length rows
counted_skipped rows = counted_all Form.Skipped (λ row. refl) rows

pub skipped_rows : (n : ℕ) (rows : List Row) → up_to Form.Skipped n rows ≡ take n rows
skipped_rows zero rows = refl
skipped_rows (suc n) [] = refl
skipped_rows (suc n) (row ∷ rows) = ap (λ (l : List Row). row ∷ l) (skipped_rows n rows)
