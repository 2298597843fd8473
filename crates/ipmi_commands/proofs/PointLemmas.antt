-- The points of a walk and of its rows.
use Rattle.std.proofs.Common.{◌≡◌, ◌≢◌, inl, inr, ℕ, zero, suc, ◌==◌, Bool, true, false, cond, Option, List, [], ◌∷◌, ◌++◌, length, take, drop, refl, ap, subst, arith, ne_eqb}
use Rattle.ipmi_commands.specs.Below.{Place, First, Id, End, Row, WalkEnd, EndsBy, place_after, place_after_rows, last_next, MayFail, asked_at}
use Rattle.ipmi_commands.proofs.LimitLemmas.{first_rows-take}
use Rattle.ipmi_commands.specs.Prelude.{AtRecord, first_rows, points_at_walk_end, points_because_of, points_of_rows, Form, IsAmong, Item, row_items, ReadPoint, next_points}

-- the place after a row is not the start
pub not_first : (n : ℕ) (rows : List Row) → place_after_rows (place_after n) rows ≢ First
not_first n [] at = (elim (n == 0xFFFF) as (λ b. cond b End (Id n) ≡ First → ⊥) [ true ↦ λ e. cc e | false ↦ λ e. cc e ]) at
not_first n (row ∷ rows) at = not_first row.next rows at

-- the id requested after rows whose last row has a next id
asked_at-next : (n : ℕ) (rows : List Row) → last_next n rows ≢ 0xFFFF
    → asked_at (place_after_rows (place_after n) rows) ≡ last_next n rows
asked_at-next n [] more = ap asked_at (ap (λ (b : Bool). cond b End (Id n)) (ne_eqb n 0xFFFF more))
asked_at-next n (row ∷ rows) more = asked_at-next row.next rows more

-- the id requested at the end of a walk is a point of its end
pub end_point : (rows : List Row) (start : Place) (walk : List Row) (end : WalkEnd)
    → EndsBy rows start walk end → MayFail end (place_after_rows start walk)
    → IsAmong (points_at_walk_end start walk end) (AtRecord (asked_at (place_after_rows start walk)))
end_point rows start walk end ends may = grind (arith, not_first, asked_at-next)

-- the end after more rows is that of the last rows
pub points_at_walk_end-joined : (start : Place) (done rest : List Row) (end : WalkEnd)
    → points_at_walk_end (place_after_rows start done) rest end ≡ points_at_walk_end start (done ++ rest) end
points_at_walk_end-joined start [] rest end = refl
points_at_walk_end-joined start (d ∷ done) rest end = grind (arith, not_first d.next done)

pub among_before : (points more : List ReadPoint) (point : ReadPoint) → IsAmong points point
    → IsAmong (points ++ more) point
among_before (first ∷ points) more point among = elim among [ inl at ↦ inl at | inr later ↦ inr (among_before points more point later) ]
among_before [] more point among = absurd among

pub among_after : (points ends : List ReadPoint) (point : ReadPoint) → IsAmong ends point
    → IsAmong (points ++ ends) point
among_after [] ends point among = among
among_after (first ∷ points) ends point among = inr (among_after points ends point among)

-- the id requested first is a point of the first item
pub asked_first : (form : Form) (place : Place) (rows : List Row) (ends : List ReadPoint)
    → (rows ≡ [] → IsAmong ends (AtRecord (asked_at place)))
    → IsAmong (next_points (row_items form place rows) ends) (AtRecord (asked_at place))
asked_first form place [] ends at_end = at_end refl
asked_first form place (row ∷ rows) ends at_end = inl refl

-- ---- a walk in a form that requests only records

pub points_of_rows-split : (k : ℕ) (start : Place) (rows : List Row) (ends : List ReadPoint)
    → points_of_rows start rows ++ ends ≡ points_of_rows start (take k rows)
    ++ (points_of_rows (place_after_rows start (take k rows)) (drop k rows) ++ ends)
points_of_rows-split zero start rows ends = refl
points_of_rows-split (suc k) start [] ends = refl
points_of_rows-split (suc k) start (row ∷ rows) ends = rw (points_of_rows-split k (place_after row.next) rows ends) refl

module _ (form : Form) (quiet : (row : Row) → points_because_of form row ≡ []) where
  -- the points of the next item, or after the rows, are points of the rows
  quiet_point : (rows : List Row) (start : Place) (done rest : List Item) (ends more : List ReadPoint)
      (point : ReadPoint)
      → row_items form start rows ≡ done ++ rest → (IsAmong ends point → IsAmong more point)
      → IsAmong (next_points rest ends) point → IsAmong (points_of_rows start rows ++ more) point
  quiet_point [] start [] rest ends more point is wide among = let none : rest ≡ [] = cc is in wide (rw none at among)
  quiet_point [] start (d ∷ done) rest ends more point is wide among = cc is
  quiet_point (row ∷ rows) start [] rest ends more point is wide among = elim (rw (← is, quiet row) at among) [ inl at ↦ inl at | inr none ↦ absurd none ]
  quiet_point (row ∷ rows) start (d ∷ done) rest ends more point is wide among = inr (quiet_point rows (place_after row.next) done rest ends more point (cc is) wide among)

  pub quiet_there : (most : Option ℕ) (start : Place) (walk : List Row) (done rest : List Item)
      (ends : List ReadPoint)
      (point : ReadPoint) → row_items form start (first_rows form most walk) ≡ done ++ rest
      → IsAmong (next_points rest ends) point → IsAmong (points_of_rows start walk ++ ends) point
  quiet_there most start walk done rest ends point is among =
      let size = length (first_rows form most walk) in
      let later = points_of_rows (place_after_rows start (take size walk)) (drop size walk) in
      let taken = subst (λ (rows : List Row). row_items form start rows ≡ done ++ rest) (first_rows-take form most walk) is in
      rw (points_of_rows-split size start walk ends) (quiet_point (take size walk) start done rest ends (later ++ ends) point taken (λ there. among_after later ends point there) among)
