-- The table of a code, from the tables of some of the codes.
use Rattle.std.proofs.Common.{◌≡◌, ◌∙◌, ℕ, zero, suc, ◌-◌, ◌<◌, ◌≤◌, ◌==◌, Bool, true, false, if◌then◌else◌, List, [], get_or, take, drop, ap, arith, refl, sym}
use Rattle.std.specs.List.{slice_get}
use Rattle.std.specs.Option.{unwrap_or}
use Rattle.std.proofs.lemmas.Bool.Decides.{nat_tests}
use Rattle.std.proofs.lemmas.List.{get_or-drop, get_or-take}
use Rattle.std.proofs.lemmas.Option.{unwrap_or-slice_get}
use Rattle.ipmi_events.specs.Table.{table_from_one}

table_at : (tables : List (List (List ℕ))) (code : ℕ) → 0 < code
    → table_from_one tables code ≡ get_or tables (code - 1) []
table_at tables code some = by (code == 0) (grind (arith, nat_tests, some))
  where
    by : (b : Bool) → b ≡ false
        → (if b then [] else unwrap_or (slice_get tables (code - 1)) []) ≡ get_or tables (code - 1) []
    by true e = absurd (grind (arith, e))
    by false e = unwrap_or-slice_get tables (code - 1) []

-- the first tables
pub table_taken : (n code : ℕ) (tables : List (List (List ℕ))) → code ≤ n
    → table_from_one (take n tables) code ≡ table_from_one tables code
table_taken n zero tables below = refl
table_taken n (suc code) tables below =
    table_at (take n tables) (suc code) (omega arith)
    ∙ get_or-take n tables (suc code - 1) [] (omega arith)
    ∙ sym (table_at tables (suc code) (omega arith))

-- the tables after the first
pub table_dropped : (n code : ℕ) (tables : List (List (List ℕ))) → n < code
    → table_from_one (drop n tables) (code - n) ≡ table_from_one tables code
table_dropped n code tables above =
    table_at (drop n tables) (code - n) (omega arith)
    ∙ get_or-drop n tables (code - n - 1) []
    ∙ ap (λ i. get_or tables i []) (omega arith)
    ∙ sym (table_at tables code (omega arith))
