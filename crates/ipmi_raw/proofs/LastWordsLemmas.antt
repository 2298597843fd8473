-- The first lines of a text, on one.
use Rattle.std.proofs.Common.{◌≡◌, ◌≤◌, ◌++◌, [], ◌∷◌, ap, arith, codes, length, List, map, ℕ, sym}
use Rattle.std.proofs.lemmas.List.Folds.{flat_map-map}
use Rattle.std.specs.Borrow.{Bor}
use Rattle.std.specs.List.{join_by}
use Rattle.ipmi_raw.specs.LastWords.{on_a_line}

pub joined : (lines : List (Bor (List ℕ))) → 1 ≤ length lines
    → join_by (λ line. line.now) (codes "; ") lines ≡ on_a_line (map (λ line. line.now) lines)
joined [] h = absurd (omega (arith, h))
joined (line ∷ lines) h =
    ap (λ (t : List ℕ). line.now ++ t) (sym (flat_map-map (λ text. codes "; " ++ text) (λ l. l.now) lines))
