use Rattle.std.proofs.Common.{◌≡◌, ◌+◌, ◌-◌, ◌++◌, drop, take, ◌∷◌, ℕ, true, List, length, refl, sym, ap, ◌∙◌, inr, arith, None, Option, Some, [], length-append}
use Rattle.std.proofs.lemmas.List.{take_rest}
use Rattle.ipmi_image.specs.Prelude.{is_lack_line, Lack, lack_of, lack_of_fields, pieces}
use Rattle.ipmi_image.proofs.SnapshotLemmas.{lacks_then_lack}
use Rattle.ipmi_image.proofs.snapshot.read_lacks.Goals as goal

-- the fields after the first word
after_word : (line : List ℕ) → lack_of line ≡ lack_of_fields (pieces 32 (take (length line - 6) (drop 6 line)))
after_word line = ap (λ (fields : List ℕ). lack_of_fields (pieces 32 fields)) (sym (take_rest line 6))

pub returns-in_default-parse_lack-clause-err : goal.returns-in_default-parse_lack-clause-err
returns-in_default-parse_lack-clause-err c =
    let is : is_lack_line c.in-Some.line.now ≡ true = sym c.if-not-starts_with.ensures.value in
    let none : lack_of c.in-Some.line.now ≡ None = after_word c.in-Some.line.now ∙ sym c.in_default-parse_lack.ensures in
    inr (c.lines.invariant.0 ∙ lacks_then_lack _ _ _ _ c.in-Some.ensures.cut is ∙ rw (none, c.as_slice.ensures.value) refl)

pub lines-preserved : goal.lines-preserved
lines-preserved c =
    let is : is_lack_line c.in-Some.line.now ≡ true = sym c.if-not-starts_with.ensures.value in
    let lack : lack_of c.in-Some.line.now ≡ Some c.in-Some-parse_lack.lack = after_word c.in-Some.line.now ∙ sym c.in-Some-parse_lack.ensures in
    let shorter = c.in-Some.ensures.shorter in
    let bound = c.lines.invariant.1 in
    let items = c.in-Ok.ensures.items in
    let long = length-append c.lines.lacks.items (c.in-Some-parse_lack.lack ∷ []) in
    (c.lines.invariant.0 ∙ lacks_then_lack _ _ _ _ c.in-Some.ensures.cut is ∙ rw (lack, items) refl, omega (arith, shorter, bound, long))
