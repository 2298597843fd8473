-- The lines of an image, one after the other.
use Rattle.std.proofs.Common.{◌≡◌, ℕ, ◌+◌, true, cond, not, ◌==◌, Option, Some, Result, Ok, Err, List, [], ◌∷◌, ◌++◌, length, refl, sym, ap, ◌∙◌, arith, None}
use Rattle.std.proofs.lemmas.Bool.Decides.{nat_tests}
use Rattle.ipmi_image.specs.Below.{Store}
use Rattle.ipmi_image.specs.Prelude.{LineFault, ImageFault, pieces, Line, the_end, line_of, store_of_lines, fault_in, line_judged, at_line, is_end, ends_here, store_after, version_in, store_of_pieces, store_of_image, Version}
use Rattle.ipmi_image.proofs.TextLemmas.{length_pieces}

-- there is nothing after a line feed if and only if there are no more bytes
pub ends_here_pieces : (bytes : List ℕ) → ends_here (pieces 10 bytes) ≡ (length bytes == 0)
unfolding pieces
ends_here_pieces [] = refl
ends_here_pieces (b ∷ bytes) = grind (arith, nat_tests, length_pieces 10 bytes)

-- a last line without a line feed is not `end`
pub store_after_unended : (version : Version) (before : List Line) (text : List ℕ)
    → store_after version before (text ∷ []) ≡ Err ImageFault.NoEnd
unfolding store_after
store_after_unended version before text = refl

-- the result of a line and the lines after it
abbrev pub after_line : Version → List Line → List (List ℕ) → Result Line LineFault
    → Result Store ImageFault
after_line version before rest (Ok line) =
    cond (not (is_end line)) (store_after version (before ++ line ∷ []) rest)
    (cond (ends_here rest) (Ok (store_of_lines before))
    (Err (ImageFault.AfterEnd (length before + 3))))
after_line version before rest (Err fault) = Err (at_line (length before + 2) fault)

pub store_after_line : (version : Version) (before : List Line) (text after : List ℕ)
    → store_after version before (text ∷ pieces 10 after)
    ≡ after_line version before (pieces 10 after) (line_judged version before text)
unfolding store_after
store_after_line version before text after = grind (arith, length_pieces 10 after)

-- the result of lines is that of the first line and the others
pub lines_after : (version : Version) (before : List Line) (all text after : List ℕ)
    (r : Result Line LineFault) (given : Result Store ImageFault)
    → pieces 10 all ≡ text ∷ pieces 10 after → line_judged version before text ≡ r
    → store_after version before (pieces 10 all) ≡ given
    → given ≡ after_line version before (pieces 10 after) r
lines_after version before all text after r given cut line was = sym was ∙ ap (store_after version before) cut ∙ store_after_line version before text after ∙ ap (after_line version before (pieces 10 after)) line

-- the line if it has no fault, otherwise the fault
abbrev pub unless_fault : Option LineFault → Line → Result Line LineFault
unless_fault None line = Ok line
unless_fault (Some fault) line = Err fault

module _ (version : Version) (before : List Line) (text : List ℕ) where
  pub line_judged-err : (fault : LineFault) → line_of version text ≡ Err fault
      → line_judged version before text ≡ Err fault
  line_judged-err fault e = rw (line_judged, e) refl

  pub line_judged-found : (line : Line) (f : Option LineFault) → line_of version text ≡ Ok line
      → fault_in (store_of_lines before) line ≡ f
      → line_judged version before text ≡ unless_fault f line
  line_judged-found line None e is = rw (line_judged, e, is) refl
  line_judged-found line (Some fault) e is = rw (line_judged, e, is) refl

pub end_is : (line : Line) → is_end line ≡ true → line ≡ the_end
end_is line e = grind arith

-- the lines after the first one give the store
pub store_of_image-lines : (bytes first rest : List ℕ) (version : Version)
    → pieces 10 bytes ≡ first ∷ pieces 10 rest → Some version ≡ version_in first
    → store_of_image bytes ≡ store_after version [] (pieces 10 rest)
store_of_image-lines bytes first rest version cut is = ap store_of_pieces cut ∙ grind (arith, is, length_pieces 10 rest)
