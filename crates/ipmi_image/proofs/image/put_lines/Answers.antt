use Rattle.std.proofs.Common.{◌≡◌, ◌+◌, ◌++◌, ◌∷◌, false, [], None, Some, Ok, length, refl, sym, ap, ◌∙◌, inl, inr, arith, length-append}
use Rattle.ipmi_image.specs.Prelude.{pieces, the_end, at_line, is_end, store_after, said}
use Rattle.ipmi_image.proofs.ReadLemmas.{ends_here_pieces, store_after_unended, lines_after, line_judged-err, line_judged-found, end_is}
use Rattle.ipmi_image.proofs.StoreLemmas.{store_of-lines}
use Rattle.ipmi_image.proofs.image.put_lines.Goals as goal

pub returns-in_default-clause-err : goal.returns-in_default-clause-err
returns-in_default-clause-err c =
    let lines = c.lines.invariant.1 in
    inr (sym lines.3 ∙ ap (store_after c.args.version lines.0) c.in_default.ensures.cut ∙ store_after_unended c.args.version lines.0 _)

pub returns-in-Err-clause-err : goal.returns-in-Err-clause-err
returns-in-Err-clause-err c =
    let lines = c.lines.invariant.1 in
    elim c.in-Err.ensures [
      | inl memory ↦ inl (c.at.ensures ∙ ap (at_line c.lines.number) memory)
      | inr is ↦ inr (
          lines_after _ _ _ _ _ _ _ c.in-Some.ensures.cut (line_judged-err c.args.version lines.0 c.in-Some.line.now c.in-Err.fault is) lines.3 ∙ rw (lines.2, sym c.at.ensures) refl)
    ]

pub returns-then-is_empty-clause-ok : goal.returns-then-is_empty-clause-ok
returns-then-is_empty-clause-ok c =
    let lines = c.lines.invariant.1 in
    let last : said c.read_line.new.bytes.items c.in-Ok.line ≡ the_end = end_is _ (sym (c.is_end.ensures _) ∙ c.if-is_end.true) in (
      c.lines.invariant.0,
      lines_after _ _ _ _ _ _ _ c.in-Some.ensures.cut (line_judged-found c.args.version lines.0 c.in-Some.line.now the_end None
          (c.in-Ok.ensures ∙ ap Ok last) refl) lines.3
          ∙ rw (ends_here_pieces c.in-Some.after.now ∙ sym c.is_empty.ensures ∙ c.if-is_empty.true, sym (store_of-lines c.lines.contents lines.0 lines.1)) refl,
    )

pub returns-then-is_end-clause-err : goal.returns-then-is_end-clause-err
returns-then-is_end-clause-err c =
    let lines = c.lines.invariant.1 in
    let last : said c.read_line.new.bytes.items c.in-Ok.line ≡ the_end = end_is _ (sym (c.is_end.ensures _) ∙ c.if-is_end.true) in
    let number : length lines.0 + 3 ≡ c.lines.number + 1 = let is = lines.2 in omega (arith, is) in
    inr (lines_after _ _ _ _ _ _ _ c.in-Some.ensures.cut (line_judged-found c.args.version lines.0 c.in-Some.line.now the_end None
    (c.in-Ok.ensures ∙ ap Ok last) refl) lines.3
    ∙ rw (ends_here_pieces c.in-Some.after.now ∙ sym c.is_empty.ensures ∙ c.if-is_empty.false, number) refl)

pub returns-in-Err-put-clause-err : goal.returns-in-Err-put-clause-err
returns-in-Err-put-clause-err c =
    let lines = c.lines.invariant.1 in
    elim (c.in-Err-put.ensures.lines lines.0 lines.1) [
      | inl memory ↦ inl (c.at-in-Err-put.ensures ∙ ap (at_line c.lines.number) memory)
      | inr is ↦ inr (
          lines_after _ _ _ _ _ _ _ c.in-Some.ensures.cut (line_judged-found c.args.version lines.0 c.in-Some.line.now
          (said c.as_slice.result.now c.in-Ok.line) (Some c.in-Err-put.fault) (c.in-Ok.ensures ∙ rw (sym c.as_slice.ensures.value) refl) is) lines.3
          ∙ rw (lines.2, sym c.at-in-Err-put.ensures) refl)
    ]

pub lines-preserved : goal.lines-preserved
lines-preserved c =
    let lines = c.lines.invariant.1 in
    let rest = pieces 10 c.in-Some.after.now in
    let line = said c.as_slice.result.now c.in-Ok.line in
    let put = c.in_default-put.ensures.lines lines.0 lines.1 in
    let more : is_end line ≡ false = sym (c.is_end.ensures _) ∙ c.if-is_end.false in
    let long = length-append lines.0 (line ∷ []) in
    let shorter = c.in-Some.ensures.shorter in
    let number = lines.2 in
    let bound = c.lines.invariant.2 in (
      c.in_default-put.ensures.keeps,
      (
        lines.0 ++ line ∷ [],
        put.1,
        omega (arith, long, number),
        sym (lines_after _ _ _ _ _ _ _ c.in-Some.ensures.cut (line_judged-found c.args.version lines.0 c.in-Some.line.now line None
            (c.in-Ok.ensures ∙ rw (sym c.as_slice.ensures.value) refl) put.0) lines.3 ∙ rw more refl),
      ),
      omega (arith, shorter, bound),
    )
