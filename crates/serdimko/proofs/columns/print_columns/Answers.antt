use Rattle.std.proofs.Common.{◌≡◌, ◌∙◌, List, None, Option, ap, arith, false, inl, inr, refl, sym, true, ℕ}
use Rattle.std.specs.Borrow.{Bor}
use Rattle.ipmi_command_line.specs.declared.request.Format.{Format}
use Rattle.ipmi_json.specs.declared.object.Label.{Label}
use Rattle.ipmi_program.specs.Wording.{frame_in, wording_of}
use Rattle.ipmi_program.specs.declared.wording.Wording.{Wording}
use Rattle.serdimko.specs.Columns.{IsHeader, PrintsColumns, PrintsHeader, table_of_query}
use Rattle.serdimko.specs.Out.{Out, out_of}
use Rattle.serdimko.specs.Settings.{texts_of}
use Rattle.serdimko.specs.declared.driver.Query.{Query}
use Rattle.serdimko.specs.declared.run_error.RunError.{RunError}
use Rattle.serdimko.proofs.columns.print_columns.Goals as goal

none : (format : Format) (labels : Bor (List Label)) (wording : Wording) (query : Query) (image : Option (List ℕ)) (old : Out)
    → wording ≡ wording_of format labels → (frame_in wording).has_header ≡ false → PrintsColumns format query image old old None
none format labels wording query image old is lacks =
    record { labels = labels; prints = rw (ap (λ (w : Wording). (frame_in w).has_header) (sym is) ∙ lacks) (refl, refl) }

some : (format : Format) (labels : Bor (List Label)) (wording : Wording) (query : Query) (image : Option (List ℕ)) (old new : Out) (last : Option RunError)
    → wording ≡ wording_of format labels → (frame_in wording).has_header ≡ true
    → PrintsHeader true (IsHeader format (texts_of format) image (table_of_query query)) old new last → PrintsColumns format query image old new last
some format labels wording query image old new last is has prints =
    record { labels = labels; prints = rw (ap (λ (w : Wording). (frame_in w).has_header) (sym is) ∙ has) prints }

pub returns-then-not-has_header : goal.returns-then-not-has_header
returns-then-not-has_header g c =
    none c.args.settings.now.format _ c.of.result c.args.query.now _ (out_of c.args.out.now) c.of.ensures (sym c.has_header.ensures ∙ c.if-not-has_header.true)

pub returns-in-Ok : goal.returns-in-Ok
returns-in-Ok g c =
    some c.args.settings.now.format _ c.of.result c.args.query.now _ (out_of c.args.out.now) (out_of c.write_last.new.out) c.write_last.result
    c.of.ensures (sym c.has_header.ensures ∙ c.if-not-has_header.false)
    (inr (
      c.in-Ok.line.items,
      rw (c.labels-texts.ensures, c.table_of_query.ensures) at c.in-Ok.ensures,
      rw c.as_slice.ensures.value at c.write_last.ensures.writes,
      omega (arith, c.write_last.ensures.faults refl),
    ))

pub returns-in-Err : goal.returns-in-Err
returns-in-Err g c =
    some c.args.settings.now.format _ c.of.result c.args.query.now _ (out_of c.args.out.now) (out_of c.args.out.now) _
    c.of.ensures (sym c.has_header.ensures ∙ c.if-not-has_header.false) (inl (refl, refl))
