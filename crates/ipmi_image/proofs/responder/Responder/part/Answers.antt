use Rattle.std.proofs.Common.{rules, ◌≡◌, ◌+◌, nat_eq, true, false, sym, ◌∙◌, arith, Some, length, refl}
use Rattle.std.proofs.lemmas.Bool.Decides.{nat_tests}
use Rattle.ipmi_image.specs.Below.{look, row_of_record, rows_of}
use Rattle.ipmi_image.specs.Prelude.{seen_as}
use Rattle.ipmi_image.proofs.RespondLemmas.{current-same}
use Rattle.ipmi_image.proofs.responder.Responder.part.Goals as goal

pub returns-then-not-is_reserved-clause-answers : goal.returns-then-not-is_reserved-clause-answers
returns-then-not-is_reserved-clause-answers c = λ h.
    let other = c.if-not-is_reserved.ensures in
    let found : look (rows_of c.args.shelf c.args.self.now.image) c.args.id ≡ Some (row_of_record c.in-Some.row) = rw (sym c.rows.ensures) (sym c.in-Some.ensures) in
    record {
      change = search rules;
      gives = search rules;
      keeps = search rules;
      beside = search rules;
      plain = λ p. rw found (λ lt reserved. absurd (other.1 (current-same c.args.shelf _ (seen_as true c.args.self.now) refl refl ∙ reserved other.0)));
    }

pub returns-then-from-row-clause-answers : goal.returns-then-from-row-clause-answers
returns-then-from-row-clause-answers c = λ h.
    let found : look (rows_of c.args.shelf c.args.self.now.image) c.args.id ≡ Some (row_of_record c.in-Some.row) = rw (sym c.rows.ensures) (sym c.in-Some.ensures) in
    let flag : nat_eq (c.args.offset + c.in-Some-copy_piece.got) (length c.in-Some.row.bytes.now) ≡ true = grind (arith, nat_tests, c.if-from-row.true, c.from-2.ensures, c.from-3.ensures) in
    record {
      change = search rules;
      gives = (
        row_of_record c.in-Some.row,
        record {
          found = found;
          piece = search rules;
          next = refl;
          reserved = λ some. current-same c.args.shelf _ (seen_as true (record c.args.self.now { tally = c.count.new.self })) refl refl ∙ c.if-not-is_reserved.ensures some;
          counts = rw flag (search rules);
        },
      );
      keeps = search rules;
      beside = search rules;
      plain = λ p. rw found (λ lt reserved. refl);
    }

pub returns-else-from-row-clause-answers : goal.returns-else-from-row-clause-answers
returns-else-from-row-clause-answers c = λ h.
    let found : look (rows_of c.args.shelf c.args.self.now.image) c.args.id ≡ Some (row_of_record c.in-Some.row) = rw (sym c.rows.ensures) (sym c.in-Some.ensures) in
    let flag : nat_eq (c.args.offset + c.in-Some-copy_piece.got) (length c.in-Some.row.bytes.now) ≡ false = grind (arith, nat_tests, c.if-from-row.false, c.from-2.ensures, c.from-3.ensures) in
    record {
      change = search rules;
      gives = (
        row_of_record c.in-Some.row,
        record {
          found = found;
          piece = search rules;
          next = refl;
          reserved = λ some. current-same c.args.shelf _ (seen_as true (record c.args.self.now { tally = c.count.new.self })) refl refl ∙ c.if-not-is_reserved.ensures some;
          counts = rw flag (search rules);
        },
      );
      keeps = search rules;
      beside = search rules;
      plain = λ p. rw found (λ lt reserved. refl);
    }
