use Rattle.std.proofs.Common.{◌≡◌, ℕ, ◌++◌, ◌∷◌, [], ap, sym, ◌∙◌, length, List, map, arith}
use Rattle.std.proofs.lemmas.Grind.{common_steps}
use Rattle.ipmi_image.specs.Prelude.{place_of, id_of, row_in, row_of, SavedRow, RowHead}
use Rattle.ipmi_image.proofs.RowsLemmas.{place_of_row_in, map-row_in_with}
use Rattle.ipmi_image.proofs.rows.Rows.push.Goals as goal

pub returns-clause-put : goal.returns-clause-put
returns-clause-put c =
    let put = c.in_default.ensures.put in
    let bytes = c.self.inside.bytes.items in
    let heads = c.self.inside.heads in
    let more = c.args.row.now.bytes.now in
    let id = c.args.row.now.id in
    let next = c.args.row.now.next in
    let with_head : ℕ → ℕ → List RowHead = λ start len. heads ++ record { start = start; len = len; id = id; next = next } ∷ [] in
    let start : c.new.result ≡ length bytes = c.new.ensures ∙ c.len-start.ensures ∙ c.begin.new.bytes.ok.0 ∙ ap length c.in_ok-begin.ensures in (
      ap (place_of id_of id) (sym c.self.view_is) ∙ place_of_row_in bytes id heads ∙ put.0,
      ap (λ l. map (row_in l) c.push.new.self) (c.in_ok-extend_from_slice.ensures.items ∙ ap (λ l. l ++ more) c.in_ok-begin.ensures)
          ∙ ap (map (row_in (bytes ++ more))) (put.1 ∙ ap (λ n. with_head n c.new-2.result) start ∙ ap (with_head (length bytes)) c.new-2.ensures)
          ∙ map-row_in_with bytes more heads id next c.self.invariant.within
          ∙ ap (λ (l : List SavedRow). l ++ row_of c.args.row.now ∷ []) c.self.view_is,
    )

pub invariant_of-self-in_default : goal.invariant_of-self-in_default
invariant_of-self-in_default c = grind (arith, common_steps)

pub returns-in-Err-clause-err : goal.returns-in-Err-clause-err
returns-in-Err-clause-err c = grind (arith, common_steps)
