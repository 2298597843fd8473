use Rattle.std.proofs.Common.{ap, ◌∙◌, arith, eq-eqb}
use Rattle.ipmi_image.specs.Prelude.{place_of}
use Rattle.ipmi_image.proofs.TableLemmas.{place_below, key_place_of}
use Rattle.ipmi_image.proofs.table.Table.is_at.Goals as goal

pub returns-in-Some-clause-no : goal.returns-in-Some-clause-no
returns-in-Some-clause-no g c = λ found.
    let key = g.T.TableItem.key in
    let item = c.in-Some.item.now in
    let at = rw c.deref.ensures.value at c.in-Some.ensures.lookup.3 in
    let has = rw (ap (place_of key c.args.key) c.self.view_is ∙ found) at (key_place_of key c.args.key c.self.inside.items.items item) in
    eq-eqb _ _ (c.key.ensures ∙ ap key (at.1 item) ∙ has)

pub returns-in-None-clause-no : goal.returns-in-None-clause-no
returns-in-None-clause-no g c = λ found.
    let past = rw c.deref.ensures.value at c.in-None.ensures.lookup.3 in
    let below = rw (ap (place_of g.T.TableItem.key c.args.key) c.self.view_is ∙ found) at (place_below g.T.TableItem.key c.args.key c.self.inside.items.items) in
    absurd (omega (arith, past, below))
