use Rattle.std.proofs.Common.{ap, sym, ◌∙◌, arith}
use Rattle.ipmi_image.specs.Prelude.{place_in}
use Rattle.ipmi_image.proofs.TableLemmas.{absent_key, index_push, index_len, index_room}
use Rattle.ipmi_image.proofs.table.Table.push.Goals as goal

pub returns-then-is_some-clause-few : goal.returns-then-is_some-clause-few
returns-then-is_some-clause-few g c = rw (sym c.self.view_is) (index_len g.T.TableItem.key c.self.inside.items.items (place_in c.self.inside.places) c.self.invariant)

pub overflow_cast-place : goal.overflow_cast-place
overflow_cast-place g c = omega (arith, index_len g.T.TableItem.key c.self.inside.items.items (place_in c.self.inside.places) c.self.invariant, c.len-place.ensures, c.self.inside.items.ok.0)

pub returns-in_default-clause-few : goal.returns-in_default-clause-few
returns-in_default-clause-few g c = index_len g.T.TableItem.key c.self.inside.items.items (place_in c.self.inside.places) c.self.invariant

pub returns-in_default-push-clause-few : goal.returns-in_default-push-clause-few
returns-in_default-push-clause-few g c = rw c.in_default-push.ensures.items (index_len g.T.TableItem.key c.self.inside.items.items (place_in c.self.inside.places) c.self.invariant)

pub put-requires-clause-place : goal.put-requires-clause-place
put-requires-clause-place g c =
    let key = g.T.TableItem.key in
    let items = c.self.inside.items.items in
    let places = place_in c.self.inside.places in
    let absent = absent_key key items (key c.args.item) places c.get.result c.self.invariant (c.get.ensures ∙ ap places c.key-key.ensures) (sym c.is_some.ensures ∙ c.if-is_some.false) in
    omega (arith, index_room key items c.args.item places c.self.invariant c.requires absent, c.len-place.ensures, c.self.inside.items.ok.0)

pub invariant_of-self-2 : goal.invariant_of-self-2
invariant_of-self-2 g c =
    let key = g.T.TableItem.key in
    let items = c.self.inside.items.items in
    let places = place_in c.self.inside.places in
    let absent = absent_key key items (key c.args.item) places c.get.result c.self.invariant (c.get.ensures ∙ ap places c.key-key.ensures) (sym c.is_some.ensures ∙ c.if-is_some.false) in
    rw c.in-Ok-push.ensures.items (index_push key items c.args.item places (place_in c.put.new.self) c.self.invariant c.requires absent
    (λ q. rw (c.key-key.ensures, c.len-place.ensures, c.self.inside.items.ok.0, c.reserve.ensures.same q) at (c.put.ensures q)))

pub returns-clause-few : goal.returns-clause-few
returns-clause-few g c = index_len g.T.TableItem.key c.push.new.self.items (place_in c.put.new.self) (invariant_of-self-2 g c)
