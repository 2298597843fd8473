use Rattle.std.proofs.Common.{◌≡◌, ◌/◌, ◌%◌, nat_eq, nat_lt, ◌&&◌, true, get_or, length, ◌<◌, sym, ap, subst, ◌∙◌, rules, arith}
use Rattle.std.proofs.lemmas.Grind.{get_or_default_zero}
use Rattle.std.proofs.lemmas.Nat.Bits.{shr_and_one}
use Rattle.std.specs.Int.{bit_at}
use Rattle.std.specs.FinSet as set
use Rattle.ipmi_bus.specs.Prelude.{has_id_bit}
use Rattle.ipmi_bus.proofs.IdTableLemmas.{contains-ids_in, room_left}
use Rattle.ipmi_bus.proofs.id_table.IdTable.contains.Goals as goal

pub returns-clause-is : goal.returns-clause-is
returns-clause-is c =
    let bytes = c.self.inside.bytes.items in
    let len : length bytes ≡ 8192 = search rules in
    let byte : c.index.result.now ≡ get_or bytes (c.args.id / 8) 0 =
    c.index.ensures ∙ get_or_default_zero bytes c.from.result _ (omega arith) ∙ ap (λ i. get_or bytes i 0) c.from.ensures in
    let fits : nat_lt c.args.id 65536 ≡ true = search rules in
    ap (λ x. nat_eq x 1) (shr_and_one c.index.result.now (c.args.id % 8) ∙ ap (λ x. bit_at x (c.args.id % 8)) byte)
    ∙ sym (ap (λ b. b && has_id_bit bytes c.args.id) fits)
    ∙ sym (contains-ids_in bytes c.args.id)
    ∙ ap (λ s. set.contains s c.args.id) c.self.view_is

pub returns-clause-not_full : goal.returns-clause-not_full
returns-clause-not_full c = λ lacks.
    let len : length c.self.inside.bytes.items ≡ 8192 = search rules in
    let unseen = ap (λ s. set.contains s c.args.id) c.self.view_is ∙ sym (returns-clause-is c) ∙ lacks in
    subst (λ s. set.len s < 65536) c.self.view_is (room_left c.self.inside.bytes.items c.args.id len c.ranges.id.fits unseen)
