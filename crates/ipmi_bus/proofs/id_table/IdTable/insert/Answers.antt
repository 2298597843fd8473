use Rattle.std.proofs.Common.{◌≡◌, ◌*◌, ◌/◌, ◌%◌, ◌^◌, get_or, set as put, length, ap, ◌∙◌, rules, arith, bit_or}
use Rattle.std.proofs.lemmas.Grind.{get_or_default_zero}
use Rattle.std.specs.FinSet as set
use Rattle.ipmi_bus.specs.Prelude.{ids_in}
use Rattle.ipmi_bus.proofs.IdTableLemmas.{ids_in-put, len-ids_in}
use Rattle.ipmi_bus.proofs.id_table.IdTable.insert.Goals as goal

pub returns-clause-added : goal.returns-clause-added
returns-clause-added c =
    let bytes = c.self.inside.bytes.items in
    let len : length bytes ≡ 8192 = search rules in
    let byte : c.index_mut.result.now ≡ get_or bytes (c.args.id / 8) 0 =
    c.index_mut.ensures.value ∙ get_or_default_zero bytes c.from.result _ (omega arith) ∙ ap (λ i. get_or bytes i 0) c.from.ensures in
    ap ids_in (ap (λ i. put bytes i (bit_or c.index_mut.result.now (1 * 2 ^ (c.args.id % 8) % 256))) c.from.ensures
    ∙ ap (λ x. put bytes (c.args.id / 8) (bit_or x (1 * 2 ^ (c.args.id % 8) % 256))) byte)
    ∙ ids_in-put bytes c.args.id len c.ranges.id.fits
    ∙ ap (λ s. set.insert s c.args.id) c.self.view_is

pub returns-clause-at_most : goal.returns-clause-at_most
returns-clause-at_most c = len-ids_in _
