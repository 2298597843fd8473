use Rattle.std.proofs.Common.{◌≡◌, ap, sym, ◌∙◌, ◌++◌, List, ℕ, get_or}
use Rattle.ipmi_image.specs.Below.{Inventory}
use Rattle.ipmi_image.specs.Prelude.{kept_inventory, StoredInventory, place_of}
use Rattle.ipmi_image.proofs.TableLemmas.{index_set, with_bytes_set}
use Rattle.ipmi_image.proofs.table.Table+StoredInventory.append.Goals as goal

pub invariant_of-self : goal.invariant_of-self
invariant_of-self c =
    index_set (λ (i : StoredInventory). i.id) c.self.inside.items.items _ c.args.place
    (record { id = c.index_mut.result.now.id; bytes = c.extend_from_slice.new.self })
    c.index_mut.result.now c.self.invariant
    (ap (λ (i : StoredInventory). i.id) c.index_mut.ensures.value)

pub invariant_of-self-2 : goal.invariant_of-self-2
invariant_of-self-2 c =
    index_set (λ (i : StoredInventory). i.id) c.self.inside.items.items _ c.args.place
    (record { id = c.index_mut.result.now.id; bytes = c.extend_from_slice.new.self })
    c.index_mut.result.now c.self.invariant
    (ap (λ (i : StoredInventory). i.id) c.index_mut.ensures.value)

pub returns : goal.returns
returns c = λ id at.
    let old = c.index_mut.result.now in
    let item : StoredInventory = record { id = old.id; bytes = c.extend_from_slice.new.self } in
    let items = c.self.inside.items.items in
    let is : kept_inventory item ≡ record { id = (get_or items c.args.place old).id; bytes = (get_or items c.args.place old).bytes.items ++ c.args.bytes.now } =
    ap (λ (l : List ℕ). let i : Inventory = record { id = old.id; bytes = l } in i) c.in_ok-extend_from_slice.ensures.items
    ∙ ap (λ (s : StoredInventory). let i : Inventory = record { id = s.id; bytes = s.bytes.items ++ c.args.bytes.now } in i) c.index_mut.ensures.value in
    rw (sym c.self.view_is) (sym (with_bytes_set items id c.args.place c.args.bytes.now item old (ap (place_of (λ (i : StoredInventory). i.id) id) c.self.view_is ∙ at) is))
