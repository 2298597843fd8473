use Rattle.std.proofs.Common.{◌≡◌, ap, sym, ◌∙◌, Some, map, option_map}
use Rattle.ipmi_image.specs.Below.{inventory_in}
use Rattle.ipmi_image.specs.Prelude.{StoredInventory, kept_inventory}
use Rattle.ipmi_image.proofs.TableLemmas.{inventory_in_place}
use Rattle.ipmi_image.proofs.StoreLemmas.{inventory_fits}
use Rattle.ipmi_image.proofs.image.Image.inventory.Goals as goal

pub returns-clause-fits : goal.returns-clause-fits
returns-clause-fits c =
    let items = c.self.inside.contents.inventories in
    let found = rw c.from.ensures at c.in_ok-inventory.ensures in
    let is : inventory_in (map kept_inventory items) c.args.id ≡ Some c.as_slice.result.now =
    inventory_in_place items c.args.id ∙ ap (option_map (λ (i : StoredInventory). i.bytes.items)) (sym found) ∙ ap Some (sym c.as_slice.ensures.value) in
    rw is at (inventory_fits (map kept_inventory items) c.args.id c.self.invariant.0.inventories).0
