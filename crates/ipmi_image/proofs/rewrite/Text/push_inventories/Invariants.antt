use Rattle.std.proofs.Common.{◌≡◌, ◌++◌, drop, map, flat_map}
use Rattle.ipmi_image.specs.Prelude.{kept_inventory, inventory_lines, lines_text}
use Rattle.ipmi_image.proofs.rewrite.Text.push_inventories.Given as goal

-- The text so far, followed by the lines of the remaining inventories, is the whole text.
abbrev pub invariant-inventories : goal.invariant-inventories
invariant-inventories l =
    l.self.bytes.items ++ lines_text
    (flat_map inventory_lines (map kept_inventory (drop l.inventory-index l.inventories)))
    ≡ l.fn.self.bytes.items ++ lines_text
    (flat_map inventory_lines (map kept_inventory l.inventories))
