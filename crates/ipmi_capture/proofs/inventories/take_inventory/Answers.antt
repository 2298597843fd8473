use Rattle.std.proofs.Common.{arith, length, ◌≡◌}
use Rattle.std.proofs.lemmas.Grind.{common_steps}
use Rattle.std.proofs.lemmas.List.{nil_from_length}
use Rattle.ipmi_capture.specs.Left.{IsStateOf}
use Rattle.ipmi_capture.proofs.CountLemmas.{is_state}
use Rattle.ipmi_capture.proofs.ReadLemmas.{came_empty, came_inventory, has_inventory, inventory_while, kept_again, left_after, left_inventory, left_inventory_while}
use Rattle.ipmi_capture.proofs.inventories.take_inventory.Goals as goal

pub returns-in_ok-put_inventory-in-Ok-clause-image : goal.returns-in_ok-put_inventory-in-Ok-clause-image
returns-in_ok-put_inventory-in-Ok-clause-image g c =
    has_inventory c.args.id c.in-Ok.bytes.items c.args.image.now c.put_inventory.new.self c.requires.none c.in_ok-put_inventory-in-Ok.ensures.ok

pub returns-in_ok-put_inventory-in-Ok-clause-left : goal.returns-in_ok-put_inventory-in-Ok-clause-left
returns-in_ok-put_inventory-in-Ok-clause-left g c =
    rw c.in-Ok.is (kept_again c.args.id c.in-Ok.bytes.items c.args.image.now c.put_inventory.new.self c.requires.none c.in_ok-put_inventory-in-Ok.ensures.ok)

pub returns-in_ok-put_inventory-in-Ok-clause-honest : goal.returns-in_ok-put_inventory-in-Ok-clause-honest
returns-in_ok-put_inventory-in-Ok-clause-honest g c = λ s from reads.
    came_inventory c.args.id c.in-Ok.bytes.items c.args.image.now c.put_inventory.new.self c.requires.none c.in_ok-put_inventory-in-Ok.ensures.ok (rw c.in-Ok.is at reads)

pub returns-in_ok-put_inventory-in-Ok-clause-meanwhile : goal.returns-in_ok-put_inventory-in-Ok-clause-meanwhile
returns-in_ok-put_inventory-in-Ok-clause-meanwhile g c = λ s reads.
    inventory_while c.args.id c.in-Ok.bytes.items c.args.image.now c.put_inventory.new.self c.requires.none c.in_ok-put_inventory-in-Ok.ensures.ok (rw c.in-Ok.is at reads)

pub returns-in-Err-clause-left : goal.returns-in-Err-clause-left
returns-in-Err-clause-left g c =
    rw c.in-Err.is (left_after c.args.id c.in-Err.ended _ c.left_by.result c.args.image.now c.requires.none c.left_by.ensures.left)

pub returns-in-Err-clause-honest : goal.returns-in-Err-clause-honest
returns-in-Err-clause-honest g c = λ s from given.
    let reads = rw c.in-Err.is at given in
    left_inventory (IsStateOf g.C.Controller.seen) c.args.id c.in-Err.ended c.left_by.result c.args.image.now from
    (is_state g.C.Controller.seen c.args.ctl.now) (is_state g.C.Controller.seen c.left_by.new.ctl) c.requires.none reads (c.left_by.ensures.stays reads.stays.honest) (c.left_by.ensures.counts reads.stays.honest) c.left_by.ensures.left
    (c.left_by.ensures.again reads.stays.honest) c.left_by.ensures.plain

pub returns-in-Err-clause-meanwhile : goal.returns-in-Err-clause-meanwhile
returns-in-Err-clause-meanwhile g c = λ s given.
    let reads = rw c.in-Err.is at given in
    left_inventory_while c.args.id c.in-Err.ended c.left_by.result c.args.image.now c.requires.none reads (c.left_by.ensures.stays reads.stays.honest) c.left_by.ensures.left

pub returns-then-is_empty-clause-honest : goal.returns-then-is_empty-clause-honest
returns-then-is_empty-clause-honest g c = λ s from reads.
    let none : length c.in-Ok.bytes.items ≡ 0 = grind (arith, common_steps) in
    came_empty c.args.id c.in-Ok.bytes.items c.args.image.now c.requires.none (nil_from_length _ none) (rw c.in-Ok.is at reads)
