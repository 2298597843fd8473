use Rattle.std.proofs.Common.{◌≡◌, ◌==◌, ◌||◌, false, arith, slice_index_or}
use Rattle.ipmi_capture.proofs.FoundLemmas.{not_kept}
use Rattle.ipmi_capture.specs.Left.{IsStateOf}
use Rattle.ipmi_capture.proofs.CountLemmas.{is_state}
use Rattle.ipmi_capture.proofs.ReadLemmas.{absent_now, inventories_accounted, inventories_while, keeping_begun, keeping_done, keeping_lacks, keeping_read, keeping_skipped}
use Rattle.ipmi_bus.specs.Seen.{stays_trans}
use Rattle.ipmi_capture.proofs.inventories.capture_inventories.Goals as goal

pub devices-init : goal.devices-init
devices-init g c = keeping_begun c.args.asking.part c.args.asking.tries c.args.named.now.devices.items _ c.args.left.now.items c.args.image.now c.requires.none

pub returns-clause-honest : goal.returns-clause-honest
returns-clause-honest g c = keeping_done c.devices.invariant (omega (arith, c.devices-test.false))

pub returns-clause-meanwhile : goal.returns-clause-meanwhile
returns-clause-meanwhile g c = inventories_while c.devices.invariant (omega (arith, c.devices-test.false))

pub devices-preserved-then-not-has_device : goal.devices-preserved-then-not-has_device
devices-preserved-then-not-has_device g c =
    let unmarked : ((c.devices.id == 0) || slice_index_or c.args.named.now.devices.items c.devices.id false) ≡ false = grind (arith, c.has_device.ensures, c.if-not-has_device.true) in
    keeping_skipped c.devices.invariant unmarked

pub capture_inventory-requires-clause-none : goal.capture_inventory-requires-clause-none
capture_inventory-requires-clause-none g c = not_kept c.devices.id c.devices.image.inventories c.devices.invariant.below

pub devices-preserved : goal.devices-preserved
devices-preserved g c =
    rw c.in-Ok-note.ensures (keeping_read c.in-Ok.lacks c.devices.id c.devices.invariant c.in-Ok.ensures.image c.in-Ok.ensures.lacks
    (absent_now (IsStateOf g.C.Controller.seen) _ _ (is_state g.C.Controller.seen c.capture_inventory.new.ctl) c.in-Ok.lacks c.in-Ok.ensures.none)
    c.in-Ok.ensures.calls c.in-Ok.ensures.asked c.in-Ok.ensures.stays c.in-Ok.ensures.honest c.in-Ok.ensures.meanwhile)

pub returns-clause-accounted : goal.returns-clause-accounted
returns-clause-accounted g c = inventories_accounted c.devices.invariant (omega (arith, c.devices-test.false))

pub returns-clause-lacks : goal.returns-clause-lacks
returns-clause-lacks g c = keeping_lacks c.devices.invariant

pub returns-in-Err-clause-stays : goal.returns-in-Err-clause-stays
returns-in-Err-clause-stays g c = λ h. let before = c.devices.invariant.stays h in stays_trans _ _ _ before (c.capture_inventory.ensures.stays before.honest)

pub returns-in-Err-note-clause-stays : goal.returns-in-Err-note-clause-stays
returns-in-Err-note-clause-stays g c = λ h. let before = c.devices.invariant.stays h in stays_trans _ _ _ before (c.capture_inventory.ensures.stays before.honest)
