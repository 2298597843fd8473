use Rattle.ipmi_capture.proofs.CountLemmas.{is_state}
use Rattle.ipmi_capture.proofs.ReadLemmas.{absent_after, lacks_after}
use Rattle.ipmi_bus.specs.Seen.{stays_trans}
use Rattle.ipmi_capture.proofs.inventories.capture_inventory.Goals as goal

pub returns-clause-lacks : goal.returns-clause-lacks
returns-clause-lacks g c = lacks_after c.read_fru_retrying_parts-read.result _ c.take_inventory.result _ c.args.id c.take_inventory.ensures.left

pub returns-clause-none : goal.returns-clause-none
returns-clause-none g c = absent_after c.read_fru_retrying_parts-read.result _ c.take_inventory.result _ c.args.id c.take_inventory.ensures.left

pub returns-clause-stays : goal.returns-clause-stays
returns-clause-stays g c = λ h. let first = (c.read_fru_retrying_parts-read.ensures.honest h).stays in stays_trans _ _ _ first (c.take_inventory.ensures.stays first.honest)

pub returns-clause-honest : goal.returns-clause-honest
returns-clause-honest g c = λ h.
    c.take_inventory.ensures.honest (g.C.Controller.seen c.args.ctl.now) (is_state g.C.Controller.seen c.args.ctl.now) (c.read_fru_retrying_parts-read.ensures.honest h)

pub returns-clause-meanwhile : goal.returns-clause-meanwhile
returns-clause-meanwhile g c = λ h.
    c.take_inventory.ensures.meanwhile (g.C.Controller.seen c.args.ctl.now) (c.read_fru_retrying_parts-read.ensures.honest h)
