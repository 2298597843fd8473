use Rattle.std.proofs.Common.{rules}
use Rattle.ipmi_commands.proofs.AskLemmas.{passed}
use Rattle.ipmi_commands.proofs.DeviceLemmas.{devices_printed, devices_stopped, devices_without_memory}
use Rattle.ipmi_commands.proofs.devices.print_devices.Goals as goal

pub returns-in_err-name-clause-honest : goal.returns-in_err-name-clause-honest
returns-in_err-name-clause-honest g c = λ h.
    rw (passed _ _ c.from_residual.ensures.1) (devices_without_memory (g.F.Format.texts c.args.format.now) c.args.walked c.args.limits.tries _ _ _ h)

pub returns-in_err-print_inventory-clause-honest : goal.returns-in_err-print_inventory-clause-honest
returns-in_err-print_inventory-clause-honest g c = λ h.
    rw (passed _ _ c.from_residual-in_err-print_inventory.ensures.1)
    (devices_stopped (g.F.Format.texts c.args.format.now) c.args.walked c.args.limits.tries _ _ (search rules) _ _ _ _ _ h c.in_err-print_inventory.ensures.runs)

pub returns-clause-honest : goal.returns-clause-honest
returns-clause-honest g c = λ h.
    devices_printed (g.F.Format.texts c.args.format.now) c.args.walked c.args.limits.tries _ _ (search rules) _ _ _ _ _ _ _ h c.in_ok-print_inventory.ensures.runs c.print_located.ensures.honest

pub returns-in_err-print_inventory-clause-parts : goal.returns-in_err-print_inventory-clause-parts
returns-in_err-print_inventory-clause-parts g c = λ h.
    rw (passed _ _ c.from_residual-in_err-print_inventory.ensures.1) (c.in_err-print_inventory.ensures.parts h)

pub returns-clause-parts : goal.returns-clause-parts
returns-clause-parts g c = λ h. c.print_located.ensures.parts (c.in_ok-print_inventory.ensures.runs.why h).stays.honest
