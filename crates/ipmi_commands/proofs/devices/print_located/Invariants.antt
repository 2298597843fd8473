use Rattle.std.proofs.Common.{◌≡◌, ◌+◌, ◌*◌, ◌≤◌, length}
use Rattle.ipmi_commands.specs.Below.{AsksAtMost, IsHonest, records_in}
use Rattle.ipmi_commands.specs.Prelude.{printed, inventory_call_bound}
use Rattle.ipmi_commands.proofs.DeviceLemmas.{LeadsLocated}
use Rattle.ipmi_commands.proofs.devices.print_located.Given as goal

abbrev pub invariant-records : goal.invariant-records
invariant-records g l =
    (g.O.Sink.faults l.out ≡ g.O.Sink.faults l.fn.out)
    × AsksAtMost l.limits.part (g.C.Controller.seen l.fn.ctl) (g.C.Controller.seen l.ctl)
    × ((g.C.Controller.seen l.ctl).calls + length (records_in l.rest) * inventory_call_bound l.limits.tries 65535
    ≤ (g.C.Controller.seen l.fn.ctl).calls + length (records_in l.fn.records) * inventory_call_bound l.limits.tries 65535)
    × (IsHonest (g.C.Controller.seen l.fn.ctl) → IsHonest (g.C.Controller.seen l.ctl)
    × LeadsLocated (g.F.Format.texts l.format) l.walked l.limits.tries (records_in l.fn.records) (records_in l.rest)
    (g.C.Controller.seen l.fn.ctl) (g.C.Controller.seen l.ctl) (printed (g.O.Sink.taken l.fn.out) l.fn.summary) (printed (g.O.Sink.taken l.out) l.summary))

-- The number of bytes that are left.
abbrev pub decreases-records : goal.decreases-records
decreases-records g l = length l.rest
