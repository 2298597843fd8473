use Rattle.std.proofs.Common.{◌≡◌, ◌-◌}
use Rattle.std.specs.FinSet as set
use Rattle.ipmi_commands.specs.Below.{AsksAtMost}
use Rattle.ipmi_commands.specs.Prelude.{change, printed}
use Rattle.ipmi_commands.proofs.ListingLemmas.{Listed}
use Rattle.ipmi_commands.proofs.WholeLemmas.{WritesSoFar}
use Rattle.ipmi_commands.proofs.listing.list_records.Given as goal

abbrev pub invariant-records : goal.invariant-records
invariant-records g l =
    (g.O.Sink.faults l.out ≡ g.O.Sink.faults l.fn.out)
    × AsksAtMost l.limits.part (g.C.Controller.seen l.fn.ctl) (g.C.Controller.seen l.ctl)
    × Listed (g.F.Format.texts l.format) l.form l.limits.tries l.most l.count l.wrote l.fn.cursor l.cursor (change (g.C.Controller.seen l.fn.ctl) (g.C.Controller.seen l.ctl) (printed (g.O.Sink.taken l.fn.out) l.fn.summary) (printed (g.O.Sink.taken l.out) l.summary))
    × WritesSoFar l.form l.count (g.O.Sink.taken l.fn.out) (g.O.Sink.taken l.out)

-- The number of ids that the cursor can still return.
abbrev pub decreases-records : goal.decreases-records
decreases-records g l = 65536 - set.len l.cursor.ids
