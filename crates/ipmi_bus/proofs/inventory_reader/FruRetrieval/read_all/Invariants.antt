use Rattle.std.proofs.Common.{◌+◌, ◌≤◌}
use Rattle.ipmi_bus.specs.Prelude.{Seen, AsksAtMost, IsHonest, IsStateOf, StaysHonest, SameInventory, FruSince}
use Rattle.ipmi_bus.specs.FruRetrieval.{calls_left}
use Rattle.ipmi_bus.proofs.inventory_reader.FruRetrieval.read_all.Given as goal

abbrev pub invariant-parts : goal.invariant-parts
invariant-parts g l =
    SameInventory l.fn.self l.self
    × AsksAtMost l.fn.self.part (g.C.Controller.seen l.fn.ctl) (g.C.Controller.seen l.ctl)
    × ((g.C.Controller.seen l.ctl).calls + calls_left l.self ≤ (g.C.Controller.seen l.fn.ctl).calls + calls_left l.fn.self)
    × (IsHonest (g.C.Controller.seen l.fn.ctl) → StaysHonest (g.C.Controller.seen l.fn.ctl) (g.C.Controller.seen l.ctl))
    × ((s : Seen) → FruSince (IsStateOf g.C.Controller.seen) l.fn.self s (g.C.Controller.seen l.fn.ctl) → FruSince (IsStateOf g.C.Controller.seen) l.self s (g.C.Controller.seen l.ctl))

abbrev pub decreases-parts : goal.decreases-parts
decreases-parts g l = calls_left l.self
