use Rattle.std.proofs.Common.{◌≡◌, ℕ, ◌≤◌, ◌&&◌, nat_le, nat_lt, length, get_or}
use Rattle.ipmi_events.specs.Sensors.{noted}
use Rattle.ipmi_events.proofs.places.note_numbers.Given as goal

abbrev pub invariant-loop-number : goal.invariant-loop-number
invariant-loop-number l = (256 ≤ length l.page.items)
    × ((k : ℕ) → get_or l.page.items k l.none ≡ noted (nat_le l.first k && nat_lt k l.number) l.place l.none (get_or l.fn.page.items k l.none))
