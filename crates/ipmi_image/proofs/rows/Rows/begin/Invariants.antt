use Rattle.std.proofs.Common.{◌≡◌, ◌-◌, ◌≤◌, length, drop}
use Rattle.ipmi_image.specs.Prelude.{begins_saved}
use Rattle.ipmi_image.proofs.rows.Rows.begin.Given as goal

-- the rest decides
abbrev pub invariant-rows : goal.invariant-rows
invariant-rows l =
    (l.place ≤ length l.self) × (begins_saved (drop l.place l.self) (drop l.place l.later) ≡ begins_saved l.self l.later)

abbrev pub decreases-rows : goal.decreases-rows
decreases-rows l = length l.self - l.place
