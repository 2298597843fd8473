use Rattle.std.proofs.Common.{◌≡◌, ℕ, suc, ◌-◌, length, map}
use Rattle.ipmi_events.specs.Sensors.{place_in}
use Rattle.ipmi_events.proofs.places.Places.reach.Given as goal

-- The places on the pages are unchanged.
abbrev pub invariant-pages : goal.invariant-pages
invariant-pages l = (row number none : ℕ) → place_in (map (λ page. page.items) l.self-inside.pages.items) row number none ≡ place_in l.fn.self row number none

abbrev pub decreases-pages : goal.decreases-pages
decreases-pages l = suc l.row - length l.self-inside.pages.items
