use Rattle.std.proofs.Common.{◌≡◌, ℕ, suc, ◌-◌, length, map}
use Rattle.ipmi_image.specs.Prelude.{place_in}
use Rattle.ipmi_image.proofs.places.Places.reach.Given as goal

-- The places in the pages are unchanged.
abbrev pub invariant-pages : goal.invariant-pages
invariant-pages l = (key : ℕ) → place_in (map (λ page. page.items) l.self-inside.pages.items) key ≡ place_in l.fn.self key

abbrev pub decreases-pages : goal.decreases-pages
decreases-pages l = suc l.page - length l.self-inside.pages.items
