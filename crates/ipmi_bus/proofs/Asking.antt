-- The state while the same call for a value is repeated.
use Rattle.std.proofs.Common.{◌≡◌, ℕ, ◌+◌, ◌≤◌, IsTrue}
use Rattle.ipmi_bus.specs.Prelude.{Seen, AsksAtMost, IsHonest, StaysHonest, HasMet, KeepsReservations}

-- since the first call there were this many troubles, and nothing else
pub record HasAsked (troubles : ℕ) (s s' : Seen) : Type 0 where
  pub stays : StaysHonest s s'
  pub met : HasMet troubles s s'
  pub fresh_troubles : s'.fresh_troubles ≡ s.fresh_troubles + troubles
  pub plain : IsTrue s.plain → (troubles ≡ 0) × KeepsReservations s s'

-- the same call was made this many times, each time with a trouble
abbrev pub IsAsking : ℕ → ℕ → Seen → Seen → Type 0
IsAsking troubles tries s s' =
    (troubles ≤ tries) × (s'.calls ≡ s.calls + troubles) × AsksAtMost 0 s s'
    × (IsHonest s → HasAsked troubles s s')
