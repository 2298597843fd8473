-- The stores that a controller held at one state, at a later one and between them.
use Rattle.std.specs.Prelude.{◌≡◌, ◌⊎◌, List, [], ◌∷◌}
use Rattle.ipmi_bus.specs.Store.{Store}
use Rattle.ipmi_bus.specs.Seen.{Seen, held_over}

abbrev pub IsOneOf : List Store → Store → Type 0
IsOneOf [] store = ⊥
IsOneOf (one ∷ stores) store = (store ≡ one) ⊎ IsOneOf stores store

-- the controller held this store, at the first state, at the second or between them
abbrev pub WasHeld : Seen → Seen → Store → Type 0
WasHeld s s' store = IsOneOf (held_over s s') store

-- `of` gives this value for each of the stores
abbrev pub AllGive : {V : Type 0} → (Store → V) → V → List Store → Type 0
AllGive of value [] = Unit {0}
AllGive of value (store ∷ stores) = (of store ≡ value) × AllGive of value stores

-- a part of the store, such as one inventory, did not change from the first state to the second,
-- whatever stores were added
abbrev pub Keeps : {V : Type 0} → (Store → V) → Seen → Seen → Type 0
Keeps of s s' = AllGive of (of s.store) (held_over s s')
