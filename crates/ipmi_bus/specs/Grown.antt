-- A shelf to which records are appended.
use Rattle.std.specs.Prelude.{List, [], ◌∷◌}
use Rattle.ipmi_bus.specs.Types.{Place, Shelf}
use Rattle.ipmi_bus.specs.Shelf.{Row, SameRecord}
use Rattle.ipmi_bus.specs.Store.{Store, rows_of}
use Rattle.ipmi_bus.specs.Seen.{Seen, held_over}
use Rattle.ipmi_bus.specs.Walk.{IsWalk, Done, EndsBy}

-- the second list begins with the records of the first, in order; next ids may differ
abbrev pub BeginsWith : List Row → List Row → Type 0
BeginsWith [] later = Unit {0}
BeginsWith (row ∷ rows) [] = ⊥
BeginsWith (row ∷ rows) (now ∷ later) = SameRecord row now × BeginsWith rows later

-- if the first rows have a walk that ends with Done: the later ones have one too, which begins with its
-- records
abbrev pub Grows : Place → List Row → List Row → Type 0
Grows start rows later =
    (walk : List Row) → IsWalk rows start walk → EndsBy rows start walk Done
    → (now : List Row) × BeginsWith walk now × IsWalk later start now × EndsBy later start now Done

-- of stores with the latest first: from each to the one that replaced it, the shelf's walk from the
-- start only grew
abbrev pub EachGrew : Shelf → Place → List Store → Type 0
EachGrew shelf start [] = Unit {0}
EachGrew shelf start (store ∷ []) = Unit {0}
EachGrew shelf start (now ∷ (store ∷ stores)) =
    Grows start (rows_of shelf store) (rows_of shelf now) × EachGrew shelf start (store ∷ stores)

-- from the first state to the second, the shelf's walk from the start only grew, whatever else of
-- the store changed
abbrev pub OnlyGrew : Shelf → Place → Seen → Seen → Type 0
OnlyGrew shelf start s s' = EachGrew shelf start (held_over s s')
