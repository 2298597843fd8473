-- A sequence of steps of a cursor.
use Rattle.std.specs.Prelude.{◌≡◌, ℕ, Option, Some, Result, Ok, List, [], ◌∷◌, take}
use Rattle.ipmi_bus.specs.Types.{Ended, Place}
use Rattle.ipmi_bus.specs.Shelf.{Row}
use Rattle.ipmi_bus.specs.Store.{rows_of}
use Rattle.ipmi_bus.specs.Walk.{IsWalk, WalkEnd, EndsBy}
use Rattle.ipmi_bus.specs.Seen.{Seen, IsHonest, StaysHonest}
use Rattle.ipmi_bus.specs.CursorState.{CursorState}
use Rattle.ipmi_bus.specs.Standing.{StandsAt}
use Rattle.ipmi_bus.specs.Step.{IsStep}

-- the result of a step, the controller before it, and the cursor and the controller after it
pub record Stepped : Type 0 where
  pub before : Seen
  pub result : Result (Option Row) Ended
  pub cursor : CursorState
  pub seen : Seen

-- each step begins with the cursor as the previous step left it; between steps the controller may
-- get other requests
abbrev pub AreSteps : CursorState → Seen → List Stepped → Type 0
AreSteps c s [] = Unit {0}
AreSteps c s (step ∷ steps) =
    StaysHonest s step.before × IsStep c step.cursor step.before step.seen step.result
    × AreSteps step.cursor step.seen steps

abbrev pub cursor_after : CursorState → List Stepped → CursorState
cursor_after c [] = c
cursor_after c (step ∷ steps) = cursor_after step.cursor steps

abbrev pub seen_after : Seen → List Stepped → Seen
seen_after s [] = s
seen_after s (step ∷ steps) = seen_after step.seen steps

-- these rows, preceded by the row that the result returns
abbrev pub with_handed : Result (Option Row) Ended → List Row → List Row
with_handed (Ok (Some row)) rows = row ∷ rows
with_handed _ rows = rows

abbrev pub handed_out : List Stepped → List Row
handed_out [] = []
handed_out (step ∷ steps) = with_handed step.result (handed_out steps)

-- over an honest controller, if no store is added, steps return the first rows of the walk, without
-- gaps or repetitions, whatever steps gave up or were refused, and whatever other requests the
-- controller got between them
abbrev pub StepsFollowWalk : Type 0
StepsFollowWalk = (c : CursorState) (s : Seen) (steps : List Stepped) (start : Place)
    (walk : List Row) (end : WalkEnd) → IsHonest s → IsWalk (rows_of c.shelf s.store) start walk
    → EndsBy (rows_of c.shelf s.store) start walk end
    → StandsAt (rows_of c.shelf s.store) start walk 0 c → AreSteps c s steps
    → (seen_after s steps).stores_added ≡ s.stores_added
    → (count : ℕ) × (handed_out steps ≡ take count walk)
    × StandsAt (rows_of c.shelf s.store) start walk count (cursor_after c steps)
