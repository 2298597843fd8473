-- Logs to which records are appended, and the steps of a cursor meanwhile.
use Rattle.std.specs.Prelude.{◌≢◌, take, ◌≡◌, List, [], ◌∷◌, Option, Result, Ok, Err, length, ◌⊎◌}
use Rattle.ipmi_bus.specs.Types.{End, Ended, GaveUp, Place, Refused, Shelf}
use Rattle.ipmi_bus.specs.Shelf.{Row}
use Rattle.ipmi_bus.specs.Grown.{BeginsWith, Grows, OnlyGrew}
use Rattle.ipmi_bus.specs.Store.{IsStore, Store, rows_of}
use Rattle.ipmi_bus.specs.Walk.{IsWalk, Done, EndsBy}
use Rattle.ipmi_bus.specs.Seen.{Seen, IsHonest}
use Rattle.ipmi_bus.specs.Held.{WasHeld}
use Rattle.ipmi_bus.specs.CursorState.{CursorState}
use Rattle.ipmi_bus.specs.Standing.{StandsAt}
use Rattle.ipmi_bus.specs.Steps.{AreSteps, Stepped, cursor_after, handed_out, seen_after}

-- from the end of each step to the end of the next one, the shelf's walk from the start only grows
abbrev pub GrowsAlong : Shelf → Place → Store → List Stepped → Type 0
GrowsAlong shelf start store [] = Unit {0}
GrowsAlong shelf start store (step ∷ steps) =
    Grows start (rows_of shelf store) (rows_of shelf step.seen.store)
    × GrowsAlong shelf start step.seen.store steps

-- a step returns a record, or there are no more, or it gives up or is refused
abbrev pub FollowsOrStops : Result (Option Row) Ended → Type 0
FollowsOrStops (Ok o) = Unit {0}
FollowsOrStops (Err (GaveUp n)) = Unit {0}
FollowsOrStops (Err (Refused n code)) = Unit {0}
FollowsOrStops _ = ⊥

abbrev pub AllFollowOrStop : List Stepped → Type 0
AllFollowOrStop [] = Unit {0}
AllFollowOrStop (step ∷ steps) = FollowsOrStops step.result × AllFollowOrStop steps

-- a whole walk of the shelf, from the start to an end with Done
pub record IsLog (shelf : Shelf) (start : Place) (store : Store) (walk : List Row) : Type 0 where
  pub walks : IsWalk (rows_of shelf store) start walk
  pub ends : EndsBy (rows_of shelf store) start walk Done

-- The log of a store that the controller held at the first state, at the second or between them. It
-- begins with the records of the log `first`, in order; others may follow.
pub record WasLog (shelf : Shelf) (start : Place) (s s' : Seen) (first log : List Row) : Type 0 where
  pub store : Store
  pub held : WasHeld s s' store
  pub is_store : IsStore store
  pub is_log : IsLog shelf start store log
  pub grown : BeginsWith first log

-- if the walk from the start ended with Done at first, and then only grew: there is a log, held
-- meanwhile, for which `Holds`
abbrev pub OnGrowing : Shelf → Place → Seen → Seen → (List Row → Type 0) → Type 0
OnGrowing shelf start s s' Holds =
    (first : List Row) → IsLog shelf start s.store first → OnlyGrew shelf start s s'
    → (log : List Row) × WasLog shelf start s s' first log × Holds log

-- ---- steps

-- `Holds` for the store at the end of some step
abbrev pub AtSomeEnd : (Store → Type 0) → List Stepped → Type 0
AtSomeEnd Holds [] = ⊥
AtSomeEnd Holds (step ∷ steps) = Holds step.seen.store ⊎ AtSomeEnd Holds steps

-- Before the end, the rows returned so far are the first ones of the walk as it is now. At the end,
-- they are the whole walk as it was at one moment: at first, or at the end of some step. In both
-- cases they have the records of the first walk before any others, and the walk as it is now begins
-- with their records.
pub record FollowsGrowth (start : Place) (first : List Row) (old : CursorState) (store : Store)
    (steps : List Stepped) (new : CursorState) (seen : Seen) (handed : List Row) : Type 0 where
  pub now : List Row
  pub log : IsLog old.shelf start seen.store now
  pub grown : BeginsWith first now
  pub in_order : BeginsWith handed now
  pub before_end : new.place ≢ End → (handed ≡ take (length handed) now)
      × StandsAt (rows_of old.shelf seen.store) start now (length handed) new
  pub at_end : new.place ≡ End → BeginsWith first handed
      × (IsLog old.shelf start store handed
      ⊎ AtSomeEnd (λ store. IsLog old.shelf start store handed) steps)

-- Over an honest controller, if from one step to the next the walk only grows, steps return the rows
-- of that walk from its first one on, in order, each once, without gaps. Those that the walk had at
-- first are all returned before a step says that there are no more. Other requests between the
-- steps, and other changes of the store, don't matter.
abbrev pub StepsFollowGrowth : Type 0
StepsFollowGrowth = (c : CursorState) (s : Seen) (steps : List Stepped) (start : Place)
    (walk : List Row) → IsHonest s → IsLog c.shelf start s.store walk
    → StandsAt (rows_of c.shelf s.store) start walk 0 c → AreSteps c s steps
    → GrowsAlong c.shelf start s.store steps
    → FollowsGrowth start walk c s.store steps (cursor_after c steps) (seen_after s steps)
    (handed_out steps)
    × AllFollowOrStop steps

-- the same, if the walk only grew in all stores that the controller held meanwhile
abbrev pub StepsFollowLog : Type 0
StepsFollowLog = (c : CursorState) (s : Seen) (steps : List Stepped) (start : Place)
    (walk : List Row) → IsHonest s → IsLog c.shelf start s.store walk
    → StandsAt (rows_of c.shelf s.store) start walk 0 c → AreSteps c s steps
    → OnlyGrew c.shelf start s (seen_after s steps)
    → FollowsGrowth start walk c s.store steps (cursor_after c steps) (seen_after s steps)
    (handed_out steps)
    × AllFollowOrStop steps
