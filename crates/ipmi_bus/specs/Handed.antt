-- The state of a cursor's fields, and what it returns.
use Rattle.std.specs.Prelude.{◌≡◌, ◌≢◌, ℕ, ◌<◌, ◌⊎◌, Option, None, Some, Result, Ok, Err, take}
use Rattle.std.specs.FinSet as set
use Rattle.ipmi_bus.specs.Types.{End, Ended, First, Handed, Next, Place, Progress}
use Rattle.ipmi_bus.specs.Shelf.{Row}
use Rattle.ipmi_bus.specs.CursorState.{CursorState}
use Rattle.ipmi_bus.specs.Step.{asked_at, cycle_at}
use Rattle.std.specs.Ordering.{nat_cmp}

abbrev pub state_of : Progress → CursorState
state_of p = record {
  shelf = p.retrieval.shelf;
  place = p.place;
  part = p.retrieval.part;
  tries = p.retrieval.tries;
  ahead = p.retrieval.ahead;
  ids = p.ids;
  reservation = p.retrieval.reservation;
}

pub record IsCursor (p : Progress) : Type 0 where
  pub some : 0 < p.retrieval.part
  pub fits : p.retrieval.part < 255
  pub first : p.place ≡ First → p.ids ≡ set.empty

-- the result of a step, with the returned record as a row
abbrev pub handed_result : Progress → Result (Option Handed) Ended → Result (Option Row) Ended
handed_result p (Ok (Some handed)) =
    Ok (Some (record {
      id = handed.id;
      next = handed.next;
      bytes = take handed.len p.retrieval.buffer;
    }))
handed_result p (Ok None) = Ok None
handed_result p (Err ended) = Err ended

-- the id to request: 0000h at the start, later an id not returned yet, so the table is not full
pub record IsAsked (place : Place) (ids : set.FinSet nat_cmp) (asked : ℕ) : Type 0 where
  pub none : cycle_at place ids ≡ None
  pub id : asked ≡ asked_at place
  pub not_at_end : place ≢ End
  pub room : (place ≡ First) ⊎ (set.len ids < 65536)

abbrev pub IsNext : Place → set.FinSet nat_cmp → Next → Type 0
IsNext place ids Next.End = place ≡ End
IsNext place ids (Next.Cycle n) = cycle_at place ids ≡ Some n
IsNext place ids (Next.Asks asked) = IsAsked place ids asked
