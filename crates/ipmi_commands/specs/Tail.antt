-- The last entries of the event log on a walk that begins where the log's info suggests, so that the log need not be read from
-- its first entry on.
use Rattle.std.specs.Prelude.{◌≡◌, ◌⊎◌, ℕ, ◌+◌, ◌-◌, ◌==◌, ◌&&◌, Bool, true, false, nat_le, nat_lt, if◌then◌else◌, Option, None, Some, Result, Ok, Err, List, [], ◌∷◌, ◌++◌, length}
use Rattle.ipmi_commands.specs.Below.{Done, Ended, Ending, Failure, First, Id, End, info_in, info_of, OnGrowing, Place, Row, Seen, Sel, StaysHonest, Store, WalkEnd}
use Rattle.ipmi_commands.specs.declared.job.EntryText.{EntryText}
use Rattle.ipmi_commands.specs.declared.limits.Tries.{Tries}
use Rattle.ipmi_commands.specs.declared.job.Form.{Form}
use Rattle.ipmi_commands.specs.Allowed.{cause_of, Change, change}
use Rattle.ipmi_commands.specs.Calls.{walk_call_bound}
use Rattle.ipmi_commands.specs.Plan.{AtRecord, end_points_of_last, kept_plan, next_points, OnWalk, Plan, points_of_walk, ReadPoint, with_first_points}
use Rattle.ipmi_selection.specs.Selection.{chosen}
use Rattle.ipmi_commands.specs.Traced.{IsStopAmong, TracesLast}
use Rattle.ipmi_commands.specs.Format.{Texts}

-- ---- where the walk begins

-- the id of the first of the last n of so many entries, if their ids count them from 1; none if there are no more than n, or
-- if no walk can begin at that id
abbrev pub id_in_run : ℕ → ℕ → Option ℕ
id_in_run n count = if nat_lt n count && nat_lt (count - n + 1) 65535 then Some (count - n + 1) else None

-- that id by the number of entries in the info of the log
abbrev pub tail_from : ℕ → Option (List ℕ) → Option ℕ
tail_from n None = None
tail_from n (Some info) = id_in_run n (info_in info).record_count

-- these entries of a walk have the last n of the log if the walk ends with FFFFh and they are no fewer
abbrev pub has_last : ℕ → List Row → WalkEnd → Bool
has_last n entries Done = nat_le n (length entries)
has_last n entries _ = false

-- ---- plans

-- a plan before whose first item, or before whose end if there are no items, the run may also stop at these points
abbrev pub after_points : List ReadPoint → Plan → Plan
after_points points plan = record {
  items = with_first_points (points ++ next_points plan.items plan.end_points) plan.items;
  end = plan.end;
  end_points = end_points_of_last (points ++ next_points plan.items plan.end_points) plan.items plan.end_points;
}

-- the last n entries of the walk from the first one, after so many calls at these points
abbrev pub OnWhole : List ReadPoint → ℕ → EntryText → ℕ → Tries → Store → (Plan → ℕ → Type 0) → Type 0
OnWhole points calls entries n tries store Holds = OnWalk Sel First store (λ walk end.
    Holds (after_points points (kept_plan entries n First walk end)) (calls + walk_call_bound Form.Skipped store tries walk))

-- the last n entries of this walk from the id, if it has them; otherwise of the walk from the first entry, which follows it
abbrev pub OnTried : Bool → ℕ → List Row → WalkEnd → EntryText → ℕ → Tries → Store → (Plan → ℕ → Type 0) → Type 0
OnTried true id walk end entries n tries store Holds =
    Holds (after_points (AtRecord 0 ∷ []) (kept_plan entries n (Id id) walk end))
    (tries.count + 1 + walk_call_bound Form.Skipped store tries walk)
OnTried false id walk end entries n tries store Holds =
    OnWhole (AtRecord 0 ∷ points_of_walk (Id id) walk end) (tries.count + 1 + walk_call_bound Form.Skipped store tries walk)
    entries n tries store Holds

-- after the info: along the walk from the id that it suggests, or from the first entry if it suggests none
abbrev pub OnTailFrom : Option ℕ → EntryText → ℕ → Tries → Store → (Plan → ℕ → Type 0) → Type 0
OnTailFrom None entries n tries store Holds = OnWhole (AtRecord 0 ∷ []) (tries.count + 1) entries n tries store Holds
OnTailFrom (Some id) entries n tries store Holds = OnWalk Sel (Id id) store (λ walk end.
    OnTried (has_last n (chosen entries.selection walk) end) id walk end entries n tries store Holds)

-- `Holds` for the plan over a store and the largest number of calls
abbrev pub OnTail : EntryText → ℕ → Tries → Store → (Plan → ℕ → Type 0) → Type 0
OnTail entries n tries store Holds = OnTailFrom (tail_from n (info_of Sel store)) entries n tries store Holds

-- ---- while the store changes

-- the walk whose entries are printed may begin at the first entry, and at the id that this store's info suggests
abbrev pub IsTailStart : ℕ → Store → Place → Type 0
IsTailStart n store First = Unit {0}
IsTailStart n store (Id id) = tail_from n (info_of Sel store) ≡ Some id
IsTailStart n store End = ⊥

-- from such a start, if records were only appended since `m`: the last n entries of the log from there as it was meanwhile
abbrev pub OnGrowingTail : EntryText → ℕ → Seen → Seen → (Plan → Type 0) → Type 0
OnGrowingTail entries n s s' Holds = (m : Seen) × (start : Place) × StaysHonest s m × StaysHonest m s'
    × IsTailStart n m.store start × OnGrowing Sel start m s' (λ log. Holds (kept_plan entries n start log Done))

-- the info was not read, and nothing printed; or the last n entries that a walk from such a start returned were printed
abbrev pub TracesTail : Texts → EntryText → ℕ → Change → Ending → Type 0
TracesTail x entries n c ending = (IsStopAmong (AtRecord 0 ∷ []) (cause_of ending) × (c.new ≡ c.old))
    ⊎ ((m : Seen) × (start : Place) × StaysHonest c.seen m × IsTailStart n m.store start
    × TracesLast x entries n start (change m c.seen' c.old c.new) ending)

-- ---- for the contracts of private functions

-- Whether a walk that ended so and left so many of n entries has the last n. A cycle or a missing id shows that it does not;
-- any other failure ends the run.
abbrev pub is_tail : ℕ → ℕ → Ending → Result Bool Failure
is_tail n kept (Ok done) = Ok (kept == n)
is_tail n kept (Err (Failure.Ended (Ended.Cycle id))) = Ok false
is_tail n kept (Err (Failure.Ended (Ended.Missing id))) = Ok false
is_tail n kept (Err failure) = Err failure
