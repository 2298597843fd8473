-- How an event changes the counts.
use Rattle.std.specs.Prelude.{ℕ, ◌+◌, max, Bool, true, false, None, Some}
use Rattle.ipmi_bus.specs.Code.{class_of}
use Rattle.ipmi_bus.specs.Counts.{Counts}
use Rattle.ipmi_bus.specs.Types.{Busy, Cancelled, Code, CodeClass, Event, NotPresent, Refusal, SmallerPart}

-- the counts after a code of this class
abbrev pub with_failure : CodeClass → ℕ → Counts → Counts
with_failure Cancelled code c =
    record c { troubles = c.troubles + 1; fresh_troubles = c.fresh_troubles + 1 }
with_failure Busy code c =
    record c { troubles = c.troubles + 1; fresh_troubles = c.fresh_troubles + 1 }
with_failure SmallerPart code c = c
with_failure NotPresent code c = record c { fresh_troubles = 0 }
with_failure Refusal code c = record c { refusals = c.refusals + 1; last_code = code }

-- the same after a call that read ahead: a refusal counts nothing
abbrev pub with_failure_ahead : CodeClass → ℕ → Counts → Counts
with_failure_ahead Refusal code c = c
with_failure_ahead class code c = with_failure class code c

-- the counts after an event
abbrev pub counts_after : Counts → Event → Counts
counts_after c (Event.Called asked) = record c {
  calls = c.calls + 1;
  most_asked = max c.most_asked asked;
  last_asked = asked;
  last_failure = None;
}
counts_after c (Event.Failed code) =
    record (with_failure (class_of code.0) code.0 c) { last_failure = Some code.0 }
counts_after c (Event.FailedAhead code) =
    record (with_failure_ahead (class_of code.0) code.0 c) { last_failure = Some code.0 }
counts_after c Event.Finished = record c { fresh_troubles = 0 }
counts_after c Event.Stored = record c { stores_added = c.stores_added + 1 }

-- a call for a part, which read ahead or did not, failed with this code
abbrev pub part_failed : Bool → Code → Event
part_failed true code = Event.FailedAhead code
part_failed false code = Event.Failed code

abbrev pub zero_counts : Counts
zero_counts = record {
  calls = 0;
  most_asked = 0;
  last_asked = 0;
  last_failure = None;
  troubles = 0;
  fresh_troubles = 0;
  refusals = 0;
  last_code = 0;
  stores_added = 0;
}
