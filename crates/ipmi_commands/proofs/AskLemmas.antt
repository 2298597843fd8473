-- The state after a request for a reading, an info or an inventory.
use Rattle.std.proofs.Common.{◌≡◌, ◌⊎◌, inl, inr, ℕ, Bool, false, Option, Some, Result, Err, List, refl, arith, IsErrAnd}
use Rattle.ipmi_commands.specs.Below.{CodeClass, CursorState, End, Failure, RefusesRecord, RefusesValue, IsStep, StepLeaves, Ended, Seen, IsHonest}
use Rattle.ipmi_commands.specs.Run.{MayEndOn}
use Rattle.ipmi_commands.specs.Prelude.{end_of, ending_of, EndsListing, failure_of, Form, PieceErrorIsTrue, ReachesEnd, shelf_of, ReadError, AtEnd, Cause, CountsSo, FindsNone, IsFine, AsksAt, NoMemory, ReadPoint}
use Rattle.ipmi_commands.specs.declared.limits.Tries.{Tries}
use Rattle.ipmi_commands.proofs.CountLemmas.{ends_as, ends_here}

-- the reason for the failure is returned unchanged
pub passed : {T E : Type 0} (result : Result T E) (error : E) → IsErrAnd result (λ e. e ≡ error)
    → result ≡ Err error
passed result error is = grind arith

-- nothing was requested
pub asks_nothing : (points : List ReadPoint) (tries : Tries) (s : Seen) → IsHonest s
    → AsksAt points tries s s AtEnd
asks_nothing points tries s honest = record { ends = ends_here honest refl tt; calls = λ same. omega arith; keeps = λ p. record { sdr = refl; sel = refl } }

-- after an item was found, the run may still end for this cause
pub asks_as : {points : List ReadPoint} {tries : Tries} {s s' : Seen} {cause : Cause}
    → AsksAt points tries s s' AtEnd
    → CountsSo tries s s' cause → IsFine cause → AsksAt points tries s s' cause
asks_as asks counts fine = record { ends = ends_as asks.ends counts fine; calls = asks.calls; keeps = asks.keeps }

-- memory ran out before anything was requested, or after
pub no_memory : {points : List ReadPoint} {tries : Tries} {s : Seen} → IsHonest s → FindsNone points tries s s NoMemory
no_memory {points} {tries} {s} honest = record { asks = asks_as (asks_nothing points tries s honest) refl tt; there = tt }

pub then_no_memory : {points : List ReadPoint} {tries : Tries} {s s' : Seen} → AsksAt points tries s s' AtEnd
    → FindsNone points tries s s' NoMemory
then_no_memory asks = record { asks = asks_as asks asks.ends.counts tt; there = tt }

-- ---- over any controller

pub refuses_record : (asked : ℕ) (class : CodeClass) → RefusesValue asked class
    → RefusesRecord asked class
refuses_record asked class refuses = grind arith

-- an item that was not found is a possible end of a listing
pub unread_ends : (form : Form) (unread : ReadError) (seen : Seen) → PieceErrorIsTrue form unread seen
    → EndsListing form seen (Err (failure_of unread))
unread_ends Form.Device (ReadError.Inventory id ended) seen lacks = (refl, lacks)
unread_ends form unread seen lacks = grind (arith, refuses_record)

-- and so is the end after the last record
pub end_ends : {T : Type 0} (form : Form) (wrote : Bool) (value : T) (seen : Seen)
    → EndsListing form seen (ending_of (end_of form wrote value))
end_ends (Form.Block name) false value seen = refl
end_ends form wrote value seen = grind arith

-- and so is a record that was not read
pub step_ends_listing : (form : Form) {now next : CursorState} {s s' : Seen} (ended : Ended)
    → now.shelf ≡ shelf_of form → IsStep now next s s' (Err ended)
    → EndsListing form s' (Err (Failure.Ended ended))
step_ends_listing form {now} {next} ended shelf step = (step.says, rw (← shelf) (on now next ended step.leaves))
  where
    on : (now next : CursorState) (ended : Ended) → StepLeaves now next (Err ended)
        → MayEndOn now.shelf ended
    on now next ended leaves = grind arith

-- a listing that reached its limit or the end of the shelf
pub reaches_end : (form : Form) (wrote : Bool) (count : ℕ) (most : Option ℕ) (now : CursorState)
    → (most ≡ Some count) ⊎ (now.place ≡ End) → ReachesEnd most now (end_of form wrote count)
reaches_end (Form.Block name) false count most now (inl limit) = inl (rw limit refl)
reaches_end (Form.Block name) false count most now (inr end) = inr end
reaches_end form wrote count most now at = grind arith

pub unread_reaches : (unread : ReadError) (most : Option ℕ) (now : CursorState) → ReachesEnd most now (Err (failure_of unread))
unread_reaches unread most now = grind arith
