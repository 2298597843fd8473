-- What holds since the read of a record began, and when it ends.
use Rattle.std.specs.Prelude.{◌≡◌, ℕ, ◌+◌, ◌≤◌, IsTrue, IsSome, None, Result, Ok, Err, length}
use Rattle.ipmi_bus.specs.Types.{Absent, Again, CallOutcome, Ended, Found, GaveUp, Over, Refused, Retrieval, Whole}
use Rattle.ipmi_bus.specs.Shelf.{Row, look, largest_len, len_of}
use Rattle.ipmi_bus.specs.Store.{rows_of}
use Rattle.ipmi_bus.specs.Seen.{Seen, StaysHonest}
use Rattle.ipmi_bus.specs.Tries.{WithinTries, GivesUp, IsRefusedWith, NotGivenUpOrRefused}
use Rattle.ipmi_bus.specs.Failures.{HasMet}
use Rattle.ipmi_bus.specs.Retrieval.{HasRead, IsReading, HoldsCurrent, KeepsHeld, CallSays, wanted_len, NamesId, request_len}

-- a retrieval at the start of a record
abbrev pub begun : Retrieval → ℕ → Retrieval
begun r id = record r { id = id; troubles = 0; have = 0 }

-- over a plain controller, a held reservation is current, and the part size and reading ahead are
-- unchanged
pub record IsPlainSince (start now : Retrieval) (seen : Seen) : Type 0 where
  pub holds : HoldsCurrent now seen
  pub part : now.part ≡ start.part
  pub ahead : now.ahead ≡ start.ahead

pub record HonestSince (start now : Retrieval) (s s' : Seen) : Type 0 where
  pub stays : StaysHonest s s'
  pub reading : IsReading now s'
  pub keeps : IsSome start.reservation → s'.troubles ≡ s.troubles → KeepsHeld start now s s'
  pub met : HasMet now.troubles s s'
  pub fresh_troubles : s'.fresh_troubles ≡ s.fresh_troubles + now.troubles
  pub plain : IsTrue s.plain → HoldsCurrent start s → IsPlainSince start now s'
  pub within : s'.stores_added ≡ s.stores_added
      → now.have ≤ len_of (look (rows_of start.shelf s.store) start.id)

-- a whole row of the controller's current store, or none if that store has none
abbrev pub ReadAnswers : Retrieval → Retrieval → Seen → Seen → Result Found Ended → Type 0
ReadAnswers start new s s' (Ok Whole) =
    WithinTries start.tries s s'
    × ((row : Row) × HasRead new s' row × (new.have ≡ length row.bytes))
ReadAnswers start new s s' (Ok Absent) =
    WithinTries start.tries s s' × (look (rows_of start.shelf s'.store) start.id ≡ None)
ReadAnswers start new s s' (Err (GaveUp n)) = GivesUp start.tries s s'
ReadAnswers start new s s' (Err (Refused n code)) = IsRefusedWith start.tries code.0 s s'
ReadAnswers start new s s' _ = ⊥

-- over an honest controller; if a reservation is held and there is no trouble, no new one is
-- requested
pub record ReadIsHonest (start new : Retrieval) (s s' : Seen)
    (result : Result Found Ended) : Type 0 where
  pub stays : StaysHonest s s'
  pub answers : ReadAnswers start new s s' result
  pub keeps : IsSome start.reservation → s'.troubles ≡ s.troubles → KeepsHeld start new s s'
  pub plain : IsTrue s.plain → HoldsCurrent start s
      → IsPlainSince start new s' × NotGivenUpOrRefused result

-- the state after one more call
abbrev pub ReadNext : Retrieval → Retrieval → Seen → Seen → Result CallOutcome Ended → Type 0
ReadNext start new s s' (Ok Again) = HonestSince start new s s'
ReadNext start new s s' (Ok (Over found)) = ReadIsHonest start new s s' (Ok found)
ReadNext start new s s' (Err ended) = ReadIsHonest start new s s' (Err ended)

-- a read that makes one call under the reservation that is held makes its first request
abbrev pub ReadFirstAsks : Retrieval → Seen → Seen → Type 0
ReadFirstAsks start s s' =
    IsSome start.reservation → s'.calls ≡ s.calls + 1 → s'.last_asked ≡ request_len start

-- the last call agrees with how the read ended
abbrev pub ReadSays : Result Found Ended → Seen → Type 0
ReadSays (Ok found) seen = CallSays (Ok (Over found)) seen
ReadSays (Err ended) seen = CallSays (Err ended) seen

-- the state after a read, over any controller
abbrev pub ReadLeaves : ℕ → Retrieval → Result Found Ended → Type 0
ReadLeaves id new (Ok Whole) =
    (5 ≤ new.have) × (new.have ≤ largest_len new.shelf)
    × (new.have ≡ wanted_len new.shelf new.have new.buffer) × IsSome new.reservation
ReadLeaves id new (Ok Absent) = Unit {0}
ReadLeaves id new (Err ended) = NamesId id new.shelf ended
