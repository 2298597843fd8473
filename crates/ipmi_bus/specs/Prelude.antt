-- Re-exports the definitions of this crate that its code and proofs use. Declares nothing.
pub use Rattle.ipmi_bus.specs.Answers.{BytesAnswers, CountsPiece, CountsRefusal, FailsWith, GivesPiece, PartAnswers, PartFailsWith, reads_ahead, ReserveAnswers, SizeAnswers, ValueAnswers, Asked, part_asked, not_present}
pub use Rattle.ipmi_bus.specs.Bounds.{AreWithin, digits, DigitsAreFew, fru_call_bound, retrying_call_bound, step_call_bound}
pub use Rattle.ipmi_bus.specs.Calls.{FailureIs, smaller_part}
pub use Rattle.ipmi_bus.specs.Code.{class_of}
pub use Rattle.ipmi_bus.specs.CursorState.{CursorState, start_of}
pub use Rattle.ipmi_bus.specs.Events.{counts_after, part_failed, zero_counts}
pub use Rattle.ipmi_bus.specs.Failures.{HasMet, ValueFailureIs}
pub use Rattle.ipmi_bus.specs.FruRetrieval.{CountFrom, FruEnds, FruNext, FruSince, HasSize, read_call_bound, ReadsWithTries, SameInventory, SizeFails, TakesSize}
pub use Rattle.ipmi_bus.specs.Grown.{BeginsWith, EachGrew, Grows, OnlyGrew}
pub use Rattle.ipmi_bus.specs.Growth.{AllFollowOrStop, AtSomeEnd, FollowsGrowth, FollowsOrStops, GrowsAlong, IsLog, OnGrowing, StepsFollowGrowth, StepsFollowLog, WasLog}
pub use Rattle.ipmi_bus.specs.Held.{AllGive, IsOneOf, Keeps, WasHeld}
pub use Rattle.ipmi_bus.specs.Handed.{handed_result, IsAsked, IsCursor, IsNext, state_of}
pub use Rattle.ipmi_bus.specs.IdTable.{has_id_bit}
unfoldable pub use Rattle.ipmi_bus.specs.IdTable.{ids_below, ids_in}
pub use Rattle.ipmi_bus.specs.Readers.{as_inventory, EndsUnder, inventory_len, InventoryCounts, InventoryIs, IsLastPart, KeepsReservations, NoneCame, ReadsInventory, ReadsRetryingParts, ReadsValue, ValueSays}
pub use Rattle.ipmi_bus.specs.Retrieval.{after_part, after_trouble, asked_to, CallLeaves, HoldsCurrent, IsReading, KeepsHeld, ReserveFails, SameRequest, unreserved, wanted_len}
pub use Rattle.ipmi_bus.specs.Seen.{AsksAtMost, current, failing_code, held, held_over, IsCall, IsFinished, IsHonest, IsQuiet, IsRefused, IsStateOf, IsTroubled, KeepsStore, MayLoseReservation, Seen, stays_trans, StaysHonest}
pub use Rattle.ipmi_bus.specs.Shelf.{AllRows, DistinctIds, first_row, FoundIsRow, id_in, IsRow, IsShelf, KeepsRows, LacksId, largest_len, len_of, look, Row, row_with_id, SameRecord, whole_len}
pub use Rattle.ipmi_bus.specs.Since.{begun, HonestSince, IsPlainSince, ReadFirstAsks, ReadIsHonest, ReadNext}
pub use Rattle.ipmi_bus.specs.Standing.{FollowsWalks, MayFail, StandsAt, WalkStep}
pub use Rattle.ipmi_bus.specs.Step.{asked_at, AsksAlong, AsksNothing, cycle_at, first_len, FirstAsks, handed_id, HandsOut, IsStep, KeepsReservation, KeepsSettings, StaysThere, StepAnswers, StepIsHonest, StepLeaves, StepSays}
pub use Rattle.ipmi_bus.specs.Steps.{AreSteps, cursor_after, handed_out, seen_after, Stepped, StepsFollowWalk, with_handed}
pub use Rattle.ipmi_bus.specs.Store.{info_of, inventory_of, reading_of, rows_of, Store, store_shelf}
pub use Rattle.ipmi_bus.specs.Tries.{IsRefusedWith, IsTrouble, LastCallSays, LastFailed, LastFruCallSays, LastGaveNothing, RefusesInventory, RefusesRecord, RefusesValue, WithinTries}
pub use Rattle.ipmi_bus.specs.Types.{Absent, Again, Busy, CallOutcome, Cancelled, Code, CodeClass, Cycle, End, Ended, First, Found, FruEnded, FruRetrieval, GaveUp, Handed, Id, Malformed, Missing, NotPresent, Over, Part, Place, Progress, Refusal, Refused, Retrieval, Shelf, Size, SmallerPart, Stalled, TriesFor, Whole}
pub use Rattle.ipmi_bus.specs.Walk.{AllOf, CycleAt, Done, EndsAfter, EndsBy, EndsEmpty, has_id, IsWalk, last_next, Links, MissingAt, place_after, place_after_rows, RestIsWalk, row_at, TailIsWalk, WalkEnd, WalkExists, WalkIsUnique}
