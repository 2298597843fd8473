-- Re-exports the definitions of lower crates that this crate uses. Declares nothing.
pub use Rattle.ipmi_text.specs.declared.reading.Reading.{Reading}
pub use Rattle.ipmi_text.specs.Hex.{byte_h, hex_byte}
pub use Rattle.ipmi_records.specs.declared.sdr.SdrFault.{SdrFault}
pub use Rattle.ipmi_records.specs.declared.sdr.SdrView.{SdrView}
pub use Rattle.ipmi_records.specs.Sdr.{sdr_view_of}
pub use Rattle.ipmi_bus.specs.Answers.{not_present}
pub use Rattle.ipmi_bus.specs.Bounds.{digits, retrying_call_bound, step_call_bound}
pub use Rattle.ipmi_bus.specs.CursorState.{CursorState, start_of}
pub use Rattle.ipmi_bus.specs.Grown.{OnlyGrew}
pub use Rattle.ipmi_bus.specs.Growth.{AllFollowOrStop, FollowsOrStops, IsLog, OnGrowing, WasLog}
pub use Rattle.ipmi_bus.specs.Held.{AllGive, Keeps, WasHeld}
pub use Rattle.ipmi_bus.specs.Readers.{as_inventory, InventoryCounts, InventoryIs, IsLastPart, PartsCame, PlainMayAnswer, ReadsRetryingParts, ReadsValue, ValueIs}
pub use Rattle.ipmi_bus.specs.Code.{class_of}
pub use Rattle.ipmi_bus.specs.FruRetrieval.{SizeFails}
pub use Rattle.ipmi_bus.specs.Seen.{AsksAtMost, IsHonest, IsPlain, IsRefused, IsStateOf, Seen, stays_refl, stays_trans, StaysHonest}
pub use Rattle.ipmi_bus.specs.Shelf.{DistinctIds, first_row, FoundIsRow, id_in, IsShelf, largest_len, LacksId, look, Row, row_with_id, whole_len}
pub use Rattle.ipmi_bus.specs.Standing.{StandsAt, WalkStep}
pub use Rattle.ipmi_bus.specs.Step.{asked_at, CursorHoldsCurrent, cycle_at, handed_id, HandsOut, IsStep, StepAnswers, StepIsHonest, StepIsPlain, StepLeaves}
pub use Rattle.ipmi_bus.specs.Steps.{AreSteps, cursor_after, handed_out, seen_after, Stepped, with_handed}
pub use Rattle.ipmi_bus.specs.Store.{info_of, Inventory, inventory_in, inventory_of, IsInventory, IsStore, reading_in, reading_of, rows_of, SensorReading, Store, store_shelf}
pub use Rattle.ipmi_bus.specs.Tries.{IsRefusedWith, LastCallSays, LastFailed, LastFruCallSays, NotGivenUpOrRefused, RefusesRecord, WithinTries}
pub use Rattle.ipmi_bus.specs.Walk.{AllOf, CycleAt, Done, EndsAfter, EndsBy, EndsEmpty, has_id, IsWalk, last_next, Links, MissingAt, place_after, place_after_rows, row_at, WalkEnd, WalkExists, WalkIsUnique}
pub use Rattle.ipmi_bus.specs.declared.code.Code.{Code}
pub use Rattle.ipmi_bus.specs.declared.code.CodeClass.TheVariants.{NotPresent}
pub use Rattle.ipmi_bus.specs.declared.controller.Shelf.{Shelf}
pub use Rattle.ipmi_bus.specs.declared.controller.Shelf.TheVariants.{Sdr, Sel}
pub use Rattle.ipmi_bus.specs.declared.inventory_reader.FruEnded.{FruEnded}
pub use Rattle.ipmi_bus.specs.declared.step.Ended.{Ended}
pub use Rattle.ipmi_bus.specs.declared.step.Ended.TheVariants.{Cycle, GaveUp, Malformed, Missing, Refused, Stalled}
pub use Rattle.ipmi_bus.specs.declared.step.Place.TheVariants.{End, First, Id}
pub use Rattle.ipmi_bus.specs.declared.step.Place.{Place}
pub use Rattle.ipmi_image.specs.Built.{empty_store, may_follow, with_info, with_inventory, with_reading, with_rows}
pub use Rattle.ipmi_output.specs.Failure.{ended_text}
