-- Re-exports the definitions of lower crates that this crate uses. Declares nothing.
pub use Rattle.ipmi_text.specs.Bytes.{AreBytes}
pub use Rattle.ipmi_text.specs.declared.reading.Reading.{Reading}
pub use Rattle.ipmi_records.specs.declared.column.KnownReading.{KnownReading}
pub use Rattle.ipmi_records.specs.Columns.{known}
pub use Rattle.ipmi_records.specs.Info.{info_in}
pub use Rattle.ipmi_records.specs.Sdr.{fru_of, sdr_view_of}
pub use Rattle.ipmi_records.specs.SdrText.{printed_name}
pub use Rattle.ipmi_records.specs.Sel.{entry_bytes, sel_view_of}
pub use Rattle.ipmi_records.specs.declared.sdr.SdrFault.{SdrFault}
pub use Rattle.ipmi_records.specs.declared.sdr.SdrView.{SdrView}
pub use Rattle.ipmi_records.specs.declared.sel.SelView.{SelView}
pub use Rattle.ipmi_records.specs.declared.sel.SelView.TheVariants.{Event, OemPlain, OemTimed, Other}
pub use Rattle.ipmi_events.specs.Sensors.{is_whole_record}
unfoldable pub use Rattle.ipmi_events.specs.Sensors.{records_in}
pub use Rattle.ipmi_events.specs.Name.{device_name}
pub use Rattle.ipmi_bus.specs.Bounds.{digits, DigitsAreFew, fru_call_bound, retrying_call_bound, step_call_bound}
pub use Rattle.ipmi_bus.specs.CursorState.{CursorState, start_of}
pub use Rattle.ipmi_bus.specs.Grown.{BeginsWith, OnlyGrew}
pub use Rattle.ipmi_bus.specs.Growth.{AllFollowOrStop, AtSomeEnd, FollowsGrowth, FollowsOrStops, IsLog, OnGrowing, WasLog}
pub use Rattle.ipmi_bus.specs.Held.{Keeps, WasHeld}
pub use Rattle.ipmi_bus.specs.Lent.{row_of_record}
pub use Rattle.ipmi_bus.specs.Readers.{as_inventory, EndsUnder, inventory_len, InventoryCounts, InventoryIs, IsLastPart, IsRefusedInventory, IsRefusedOverChange, KeepsReservations, NoneCame, PartsCame, PlainMayAnswer, ReadsInventory, ReadsRetryingParts, ReadsValue, ValueIs}
pub use Rattle.ipmi_bus.specs.Seen.{AsksAtMost, current, IsHonest, IsStateOf, Seen, stays_refl, stays_trans, StaysHonest}
pub use Rattle.ipmi_bus.specs.Shelf.{first_row, FoundIsRow, IsRow, IsShelf, largest_len, len_of, look, Row, whole_len}
pub use Rattle.ipmi_bus.specs.Standing.{MayFail, StandsAt, WalkStep}
pub use Rattle.ipmi_bus.specs.Step.{asked_at, AsksNothing, CursorHoldsCurrent, FailsAt, HandsOut, IsStep, StepAnswers, StepIsHonest, StepLeaves}
pub use Rattle.ipmi_bus.specs.Steps.{AreSteps, cursor_after, handed_out, seen_after, Stepped, with_handed}
pub use Rattle.ipmi_bus.specs.Store.{info_of, Inventory, inventory_in, inventory_of, IsInfo, IsStore, reading_of, rows_of, Store, store_shelf}
pub use Rattle.ipmi_bus.specs.Tries.{IsTrouble, LastCallSays, LastFailed, LastFruCallSays, NotGivenUpOrRefused, RefusesRecord, RefusesValue}
pub use Rattle.ipmi_bus.specs.declared.code.CodeClass.{CodeClass}
pub use Rattle.ipmi_bus.specs.declared.code.CodeClass.TheVariants.{NotPresent}
pub use Rattle.ipmi_bus.specs.Walk.{AllOf, CycleAt, Done, EndsAfter, EndsBy, EndsEmpty, has_id, IsWalk, last_next, MissingAt, place_after, place_after_rows, RestIsWalk, row_at, TailIsWalk, WalkEnd, WalkExists, WalkIsUnique}
pub use Rattle.ipmi_bus.specs.declared.controller.Shelf.{Shelf}
pub use Rattle.ipmi_bus.specs.declared.controller.Shelf.TheVariants.{Sdr, Sel}
pub use Rattle.ipmi_bus.specs.declared.inventory_reader.FruEnded.{FruEnded}
pub use Rattle.ipmi_bus.specs.declared.step.Ended.{Ended}
pub use Rattle.ipmi_bus.specs.declared.step.Ended.TheVariants.{Cycle, GaveUp, Malformed, Missing, Refused, Stalled}
pub use Rattle.ipmi_bus.specs.declared.step.Place.{Place}
pub use Rattle.ipmi_bus.specs.declared.step.Place.TheVariants.{End, First, Id}
unfoldable pub use Rattle.ipmi_image.specs.Rewritten.{image_text_of}
pub use Rattle.ipmi_image.specs.declared.image.ImageFault.{ImageFault}
pub use Rattle.ipmi_command_line.specs.Command.{IsCount, IsTask}
pub use Rattle.ipmi_command_line.specs.Task.{is_listing}
pub use Rattle.ipmi_command_line.specs.declared.task.Count.{Count}
pub use Rattle.ipmi_command_line.specs.declared.task.Task.{Task}
pub use Rattle.ipmi_output.specs.Failure.{Ending, said_of, status_of, write_faults}
pub use Rattle.ipmi_output.specs.Received.{Received, ReceivesText}
pub use Rattle.ipmi_output.specs.Sink.{TakesPart}
pub use Rattle.ipmi_output.specs.declared.failure.Failure.{Failure}
