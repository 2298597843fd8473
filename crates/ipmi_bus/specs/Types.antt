-- Re-exports the types that the code declares. Declares nothing.
pub use Rattle.ipmi_bus.specs.declared.calls.Failure.{Failure}
pub use Rattle.ipmi_bus.specs.declared.code.Code.{Code}
pub use Rattle.ipmi_bus.specs.declared.code.CodeClass.{CodeClass}
pub use Rattle.ipmi_bus.specs.declared.code.CodeClass.TheVariants.{Busy, Cancelled, NotPresent, Refusal, SmallerPart}
pub use Rattle.ipmi_bus.specs.declared.controller.FruSize.{FruSize}
pub use Rattle.ipmi_bus.specs.declared.controller.Part.{Part}
pub use Rattle.ipmi_bus.specs.declared.controller.Shelf.{Shelf}
pub use Rattle.ipmi_bus.specs.declared.controller.Shelf.TheVariants.{Sdr, Sel}
pub use Rattle.ipmi_bus.specs.declared.cursor.Handed.{Handed}
pub use Rattle.ipmi_bus.specs.declared.cursor.Next.{Next}
pub use Rattle.ipmi_bus.specs.declared.cursor.Progress.{Progress}
pub use Rattle.ipmi_bus.specs.declared.inventory_reader.FruEnded.{FruEnded}
pub use Rattle.ipmi_bus.specs.declared.inventory_reader.FruRetrieval.{FruRetrieval}
pub use Rattle.ipmi_bus.specs.declared.inventory_reader.Size.{Size}
pub use Rattle.ipmi_bus.specs.declared.inventory_reader.TriesFor.{TriesFor}
pub use Rattle.ipmi_bus.specs.declared.readers.ValueFailure.{ValueFailure}
pub use Rattle.ipmi_bus.specs.declared.retrieval.CallOutcome.{CallOutcome}
pub use Rattle.ipmi_bus.specs.declared.retrieval.CallOutcome.TheVariants.{Again, Over}
pub use Rattle.ipmi_bus.specs.declared.retrieval.Found.{Found}
pub use Rattle.ipmi_bus.specs.declared.retrieval.Found.TheVariants.{Absent, Whole}
pub use Rattle.ipmi_bus.specs.declared.retrieval.Retrieval.{Retrieval}
pub use Rattle.ipmi_bus.specs.declared.step.Ended.{Ended}
pub use Rattle.ipmi_bus.specs.declared.step.Ended.TheVariants.{Cycle, GaveUp, Malformed, Missing, Refused, Stalled}
pub use Rattle.ipmi_bus.specs.declared.step.Place.{Place}
pub use Rattle.ipmi_bus.specs.declared.step.Place.TheVariants.{End, First, Id}
pub use Rattle.ipmi_bus.specs.declared.step.Record.{Record}
pub use Rattle.ipmi_bus.specs.declared.tally.Event.{Event}
