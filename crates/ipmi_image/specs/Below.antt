-- Re-exports the definitions of lower crates that this crate uses. Declares nothing.
pub use Rattle.ipmi_text.specs.Bytes.{AreBytes}
pub use Rattle.ipmi_text.specs.declared.reading.Reading.{Reading}
pub use Rattle.ipmi_bus.specs.Answers.{Asked, BytesAnswers, CountsPiece, FailsWith, GivesPiece, IsPiece, not_present, other, PartAnswers, PartFailsWith, reads_ahead, ReserveAnswers, SizeAnswers, ValueAnswers, part_asked}
pub use Rattle.ipmi_bus.specs.Code.{class_of}
pub use Rattle.ipmi_bus.specs.Lent.{row_of_record}
pub use Rattle.ipmi_bus.specs.Seen.{current, failing_code, held, IsCall, IsChange, IsFinished, IsHonest, IsPlain, IsQuiet, MayLoseReservation, Seen, stays_refl}
pub use Rattle.ipmi_bus.specs.Shelf.{AllRows, DistinctIds, first_row, id_in, IsRow, IsShelf, KeepsRows, LacksId, largest_len, look, Row, row_with_id, SameRecord, whole_len}
pub use Rattle.ipmi_bus.specs.Store.{info_of, Inventory, inventory_in, inventory_of, IsInfo, IsInventory, IsSensorReading, IsStore, OtherSensor, reading_in, reading_of, rows_of, SensorReading, Store}
pub use Rattle.ipmi_bus.specs.Walk.{has_id}
pub use Rattle.ipmi_bus.specs.declared.code.Code.{Code}
pub use Rattle.ipmi_bus.specs.declared.code.CodeClass.{CodeClass}
pub use Rattle.ipmi_bus.specs.declared.code.CodeClass.TheVariants.{Busy, Cancelled, NotPresent, Refusal, SmallerPart}
pub use Rattle.ipmi_bus.specs.declared.controller.FruSize.{FruSize}
pub use Rattle.ipmi_bus.specs.declared.controller.Part.{Part}
pub use Rattle.ipmi_bus.specs.declared.controller.Shelf.{Shelf}
pub use Rattle.ipmi_bus.specs.declared.controller.Shelf.TheVariants.{Sdr, Sel}
