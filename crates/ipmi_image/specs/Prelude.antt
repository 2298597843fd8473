-- Re-exports the definitions of this crate that its code and proofs use. Declares nothing.
pub use Rattle.ipmi_image.specs.Built.{empty_store, HaveNext, IsBuilt, may_follow, rows_and, saved_row, with_info, with_inventory, with_reading, with_rows}
pub use Rattle.ipmi_image.specs.Cause.{beginning_cause, cause_of, EachFaultHasACause, ending_cause, field_cause, id_cause, is_compressed, is_empty, is_raw_record, is_wide, len_cause, line_at, line_cause, numbered_cause, read_cause, rule_cause, space_cause, third_cause, twice_cause}
pub use Rattle.ipmi_image.specs.Controllers.{after_mood, last_number, mood_turn, moods_left, next_mood, ReservesAfterMood, script_answer, script_last_number, script_seen, seen_after_mood, seen_of, StaysAfterMood, TurnCounts, Turns, OnlyAppendKeepsReservations}
pub use Rattle.ipmi_image.specs.Image.{at_line, begins_with_another, chained, ends_here, fault_in, first_fault, first_id, first_of, ImagesGiveStores, info_fault, info_on, inventory_fault, is_end, is_no_id, is_no_record, line_judged, reading_fault, reading_of_bytes, row_fault, row_on, sensor_on, store_of_image, store_of_lines, store_of_pieces, version_in, with_bytes, with_inventory_line}
unfoldable pub use Rattle.ipmi_image.specs.Image.{store_after}
pub use Rattle.ipmi_image.specs.Line.{a_reading, a_row, an_info, an_inventory, bytes_in, digits_fault, end_line, info_line, inventory_line, is_dash, is_some_text, Line, line_of_fields, next_in, number_in, reading_line, row_cause, row_line, SavedRow, shelf_in, takes_dashes, the_end, with_three, with_two, id_of}
unfoldable pub use Rattle.ipmi_image.specs.Line.{line_of}
pub use Rattle.ipmi_image.specs.Responder.{begins_with, fru_answer, is_stale, IsCopied, number_after, out_of_range, part_answer, place_asked, reservation_if, seen_as, size_answer, with_appended, with_image, with_reservation}
pub use Rattle.ipmi_image.specs.Rewritten.{first_parts, hex_of, info_lines, inventory_lines, IsSaved, line_text, lines_text, next_field, other_lines, part_fields, parts_of, reading_fields, record_line_of, RewritingKeepsStores, row_fields, rows_lines}
unfoldable pub use Rattle.ipmi_image.specs.Rewritten.{image_text_of}
pub use Rattle.ipmi_image.specs.Rows.{begins_saved, is_same_saved, row_in, row_of}
pub use Rattle.ipmi_image.specs.Snapshot.{byte_in, code_for, digit_in, fault_line, has_item, hides, hides_part, hides_record, is_lack_line, is_partial, is_third, item_fields, item_in, KeepsSnapshot, lack_fields, lack_for, lack_of, lack_of_fields, lack_of_one, lack_of_reading, lack_with, later, may_name, may_refuse, reading_in_fields, refusal, refuses, same_shelf, Saved, saved_after, saved_of_image, saved_of_pieces, saved_text_of, saved_with, shelf_word, snapshot_answer, snapshot_lacks, snapshot_last_number, snapshot_seen, with_records, word_in}
unfoldable pub use Rattle.ipmi_image.specs.Snapshot.{lacks_then}
pub use Rattle.ipmi_image.specs.Stored.{AreInventories, AreReadings, HoldsLines, IsRead, Puts, said, sensor_of, store_of}
pub use Rattle.ipmi_image.specs.Table.{HasRoom, kept_inventory, IsIndex, place_in, place_of, sensor_key}
unfoldable pub use Rattle.ipmi_image.specs.Text.{pieces}
pub use Rattle.ipmi_image.specs.WithRecords.{are_current, are_rows, begins_well, counts_with, GivesRecord, InfoTellsRecords, is_row, is_sdr_shelf, IsHandedOn, lacks_id, machine_after, machine_of, record_answer, records_of, same_records, seen_with, with_records_seen}
pub use Rattle.ipmi_image.specs.declared.cause.LineCause.{LineCause}
pub use Rattle.ipmi_image.specs.declared.contents.Contents.{Contents}
pub use Rattle.ipmi_image.specs.declared.image.ImageFault.{ImageFault}
pub use Rattle.ipmi_image.specs.declared.image_line.LineFault.{LineFault}
pub use Rattle.ipmi_image.specs.declared.lack.Item.{Item}
pub use Rattle.ipmi_image.specs.declared.lack.Lack.{Lack}
pub use Rattle.ipmi_image.specs.declared.responder.Responder.{Responder}
pub use Rattle.ipmi_image.specs.declared.rows.RowHead.{RowHead}
pub use Rattle.ipmi_image.specs.declared.scripted.Scripted.{Scripted}
pub use Rattle.ipmi_image.specs.declared.snapshot_controller.SnapshotController.{SnapshotController}
pub use Rattle.ipmi_image.specs.declared.stored.StoredInventory.{StoredInventory}
pub use Rattle.ipmi_image.specs.declared.stored.StoredSensor.{StoredSensor}
pub use Rattle.ipmi_image.specs.declared.version.Version.{Version}
