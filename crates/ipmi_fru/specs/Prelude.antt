-- Re-exports the definitions of this crate that its code and proofs use. Declares nothing.
pub use Rattle.ipmi_fru.specs.Area.{Area, area_at, area_fault, area_fault_name, area_in, asset_tag_index, field_at, field_bytes, fru_file_id_index, head_len, IsArea, IsAreaFault, IsFound, manufacturer_index, part_number_index, place_of, product_name_index, serial_number_index, version_index}
pub use Rattle.ipmi_fru.specs.Fault.{has_area_fault, has_fault, has_record_fault, has_record_fault_at, is_fault_found}
pub use Rattle.ipmi_fru.specs.Field.{AreaField, field_of, fields_from, fields_in, Spells}
pub use Rattle.ipmi_fru.specs.Header.{fru_fault_name, header_fault, is_zero_sum, offset_of}
pub use Rattle.ipmi_fru.specs.Line.{bare_line, elsewhere_line, identity_in, IdentityTexts, is_blank, IsFruLine, IsLineByFault, IsPresentLine, or_dash, present_line, product_or_board, text_of, texts_of}
pub use Rattle.ipmi_fru.specs.Multirecord.{after_record, AreRecordsAt, ContinuesBy, HasItems, IsRecordList, item_of, items_after, items_by, items_from, items_in, items_left, items_of, multi_fault_name, MultiRecord, record_fault, record_in, record_of}
pub use Rattle.ipmi_fru.specs.Print.{access_line, access_text, area_name, AreItemTexts, before_high, before_low, current_text, dc_fields, dc_start, field_line, field_lines, form_of, IsAreaText, IsDcText, IsFruText, IsItemText, IsLead, IsTextByFault, IsTextFound, IsTextInForm, IsTextOfArea, IsTextOfAreas, IsTextOfRecords, IsVoltsAt, labels_of, language_of, other_line, standby_text, volts_at}
pub use Rattle.ipmi_fru.specs.declared.area.AreaFault.{AreaFault}
pub use Rattle.ipmi_fru.specs.declared.area.AreaKind.{AreaKind}
pub use Rattle.ipmi_fru.specs.declared.area.AreaKind.TheVariants.{Board, Chassis, Product}
pub use Rattle.ipmi_fru.specs.declared.header.FruFault.{FruFault}
pub use Rattle.ipmi_fru.specs.declared.multirecord.MultiFault.{MultiFault}
pub use Rattle.ipmi_fru.specs.declared.record_text.DcKind.{DcKind}
pub use Rattle.ipmi_fru.specs.declared.record_text.RecordForm.{RecordForm}
pub use Rattle.ipmi_fru.specs.declared.record_text.RecordForm.TheVariants.{Access, Dc, Other}
