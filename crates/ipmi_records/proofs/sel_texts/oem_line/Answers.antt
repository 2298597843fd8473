use Rattle.std.proofs.Common.{◌∙◌, refl}
use Rattle.ipmi_records.proofs.sel_texts.oem_line.Goals as goal

pub returns : goal.returns
returns c = record {
  time = c.of-time.result;
  is_time = rw c.time_stamp.ensures at c.of-time.ensures;
  text_is = (rw c.in_ok-text.ensures.bytes at c.in_ok-write.ensures.bytes) ∙ rw (c.manufacturer_id.ensures, c.in_ok-bytes.ensures, c.data_bytes.ensures, c.bytes.ensures.value) refl;
}
