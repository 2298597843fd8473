use Rattle.std.proofs.Common.{◌∙◌, ap, string_bytes}
use Rattle.ipmi_records.specs.Below.{binary_text}
use Rattle.ipmi_records.proofs.TextLemmas.{event_lines_made}
use Rattle.ipmi_records.proofs.sel_texts.event_lines.Goals as goal

pub returns : goal.returns
returns c = event_lines_made c.time_stamp.result c.generator_id.result c.revision.result
    c.args.event.now _ _ _ c.direction_text-direction.result.now (string_bytes c.in_ok-bytes.bytes)
    (string_bytes c.write.new.self) c.time_stamp.ensures c.of-time.ensures c.generator_id.ensures
    c.revision.ensures c.sensor_of_event-sensor.ensures c.words_of_event-words.ensures
    c.direction_text-direction.ensures
    (c.in_ok-bytes.ensures ∙ ap binary_text c.data_bytes.ensures.value)
    (rw c.in_ok-text.ensures.bytes at c.in_ok-write.ensures.bytes)
