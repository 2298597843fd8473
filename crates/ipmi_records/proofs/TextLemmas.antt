-- Blocks consist of the parts that the code writes. `format_args` writes more than twelve parts in two groups.
use Rattle.std.proofs.Common.{◌≡◌, ◌∙◌, ℕ, List, ◌++◌, codes, slice_index, append_assoc, decimal, if◌then◌else◌}
use Rattle.ipmi_records.specs.Below.{binary_text, byte_h, hex_byte, IsUtcTextOf, word_h}
use Rattle.ipmi_records.specs.Prelude.{AreEventLines, IsInfoBlock, byte_at, direction_text, event_data, generator_id, has_bit, is_deasserted, number_at, numbered_sensor, revision, sensor_number, sensor_type, time_stamp, words_of_event}

pub event_lines_made : (stamp maker rev : ℕ)
    (bytes time sensor words direction content text : List ℕ) → stamp ≡ time_stamp bytes
    → IsUtcTextOf stamp time → maker ≡ generator_id bytes
    → rev ≡ revision bytes → sensor ≡ numbered_sensor (sensor_type bytes) (sensor_number bytes) → words ≡ words_of_event bytes
    → direction ≡ direction_text (is_deasserted bytes) → content ≡ binary_text (event_data bytes)
    → text ≡ (codes "Time: "
    ++ (time ++ (codes "\nGenerator: " ++ (word_h maker ++ (codes "\nRevision: " ++ (byte_h rev
    ++ (codes "\nSensor: " ++ (sensor ++ (codes "\nEvent: " ++ (words ++ (codes "\nDirection: " ++ direction)))))))))))
    ++ (codes "\nData: " ++ (content ++ codes "\n")) → AreEventLines bytes text
event_lines_made stamp maker rev bytes time sensor words direction content text stamp_is is_time maker_is rev_is sensor_is words_is direction_is content_is text_is = record {
  time = time;
  is_time = rw stamp_is at is_time;
  text_is = text_is ∙ rw (append_assoc time, append_assoc sensor, append_assoc words, maker_is, rev_is, sensor_is, words_is, direction_is, content_is);
}

pub info_made : (records free : ℕ) (bytes addition erase overflow text : List ℕ)
    → records ≡ number_at 2 2 bytes → free ≡ number_at 4 2 bytes
    → IsUtcTextOf (number_at 6 4 bytes) addition → IsUtcTextOf (number_at 10 4 bytes) erase
    → overflow ≡ (if has_bit 7 (byte_at 14 bytes) then codes "yes" else codes "no")
    → text ≡ (codes "Version: 0x"
    ++ (hex_byte (slice_index bytes 0)
    ++ (codes "\nRecords: " ++ (decimal records ++ (codes "\nFree Space: " ++ (decimal free
    ++ (codes "\nLast Addition: " ++ (addition ++ (codes "\nLast Erase: " ++ (erase ++ (codes "\nOverflow: " ++ overflow)))))))))))
    ++ (codes "\nSupport: 0x" ++ (hex_byte (slice_index bytes 13) ++ codes "\n")) → IsInfoBlock bytes text
info_made records free bytes addition erase overflow text records_is free_is is_addition is_erase overflow_is text_is = record {
  addition = addition;
  erase = erase;
  is_addition = is_addition;
  is_erase = is_erase;
  text_is = text_is ∙ rw (append_assoc (decimal records), append_assoc (decimal free), append_assoc addition, append_assoc erase, records_is, free_is, overflow_is);
}
