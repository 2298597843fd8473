use Rattle.std.proofs.Common.{string_bytes}
use Rattle.ipmi_records.proofs.TextLemmas.{info_made}
use Rattle.ipmi_records.proofs.info.info_block.Goals as goal

pub returns : goal.returns
returns c = info_made c.number_at-records.result c.number_at-free.result c.args.bytes.now _ _
    c.overflow_text-overflow.result.now (string_bytes c.write.new.self)
    c.number_at-records.ensures c.number_at-free.ensures c.time_at-addition.ensures
    c.time_at-erase.ensures c.overflow_text-overflow.ensures
    (rw c.in_ok-text.ensures.bytes at c.in_ok-write.ensures.bytes)
