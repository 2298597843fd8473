use Rattle.std.proofs.Common.{◌≡◌, ◌%◌, take, sum}
use Rattle.ipmi_fru.proofs.header.sum_of.Given as goal

abbrev pub invariant-bytes : goal.invariant-bytes
invariant-bytes l = l.total ≡ sum (take l.byte-index l.bytes) % 256
