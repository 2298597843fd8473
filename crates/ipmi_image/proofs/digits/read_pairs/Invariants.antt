use Rattle.std.proofs.Common.{◌≡◌, ◌*◌, take, drop}
use Rattle.hex.specs.Hex.{decode_pairs}
use Rattle.hex.proofs.Pairs.{prepend}
use Rattle.ipmi_image.proofs.digits.read_pairs.Given as goal

-- The bytes so far, followed by those of the remaining digits, are all bytes.
abbrev pub invariant-pairs : goal.invariant-pairs
invariant-pairs l =
    decode_pairs 0 l.digits ≡ prepend (take l.place l.bytes) (decode_pairs (2 * l.place) (drop (2 * l.place) l.digits))
