use Rattle.std.proofs.Common.{◌≡◌, ◌-◌, ◌*◌, ◌≤◌, ◌++◌, drop, length, take}
use Rattle.hex.specs.Hex.{encode_lower}
use Rattle.ipmi_json.proofs.digits.encode.Given as goal

abbrev pub invariant-lanes : goal.invariant-lanes
invariant-lanes l = record {
  written : take (2 * l.at) l.digits ++ encode_lower (drop l.at l.bytes) ≡ encode_lower l.bytes;
  within : l.at ≤ length l.bytes;
  long : length l.digits ≡ 2 * length l.bytes;
}

abbrev pub decreases-lanes : goal.decreases-lanes
decreases-lanes l = length l.bytes - l.at
