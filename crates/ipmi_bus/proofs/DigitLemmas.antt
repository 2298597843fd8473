-- The largest number of binary digits of a part size.
use Rattle.std.proofs.Common.{ℕ, ◌≤◌, Bool, true, false, nat_le, if◌then◌else◌, arith}
use Rattle.ipmi_bus.specs.Bounds.{digits}

reaches_most : (b : Bool) → (if b then 1 else 0) ≤ 1
reaches_most true = omega arith
reaches_most false = omega arith

-- a part size has at most eight binary digits
pub digits_most : (n : ℕ) → digits n ≤ 8
digits_most n = omega (
  arith,
  reaches_most (nat_le 1 n),
  reaches_most (nat_le 2 n),
  reaches_most (nat_le 4 n),
  reaches_most (nat_le 8 n),
  reaches_most (nat_le 16 n),
  reaches_most (nat_le 32 n),
  reaches_most (nat_le 64 n),
  reaches_most (nat_le 128 n),
)
