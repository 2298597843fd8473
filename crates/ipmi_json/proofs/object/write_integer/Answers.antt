use Rattle.std.proofs.Common.{arith}
use Rattle.json.proofs.Printed.Decimals.{IsNumber-decimal}
use Rattle.ipmi_json.proofs.object.write_integer.Goals as goal

pub number-requires : goal.number-requires
number-requires c = rw c.byte_decimal.ensures (IsNumber-decimal c.args.n (omega (arith, c.if-n-lt256.true)))
