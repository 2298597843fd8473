use Rattle.std.proofs.Common.{subst, sym}
use Rattle.std.specs.Str.{IsUtf8}
use Rattle.std.proofs.lemmas.Str.{IsUtf8-from_ascii}
use Rattle.ipmi_json.proofs.DigitLemmas.{digits_ascii}
use Rattle.ipmi_json.proofs.digits.hex_text.Goals as goal

pub unreachable-requires : goal.unreachable-requires
unreachable-requires c = c.in-Err.ensures (subst IsUtf8 (sym c.encode.ensures) (IsUtf8-from_ascii _ (digits_ascii c.args.bytes.now)))
