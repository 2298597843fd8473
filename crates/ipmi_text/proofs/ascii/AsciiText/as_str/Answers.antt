use Rattle.std.proofs.lemmas.Str.{IsUtf8-from_ascii}
use Rattle.ipmi_text.proofs.ascii.AsciiText.as_str.Goals as goal

pub unreachable-requires : goal.unreachable-requires
unreachable-requires g c = c.in-Err.ensures.cases.0 (IsUtf8-from_ascii _ c.args.self.now.ascii)
