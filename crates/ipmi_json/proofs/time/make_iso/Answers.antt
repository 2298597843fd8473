use Rattle.std.proofs.Common.{arith, string_bytes}
use Rattle.std.proofs.lemmas.Str.{IsUtf8-string_bytes, lead_after_ascii}
use Rattle.ipmi_json.proofs.time.make_iso.Goals as goal

pub replace_range-requires-clause-end_boundary : goal.replace_range-requires-clause-end_boundary
replace_range-requires-clause-end_boundary c = (
  omega (arith, c.requires.room),
  λ _ within high. lead_after_ascii (string_bytes c.args.text.now) c.args.space (IsUtf8-string_bytes c.args.text.now) (omega (arith, c.requires.space)) within high,
)
