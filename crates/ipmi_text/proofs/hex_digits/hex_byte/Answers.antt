use Rattle.std.proofs.Common.{◌∙◌, ℕ, List, Bor, ap, arith, map}
use Rattle.ipmi_text.specs.Hex.{hex_byte}
use Rattle.ipmi_text.proofs.TableLemmas.{text_at}
use Rattle.ipmi_text.proofs.hex_digits.hex_byte.Goals as goal

pub returns : goal.returns
returns c =
    c.text_at.ensures
    ∙ text_at hex_byte _ 256 c.from.result (ap (map (λ (entry : Bor (List ℕ)). entry.now)) c.as_slice.ensures)
    (omega (arith, c.from.ensures, c.ranges.byte))
    ∙ ap hex_byte c.from.ensures
