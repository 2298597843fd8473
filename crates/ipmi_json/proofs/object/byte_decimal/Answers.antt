use Rattle.std.proofs.Common.{◌∙◌, ℕ, List, Bor, ap, decimal, map}
use Rattle.std.specs.Fmt.{digits}
use Rattle.ipmi_text.proofs.TableLemmas.{text_at}
use Rattle.ipmi_json.proofs.object.byte_decimal.Goals as goal

pub returns : goal.returns
unfolding digits
returns c =
    c.text_at.ensures
    ∙ text_at decimal _ 256 c.args.n (ap (map (λ (entry : Bor (List ℕ)). entry.now)) c.as_slice.ensures) c.requires
