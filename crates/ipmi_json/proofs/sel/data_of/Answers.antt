use Rattle.std.proofs.Common.{◌≡◌, ◌∙◌, ◌*◌, ◌-◌, ap, arith, length, sym}
use Rattle.std.proofs.lemmas.Str.{IsCharBoundary-from_ascii}
use Rattle.hex.specs.Hex.{lower_digits}
use Rattle.hex.proofs.HexLemmas.{length-encode_with}
use Rattle.ipmi_json.proofs.DigitLemmas.{digits_ascii}
use Rattle.ipmi_json.proofs.SelLemmas.{data_text}
use Rattle.ipmi_json.proofs.sel.data_of.Goals as goal

pub range_from-requires : goal.range_from-requires
range_from-requires c =
    let event = c.args.event.now in
    let size = ap length c.requires ∙ length-encode_with lower_digits event in
    let same = ap length c.bytes.ensures.value in
    let place : 2 * (length c.bytes.result.now - length c.data_bytes.result.now) ≡ 26 = omega (arith, c.bytes.ensures.len, c.data_bytes.ensures.len) in
    rw place (λ _. rw c.requires (IsCharBoundary-from_ascii _ 26 (digits_ascii event) (omega (arith, size, same, c.bytes.ensures.len, ap length c.requires))))

pub returns : goal.returns
returns c =
    let long = sym (ap length c.bytes.ensures.value) ∙ c.bytes.ensures.len in
    let place : 2 * (length c.bytes.result.now - length c.data_bytes.result.now) ≡ 26 = omega (arith, c.bytes.ensures.len, c.data_bytes.ensures.len) in
    c.range_from.ensures.value ∙ rw (place, c.requires) (sym (data_text c.args.event.now long))
