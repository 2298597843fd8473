use Rattle.std.proofs.Common.{◌≡◌, ◌++◌, ◌∷◌, [], arith, string_bytes}
use Rattle.std.proofs.lemmas.Grind.{common_steps}
use Rattle.std.proofs.lemmas.List.FromFn.{map-range_with_len_more}
use Rattle.ipmi_text.specs.FieldText.{six_bit_character, six_bit_text}
use Rattle.ipmi_text.proofs.FieldLemmas.{six_bit_count}
use Rattle.ipmi_text.proofs.field_text.six_bit_text.Goals as goal

pub loop-i-preserved : goal.loop-i-preserved
loop-i-preserved c =
    let pushed : string_bytes c.push.new.self ≡ string_bytes c.loop-i.text ++ c.six_bit_character.result ∷ []
    = grind (arith, common_steps, c.in_ok-push.ensures.bytes, c.six_bit_character.ensures.ascii) in
    let more = map-range_with_len_more (six_bit_character c.args.bytes.now) 0 c.loop-i.i c.loop-i.i (omega arith) in
    cc

pub returns : goal.returns
unfolding six_bit_text
returns c = grind (arith, six_bit_count)
