use Rattle.std.proofs.Common.{◌≡◌, ◌++◌, append_assoc, arith, encode_utf8, get_or, string_bytes}
use Rattle.std.proofs.lemmas.Grind.{common_steps}
use Rattle.ipmi_text.specs.FieldText.{latin1_character}
use Rattle.ipmi_text.proofs.FieldLemmas.{latin1_text-drop}
use Rattle.ipmi_text.proofs.field_text.push_latin1_text.Goals as goal

pub loop-byte-preserved : goal.loop-byte-preserved
loop-byte-preserved c =
    let b = get_or c.args.bytes.now c.loop-byte.byte-index 0 in
    let pushed : string_bytes c.push.new.self ≡ string_bytes c.loop-byte.text ++ encode_utf8 (latin1_character b) = grind (arith, common_steps, c.in_ok-push.ensures.bytes, c.latin1_character.ensures) in
    let next = latin1_text-drop c.args.bytes.now c.loop-byte.byte-index c.loop-byte-test.true c.if-byte-eq0.false in
    rw (pushed, append_assoc, ← next) c.loop-byte.invariant
