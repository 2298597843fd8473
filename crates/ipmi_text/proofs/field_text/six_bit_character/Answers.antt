use Rattle.std.proofs.Common.{arith}
use Rattle.ipmi_text.proofs.FieldLemmas.{six_bit_character_is}
use Rattle.ipmi_text.proofs.field_text.six_bit_character.Goals as goal

pub returns-clause-value : goal.returns-clause-value
returns-clause-value c = six_bit_character_is c.args.bytes.now c.args.i _ _ _ (λ k. let byte = c.type_inv.bytes k in omega arith) c.byte_at-low.ensures.value c.byte_at.ensures.value c.byte_at-2.ensures.value
