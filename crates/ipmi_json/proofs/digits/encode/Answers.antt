use Rattle.std.proofs.Common.{◌∙◌, ◌*◌, arith}
use Rattle.std.proofs.lemmas.Simd.{length-put_chunk}
use Rattle.ipmi_json.proofs.DigitLemmas.{block_stored}
use Rattle.ipmi_json.proofs.digits.encode.Goals as goal

pub lanes-preserved : goal.lanes-preserved
lanes-preserved c =
    let kept = c.lanes.invariant in record {
      written = block_stored c.args.bytes.now c.lanes.digits c.both_digits.result c.lanes.at (omega arith) kept.long c.both_digits.ensures kept.written;
      within = omega arith;
      long = length-put_chunk (2 * c.lanes.at) c.lanes.digits c.both_digits.result ∙ kept.long;
    }
