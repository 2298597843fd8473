use Rattle.std.proofs.Common.{◌<◌, arith, length}
use Rattle.std.proofs.lemmas.Bool.Decides.{nat_tests}
use Rattle.std.proofs.lemmas.Str.{IsCharBoundary-after_ascii}
use Rattle.ipmi_json.proofs.sdr.after_first.Goals as goal

pub range_from-requires : goal.range_from-requires
range_from-requires c =
    let some : 0 < length c.args.text.now = grind (arith, nat_tests, c.is_empty.ensures, c.if-is_empty.false) in
    λ _. IsCharBoundary-after_ascii c.args.text.now 0 c.utf8.text some (c.requires some)
