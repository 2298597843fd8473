use Rattle.std.proofs.Common.{◌∷◌, ◌++◌, ◌∙◌, codes}
use Rattle.ipmi_image.proofs.SnapshotLemmas.{store_of_image-second}
use Rattle.ipmi_image.proofs.image.Image.read_lines.Goals as goal

pub invariant_of-result : goal.invariant_of-result
invariant_of-result c =
    let ok = c.in_ok-read_lines.ensures.ok in
    (ok.0, (codes "ipmi-image 2" ++ 10 ∷ c.args.text.now, store_of_image-second c.args.text.now ∙ ok.1))
