use Rattle.ipmi_image.specs.Prelude.{image_text_of, store_of}
use Rattle.ipmi_image.proofs.AgainLemmas.{store_of_image_image_text_of}
use Rattle.ipmi_image.proofs.image.Image.of.Goals as goal

pub invariant_of-result : goal.invariant_of-result
invariant_of-result c = (
  c.requires.store,
  (image_text_of (store_of c.args.contents), store_of_image_image_text_of (store_of c.args.contents) c.requires.store c.requires.saved),
)
