use Rattle.ipmi_image.proofs.SavedLemmas.{store_given}
use Rattle.ipmi_image.proofs.laws.images_give_stores.Goals as goal

pub returns : goal.returns
returns c = λ bytes store e. (store_given bytes store e).0
