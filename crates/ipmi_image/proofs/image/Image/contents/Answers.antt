use Rattle.std.proofs.Common.{subst}
use Rattle.ipmi_image.specs.Prelude.{store_of, IsSaved}
use Rattle.ipmi_image.proofs.SavedLemmas.{store_given, stored_luns}
use Rattle.ipmi_image.proofs.image.Image.contents.Goals as goal

pub returns-clause-luns : goal.returns-clause-luns
returns-clause-luns c = stored_luns c.self.inside.contents.sensors (store_given c.self.invariant.1.0 (store_of c.self.inside.contents) c.self.invariant.1.1).1.luns

pub returns-clause-saved : goal.returns-clause-saved
returns-clause-saved c = subst IsSaved c.self.view_is (store_given c.self.invariant.1.0 (store_of c.self.inside.contents) c.self.invariant.1.1).1
