use Rattle.std.proofs.Common.{refl}
use Rattle.ipmi_metrics.proofs.LawLemmas.{distinct_from_test}
use Rattle.ipmi_metrics.specs.Laws.{all_names}
use Rattle.ipmi_metrics.proofs.laws.names_are_distinct.Goals as goal

pub returns : goal.returns
returns c = distinct_from_test all_names refl
