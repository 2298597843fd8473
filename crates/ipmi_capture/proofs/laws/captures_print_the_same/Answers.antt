use Rattle.ipmi_capture.proofs.LawLemmas.{print_the_same, print_what_they_have}
use Rattle.ipmi_capture.proofs.laws.captures_print_the_same.Goals as goal

pub returns : goal.returns
returns g c = record {
  all = print_the_same (g.F.Format.texts c.args._format.now) c.one_walk_has_an_end.ensures.exists c.one_walk_has_an_end.ensures.unique c.what_is_found_is_a_row.ensures;
  part = print_what_they_have (g.F.Format.texts c.args._format.now) c.one_walk_has_an_end.ensures.exists c.one_walk_has_an_end.ensures.unique c.what_is_found_is_a_row.ensures;
}
