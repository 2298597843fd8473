use Rattle.std.proofs.lemmas.Iterator.Consumers.{YieldsList-from_first, nth_from_yields_List}
use Rattle.ipmi_fru.specs.Prelude.{field_of}
use Rattle.ipmi_fru.proofs.area.AreaView.field.Goals as goal

pub returns-clause-field : goal.returns-clause-field
returns-clause-field c =
    nth_from_yields_List c.nth.result c.nth.new.self c.args.place c.nth.ensures.ran
    (YieldsList-from_first field_of (λ left. left) c.args.self.now.fields c.fields.ensures)
