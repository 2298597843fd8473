use Rattle.std.proofs.Common.{bytes_eq, rules}
use Rattle.std.proofs.lemmas.Iterator.{YieldsList-from_slice}
use Rattle.std.proofs.lemmas.Iterator.Search.{find_from_yields_List}
use Rattle.ipmi_command_line.proofs.TableLemmas.{kind_found}
use Rattle.ipmi_command_line.specs.Table.{KindRow}
use Rattle.ipmi_command_line.proofs.table.kind_row.Goals as goal

pub returns : goal.returns
returns c = kind_found c.args.word.now c.find.result c.args.table.now
    (find_from_yields_List (λ (row : KindRow). bytes_eq c.args.word.now row.0.now) _ _ _ c.find.ensures.ran
    (YieldsList-from_slice c.args.table.now cc) (λ x b q k. search rules))
