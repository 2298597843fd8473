use Rattle.std.proofs.Common.{rules}
use Rattle.std.proofs.lemmas.Iterator.{YieldsList-from_slice}
use Rattle.std.proofs.lemmas.Iterator.Search.{find_from_yields_List}
use Rattle.ipmi_command_line.proofs.CommandLemmas.{row_found}
use Rattle.ipmi_command_line.specs.Commands.{begins_with, row_state, texts}
use Rattle.ipmi_command_line.proofs.commands.row_among.Goals as goal

pub returns : goal.returns
returns c = row_found c.find.result (texts c.args.words.now) c.args.table.now
    (find_from_yields_List (λ row. begins_with (texts c.args.words.now) (row_state row).words) _ _ _ c.find.ensures.ran
    (YieldsList-from_slice c.args.table.now cc) (λ x b q k. search rules))
