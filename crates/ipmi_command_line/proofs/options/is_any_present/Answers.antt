use Rattle.std.proofs.Common.{◌∙◌, rules}
use Rattle.std.proofs.lemmas.Iterator.{YieldsList-from_slice}
use Rattle.std.proofs.lemmas.Iterator.Search.{any_from_yields_List}
use Rattle.clap.proofs.WalkLemmas.{list_any-map}
use Rattle.clap.specs.Words.{found_of, rows_of}
use Rattle.ipmi_command_line.specs.Options.{is_present, option_state}
use Rattle.ipmi_command_line.proofs.options.is_any_present.Goals as goal

pub returns : goal.returns
returns c =
    any_from_yields_List (λ row. is_present (rows_of (found_of c.args.matches.now)) (option_state row)) _ _ c.any.result c.any.ensures.ran (YieldsList-from_slice c.args.table.now cc)
    (λ x b q k. search rules) ∙ list_any-map (is_present (rows_of (found_of c.args.matches.now))) option_state c.args.table.now
