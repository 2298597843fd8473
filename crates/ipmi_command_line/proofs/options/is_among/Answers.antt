use Rattle.std.proofs.Common.{◌∙◌, rules}
use Rattle.std.proofs.lemmas.Iterator.{YieldsList-from_slice}
use Rattle.std.proofs.lemmas.Iterator.Search.{any_from_yields_List}
use Rattle.clap.proofs.WalkLemmas.{list_any-map}
use Rattle.ipmi_command_line.specs.Options.{is_named, option_state}
use Rattle.ipmi_command_line.proofs.options.is_among.Goals as goal

pub returns : goal.returns
returns c =
    any_from_yields_List (λ row. is_named c.args.name.now (option_state row)) _ _ c.any.result c.any.ensures.ran (YieldsList-from_slice c.args.table.now cc)
    (λ x b q k. search rules) ∙ list_any-map (is_named c.args.name.now) option_state c.args.table.now
