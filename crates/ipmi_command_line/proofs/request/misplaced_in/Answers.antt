use Rattle.std.proofs.Common.{◌∙◌, ◌&&◌, Bool, Bor, ap, not, option_map, rules, sym}
use Rattle.std.proofs.lemmas.Iterator.{YieldsList-from_slice}
use Rattle.std.proofs.lemmas.Iterator.Search.{find_from_yields_List}
use Rattle.clap.specs.Words.{found_of, rows_of}
use Rattle.ipmi_command_line.proofs.CommandLemmas.{option_found}
use Rattle.ipmi_command_line.specs.Commands.{texts}
use Rattle.ipmi_command_line.specs.Options.{OptionRow, OptionState, is_present, option_state}
use Rattle.ipmi_command_line.specs.Request.{goes_with}
use Rattle.ipmi_command_line.proofs.request.misplaced_in.Goals as goal

pub returns-in-Some : goal.returns-in-Some
returns-in-Some c =
    let passes : OptionState → Bool = λ option. is_present (rows_of (found_of c.args.matches.now)) option && not (goes_with (texts c.args.options.now) option) in
    ap (option_map (λ (row : Bor OptionRow). row.now.0.now)) (sym c.in-Some.is) ∙ option_found passes c.find.result c.args.table.now
    (find_from_yields_List (λ row. passes (option_state row)) _ _ _ c.find.ensures.ran
    (YieldsList-from_slice c.args.table.now cc) (λ x b q k. search rules))

pub returns-in-None : goal.returns-in-None
returns-in-None c =
    let passes : OptionState → Bool = λ option. is_present (rows_of (found_of c.args.matches.now)) option && not (goes_with (texts c.args.options.now) option) in
    ap (option_map (λ (row : Bor OptionRow). row.now.0.now)) (sym c.in-None.is) ∙ option_found passes c.find.result c.args.table.now
    (find_from_yields_List (λ row. passes (option_state row)) _ _ _ c.find.ensures.ran
    (YieldsList-from_slice c.args.table.now cc) (λ x b q k. search rules))
