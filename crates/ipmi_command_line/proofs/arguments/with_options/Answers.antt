use Rattle.std.proofs.Common.{◌≡◌, ◌∙◌, ◌+◌, ◌<◌, ℕ, List, ap, ap₂, arith, get_or, length, map, sym, take}
use Rattle.std.specs.List.{fold}
use Rattle.std.proofs.lemmas.List.{map_push, take_more}
use Rattle.std.proofs.lemmas.List.Sums.{fold_push}
use Rattle.clap.specs.Words.{App, with_rule}
use Rattle.ipmi_command_line.specs.Options.{OptionRow, option_state, with_option}
use Rattle.ipmi_command_line.proofs.arguments.with_options.Goals as goal

one_more : (app : App) (table : List OptionRow) (i : ℕ) (d : OptionRow) → i < length table
    → fold with_option app (map option_state (take (i + 1) table))
    ≡ with_option (fold with_option app (map option_state (take i table))) (option_state (get_or table i d))
one_more app table i d lt =
    ap (fold with_option app) (ap (map option_state) (take_more table i d lt) ∙ map_push option_state (take i table) (get_or table i d))
    ∙ fold_push with_option app (map option_state (take i table)) (option_state (get_or table i d))

pub loop-row-preserved : goal.loop-row-preserved
loop-row-preserved c =
    c.in_ok-program.ensures.shape c.option_rule.ensures.local ∙ ap₂ with_rule c.loop-row.invariant c.option_rule.ensures.rule
    ∙ sym (one_more _ c.args.table.now c.loop-row.row-index _ (omega (arith, c.loop-row-test.true)))
