use Rattle.std.proofs.Common.{◌≡◌, ◌∙◌, ◌≤◌, Bor, List, [], ◌∷◌, ap, arith, length, refl, sym}
use Rattle.clap.specs.Words.{Text}
use Rattle.ipmi_command_line.specs.Commands.{commands, or_default, row_among, row_of, texts}
use Rattle.ipmi_command_line.proofs.commands.row_of.Goals as goal

words_are : (words : List (Bor Text)) → 1 ≤ length words → or_default (texts words) ≡ texts words
words_are [] some = absurd (omega (arith, some))
words_are (word ∷ words) some = refl

pub returns-in_default : goal.returns-in_default
unfolding row_of commands
returns-in_default c =
    c.row_among-in_default.ensures ∙ ap (row_among commands) (sym (words_are c.args.words.now c.in_default.len_at_least))
