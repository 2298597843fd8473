use Rattle.std.proofs.Common.{◌≡◌, ◌≢◌, ◌∙◌, ◌⊎◌, suc, arith, length, ne_eqb, true, false, List, [], ◌∷◌, ap, inl, inr, refl, sym, Result, Ok, Err, IfOk, IfErr}
use Rattle.clap.proofs.OnLiterals.{clap_on_literals}
use Rattle.clap.specs.declared.error.Error.{Error}
use Rattle.clap.specs.declared.error.kind.ErrorKind.{ErrorKind}
use Rattle.clap.specs.declared.error.kind.ErrorKind.TheVariants.{OutOfMemory}
use Rattle.clap.specs.declared.parser.matches.ArgMatches.{ArgMatches}
use Rattle.clap.specs.Words.{App, FailsBy, HasMatchesOf, IsAmong, Kinds, Text, fault_of, found_of, is_simple, is_simple_and_free, kind_of, matches_of, rows_of}
use Rattle.ipmi_command_line.specs.Arguments.{command_line, is_taken, rows_of_words}
use Rattle.ipmi_command_line.specs.Options.{options, options_anywhere, reference_options}
use Rattle.clap.specs.Walk.{is_empty}
use Rattle.ipmi_command_line.proofs.arguments.arguments.Goals as goal

is_simple-command_line : is_simple command_line ≡ true
unfolding clap_on_literals options options_anywhere reference_options
is_simple-command_line = refl

is_simple_and_free-command_line : is_simple_and_free command_line ≡ true
unfolding clap_on_literals options options_anywhere reference_options
is_simple_and_free-command_line = refl

is_empty-kinds : (k : ErrorKind) (ks : Kinds) → IsAmong k ks → is_empty ks ≡ false
is_empty-kinds k [] h = elim h [ ]
is_empty-kinds k (x ∷ xs) h = let some : suc (length xs) ≢ 0 = omega arith in ne_eqb _ 0 some

-- what `clap` says of a parse with this command line
ok_taken : (a : App) (words : List Text) (r : Result ArgMatches Error) → a ≡ command_line
    → (is_simple_and_free a ≡ true → FailsBy (fault_of a words) r) → IfOk r (HasMatchesOf a words)
    → IfOk r (λ m. (is_taken words ≡ true) × (rows_of (found_of m) ≡ rows_of_words words))
unfolding is_taken rows_of_words
ok_taken a words (Ok m) is kinds matches = (
  ap is_empty (sym (ap (λ app. fault_of app words) is) ∙ kinds (ap is_simple_and_free is ∙ is_simple_and_free-command_line)),
  (matches (ap is_simple is ∙ is_simple-command_line)).0 ∙ ap (λ app. matches_of app words) is,
)
ok_taken a words (Err e) is kinds matches = tt

err_taken : (a : App) (words : List Text) (r : Result ArgMatches Error) → a ≡ command_line
    → (is_simple_and_free a ≡ true → FailsBy (fault_of a words) r)
    → IfErr r (λ e. (kind_of e ≡ OutOfMemory) ⊎ (is_taken words ≡ false))
unfolding is_taken
err_taken a words (Ok m) is kinds = tt
err_taken a words (Err e) is kinds =
    elim (kinds (ap is_simple_and_free is ∙ is_simple_and_free-command_line)) [
      | inl h ↦ inl h
      | inr h ↦ inr (ap is_empty (sym (ap (λ app. fault_of app words) is)) ∙ is_empty-kinds _ _ h)
    ]

pub returns-clause-ok : goal.returns-clause-ok
returns-clause-ok g c = ok_taken _ _ c.try_get_matches_from.result c.in_ok-command_line.ensures c.try_get_matches_from.ensures.kinds c.try_get_matches_from.ensures.matches

pub returns-clause-err : goal.returns-clause-err
returns-clause-err g c = err_taken _ _ c.try_get_matches_from.result c.in_ok-command_line.ensures c.try_get_matches_from.ensures.kinds
