-- The clauses of `clap`, applied to this command line.
use Rattle.std.proofs.Common.{◌≡◌, ◌∙◌, ap, sym, arith, length, List, [], map, Option, option_map, unwrap_or, Bor}
use Rattle.std.proofs.lemmas.List.{length-map}
use Rattle.clap.specs.Words.{Text, matched_of, raw_values, rows_of}
use Rattle.clap.specs.declared.parser.matches.Found.{Found}
pub use Rattle.clap.proofs.WalkLemmas.{first_value-rows}
use Rattle.clap.proofs.WalkLemmas.{raw_values-rows}
use Rattle.ipmi_command_line.specs.Values.{values_of}

-- `get_strs(name).unwrap_or(&[])` has all values of the option
pub values_are : (r : Option (Bor (List (Bor Text)))) (d : Bor (List (Bor Text))) (f : Found) (name : Text)
    → d.now ≡ []
    → option_map (λ s. map (λ v. v.now) s.now) r
    ≡ option_map raw_values (matched_of f name)
    → map (λ v. v.now) (unwrap_or r d).now ≡ values_of name (rows_of f)
values_are r d f name none given = grind (arith, given ∙ raw_values-rows f name)

-- and as many of them
pub value_count_is : (r : Option (Bor (List (Bor Text)))) (d : Bor (List (Bor Text))) (f : Found) (name : Text)
    → d.now ≡ []
    → option_map (λ s. map (λ v. v.now) s.now) r
    ≡ option_map raw_values (matched_of f name)
    → length (unwrap_or r d).now ≡ length (values_of name (rows_of f))
value_count_is r d f name none given =
    sym (length-map (unwrap_or r d).now (λ (v : Bor Text). v.now)) ∙ ap length (values_are r d f name none given)

pub ruleset values = (first_value-rows)
