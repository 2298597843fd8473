-- The values of options, in the result of `clap`.
use Rattle.std.specs.Prelude.{nat_lt, is_some, List, [], Bool, codes, unwrap_or}
use Rattle.clap.specs.Words.{Row, Text, all_of, count_of, first_of}

-- all values of an option that may come several times, or all words
abbrev pub values_of : Text → List Row → List Text
values_of name rows = unwrap_or (all_of name rows) []

-- the words in the result of `clap` that belong to no option
abbrev pub free_words : List Row → List Text
free_words rows = values_of (codes "words") rows

-- the option without a value is given
abbrev pub is_given : Text → List Row → Bool
is_given name rows = nat_lt 0 (count_of name rows)

-- the option with a value is given
abbrev pub has_value : Text → List Row → Bool
has_value name rows = is_some (first_of name rows)
