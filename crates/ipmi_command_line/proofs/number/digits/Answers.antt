-- `from_str_radix` reads a number on a command line.
use Rattle.std.proofs.Common.{◌≡◌, ◌≢◌, rules, ℕ, ◌<◌, ◌^◌, true, List, [], ◌∷◌, length, refl, arith, Result, get_or}
use Rattle.std.specs.Result.{result_ok}
use Rattle.std.specs.Char.{is_digit}
use Rattle.std.specs.List.{list_all}
use Rattle.std.specs.Str.Parse.{AllDigits, ParsesUnsigned}
use Rattle.std.proofs.lemmas.Bool.{and_parts}
use Rattle.std.proofs.lemmas.Bool.Decides.{nat_tests}
use Rattle.std.proofs.lemmas.Str.Parse.{without_leading_plus_none}
use Rattle.ipmi_command_line.specs.Number.{digits_of, within}
use Rattle.ipmi_command_line.proofs.number.digits.Goals as goal

all_from : (radix : ℕ) (bs : List ℕ) → list_all (λ c. is_digit c radix) bs ≡ true → AllDigits radix bs
all_from radix [] h = tt
all_from radix (c ∷ cs) h = let p = and_parts (is_digit c radix) (list_all (λ c. is_digit c radix) cs) h in (grind (arith, nat_tests), all_from radix cs p.1)

all_tested : (radix : ℕ) (bs : List ℕ) → AllDigits radix bs → list_all (λ c. is_digit c radix) bs ≡ true
all_tested radix [] h = refl
all_tested radix (c ∷ cs) h = grind (arith, nat_tests, all_tested radix cs h.1, h.0)

-- the number read, if it is in the range of the type, is the number of the digits
digits_read : {E : Type 0} (r : Result ℕ E) (radix : ℕ) (bs : List ℕ) (low high : ℕ) → 0 < length bs
    → get_or bs 0 0 ≢ 43 → high < 2 ^ 16 → ParsesUnsigned 16 radix bs r
    → within low high (result_ok r) ≡ within low high (digits_of radix bs)
digits_read r radix bs low high some no_plus small h =
    let read = rw (without_leading_plus_none bs no_plus) at h in
    grind (arith, nat_tests, all_from radix bs, all_tested radix bs, read)

pub returns-in_err-n-clause-value : goal.returns-in_err-n-clause-value
returns-in_err-n-clause-value c =
    let read = digits_read c.from_str_radix.result c.args.radix c.args.text.now c.args.low c.args.high (search rules) (search rules) (omega arith) c.from_str_radix.ensures.value in
    grind (arith, read, c.in_err-n.ensures.value)

pub returns-then-n-high-clause-value : goal.returns-then-n-high-clause-value
returns-then-n-high-clause-value c =
    let read = digits_read c.from_str_radix.result c.args.radix c.args.text.now c.args.low c.args.high (search rules) (search rules) (omega arith) c.from_str_radix.ensures.value in
    grind (arith, nat_tests, read, c.in_ok-n.ensures.value)
