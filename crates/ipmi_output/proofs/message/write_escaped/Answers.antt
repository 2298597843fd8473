-- A name without control bytes is not changed. Of another name, the bytes before this one and a part of it were taken.
use Rattle.std.proofs.Common.{◌≡◌, not, true, List, ℕ, [], ◌∷◌, ◌∙◌, sym, refl, rules}
use Rattle.std.proofs.lemmas.Result.{MatchResult-from_err}
use Rattle.std.specs.Char.{is_ascii_control}
use Rattle.std.specs.List.{list_all}
use Rattle.ipmi_output.specs.Failure.{escaped_byte, escaped_name}
use Rattle.ipmi_output.proofs.MessageLemmas.{ReceivesPart-in_item}
use Rattle.ipmi_output.proofs.message.write_escaped.Goals as goal

escaped_name-plain : (name : List ℕ) → list_all (λ byte. not (is_ascii_control byte)) name ≡ true
    → escaped_name name ≡ name
escaped_name-plain [] plain = refl
escaped_name-plain (byte ∷ name) plain = grind (rules, escaped_name-plain name)

pub returns-then-is_plain : goal.returns-then-is_plain
returns-then-is_plain g c =
    rw (escaped_name-plain c.args.name.now (sym c.is_plain.ensures ∙ c.if-is_plain.true)) c.offer_all.ensures

pub returns-in_err-write_byte : goal.returns-in_err-write_byte
returns-in_err-write_byte g c =
    MatchResult-from_err c.from_residual.result _ _ c.from_residual.ensures.0
    (λ e. ReceivesPart-in_item escaped_byte _ _ _ _ _ _ c.loop-byte-test.true c.loop-byte.invariant c.in_err-write_byte.ensures)
