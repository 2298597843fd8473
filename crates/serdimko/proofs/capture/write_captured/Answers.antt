use Rattle.std.proofs.Common.{◌≡◌, Bool, true, false, not, refl, ◌∙◌, true≢false}
use Rattle.std.proofs.lemmas.Bool.{false≢true}
use Rattle.std.specs.List.{list_all}
use Rattle.ipmi_capture.specs.Left.{leaves_whole}
use Rattle.serdimko.proofs.capture.write_captured.Goals as goal

negated : (a b : Bool) → a ≡ not b → not a ≡ b
negated true true is = absurd (true≢false is)
negated true false is = refl
negated false true is = refl
negated false false is = absurd (false≢true is)

pub returns-clause-saves : goal.returns-clause-saves
returns-clause-saves g c =
    let whole : not c.is_partial-is_whole.result ≡ list_all leaves_whole c.args.captured.left.items = negated _ _ (c.is_partial-is_whole.ensures ∙ c.in_ok-snapshot.ensures.partial) in
    rw (whole, c.as_slice.ensures.value, c.in_ok-text.ensures, c.in_ok-snapshot.ensures.is) at c.write_to-status.ensures
