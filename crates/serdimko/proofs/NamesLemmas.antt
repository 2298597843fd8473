-- Blocks of one name after another.
use Rattle.std.proofs.Common.{◌≡◌, ◌∙◌, ◌+◌, ◌<◌, ℕ, suc, Ok, Err, List, ◌∷◌, ap, arith, drop, get_or, inl, inr, length, refl, subst, sym}
use Rattle.std.proofs.Math.Seq.{drop-cons}
use Rattle.std.proofs.lemmas.List.{drop_all}
use Rattle.ipmi_commands.specs.Output.{Output}
use Rattle.ipmi_sensors.specs.Sensors.{Found, PrintsFound}
use Rattle.ipmi_output.specs.Failure.{Ending}
use Rattle.ipmi_output.specs.declared.failure.Failure.{Failure}
use Rattle.serdimko.specs.Settings.{texts_for}
use Rattle.serdimko.specs.Printing.{PrintsNames}
use Rattle.serdimko.specs.declared.report.Report.{Report}

module _ (report : Report) (found : List Found) (names : List (List ℕ)) (old : Output) where
  -- the blocks of the first names were printed, and whatever the others leave, all of them do
  abbrev pub NamedTo : ℕ → Output → Type 0
  NamedTo count now = (new : Output) (ending : Ending) → PrintsNames report found (drop count names) now new ending
      → PrintsNames report found names old new ending

  pub named_none : NamedTo 0 old
  named_none new ending names_ = names_

  module _ (count : ℕ) (now new : Output) (name : List ℕ) (named : NamedTo count now) (lt : count < length names)
      (is : name ≡ get_or names count name) where
    split : drop count names ≡ name ∷ drop (count + 1) names
    split =
        let next : suc count ≡ count + 1 = omega arith in
        subst (λ (n : ℕ). drop count names ≡ get_or names count name ∷ drop n names) next (drop-cons names count name lt)
        ∙ ap (λ (x : List ℕ). x ∷ drop (count + 1) names) (sym is)

    pub named_one : PrintsFound (texts_for report) name found now new (Ok tt) → NamedTo (count + 1) new
    named_one prints last ending more = named last ending (rw split (inl (new, prints, more)))

    pub named_last : (other : Failure) → PrintsFound (texts_for report) name found now new (Err other)
        → PrintsNames report found names old new (Err other)
    named_last other prints = named new (Err other) (rw split (inr (other, prints, refl)))

  pub named_all : (count : ℕ) (now : Output) → NamedTo count now → count ≡ length names
      → PrintsNames report found names old now (Ok tt)
  named_all count now named all = named now (Ok tt) (rw (drop_all count names (omega (arith, all))) (refl, refl))
