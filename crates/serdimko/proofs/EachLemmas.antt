-- Items that are printed one after another.
use Rattle.std.proofs.Common.{◌≡◌, ◌∙◌, ◌+◌, ◌<◌, ℕ, suc, max, Bool, true, false, not, ◌&&◌, ◌||◌, List, ◌∷◌, Option, None, Some, ap, arith, drop, get_or, inl, inr, length, refl, subst, sym}
use Rattle.std.proofs.Math.Nat.{max-zero, zero-max}
use Rattle.std.proofs.Math.Seq.{drop-cons}
use Rattle.std.proofs.lemmas.List.{drop_all}
use Rattle.std.specs.Option.{option_or}
use Rattle.ipmi_commands.specs.declared.mark.Mark.{Mark}
use Rattle.ipmi_output.specs.Received.{Received}
use Rattle.serdimko.specs.Printing.{Each}
use Rattle.serdimko.specs.RunError.{and, outcome_of}
use Rattle.serdimko.specs.declared.outcome.Outcome.{Outcome}

made : ℕ → Bool → Bool → Bool → Option Mark → Outcome
made status is_open lacks verdict mark = record {
  status = status;
  is_output_open = is_open;
  lacks_name = lacks;
  has_verdict = verdict;
  mark = mark;
}

outcome_is : (s s' : ℕ) (o o' l l' v v' : Bool) (m m' : Option Mark) → s ≡ s' → o ≡ o' → l ≡ l' → v ≡ v' → m ≡ m' → made s o l v m ≡ made s' o' l' v' m'
outcome_is s s' o o' l l' v v' m m' status is_open lacks verdict mark = cc (status, is_open, lacks, verdict, mark)

and_true : (b : Bool) → (b && true) ≡ b
and_true true = refl
and_true false = refl

or_false : (b : Bool) → (b || false) ≡ b
or_false true = refl
or_false false = refl

and_assoc : (a b c : Bool) → ((a && b) && c) ≡ (a && (b && c))
and_assoc true b c = refl
and_assoc false b c = refl

or_assoc : (a b c : Bool) → ((a || b) || c) ≡ (a || (b || c))
or_assoc true b c = refl
or_assoc false b c = refl

option_or_none : (m : Option Mark) → option_or m None ≡ m
option_or_none None = refl
option_or_none (Some mark) = refl

option_or_assoc : (a b c : Option Mark) → option_or (option_or a b) c ≡ option_or a (option_or b c)
option_or_assoc None b c = refl
option_or_assoc (Some mark) b c = refl

pub and_nothing : (a : Outcome) → and a (outcome_of None) ≡ a
unfolding made
and_nothing a = outcome_is _ _ _ _ _ _ _ _ _ _ (max-zero a.status) (and_true a.is_output_open) (or_false a.lacks_name) (or_false a.has_verdict) (option_or_none a.mark)

pub nothing_and : (a : Outcome) → and (outcome_of None) a ≡ a
unfolding made
nothing_and a = outcome_is _ _ a.is_output_open _ a.lacks_name _ a.has_verdict _ a.mark _ (zero-max a.status) refl refl refl refl

pub and_and : (a b c : Outcome) → and (and a b) c ≡ and a (and b c)
unfolding made
and_and a b c =
    let status : max (max a.status b.status) c.status ≡ max a.status (max b.status c.status) = omega arith in
    outcome_is _ _ _ _ _ _ _ _ _ _ status (and_assoc a.is_output_open b.is_output_open c.is_output_open) (or_assoc a.lacks_name b.lacks_name c.lacks_name)
    (or_assoc a.has_verdict b.has_verdict c.has_verdict) (option_or_assoc a.mark b.mark c.mark)

pub not_is_true : (b : Bool) → not b ≡ true → b ≡ false
not_is_true false h = refl
not_is_true true h = absurd (cc h)

pub not_is_false : (b : Bool) → not b ≡ false → b ≡ true
not_is_false false h = absurd (cc h)
not_is_false true h = refl

module _ {A S : Type 0} (One : A → S → S → Received → Received → Outcome → Bool → Type 0) (items : List A)
    (old : S) (said : Received) where
  -- the first items were printed, and whatever the others leave, all of them do
  abbrev pub PrintedTo : ℕ → S → Received → Outcome → Type 0
  PrintedTo count now told so_far = (new : S) (said' : Received) (rest : Outcome)
      → Each One (drop count items) now new told said' rest → Each One items old new said said' (and so_far rest)

  pub printed_none : PrintedTo 0 old said (outcome_of None)
  printed_none new said' rest each = rw (nothing_and rest) each

  module _ (count : ℕ) (now new : S) (told said' : Received) (so_far : Outcome) (item : A) (one : Outcome) (follows : Bool)
      (printed : PrintedTo count now told so_far) (lt : count < length items) (is : item ≡ get_or items count item)
      (prints : One item now new told said' one follows) where
    split : drop count items ≡ item ∷ drop (count + 1) items
    split =
        let next : suc count ≡ count + 1 = omega arith in
        subst (λ (n : ℕ). drop count items ≡ get_or items count item ∷ drop n items) next (drop-cons items count item lt)
        ∙ ap (λ (x : A). x ∷ drop (count + 1) items) (sym is)

    pub printed_one : follows ≡ true → PrintedTo (count + 1) new said' (and so_far one)
    printed_one on last said'' rest more =
        rw (and_and so_far one rest) (printed last said'' (and one rest) (rw split (new, said', one, follows, prints, inl (on, (rest, more, refl)))))

    pub printed_last : follows ≡ false → Each One items old new said said' (and so_far one)
    printed_last off = printed new said' one (rw split (new, said', one, follows, prints, inr (off, refl, refl, refl)))

  pub printed_all : (count : ℕ) (now : S) (told : Received) (so_far : Outcome) → PrintedTo count now told so_far
      → count ≡ length items → Each One items old now said told so_far
  printed_all count now told so_far printed all =
      rw (and_nothing so_far) at (printed now told (outcome_of None) (rw (drop_all count items (omega (arith, all))) (refl, refl, refl)))
