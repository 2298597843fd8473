-- The steps of a listing's cursor, and what was printed of the records that they returned.
use Rattle.std.proofs.Common.{◌≡◌, ℕ, ◌+◌, ◌<◌, Bool, true, false, Option, None, Some, Result, Ok, Err, List, [], ◌∷◌, ◌++◌, inl, inr, length, refl, sym, ap, subst, ◌∙◌, append-nil}
use Rattle.ipmi_commands.specs.Below.{AreSteps, cursor_after, CursorState, Ended, Failure, handed_out, IsHonest, IsStep, Row, Seen, seen_after, StaysHonest, Stepped, stays_refl, with_handed}
use Rattle.ipmi_commands.specs.Traced.{AllButLastReturn, AllReturn, AreTextsOfSteps, IsReturned, IsListed, IsStopAmong, AreWithin, IsTextAfter, IsTextOfResult, IsTraced, IsWithin, PrintsSteps, ReturnsLast, seen_next, TracesListing}
use Rattle.ipmi_commands.specs.Prelude.{cause_of_unread, Change, change, counted, end_of, failure_of, Form, points_because_of, ReadError}
use Rattle.ipmi_commands.specs.Output.{and_then, IsCut, no_output, Output}
use Rattle.ipmi_commands.proofs.LimitLemmas.{are_within_more, counted-more, counts_as, within_nil}
use Rattle.ipmi_commands.proofs.NameLemmas.{Wrote}
use Rattle.ipmi_commands.proofs.OutputLemmas.{nothing_then, then_assoc, then_nothing}
use Rattle.ipmi_commands.specs.Format.{Texts}

-- ---- one more step

pub steps_more : (c : CursorState) (s : Seen) (steps : List Stepped) (step : Stepped) → AreSteps c s steps
    → StaysHonest (seen_after s steps) step.before
    → IsStep (cursor_after c steps) step.cursor step.before step.seen step.result
    → AreSteps c s (steps ++ step ∷ [])
steps_more c s [] step are stays made = (stays, made, tt)
steps_more c s (one ∷ steps) step are stays made = (are.0, are.1, steps_more one.cursor one.seen steps step are.2 stays made)

pub cursor_more : (c : CursorState) (steps : List Stepped) (step : Stepped)
    → cursor_after c (steps ++ step ∷ []) ≡ step.cursor
cursor_more c [] step = refl
cursor_more c (one ∷ steps) step = cursor_more one.cursor steps step

pub seen_more : (s : Seen) (steps : List Stepped) (step : Stepped)
    → seen_after s (steps ++ step ∷ []) ≡ step.seen
seen_more s [] step = refl
seen_more s (one ∷ steps) step = seen_more one.seen steps step

with_more : (result : Result (Option Row) Ended) (rows more : List Row)
    → with_handed result (rows ++ more) ≡ with_handed result rows ++ more
with_more (Ok (Some row)) rows more = refl
with_more (Ok None) rows more = refl
with_more (Err ended) rows more = refl

pub handed_joined : (steps more : List Stepped) → handed_out (steps ++ more) ≡ handed_out steps ++ handed_out more
handed_joined [] more = refl
handed_joined (one ∷ steps) more = rw (handed_joined steps more) (with_more one.result (handed_out steps) (handed_out more))

-- ---- its text

pub next_more : (steps : List Stepped) (step : Stepped) (last : Seen)
    → seen_next (steps ++ step ∷ []) last ≡ seen_next steps step.before
next_more [] step last = refl
next_more (one ∷ steps) step last = refl

texts_more : (x : Texts) → (form : Form) (steps : List Stepped) (step : Stepped) (last : Seen) (a b : Output)
    → AreTextsOfSteps x form steps step.before a → IsTextOfResult x form step.result step.seen last b
    → AreTextsOfSteps x form (steps ++ step ∷ []) last (and_then a b)
texts_more x form [] step last a b are is = record { first = b; rest = no_output; is_first = is; is_rest = refl; joined = ap (λ (o : Output). and_then o b) are ∙ nothing_then b ∙ sym (then_nothing b) }
texts_more x form (one ∷ steps) step last a b are is = record {
  first = are.first;
  rest = and_then are.rest b;
  is_first = subst (λ (s : Seen). IsTextOfResult x form one.result one.seen s are.first) (sym (next_more steps step last)) are.is_first;
  is_rest = texts_more x form steps step last are.rest b are.is_rest is;
  joined = ap (λ (o : Output). and_then o b) are.joined ∙ then_assoc are.first are.rest b;
}

prints_more : (x : Texts) → (form : Form) (steps : List Stepped) (step : Stepped) (last : Seen) (old mid new text : Output)
    → PrintsSteps x form steps step.before old mid → IsTextOfResult x form step.result step.seen last text
    → new ≡ and_then mid text → PrintsSteps x form (steps ++ step ∷ []) last old new
prints_more x form steps step last old mid new text before is written = record {
  text = and_then before.text text;
  are = texts_more x form steps step last before.text text before.are is;
  new_is = written ∙ ap (λ (o : Output). and_then o text) before.new_is ∙ then_assoc old before.text text;
}

-- ---- a listing that goes on

pub record Tracing (x : Texts) (form : Form) (most : Option ℕ) (count : ℕ) (begun now : CursorState) (c : Change) : Type 0 where
  pub steps : List Stepped
  pub traced : IsTraced begun now c.seen c.seen' steps
  pub printed : PrintsSteps x form steps c.seen' c.old c.new
  pub count_is : count ≡ counted form (handed_out steps)
  pub within : AreWithin form most (handed_out steps)
  pub returned : AllReturn steps

all_but_last : (steps : List Stepped) → AllReturn steps → AllButLastReturn steps
all_but_last [] all = tt
all_but_last (step ∷ []) all = tt
all_but_last (step ∷ (second ∷ steps)) all = (all.0, all_but_last (second ∷ steps) all.1)

and_last : (steps : List Stepped) (last : Stepped) → AllReturn steps → AllButLastReturn (steps ++ last ∷ [])
and_last [] last all = tt
and_last (step ∷ []) last all = (all.0, tt)
and_last (step ∷ (second ∷ steps)) last all = (all.0, and_last (second ∷ steps) last all.1)

one_more : (steps : List Stepped) (step : Stepped) → AllReturn steps → IsReturned step.result → AllReturn (steps ++ step ∷ [])
one_more [] step all is = (is, tt)
one_more (first ∷ steps) step all is = (all.0, one_more steps step all.1 is)

unfoldable pub traced_none : (x : Texts) → (form : Form) (most : Option ℕ) (begun : CursorState) (s : Seen) (text : Output) → IsHonest s
    → Tracing x form most 0 begun begun (change s s text text)
traced_none x form most begun s text honest = record {
  steps = [];
  traced = record { are = tt; cursor = refl; stays = stays_refl s honest };
  printed = record { text = no_output; are = refl; new_is = sym (then_nothing text) };
  count_is = refl;
  within = within_nil form most;
  returned = tt;
}

module _ (x : Texts) {form : Form} {most : Option ℕ} {count : ℕ} {begun now : CursorState} {s s' : Seen} {old new : Output}
    (t : Tracing x form most count begun now (change s s' old new)) {next : CursorState} {s'' : Seen}
    {result : Result (Option Row) Ended} (step : IsStep now next s' s'' result) where
  abbrev last_step : Stepped
  last_step = record { before = s'; result = result; cursor = next; seen = s'' }

  abbrev all_steps : List Stepped
  all_steps = t.steps ++ last_step ∷ []

  all_traced : (last : Seen) → StaysHonest s'' last → IsTraced begun next s last all_steps
  all_traced last stays = record {
    are = steps_more begun s t.steps last_step t.traced.are t.traced.stays (subst (λ (c : CursorState). IsStep c next s' s'' result) (sym t.traced.cursor) step);
    cursor = cursor_more begun t.steps last_step;
    stays = rw (seen_more s t.steps last_step) stays;
  }

  handed_more : handed_out all_steps ≡ handed_out t.steps ++ with_handed result []
  handed_more = handed_joined t.steps (last_step ∷ [])

  -- a step without a record has no text
  none_more : (last : Seen) → IsTextOfResult x form result s'' last no_output → PrintsSteps x form all_steps last old new
  none_more last is = prints_more x form t.steps last_step last old new new no_output t.printed is (sym (then_nothing new))

-- ---- a listing that ends

-- after its last record
pub traced_whole : (x : Texts) → (form : Form) (wrote : Bool) (count : ℕ) {most : Option ℕ} {begun now : CursorState}
    {c : Change} (steps : List Stepped) → IsTraced begun now c.seen c.seen' steps → AllButLastReturn steps
    → IsListed x form most now steps c count → Wrote wrote c.old c.new
    → TracesListing x form most begun now c (end_of form wrote count)
traced_whole x (Form.Block name) false count steps traced returned listed none = record {
  steps = steps;
  traced = traced;
  returned = returned;
  ends = inr (inr (inr (record { name = name; searched = refl; is = refl; count = count; listed = listed; nothing = none })));
}
traced_whole x (Form.Block name) true count steps traced returned listed some = record { steps = steps; traced = traced; returned = returned; ends = (listed, some) }
traced_whole x _ wrote count steps traced returned listed has = record { steps = steps; traced = traced; returned = returned; ends = (listed, tt) }

-- at its limit
pub traced_full : (x : Texts) → {form : Form} (wrote : Bool) {count : ℕ} {begun now : CursorState} {s s' : Seen}
    {old new : Output} {most : Option ℕ} → Tracing x form most count begun now (change s s' old new)
    → most ≡ Some count → Wrote wrote old new
    → TracesListing x form most begun now (change s s' old new) (end_of form wrote count)
traced_full x {form} wrote {count} t limit has =
    traced_whole x form wrote count t.steps t.traced (all_but_last t.steps t.returned) (record { count_is = t.count_is; within = t.within; done = inl limit; printed = t.printed }) has

-- the cursor returned no record, for this reason
pub traced_ended : (x : Texts) → {form : Form} {count : ℕ} {begun now : CursorState} {s s' : Seen}
    {old new : Output} {most : Option ℕ} (t : Tracing x form most count begun now (change s s' old new))
    {next : CursorState} {s'' : Seen} (ended : Ended) (step : IsStep now next s' s'' (Err ended))
    → IsHonest s' → IsWithin most (count + 1)
    → TracesListing x form most begun next (change s s'' old new) (Err (Failure.Ended ended))
traced_ended x {form} {count} {begun} {now} {s} {s'} {old} {new} {most} t {next} {s''} ended step honest below =
    let rows : handed_out t.steps ≡ handed_out (all_steps x t step) = sym (handed_more x t step ∙ append-nil (handed_out t.steps)) in
    record {
      steps = all_steps x t step;
      traced = all_traced x t step s'' (stays_refl s'' (step.honest honest).stays.honest);
      returned = and_last t.steps (last_step x t step) t.returned;
      ends = inl (record {
        ended = ended;
        is = refl;
        done = t.steps;
        step = last_step x t step;
        are = refl;
        returned = refl;
        within = subst (AreWithin form most) rows t.within;
        below = subst (λ (n : ℕ). IsWithin most (n + 1)) (t.count_is ∙ ap (counted form) rows) below;
        printed = none_more x t step s'' refl;
      });
    }

-- there are no more records
pub traced_done : (x : Texts) → {form : Form} (wrote : Bool) {count : ℕ} {begun now : CursorState} {s s' : Seen}
    {old new : Output} {most : Option ℕ} (t : Tracing x form most count begun now (change s s' old new))
    {next : CursorState} {s'' : Seen} (step : IsStep now next s' s'' (Ok None))
    → IsHonest s' → Wrote wrote old new
    → TracesListing x form most begun next (change s s'' old new) (end_of form wrote count)
traced_done x {form} wrote {count} {begun} {now} {s} {s'} {old} {new} {most} t {next} {s''} step honest has =
    let rows : handed_out t.steps ≡ handed_out (all_steps x t step) = sym (handed_more x t step ∙ append-nil (handed_out t.steps)) in
    traced_whole x form wrote count (all_steps x t step) (all_traced x t step s'' (stays_refl s'' (step.honest honest).stays.honest))
    (and_last t.steps (last_step x t step) t.returned)
    (record { count_is = t.count_is ∙ ap (counted form) rows; within = subst (AreWithin form most) rows t.within; done = inr step.leaves.1.place; printed = none_more x t step s'' refl })
    has

-- the last step returned no record
traced_whole-steps : (x : Texts) → (form : Form) (wrote : Bool) (count : ℕ) {most : Option ℕ} {begun now : CursorState}
    {c : Change} (steps : List Stepped) (traced : IsTraced begun now c.seen c.seen' steps) (returned : AllButLastReturn steps)
    (listed : IsListed x form most now steps c count) (has : Wrote wrote c.old c.new)
    → (traced_whole x form wrote count steps traced returned listed has).steps ≡ steps
unfolding traced_whole
traced_whole-steps x (Form.Block name) false count steps traced returned listed none = refl
traced_whole-steps x (Form.Block name) true count steps traced returned listed some = refl
traced_whole-steps x _ wrote count steps traced returned listed has = refl

pub traced_done-handed : (x : Texts) → {form : Form} (wrote : Bool) {count : ℕ} {begun now : CursorState} {s s' : Seen}
    {old new : Output} {most : Option ℕ} (t : Tracing x form most count begun now (change s s' old new))
    {next : CursorState} {s'' : Seen} (step : IsStep now next s' s'' (Ok None))
    (honest : IsHonest s') (has : Wrote wrote old new)
    → handed_out (traced_done x wrote t step honest has).steps ≡ handed_out t.steps
unfolding traced_done
traced_done-handed x {form} wrote {count} t step honest has =
    ap handed_out (traced_whole-steps x form wrote count (all_steps x t step) _ _ _ has) ∙ handed_more x t step ∙ append-nil (handed_out t.steps)

-- a record was returned
module _ (x : Texts) {form : Form} {most : Option ℕ} {count : ℕ} {begun now : CursorState} {s s' : Seen} {old new : Output}
    (t : Tracing x form most count begun now (change s s' old new)) {next : CursorState} {s'' : Seen}
    {row : Row} (step : IsStep now next s' s'' (Ok (Some row))) (last : Seen)
    (stays : StaysHonest s'' last) (below : IsWithin most (count + 1)) where
  count_more : count + counts_as form row ≡ counted form (handed_out (all_steps x t step))
  count_more = ap (λ (n : ℕ). n + counts_as form row) t.count_is ∙ sym (counted-more form (handed_out t.steps) row)
      ∙ ap (counted form) (sym (handed_more x t step))

  are_within : AreWithin form most (handed_out (all_steps x t step))
  are_within = subst (AreWithin form most) (sym (handed_more x t step))
      (are_within_more form most (handed_out t.steps) row t.within (subst (λ (n : ℕ). IsWithin most (n + 1)) t.count_is below))

  returns_last : ReturnsLast form most (all_steps x t step) t.steps (last_step x t step) row
  returns_last = record { are = refl; returned = refl; within = are_within }

  -- its text was not found
  pub traced_lost : (unread : ReadError)
      → IsStopAmong (points_because_of form row) (cause_of_unread unread)
      → TracesListing x form most begun next (change s last old new) (Err (failure_of unread))
  traced_lost unread there = record {
    steps = all_steps x t step;
    traced = all_traced x t step last stays;
    returned = and_last t.steps (last_step x t step) t.returned;
    ends = inr (inl (record { done = t.steps; step = last_step x t step; row = row; last = returns_last; there = there; printed = t.printed }));
  }

  -- a part of its text was written
  pub traced_cut : (text piece_text : Output) → IsTextAfter x form row s'' last piece_text
      → 0 < length piece_text.bytes → IsCut new text piece_text
      → TracesListing x form most begun next (change s last old text) (Err Failure.WriteFault)
  traced_cut text piece_text is some part = record {
    steps = all_steps x t step;
    traced = all_traced x t step last stays;
    returned = and_last t.steps (last_step x t step) t.returned;
    ends = inr (inr (inl (record {
      done = t.steps;
      step = last_step x t step;
      row = row;
      last = returns_last;
      is = refl;
      before = new;
      printed = t.printed;
      text = piece_text;
      is_text = is;
      some = some;
      part = part;
    })));
  }

  -- its text was written
  pub traced_more : (text piece_text : Output) → IsTextAfter x form row s'' last piece_text
      → text ≡ and_then new piece_text → Tracing x form most (count + counts_as form row) begun next (change s last old text)
  traced_more text piece_text is written = record {
    steps = all_steps x t step;
    traced = all_traced x t step last stays;
    printed = prints_more x form t.steps (last_step x t step) last old new text piece_text t.printed is written;
    count_is = count_more;
    within = are_within;
    returned = one_more t.steps (last_step x t step) t.returned tt;
  }

  pub traced_more-handed : (text piece_text : Output) (is : IsTextAfter x form row s'' last piece_text) (written : text ≡ and_then new piece_text)
      → handed_out (traced_more text piece_text is written).steps ≡ handed_out t.steps ++ row ∷ []
  unfolding traced_more
  traced_more-handed text piece_text is written = handed_more x t step
