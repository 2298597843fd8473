-- Pages of a listing.
use Rattle.std.specs.FinSet as set
use Rattle.std.proofs.Common.{◌≡◌, ◌⊎◌, inl, inr, ℕ, Bool, sym, zero, suc, ◌+◌, ◌*◌, ◌<◌, ◌≤◌, ◌==◌, false, Option, None, Some, Result, Ok, Err, List, [], ◌∷◌, length, take, drop, get_or, refl, ap, subst, ◌∙◌, arith}
use Rattle.std.proofs.lemmas.Grind.{common_steps}
use Rattle.std.proofs.lemmas.List.{at_drop_more}
use Rattle.ipmi_commands.specs.Pages.{PageAlong}
use Rattle.ipmi_commands.specs.Below.{Place, End, Ended, Id, IsLog, Shelf, stays_refl, Store, Row, rows_of, WalkEnd, Done, CycleAt, MissingAt, EndsBy, row_at, IsWalk, place_after_rows, Seen, IsHonest, CursorState, start_of, Ending, Failure}
use Rattle.ipmi_commands.specs.declared.limits.RequestLimits.{RequestLimits}
use Rattle.ipmi_commands.specs.Prelude.{ArePages, AtEnd, cause_of, Change, change, end_of, ending_of, first_end, first_rows, Form, IsAllowed, IsFresh, IsPage, IsPieceOver, IsTextWhile, Traces, listing, listing_plan, ListsHonestly, pages_made, shelf_of, Subject}
use Rattle.ipmi_commands.specs.Output.{no_output, Output}
use Rattle.ipmi_commands.specs.declared.limits.Tries.{Tries}
use Rattle.ipmi_commands.proofs.OutputLemmas.{then_nothing}
use Rattle.ipmi_commands.proofs.LimitLemmas.{first_end-reached, first_rows-take, within_nil}
use Rattle.ipmi_commands.proofs.CountLemmas.{ends_here}
use Rattle.ipmi_commands.proofs.GrownListing.{fresh_grows, fresh_traces}
use Rattle.ipmi_commands.proofs.ItemLemmas.{no_items, none_printed}
use Rattle.ipmi_commands.proofs.ListingLemmas.{fresh_along, fresh_ends, ok_end}
use Rattle.ipmi_commands.proofs.MeanwhileLemmas.{log_now}
use Rattle.ipmi_commands.proofs.TraceLemmas.{traced_whole}
use Rattle.ipmi_commands.specs.Format.{Texts}

-- ---- a page that makes no call

end_same : {A B : Type 0} (form : Form) (wrote : Bool) (a : A) (b : B) → ending_of (end_of form wrote a) ≡ ending_of (end_of form wrote b)
end_same form wrote a b = grind arith

-- a listing that is at its end before the first step
no_steps : (x : Texts) → (form : Form) (start : Place) (most : Option ℕ) (s : Seen) (text : Output) → IsHonest s
    → (most ≡ Some 0) ⊎ (start ≡ End)
    → Traces x form start most (change s s text text) (end_of form false start)
no_steps x form start most s text honest done =
    let here : CursorState = record { shelf = shelf_of form; place = start; part = 0; tries = 0; ahead = false; ids = set.empty; reservation = None } in
    inr (record {
      begun = here;
      now = here;
      listed = end_of form false 0;
      ending = end_same form false start 0;
      next = ok_end (λ place. place ≡ start) form false start refl;
      shelf = refl;
      place = refl;
      ids = refl;
      traces = traced_whole x form false 0 [] (record { are = tt; cursor = refl; stays = stays_refl s honest }) tt
          (record { count_is = refl; within = within_nil form most; done = done; printed = record { text = no_output; are = refl; new_is = sym (then_nothing text) } }) refl;
    })

-- a page of size 0
pub page_of_none : (x : Texts) → (form : Form) (place : Place) (tries : Tries) (s : Seen) (text : Output) → IsHonest s
    → IsPage x form place tries (Some 0) (change s s text text) (end_of form false place)
page_of_none x form place tries s text honest =
    let cause : cause_of (ending_of (end_of form false place)) ≡ AtEnd = grind arith in
    record {
      ends = rw cause (ends_here honest refl tt);
      none = λ zero_. refl;
      along = λ same walk end w ends. record {
        leaves = rw cause (none_printed (IsPieceOver x s.store) text text refl, grind (arith, first_end-reached form (Some 0) 0 walk end refl (omega arith)));
        calls = omega arith;
        goes_on = grind arith;
      };
      grows = λ keeps first log grew.
          (first, log_now s s (stays_refl s honest).store honest first log, rw cause (none_printed (IsTextWhile x s s) text text refl, grind (arith, first_end-reached form (Some 0) 0 first Done refl (omega arith))));
      traces = no_steps x form place (Some 0) s text honest (inl refl);
    }

-- from a place without a row the walk is empty
pub no_walk : (rows : List Row) (start : Place) (walk : List Row) → row_at start rows ≡ None
    → IsWalk rows start walk → walk ≡ []
no_walk rows start walk none w = grind arith

-- nothing is printed from the end
empty_leaves : (IsText : Subject → Output → Type 0) (form : Form) (most : Option ℕ) (text : Output)
    → IsAllowed IsText (listing_plan (listing form End most) [] Done) text text (ending_of (end_of form false End))
empty_leaves IsText form most text =
    let cause : cause_of (ending_of (end_of form false End)) ≡ AtEnd = grind arith in
    rw (cause, within_nil form most) (none_printed IsText text text refl, rw (no_end most) (grind arith))
  where
    no_end : (most : Option ℕ) → first_end form most [] Done ≡ Done
    no_end most = grind arith

-- a page from the end
pub page_at_end : (x : Texts) → (form : Form) (tries : Tries) (most : Option ℕ) (s : Seen) (text : Output) → IsHonest s
    → IsPage x form End tries most (change s s text text) (end_of form false End)
page_at_end x form tries most s text honest =
    let cause : cause_of (ending_of (end_of form false End)) ≡ AtEnd = grind arith in
    record {
      ends = rw cause (ends_here honest refl tt);
      none = λ zero_. refl;
      along = λ same walk end w ends. along walk end (no_walk _ End walk refl w) ends;
      grows = λ keeps first log grew.
          let empty = no_walk _ End first refl log.walks in
          (first, log_now s s (stays_refl s honest).store honest first log, rw empty (empty_leaves (IsTextWhile x s s) form most text));
      traces = no_steps x form End most s text honest (inr refl);
    }
  where
    along : (walk : List Row) (end : WalkEnd) → walk ≡ []
        → EndsBy (rows_of (shelf_of form) s.store) End walk end
        → PageAlong x form End tries most (change s s text text) (end_of form false End) walk end
    along [] Done empty ends = record { leaves = empty_leaves (IsPieceOver x s.store) form most text; calls = omega arith; goes_on = grind (arith, common_steps) }
    along [] (CycleAt n) empty ends = absurd ends
    along [] (MissingAt n) empty ends = absurd ends
    along (row ∷ walk) end empty ends = cc empty

-- a page whose cursor is out of memory
pub page_without_memory : (x : Texts) → (form : Form) (place : Place) (tries : Tries) (most : Option ℕ) (s : Seen)
    (text : Output) → IsHonest s
    → IsPage x form place tries most (change s s text text) (Err Failure.OutOfMemory)
page_without_memory x form place tries most s text honest = record {
  ends = ends_here honest refl tt;
  none = λ zero_. refl;
  along = λ same walk end w ends. record { leaves = no_items (IsPieceOver x s.store) (listing_plan (listing form place most) walk end) text text refl; calls = omega arith; goes_on = tt };
  grows = λ keeps first log grew.
      (first, log_now s s (stays_refl s honest).store honest first log, no_items (IsTextWhile x s s) (listing_plan (listing form place most) first Done) text text refl);
  traces = inl (inl refl, refl, refl);
}

-- from id 0000h no walk ends with Done
no_log : (shelf : Shelf) (store : Store) (rows : List Row) → IsLog shelf (Id 0) store rows → ⊥
no_log shelf store [] log = log.ends
no_log shelf store (row ∷ rows) log = let none = log.walks.first in cc none

-- a page from id 0000h
pub page_of_cycle : (x : Texts) → (form : Form) (tries : Tries) (most : Option ℕ) (s : Seen) (text : Output) → IsHonest s
    → (most ≡ Some 0 → ⊥) → IsPage x form (Id 0) tries most (change s s text text) (Err (Failure.Ended (Ended.Cycle 0)))
page_of_cycle x form tries most s text honest some = record {
  ends = ends_here honest refl tt;
  none = λ zero_. refl;
  along = λ same walk end w ends. of_cycle walk end (no_walk _ (Id 0) walk refl w) ends;
  grows = λ keeps first log grew. absurd (no_log (shelf_of form) s.store first log);
  traces = inl (inr (refl, refl), refl, refl);
}
  where
    cycle_left : (most : Option ℕ) → (most ≡ Some 0 → ⊥) → first_end form most [] (CycleAt 0) ≡ CycleAt 0
    cycle_left most some = grind arith

    leaves : (end : WalkEnd) → end ≡ CycleAt 0 → IsAllowed (IsPieceOver x s.store) (listing_plan (listing form (Id 0) most) [] end)
        text text (Err (Failure.Ended (Ended.Cycle 0)))
    leaves end is = rw (is, within_nil form most, cycle_left most some) (none_printed (IsPieceOver x s.store) text text refl, refl)

    of_cycle : (walk : List Row) (end : WalkEnd) → walk ≡ [] → EndsBy (rows_of (shelf_of form) s.store) (Id 0) walk end
        → PageAlong x form (Id 0) tries most (change s s text text) (Err (Failure.Ended (Ended.Cycle 0))) walk end
    of_cycle [] end empty ends = record { leaves = leaves end (grind arith); calls = omega arith; goes_on = tt }
    of_cycle (row ∷ walk) end empty ends = cc empty

-- ---- a page with a cursor

-- the place where the next page begins, or why the page failed
abbrev pub page_result : Place → Result ℕ Failure → Result Place Failure
page_result next (Ok count) = Ok next
page_result next (Err failure) = Err failure

pub page_by_cursor : (x : Texts) → {limits : RequestLimits} {form : Form} {from : Option ℕ} {tries : Tries}
    {most : Option ℕ}
    {begun now : CursorState} {c : Change} (result : Result ℕ Failure) → IsFresh limits (shelf_of form) from begun
    → (most ≡ Some 0 → ⊥) → IsHonest c.seen → ListsHonestly x form tries most begun now c result
    → IsPage x form (start_of from) tries most c (page_result now.place result)
page_by_cursor x {form = form} {from = from} {most = most} {now = now} (Ok count) fresh some honest lists = record {
  ends = fresh_ends x fresh lists;
  none = λ zero_. absurd (some zero_);
  along = λ same walk end w ends.
      let along = fresh_along x fresh lists same walk end w ends in
      let here : 0 + length (first_rows form most walk) ≡ length (first_rows form most walk) = omega arith in
      let first = sym (first_rows-take form most walk) in
      record {
        leaves = along.0.leaves;
        calls = along.1;
        goes_on = elim along.0.all.stands.place [ inl there ↦ inl (there ∙ ap (place_after_rows (start_of from)) (ap (λ (n : ℕ). take n walk) here ∙ first)) | inr empty ↦ inr empty ];
      };
  grows = fresh_grows x fresh lists.traces honest;
  traces = fresh_traces x fresh lists.traces honest (Ok now.place) refl refl;
}
page_by_cursor x (Err failure) fresh some honest lists = record {
  ends = fresh_ends x fresh lists;
  none = λ zero_. absurd (some zero_);
  along = λ same walk end w ends. let along = fresh_along x fresh lists same walk end w ends in record { leaves = along.0.leaves; calls = along.1; goes_on = tt };
  grows = fresh_grows x fresh lists.traces honest;
  traces = fresh_traces x fresh lists.traces honest (Err failure) refl tt;
}

-- ---- pages, one after another

-- the result of the remaining pages leads to the result of all pages
abbrev pub LeadsTo : (x : Texts) → Form → Tries → List ℕ → List ℕ → Place → Place → Seen → Seen → Output → Output
    → Type 0
LeadsTo x form tries all left start now s s' old text =
    (s'' : Seen) (new : Output) (ending : Ending)
    → ArePages x form tries now left (change s' s'' text new) ending
    → ArePages x form tries start all (change s s'' old new) ending

module _ (x : Texts) (form : Form) (tries : Tries) (all : List ℕ) (k : ℕ) (start now : Place) (s s' s'' : Seen)
    (old text text' : Output) (there : k < length all)
    (leads : LeadsTo x form tries all (drop k all) start now s s' old text) where
  leads_here : LeadsTo x form tries all (get_or all k 0 ∷ drop (k + 1) all) start now s s' old text
  leads_here = subst (λ (l : List ℕ). LeadsTo x form tries all l start now s s' old text) (at_drop_more (λ (l : List ℕ). l) all k 0 there) leads

  pub page_leads : (next : Place)
      → IsPage x form now tries (Some (get_or all k 0)) (change s' s'' text text') (Ok next)
      → LeadsTo x form tries all (drop (k + 1) all) start next s s'' old text'
  page_leads next page = λ last new ending rest. leads_here last new ending (inr (record { next = next; seen = s''; text = text'; page = page; rest = rest }))

  pub last_leads : (failure : Failure)
      → IsPage x form now tries (Some (get_or all k 0)) (change s' s'' text text') (Err failure)
      → ArePages x form tries start all (change s s'' old text') (Err failure)
  last_leads failure page = leads_here s'' text' (Err failure) (inl (failure, refl, page))

-- the calls of a page, none if its size is 0, and of the pages after it
pub calls_of_page : (size : ℕ) (sizes : List ℕ) (more most : ℕ) (s s' : Seen)
    → s'.calls ≤ s.calls + more + most → (Some size ≡ Some 0 → s' ≡ s)
    → s'.calls + pages_made sizes * most ≤ s.calls + more + pages_made (size ∷ sizes) * most
calls_of_page zero sizes more most s s' page none = omega (arith, ap (λ (x : Seen). x.calls) (none refl))
calls_of_page (suc n) sizes more most s s' page none = let some : (suc n == 0) ≡ false = search arith in rw some (omega (arith, page))

pub calls_after_page : (sizes : List ℕ) (k most bound : ℕ) (s s' : Seen) → k < length sizes
    → s'.calls ≤ s.calls + most → (Some (get_or sizes k 0) ≡ Some 0 → s' ≡ s)
    → s.calls + pages_made (drop k sizes) * most ≤ bound
    → s'.calls + pages_made (drop (k + 1) sizes) * most ≤ bound
calls_after_page sizes k most bound s s' there page none before =
    let made = at_drop_more (λ (l : List ℕ). pages_made l * most) sizes k 0 there in
    omega (arith, before, made, calls_of_page (get_or sizes k 0) (drop (k + 1) sizes) 0 most s s' (omega (arith, page)) none)
