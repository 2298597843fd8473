-- The last entries of a walk, kept in memory, and printed when the walk is over.
use Rattle.std.proofs.Common.{◌≡◌, inl, inr, Bool, true, false, cond, if◌then◌else◌, IsTrue, ℕ, ◌+◌, ◌-◌, ◌≤◌, Option, None, Some, IfOk, Result, Ok, Err, List, [], ◌∷◌, ◌++◌, length, subst, drop, refl, sym, ap, ◌∙◌, arith, length-append, length-drop, length-take, take_all}
use Rattle.std.proofs.lemmas.List.{drop-append-le, drop-drop, drop-map, length-map, map-append}
use Rattle.std.proofs.Math.Seq.{drop-nil}
use Rattle.std.specs.FinSet as set
use Rattle.ipmi_bus.proofs.GrowthLaws.{steps_stay}
use Rattle.ipmi_bus.proofs.StepsLaws.{steps_follow}
use Rattle.ipmi_commands.specs.Below.{CursorState, Done, Ended, EndsBy, Ending, Failure, handed_out, IsHonest, IsStep, IsWalk, OnGrowing, Place, Row, rows_of, sel_view_of, Seen, seen_after, Sel, Shelf, start_of, stays_refl, Store, WalkEnd}
use Rattle.ipmi_commands.specs.declared.kept.KeptEntry.{KeptEntry}
use Rattle.ipmi_commands.specs.declared.limits.RequestLimits.{RequestLimits}
use Rattle.ipmi_commands.specs.Kept.{IsKeptText, kept_row, kept_rows, kept_with, Keeps, KeepsByCursor, KeepsEntries, last_of, PrintsKept}
use Rattle.ipmi_commands.specs.Output.{Output, piece_of}
use Rattle.ipmi_command_line.specs.declared.filters.Filters.{Filters}
use Rattle.ipmi_selection.specs.Selection.{chosen, chosen_by, is_passed, passes_entry, SelectedEntries, selects_entry}
use Rattle.ipmi_commands.specs.Prelude.{AtEnd, cause_of, change, ending_of, EndsFor, EndsListing, EndsPrinting, EntryText, FindsIt, Change, Form, IsAllowed, IsAmong, IsFresh, IsPieceOver, IsTextWhile, Item, Job, kept_items, kept_plan, last_rows, ListsHonestly, most_on_walk, next_points, OfRow, OnWalk, Plan, points_of_walk, PrintsAfter, ReadError, ReadPoint, rows_end, Runs, TracesListing, walk_call_bound, WritesPiece}
use Rattle.ipmi_commands.specs.declared.limits.Tries.{Tries}
use Rattle.ipmi_commands.proofs.AskLemmas.{asks_nothing, no_memory}
use Rattle.ipmi_commands.proofs.CountLemmas.{between, ends_as, ends_here}
use Rattle.ipmi_commands.proofs.GrownListing.{fresh_grown}
use Rattle.ipmi_commands.proofs.ItemLemmas.{cut_after, leaves_joined, leaves_longer, leaves_map, no_items, none_printed, one_printed}
use Rattle.ipmi_commands.proofs.LastLemmas.{counts, keeping_failed, leaves_wide, none_over, none_while, passed_ends}
use Rattle.ipmi_commands.proofs.LimitLemmas.{counted_skipped}
use Rattle.ipmi_commands.proofs.ListingLemmas.{fresh_along, fresh_ends, listing_done, listing_done-handed, listing_ended, listing_more, listing_more-handed, listing_none, Listed}
use Rattle.ipmi_commands.proofs.MeanwhileLemmas.{log_now, while_last}
use Rattle.ipmi_commands.proofs.OutputLemmas.{then_nothing}
use Rattle.ipmi_commands.proofs.TraceLemmas.{traced_none}
use Rattle.ipmi_commands.specs.Format.{Texts}

-- ---- the last n of some items

-- of the last n and one more, the last n are those of all
last_of-more : {T : Type 0} (n : ℕ) (items : List T) (item : T)
    → last_of n (last_of n items ++ item ∷ []) ≡ last_of n (items ++ item ∷ [])
last_of-more n items item =
    let k = length items - n in
    let size : k + (length (drop k items ++ item ∷ []) - n) ≡ length (items ++ item ∷ []) - n =
    omega (arith, length-append (drop k items) (item ∷ []), length-append items (item ∷ []), length-drop k items) in
    ap (drop (length (drop k items ++ item ∷ []) - n)) (sym (drop-append-le k items (item ∷ []) (omega arith)))
    ∙ drop-drop (length (drop k items ++ item ∷ []) - n) k (items ++ item ∷ [])
    ∙ ap (λ (m : ℕ). drop m (items ++ item ∷ [])) size

pub last_of-few : {T : Type 0} (n : ℕ) (items : List T) → length (last_of n items) ≤ n
last_of-few n items = omega (arith, length-drop (length items - n) items)

-- the last n after the first of them were forgotten
pub last_of-pushed : {T : Type 0} (n : ℕ) (items : List T) (item : T) → 1 ≤ n
    → drop (length items + 1 - n) items ++ item ∷ [] ≡ last_of n (items ++ item ∷ [])
last_of-pushed n items item some =
    let k = length items + 1 - n in
    let size : k ≡ length (items ++ item ∷ []) - n = ap (λ (m : ℕ). m - n) (sym (length-append items (item ∷ []))) in
    sym (drop-append-le k items (item ∷ []) (omega (arith, some))) ∙ ap (λ (m : ℕ). drop m (items ++ item ∷ [])) size

-- ---- the chosen of some entries

chosen_all : (filters : Option Filters) (row : Row) → is_passed filters row.id (sel_view_of row.bytes) ≡ true → (rows : List Row)
    → chosen_by filters (rows ++ row ∷ []) ≡ chosen_by filters rows ++ row ∷ []
chosen_all None row is rows = refl
chosen_all (Some filters) row is [] = rw is refl
chosen_all (Some filters) row is (first ∷ rows) = by (passes_entry filters first.id (sel_view_of first.bytes)) (chosen_all (Some filters) row is rows)
  where
    by : (one : Bool) → chosen_by (Some filters) (rows ++ row ∷ []) ≡ chosen_by (Some filters) rows ++ row ∷ []
        → cond one (first ∷ chosen_by (Some filters) (rows ++ row ∷ [])) (chosen_by (Some filters) (rows ++ row ∷ []))
        ≡ cond one (first ∷ chosen_by (Some filters) rows) (chosen_by (Some filters) rows) ++ row ∷ []
    by true same = ap (λ (l : List Row). first ∷ l) same
    by false same = same

chosen_none : (filters : Option Filters) (row : Row) → is_passed filters row.id (sel_view_of row.bytes) ≡ false → (rows : List Row)
    → chosen_by filters (rows ++ row ∷ []) ≡ chosen_by filters rows
chosen_none None row is rows = cc is
chosen_none (Some filters) row is [] = rw is refl
chosen_none (Some filters) row is (first ∷ rows) = by (passes_entry filters first.id (sel_view_of first.bytes)) (chosen_none (Some filters) row is rows)
  where
    by : (one : Bool) → chosen_by (Some filters) (rows ++ row ∷ []) ≡ chosen_by (Some filters) rows
        → cond one (first ∷ chosen_by (Some filters) (rows ++ row ∷ [])) (chosen_by (Some filters) (rows ++ row ∷ []))
        ≡ cond one (first ∷ chosen_by (Some filters) rows) (chosen_by (Some filters) rows)
    by true same = ap (λ (l : List Row). first ∷ l) same
    by false same = same

-- what was kept of the rows and of one more
kept_more : (selection : SelectedEntries) (n : ℕ) (rows : List Row) (row : Row)
    → kept_with selection n (last_of n (kept_rows (chosen selection rows))) row ≡ last_of n (kept_rows (chosen selection (rows ++ row ∷ [])))
kept_more selection n rows row = by (selects_entry selection row) refl
  where
    by : (one : Bool) → selects_entry selection row ≡ one
        → (if one then last_of n (last_of n (kept_rows (chosen selection rows)) ++ kept_row row ∷ []) else last_of n (kept_rows (chosen selection rows)))
        ≡ last_of n (kept_rows (chosen selection (rows ++ row ∷ [])))
    by true is = last_of-more n (kept_rows (chosen selection rows)) (kept_row row)
        ∙ ap (last_of n) (sym (map-append kept_row (chosen selection rows) (row ∷ [])))
        ∙ ap (λ (l : List Row). last_of n (kept_rows l)) (sym (chosen_all selection.filters row is rows))
    by false is = ap (λ (l : List Row). last_of n (kept_rows l)) (sym (chosen_none selection.filters row is rows))

pub kept_few : (selection : SelectedEntries) (n : ℕ) (kept : List KeptEntry) (row : Row) → length kept ≤ n
    → length (kept_with selection n kept row) ≤ n
kept_few selection n kept row few = by (selects_entry selection row)
  where
    by : (one : Bool) → length (if one then last_of n (kept ++ kept_row row ∷ []) else kept) ≤ n
    by true = last_of-few n (kept ++ kept_row row ∷ [])
    by false = few

-- ---- a walk by a cursor

-- the entries returned so far are skipped, and the last of them are kept
pub record Keeping (x : Texts) (selection : SelectedEntries) (n : ℕ) (tries : Tries) (begun now : CursorState) (s s' : Seen) (text : Output) (kept : List KeptEntry) : Type 0 where
  pub count : ℕ
  pub listed : Listed x Form.Skipped tries None count false begun now (change s s' text text)
  pub kept_are : (h : IsHonest s) → kept ≡ last_of n (kept_rows (chosen selection (handed_out (listed.went h).tracing.steps)))

kept_none_of : (filters : Option Filters) (n : ℕ) → [] ≡ last_of n (kept_rows (chosen_by filters []))
kept_none_of None n = sym (drop-nil (0 - n))
kept_none_of (Some filters) n = sym (drop-nil (0 - n))

pub keeping_begun : (x : Texts) → (selection : SelectedEntries) (n : ℕ) (tries : Tries) (begun : CursorState) (s : Seen) (text : Output) (kept : List KeptEntry) → kept ≡ []
    → begun.shelf ≡ Sel → begun.tries ≡ tries.count → set.len begun.ids ≤ 65536
    → Keeping x selection n tries begun begun s s text kept
unfolding traced_none
keeping_begun x selection n tries begun s text kept none shelf tries_are room = record {
  count = 0;
  listed = record {
    shelf = shelf;
    tries_are = tries_are;
    size = 0;
    called = record {
      keeps = record { shelf = refl; tries = refl; part = λ some. some; part_falls = omega arith; room = room; place = λ at. at };
      calls = omega arith;
      ids = omega arith;
    };
    fewer = omega arith;
    within = tt;
    has_written = refl;
    went = λ h. record {
      ends = ends_here h refl tt;
      holds = λ plain held. held;
      along = λ same start walk end k on. record {
        along = record { stands = let here : k ≡ k + 0 = omega arith in rw here at on.stands; calls = omega arith; within = refl; count_is = refl };
        are_printed = none_printed (IsPieceOver x s.store) text text refl;
      };
      tracing = traced_none x Form.Skipped None begun s text h;
    };
  };
  kept_are = λ h. none ∙ kept_none_of selection.filters n;
}

module _ (x : Texts) {selection : SelectedEntries} {n : ℕ} {tries : Tries} {begun now : CursorState} {s s' : Seen} {text : Output} {kept : List KeptEntry}
    (k : Keeping x selection n tries begun now s s' text kept) {next : CursorState} {s'' : Seen} where
  -- the next entry was kept, if it is chosen
  pub keeping_more : {row : Row} → IsStep now next s' s'' (Ok (Some row)) → (kept' : List KeptEntry)
      → kept' ≡ kept_with selection n kept row → Keeping x selection n tries begun next s s'' text kept'
  keeping_more {row} step kept' is =
      let asked : s''.calls ≤ s''.calls + 0 = omega arith in
      let finds : IsHonest s'' → FindsIt (λ store. IsPieceOver x store (OfRow Form.Skipped row) (piece_of [] false)) [] tries s'' s'' = λ h.
      record { asks = asks_nothing [] tries s'' h; is = λ keeps. record { is_text = refl; counted = refl } } in
      record {
        count = k.count + 1;
        listed = listing_more x k.listed refl step asked [] false finds text (sym (then_nothing text));
        kept_are = λ h.
            let rows = handed_out (k.listed.went h).tracing.steps in
            is ∙ ap (λ (l : List KeptEntry). kept_with selection n l row) (k.kept_are h) ∙ kept_more selection n rows row
            ∙ ap (λ (all : List Row). last_of n (kept_rows (chosen selection all))) (sym (listing_more-handed x k.listed refl step asked [] false finds text (sym (then_nothing text)) h));
      }

  -- there was no memory for it
  pub keeps_lost : {row : Row} → IsStep now next s' s'' (Ok (Some row)) → (kept' : List KeptEntry)
      → KeepsByCursor x selection n tries begun next s s'' text kept' (Err Failure.OutOfMemory)
  keeps_lost step kept' = record {
    listed = Err Failure.OutOfMemory;
    is = refl;
    lists = listing_none x k.listed refl step (omega arith) ReadError.Memory (λ h. no_memory h);
    kept_are = λ h. tt;
  }

  -- there are no more entries
  pub keeps_done : IsStep now next s' s'' (Ok None) → KeepsByCursor x selection n tries begun next s s'' text kept (Ok tt)
  keeps_done step = record {
    listed = Ok k.count;
    is = refl;
    lists = listing_done x k.listed refl step;
    kept_are = λ h. k.kept_are h ∙ ap (λ (rows : List Row). last_of n (kept_rows (chosen selection rows))) (sym (listing_done-handed x k.listed refl step h));
  }

  pub keeps_ended : (ended : Ended) → IsStep now next s' s'' (Err ended)
      → KeepsByCursor x selection n tries begun next s s'' text kept (Err (Failure.Ended ended))
  keeps_ended ended step = record {
    listed = Err (Failure.Ended ended);
    is = refl;
    lists = listing_ended x k.listed refl ended step;
    kept_are = λ h. tt;
  }

-- ---- a walk from a start

pub tries_are : {limits : RequestLimits} {from : Option ℕ} {begun : CursorState} → IsFresh limits Sel from begun → begun.tries ≡ limits.tries.count
tries_are fresh = ap (λ (x : CursorState). x.tries) fresh.is

module _ (x : Texts) {limits : RequestLimits} {from : Option ℕ} {begun now : CursorState} {s s' : Seen} {text : Output}
    (fresh : IsFresh limits Sel from begun) where
  pub keeps_calls : {selection : SelectedEntries} {n : ℕ} {kept : List KeptEntry} {ending : Ending} → KeepsByCursor x selection n limits.tries begun now s s' text kept ending
      → s'.calls ≤ s.calls + most_on_walk Form.Skipped limits.tries
  keeps_calls k = omega (arith, k.lists.calls.all fresh.some, fresh.falls)

  -- all entries of the walk were returned
  all_handed : (h : IsHonest s) (count : ℕ) (trace : TracesListing x Form.Skipped None begun now (change s s' text text) (Ok count))
      → s'.stores_added ≡ s.stores_added → (walk : List Row) (end : WalkEnd) → IsWalk (rows_of Sel s.store) (start_of from) walk
      → EndsBy (rows_of Sel s.store) (start_of from) walk end → count ≡ length walk → handed_out trace.steps ≡ walk
  all_handed h count trace same walk end w ends whole =
      let shelf_is : begun.shelf ≡ Sel = ap (λ (x' : CursorState). x'.shelf) fresh.is in
      let stays = steps_stay begun s trace.steps h trace.traced.are in
      let since = between s (seen_after s trace.steps) s' stays trace.traced.stays same in
      let follows = steps_follow begun s trace.steps (start_of from) walk end h
      (subst (λ (x' : Shelf). IsWalk (rows_of x' s.store) (start_of from) walk) (sym shelf_is) w)
      (subst (λ (x' : Shelf). EndsBy (rows_of x' s.store) (start_of from) walk end) (sym shelf_is) ends)
      (fresh.stands (rows_of begun.shelf s.store) walk) trace.traced.are since.0 in
      follows.1 ∙ take_all follows.0 walk (omega (arith, whole, trace.ends.0.count_is ∙ counted_skipped (handed_out trace.steps), ap (length {A = Row}) follows.1, length-take follows.0 walk))

  keeps_along : (selection : SelectedEntries) (n : ℕ) (tries : Tries) (kept : List KeptEntry) → IsHonest s → (result : Result ℕ Failure) (lists : ListsHonestly x Form.Skipped tries None begun now (change s s' text text) result)
      → IfOk result (λ count. kept ≡ last_of n (kept_rows (chosen selection (handed_out lists.traces.steps))))
      → s'.stores_added ≡ s.stores_added → OnWalk Sel (start_of from) s.store (λ walk end.
      Keeps selection n (IsPieceOver x s.store) (start_of from) walk end text kept (ending_of result)
      × (s'.calls ≤ s.calls + walk_call_bound Form.Skipped s.store tries walk))
  keeps_along selection n tries kept h (Ok count) lists kept_are same = λ walk end w ends.
      let along = fresh_along x fresh lists same walk end w ends in
      let counted = counts x fresh (Ok count) walk end along.0 in
      ((counted.1, kept_are ∙ ap (λ (rows : List Row). last_of n (kept_rows (chosen selection rows))) (all_handed h count lists.traces same walk end w ends counted.0)), along.1)
  keeps_along selection n tries kept h (Err failure) lists kept_are same = λ walk end w ends.
      let along = fresh_along x fresh lists same walk end w ends in
      (λ entries most. keeping_failed (IsPieceOver x s.store) (none_over x s.store) None (start_of from) walk end refl text text failure entries most (cause_of (Err failure)) along.0.leaves, along.1)

  keeps_grown : (selection : SelectedEntries) (n : ℕ) (tries : Tries) (kept : List KeptEntry) → IsHonest s → (result : Result ℕ Failure) (lists : ListsHonestly x Form.Skipped tries None begun now (change s s' text text) result)
      → IfOk result (λ count. kept ≡ last_of n (kept_rows (chosen selection (handed_out lists.traces.steps))))
      → OnGrowing Sel (start_of from) s s' (λ log. Keeps selection n (IsTextWhile x s s') (start_of from) log Done text kept (ending_of result))
  keeps_grown selection n tries kept h (Ok count) lists kept_are = λ first log grew.
      let g = fresh_grown x fresh lists.traces h first log grew tt in
      let all : handed_out lists.traces.steps ≡ g.log = g.whole (elim lists.traces.ends.0.done [ inl limit ↦ cc limit | inr at_end ↦ at_end ]) in
      (g.log, g.was, (refl, kept_are ∙ ap (λ (rows : List Row). last_of n (kept_rows (chosen selection rows))) all))
  keeps_grown selection n tries kept h (Err failure) lists kept_are = λ first log grew.
      let g = fresh_grown x fresh lists.traces h first log grew tt in
      (g.log, g.was, λ entries most. keeping_failed (IsTextWhile x s s') (none_while x s s') None (start_of from) g.log Done refl text text failure entries most (cause_of (Err failure)) g.allowed)

  pub keeps_entries : (selection : SelectedEntries) (n : ℕ) (kept : List KeptEntry) (ending : Ending) → IsHonest s → KeepsByCursor x selection n limits.tries begun now s s' text kept ending
      → KeepsEntries x selection n (start_of from) limits.tries s s' text kept ending
  keeps_entries selection n kept ending h k =
      let lists = k.lists.honest h in
      let keeps : KeepsEntries x selection n (start_of from) limits.tries s s' text kept (ending_of k.listed) = record {
        ends = fresh_ends x fresh lists;
        along = keeps_along selection n limits.tries kept h k.listed lists (k.kept_are h);
        grows = keeps_grown selection n limits.tries kept h k.listed lists (k.kept_are h);
        traces = inr (record {
          begun = begun;
          now = now;
          walked = k.listed;
          is = refl;
          shelf = ap (λ (x' : CursorState). x'.shelf) fresh.is;
          place = ap (λ (x' : CursorState). x'.place) fresh.is;
          ids = ap (λ (x' : CursorState). x'.ids) fresh.is;
          walk = lists.traces;
          kept_are = k.kept_are h;
        });
      } in
      subst (λ (e : Ending). KeepsEntries x selection n (start_of from) limits.tries s s' text kept e) (sym k.is) keeps

pub keeps_without_memory : (x : Texts) → (selection : SelectedEntries) (n : ℕ) (tries : Tries) (start : Place) (s : Seen) (text : Output) (kept : List KeptEntry) → IsHonest s
    → KeepsEntries x selection n start tries s s text kept (Err Failure.OutOfMemory)
keeps_without_memory x selection n tries start s text kept h = record {
  ends = ends_here h refl tt;
  along = λ same walk end w ends. (λ entries most. no_items (IsPieceOver x s.store) (kept_plan entries most start walk end) text text refl, omega arith);
  grows = λ first log grew.
      (first, log_now s s (stays_refl s h).store h first log, λ entries most. no_items (IsTextWhile x s s) (kept_plan entries most start first Done) text text refl);
  traces = inl (refl, refl);
}

-- ---- printing

abbrev rows_plan : EntryText → List Row → Plan
rows_plan entries rows = record { items = kept_items entries rows; end = Ok tt; end_points = [] }

abbrev kept_item : EntryText → Row → Item
kept_item entries row = record { subject = OfRow (Form.Entry entries) row; points = [] }

-- no request is made for them
no_points : (entries : EntryText) (rows : List Row) (point : ReadPoint) → IsAmong (next_points (kept_items entries rows) []) point → ⊥
no_points entries [] point among = among
no_points entries (row ∷ rows) point among = among

module _ (x : Texts) (entries : EntryText) where
  pub kept_none : (text : Output) → PrintsKept x entries [] text text (Ok tt)
  kept_none text store [] is = (none_printed (IsPieceOver x store) text text refl, refl)
  kept_none text store (row ∷ rows) is = cc is

  -- there is no memory for the line
  pub line_lost : (kept : List KeptEntry) (text : Output) → PrintsKept x entries kept text text (Err Failure.OutOfMemory)
  line_lost kept text store rows is = no_items (IsPieceOver x store) (rows_plan entries rows) text text refl

  -- one line, or a part of it
  pub line_printed : (entry : KeptEntry) (line : List ℕ) (old new : Output) (ending : Ending)
      → IsKeptText x entries entry line → WritesPiece (piece_of line false) old new ending
      → PrintsKept x entries (entry ∷ []) old new ending
  line_printed entry line old new ending is_line writes store [] is = cc is
  line_printed entry line old new ending is_line writes store (row ∷ (other ∷ rows)) is = cc is
  line_printed entry line old new ending is_line writes store (row ∷ []) is =
      let same : kept_row row ≡ entry = cc is in
      let text : IsPieceOver x store (OfRow (Form.Entry entries) row) (piece_of line false) =
      record { is_text = subst (λ (e : KeptEntry). IsKeptText x entries e line) (sym same) is_line; counted = refl } in
      by ending writes text
    where
      by : (e : Ending) → WritesPiece (piece_of line false) old new e
          → IsPieceOver x store (OfRow (Form.Entry entries) row) (piece_of line false) → IsAllowed (IsPieceOver x store) (rows_plan entries (row ∷ [])) old new e
      by (Ok done) w text = (one_printed (IsPieceOver x store) (kept_item entries row) (piece_of line false) old new text w, refl)
      by (Err Failure.WriteFault) w text =
          let p = rows_plan entries (row ∷ []) in
          cut_after (IsPieceOver x store) p old old new (Err Failure.WriteFault) (no_items (IsPieceOver x store) p old old refl) _ [] (piece_of line false) refl text w.0 w.1
      by (Err _) w text = absurd w

  -- one line, then the others
  pub lines_more : (entry : KeptEntry) (rest : List KeptEntry) (old text new : Output) (ending : Ending)
      → PrintsKept x entries (entry ∷ []) old text (Ok tt) → PrintsKept x entries rest text new ending
      → PrintsKept x entries (entry ∷ rest) old new ending
  lines_more entry rest old text new ending first later store [] is = cc is
  lines_more entry rest old text new ending first later store (row ∷ rows) is =
      leaves_joined (IsPieceOver x store) (kept_item entries row ∷ []) (rows_plan entries rows) old text new ending (cause_of ending)
      (first store (row ∷ []) (cc is)).0 (later store rows (cc is))

  -- the others were not begun
  pub lines_stopped : (entry : KeptEntry) (rest : List KeptEntry) (old new : Output) (failure : Failure)
      → PrintsKept x entries (entry ∷ []) old new (Err failure) → PrintsKept x entries (entry ∷ rest) old new (Err failure)
  lines_stopped entry rest old new failure first store [] is = cc is
  lines_stopped entry rest old new failure first store (row ∷ rows) is =
      leaves_longer (IsPieceOver x store) (rows_plan entries (row ∷ [])) (rows_plan entries (row ∷ rows)) (kept_items entries rows) refl there
      old new (Err failure) (cause_of (Err failure)) (λ is all. cc all.1) (first store (row ∷ []) (cc is))
    where
      there : (point : ReadPoint) (items : List Item) → IsAmong (next_points items []) point
          → IsAmong (next_points (items ++ kept_items entries rows) []) point
      there point [] among = absurd among
      there point (item ∷ items) among = among

  -- what is printed of the entries that are left leads to what is printed of all
  abbrev pub LeadsKept : List KeptEntry → List KeptEntry → Output → Output → Type 0
  LeadsKept all left old text = (new : Output) (ending : Ending) → PrintsKept x entries left text new ending → PrintsKept x entries all old new ending

  module _ {all left : List KeptEntry} {old text : Output} (leads : LeadsKept all left old text) where
    -- one entry fewer is left
    pub leads_on : (entry : KeptEntry) (rest : List KeptEntry) (new : Output) → left ≡ entry ∷ rest
        → PrintsKept x entries (entry ∷ []) text new (Ok tt) → LeadsKept all rest old new
    leads_on entry rest new is first = λ last ending later. leads last ending (rw is (lines_more entry rest text new last ending first later))

    pub leads_no_further : (entry : KeptEntry) (rest : List KeptEntry) (new : Output) (failure : Failure) → left ≡ entry ∷ rest
        → PrintsKept x entries (entry ∷ []) text new (Err failure) → PrintsKept x entries all old new (Err failure)
    leads_no_further entry rest new failure is first = leads new (Err failure) (rw is (lines_stopped entry rest text new failure first))

    pub leads_to_end : left ≡ [] → PrintsKept x entries all old text (Ok tt)
    leads_to_end is = leads text (Ok tt) (rw is (kept_none text))

-- ---- the whole run

printing_ends : (entries : EntryText) (seen : Seen) (ending : Ending) → EndsPrinting ending → EndsListing (Form.Entry entries) seen ending
printing_ends entries seen (Ok done) ends = tt
printing_ends entries seen (Err Failure.OutOfMemory) ends = tt
printing_ends entries seen (Err Failure.WriteFault) ends = tt
printing_ends entries seen (Err _) ends = absurd ends

printing_for : (tries : Tries) (IsPlain : Type 0) (s s' : Seen) (ending : Ending) → EndsFor tries IsPlain s s' AtEnd → EndsPrinting ending
    → EndsFor tries IsPlain s s' (cause_of ending)
printing_for tries IsPlain s s' (Ok done) for ends = for
printing_for tries IsPlain s s' (Err Failure.OutOfMemory) for ends = ends_as for for.counts tt
printing_for tries IsPlain s s' (Err Failure.WriteFault) for ends = ends_as for for.counts tt
printing_for tries IsPlain s s' (Err _) for ends = absurd ends

module _ (x : Texts) (entries : EntryText) (n : ℕ) (from : Option ℕ) (tries : Tries) (s s' : Seen) (kept : List KeptEntry)
    (calls : s'.calls ≤ s.calls + most_on_walk Form.Skipped tries) where
  -- the walk failed, and nothing was printed
  not_printed : (rows : List Row) (c : Change) (failure : Failure) (walked : Result ℕ Failure) → Err failure ≡ ending_of walked → c.new ≡ c.old
      → PrintsAfter x entries rows walked c (Err failure)
  not_printed rows c failure (Ok count) is same = cc is
  not_printed rows c failure (Err other) is same = (is, same)

  -- the walk failed, or there was no memory for an entry
  pub kept_failed : (text : Output) (failure : Failure) → EndsListing Form.Skipped s' (Err failure)
      → (IsHonest s → KeepsEntries x entries.selection n (start_of from) tries s s' text kept (Err failure))
      → Runs x (Job.LastKept entries n from) tries (change s s' text text) (Err failure)
  kept_failed text failure may keeps = record {
    calls = calls;
    ends = passed_ends entries s' (Err failure) may;
    why = λ h. (keeps h).ends;
    prints = λ h same walk end w ends. let along = (keeps h).along same walk end w ends in (along.0 entries n, along.1);
    grows = λ h first log grew. let g = (keeps h).grows first log grew in (g.0, g.1, g.2 entries n);
    traces = λ h. elim (keeps h).traces [
      | inl none ↦ inl (none.0, none.1, refl)
      | inr from_ ↦ inr (record {
        begun = from_.begun;
        now = from_.now;
        walked = from_.walked;
        shelf = from_.shelf;
        place = from_.place;
        ids = from_.ids;
        walk = from_.walk;
        prints = not_printed _ (change s s' text text) failure from_.walked from_.is refl;
      })
    ];
  }

  module _ (old new : Output) (ending : Ending) (prints : PrintsKept x entries kept old new ending) where
    -- the last entries of a walk were kept
    last_kept : (walk : List Row) → kept ≡ last_of n (kept_rows walk) → kept_rows (drop (length walk - n) walk) ≡ kept
    last_kept walk is =
        let k = length walk - n in
        sym (drop-map kept_row k walk) ∙ ap (λ (m : ℕ). drop (m - n) (kept_rows walk)) (sym (length-map walk kept_row)) ∙ sym is

    printed_after : EndsPrinting ending → {begun now : CursorState} (walked : Result ℕ Failure)
        (walk : TracesListing x Form.Skipped None begun now (change s s' old old) walked) → Ok tt ≡ ending_of walked
        → IfOk walked (λ count. kept ≡ last_of n (kept_rows (chosen entries.selection (handed_out walk.steps))))
        → PrintsAfter x entries (last_rows n (chosen entries.selection (handed_out walk.steps)) Done) walked (change s s' old new) ending
    printed_after may (Ok count) walk is are = (may, prints s'.store _ (last_kept (chosen entries.selection (handed_out walk.steps)) are))
    printed_after may (Err failure) walk is are = cc is

    -- and printed
    last_printed : (store : Store) (start : Place) (walk : List Row) → kept ≡ last_of n (kept_rows (chosen entries.selection walk))
        → IsAllowed (IsPieceOver x store) (kept_plan entries n start walk Done) old new ending
    last_printed store start walk is =
        let rows = last_rows n (chosen entries.selection walk) Done in
        leaves_wide (IsPieceOver x store) (points_of_walk start walk Done) (rows_plan entries rows) [] (rows_end (Form.Entry entries) walk Done) refl
        (λ point among. absurd (no_points entries rows point among)) old new ending ending (cause_of ending) (λ is. is)
        (prints store rows (last_kept (chosen entries.selection walk) is))

    pub kept_run : EndsPrinting ending → (IsHonest s → KeepsEntries x entries.selection n (start_of from) tries s s' old kept (Ok tt))
        → Runs x (Job.LastKept entries n from) tries (change s s' old new) ending
    kept_run may keeps = record {
      calls = calls;
      ends = printing_ends entries s' ending may;
      why = λ h. printing_for tries (IsTrue s.plain) s s' ending (keeps h).ends may;
      prints = λ h same walk end w ends.
          let along = (keeps h).along same walk end w ends in
          (rw along.0.0 (last_printed s.store (start_of from) walk along.0.1), along.1);
      grows = λ h first log grew.
          let g = (keeps h).grows first log grew in (
            g.0,
            g.1,
            leaves_map (IsPieceOver x s'.store) (IsTextWhile x s s') (while_last x s s') (kept_plan entries n (start_of from) g.0 Done) old new ending (cause_of ending)
                (last_printed s'.store (start_of from) g.0 g.2.1),
          );
      traces = λ h. elim (keeps h).traces [
        | inl none ↦ cc none.0
        | inr from_ ↦ inr (record {
          begun = from_.begun;
          now = from_.now;
          walked = from_.walked;
          shelf = from_.shelf;
          place = from_.place;
          ids = from_.ids;
          walk = from_.walk;
          prints = printed_after may from_.walked from_.walk from_.is from_.kept_are;
        })
      ];
    }
