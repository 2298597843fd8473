-- The last entries of a shelf: one walk counts the entries, a second one skips those before the last.
use Rattle.std.proofs.Common.{◌≡◌, false, ℕ, ◌+◌, ◌-◌, ◌<◌, ◌≤◌, Option, None, Some, IfOk, Result, Ok, Err, List, [], ◌∷◌, ◌++◌, inl, inr, length, subst, take, drop, refl, sym, ap, ◌∙◌, append_assoc, append-nil, arith, length-append, length-drop, length-take, length-take-le, take-append-drop}
use Rattle.std.proofs.lemmas.List.{nil_from_length}
use Rattle.std.proofs.Math.Seq.{drop-nil}
use Rattle.ipmi_commands.specs.Below.{handed_out, IsLog, OnlyGrew, Shelf, stays_refl, WasLog, Place, Sel, Row, Store, rows_of, WalkEnd, Done, place_after, place_after_rows, Seen, IsHonest, StaysHonest, CursorState, StandsAt, start_of, Ending, Failure}
use Rattle.ipmi_commands.specs.Traced.{EndsTrace}
use Rattle.ipmi_commands.specs.declared.limits.RequestLimits.{RequestLimits}
use Rattle.ipmi_commands.specs.Prelude.{AreTexts, calls_for, Cause, cause_of, Change, change, Counted, CountsEntries, points_at_walk_end, end_points_of_last, ending_of, EndsListing, EntryText, first_end, first_rows, Form, IsAllowed, IsAmong, IsFresh, IsPieceOver, IsTextWhile, OfRow, OnGrowingLast, TracesListing, Item, Job, kept_items, kept_plan, last_items, last_plan, last_rows, Leaves, listing, listing_plan, ListsAfter, ListsHonestly, ListsAlong, Plan, Printed, Prints, PrintsAll, row_items, rows_end, second_walk_bound, ReadPoint, points_of_rows, next_points, points_of_walk, Subject, walk_call_bound, with_first_points}
use Rattle.ipmi_commands.specs.Output.{and_then, no_output, Output}
use Rattle.ipmi_selection.specs.Selection.{chosen}
use Rattle.ipmi_commands.specs.declared.limits.Tries.{Tries}
use Rattle.ipmi_commands.proofs.CallLemmas.{calls_split}
use Rattle.ipmi_commands.proofs.CountLemmas.{between, ends_here, ends_since}
use Rattle.ipmi_bus.proofs.HeldLemmas.{begins_length, grew_first, grew_second}
use Rattle.ipmi_commands.proofs.GrownListing.{first_end-done, fresh_grown, grown_listing, ListsGrown}
use Rattle.ipmi_commands.proofs.LimitLemmas.{counted_skipped, skipped_rows}
use Rattle.ipmi_commands.proofs.MeanwhileLemmas.{log_again, log_first, log_later, log_now, log_second, while_second}
use Rattle.ipmi_commands.proofs.ItemLemmas.{IsCarried, leaves_carried, leaves_map, no_items, none_printed, row_item, texts_joined}
use Rattle.ipmi_commands.proofs.ListingLemmas.{fresh_along, fresh_ends, holds_none}
use Rattle.ipmi_commands.proofs.PointLemmas.{among_after, quiet_there, points_at_walk_end-joined, points_of_rows-split}
use Rattle.ipmi_commands.proofs.OutputLemmas.{nothing_in, then_nothing}
use Rattle.ipmi_commands.specs.Format.{Texts}

-- a new cursor is at the place where it starts
pub starts_at : {limits : RequestLimits} {shelf : Shelf} {from : Option ℕ} {cursor : CursorState}
    → IsFresh limits shelf from cursor → cursor.place ≡ start_of from
starts_at fresh = ap (λ (c : CursorState). c.place) fresh.is

-- ---- the points of the first item

-- the points of the first item along rows, or after them, are points of the rows
first_there : (entries : EntryText) (start : Place) (rows : List Row) (ends : List ReadPoint)
    (point : ReadPoint) → IsAmong (next_points (row_items (Form.Entry entries) start rows) ends) point
    → IsAmong (points_of_rows start rows ++ ends) point
first_there entries start [] ends point among = among
first_there entries start (row ∷ rows) ends point among = grind arith

-- ---- plans whose first item has other points

-- these are the points of the first item, or of the end
pub next_points-first : (points : List ReadPoint) (items : List Item) (at_end : List ReadPoint)
    → next_points (with_first_points points items) (end_points_of_last points items at_end) ≡ points
next_points-first points [] at_end = refl
next_points-first points (item ∷ items) at_end = refl

module _ (IsText : Subject → Output → Type 0) (points : List ReadPoint) (p : Plan) (at_end : List ReadPoint)
    (end : Ending) (ends_are : p.end_points ≡ at_end)
    (wide : (point : ReadPoint) → IsAmong (next_points p.items p.end_points) point → IsAmong points point) where
  abbrev q : Plan
  q = record { items = with_first_points points p.items; end = end; end_points = end_points_of_last points p.items at_end }

  widened : (old new : Output) (done rest : List Item) → p.items ≡ done ++ rest
      → Printed IsText done old new → IsCarried IsText p q old new rest
  widened old new [] rest is printed = record {
    first = record { done = []; rest = with_first_points points p.items; items_are = refl; printed = printed };
    points = λ point among. grind (arith, wide point (rw is among));
    next = λ item later text next is_text some. (record { subject = item.subject; points = points }, later, ap (with_first_points points) (is ∙ next), is_text);
  }
  widened old new (d ∷ done) rest is printed = record {
    first = record {
      done = with_first_points points (d ∷ done);
      rest = rest;
      items_are = ap (with_first_points points) is;
      printed = record { text = printed.text; are = printed.are; new_is = printed.new_is };
    };
    points = λ point among. rw is (rw ends_are at among);
    next = λ item later text next is_text some. (item, later, next, is_text);
  }

  pub leaves_wide : (old new : Output) (ending ending' : Ending) (cause : Cause)
      → (ending ≡ p.end → ending' ≡ end)
      → Leaves IsText p old new ending cause → Leaves IsText q old new ending' cause
  leaves_wide old new ending ending' cause ends leaves = leaves_carried IsText p q old old new ending ending' cause
      (λ whole first. widened old whole first.done first.rest first.items_are first.printed)
      (λ is all. (grind (arith, all.0), ends all.1)) leaves

-- the plan allows the output of the listing of the last entries
pub last_leaves : (IsText : Subject → Output → Type 0) (entries : EntryText) (n k : ℕ) (start : Place)
    (walk : List Row) (old new : Output) (ending : Ending) → k ≡ length walk - n
    → IsAllowed IsText (listing_plan (listing (Form.Entry entries) (place_after_rows start (take k walk)) None) (drop k walk) Done) old new ending
    → IsAllowed IsText (last_plan entries n start walk Done) old new ending
last_leaves IsText entries n k start walk old new ending is allowed =
    let place = place_after_rows start (take k walk) in
    let ends = points_at_walk_end start walk Done in
    let joined : points_at_walk_end place (drop k walk) Done ≡ ends = points_at_walk_end-joined start (take k walk) (drop k walk) Done ∙ ap (λ (l : List Row). points_at_walk_end start l Done) (take-append-drop k walk) in
    rw (← is) (leaves_wide IsText (points_of_walk start walk Done) (listing_plan (listing (Form.Entry entries) place None) (drop k walk) Done) ends (rows_end (Form.Entry entries) walk Done) joined
    (λ point among. rw (points_of_rows-split k start walk ends) (among_after (points_of_rows start (take k walk)) (points_of_rows place (drop k walk) ++ ends) point (first_there entries place (drop k walk) ends point (rw joined at among))))
    old new ending ending (cause_of ending) (λ is. is) allowed)

-- ---- skipped entries

calls_for-named : (entries : EntryText) (store : Store) (tries : Tries) (rows : List Row)
    → calls_for (Form.Entry entries) store tries rows ≡ calls_for Form.Skipped store tries rows
calls_for-named entries store tries [] = refl
calls_for-named entries store tries (row ∷ rows) = rw (calls_for-named entries store tries rows) refl

-- a skipped entry has no text
abbrev AreNoTexts : (Subject → Output → Type 0) → Type 0
AreNoTexts IsText = (row : Row) (text : Output) → IsText (OfRow Form.Skipped row) text → text ≡ no_output

pub none_over : (x : Texts) → (store : Store) → AreNoTexts (IsPieceOver x store)
none_over x store row text is = is.counted ∙ nothing_in text.bytes false is.is_text

pub none_while : (x : Texts) → (s s' : Seen) → AreNoTexts (IsTextWhile x s s')
none_while x s s' row text is = none_over x is.store row text is.is

-- nothing is printed for skipped entries
no_text : (IsText : Subject → Output → Type 0) → AreNoTexts IsText → (rows : List Row) (start : Place) (done rest : List Item) (text : Output)
    → row_items Form.Skipped start rows ≡ done ++ rest → AreTexts IsText done text
    → text ≡ no_output
no_text IsText none rows start [] rest text is are = are
no_text IsText none [] start (d ∷ done) rest text is are = cc is
no_text IsText none (row ∷ rows) start (d ∷ done) rest text is are =
    let head : row_item Form.Skipped start row ≡ d = cc is in
    let first = none row are.first (subst (λ (x : Item). IsText x.subject are.first) (sym head) are.is_first) in
    grind (arith, are.joined, first, no_text IsText none rows (place_after row.next) done rest are.rest (cc is) are.is_rest)

-- the first entries were skipped
nothing : (IsText : Subject → Output → Type 0) → AreNoTexts IsText → (most : Option ℕ) (start : Place) (walk : List Row)
    (done rest : List Item) (old new : Output)
    → row_items Form.Skipped start (first_rows Form.Skipped most walk) ≡ done ++ rest
    → Printed IsText done old new → new ≡ old
nothing IsText none most start walk done rest old new is printed = printed.new_is ∙ rw (no_text IsText none (first_rows Form.Skipped most walk) start done rest printed.text is printed.are) (then_nothing old)

-- a run that ends while entries are skipped, for a plan that may stop at the points of the walk before its first item
module _ (IsText : Subject → Output → Type 0) (none : AreNoTexts IsText) (most : Option ℕ) (start : Place)
    (walk : List Row) (end : WalkEnd) (end_is : first_end Form.Skipped most walk end ≡ end) (old new : Output) (failure : Failure) where
  abbrev passing : Plan
  passing = listing_plan (listing Form.Skipped start most) walk end

  skipping_failed : (q : Plan) → next_points q.items q.end_points ≡ points_of_walk start walk end
      → (new ≡ old → Err failure ≡ rows_end Form.Skipped (first_rows Form.Skipped most walk) end → PrintsAll IsText q old new (Err failure))
      → (cause : Cause) → Leaves IsText passing old new (Err failure) cause → Leaves IsText q old new (Err failure) cause
  skipping_failed q points_are ends cause leaves = leaves_carried IsText passing q old old new (Err failure) (Err failure) cause
      (λ whole first. record {
        first = no_items IsText q old whole (nothing IsText none most start walk first.done first.rest old whole first.items_are first.printed);
        points = λ point among. rw points_are (quiet_there Form.Skipped (λ row. refl) most start walk first.done first.rest (points_at_walk_end start walk end) point first.items_are (rw end_is at among));
        next = λ item later text next is_text some.
            let is : row_items Form.Skipped start (first_rows Form.Skipped most walk) ≡ (first.done ++ item ∷ []) ++ later = first.items_are ∙ rw next (sym (append_assoc first.done (item ∷ []) later)) in
            let one : AreTexts IsText (item ∷ []) text = record { first = text; rest = no_output; is_first = is_text; is_rest = refl; joined = sym (then_nothing text) } in
            let empty = no_text IsText none (first_rows Form.Skipped most walk) start (first.done ++ item ∷ []) later (and_then first.printed.text text) is (texts_joined IsText first.done (item ∷ []) first.printed.text text first.printed.are one) in
            absurd (omega (arith, some, ap (λ (o : Output). length o.bytes) empty, length-append first.printed.text.bytes text.bytes));
      })
      (λ is all. ends (nothing IsText none most start walk _ [] old new (sym (append-nil _)) all.0) (rw end_is at all.1)) leaves

  passing_failed : (entries : EntryText) (n : ℕ) (cause : Cause) → Leaves IsText passing old new (Err failure) cause
      → Leaves IsText (last_plan entries n start walk end) old new (Err failure) cause
  passing_failed entries n = skipping_failed (last_plan entries n start walk end)
      (next_points-first (points_of_walk start walk end) (last_items entries n start walk end) (points_at_walk_end start walk end))
      (λ same fails. grind (arith, none_printed, same, fails))

  pub keeping_failed : (entries : EntryText) (n : ℕ) (cause : Cause) → Leaves IsText passing old new (Err failure) cause
      → Leaves IsText (kept_plan entries n start walk end) old new (Err failure) cause
  keeping_failed entries n = skipping_failed (kept_plan entries n start walk end)
      (next_points-first (points_of_walk start walk end) (kept_items entries (last_rows n (chosen entries.selection walk) end)) [])
      (λ same fails. grind (arith, none_printed, same, fails))

-- ---- counting entries

-- all entries of the log as it was at one moment
pub counts_grown : (x : Texts) → (from : Option ℕ) {begun now : CursorState} {c : Change} (result : Result ℕ Failure) (trace : TracesListing x Form.Skipped None begun now c result) (first : List Row)
    (g : ListsGrown x Sel (start_of from) first c.seen [] (handed_out trace.steps) Form.Skipped None now c result)
    → EndsTrace x Form.Skipped None now trace.steps c result
    → Counted (IsTextWhile x c.seen c.seen') (start_of from) g.log Done c.old c.new result
counts_grown x from {begun} {now} {c} (Ok count) trace first g ends = (
  ends.0.count_is ∙ counted_skipped (handed_out trace.steps) ∙ ap (length {A = Row}) (g.whole (elim ends.0.done [ inl limit ↦ cc limit | inr at_end ↦ at_end ])),
  refl,
  nothing (IsTextWhile x c.seen c.seen') (none_while x c.seen c.seen') None (start_of from) g.log _ [] c.old c.new (sym (append-nil _)) g.allowed.0,
)
counts_grown x from {begun} {now} {c} (Err failure) trace first g ends = λ entries n.
    passing_failed (IsTextWhile x c.seen c.seen') (none_while x c.seen c.seen') None (start_of from) g.log Done refl c.old c.new failure entries n (cause_of (Err failure)) g.allowed

module _ (x : Texts) {limits : RequestLimits} {from : Option ℕ} {tries : Tries} {begun now : CursorState}
    {c : Change}
    (fresh : IsFresh limits Sel from begun) where
  pub counts : (result : Result ℕ Failure) (walk : List Row) (end : WalkEnd)
      → ListsAlong x Form.Skipped tries None begun now c result (start_of from) walk end 0
      → Counted (IsPieceOver x c.seen.store) (start_of from) walk end c.old c.new result
  counts (Ok count) walk end along = (along.all.count_is ∙ counted_skipped walk, grind (arith, along.leaves.1), nothing (IsPieceOver x c.seen.store) (none_over x c.seen.store) None (start_of from) walk _ [] c.old c.new (sym (append-nil _)) along.leaves.0)
  counts (Err failure) walk end along = λ entries n. passing_failed (IsPieceOver x c.seen.store) (none_over x c.seen.store) None (start_of from) walk end refl c.old c.new failure entries n (cause_of (Err failure)) along.leaves

  pub counted : (result : Result ℕ Failure) → IsHonest c.seen
      → ListsHonestly x Form.Skipped tries None begun now c result
      → CountsEntries x (start_of from) tries c result
  counted result honest lists = record {
    ends = fresh_ends x fresh lists;
    along = λ same walk end w ends.
        let along = fresh_along x fresh lists same walk end w ends in
        (counts result walk end along.0, along.1);
    grows = λ first log grew.
        let g = fresh_grown x fresh lists.traces honest first log grew tt in
        (g.log, g.was, counts_grown x from result lists.traces first g lists.traces.ends);
  }

pub counted_without_memory : (x : Texts) → (tries : Tries) (start : Place) (s : Seen) (text : Output) → IsHonest s
    → CountsEntries x start tries (change s s text text) (Err Failure.OutOfMemory)
counted_without_memory x tries start s text honest = record {
  ends = ends_here honest refl tt;
  along = λ same walk end w ends. (λ entries n. no_items (IsPieceOver x s.store) (last_plan entries n start walk end) text text refl, omega arith);
  grows = λ first log grew.
      (first, log_now s s (stays_refl s honest).store honest first log, λ entries n. no_items (IsTextWhile x s s) (last_plan entries n start first Done) text text refl);
}

-- ---- skipping entries, and listing those after them

pub after_without_memory : (x : Texts) → (entries : EntryText) (tries : Tries) (start : Place) (passed : ℕ)
    (s : Seen) (text : Output) → IsHonest s
    → ListsAfter x entries start passed tries (change s s text text) (Err Failure.OutOfMemory)
after_without_memory x entries tries start passed s text honest = record {
  ends = ends_here honest refl tt;
  along = λ same walk end w ends n done is. (no_items (IsPieceOver x s.store) (last_plan entries n start walk end) text text refl, omega arith);
  grows = λ first few log grew. (
    first,
    log_now s s (stays_refl s honest).store honest first log,
    no_items (IsTextWhile x s s) (last_plan entries (length first - passed) start first Done) text text refl,
  );
}

module _ (x : Texts) (entries : EntryText) {limits : RequestLimits} {from : Option ℕ}
    {tries : Tries} {passed : ℕ} {begun mid : CursorState} {s s' : Seen} {old text : Output} (fresh : IsFresh limits Sel from begun) where
  -- skipping failed
  pub after_failed : (failure : Failure) → IsHonest s
      → ListsHonestly x Form.Skipped tries (Some passed) begun mid (change s s' old text) (Err failure)
      → ListsAfter x entries (start_of from) passed tries (change s s' old text) (Err failure)
  after_failed failure honest lists = record {
    ends = fresh_ends x fresh lists;
    along = λ same walk end w ends n done is.
        let along = fresh_along x fresh lists same walk end w ends in (
          passing_failed (IsPieceOver x s.store) (none_over x s.store) (Some passed) (start_of from) walk end (grind (arith, done)) old text failure entries n (cause_of (Err failure)) along.0.leaves,
          omega (arith, rw (skipped_rows passed walk) at along.1, calls_split Form.Skipped s.store tries passed walk),
        );
    grows = λ first few log grew.
        let g = fresh_grown x fresh lists.traces honest first log grew tt in (
          g.log,
          g.was,
          passing_failed (IsTextWhile x s s') (none_while x s s') (Some passed) (start_of from) g.log Done (first_end-done Form.Skipped (Some passed) g.log)
              old text failure entries (length g.log - passed) (cause_of (Err failure)) g.allowed,
        );
  }

  -- there are fewer entries than were counted
  pub after_fewer : (count : ℕ) → (count ≡ passed → ⊥) → IsHonest s
      → ListsHonestly x Form.Skipped tries (Some passed) begun mid (change s s' old text) (Ok count)
      → ListsAfter x entries (start_of from) passed tries (change s s' old text) (Ok tt)
  after_fewer count fewer honest lists = record {
    ends = fresh_ends x fresh lists;
    along = λ same walk end w ends n done is.
        let first = first_rows Form.Skipped (Some passed) walk in
        absurd (fewer ((fresh_along x fresh lists same walk end w ends).0.all.count_is ∙ counted_skipped first
        ∙ ap (length {A = Row}) (skipped_rows passed walk) ∙ length-take-le passed walk (omega (arith, is))));
    grows = λ first few log grew.
        let g = fresh_grown x fresh lists.traces honest first log grew tt in
        let listed = lists.traces.ends.0 in
        elim listed.done [
          | inl limit ↦ absurd (fewer (sym (cc limit)))
          | inr at_end ↦
              let rows = handed_out lists.traces.steps in
              let all = ap (length {A = Row}) (g.whole at_end) in
              let within = ap (length {A = Row}) (sym (skipped_rows passed rows) ∙ listed.within) in
              absurd (fewer (omega (arith, listed.count_is ∙ counted_skipped rows, within, length-take passed rows, few, all, begins_length first g.log g.was.grown)))
        ];
  }

  -- of a log that only grew, all after the first ones
  after_grown : (now : CursorState) (s'' : Seen) (new : Output) (result : Result ℕ Failure) → IsHonest s
      → ListsHonestly x Form.Skipped tries (Some passed) begun mid (change s s' old text) (Ok passed)
      → ListsHonestly x (Form.Entry entries) tries None mid now (change s' s'' text new) result
      → (first : List Row) → IsLog Sel (start_of from) s.store first → OnlyGrew Sel (start_of from) s s''
      → (log : List Row) × WasLog Sel (start_of from) s s'' first log
      × IsAllowed (IsTextWhile x s s'') (last_plan entries (length log - passed) (start_of from) log Done) old new (ending_of result)
  after_grown now s'' new result honest passes lists first log grew =
      let a = passes.ends.stays.store in
      let b = lists.ends.stays.store in
      let pre = passes.traces in
      let skipped = fresh_grown x fresh pre honest first log (grew_first Sel (start_of from) s s' s'' a b grew) tt in
      let nothing_yet : text ≡ old = nothing (IsTextWhile x s s') (none_while x s s') (Some passed) (start_of from) skipped.log _ [] old text (sym (append-nil _)) skipped.allowed.0 in
      let count : length (handed_out pre.steps) ≡ passed = sym (pre.ends.0.count_is ∙ counted_skipped (handed_out pre.steps)) in
      let shelf_is : begun.shelf ≡ Sel = ap (λ (x' : CursorState). x'.shelf) fresh.is in
      let trace = subst (λ (x' : CursorState). TracesListing x (Form.Entry entries) None x' now (change s' s'' text new) result) (sym pre.traced.cursor) lists.traces in
      let g = grown_listing x begun s (start_of from) first honest (subst (λ (x' : Shelf). IsLog x' (start_of from) s.store first) (sym shelf_is) log)
      (fresh.stands (rows_of begun.shelf s.store) first) pre.steps pre.traced.are (Form.Entry entries) None now (change s' s'' text new) pre.traced.stays result trace
      (subst (λ (x' : Shelf). OnlyGrew x' (start_of from) s s'') (sym shelf_is) grew) tt in
      let k : passed ≡ length g.log - (length g.log - passed) = omega (arith, g.enough, count) in
      let place : place_after_rows (start_of from) (handed_out pre.steps) ≡ place_after_rows (start_of from) (take passed g.log) = ap (place_after_rows (start_of from)) (g.before ∙ ap (λ (n : ℕ). take n g.log) count) in
      let plan : Place → ℕ → Plan = λ p n. listing_plan (listing (Form.Entry entries) p None) (drop n g.log) Done in
      let allowed = subst (λ (p : Place). IsAllowed (IsTextWhile x s' s'') (plan p (length (handed_out pre.steps))) text new (ending_of result)) place g.allowed in
      let all = subst (λ (n : ℕ). IsAllowed (IsTextWhile x s' s'') (plan (place_after_rows (start_of from) (take passed g.log)) n) text new (ending_of result)) count allowed in
      let wide = leaves_map (IsTextWhile x s' s'') (IsTextWhile x s s'') (while_second x s s' s'' a b) (plan (place_after_rows (start_of from) (take passed g.log)) passed) text new (ending_of result) (cause_of (ending_of result)) all in (
        g.log,
        subst (λ (x' : Shelf). WasLog x' (start_of from) s s'' first g.log) shelf_is g.was,
        last_leaves (IsTextWhile x s s'') entries (length g.log - passed) passed (start_of from) g.log old new (ending_of result) k
            (subst (λ (l : Output). IsAllowed (IsTextWhile x s s'') (plan (place_after_rows (start_of from) (take passed g.log)) passed) l new (ending_of result)) nothing_yet wide),
      )

  -- the entries after them were listed
  pub after_passed : (now : CursorState) (s'' : Seen) (new : Output) (result : Result ℕ Failure)
      → 0 < mid.part → IsHonest s → ListsHonestly x Form.Skipped tries (Some passed) begun mid
      (change s s' old text) (Ok passed)
      → ListsHonestly x (Form.Entry entries) tries None mid now (change s' s'' text new) result
      → ListsAfter x entries (start_of from) passed tries (change s s'' old new) (ending_of result)
  after_passed now s'' new result some honest passes lists = record {
    ends = ends_since (fresh_ends x fresh passes) (λ p. (passes.ends.stays.plain p, passes.holds p (holds_none fresh s))) lists.ends;
    along = λ same walk end w ends n done is.
        let since = between s s' s'' passes.ends.stays lists.ends.stays same in
        let first = (fresh_along x fresh passes since.0 walk end w ends).0 in
        let stays = passes.ends.stays.store.stays since.0 in
        let rows = first_rows Form.Skipped (Some passed) walk in
        let here : 0 + length rows ≡ passed = omega (arith, first.all.count_is ∙ counted_skipped rows) in
        let stands : StandsAt (rows_of Sel s.store) (start_of from) walk passed mid = rw here at first.all.stands in
        let later = (rw stays at (lists.along since.1 (start_of from) walk end passed)) (record { walks = w; ends = ends; stands = stands }) in
        let none = nothing (IsPieceOver x s.store) (none_over x s.store) (Some passed) (start_of from) walk _ [] old text (sym (append-nil _)) first.leaves.0 in (
          rw done (last_leaves (IsPieceOver x s.store) entries n passed (start_of from) walk old new (ending_of result) is (rw (done, none) at later.leaves)),
          omega (arith, rw (calls_for-named entries s.store tries (drop passed walk)) at (later.calls some), rw (skipped_rows passed walk) at (first.all.calls refl), fresh.falls, calls_split Form.Skipped s.store tries passed walk),
        );
    grows = λ first few log grew. after_grown now s'' new result honest passes lists first log grew;
  }

-- ---- the last entries

-- a possible end of a walk is a possible end of a listing
pub passed_ends : (entries : EntryText) (seen : Seen) (ending : Ending)
    → EndsListing Form.Skipped seen ending → EndsListing (Form.Entry entries) seen ending
passed_ends entries seen ending ends = grind arith

second_walk_bound-some : (bound : ℕ) (rows : List Row) → 0 < length rows
    → second_walk_bound bound rows ≡ bound
second_walk_bound-some bound rows some = grind arith

module _ (x : Texts) (entries : EntryText) (n : ℕ) (from : Option ℕ) (tries : Tries) (some : 1 ≤ n) (s s' : Seen)
    (old text : Output) where
  -- counting failed, or there are no entries
  pub last_prints_none : (result : Result ℕ Failure) → IfOk result (λ count. count ≡ 0)
      → s'.stores_added ≡ s.stores_added → CountsEntries x (start_of from) tries
      (change s s' old text) result
      → Prints x (Job.Last entries n from) tries (change s s' old text) (ending_of result)
  last_prints_none (Ok count) none same counts = λ walk end w ends.
      let along = counts.along same walk end w ends in
      let empty = nil_from_length walk (sym along.0.0 ∙ none) in
      (rw (along.0.1, empty, drop-nil) (none_printed (IsPieceOver x s.store) old text along.0.2, refl), omega (arith, along.1))
  last_prints_none (Err failure) none same counts = λ walk end w ends.
      let along = counts.along same walk end w ends in (along.0 entries n, omega (arith, along.1))

  -- the entries after the skipped ones were listed
  pub last_prints : (s'' : Seen) (new : Output) (count : ℕ) (ending : Ending) → (count ≡ 0 → ⊥)
      → StaysHonest s s' → s'.stores_added ≡ s.stores_added → s''.stores_added ≡ s'.stores_added
      → CountsEntries x (start_of from) tries (change s s' old text) (Ok count)
      → ListsAfter x entries (start_of from) (count - n) tries (change s' s'' text new) ending
      → Prints x (Job.Last entries n from) tries (change s s'' old new) ending
  last_prints s'' new count ending more stays same same' counts lists = λ walk end w ends.
      let along = counts.along same walk end w ends in
      let later = (rw (stays.store.stays same) at (lists.along same' walk end)) w ends n along.0.1 (rw along.0.0 refl) in
      let twice = second_walk_bound-some (walk_call_bound Form.Skipped s.store tries walk) (drop (length walk - n) walk) (omega (arith, length-drop (length walk - n) walk, along.0.0, some, more)) in
      (rw along.0.2 at later.0, rw along.0.1 (omega (arith, along.1, later.1, twice)))

  -- ---- a log that only grew

  -- counting failed, or there are no entries
  pub last_grown_none : (result : Result ℕ Failure) → IfOk result (λ count. count ≡ 0) → CountsEntries x (start_of from) tries (change s s' old text) result
      → OnGrowingLast entries n from s s' (λ plan. IsAllowed (IsTextWhile x s s') plan old text (ending_of result))
  last_grown_none (Ok count) none counts = λ first log grew.
      let c = counts.grows first log grew in
      let empty = nil_from_length c.0 (sym c.2.0 ∙ none) in
      (c.0, c.1, (c.0, log_again s s' c.0 c.1, rw (empty, drop-nil) (none_printed (IsTextWhile x s s') old text c.2.2, refl)))
  last_grown_none (Err failure) none counts = λ first log grew.
      let c = counts.grows first log grew in
      (c.0, c.1, (c.0, log_again s s' c.0 c.1, c.2 entries (length c.0 - (length c.0 - n))))

  -- the entries after the skipped ones were listed
  pub last_grown : (s'' : Seen) (new : Output) (count : ℕ) (ending : Ending) → StaysHonest s s' → StaysHonest s' s''
      → CountsEntries x (start_of from) tries (change s s' old text) (Ok count)
      → ListsAfter x entries (start_of from) (count - n) tries (change s' s'' text new) ending
      → OnGrowingLast entries n from s s'' (λ plan. IsAllowed (IsTextWhile x s s'') plan old new ending)
  last_grown s'' new count ending first_stays later_stays counts lists = λ first log grew.
      let a = first_stays.store in
      let b = later_stays.store in
      let c = counts.grows first log (grew_first Sel (start_of from) s s' s'' a b grew) in
      -- the log as it was when the second walk began has at least the counted entries
      let now = log_later s s' c.0 (grew_first Sel (start_of from) s s' s'' a b grew) c.1 in
      let later = lists.grows now.0 (omega (arith, c.2.0, begins_length c.0 now.0 now.1)) now.2 (grew_second Sel (start_of from) s s' s'' a b grew) in
      let size : length later.0 - (count - n) ≡ length later.0 - (length c.0 - n) = omega (arith, c.2.0) in
      let wide = leaves_map (IsTextWhile x s' s'') (IsTextWhile x s s'') (while_second x s s' s'' a b) (last_plan entries (length later.0 - (count - n)) (start_of from) later.0 Done) text new ending (cause_of ending) later.2 in (
        c.0,
        log_first s s' s'' a b first c.0 c.1,
        (
          later.0,
          log_second s s' s'' a b c.0 now.0 later.0 now.1 later.1,
          subst (λ (l : Output). IsAllowed (IsTextWhile x s s'') (last_plan entries (length later.0 - (length c.0 - n)) (start_of from) later.0 Done) l new ending) c.2.2
              (subst (λ (m : ℕ). IsAllowed (IsTextWhile x s s'') (last_plan entries m (start_of from) later.0 Done) text new ending) size wide),
        ),
      )
