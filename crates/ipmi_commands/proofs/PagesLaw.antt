-- If the chain does not end with a cycle, all pages together are one listing.
use Rattle.std.proofs.Common.{◌≡◌, inl, inr, ℕ, nat_le, ◌+◌, ◌*◌, ◌≤◌, Bool, true, false, if◌then◌else◌, IsTrue, Option, None, Some, Err, List, [], ◌∷◌, ◌++◌, length, take, drop, refl, sym, ap, ◌∙◌, subst, arith, ne_eqb, take-append-drop}
use Rattle.std.proofs.lemmas.Bool.{or_parts}
use Rattle.std.proofs.Math.Seq.{take-nil, drop-nil}
use Rattle.std.proofs.lemmas.Bool.Decides.{nat_tests}
use Rattle.std.proofs.lemmas.List.{drop_all}
use Rattle.ipmi_commands.specs.Below.{Place, First, End, Row, IsShelf, Store, rows_of, store_shelf, IsWalk, TailIsWalk, WalkEnd, Done, EndsBy, place_after, place_after_rows, Seen, IsHonest, step_call_bound, Ending, Failure}
use Rattle.ipmi_commands.specs.Prelude.{ArePages, calls_for, cause_of, Change, change, counted, EndsFor, EndsListing, first_end, first_rows, Form, GoesOn, IsAllowed, IsAmong, IsOneListing, IsOpen, Item, next_points, points_at_walk_end, ReadPoint, walk_call_bound, IsPieceOver, Job, Listing, listing, listing_in, listing_plan, lists_all, most_on_walk, OnWalk, pages_made, Plan, Printed, row_items, rows_end, RunsPaged, shelf_of}
use Rattle.ipmi_commands.specs.Output.{Output}
use Rattle.ipmi_commands.specs.declared.limits.Tries.{Tries}
use Rattle.ipmi_commands.proofs.CallLemmas.{calls_split}
use Rattle.ipmi_commands.proofs.LimitLemmas.{first_rows-take, up_to-all}
use Rattle.ipmi_commands.proofs.ItemLemmas.{after_items, leaves_joined, leaves_longer, row_items-split}
use Rattle.ipmi_commands.proofs.PageLemmas.{calls_of_page, no_walk}
use Rattle.ipmi_commands.proofs.PointLemmas.{points_at_walk_end-joined}
use Rattle.ipmi_commands.proofs.CountLemmas.{between, ends_since}
use Rattle.ipmi_commands.specs.Format.{Texts}

-- a listing in this form does not search for a name, so it ends as its walk does
abbrev NamesNone : Form → Type 0
NamesNone (Form.Block name) = ⊥
NamesNone _ = Unit {0}

same_end : (form : Form) (rows : List Row) (end : WalkEnd) → NamesNone form
    → rows_end form rows end ≡ rows_end Form.Hex [] end
same_end form rows end none = grind arith

-- an end with `Done` has a point only if the shelf is empty
done_there : (form : Form) (rows : List Row) (start place : Place) (walk : List Row) (end : WalkEnd) (size : ℕ) → EndsBy rows start walk end
    → (point : ReadPoint) → IsAmong (points_at_walk_end start walk Done) point
    → IsAmong (next_points (row_items form place (drop size walk)) (points_at_walk_end start walk end)) point
done_there form rows start place [] end size ends point among = rw (drop-nil size) (grind arith)
done_there form rows start place (row ∷ walk) end size ends point among = grind arith

-- the result of all pages together
pub record OneListing (x : Texts) (form : Form) (start : Place) (tries : Tries) (sizes : List ℕ) (c : Change)
    (ending : Ending) : Type 0 where
  pub ends : EndsFor tries (IsTrue c.seen.plain) c.seen c.seen' (cause_of ending)
  pub along : c.seen'.stores_added ≡ c.seen.stores_added
      → IsOneListing x form start tries sizes c ending

module _ (x : Texts) (walk_tail : TailIsWalk) where
  -- ---- the rest of a walk

  rest_of_walk : (form : Form) (rows : List Row) (start : Place) (done rest : List Row)
      (end : WalkEnd) → IsShelf (shelf_of form) rows → IsOpen end → IsWalk rows start (done ++ rest)
      → EndsBy rows start (done ++ rest) end
      → IsWalk rows (place_after_rows start done) rest
      × EndsBy rows (place_after_rows start done) rest end
  rest_of_walk form rows start [] rest end ok open_ w ends = (w, ends)
  rest_of_walk form rows start (d ∷ done) rest end ok open_ w ends =
      rest_of_walk form rows (place_after d.next) done rest end ok open_
      (walk_tail (shelf_of form) rows start d (done ++ rest) ok w)
      (grind (arith, ne_eqb, or_parts))

  -- ---- a page as a part of the listing

  abbrev plan_from : Form → Place → Option ℕ → List Row → WalkEnd → Plan
  plan_from form start most walk end = listing_plan (listing form start most) walk end

  -- a page that failed
  module _ (form : Form) (store : Store) (rows : List Row) (start : Place) (walk : List Row)
      (end : WalkEnd) (ends : EndsBy rows start walk end) (size : ℕ) (old new : Output)
      (none : NamesNone form) where
    abbrev page : List Row
    page = first_rows form (Some size) walk

    abbrev after : List Item
    after = row_items form (place_after_rows start (take (length page) walk)) (drop (length page) walk)

    -- the page has all rows, if it has fewer than its size
    all_rows : nat_le size (counted form walk) ≡ false → page ≡ walk
    all_rows few = up_to-all form size walk (grind (arith, nat_tests))

    -- If the page stopped at the end of its rows, there is no further row, so this is also the end of the whole listing.
    at_end : (full : Bool) → nat_le size (counted form walk) ≡ full → (point : ReadPoint)
        → IsAmong (points_at_walk_end start walk (if full then Done else end)) point
        → IsAmong (next_points after (points_at_walk_end start walk end)) point
    at_end true is point among = done_there form rows start (place_after_rows start (take (length page) walk)) walk end (length page) ends point among
    at_end false is point among =
        let none : drop (length page) walk ≡ [] = ap (λ (l : List Row). drop (length l) walk) (all_rows is) ∙ drop_all (length walk) walk (omega arith) in
        subst (λ (l : List Row). IsAmong (next_points (row_items form (place_after_rows start (take (length page) walk)) l) (points_at_walk_end start walk end)) point) (sym none) among

    points_wide : (point : ReadPoint) (rest : List Item)
        → IsAmong (next_points rest (points_at_walk_end start walk (first_end form (Some size) walk end))) point
        → IsAmong (next_points (rest ++ after) (points_at_walk_end start walk end)) point
    points_wide point [] among = at_end (nat_le size (counted form walk)) refl point among
    points_wide point (item ∷ rest) among = among

    -- a page within the walk does not end with a failure
    ends_wide : (failure : Failure) (full : Bool) → nat_le size (counted form walk) ≡ full
        → Printed (IsPieceOver x store) (row_items form start page) old new × (Err failure ≡ rows_end form page (if full then Done else end))
        → Printed (IsPieceOver x store) (row_items form start walk) old new × (Err failure ≡ rows_end form walk end)
    ends_wide failure true is all = let fine = all.1 ∙ same_end form page Done none in cc fine
    ends_wide failure false is all =
        subst (λ (l : List Row). Printed (IsPieceOver x store) (row_items form start l) old new × (Err failure ≡ rows_end form l end)) (all_rows is) all

    leaves_wide : (failure : Failure)
        → IsAllowed (IsPieceOver x store) (plan_from form start (Some size) walk end) old new (Err failure)
        → IsAllowed (IsPieceOver x store) (plan_from form start None walk end) old new (Err failure)
    leaves_wide failure allowed =
        leaves_longer (IsPieceOver x store) (plan_from form start (Some size) walk end) (plan_from form start None walk end) after
        (row_items-split form start walk (length page) ∙ ap (λ (l : List Row). row_items form start l ++ after) (sym (first_rows-take form (Some size) walk)))
        points_wide old new (Err failure) (cause_of (Err failure)) (λ at all. ends_wide failure (nat_le size (counted form walk)) refl all) allowed

  -- ---- the rest of the listing, from where the next page begins

  module _ (form : Form) (store : Store) (rows : List Row) (start next : Place) (walk : List Row)
      (end : WalkEnd) (size : ℕ) (w : IsWalk rows start walk) where
    -- the next page follows the rest of the walk
    rest_there : IsShelf (shelf_of form) rows → EndsBy rows start walk end → IsOpen end
        → GoesOn rows start (take size walk) next
        → IsWalk rows next (drop size walk) × EndsBy rows next (drop size walk) end
    rest_there ok ends open_ (inl there) =
        let split : walk ≡ take size walk ++ drop size walk = sym (take-append-drop size walk) in
        rw there (rest_of_walk form rows start (take size walk) (drop size walk) end ok open_ (subst (IsWalk rows start) split w) (subst (λ (l : List Row). EndsBy rows start l end) split ends))
    rest_there ok ends open_ (inr empty) =
        let gone = no_walk rows start walk (rw empty.1 empty.2) w in
        rw (empty.0, gone, drop-nil size) (record { of_shelf = tt; distinct = tt; first = tt; links = tt }, grind (arith, rw (gone, empty.1) at ends))

    -- its output is that of a listing from after the page; an empty shelf has one more point, at its start
    from_next : (text new : Output) (ending : Ending) → GoesOn rows start (take size walk) next
        → IsAllowed (IsPieceOver x store) (plan_from form next None (drop size walk) end) text new ending
        → IsAllowed (IsPieceOver x store) (plan_from form (place_after_rows start (take size walk)) None
        (drop size walk) end) text new ending
    from_next text new ending (inl there) allowed = rw there at allowed
    from_next text new ending (inr empty) allowed =
        let gone = no_walk rows start walk (rw empty.1 empty.2) w in
        rw (gone, take-nil size, drop-nil size, empty.1)
        (leaves_longer (IsPieceOver x store) (plan_from form End None [] end) (plan_from form First None [] end) [] refl (λ point rest among. grind arith) text new ending (cause_of ending) (λ at_end all. all) (rw (empty.0, gone, drop-nil size) at allowed))

    -- so together with the page it is the whole listing
    leaves_of_rest : (old text new : Output) (ending : Ending) → NamesNone form
        → Printed (IsPieceOver x store) (row_items form start (take size walk)) old text
        → GoesOn rows start (take size walk) next
        → IsAllowed (IsPieceOver x store) (plan_from form next None (drop size walk) end) text new ending
        → IsAllowed (IsPieceOver x store) (plan_from form start None walk end) old new ending
    leaves_of_rest old text new ending none printed goes allowed =
        let done = take size walk in
        let left = drop size walk in
        let whole : after_items (row_items form start done) (plan_from form (place_after_rows start done) None left end) ≡ plan_from form start None walk end =
        cc (row_items-split form start walk size, same_end form left end none, same_end form walk end none, points_at_walk_end-joined start done left end, take-append-drop size walk) in
        subst (λ (q : Plan). IsAllowed (IsPieceOver x store) q old new ending) whole
        (leaves_joined (IsPieceOver x store) (row_items form start done) (plan_from form (place_after_rows start done) None left end) old text new ending (cause_of ending) printed (from_next text new ending goes allowed))

  -- ---- the law

  pub pages_are_one : (form : Form) (tries : Tries) (start : Place) (sizes : List ℕ) (s s' : Seen)
      (old new : Output) (ending : Ending) → NamesNone form → IsHonest s → ArePages x form tries start sizes (change s s' old new) ending
      → OneListing x form start tries sizes (change s s' old new) ending
  pages_are_one form tries start [] s s' old new ending none honest last = record {
    ends = rw last.1 last.2.ends;
    along = λ same walk end w ends open_. let along = last.2.along same walk end w ends in (rw last.1 along.leaves, omega (arith, along.calls));
  }
  pages_are_one form tries start (size ∷ sizes) s s' old new ending none honest (inl last) =
      let page = last.2 in
      record {
        ends = rw last.1 page.ends;
        along = λ same walk end w ends open_.
            let along = page.along same walk end w ends in
            let k = length (first_rows form (Some size) walk) in
            let calls = subst (λ (rows : List Row). s'.calls ≤ s.calls + walk_call_bound form s.store tries rows) (first_rows-take form (Some size) walk) along.calls in
            let made = calls_of_page size sizes (calls_for form s.store tries (take k walk)) (step_call_bound tries.count 0 + 7) s s' (omega (arith, calls)) page.none in (
              rw last.1 (leaves_wide form s.store (rows_of (shelf_of form) s.store) start walk end ends size old new none last.0 along.leaves),
              omega (arith, made, calls_split form s.store tries k walk),
            );
      }
  pages_are_one form tries start (size ∷ sizes) s s' old new ending none honest (inr more) =
      let page = more.page in
      let later = pages_are_one form tries more.next sizes more.seen s' more.text new ending none page.ends.stays.honest more.rest in
      let since = between s more.seen s' page.ends.stays later.ends.stays in
      record {
        ends = ends_since page.ends page.ends.stays.plain later.ends;
        along = λ same walk end w ends open_.
            let first = (since same).0 in
            let along = page.along first walk end w ends in
            let k = length (first_rows form (Some size) walk) in
            let taken = first_rows-take form (Some size) walk in
            let calls = subst (λ (rows : List Row). more.seen.calls ≤ s.calls + walk_call_bound form s.store tries rows) taken along.calls in
            let goes_on = subst (λ (rows : List Row). GoesOn (rows_of (shelf_of form) s.store) start rows more.next) taken along.goes_on in
            let printed = subst (λ (rows : List Row). Printed (IsPieceOver x s.store) (row_items form start rows) old more.text) taken along.leaves.0 in
            let there = rest_there form s.store (rows_of (shelf_of form) s.store) start more.next walk end k w (store_shelf (shelf_of form) s.store honest.store) ends open_ goes_on in
            let rest = (subst (λ (x' : Store). OnWalk (shelf_of form) more.next x' (λ walk end. IsOpen end
            → IsAllowed (IsPieceOver x x') (plan_from form more.next None walk end) more.text new ending
            × (s'.calls ≤ more.seen.calls + 0 + calls_for form x' tries walk + pages_made sizes * (step_call_bound tries.count 0 + 7)))) (page.ends.stays.store.stays first)
            (later.along (since same).1)) (drop k walk) end there.0 there.1 open_ in
            let made = calls_of_page size sizes (calls_for form s.store tries (take k walk)) (step_call_bound tries.count 0 + 7) s more.seen (omega (arith, calls)) page.none in (
              leaves_of_rest form s.store (rows_of (shelf_of form) s.store) start more.next walk end k w old more.text new ending none printed goes_on rest.0,
              omega (arith, rest.1, made, calls_split form s.store tries k walk),
            );
      }

-- ---- a job that can be done in pages

-- it lists all records of a shelf, in a form that does not search for a name; the result of the pages
pub paged : (x : Texts) → TailIsWalk → (job : Job) (tries : Tries) (sizes : List ℕ) (s s' : Seen)
    (old new : Output) (ending : Ending) (l : Listing) → lists_all job ≡ true → listing_in job ≡ Some l
    → s'.calls ≤ s.calls + pages_made sizes * most_on_walk l.form tries
    → EndsListing l.form s' ending
    → (IsHonest s → ArePages x l.form tries l.start sizes (change s s' old new) ending)
    → RunsPaged x job tries sizes (change s s' old new) ending
paged x tail job tries sizes s s' old new ending l lists is calls may pages =
    let is : (job ≡ Job.Records l) × NamesNone l.form × (l.most ≡ None) = grind arith in
    let one : IsHonest s → OneListing x l.form l.start tries sizes (change s s' old new) ending = λ h. pages_are_one x tail l.form tries l.start sizes s s' old new ending is.1 h (pages h) in
    rw is.0 (is.2, record { calls = calls; ends = may; why = λ h. (one h).ends; pages = pages; prints = λ h. (one h).along })
