-- Tasks that print one text, and the task of all inventories: one text, then a listing.
use Rattle.std.proofs.Common.{◌≡◌, false, ℕ, ◌+◌, ◌≤◌, IsTrue, Option, None, Some, Result, Ok, Err, Vec, Global, List, [], ◌∷◌, ◌++◌, option_map, refl, arith}
use Rattle.ipmi_commands.specs.Below.{Done, LastFailed, NotPresent, Sdr, Shelf, Place, First, Seen, IsHonest, Row, Store, info_of, WalkEnd, Ending, Failure}
use Rattle.ipmi_commands.specs.Run.{EndsInfo, EndsInventory, ShowsInventory}
use Rattle.ipmi_commands.specs.Prelude.{LacksInventory, LacksValue, AtEnd, AtRecord, cause_of, Change, change, ending_of, points_at_walk_end, EndsFor, EndsListing, failure_of, Finds, Form, info_plan, inventories_plan, AtInventory, inventory_item, inventory_plan, most_on_walk, IsAllowed, IsAmong, IsInfoText, IsPage, IsPieceOver, IsTextWhile, Item, Job, Listing, listing, listing_plan, IsStopAmong, OfInfo, OfInventory, Plan, row_items, Runs, ReadPoint, next_points, Subject, text_plan, ReadError, WritesPiece, shown, inventory_call_bound}
use Rattle.ipmi_commands.specs.Output.{Output, piece_of}
use Rattle.ipmi_commands.specs.declared.piece.Piece.{Piece}
use Rattle.ipmi_commands.specs.declared.limits.Tries.{Tries}
use Rattle.ipmi_commands.proofs.CountLemmas.{between, ends_as, ends_since}
use Rattle.ipmi_bus.proofs.HeldLemmas.{keeps_first, keeps_second}
use Rattle.ipmi_commands.proofs.ItemLemmas.{cut_after, leaves_joined, leaves_longer, leaves_map, no_items, none_printed, one_printed, printed_map, stops_after}
use Rattle.ipmi_commands.proofs.MeanwhileLemmas.{growing_second, keeps_at_same, keeps_inventory, log_now, while_first, while_last, while_second}
use Rattle.ipmi_commands.specs.Format.{Texts}
use Rattle.ipmi_selection.specs.declared.detail.Detail.{Detail}

-- ---- one listing

-- a page is the run of its listing
pub page_runs : (x : Texts) → (l : Listing) (tries : Tries) (c : Change) (result : Result Place Failure)
    → EndsListing l.form c.seen' (ending_of result)
    → c.seen'.calls ≤ c.seen.calls + most_on_walk l.form tries
    → (IsHonest c.seen → IsPage x l.form l.start tries l.most c result)
    → Runs x (Job.Records l) tries c (ending_of result)
page_runs x l tries c result ends calls page = record {
  calls = calls;
  ends = ends;
  why = λ h. (page h).ends;
  prints = λ h same walk end w done. let along = (page h).along same walk end w done in (along.leaves, along.calls);
  grows = λ h. (page h).grows;
  traces = λ h. (result, refl, (page h).traces);
}

-- ---- writing a text

-- the output, by the result of writing
pub text_leaves : (IsText : Subject → Output → Type 0) (subject : Subject) (points : List ReadPoint)
    (old new text : Output) (ending : Ending) → IsText subject text
    → WritesPiece text old new ending → IsAllowed IsText (text_plan subject points) old new ending
text_leaves IsText subject points old new text (Ok done) is writes = (one_printed IsText (record { subject = subject; points = points }) text old new is writes, refl)
text_leaves IsText subject points old new text (Err Failure.WriteFault) is writes =
    let p = text_plan subject points in cut_after IsText p old old new (Err Failure.WriteFault) (no_items IsText p old old refl) _ [] text refl is writes.0 writes.1
text_leaves IsText subject points old new text (Err _) is writes = absurd writes

-- the reason for the ending is the result of writing
pub text_ends : (tries : Tries) (IsPlain : Type 0) (s s' : Seen) (text old new : Output) (ending : Ending)
    → EndsFor tries IsPlain s s' AtEnd → WritesPiece text old new ending
    → EndsFor tries IsPlain s s' (cause_of ending)
text_ends tries IsPlain s s' text old new ending ends writes = grind (arith, ends_as)

-- if the text was not found: given up or refused before anything is printed, or out of memory
pub none_leaves : (IsText : Subject → Output → Type 0) (p : Plan) (text : Output) (ending : Ending)
    → IsStopAmong (next_points p.items p.end_points) (cause_of ending) → IsAllowed IsText p text text ending
none_leaves IsText p text ending may = stops_after IsText p text text ending (cause_of ending) (no_items IsText p text text refl) may

-- ---- the info of a shelf

info_leaves : (x : Texts) → (shelf : Shelf) (store : Store) (o : Option (List ℕ))
    (text : List ℕ) (old new : Output) (ending : Ending)
    → IsInfoText x shelf o (Some text) → WritesPiece (piece_of text false) old new ending
    → IsAllowed (IsPieceOver x store) (info_plan shelf o) old new ending
info_leaves x shelf store None text old new ending is writes = absurd is
info_leaves x shelf store (Some info) text old new ending is writes =
    text_leaves (IsPieceOver x store) (OfInfo shelf info) (AtRecord 0 ∷ []) old new (piece_of text false) ending (record { is_text = is; counted = refl }) writes

info_points : (shelf : Shelf) (o : Option (List ℕ))
    → next_points (info_plan shelf o).items (info_plan shelf o).end_points ≡ AtRecord 0 ∷ []
info_points shelf o = grind arith

value_ends : (seen : Seen) (unread : ReadError) → LacksValue unread seen
    → EndsInfo seen (Err (failure_of unread))
value_ends seen unread says = grind arith

-- the contract for each result of an info
module _ (x : Texts) (shelf : Shelf) (tries : Tries) (s s' : Seen) (calls : s'.calls ≤ s.calls + (tries.count + 1)) where
  abbrev FoundInfo : Result (Option (Vec ℕ Global)) ReadError → Type 0
  FoundInfo result = IsHonest s → Finds (λ store found. IsInfoText x shelf (info_of shelf store) (option_map (λ text. text.items) found)) (AtRecord 0 ∷ []) tries s s' result

  pub info_found : (old new : Output) (text : Vec ℕ Global) (ending : Ending)
      → FoundInfo (Ok (Some text))
      → WritesPiece (piece_of text.items false) old new ending
      → Runs x (Job.Info shelf) tries (change s s' old new) ending
  info_found old new text ending finds writes = record {
    calls = calls;
    ends = grind arith;
    why = λ h. text_ends tries (IsTrue s.plain) s s' (piece_of text.items false) old new ending (finds h).asks.ends writes;
    prints = λ h same.
        let stays = (finds h).asks.ends.stays.store in
        (info_leaves x shelf s.store (info_of shelf s.store) text.items old new ending (rw (stays.stays same) at ((finds h).is tt)) writes, calls);
    grows = λ h. leaves_map (IsPieceOver x s'.store) (IsTextWhile x s s') (while_last x s s') (info_plan shelf (info_of shelf s'.store)) old new ending (cause_of ending)
        (info_leaves x shelf s'.store (info_of shelf s'.store) text.items old new ending ((finds h).is tt) writes);
    traces = λ h. tt;
  }

  -- the controller has no info
  pub info_absent : (text : Output) → LastFailed (λ class. class ≡ NotPresent) s' → FoundInfo (Ok None)
      → Runs x (Job.Info shelf) tries (change s s' text text) (Err Failure.NoInfo)
  info_absent text says finds = record {
    calls = calls;
    ends = says;
    why = λ h. (finds h).asks.ends;
    prints = λ h same.
        let stays = (finds h).asks.ends.stays.store in
        (none_of s.store (info_of shelf s.store) (rw (stays.stays same) at ((finds h).is tt)), calls);
    grows = λ h. leaves_map (IsPieceOver x s'.store) (IsTextWhile x s s') (while_last x s s') (info_plan shelf (info_of shelf s'.store)) text text (Err Failure.NoInfo) AtEnd
        (none_of s'.store (info_of shelf s'.store) ((finds h).is tt));
    traces = λ h. tt;
  }
    where
      none_of : (store : Store) (o : Option (List ℕ)) → IsInfoText x shelf o None
          → IsAllowed (IsPieceOver x store) (info_plan shelf o) text text (Err Failure.NoInfo)
      none_of store None is = (none_printed (IsPieceOver x store) text text refl, refl)
      none_of store (Some info) is = absurd is

  pub info_unread : (text : Output) (unread : ReadError) → LacksValue unread s'
      → FoundInfo (Err unread)
      → Runs x (Job.Info shelf) tries (change s s' text text) (Err (failure_of unread))
  info_unread text unread says none = record {
    calls = calls;
    ends = value_ends s' unread says;
    why = λ h. (none h).asks.ends;
    prints = λ h same. (none_leaves (IsPieceOver x s.store) (info_plan shelf (info_of shelf s.store)) text (Err (failure_of unread)) (rw info_points (none h).there), calls);
    grows = λ h. none_leaves (IsTextWhile x s s') (info_plan shelf (info_of shelf s'.store)) text (Err (failure_of unread)) (rw info_points (none h).there);
    traces = λ h. tt;
  }

-- ---- one inventory

inventory_written : (x : Texts) → (detail : Detail) (id : ℕ) (name : Option (List ℕ)) (c : Change) (text : Output) (ending : Ending)
    → ShowsInventory x detail id name c.seen' text → WritesPiece text c.old c.new ending → EndsInventory x detail id name c ending
inventory_written x detail id name c text (Ok done) shows writes = record { text = text; shows = shows; writes = writes }
inventory_written x detail id name c text (Err Failure.WriteFault) shows writes = record { text = text; shows = shows; writes = writes }
inventory_written x detail id name c text (Err _) shows writes = absurd writes

inventory_lost : (x : Texts) → (detail : Detail) (id : ℕ) (name : Option (List ℕ)) (s s' : Seen) (text : Output) (unread : ReadError)
    → LacksInventory unread s' → EndsInventory x detail id name (change s s' text text) (Err (failure_of unread))
inventory_lost x detail id name s s' text (ReadError.Inventory device ended) says = (says, refl)
inventory_lost x detail id name s s' text ReadError.Memory says = refl
inventory_lost x detail id name s s' text (ReadError.Ended ended) says = absurd says

module _ (x : Texts) (detail : Detail) (id : ℕ) (name : Option (List ℕ)) (tries : Tries) (s s' : Seen) (calls : s'.calls ≤ s.calls + inventory_call_bound tries 65535) where
  abbrev FoundInventory : Result Piece ReadError → Type 0
  FoundInventory result = IsHonest s → Finds (λ store piece. IsPieceOver x store (OfInventory detail id name) (shown piece)) (AtInventory id ∷ []) tries s s' result

  pub inventory_found : (old new : Output) (piece : Piece) (ending : Ending)
      → ShowsInventory x detail id name s' (shown piece)
      → FoundInventory (Ok piece)
      → WritesPiece (shown piece) old new ending
      → Runs x (Job.Inventory detail id name) tries (change s s' old new) ending
  inventory_found old new piece ending shows finds writes = record {
    calls = calls;
    ends = inventory_written x detail id name (change s s' old new) (shown piece) ending shows writes;
    why = λ h. text_ends tries (IsTrue s.plain) s s' (shown piece) old new ending (finds h).asks.ends writes;
    prints = λ h same. (
      let stays = (finds h).asks.ends.stays.store in
          text_leaves (IsPieceOver x s.store) (OfInventory detail id name) (AtInventory id ∷ []) old new (shown piece) ending
          (rw (stays.stays same) at ((finds h).is (keeps_at_same (AtInventory id ∷ []) s s' stays same))) writes,
      omega (arith, (finds h).asks.calls (keeps_at_same (AtInventory id ∷ []) s s' (finds h).asks.ends.stays.store same)),
    );
    grows = λ h keeps. leaves_map (IsPieceOver x s'.store) (IsTextWhile x s s') (while_last x s s') (inventory_plan detail id name) old new ending (cause_of ending)
        (text_leaves (IsPieceOver x s'.store) (OfInventory detail id name) (AtInventory id ∷ []) old new (shown piece) ending ((finds h).is (keeps, tt)) writes);
    traces = λ h. tt;
  }

  pub inventory_unread : (text : Output) (unread : ReadError) → LacksInventory unread s'
      → FoundInventory (Err unread)
      → Runs x (Job.Inventory detail id name) tries (change s s' text text) (Err (failure_of unread))
  inventory_unread text unread says none = record {
    calls = calls;
    ends = inventory_lost x detail id name s s' text unread says;
    why = λ h. (none h).asks.ends;
    prints = λ h same. (
      none_leaves (IsPieceOver x s.store) (inventory_plan detail id name) text (Err (failure_of unread)) (none h).there,
      omega (arith, (none h).asks.calls (keeps_at_same (AtInventory id ∷ []) s s' (none h).asks.ends.stays.store same)),
    );
    grows = λ h keeps. none_leaves (IsTextWhile x s s') (inventory_plan detail id name) text (Err (failure_of unread)) (none h).there;
    traces = λ h. tt;
  }

-- ---- all inventories

-- the inventory of device 0 was not finished
first_leaves : (IsText : Subject → Output → Type 0) (name : Option (List ℕ)) (walk : List Row) (end : WalkEnd) (old new : Output)
    (failure : Failure) → IsAllowed IsText (inventory_plan Detail.Line 0 name) old new (Err failure)
    → IsAllowed IsText (inventories_plan name walk end) old new (Err failure)
first_leaves IsText name walk end old new failure allowed =
    leaves_longer IsText (inventory_plan Detail.Line 0 name) (inventories_plan name walk end) (row_items Form.Device First walk) refl there old new (Err failure) (cause_of (Err failure))
    (λ is all. cc all.1) allowed
  where
    there : (point : ReadPoint) (rest : List Item) → IsAmong (next_points rest []) point
        → IsAmong (next_points (rest ++ row_items Form.Device First walk) (points_at_walk_end First walk end)) point
    there point rest among = grind arith

pub first_run : (x : Texts) → (name : Option (List ℕ)) (tries : Tries) (s s' : Seen) (old new : Output) (failure : Failure)
    → Runs x (Job.Inventory Detail.Line 0 name) tries (change s s' old new) (Err failure)
    → Runs x (Job.AllInventories name) tries (change s s' old new) (Err failure)
first_run x name tries s s' old new failure runs = record {
  calls = omega (arith, runs.calls);
  ends = of_device failure runs.ends;
  why = runs.why;
  prints = λ h same. λ walk end w ends. let printed = runs.prints h same in (first_leaves (IsPieceOver x s.store) name walk end old new failure printed.0, omega (arith, printed.1));
  grows = λ h keeps first log grew. (
    first,
    log_now s s' (runs.why h).stays.store h first log,
    first_leaves (IsTextWhile x s s') name first Done old new failure (runs.grows h (keeps_inventory 0 s s' keeps)),
  );
  traces = λ h. tt;
}
  where
    of_device : (failure : Failure) → EndsInventory x Detail.Line 0 name (change s s' old new) (Err failure)
        → EndsListing Form.Device s' (Err failure)
    of_device (Failure.Inventory id ended) ends = (refl, ends.0)
    of_device Failure.OutOfMemory ends = tt
    of_device Failure.WriteFault ends = tt
    of_device _ ends = absurd ends.writes

-- the inventory of device 0, then the output of a listing of the locators
pub inventories_run : (x : Texts) → (name : Option (List ℕ)) (tries : Tries) (s s' s'' : Seen) (old text new : Output)
    (next : Result Place Failure) → s''.calls ≤ s'.calls + most_on_walk Form.Device tries
    → EndsListing Form.Device s'' (ending_of next)
    → Runs x (Job.Inventory Detail.Line 0 name) tries (change s s' old text) (Ok tt)
    → (IsHonest s' → IsPage x Form.Device First tries None (change s' s'' text new) next)
    → Runs x (Job.AllInventories name) tries (change s s'' old new) (ending_of next)
inventories_run x name tries s s' s'' old text new next calls may first page_of = record {
  calls = omega (arith, first.calls, calls);
  ends = may;
  why = λ h. let ends = first.why h in ends_since ends ends.stays.plain (page_of ends.stays.honest).ends;
  prints = λ h same.
      let ends = first.why h in
      let page = page_of ends.stays.honest in
      let since = between s s' s'' ends.stays page.ends.stays same in
      let printed = first.prints h since.0 in
      λ walk end w ends_.
      let along = (rw (ends.stays.store.stays since.0) at (page.along since.1 walk end)) w ends_ in (
        leaves_joined (IsPieceOver x s.store) (inventory_item Detail.Line 0 name ∷ []) (listing_plan (listing Form.Device First None) walk end) old text new (ending_of next) (cause_of (ending_of next)) printed.0.0 along.leaves,
        omega (arith, printed.1, along.calls),
      );
  grows = λ h keeps.
      let ends = first.why h in
      let page = page_of ends.stays.honest in
      let a = ends.stays.store in
      let b = page.ends.stays.store in
      let printed = first.grows h (keeps_inventory 0 s s' (keeps_first (λ (store : Store). store.inventories) s s' s'' a b keeps)) in
      let rest : List Row → Plan = λ log. listing_plan (listing Form.Device First None) log Done in
      growing_second s s' s'' ends.stays page.ends.stays Sdr First
      (λ log. IsAllowed (IsTextWhile x s' s'') (rest log) text new (ending_of next))
      (λ log. IsAllowed (IsTextWhile x s s'') (inventories_plan name log Done) old new (ending_of next))
      (λ log allowed. leaves_joined (IsTextWhile x s s'') (inventory_item Detail.Line 0 name ∷ []) (rest log) old text new (ending_of next) (cause_of (ending_of next))
      (printed_map (IsTextWhile x s s') (IsTextWhile x s s'') (while_first x s s' s'' a b) (inventory_item Detail.Line 0 name ∷ []) old text printed.0)
      (leaves_map (IsTextWhile x s' s'') (IsTextWhile x s s'') (while_second x s s' s'' a b) (rest log) text new (ending_of next) (cause_of (ending_of next)) allowed))
      (page.grows (keeps_second (λ (store : Store). store.inventories) s s' s'' a b keeps));
  traces = λ h. tt;
}
