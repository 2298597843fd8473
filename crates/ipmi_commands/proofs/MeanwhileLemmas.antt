-- What is printed while the store changes, over a part of a run and over all of it.
use Rattle.std.proofs.Common.{◌≡◌, inl, inr, ℕ, ◌-◌, arith, Bool, true, false, cond, Option, None, Some, Result, Ok, Err, List, [], ◌∷◌, ◌==◌, is_some, sym, ap, subst, ◌∙◌}
use Rattle.ipmi_bus.proofs.HeldLemmas.{begins_refl, begins_trans, grew_first, grew_second, grew_since, grows_over, held_at_first, held_at_last, held_in_first, held_in_second, keeps_first, keeps_same, keeps_second, keeps_through}
use Rattle.ipmi_bus.proofs.GrowthLaws.{steps_stay}
use Rattle.ipmi_bus.specs.Seen.{KeepsStore}
use Rattle.ipmi_commands.specs.Below.{AreSteps, BeginsWith, Count, CursorState, Done, Ended, First, handed_out, IsHonest, IsLog, Keeps, OnGrowing, OnlyGrew, WasLog, inventory_in, inventory_of, Inventory, Place, place_after, Row, SdrFault, SdrView, sdr_view_of, Seen, seen_after, Sel, Shelf, start_of, StaysHonest, Stepped, stays_refl, stays_trans, Store, with_handed}
use Rattle.ipmi_records.specs.Sdr as sdr
use Rattle.ipmi_commands.specs.Meanwhile.{IsTextWhile, KeepsAt, KeepsFor, OnGrowingListing}
use Rattle.ipmi_commands.specs.Traced.{AreTextsOfSteps, IsTextAfter, IsTextOfResult, PrintsSteps, seen_next}
use Rattle.ipmi_commands.specs.Prelude.{AreTexts, AtInventory, AtRecord, device_points, EntryText, Form, IsPieceOver, named_entries, entries_job, keeping_last, bytes_of_rows, kept_plan, Listing, listing, listing_plan, locator_points, NameLookup, named_points, OfRow, OnGrowingEntries, OnGrowingLastKept, OnGrowingNamed, OnGrowingPlan, OnGrowingTail, Plan, Printed, reading_points, row_items, shelf_of, points_because_of, ReadPoint, Subject}
use Rattle.ipmi_commands.specs.Output.{and_then, Output}
use Rattle.ipmi_commands.proofs.OutputLemmas.{nothing_then}
use Rattle.ipmi_commands.specs.Format.{Texts}

-- ---- over a part of the run

pub while_first : (x : Texts) → (a b c : Seen) → KeepsStore a b → KeepsStore b c → (subject : Subject) (text : Output)
    → IsTextWhile x a b subject text → IsTextWhile x a c subject text
while_first x a b c first then_ subject text is = record { store = is.store; held = held_in_first a b c first then_ is.store is.held; is = is.is }

pub while_second : (x : Texts) → (a b c : Seen) → KeepsStore a b → KeepsStore b c → (subject : Subject) (text : Output)
    → IsTextWhile x b c subject text → IsTextWhile x a c subject text
while_second x a b c first then_ subject text is = record { store = is.store; held = held_in_second a b c first then_ is.store is.held; is = is.is }

-- over the store as it was at last
pub while_last : (x : Texts) → (s s' : Seen) (subject : Subject) (text : Output) → IsPieceOver x s'.store subject text
    → IsTextWhile x s s' subject text
while_last x s s' subject text is = record { store = s'.store; held = held_at_last s s'; is = is }

-- no store was added
pub while_same : (x : Texts) → (s s' : Seen) → KeepsStore s s' → s'.stores_added ≡ s.stores_added → (subject : Subject) (text : Output)
    → IsTextWhile x s s' subject text → IsPieceOver x s.store subject text
while_same x s s' keeps same subject text is =
    let n : s'.stores_added - s.stores_added ≡ 0 = omega (arith, same) in
    elim (rw n at is.held) [
      | inl at ↦ subst (λ (store : Store). IsPieceOver x store subject text) (at ∙ keeps.stays same) is.is
      | inr none ↦ absurd none
    ]

module _ {shelf : Shelf} {start : Place} (a b c : Seen) (first : KeepsStore a b) (then_ : KeepsStore b c) where
  pub log_first : (rows log : List Row) → WasLog shelf start a b rows log → WasLog shelf start a c rows log
  log_first rows log was = record { store = was.store; held = held_in_first a b c first then_ was.store was.held; is_store = was.is_store; is_log = was.is_log; grown = was.grown }

  pub log_second : (rows now log : List Row) → BeginsWith rows now → WasLog shelf start b c now log
      → WasLog shelf start a c rows log
  log_second rows now log grown was =
      record { store = was.store; held = held_in_second a b c first then_ was.store was.held; is_store = was.is_store; is_log = was.is_log; grown = begins_trans rows now log grown was.grown }

-- the log as it was at first
pub log_now : {shelf : Shelf} {start : Place} (s s' : Seen) → KeepsStore s s' → IsHonest s → (rows : List Row)
    → IsLog shelf start s.store rows → WasLog shelf start s s' rows rows
log_now s s' keeps honest rows log = record { store = s.store; held = held_at_first s s' keeps; is_store = honest.store; is_log = log; grown = begins_refl rows }

-- the same log, as the first one of later entries
pub log_again : {shelf : Shelf} {start : Place} {first : List Row} (s s' : Seen) (log : List Row) → WasLog shelf start s s' first log
    → WasLog shelf start s s' log log
log_again s s' log was = record { store = was.store; held = was.held; is_store = was.is_store; is_log = was.is_log; grown = begins_refl log }

-- the log as it was at last begins with it
pub log_later : {shelf : Shelf} {start : Place} {first : List Row} (s s' : Seen) (log : List Row) → OnlyGrew shelf start s s'
    → WasLog shelf start s s' first log → (now : List Row) × BeginsWith log now × IsLog shelf start s'.store now
log_later {shelf} {start} s s' log grew was =
    let now = grew_since shelf start s s' was.store grew was.held log was.is_log.walks was.is_log.ends in
    (now.0, now.1, record { walks = now.2; ends = now.3 })

-- ---- inventories over a part of the run

for_first : (form : Form) (a b c : Seen) → KeepsStore a b → KeepsStore b c → KeepsFor form a c → KeepsFor form a b
for_first Form.Device a b c first then_ keeps = keeps_first (λ (store : Store). store.inventories) a b c first then_ keeps
for_first _ a b c first then_ keeps = tt

pub for_second : (form : Form) (a b c : Seen) → KeepsStore a b → KeepsStore b c → KeepsFor form a c → KeepsFor form b c
for_second Form.Device a b c first then_ keeps = keeps_second (λ (store : Store). store.inventories) a b c first then_ keeps
for_second _ a b c first then_ keeps = tt

-- ---- logs as they were over the second part of a run

module _ (a b c : Seen) (first : StaysHonest a b) (then_ : StaysHonest b c) where
  pub growing_second : (shelf : Shelf) (start : Place) (Holds More : List Row → Type 0)
      → ((log : List Row) → Holds log → More log) → OnGrowing shelf start b c Holds → OnGrowing shelf start a c More
  growing_second shelf start Holds More keep on = λ rows log grew.
      let now = grows_over shelf start a b first.store (grew_first shelf start a b c first.store then_.store grew) rows log.walks log.ends in
      let later = on now.0 (record { walks = now.2; ends = now.3 }) (grew_second shelf start a b c first.store then_.store grew) in
      (later.0, log_second a b c first.store then_.store rows now.0 later.0 now.1 later.1, keep later.0 later.2)

  module _ (Holds More : Plan → Type 0) (keep : (plan : Plan) → Holds plan → More plan) where
    pub listing_second : (l : Listing) → OnGrowingListing l b c Holds → OnGrowingListing l a c More
    listing_second l on = λ keeps.
        growing_second (shelf_of l.form) l.start (λ log. Holds (listing_plan l log Done)) (λ log. More (listing_plan l log Done))
        (λ log. keep (listing_plan l log Done)) (on (for_second l.form a b c first.store then_.store keeps))

    last_second : (entries : EntryText) (n : ℕ) (from : Option ℕ) → OnGrowingLastKept entries n from b c Holds
        → OnGrowingLastKept entries n from a c More
    last_second entries n from on = growing_second Sel (start_of from) _ _
        (λ log. keep (kept_plan entries n (start_of from) log Done)) on

    tail_second : (entries : EntryText) (n : ℕ) → OnGrowingTail entries n b c Holds → OnGrowingTail entries n a c More
    tail_second entries n on = (
      on.0,
      on.1,
      stays_trans a b on.0 first on.2,
      on.3,
      on.4,
      λ rows log grew. let g = on.5 rows log grew in (g.0, g.1, keep (kept_plan entries n on.1 g.0 Done) g.2),
    )

    pub entries_second : (entries : EntryText) (count : Count) (from : Option ℕ)
        → OnGrowingPlan (keeping_last (entries_job entries count from)) b c Holds → OnGrowingEntries entries count from a c More
    entries_second entries Count.All from on = listing_second (listing (Form.Entry entries) (start_of from) None) on
    entries_second entries (Count.First n) from on = listing_second (listing (Form.Entry entries) (start_of from) (Some n)) on
    entries_second entries (Count.Last n) from on = last_second entries n from on
    entries_second entries (Count.Tail n) from on = tail_second entries n on

-- a fact about every plan
module _ (s s' : Seen) (honest : IsHonest s) (stays : StaysHonest s s') (Holds : Plan → Type 0) (holds : (plan : Plan) → Holds plan) where
  pub entries_growing : (entries : EntryText) (count : Count) (from : Option ℕ) → OnGrowingPlan (keeping_last (entries_job entries count from)) s s' Holds
  entries_growing entries Count.All from = λ keeps first log grew. (first, log_now s s' stays.store honest first log, holds _)
  entries_growing entries (Count.First n) from = λ keeps first log grew. (first, log_now s s' stays.store honest first log, holds _)
  entries_growing entries (Count.Last n) from = λ first log grew. (first, log_now s s' stays.store honest first log, holds _)
  entries_growing entries (Count.Tail n) from =
      (s, First, stays_refl s honest, stays, tt, λ first log grew. (first, log_now s s' stays.store honest first log, holds _))

  pub named_growing : (records : List Row) (named : NameLookup) → OnGrowingNamed records named s s' Holds
  named_growing records (NameLookup.Events detail Count.All from) = entries_growing (named_entries detail (bytes_of_rows records)) Count.All from
  named_growing records (NameLookup.Events detail (Count.First n) from) = entries_growing (named_entries detail (bytes_of_rows records)) (Count.First n) from
  named_growing records (NameLookup.Events detail (Count.Last n) from) = entries_growing (named_entries detail (bytes_of_rows records)) (Count.Last n) from
  named_growing records (NameLookup.Events detail (Count.Tail n) from) = entries_growing (named_entries detail (bytes_of_rows records)) (Count.Tail n) from
  named_growing records NameLookup.Devices = λ keeps. holds _

-- ---- inventories that did not change

pub keeps_inventory : (id : ℕ) (s s' : Seen) → Keeps (λ store. store.inventories) s s' → Keeps (inventory_of id) s s'
keeps_inventory id s s' keeps = keeps_through (λ (store : Store). store.inventories) (λ (l : List Inventory). inventory_in l id) s s' keeps

pub if_keeps : (b : Bool) (points : List ReadPoint) (s s' : Seen) → KeepsAt points s s' → KeepsAt (cond b points []) s s'
if_keeps true points s s' keeps = keeps
if_keeps false points s s' keeps = tt

pub reading_keeps : (id : ℕ) (view : Result SdrView SdrFault) (s s' : Seen) → KeepsAt (reading_points id view) s s'
reading_keeps id (Ok view) s s' = if_keeps (is_some (sdr.reading_of view)) (AtRecord id ∷ []) s s' tt
reading_keeps id (Err fault) s s' = tt

named_keeps : (name : List ℕ) (id : ℕ) (view : Result SdrView SdrFault) (s s' : Seen) → KeepsAt (named_points name id view) s s'
named_keeps name id (Ok view) s s' = if_keeps _ (reading_points id (Ok view)) s s' (reading_keeps id (Ok view) s s')
named_keeps name id (Err fault) s s' = tt

device_keeps : (device : Option ℕ) (s s' : Seen) → Keeps (λ store. store.inventories) s s' → KeepsAt (device_points device) s s'
device_keeps None s s' keeps = tt
device_keeps (Some id) s s' keeps = by (id == 0)
  where
    by : (b : Bool) → KeepsAt (cond b [] (AtInventory id ∷ [])) s s'
    by true = tt
    by false = (keeps_inventory id s s' keeps, tt)

pub locator_keeps : (view : Result SdrView SdrFault) (s s' : Seen) → Keeps (λ store. store.inventories) s s' → KeepsAt (locator_points view) s s'
locator_keeps (Ok view) s s' keeps = device_keeps (sdr.fru_of view) s s' keeps
locator_keeps (Err fault) s s' keeps = tt

row_keeps : (form : Form) (row : Row) (s s' : Seen) → KeepsFor form s s' → KeepsAt (points_because_of form row) s s'
row_keeps (Form.Record detail selection) row s s' keeps = if_keeps _ (reading_points row.id (sdr_view_of row.bytes)) s s' (reading_keeps row.id (sdr_view_of row.bytes) s s')
row_keeps (Form.Block name) row s s' keeps = named_keeps name row.id (sdr_view_of row.bytes) s s'
row_keeps Form.Device row s s' keeps = locator_keeps (sdr_view_of row.bytes) s s' keeps
row_keeps _ row s s' keeps = tt

-- no store was added
pub keeps_at_same : (points : List ReadPoint) (s s' : Seen) → KeepsStore s s' → s'.stores_added ≡ s.stores_added → KeepsAt points s s'
keeps_at_same [] s s' keeps same = tt
keeps_at_same (AtRecord n ∷ points) s s' keeps same = keeps_at_same points s s' keeps same
keeps_at_same (AtInventory id ∷ points) s s' keeps same = (keeps_same (inventory_of id) s s' keeps same, keeps_at_same points s s' keeps same)

-- ---- the texts of steps

-- from the next step on
pub next_stays : (c : CursorState) (s : Seen) (steps : List Stepped) (seen' : Seen) → IsHonest s → AreSteps c s steps → StaysHonest (seen_after s steps) seen'
    → StaysHonest s (seen_next steps seen') × StaysHonest (seen_next steps seen') seen'
next_stays c s [] seen' honest are after = (after, stays_refl seen' after.honest)
next_stays c s (step ∷ steps) seen' honest are after = (
  are.0,
  let made = (are.1.honest are.0.honest).stays in
      stays_trans step.before step.seen seen' made (stays_trans step.seen (seen_after step.seen steps) seen' (steps_stay step.cursor step.seen steps made.honest are.2) after),
)

module _ (x : Texts) (form : Form) (first last : Seen) (keeps : KeepsFor form first last) where
  abbrev W : Subject → Output → Type 0
  W = IsTextWhile x first last

  -- the text of one record, over the store after its requests
  pub text_while : (row : Row) (s s' : Seen) (text : Output) → StaysHonest first s → StaysHonest s s'
      → StaysHonest s' last → IsTextAfter x form row s s' text → W (OfRow form row) text
  text_while row s s' text before stays after is =
      let to_here = stays_trans first s s' before stays in
      let whole = for_first form first s' last to_here.store after.store keeps in
      while_first x first s' last to_here.store after.store (OfRow form row) text
      (while_last x first s' (OfRow form row) text (is (row_keeps form row s s' (for_second form first s s' before.store stays.store whole))))

  of_result : (result : Result (Option Row) Ended) (rows : List Row) (s s' : Seen) (start : Place) (text one rest : Output)
      → StaysHonest first s → StaysHonest s s' → StaysHonest s' last → IsTextOfResult x form result s s' one
      → ((at : Place) → AreTexts W (row_items form at rows) rest) → text ≡ and_then one rest
      → AreTexts W (row_items form start (with_handed result rows)) text
  of_result (Ok (Some row)) rows s s' start text one rest before stays after is more joined =
      record { first = one; rest = rest; is_first = text_while row s s' one before stays after is; is_rest = more (place_after row.next); joined = joined }
  of_result (Ok None) rows s s' start text one rest before stays after is more joined =
      subst (AreTexts W (row_items form start rows)) (sym (joined ∙ ap (λ (o : Output). and_then o rest) is ∙ nothing_then rest)) (more start)
  of_result (Err ended) rows s s' start text one rest before stays after is more joined =
      subst (AreTexts W (row_items form start rows)) (sym (joined ∙ ap (λ (o : Output). and_then o rest) is ∙ nothing_then rest)) (more start)

  steps_texts : (c : CursorState) (s : Seen) (steps : List Stepped) (start : Place) (seen' : Seen) (text : Output)
      → StaysHonest first s → AreSteps c s steps → StaysHonest (seen_after s steps) seen' → StaysHonest seen' last
      → AreTextsOfSteps x form steps seen' text → AreTexts W (row_items form start (handed_out steps)) text
  steps_texts c s [] start seen' text before are stays after texts = texts
  steps_texts c s (step ∷ steps) start seen' text before are stays after texts =
      let made = (are.1.honest are.0.honest).stays in
      let to_here = stays_trans first s step.seen before (stays_trans s step.before step.seen are.0 made) in
      let next = next_stays step.cursor step.seen steps seen' made.honest are.2 stays in
      of_result step.result (handed_out steps) step.seen (seen_next steps seen') start text texts.first texts.rest to_here next.0
      (stays_trans (seen_next steps seen') seen' last next.1 after) texts.is_first
      (λ at. steps_texts step.cursor step.seen steps at seen' texts.rest to_here are.2 stays after texts.is_rest) texts.joined

  pub steps_printed : (c : CursorState) (s : Seen) (steps : List Stepped) (start : Place) (seen' : Seen) (old new : Output)
      → StaysHonest first s → AreSteps c s steps → StaysHonest (seen_after s steps) seen' → StaysHonest seen' last
      → PrintsSteps x form steps seen' old new → Printed W (row_items form start (handed_out steps)) old new
  steps_printed c s steps start seen' old new before are stays after printed =
      record { text = printed.text; are = steps_texts c s steps start seen' printed.text before are stays after printed.are; new_is = printed.new_is }
