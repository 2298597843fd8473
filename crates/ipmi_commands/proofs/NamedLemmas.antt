-- Listings with names: a walk reads the sensor data records into memory, then a listing uses the names.
use Rattle.std.proofs.Common.{◌≡◌, inl, ℕ, ◌+◌, ◌*◌, ◌≤◌, true, IsTrue, Option, None, Some, Result, Ok, Err, List, [], ◌∷◌, length, map, refl, sym, ap, ◌∙◌, arith}
use Rattle.std.specs.List.{AllPass, concat}
use Rattle.std.proofs.lemmas.List.Elements.{All-cons, All-nil}
use Rattle.std.proofs.lemmas.Nat.{mul-le}
use Rattle.ipmi_commands.specs.Below.{AllOf, Count, CycleAt, device_name, Done, Ending, EndsBy, Failure, First, FoundIsRow, IsHonest, IsShelf, IsStore, IsWalk, is_whole_record, MissingAt, OnGrowing, Place, place_after, records_in, Row, rows_of, Sdr, Seen, stays_refl, Store, WalkEnd}
use Rattle.ipmi_commands.specs.Named.{end_after, ending_then, listed_end, PrintsDevices, PrintsPlan, walk_of}
use Rattle.ipmi_commands.specs.declared.named.RecordsEnd.{RecordsEnd}
use Rattle.ipmi_commands.specs.Prelude.{after_names, AreTexts, AtEnd, AtInventory, bytes_of_rows, calls_for_devices, calls_for_point, inventories_plan, WritesRecords, WritesWhole, walk_call_bound, entries_job, keeping_last, OnEntries, Cause, cause_of, Change, change, Dishonest, end_after_names, ending_of, EndsNamed, EndsFor, EndsListing, EntryText, named_entries, Form, GaveUp, HasFirstItems, IsAllowed, IsAmong, IsPage, IsPieceOver, IsTextWhile, Job, Leaves, listing, listing_plan, MayEnd, most_calls, most_named, most_on_walk, NameLookup, next_points, NoMemory, NoOutput, OfRow, OnNamed, FollowsPlan, Plan, Printed, Refused, row_items, rows_end, Runs, ReadPoint, points_at_walk_end, points_before, points_of_walk, Subject, TracesJob, inventory_call_bound}
use Rattle.ipmi_selection.specs.Selection.{SelectedEntries}
use Rattle.ipmi_commands.specs.Output.{no_output, Output}
use Rattle.ipmi_commands.specs.declared.limits.Tries.{Tries}
use Rattle.ipmi_commands.proofs.CountLemmas.{between, ends_here, ends_since}
use Rattle.ipmi_commands.proofs.DeviceLemmas.{row_with}
use Rattle.ipmi_bus.proofs.HeldLemmas.{grew_first, keeps_same, keeps_second}
use Rattle.ipmi_commands.proofs.ItemLemmas.{leaves_map, no_items}
use Rattle.ipmi_commands.proofs.MeanwhileLemmas.{entries_growing, entries_second, log_first, named_growing, while_same, while_second}
use Rattle.ipmi_commands.proofs.LastLemmas.{leaves_wide, next_points-first}
use Rattle.ipmi_commands.proofs.PointLemmas.{among_after, among_before, quiet_there}
use Rattle.ipmi_commands.proofs.TailLemmas.{tail_all, tail_map}
use Rattle.ipmi_commands.proofs.WholeLemmas.{whole_record}
use Rattle.ipmi_commands.specs.Format.{Texts}

-- ---- the bytes of the records

-- each text of a row is its bytes
abbrev AreBytesOf : (Subject → Output → Type 0) → Type 0
AreBytesOf IsText = (row : Row) (text : Output) → IsText (OfRow Form.Bytes row) text → text.bytes ≡ row.bytes

bytes_text : (IsText : Subject → Output → Type 0) → AreBytesOf IsText → (rows : List Row) (start : Place) (text : Output)
    → AreTexts IsText (row_items Form.Bytes start rows) text
    → text.bytes ≡ concat (bytes_of_rows rows)
bytes_text IsText bytes [] start text are = ap (λ (o : Output). o.bytes) are
bytes_text IsText bytes (row ∷ rows) start text are =
    ap (λ (o : Output). o.bytes) are.joined ∙ rw (bytes row are.first are.is_first, bytes_text IsText bytes rows (place_after row.next) are.rest are.is_rest) refl

whole_rows : FoundIsRow → (rows walk : List Row) → IsShelf Sdr rows → AllOf rows walk
    → AllPass is_whole_record (bytes_of_rows walk)
whole_rows look_row rows [] ok all = All-nil _
whole_rows look_row rows (row ∷ walk) ok all =
    All-cons (λ bytes. is_whole_record bytes ≡ true) row.bytes (bytes_of_rows walk) (whole_record row.bytes (look_row Sdr rows row.id row ok all.0).whole) (whole_rows look_row rows walk ok all.1)

-- splitting concatenated records gives these records again
abbrev pub RecordsAreFound : Type 0
RecordsAreFound = (records : List (List ℕ)) → AllPass is_whole_record records → records_in (concat records) ≡ records

-- the listed bytes are those of the records on the walk
pub read_records : FoundIsRow → RecordsAreFound → (IsText : Subject → Output → Type 0) → AreBytesOf IsText
    → (store : Store) (walk : List Row) (text : Output) → IsStore store → AllOf store.sdr walk
    → Printed IsText (row_items Form.Bytes First walk) no_output text
    → records_in text.bytes ≡ bytes_of_rows walk
read_records look_row split IsText bytes store walk text ok all printed =
    ap records_in (ap (λ (o : Output). o.bytes) printed.new_is ∙ bytes_text IsText bytes walk First printed.text printed.are)
    ∙ split (bytes_of_rows walk) (whole_rows look_row store.sdr walk ok.sdr all)

-- equal known contents are equal
pub some_is : (a b : List ℕ) → Some a ≡ Some b → a ≡ b
some_is a b is = cc is

-- ---- entries with the names of their sensors

-- the listing that `count` selects follows its plan
module _ (entries : EntryText) (from : Option ℕ) (tries : Tries) (store : Store) (Holds : Plan → ℕ → Type 0) where
  entries_map : (More : Plan → ℕ → Type 0) (count : Count) → ((plan : Plan) (calls : ℕ) → Holds plan calls → More plan calls)
      → FollowsPlan (keeping_last (entries_job entries count from)) tries store Holds → OnEntries entries count from tries store More
  entries_map More Count.All keep on = λ walk end w ends. keep _ _ (on walk end w ends)
  entries_map More (Count.First n) keep on = λ walk end w ends. keep _ _ (on walk end w ends)
  entries_map More (Count.Last n) keep on = λ walk end w ends. keep _ _ (on walk end w ends)
  entries_map More (Count.Tail n) keep on = tail_map entries n tries tries store Holds More (λ plan calls. keep plan (calls tries)) on

  entries_all : (count : Count) → ((plan : Plan) (calls : ℕ) → Holds plan calls) → OnEntries entries count from tries store Holds
  entries_all Count.All holds = λ walk end w ends. holds _ _
  entries_all (Count.First n) holds = λ walk end w ends. holds _ _
  entries_all (Count.Last n) holds = λ walk end w ends. holds _ _
  entries_all (Count.Tail n) holds = tail_all entries n tries store Holds (λ points plan calls some. holds _ calls)

  job_all : (count : Count) → ((plan : Plan) (calls : ℕ) → Holds plan calls) → FollowsPlan (keeping_last (entries_job entries count from)) tries store Holds
  job_all Count.All holds = λ walk end w ends. holds _ _
  job_all (Count.First n) holds = λ walk end w ends. holds _ _
  job_all (Count.Last n) holds = λ walk end w ends. holds _ _
  job_all (Count.Tail n) holds = tail_all entries n tries store Holds (λ points plan calls some. holds _ calls)

-- a fact about every plan
pub named_all : (records : List Row) (end : WalkEnd) (tries : Tries) (store : Store) (Holds : Plan → ℕ → Type 0)
    (named : NameLookup) → ((plan : Plan) (calls : ℕ) → Holds plan calls) → OnNamed records end named tries store Holds
named_all records end tries store Holds (NameLookup.Events detail count from) holds =
    entries_all (named_entries detail (bytes_of_rows records)) from tries store Holds count holds
named_all records end tries store Holds NameLookup.Devices holds = holds _ _

entries_calls : (detail : SelectedEntries) (entries : EntryText) (count : Count) (from : Option ℕ) (tries : Tries)
    → most_calls (keeping_last (entries_job entries count from)) tries ≤ most_named (NameLookup.Events detail count from) tries
entries_calls detail entries Count.All from tries = omega arith
entries_calls detail entries (Count.First n) from tries = omega arith
entries_calls detail entries (Count.Last n) from tries = omega arith
entries_calls detail entries (Count.Tail n) from tries = omega arith

pub entries_end : (detail : SelectedEntries) (entries : EntryText) (count : Count) (from : Option ℕ) (seen : Seen) (ending : Ending)
    → EndsListing (Form.Entry entries) seen ending → EndsNamed (NameLookup.Events detail count from) seen ending
entries_end detail entries count from seen ending ends = grind arith

entries_may : (x : Texts) → (detail : SelectedEntries) (entries : EntryText) (count : Count) (from : Option ℕ) (c : Change) (ending : Ending)
    → MayEnd x (keeping_last (entries_job entries count from)) c ending → EndsNamed (NameLookup.Events detail count from) c.seen' ending
entries_may x detail entries Count.All from c ending ends = entries_end detail entries Count.All from c.seen' ending ends
entries_may x detail entries (Count.First n) from c ending ends = entries_end detail entries (Count.First n) from c.seen' ending ends
entries_may x detail entries (Count.Last n) from c ending ends = entries_end detail entries (Count.Last n) from c.seen' ending ends
entries_may x detail entries (Count.Tail n) from c ending ends = entries_end detail entries (Count.Tail n) from c.seen' ending ends

-- out of memory for the table of sensors
memory_end : (x : Texts) → (entries : EntryText) (count : Count) (from : Option ℕ) (c : Change) → MayEnd x (keeping_last (entries_job entries count from)) c (Err Failure.OutOfMemory)
memory_end x entries Count.All from c = tt
memory_end x entries (Count.First n) from c = tt
memory_end x entries (Count.Last n) from c = tt
memory_end x entries (Count.Tail n) from c = tt

memory_traces : (x : Texts) → (entries : EntryText) (count : Count) (from : Option ℕ) (s : Seen) (text : Output)
    → TracesJob x (keeping_last (entries_job entries count from)) (change s s text text) (Err Failure.OutOfMemory)
memory_traces x entries Count.All from s text = (Err Failure.OutOfMemory, refl, inl (inl refl, refl, refl))
memory_traces x entries (Count.First n) from s text = (Err Failure.OutOfMemory, refl, inl (inl refl, refl, refl))
memory_traces x entries (Count.Last n) from s text = inl (refl, refl, refl)
memory_traces x entries (Count.Tail n) from s text = inl (tt, refl)

pub events_without_memory : (x : Texts) → (entries : EntryText) (count : Count) (from : Option ℕ) (tries : Tries) (s : Seen) (text : Output)
    → Runs x (keeping_last (entries_job entries count from)) tries (change s s text text) (Err Failure.OutOfMemory)
events_without_memory x entries count from tries s text = record {
  calls = omega arith;
  ends = memory_end x entries count from (change s s text text);
  why = λ h. ends_here h refl tt;
  prints = λ h same. job_all entries from tries s.store _ count (λ plan calls. (no_items (IsPieceOver x s.store) plan text text refl, omega arith));
  grows = λ h. entries_growing s s h (stays_refl s h) _ (λ plan. no_items (IsTextWhile x s s) plan text text refl) entries count from;
  traces = λ h. memory_traces x entries count from s text;
}

-- ---- the walk of the records was not finished

abbrev records_plan : List Row → WalkEnd → Plan
records_plan records end = listing_plan (listing Form.Bytes First None) records end

-- a listing with this failure was not at the end of its plan
not_at_end : (records : List Row) (end : WalkEnd) (result : Result Place Failure) (failure : Failure)
    → walk_of result ≡ Err failure → ending_of result ≡ rows_end Form.Bytes records end → ⊥
not_at_end records Done result failure is at = grind arith
not_at_end records (CycleAt n) result failure is at = grind arith
not_at_end records (MissingAt n) result failure is at = grind arith

module _ (IsRead IsText : Subject → Output → Type 0) (records : List Row) (end : WalkEnd) (plan : Plan) (kept text : Output) where
  abbrev q : Plan
  q = after_names records end plan

  -- the run stops at a point of that walk
  stop_there : (first : HasFirstItems IsRead (records_plan records end) no_output kept) (point : ReadPoint)
      → IsAmong (next_points first.rest (points_at_walk_end First records end)) point
      → IsAmong (next_points q.items q.end_points) point
  stop_there first point there =
      rw (next_points-first (points_before records end plan) plan.items plan.end_points)
      (among_before (points_of_walk First records end) (next_points plan.items plan.end_points) point
      (quiet_there Form.Bytes (λ row. refl) None First records first.done first.rest (points_at_walk_end First records end) point first.items_are there))

  -- the run ends early for the same cause as the walk, but a write fault of the list of records means out of memory
  cause_kept : (result : Result Place Failure) (failure : Failure) → walk_of result ≡ Err failure
      → (cause_of (ending_of result) ≡ NoOutput → ⊥)
      → cause_of (Err failure) ≡ cause_of (ending_of result)
  cause_kept result failure is some = grind arith

  cause_of-memory : (result : Result Place Failure) (failure : Failure) → walk_of result ≡ Err failure
      → cause_of (ending_of result) ≡ NoOutput → cause_of (Err failure) ≡ NoMemory
  cause_of-memory result failure is at = grind arith

  pub stop_by : (result : Result Place Failure) (failure : Failure) → walk_of result ≡ Err failure
      → (cause : Cause) → cause_of (ending_of result) ≡ cause
      → Leaves IsRead (records_plan records end) no_output kept (ending_of result) cause
      → IsAllowed IsText q text text (Err failure)
  stop_by result failure is AtEnd at leaves = absurd (not_at_end records end result failure is leaves.1)
  stop_by result failure is (GaveUp point) at leaves =
      rw (cause_kept result failure is (λ e. cc (sym at ∙ e)) ∙ at)
      (record { first = no_items IsText q text text refl; there = stop_there leaves.first point leaves.there })
  stop_by result failure is (Refused point code) at leaves =
      rw (cause_kept result failure is (λ e. cc (sym at ∙ e)) ∙ at)
      (record { first = no_items IsText q text text refl; there = stop_there leaves.first point leaves.there })
  stop_by result failure is NoMemory at leaves =
      rw (cause_kept result failure is (λ e. cc (sym at ∙ e)) ∙ at) (no_items IsText q text text refl)
  stop_by result failure is NoOutput at leaves =
      rw (cause_of-memory result failure is at) (no_items IsText q text text refl)
  stop_by result failure is Dishonest at leaves = absurd leaves

-- a walk with a known end was at the end of its plan
pub walked_at_end : (result : Result Place Failure) (walked : RecordsEnd) → walk_of result ≡ Ok walked
    → cause_of (ending_of result) ≡ AtEnd
walked_at_end result walked is = grind arith

-- and its end is that of the rows
pub walked_end : (records : List Row) (end : WalkEnd) (result : Result Place Failure) (walked : RecordsEnd)
    → walk_of result ≡ Ok walked → ending_of result ≡ rows_end Form.Bytes records end
    → end_after walked ≡ end_after_names end (Ok tt)
walked_end records Done result walked is at = grind arith
walked_end records (CycleAt n) result walked is at = grind arith
walked_end records (MissingAt n) result walked is at = grind arith

-- the run ends with this failure before anything is printed
module _ (x : Texts) (tries : Tries) (s s' : Seen) (kept : Output) (named : NameLookup)
    (calls : s'.calls ≤ s.calls + most_on_walk Form.Bytes tries) where
  pub failed_ends : (named : NameLookup) (result : Result Place Failure) (failure : Failure)
      → walk_of result ≡ Err failure → EndsListing Form.Bytes s' (ending_of result)
      → EndsNamed named s' (Err failure)
  failed_ends (NameLookup.Events detail count from) result failure is ends = grind arith
  failed_ends NameLookup.Devices result failure is ends = grind arith

  pub failed_for : (IsPlain : Type 0) (result : Result Place Failure) (failure : Failure)
      → walk_of result ≡ Err failure → EndsFor tries IsPlain s s' (cause_of (ending_of result))
      → EndsFor tries IsPlain s s' (cause_of (Err failure))
  failed_for IsPlain result failure is ends = grind arith

  pub names_failed : (text : Output) (result : Result Place Failure) (failure : Failure)
      → walk_of result ≡ Err failure → EndsListing Form.Bytes s' (ending_of result)
      → (IsHonest s → IsPage x Form.Bytes First tries None (change s s' no_output kept) result)
      → Runs x (Job.NameLookup named) tries (change s s' text text) (Err failure)
  names_failed text result failure is ends page_of = record {
    calls = omega (arith, calls);
    ends = failed_ends named result failure is ends;
    why = λ h. failed_for (IsTrue s.plain) result failure is (page_of h).ends;
    prints = λ h same records end w ends_.
        let along = (page_of h).along same records end w ends_ in
        named_all records end tries s.store _ named (λ plan calls. (
          stop_by (IsPieceOver x s.store) (IsPieceOver x s.store) records end plan kept text result failure is (cause_of (ending_of result)) refl along.leaves,
          omega (arith, along.calls),
        ));
    grows = λ h first log grew.
        let ends = (page_of h).ends.stays in
        let walked = (page_of h).grows tt first log grew in (
          walked.0,
          walked.1,
          named_growing s s' h ends _ (λ plan. stop_by (IsTextWhile x s s') (IsTextWhile x s s') walked.0 Done plan kept text result failure is (cause_of (ending_of result)) refl walked.2) walked.0 named,
        );
    traces = λ h. tt;
  }

-- ---- after the walk

pub then_ends : (detail : SelectedEntries) (count : Count) (from : Option ℕ) (seen : Seen) (ending : Ending) (walked : RecordsEnd)
    → EndsNamed (NameLookup.Events detail count from) seen ending → EndsNamed (NameLookup.Events detail count from) seen (ending_then ending walked)
then_ends detail count from seen ending walked ends = grind arith

pub then_for : (ending : Ending) (walked : RecordsEnd) → cause_of (ending_then ending walked) ≡ cause_of ending
then_for ending walked = grind arith

pub then_allowed : (IsText : Subject → Output → Type 0) (records : List Row) (end : WalkEnd) (plan : Plan) (old new : Output)
    (ending : Ending) (walked : RecordsEnd) → end_after walked ≡ end_after_names end (Ok tt)
    → IsAllowed IsText plan old new ending
    → IsAllowed IsText (after_names records end plan) old new (ending_then ending walked)
then_allowed IsText records end plan old new ending walked end_is allowed =
    rw (then_for ending walked) (leaves_wide IsText (points_before records end plan) plan plan.end_points (end_after_names end plan.end) refl
    (λ point among. among_after (points_of_walk First records end) (next_points plan.items plan.end_points) point among)
    old new ending (ending_then ending walked) (cause_of ending) (λ is. then_end ending plan.end is) allowed)
  where
    then_end : (e p : Ending) → e ≡ p → ending_then e walked ≡ end_after_names end p
    then_end e p is = grind arith

-- ---- all devices

listed_is : (records : List Row) (end : WalkEnd) (result : Result Place Failure) (walked : RecordsEnd)
    → walk_of result ≡ Ok walked → ending_of result ≡ rows_end Form.Bytes records end
    → listed_end walked ≡ rows_end Form.Device records end
listed_is records Done result walked is at = grind arith
listed_is records (CycleAt n) result walked is at = grind arith
listed_is records (MissingAt n) result walked is at = grind arith

-- rows with these bytes, and such an end
bytes_with : (records : List (List ℕ)) → bytes_of_rows (map row_with records) ≡ records
bytes_with [] = refl
bytes_with (bytes ∷ records) = ap (λ (l : List (List ℕ)). bytes ∷ l) (bytes_with records)

abbrev end_of_walk : RecordsEnd → WalkEnd
end_of_walk RecordsEnd.Whole = Done
end_of_walk (RecordsEnd.Cycle n) = CycleAt n
end_of_walk (RecordsEnd.Missing n) = MissingAt n

listed_with : (rows : List Row) (walked : RecordsEnd)
    → listed_end walked ≡ rows_end Form.Device rows (end_of_walk walked)
listed_with rows RecordsEnd.Whole = refl
listed_with rows (RecordsEnd.Cycle n) = refl
listed_with rows (RecordsEnd.Missing n) = refl

-- at most 65,536 records were written
few : RecordsAreFound → (bytes : List ℕ) → (count : ℕ) × (count ≤ 65536) × WritesRecords count [] bytes → length (records_in bytes) ≤ 65536
few split bytes whole =
    let records = whole.2.records in
    rw (whole.2.new_is, split records whole.2.whole) (omega (arith, whole.1, whole.2.count_is))

few_records : RecordsAreFound → (ending : Ending) (bytes : List ℕ) → cause_of ending ≡ AtEnd → WritesWhole Form.Bytes [] bytes ending
    → length (records_in bytes) ≤ 65536
few_records split (Ok done) bytes at whole = few split bytes whole
few_records split (Err Failure.WriteFault) bytes at whole = cc at
few_records split (Err failure) bytes at whole = few split bytes whole

few_calls : (count each : ℕ) → count ≤ 65536 → (count + 1) * each ≤ 65537 * each
few_calls count each few = mul-le (count + 1) each 65537 each (omega (arith, few)) (omega arith)

-- the walk of the records is also that of the devices
devices_allowed : (IsText : Subject → Output → Type 0) (records : List Row) (end : WalkEnd) (old new : Output) (ending : Ending)
    → let plan = inventories_plan (device_name 0 (bytes_of_rows records)) records end in
    IsAllowed IsText plan old new ending → IsAllowed IsText (after_names records end plan) old new ending
devices_allowed IsText records end old new ending allowed =
    let plan = inventories_plan (device_name 0 (bytes_of_rows records)) records end in
    leaves_wide IsText (points_before records end plan) plan plan.end_points (end_after_names end plan.end) refl
    (λ point among. among_after (points_of_walk First records end) (next_points plan.items plan.end_points) point among)
    old new ending ending (cause_of ending) (λ is. is ∙ kept_end end) allowed
  where
    kept_end : (end : WalkEnd) → rows_end Form.Device records end ≡ end_after_names end (rows_end Form.Device records end)
    kept_end Done = refl
    kept_end (CycleAt n) = refl
    kept_end (MissingAt n) = refl

-- ---- after the walk of the records

-- the walk of the records, over an honest controller
module _ (x : Texts) (look_row : FoundIsRow) (split : RecordsAreFound) (tries : Tries) (s s' s'' : Seen) (kept old new : Output) (detail : SelectedEntries)
    (result : Result Place Failure) (walked : RecordsEnd) (is : walk_of result ≡ Ok walked)
    (page_of : IsHonest s → IsPage x Form.Bytes First tries None (change s s' no_output kept) result) where
  abbrev read_ends : IsHonest s → EndsFor tries (IsTrue s.plain) s s' AtEnd
  read_ends h = rw (walked_at_end result walked is) at (page_of h).ends

  -- the records on the walk are those in memory
  pub records_of_walk : (h : IsHonest s) → s'.stores_added ≡ s.stores_added → (records : List Row) (end : WalkEnd)
      → IsWalk (rows_of Sdr s.store) First records → EndsBy (rows_of Sdr s.store) First records end
      → (records_in kept.bytes ≡ bytes_of_rows records) × (ending_of result ≡ rows_end Form.Bytes records end)
      × (s'.calls ≤ s.calls + walk_call_bound Form.Bytes s.store tries records)
  records_of_walk h same records end w ends =
      let along = (page_of h).along same records end w ends in
      let all = rw (walked_at_end result walked is) at along.leaves in
      (read_records look_row split (IsPieceOver x s.store) (λ row text is. is.is_text) s.store records kept h.store w.of_shelf all.0, all.1, along.calls)

  pub records_of_log : IsHonest s → OnGrowing Sdr First s s' (λ records.
      (records_in kept.bytes ≡ bytes_of_rows records) × (ending_of result ≡ rows_end Form.Bytes records Done))
  records_of_log h = λ first log grew.
      let read = (page_of h).grows tt first log grew in
      let all = rw (walked_at_end result walked is) at read.2 in
      (read.0, read.1, (read_records look_row split (IsTextWhile x s s') (λ row text is. is.is.is_text) read.1.store read.0 kept read.1.is_store read.1.is_log.walks.of_shelf all.0, all.1))

  pub events_run : (count : Count) (from : Option ℕ) (ending : Ending) → s'.calls ≤ s.calls + most_on_walk Form.Bytes tries
      → Runs x (keeping_last (entries_job (named_entries detail (records_in kept.bytes)) count from)) tries (change s' s'' old new) ending
      → Runs x (Job.NameLookup (NameLookup.Events detail count from)) tries (change s s'' old new) (ending_then ending walked)
  events_run count from ending calls runs = record {
    calls = omega (arith, calls, runs.calls, entries_calls detail (named_entries detail (records_in kept.bytes)) count from tries);
    ends = then_ends detail count from s'' ending walked (entries_may x detail (named_entries detail (records_in kept.bytes)) count from (change s' s'' old new) ending runs.ends);
    why = λ h.
        let ends = read_ends h in
        rw (then_for ending walked) (ends_since ends ends.stays.plain (runs.why ends.stays.honest));
    prints = λ h same.
        let ends = read_ends h in
        let later = runs.why ends.stays.honest in
        let since = between s s' s'' ends.stays later.stays same in
        let printed = rw (ends.stays.store.stays since.0) at (runs.prints ends.stays.honest since.1) in
        λ records end w ends_.
        let walk = records_of_walk h since.0 records end w ends_ in
        let on = rw walk.0 at printed in
        entries_map (named_entries detail (bytes_of_rows records)) from tries s.store _ _ count (λ plan calls_. λ both. (
          then_allowed (IsPieceOver x s.store) records end plan old new ending walked (walked_end records end result walked is walk.1) both.0,
          omega (arith, both.1, walk.2),
        )) on;
    grows = λ h first log grew.
        let ends = read_ends h in
        let later = runs.why ends.stays.honest in
        let a = ends.stays.store in
        let b = later.stays.store in
        let read = records_of_log h first log (grew_first Sdr First s s' s'' a b grew) in
        let on = rw read.2.0 at (runs.grows ends.stays.honest) in (
          read.0,
          log_first s s' s'' a b first read.0 read.1,
          entries_second s s' s'' ends.stays later.stays (λ plan. IsAllowed (IsTextWhile x s' s'') plan old new ending)
              (λ plan. IsAllowed (IsTextWhile x s s'') (after_names read.0 Done plan) old new (ending_then ending walked))
              (λ plan allowed. then_allowed (IsTextWhile x s s'') read.0 Done plan old new ending walked (walked_end read.0 Done result walked is read.2.1)
              (leaves_map (IsTextWhile x s' s'') (IsTextWhile x s s'') (while_second x s s' s'' a b) plan old new ending (cause_of ending) allowed))
              (named_entries detail (bytes_of_rows read.0)) count from on,
        );
    traces = λ h. tt;
  }

  pub devices_run : (ending : Ending) → s'.calls ≤ s.calls + most_on_walk Form.Bytes tries
      → WritesWhole Form.Bytes [] kept.bytes (ending_of result)
      → s''.calls ≤ s'.calls + (length (records_in kept.bytes) + 1) * inventory_call_bound tries 65535
      → EndsNamed NameLookup.Devices s'' ending
      → (IsHonest s' → PrintsDevices x walked tries (records_in kept.bytes) (change s' s'' old new) ending)
      → Runs x (Job.NameLookup NameLookup.Devices) tries (change s s'' old new) ending
  devices_run ending calls whole later_calls may devices_of = record {
    calls = omega (arith, calls, later_calls, few_calls (length (records_in kept.bytes)) (inventory_call_bound tries 65535) (few_records split (ending_of result) kept.bytes (walked_at_end result walked is) whole));
    ends = may;
    why = λ h.
        let ends = read_ends h in
        ends_since ends ends.stays.plain (later h).ends;
    prints = λ h same.
        let ends = read_ends h in
        let since = between s s' s'' ends.stays (later h).ends.stays same in
        let devices = devices_of ends.stays.honest in
        λ records end w ends_.
        let walk = records_of_walk h since.0 records end w ends_ in
        let plan = inventories_plan (device_name 0 (bytes_of_rows records)) records end in
        let printed = (rw walk.0 at devices) records end refl (listed_is records end result walked is walk.1) in
        let of : Store → _ = λ store. store.inventories in (
          devices_allowed (IsPieceOver x s.store) records end old new ending
              (rw (ends.stays.store.stays since.0) at (leaves_map (IsTextWhile x s' s'') (IsPieceOver x s'.store) (while_same x s' s'' (later h).ends.stays.store since.1) plan old new ending (cause_of ending)
              (printed.prints (keeps_same of s' s'' (later h).ends.stays.store since.1)))),
          omega (arith, walk.2, rw (ends.stays.store.stays since.0) at (printed.calls_are since.1)),
        );
    grows = λ h first log grew.
        let ends = read_ends h in
        let a = ends.stays.store in
        let b = (later h).ends.stays.store in
        let read = records_of_log h first log (grew_first Sdr First s s' s'' a b grew) in
        let plan = inventories_plan (device_name 0 (bytes_of_rows read.0)) read.0 Done in
        let printed = (rw read.2.0 at (devices_of ends.stays.honest)) read.0 Done refl (listed_is read.0 Done result walked is read.2.1) in (
          read.0,
          log_first s s' s'' a b first read.0 read.1,
          λ keeps. devices_allowed (IsTextWhile x s s'') read.0 Done old new ending
              (leaves_map (IsTextWhile x s' s'') (IsTextWhile x s s'') (while_second x s s' s'' a b) plan old new ending (cause_of ending)
              (printed.prints (keeps_second (λ (store : Store). store.inventories) s s' s'' a b keeps))),
        );
    traces = λ h. tt;
  }
    where
      -- of any rows with these bytes
      later : (h : IsHonest s) → PrintsPlan x tries (inventories_plan (device_name 0 (records_in kept.bytes)) (map row_with (records_in kept.bytes)) (end_of_walk walked))
          (λ store. calls_for_point tries store (AtInventory 0) + calls_for_devices tries store (map row_with (records_in kept.bytes))) (change s' s'' old new) ending
      later h =
          let rows = map row_with (records_in kept.bytes) in
          devices_of (read_ends h).stays.honest rows (end_of_walk walked) (bytes_with (records_in kept.bytes)) (listed_with rows walked)
