-- The inventories of all devices, once the sensor data records are in memory.
use Rattle.std.proofs.Common.{◌≡◌, ℕ, ◌+◌, ◌*◌, ◌≤◌, IsTrue, Option, Ok, Err, List, [], ◌∷◌, ◌++◌, length, refl, sym, ap, subst, arith}
use Rattle.ipmi_commands.specs.Below.{asked_at, device_name, Ending, Failure, First, IsHonest, place_after, Row, sdr_view_of, Seen, Store}
use Rattle.ipmi_commands.specs.Run.{EndsInventory}
use Rattle.ipmi_commands.specs.Named.{listed_end, PrintsDevices, PrintsLocated, PrintsLocator, PrintsPlan}
use Rattle.ipmi_commands.specs.declared.named.RecordsEnd.{RecordsEnd}
use Rattle.ipmi_commands.specs.declared.piece.Piece.{Piece}
use Rattle.ipmi_commands.specs.Prelude.{Change, LacksInventory, NameLookup, EndsNamed, OfInventory, AtEnd, AtInventory, AtRecord, calls_for_devices, calls_for_point, calls_for_points, cause_of, change, failure_of, FindsLocator, Form, inventories_plan, inventory_plan, IsAmong, IsPieceOver, IsTextWhile, Item, Job, locator_points, next_points, OfRow, Plan, points_at_walk_end, ReadError, ReadPoint, row_items, Runs, shown, Subject, text_plan, WritesPiece}
use Rattle.ipmi_commands.specs.Output.{Output}
use Rattle.ipmi_commands.specs.declared.limits.Tries.{Tries}
use Rattle.ipmi_commands.proofs.CountLemmas.{between, ends_here, ends_since}
use Rattle.ipmi_bus.proofs.HeldLemmas.{keeps_first, keeps_second}
use Rattle.ipmi_commands.proofs.ItemLemmas.{leaves_joined, leaves_longer, leaves_map, no_items, none_printed, printed_map}
use Rattle.ipmi_commands.proofs.LastLemmas.{leaves_wide}
use Rattle.ipmi_commands.proofs.MeanwhileLemmas.{keeps_at_same, keeps_inventory, locator_keeps, while_first, while_last, while_second}
use Rattle.ipmi_commands.proofs.PerformLemmas.{none_leaves, text_ends, text_leaves}
use Rattle.ipmi_commands.specs.Format.{Texts}
use Rattle.ipmi_selection.specs.declared.detail.Detail.{Detail}

-- ---- one record

pub locator_found : (x : Texts) → (tries : Tries) (bytes : List ℕ) (s s' : Seen) (old new : Output) (piece : Piece) (ending : Ending)
    → FindsLocator x bytes tries s s' (Ok piece) → WritesPiece (shown piece) old new ending
    → PrintsLocator x tries bytes (change s s' old new) ending
locator_found x tries bytes s s' old new piece ending finds writes = λ row is.
    let found = finds row.id row.next in
    let points = locator_points (sdr_view_of bytes) in
    let subject = OfRow Form.Device row in
    record {
      ends = text_ends tries (IsTrue s.plain) s s' (shown piece) old new ending found.asks.ends writes;
      prints = λ keeps.
          let text = found.is (locator_keeps (sdr_view_of bytes) s s' keeps) in
          let of_row : IsPieceOver x s'.store subject (shown piece) = subst (λ (b : List ℕ). IsPieceOver x s'.store (OfRow Form.Device (record { id = row.id; next = row.next; bytes = b })) (shown piece)) (sym is) text in
          leaves_map (IsPieceOver x s'.store) (IsTextWhile x s s') (while_last x s s') (text_plan subject points) old new ending (cause_of ending)
          (text_leaves (IsPieceOver x s'.store) subject points old new (shown piece) ending of_row writes);
      calls_are = λ same. found.asks.calls (keeps_at_same points s s' found.asks.ends.stays.store same);
    }

pub locator_unread : (x : Texts) → (tries : Tries) (bytes : List ℕ) (s s' : Seen) (text : Output) (unread : ReadError)
    → FindsLocator x bytes tries s s' (Err unread)
    → PrintsLocator x tries bytes (change s s' text text) (Err (failure_of unread))
locator_unread x tries bytes s s' text unread finds = λ row is.
    let none = finds row.id row.next in
    let points = locator_points (sdr_view_of bytes) in
    record {
      ends = none.asks.ends;
      prints = λ keeps. none_leaves (IsTextWhile x s s') (text_plan (OfRow Form.Device row) points) text (Err (failure_of unread)) none.there;
      calls_are = λ same. none.asks.calls (keeps_at_same points s s' none.asks.ends.stays.store same);
    }

-- ---- a text, then the rest of a plan

module _ (x : Texts) (tries : Tries) (subject : Subject) (points more : List ReadPoint) (p : Plan) (first rest : Store → ℕ) where
  abbrev longer : Plan
  longer = record { items = record { subject = subject; points = more } ∷ p.items; end = p.end; end_points = p.end_points }

  pub then_plan : (s s' s'' : Seen) (old text new : Output) (ending : Ending)
      → PrintsPlan x tries (text_plan subject points) first (change s s' old text) (Ok tt)
      → PrintsPlan x tries p rest (change s' s'' text new) ending
      → PrintsPlan x tries longer (λ store. first store + rest store) (change s s'' old new) ending
  then_plan s s' s'' old text new ending a b =
      let one = a.ends.stays in
      let two = b.ends.stays in
      let of : Store → _ = λ store. store.inventories in
      record {
        ends = ends_since a.ends one.plain b.ends;
        prints = λ keeps.
            let printed = printed_map (IsTextWhile x s s') (IsTextWhile x s s'') (while_first x s s' s'' one.store two.store) _ old text
            (a.prints (keeps_first of s s' s'' one.store two.store keeps)).0 in
            leaves_joined (IsTextWhile x s s'') (record { subject = subject; points = more } ∷ []) p old text new ending (cause_of ending)
            (record { text = printed.text; are = printed.are; new_is = printed.new_is })
            (leaves_map (IsTextWhile x s' s'') (IsTextWhile x s s'') (while_second x s s' s'' one.store two.store) p text new ending (cause_of ending)
            (b.prints (keeps_second of s s' s'' one.store two.store keeps)));
        calls_are = λ same.
            let since = between s s' s'' one two same in
            omega (arith, a.calls_are since.0, rw (one.store.stays since.0) at (b.calls_are since.1));
      }

  -- the text was not finished
  pub stops_plan : ((point : ReadPoint) → IsAmong points point → IsAmong more point)
      → (s s' : Seen) (old new : Output) (failure : Failure)
      → PrintsPlan x tries (text_plan subject points) first (change s s' old new) (Err failure)
      → PrintsPlan x tries longer (λ store. first store + rest store) (change s s' old new) (Err failure)
  stops_plan wide s s' old new failure a = record {
    ends = a.ends;
    prints = λ keeps.
        let W = IsTextWhile x s s' in
        leaves_longer W (text_plan subject more) longer p.items refl later old new (Err failure) (cause_of (Err failure)) (λ is all. cc all.1)
        (leaves_wide W more (text_plan subject points) [] (Ok tt) refl wide old new (Err failure) (Err failure) (cause_of (Err failure)) (λ is. is) (a.prints keeps));
    calls_are = λ same. omega (arith, a.calls_are same);
  }
    where
      later : (point : ReadPoint) (items : List Item) → IsAmong (next_points items []) point
          → IsAmong (next_points (items ++ p.items) p.end_points) point
      later point items among = grind arith

-- ---- the devices of records

-- a row with these bytes
abbrev pub row_with : List ℕ → Row
row_with bytes = record { id = 0; next = 0; bytes = bytes }

pub fewer_calls : (left after : List (List ℕ)) (bytes : List ℕ) (each calls calls' most : ℕ) → left ≡ bytes ∷ after
    → calls + length left * each ≤ most → calls' ≤ calls + each → calls' + length after * each ≤ most
fewer_calls left after bytes each calls calls' most is before more =
    let one : (length after + 1) * each ≡ length after * each + each = omega arith in
    let size : length left ≡ length after + 1 = omega (arith, ap length is) in
    omega (arith, rw size at before, one, more)

module _ (x : Texts) (walked : RecordsEnd) (tries : Tries) where
  listed_cause : (walked : RecordsEnd) → cause_of (listed_end walked) ≡ AtEnd
  listed_cause RecordsEnd.Whole = refl
  listed_cause (RecordsEnd.Cycle n) = refl
  listed_cause (RecordsEnd.Missing n) = refl

  -- no record is left
  pub none_located : (s : Seen) (text : Output) → IsHonest s
      → PrintsLocated x walked tries [] (change s s text text) (listed_end walked)
  none_located s text h [] start points is = record {
    ends = rw (listed_cause walked) (ends_here h refl tt);
    prints = λ keeps. rw (listed_cause walked) (none_printed (IsTextWhile x s s) text text refl, refl);
    calls_are = λ same. omega arith;
  }
  none_located s text h (row ∷ rows) start points is = cc is

  -- what is printed of the records that are left leads to what is printed of all of them
  abbrev pub LeadsLocated : List (List ℕ) → List (List ℕ) → Seen → Seen → Output → Output → Type 0
  LeadsLocated all left s s' old text = (s'' : Seen) (new : Output) (ending : Ending)
      → PrintsLocated x walked tries left (change s' s'' text new) ending
      → PrintsLocated x walked tries all (change s s'' old new) ending

  module _ (bytes : List ℕ) (records : List (List ℕ)) where
    -- the plan of a record with these bytes, in the words of the record
    of_row : (row : Row) (s s' : Seen) (old new : Output) (ending : Ending) → row.bytes ≡ bytes
        → PrintsLocator x tries bytes (change s s' old new) ending
        → PrintsPlan x tries (text_plan (OfRow Form.Device row) (locator_points (sdr_view_of row.bytes)))
        (λ store. calls_for_points tries store (locator_points (sdr_view_of row.bytes))) (change s s' old new) ending
    of_row row s s' old new ending is first =
        subst (λ (b : List ℕ). PrintsPlan x tries (text_plan (OfRow Form.Device row) (locator_points (sdr_view_of b)))
        (λ store. calls_for_points tries store (locator_points (sdr_view_of b))) (change s s' old new) ending) (sym is) (first row is)

    pub more_located : (s s' s'' : Seen) (old text new : Output) (ending : Ending)
        → PrintsLocator x tries bytes (change s s' old text) (Ok tt)
        → PrintsLocated x walked tries records (change s' s'' text new) ending
        → PrintsLocated x walked tries (bytes ∷ records) (change s s'' old new) ending
    more_located s s' s'' old text new ending first rest [] start points is = cc is
    more_located s s' s'' old text new ending first rest (row ∷ rows) start points is =
        let here = locator_points (sdr_view_of row.bytes) in
        then_plan x tries (OfRow Form.Device row) here (AtRecord (asked_at start) ∷ here)
        (record { items = row_items Form.Device (place_after row.next) rows; end = listed_end walked; end_points = points })
        (λ store. calls_for_points tries store here) (λ store. calls_for_devices tries store rows) s s' s'' old text new ending
        (of_row row s s' old text (Ok tt) (cc is) first) (rest rows (place_after row.next) points (cc is))

    pub not_located : (s s' : Seen) (old new : Output) (failure : Failure)
        → PrintsLocator x tries bytes (change s s' old new) (Err failure)
        → PrintsLocated x walked tries (bytes ∷ records) (change s s' old new) (Err failure)
    not_located s s' old new failure first [] start points is = cc is
    not_located s s' old new failure first (row ∷ rows) start points is =
        let here = locator_points (sdr_view_of row.bytes) in
        stops_plan x tries (OfRow Form.Device row) here (AtRecord (asked_at start) ∷ here)
        (record { items = row_items Form.Device (place_after row.next) rows; end = listed_end walked; end_points = points })
        (λ store. calls_for_points tries store here) (λ store. calls_for_devices tries store rows) (λ point among. grind arith) s s' old new failure
        (of_row row s s' old new (Err failure) (cc is) first)

    -- one record fewer is left
    pub leads_on : {all left : List (List ℕ)} {s s' s'' : Seen} {old text new : Output} → left ≡ bytes ∷ records
        → LeadsLocated all left s s' old text → PrintsLocator x tries bytes (change s' s'' text new) (Ok tt)
        → IsHonest s'' × LeadsLocated all records s s'' old new
    leads_on {s' = s'} {s'' = s''} {text = text} {new = new} is leads first = (
      (first (row_with bytes) refl).ends.stays.honest,
      λ last more ending rest. (rw is at leads) last more ending (more_located s' s'' last text new more ending first rest),
    )

    pub leads_no_further : {all left : List (List ℕ)} {s s' s'' : Seen} {old text new : Output} (failure : Failure) → left ≡ bytes ∷ records
        → LeadsLocated all left s s' old text → PrintsLocator x tries bytes (change s' s'' text new) (Err failure)
        → PrintsLocated x walked tries all (change s s'' old new) (Err failure)
    leads_no_further {s' = s'} {s'' = s''} {text = text} {new = new} failure is leads first =
        (rw is at leads) s'' new (Err failure) (not_located s' s'' text new failure first)

  pub leads_to_end : {all left : List (List ℕ)} {s s' : Seen} {old text : Output} → left ≡ [] → IsHonest s'
      → LeadsLocated all left s s' old text → PrintsLocated x walked tries all (change s s' old text) (listed_end walked)
  leads_to_end {s' = s'} {text = text} is h leads = (rw is at leads) s' text (listed_end walked) (none_located s' text h)

  -- ---- device 0, then those of the records

  device_0 : (name : Option (List ℕ)) (s s' : Seen) (old new : Output) (ending : Ending) → IsHonest s
      → Runs x (Job.Inventory Detail.Line 0 name) tries (change s s' old new) ending
      → PrintsPlan x tries (inventory_plan Detail.Line 0 name) (λ store. calls_for_point tries store (AtInventory 0)) (change s s' old new) ending
  device_0 name s s' old new ending h runs = record {
    ends = runs.why h;
    prints = λ keeps. runs.grows h (keeps_inventory 0 s s' keeps);
    calls_are = λ same. (runs.prints h same).1;
  }

  pub devices_stopped : (name : Option (List ℕ)) (records : List (List ℕ)) → name ≡ device_name 0 records
      → (s s' : Seen) (old new : Output) (failure : Failure) → IsHonest s
      → Runs x (Job.Inventory Detail.Line 0 name) tries (change s s' old new) (Err failure)
      → PrintsDevices x walked tries records (change s s' old new) (Err failure)
  devices_stopped name records name_is s s' old new failure h runs = λ rows end are end_is.
      rw (← name_is, ← end_is) (stops_plan x tries (OfInventory Detail.Line 0 name) (AtInventory 0 ∷ []) (AtInventory 0 ∷ [])
      (record { items = row_items Form.Device First rows; end = listed_end walked; end_points = points_at_walk_end First rows end })
      (λ store. calls_for_point tries store (AtInventory 0)) (λ store. calls_for_devices tries store rows) (λ point among. among) s s' old new failure
      (device_0 name s s' old new (Err failure) h runs))

  pub devices_printed : (name : Option (List ℕ)) (records : List (List ℕ)) → name ≡ device_name 0 records
      → (s s' s'' : Seen) (old text new : Output) (ending : Ending) → IsHonest s
      → Runs x (Job.Inventory Detail.Line 0 name) tries (change s s' old text) (Ok tt)
      → (IsHonest s' → PrintsLocated x walked tries records (change s' s'' text new) ending)
      → PrintsDevices x walked tries records (change s s'' old new) ending
  devices_printed name records name_is s s' s'' old text new ending h runs rest = λ rows end are end_is.
      let first = device_0 name s s' old text (Ok tt) h runs in
      let points = points_at_walk_end First rows end in
      rw (← name_is, ← end_is) (then_plan x tries (OfInventory Detail.Line 0 name) (AtInventory 0 ∷ []) (AtInventory 0 ∷ [])
      (record { items = row_items Form.Device First rows; end = listed_end walked; end_points = points })
      (λ store. calls_for_point tries store (AtInventory 0)) (λ store. calls_for_devices tries store rows) s s' s'' old text new ending
      first (rest first.ends.stays.honest rows First points are))

  -- there is no memory for the name of device 0
  pub devices_without_memory : (records : List (List ℕ)) (s : Seen) (text : Output) → IsHonest s
      → PrintsDevices x walked tries records (change s s text text) (Err Failure.OutOfMemory)
  devices_without_memory records s text h = λ rows end are end_is. record {
    ends = ends_here h refl tt;
    prints = λ keeps. no_items (IsTextWhile x s s) (inventories_plan (device_name 0 records) rows end) text text refl;
    calls_are = λ same. omega arith;
  }

-- ---- over any controller

-- the ends of one inventory are ends of them all
pub inventory_ends : (x : Texts) → (detail : Detail) (id : ℕ) (name : Option (List ℕ)) (c : Change) (ending : Ending)
    → EndsInventory x detail id name c ending → EndsNamed NameLookup.Devices c.seen' ending
inventory_ends x detail id name c (Ok done) ends = tt
inventory_ends x detail id name c (Err (Failure.Inventory device ended)) ends = (refl, ends.0)
inventory_ends x detail id name c (Err Failure.OutOfMemory) ends = tt
inventory_ends x detail id name c (Err Failure.WriteFault) ends = tt
inventory_ends x detail id name c (Err _) ends = absurd ends.writes

pub locator_ends : (unread : ReadError) (seen : Seen) → LacksInventory unread seen
    → EndsNamed NameLookup.Devices seen (Err (failure_of unread))
locator_ends unread seen lacks = grind arith

pub listed_ends : (walked : RecordsEnd) (seen : Seen) → EndsNamed NameLookup.Devices seen (listed_end walked)
listed_ends RecordsEnd.Whole seen = tt
listed_ends (RecordsEnd.Cycle n) seen = (tt, tt)
listed_ends (RecordsEnd.Missing n) seen = tt
