-- A command prints the same over a capture as over the controller's store.
use Rattle.std.proofs.Common.{◌≡◌, ℕ, ◌+◌, ◌-◌, Bool, true, false, cond, nat_eq, ◌⊎◌, get_or, Option, None, Some, Result, Ok, Err, List, [], ◌∷◌, length, take, inl, inr, refl, sym, ap, subst, ◌∙◌, arith, All, filter_map}
use Rattle.std.specs.List.{Any, cons_option, filter}
use Rattle.std.proofs.lemmas.Bool.{and_parts, true≢false}
use Rattle.std.proofs.lemmas.List.Elements.{All-cons, All-contains, All-contains_itself, All-head, All-nil, All-tail}
use Rattle.std.proofs.lemmas.Option.{none-some}
use Rattle.ipmi_capture.specs.Below.{End, EndsBy, First, first_row, FoundIsRow, Id, info_of, inventory_of, IsStore, IsWalk, look, Place, place_after, place_after_rows, Reading, reading_of, Row, row_with_id, rows_of, Sdr, SdrFault, SdrView, sdr_view_of, Sel, Shelf, start_of, Store, store_shelf, WalkEnd, WalkExists, WalkIsUnique}
use Rattle.ipmi_capture.specs.Capture.{device_named, devices_of, HasWalk, InventoryOrLeft, IsCaptureBut, IsCaptureOf, ReadingOrLeft, SameInventory, SameReading, SameWalk, sensor_named, sensors_of, WalkOrLeft}
use Rattle.ipmi_capture.specs.Laws.{AreOfCapture, CapturesPrintTheSame, CapturesPrintWhatTheyHave, choosing_any, devices_asked, is_info_asked, is_walked, IsKnownPlace, IsOfCapture, IsUnneeded, PrintsTheSame, SamePlan, SameText, sensors_asked}
use Rattle.ipmi_capture.specs.Left.{EndIsNoted, LacksInfo, LacksInventory, LacksReading, LacksRecords, SameOrLeft}
use Rattle.ipmi_capture.specs.declared.left.Left.{Left}
use Rattle.ipmi_records.specs.Prelude.{known}
use Rattle.ipmi_commands.specs.Prelude.{first_rows, after_names, after_points, AtInventory, AtRecord, bytes_of_rows, devices_job, events_job, named_entries, has_last, IfChosen, info_plan, inventories_plan, inventory_plan, IsBlockOfName, IsDevicePiece, IsLocatorPiece, IsRecordText, IsRowText, IsTextOfRecord, Texts, Item, kept_items, kept_plan, last_rows, listing, listing_plan, OfInventory, OnEntries, OnTail, OnTailFrom, OnTried, OnWalk, OnWhole, Plan, points_of_walk, reading_by, reading_for, row_items, ReadPoint, tail_from, walk_call_bound, points_before, view_has_name, with_first_points}
use Rattle.ipmi_command_line.specs.declared.filters.Filters.{Filters}
use Rattle.ipmi_commands.specs.Job.{choosing, entries_job, keeping_last}
use Rattle.ipmi_selection.specs.Selection.{chosen, if_passes, in_detail, is_name, of_kind, passes, row_is_of_kind, Selected, SelectedEntries, selects, with_entry_filters, with_filters}
use Rattle.ipmi_commands.specs.declared.job.NameLookup.{NameLookup}
use Rattle.ipmi_selection.specs.declared.detail.Detail.{Detail}
use Rattle.ipmi_commands.specs.declared.job.EntryText.{EntryText}
use Rattle.ipmi_commands.specs.declared.job.Form.{Form}
use Rattle.ipmi_commands.specs.declared.job.Job.{Job}
use Rattle.ipmi_commands.specs.declared.limits.Tries.{Tries}
use Rattle.ipmi_command_line.specs.declared.task.Count.{Count}
use Rattle.ipmi_command_line.specs.declared.task.Kind.{Kind}
use Rattle.ipmi_command_line.specs.declared.task.Task.{Task}
use Rattle.ipmi_events.specs.Name.{device_name}
use Rattle.ipmi_records.specs.SdrText.{printed_name}
use Rattle.ipmi_records.specs.Sdr as sdr
use Rattle.ipmi_commands.proofs.TailLemmas.{tail_map}
use Rattle.ipmi_capture.proofs.FromLemmas.{Among, from_end, from_id, look_at}

-- ---- texts

-- both have the same texts
abbrev Same : (List ℕ → Type 0) → (List ℕ → Type 0) → Type 0
Same P Q = (text : List ℕ) → (P text → Q text) × (Q text → P text)

itself : (P : List ℕ → Type 0) → Same P P
itself P text = (λ is. is, λ is. is)

if_chosen : (P Q : List ℕ → Type 0) (b : Bool) → (b ≡ true → Same P Q)
    → Same (λ text. IfChosen b P text) (λ text. IfChosen b Q text)
if_chosen P Q true same = same refl
if_chosen P Q false same = itself (λ text. text ≡ [])

-- a record that is selected is of the kind
kind_of_selected : (filters : Option Filters) (row : Row) (is_of_kind : Bool) → if_passes filters row is_of_kind ≡ true → is_of_kind ≡ true
kind_of_selected None row is_of_kind is = is
kind_of_selected (Some filters) row is_of_kind is = (and_parts is_of_kind (passes filters row) is).0

module _ (x : Texts) (a b : Store) where
  -- the reading requested for a record is the same in both stores
  abbrev SameFor : Result SdrView SdrFault → Type 0
  SameFor (Ok view) = reading_for a view ≡ reading_for b view
  SameFor (Err fault) = Unit {0}

  record_text : (detail : Detail) (row : Row) (r : Result SdrView SdrFault) → SameFor r
      → Same (λ text. IsRecordText x detail a row r text) (λ text. IsRecordText x detail b row r text)
  record_text detail row (Ok view) same =
      subst (λ (o : Option Reading). Same (λ text. IsTextOfRecord x detail row.id view (known (reading_for a view)) text) (λ text. IsTextOfRecord x detail row.id view (known o) text)) same (itself _)
  record_text detail row (Err fault) same = itself _

  block : (name : List ℕ) (id : ℕ) (r : Result SdrView SdrFault) → (view_has_name name r ≡ true → SameFor r)
      → Same (λ text. IsBlockOfName x name a id r text) (λ text. IsBlockOfName x name b id r text)
  block name id (Ok view) same =
      if_chosen _ _ (is_name name (sdr.name_of view)) (λ has.
      subst (λ (o : Option Reading). Same (λ text. IsTextOfRecord x Detail.Block id view (known (reading_for a view)) text) (λ text. IsTextOfRecord x Detail.Block id view (known o) text)) (same has) (itself _))
  block name id (Err fault) same = itself _

  piece : (detail : Detail) (id : ℕ) (name : Option (List ℕ)) → inventory_of id a ≡ inventory_of id b
      → Same (λ text. x.IsDevice detail id name (inventory_of id a) text) (λ text. x.IsDevice detail id name (inventory_of id b) text)
  piece detail id name same =
      subst (λ (o : Option (List ℕ)). Same (λ text. x.IsDevice detail id name (inventory_of id a) text) (λ text. x.IsDevice detail id name o text)) same (itself _)

  device : (name : List ℕ) (o : Option ℕ) → ((id : ℕ) → o ≡ Some id → inventory_of id a ≡ inventory_of id b)
      → Same (λ text. IsDevicePiece x a name o text) (λ text. IsDevicePiece x b name o text)
  device name None same = itself _
  device name (Some id) same = if_chosen _ _ _ (λ other. piece Detail.Line id (Some name) (same id refl))

  locator : (r : Result SdrView SdrFault) → ((id : ℕ) → device_named r ≡ Some id → inventory_of id a ≡ inventory_of id b)
      → Same (λ text. IsLocatorPiece x a r text) (λ text. IsLocatorPiece x b r text)
  locator (Ok (SdrView.Fru bytes)) same = device (printed_name (SdrView.Fru bytes)) (sdr.fru_of (SdrView.Fru bytes)) same
  locator (Ok (SdrView.Full bytes)) same = itself _
  locator (Ok (SdrView.Compact bytes)) same = itself _
  locator (Ok (SdrView.EventOnly bytes)) same = itself _
  locator (Ok (SdrView.Generic bytes)) same = itself _
  locator (Ok (SdrView.Controller bytes)) same = itself _
  locator (Ok (SdrView.Other bytes)) same = itself _
  locator (Err fault) same = itself _

  -- ---- items

  rows_same : (form : _) (start : Place) (rows : List Row)
      → ((row : Row) → Among rows row → Same (λ text. IsRowText x a form row text) (λ text. IsRowText x b form row text))
      → All (SameText x a b) (row_items form start rows)
  rows_same form start [] same = All-nil (SameText x a b)
  rows_same form start (row ∷ rows) same =
      All-cons (SameText x a b) _ _ (same row (inl refl)) (rows_same form (place_after row.next) rows (λ r among. same r (inr among)))

  kept_same : (entries : EntryText) (rows : List Row) → All (SameText x a b) (kept_items entries rows)
  kept_same entries [] = All-nil (SameText x a b)
  kept_same entries (row ∷ rows) = All-cons (SameText x a b) _ _ (itself _) (kept_same entries rows)

  -- the inventory of a device, and other items
  inventory_same : (detail : Detail) (id : ℕ) (name : Option (List ℕ)) (items : List Item) (points : List ReadPoint)
      → inventory_of id a ≡ inventory_of id b → All (SameText x a b) items
      → All (SameText x a b) (record { subject = OfInventory detail id name; points = points } ∷ items)
  inventory_same detail id name items points same others =
      All-cons (SameText x a b) _ _ (piece detail id name same) others

  -- the first item with other points
  first_texts : (points : List ReadPoint) (items : List Item) → All (SameText x a b) items
      → All (SameText x a b) (with_first_points points items)
  first_texts points [] same = same
  first_texts points (item ∷ items) same =
      All-cons (SameText x a b) (record { subject = item.subject; points = points }) items (All-head (SameText x a b) item items same) (All-tail (SameText x a b) item items same)

  info_same : (shelf : Shelf) (o : Option (List ℕ))
      → All (SameText x a b) (info_plan shelf o).items
  info_same shelf None = All-nil (SameText x a b)
  info_same shelf (Some info) = All-cons (SameText x a b) _ [] (itself _) (All-nil (SameText x a b))

-- ---- names in rows

of_rest : {X : Type 0} (P : X → Type 0) (o : Option X) (xs : List X) → All P (cons_option o xs) → All P xs
of_rest P None xs all = all
of_rest P (Some x) xs all = All-tail P x xs all

-- a fact about all names holds for the name in one row
named : {X : Type 0} (h : Row → Option X) (P : X → Type 0) (rows : List Row) (row : Row) (x : X)
    → Among rows row → h row ≡ Some x → All P (filter_map h rows) → P x
named h P [] row x among is all = absurd among
named {X = X} h P (r ∷ rows) row x (inl same) is all = first (h r) (ap h (sym same) ∙ is) all
  where
    first : (o : Option X) → o ≡ Some x → All P (cons_option o (filter_map h rows)) → P x
    first None at all = absurd (none-some x at)
    first (Some y) at all = let is : y ≡ x = grind (arith, at) in rw is at (all 0 x (omega arith))
named h P (r ∷ rows) row x (inr among) is all = named h P rows row x among is (of_rest P (h r) (filter_map h rows) all)

found_among : (rows : List Row) (n : ℕ) (row : Row) → row_with_id n rows ≡ Some row → Among rows row
found_among [] n row at = absurd (none-some row at)
found_among (y ∷ ys) n row at = by (nat_eq y.id n) at (found_among ys n row)
  where
    by : (b : Bool) → cond b (Some y) (row_with_id n ys) ≡ Some row
        → (row_with_id n ys ≡ Some row → Among ys row) → Among (y ∷ ys) row
    by true at later = inl (grind (arith, at))
    by false at later = inr (later at)

looked_up : (rows : List Row) (n : ℕ) (row : Row) → look rows n ≡ Some row → Among rows row
looked_up rows n row at = by (nat_eq n 0) at
  where
    first : (rows : List Row) → first_row rows ≡ Some row → Among rows row
    first [] at = absurd (none-some row at)
    first (x ∷ xs) at = inl (grind (arith, at))

    by : (b : Bool) → cond b (first_row rows) (row_with_id n rows) ≡ Some row → Among rows row
    by true at = first rows at
    by false at = found_among rows n row at

-- a row that passes the test is among the rows that do
kept : (test : Row → Bool) (rows : List Row) (row : Row) → Among rows row → test row ≡ true
    → Among (filter test rows) row
kept test [] row among passes = absurd among
kept test (x ∷ xs) row among passes = by (test x) refl among (λ later. kept test xs row later passes)
  where
    by : (b : Bool) → test x ≡ b → Among (x ∷ xs) row → (Among xs row → Among (filter test xs) row)
        → Among (cond b (x ∷ filter test xs) (filter test xs)) row
    by true e (inl same) kept_later = inl same
    by true e (inr later) kept_later = inr (kept_later later)
    by false e (inl same) kept_later = absurd (true≢false (sym passes ∙ ap test same ∙ e))
    by false e (inr later) kept_later = kept_later later

-- a fact about all names in rows holds for the names in some of the rows
of_some : {X : Type 0} (h : Row → Option X) (P : X → Type 0) (test : Row → Bool) (rows : List Row)
    → All P (filter_map h rows) → All P (filter_map h (filter test rows))
of_some h P test [] all = All-nil P
of_some {X = X} h P test (row ∷ rows) all =
    by (test row) (of_some h P test rows (of_rest P (h row) (filter_map h rows) all))
  where
    put : (o : Option X) (xs ys : List X) → All P (cons_option o xs) → All P ys → All P (cons_option o ys)
    put None xs ys all later = later
    put (Some x) xs ys all later = All-cons P x ys (All-head P x xs all) later

    by : (b : Bool) → All P (filter_map h (filter test rows))
        → All P (filter_map h (cond b (row ∷ filter test rows) (filter test rows)))
    by true later = put (h row) (filter_map h rows) (filter_map h (filter test rows)) all later
    by false later = later

-- ---- the requests of a command

-- everything that the command requests is the same in both stores
record HasAsked (has_names : Detail → Bool) (image store : Store) (task : Task) : Type 0 where
  walk : (shelf : Shelf) → is_walked shelf has_names task ≡ true → SameWalk shelf image store
  info : (shelf : Shelf) → is_info_asked shelf task ≡ true → info_of shelf image ≡ info_of shelf store
  readings : All (SameReading image store) (sensors_asked task image.sdr)
  inventories : All (SameInventory image store) (devices_asked task image.sdr)

module _ (image : Store) where
  asked_readings : (P : ℕ × ℕ → Type 0) (task : Task) → All P (sensors_of image.sdr)
      → All P (sensors_asked task image.sdr)
  asked_readings P Task.Hex all = All-nil P
  asked_readings P (Task.List kind) all = of_some _ P (row_is_of_kind kind) image.sdr all
  asked_readings P (Task.Elist kind) all = of_some _ P (row_is_of_kind kind) image.sdr all
  asked_readings P (Task.Get name) all = of_some _ P (λ row. view_has_name name (sdr_view_of row.bytes)) image.sdr all
  asked_readings P (Task.SelList count) all = All-nil P
  asked_readings P (Task.SelGet id) all = All-nil P
  asked_readings P (Task.Info shelf) all = All-nil P
  asked_readings P (Task.Fru None) all = All-nil P
  asked_readings P (Task.Fru (Some id)) all = All-nil P
  asked_readings P Task.Rewrite all = All-nil P

  asked_inventories : (P : ℕ → Type 0) (task : Task) (from : Option ℕ) → IsOfCapture image task from
      → All P (0 ∷ devices_of image.sdr) → All P (devices_asked task image.sdr)
  asked_inventories P Task.Hex from known all = All-nil P
  asked_inventories P (Task.List kind) from known all = All-nil P
  asked_inventories P (Task.Elist kind) from known all = All-nil P
  asked_inventories P (Task.Get name) from known all = All-nil P
  asked_inventories P (Task.SelList count) from known all = All-nil P
  asked_inventories P (Task.SelGet id) from known all = All-nil P
  asked_inventories P (Task.Info shelf) from known all = All-nil P
  asked_inventories P (Task.Fru None) from known all = all
  asked_inventories P (Task.Fru (Some id)) from known all =
      All-cons P id [] (All-contains P (0 ∷ devices_of image.sdr) id all known) (All-nil P)
  asked_inventories P Task.Rewrite from known all = All-nil P

-- this holds for a capture that lacks nothing
asked_of_capture : (has_names : Detail → Bool) (image store : Store) (task : Task) (from : Option ℕ)
    → IsCaptureOf image store → IsOfCapture image task from → HasAsked has_names image store task
asked_of_capture has_names image store task from capture known = record {
  walk = λ shelf walked. walk shelf;
  info = λ shelf asked. info shelf;
  readings = asked_readings image (SameReading image store) task capture.readings;
  inventories = asked_inventories image (SameInventory image store) task from known capture.inventories;
}
  where
    walk : (shelf : Shelf) → SameWalk shelf image store
    walk Sdr = capture.sdr
    walk Sel = capture.sel

    info : (shelf : Shelf) → info_of shelf image ≡ info_of shelf store
    info Sdr = capture.sdr_info
    info Sel = capture.sel_info

-- this holds for a capture that lacks only items that are not requested
module _ (has_names : Detail → Bool) (left : List Left) (image store : Store) (task : Task) (from : Option ℕ)
    (capture : IsCaptureBut left image store) (unneeded : All (IsUnneeded has_names image task) left)
    (known : IsOfCapture image task from) where
  -- no item left out is requested
  never : (P : Left → Type 0) → ((l : Left) → IsUnneeded has_names image task l → P l → ⊥) → Any P left → ⊥
  never P none any = none any.1 (subst (λ (l : Left). IsUnneeded has_names image task l) any.3 (unneeded any.0 any.1 any.2)) any.4

  same_of : {V : Type 0} (P : Left → Type 0) (a b : Option V)
      → ((l : Left) → IsUnneeded has_names image task l → P l → ⊥) → SameOrLeft P left a b → a ≡ b
  same_of P a b none (inl same) = same
  same_of P a b none (inr lacks) = absurd (never P none lacks.1)

  walk_of : (shelf : Shelf) → is_walked shelf has_names task ≡ true → WalkOrLeft shelf left image store
      → SameWalk shelf image store
  walk_of shelf walked walks = λ walk end is ends. by walk end (walks walk end is ends)
    where
      by : (walk : List Row) (end : WalkEnd)
          → (HasWalk shelf image walk end × EndIsNoted shelf left end)
          ⊎ ((rows_of shelf image ≡ take (length (rows_of shelf image)) walk) × Any (LacksRecords shelf) left)
          → HasWalk shelf image walk end
      by walk end (inl same) = same.0
      by walk end (inr front) =
          absurd (never (LacksRecords shelf) (λ l none lacks. true≢false (sym walked ∙ none.records shelf lacks)) front.1)

  asked_of_rest : HasAsked has_names image store task
  asked_of_rest = record {
    walk = λ shelf walked. walk shelf walked;
    info = λ shelf asked. info shelf asked;
    readings = λ k d lt.
        let keys = sensors_asked task image.sdr in
        let key = get_or keys k d in
        same_of (LacksReading key.0 key.1) (reading_of key.0 key.1 image) (reading_of key.0 key.1 store)
        (λ l none lacks. none.reading key.0 key.1 lacks (All-contains_itself keys k d lt))
        (asked_readings image (ReadingOrLeft left image store) task capture.readings k d lt);
    inventories = λ k d lt.
        let ids = devices_asked task image.sdr in
        let id = get_or ids k d in
        same_of (LacksInventory id) (inventory_of id image) (inventory_of id store)
        (λ l none lacks. none.inventory id lacks (All-contains_itself ids k d lt))
        (asked_inventories image (InventoryOrLeft left image store) task from known capture.inventories k d lt);
  }
    where
      walk : (shelf : Shelf) → is_walked shelf has_names task ≡ true → SameWalk shelf image store
      walk Sdr walked = walk_of Sdr walked capture.sdr
      walk Sel walked = walk_of Sel walked capture.sel

      info : (shelf : Shelf) → is_info_asked shelf task ≡ true → info_of shelf image ≡ info_of shelf store
      info Sdr asked = same_of (LacksInfo Sdr) _ _ (λ l none lacks. true≢false (sym asked ∙ none.info Sdr lacks)) capture.sdr_info
      info Sel asked = same_of (LacksInfo Sel) _ _ (λ l none lacks. true≢false (sym asked ∙ none.info Sel lacks)) capture.sel_info

-- ---- plans

module _ (x : Texts) (exists : WalkExists) (unique : WalkIsUnique) (found : FoundIsRow) (image store : Store)
    (is_image : IsStore image) (is_store : IsStore store) where
  same_from : (shelf : Shelf) (start : Place) → SameWalk shelf image store → IsKnownPlace shelf image start
      → (walk : List Row) (end : WalkEnd) → IsWalk (rows_of shelf store) start walk
      → EndsBy (rows_of shelf store) start walk end
      → IsWalk (rows_of shelf image) start walk × EndsBy (rows_of shelf image) start walk end
  same_from shelf First same known walk end is ends =
      let here = same walk end is ends in (here.1, here.2)
  same_from shelf End same known walk end is ends = from_end (rows_of shelf store) (rows_of shelf image) walk end is ends
  same_from shelf (Id n) same known walk end is ends =
      let there = exists shelf (rows_of shelf store) First (store_shelf shelf store is_store) in
      let here = same there.0 there.1 there.2 there.3 in
      from_id found shelf (rows_of shelf store) (rows_of shelf image) there.0 there.1 (store_shelf shelf store is_store) there.2 there.3 here.1 here.2 n walk end (known there.0 there.1 here.1 here.2) is ends

  one_walk : (shelf : Shelf) (start : Place) → SameWalk shelf image store → IsKnownPlace shelf image start
      → (walk walk' : List Row) (end end' : WalkEnd) → IsWalk (rows_of shelf store) start walk
      → EndsBy (rows_of shelf store) start walk end → IsWalk (rows_of shelf image) start walk'
      → EndsBy (rows_of shelf image) start walk' end'
      → (walk' ≡ walk) × (end' ≡ end) × IsWalk (rows_of shelf image) start walk
  one_walk shelf start same known walk walk' end end' is ends is' ends' =
      let here = same_from shelf start same known walk end is ends in
      let one = unique shelf (rows_of shelf image) start walk' walk end' end (store_shelf shelf image is_image) is' ends' here.0 here.1 in
      (one.0, one.1, here.0)

  -- a listing of sensor data records
  records_same : (form : _) (from : Option ℕ) → SameWalk Sdr image store
      → IsKnownPlace Sdr image (start_of from)
      → ((row : Row) → Among image.sdr row
      → Same (λ text. IsRowText x image form row text) (λ text. IsRowText x store form row text))
      → OnWalk Sdr (start_of from) store (λ walk end. OnWalk Sdr (start_of from) image (λ walk' end'.
      (walk' ≡ walk) × (end' ≡ end) × All (SameText x image store) (row_items form (start_of from) walk)))
  records_same form from walks known same = λ walk end is ends walk' end' is' ends'.
      let one = one_walk Sdr (start_of from) walks known walk walk' end end' is ends is' ends' in (
        one.0,
        one.1,
        rows_same x image store form (start_of from) walk (λ row among. same row
            (looked_up image.sdr row.id row (look_at image.sdr walk row one.2.of_shelf among))),
      )

  -- the readings that it requests
  row_reads : (test : Row → Bool) → All (SameReading image store) (sensors_of (filter test image.sdr))
      → (row : Row) → Among image.sdr row → test row ≡ true
      → SameFor x image store (sdr_view_of row.bytes)
  row_reads test same row among passes = by (sdr_view_of row.bytes) (λ key is.
      named (λ (r : Row). sensor_named (sdr_view_of r.bytes)) (SameReading image store) (filter test image.sdr) row key (kept test image.sdr row among passes) is same)
    where
      reading : (o : Option (ℕ × ℕ)) → ((key : ℕ × ℕ) → o ≡ Some key → SameReading image store key)
          → reading_by image o ≡ reading_by store o
      reading None same = refl
      reading (Some key) same = same key refl

      by : (r : Result SdrView SdrFault)
          → ((key : ℕ × ℕ) → sensor_named r ≡ Some key → SameReading image store key)
          → SameFor x image store r
      by (Ok view) same = reading (sdr.reading_of view) same
      by (Err fault) same = tt

  -- the plan of a listing of all records
  listing_same : (form : _) (from : Option ℕ) → SameWalk Sdr image store
      → IsKnownPlace Sdr image (start_of from)
      → ((row : Row) → Among image.sdr row
      → Same (λ text. IsRowText x image form row text) (λ text. IsRowText x store form row text))
      → OnWalk Sdr (start_of from) store (λ walk end. OnWalk Sdr (start_of from) image (λ walk' end'.
      (listing_plan (listing form (start_of from) None) walk' end' ≡ listing_plan (listing form (start_of from) None) walk end)
      × All (SameText x image store) (listing_plan (listing form (start_of from) None) walk end).items))
  listing_same form from walks known same = λ walk end is ends walk' end' is' ends'.
      let one = records_same form from walks known same walk end is ends walk' end' is' ends' in
      (rw (one.0, one.1) refl, one.2)

  -- the text of a record of the kind
  record_same : (detail : Detail) (selection : Selected) → All (SameReading image store) (sensors_of (filter (row_is_of_kind selection.kind) image.sdr))
      → (row : Row) → Among image.sdr row
      → Same (λ text. IsRowText x image (Form.Record detail selection) row text) (λ text. IsRowText x store (Form.Record detail selection) row text)
  record_same detail selection readings row among =
      if_chosen _ _ (selects selection row) (λ is. record_text x image store detail row (sdr_view_of row.bytes)
      (row_reads (row_is_of_kind selection.kind) readings row among (kind_of_selected selection.filters row (row_is_of_kind selection.kind row) is)))

  -- the block of a record with the name
  block_same : (name : List ℕ)
      → All (SameReading image store) (sensors_of (filter (λ row. view_has_name name (sdr_view_of row.bytes)) image.sdr))
      → (row : Row) → Among image.sdr row
      → Same (λ text. IsBlockOfName x name image row.id (sdr_view_of row.bytes) text)
      (λ text. IsBlockOfName x name store row.id (sdr_view_of row.bytes) text)
  block_same name readings row among =
      block x image store name row.id (sdr_view_of row.bytes)
      (row_reads (λ (r : Row). view_has_name name (sdr_view_of r.bytes)) readings row among)

  -- the last entries of a walk from the first one, with lines of this form
  module _ (entries : EntryText) (n : ℕ) (walks : SameWalk Sel image store) (tries tries' : Tries) where
    abbrev Agree : Plan → Plan → Type 0
    Agree plan plan' = (plan' ≡ plan) × All (SameText x image store) plan.items

    last_agree : (points : List ReadPoint) (start : Place) (walk : List Row) (end : WalkEnd)
        → All (SameText x image store) (after_points points (kept_plan entries n start walk end)).items
    last_agree points start walk end =
        first_texts x image store _ _ (first_texts x image store _ _ (kept_same x image store entries (last_rows n (chosen entries.selection walk) end)))

    whole_same : (points : List ReadPoint) (calls calls' : ℕ) → OnWhole points calls entries n tries store (λ plan c.
        OnWhole points calls' entries n tries' image (λ plan' c'. Agree plan plan'))
    whole_same points calls calls' = λ walk end is ends walk' end' is' ends'.
        let one = one_walk Sel First walks tt walk walk' end end' is ends is' ends' in
        (rw (one.0, one.1) refl, last_agree points First walk end)

    -- or of one from a known id
    module _ (id : ℕ) (known : IsKnownPlace Sel image (Id id)) (tail : List Row) (end : WalkEnd)
        (is : IsWalk (rows_of Sel store) (Id id) tail) (ends : EndsBy (rows_of Sel store) (Id id) tail end) where
      moved : (P : Plan → ℕ → Type 0) (tail' : List Row) (end' : WalkEnd) → tail' ≡ tail → end' ≡ end → (has : Bool)
          → has_last n (chosen entries.selection tail) end ≡ has
          → OnTried has id tail end entries n tries' image P → OnTried (has_last n (chosen entries.selection tail') end') id tail' end' entries n tries' image P
      moved P tail' end' a b has all on =
          subst (λ (e : WalkEnd). OnTried (has_last n (chosen entries.selection tail') e) id tail' e entries n tries' image P) (sym b)
          (subst (λ (l : List Row). OnTried (has_last n (chosen entries.selection l) end) id l end entries n tries' image P) (sym a)
          (subst (λ (h : Bool). OnTried h id tail end entries n tries' image P) (sym all) on))

      tried_same : (has : Bool) → has_last n (chosen entries.selection tail) end ≡ has → OnTried has id tail end entries n tries store (λ plan c.
          OnTailFrom (Some id) entries n tries' image (λ plan' c'. Agree plan plan'))
      tried_same true all = λ tail' end' is' ends'.
          let one = one_walk Sel (Id id) walks known tail tail' end end' is ends is' ends' in
          let plan = after_points (AtRecord 0 ∷ []) (kept_plan entries n (Id id) tail end) in
          moved (λ plan' c'. Agree plan plan') tail' end' one.0 one.1 true all (refl, last_agree (AtRecord 0 ∷ []) (Id id) tail end)
      tried_same false all = λ walk at w e tail' end' is' ends'.
          let one = one_walk Sel (Id id) walks known tail tail' end end' is ends is' ends' in
          let points = AtRecord 0 ∷ points_of_walk (Id id) tail end in
          let plan = after_points points (kept_plan entries n First walk at) in
          moved (λ plan' c'. Agree plan plan') tail' end' one.0 one.1 false all
          (whole_same points (tries.count + 1 + walk_call_bound Form.Skipped store tries tail) (tries'.count + 1 + walk_call_bound Form.Skipped image tries' tail) walk at w e)

    tail_same : (start : Option ℕ) → IsKnownPlace Sel image (start_of start) → OnTailFrom start entries n tries store (λ plan c.
        OnTailFrom start entries n tries' image (λ plan' c'. Agree plan plan'))
    tail_same None known = whole_same (AtRecord 0 ∷ []) (tries.count + 1) (tries'.count + 1)
    tail_same (Some id) known = λ tail end is ends. tried_same id known tail end is ends (has_last n (chosen entries.selection tail) end) refl

  -- the info is the same, if it says where the entries begin
  abbrev SameStart : Count → Type 0
  SameStart (Count.Tail n) = info_of Sel image ≡ info_of Sel store
  SameStart count = Unit {0}

  same_start : (count : Count) → (is_info_asked Sel (Task.SelList count) ≡ true → info_of Sel image ≡ info_of Sel store) → SameStart count
  same_start (Count.Tail n) same = same refl
  same_start Count.All same = tt
  same_start (Count.First n) same = tt
  same_start (Count.Last n) same = tt

  -- a listing of entries with lines of this form
  lines_same : (entries : _) (count : Count) (from : Option ℕ)
      → SameWalk Sel image store → SameStart count → AreOfCapture image count from → (tries tries' : Tries)
      → OnEntries entries count from tries store (λ plan calls.
      OnEntries entries count from tries' image (λ plan' calls'.
      (plan' ≡ plan) × All (SameText x image store) plan.items))
  lines_same entries Count.All from walks start known = λ tries tries' walk end is ends walk' end' is' ends'.
      let one = one_walk Sel (start_of from) walks known walk walk' end end' is ends is' ends' in
      (rw (one.0, one.1) refl, rows_same x image store _ (start_of from) walk (λ row among. itself _))
  lines_same entries (Count.First n) from walks start known = λ tries tries' walk end is ends walk' end' is' ends'.
      let one = one_walk Sel (start_of from) walks known walk walk' end end' is ends is' ends' in
      (rw (one.0, one.1) refl, rows_same x image store _ (start_of from) (first_rows (Form.Entry entries) (Some n) walk) (λ row among. itself _))
  lines_same entries (Count.Last n) from walks start known = λ tries tries' walk end is ends walk' end' is' ends'.
      let one = one_walk Sel (start_of from) walks known walk walk' end end' is ends is' ends' in (
        rw (one.0, one.1) refl,
        first_texts x image store _ _ (kept_same x image store entries (last_rows n (chosen entries.selection walk) end)),
      )
  lines_same entries (Count.Tail n) from walks start known = λ tries tries'.
      subst (λ (o : Option ℕ). OnTailFrom o entries n tries store (λ plan c. OnTail entries n tries' image (λ plan' c'. Agree entries n walks tries tries' plan plan')))
      (ap (tail_from n) start) (tail_same entries n walks tries tries' (tail_from n (info_of Sel image)) known)

  -- the last entries, counted on one walk and listed on another
  last_same : (entries : EntryText) (n : ℕ) (from : Option ℕ) → SameWalk Sel image store → IsKnownPlace Sel image (start_of from)
      → SamePlan x (Some (Job.Last entries n from)) image store
  last_same entries n from walks known = λ tries tries' walk end is ends walk' end' is' ends'.
      let place = start_of from in
      let one = one_walk Sel place walks known walk walk' end end' is ends is' ends' in
      let at = place_after_rows place (take (length walk - n) walk) in (
        rw (one.0, one.1) refl,
        first_texts x image store _ _ (rows_same x image store _ at (last_rows n walk end) (λ row among. itself _)),
      )

  -- events with the names of their sensors: the sensor data records are walked first
  events_same : (detail : SelectedEntries) (count : Count) (from : Option ℕ) → SameWalk Sdr image store → SameWalk Sel image store
      → SameStart count → AreOfCapture image count from → (tries tries' : Tries)
      → OnWalk Sdr First store (λ sensors end. OnEntries (named_entries detail (bytes_of_rows sensors)) count from tries store (λ plan calls.
      OnWalk Sdr First image (λ sensors' end'. OnEntries (named_entries detail (bytes_of_rows sensors')) count from tries' image (λ plan' calls'.
      (after_names sensors' end' plan' ≡ after_names sensors end plan) × All (SameText x image store) (after_names sensors end plan).items))))
  events_same detail Count.All from records entries start known = λ tries tries' sensors end is ends walk e w we sensors' end' is' ends' walk' e' w' we'.
      let one = one_walk Sdr First records tt sensors sensors' end end' is ends is' ends' in
      let same = lines_same (named_entries detail (bytes_of_rows sensors)) Count.All from entries start known tries tries' walk e w we walk' e' w' we' in
      (rw (one.0, one.1) (ap (after_names sensors end) same.0), first_texts x image store _ _ same.1)
  events_same detail (Count.First n) from records entries start known = λ tries tries' sensors end is ends walk e w we sensors' end' is' ends' walk' e' w' we'.
      let one = one_walk Sdr First records tt sensors sensors' end end' is ends is' ends' in
      let same = lines_same (named_entries detail (bytes_of_rows sensors)) (Count.First n) from entries start known tries tries' walk e w we walk' e' w' we' in
      (rw (one.0, one.1) (ap (after_names sensors end) same.0), first_texts x image store _ _ same.1)
  events_same detail (Count.Last n) from records entries start known = λ tries tries' sensors end is ends walk e w we sensors' end' is' ends' walk' e' w' we'.
      let one = one_walk Sdr First records tt sensors sensors' end end' is ends is' ends' in
      let same = lines_same (named_entries detail (bytes_of_rows sensors)) (Count.Last n) from entries start known tries tries' walk e w we walk' e' w' we' in
      (rw (one.0, one.1) (ap (after_names sensors end) same.0), first_texts x image store _ _ same.1)
  events_same detail (Count.Tail n) from records entries start known = λ tries tries' sensors end is ends.
      let lines = named_entries detail (bytes_of_rows sensors) in
      let named : Plan → Plan → Type 0 = λ plan plan'. (plan' ≡ after_names sensors end plan) × All (SameText x image store) (after_names sensors end plan).items in
      tail_map lines n tries tries store (λ plan c. OnTail lines n tries' image (λ plan' c'. (plan' ≡ plan) × All (SameText x image store) plan.items))
      (λ plan c. OnWalk Sdr First image (λ sensors' end'. OnTail (named_entries detail (bytes_of_rows sensors')) n tries' image (λ plan' c'. named plan (after_names sensors' end' plan'))))
      (λ plan calls on sensors' end' is' ends'.
      let one = one_walk Sdr First records tt sensors sensors' end end' is ends is' ends' in
      subst (λ (e : WalkEnd). OnTail (named_entries detail (bytes_of_rows sensors')) n tries' image (λ plan' c'. named plan (after_names sensors' e plan'))) (sym one.1)
      (subst (λ (l : List Row). OnTail (named_entries detail (bytes_of_rows l)) n tries' image (λ plan' c'. named plan (after_names l end plan'))) (sym one.0)
      (tail_map lines n tries' tries' image (λ plan' c'. (plan' ≡ plan) × All (SameText x image store) plan.items) (λ plan' c'. named plan (after_names sensors end plan'))
      (λ plan' calls' same. (ap (after_names sensors end) same.0, first_texts x image store _ _ same.1)) on)))
      (lines_same lines (Count.Tail n) from entries start known tries tries')

  -- all inventories, with the same name of device 0
  inventories_same : (name : Option (List ℕ)) → SameWalk Sdr image store
      → All (SameInventory image store) (0 ∷ devices_of image.sdr)
      → OnWalk Sdr First store (λ walk end. OnWalk Sdr First image (λ walk' end'.
      (inventories_plan name walk' end' ≡ inventories_plan name walk end)
      × All (SameText x image store) (inventories_plan name walk end).items))
  inventories_same name walks inventories = λ walk end is ends walk' end' is' ends'.
      let one = records_same _ None walks tt (λ row among.
      locator x image store (sdr_view_of row.bytes) (λ id is.
      named (λ (r : Row). device_named (sdr_view_of r.bytes)) (SameInventory image store) image.sdr row id among is
      (All-tail (SameInventory image store) 0 (devices_of image.sdr) inventories))) walk end is ends walk' end' is' ends' in (
        rw (one.0, one.1) refl,
        inventory_same x image store Detail.Line 0 name _ (AtInventory 0 ∷ [])
            (All-head (SameInventory image store) 0 (devices_of image.sdr) inventories) one.2,
      )

  -- all devices, with the name of device 0
  devices_same : SameWalk Sdr image store
      → All (SameInventory image store) (0 ∷ devices_of image.sdr) → (tries tries' : Tries)
      → OnWalk Sdr First store (λ records end. let plan = inventories_plan (device_name 0 (bytes_of_rows records)) records end in
      OnWalk Sdr First image (λ records' end'. let plan' = inventories_plan (device_name 0 (bytes_of_rows records')) records' end' in
      (after_names records' end' plan' ≡ after_names records end plan) × All (SameText x image store) (after_names records end plan).items))
  devices_same walks inventories = λ tries tries' records end is ends records' end' is' ends'.
      let one = one_walk Sdr First walks tt records records' end end' is ends is' ends' in
      let name = device_name 0 (bytes_of_rows records) in
      let plan = inventories_plan name records end in
      let same = inventories_same name walks inventories records end is ends records' end' is' ends' in
      (rw (one.0, one.1) refl, first_texts x image store (points_before records end plan) plan.items same.1)

  -- one inventory, and an info
  inventory_agrees : (id : ℕ) → SameInventory image store id
      → (inventory_plan Detail.Block id None ≡ inventory_plan Detail.Block id None) × All (SameText x image store) (inventory_plan Detail.Block id None).items
  inventory_agrees id same =
      (refl, inventory_same x image store Detail.Block id None [] (AtInventory id ∷ []) same (All-nil (SameText x image store)))

  info_agrees : (shelf : Shelf) → info_of shelf image ≡ info_of shelf store
      → (info_plan shelf (info_of shelf image) ≡ info_plan shelf (info_of shelf store))
      × All (SameText x image store) (info_plan shelf (info_of shelf store)).items
  info_agrees shelf same =
      (ap (info_plan shelf) same, info_same x image store shelf (info_of shelf store))

  info_asked : (shelf : Shelf) → is_info_asked shelf (Task.Info shelf) ≡ true
  info_asked Sdr = refl
  info_asked Sel = refl

  abbrev unnamed : SelectedEntries → EntryText
  unnamed selection = record { selection = selection; sensors = None }

  -- entries of this selection, with names or without
  abbrev events_for : Bool → SelectedEntries → Count → Option ℕ → Job
  events_for true selection count from = Job.NameLookup (NameLookup.Events selection count from)
  events_for false selection count from = entries_job (unnamed selection) count from

  abbrev BothSame : Job → Type 0
  BothSame job = SamePlan x (Some job) image store × SamePlan x (Some (keeping_last job)) image store

  entries_same : (has : Bool) (selection : SelectedEntries) (count : Count) (from : Option ℕ) → (has ≡ true → SameWalk Sdr image store)
      → SameWalk Sel image store → SameStart count → AreOfCapture image count from
      → BothSame (events_for has selection count from)
  entries_same true selection count from records entries start known =
      let same = names_same selection count from (records refl) entries start known in (same, same)
    where
      names_same : (selection : SelectedEntries) (count : Count) (from : Option ℕ) → SameWalk Sdr image store → SameWalk Sel image store
          → SameStart count → AreOfCapture image count from → SamePlan x (Some (Job.NameLookup (NameLookup.Events selection count from))) image store
      names_same selection Count.All from records entries start known = events_same selection Count.All from records entries start known
      names_same selection (Count.First n) from records entries start known = events_same selection (Count.First n) from records entries start known
      names_same selection (Count.Last n) from records entries start known = events_same selection (Count.Last n) from records entries start known
      names_same selection (Count.Tail n) from records entries start known = events_same selection (Count.Tail n) from records entries start known
  entries_same false selection Count.All from records entries start known =
      let same = lines_same (unnamed selection) Count.All from entries start known in (same, same)
  entries_same false selection (Count.First n) from records entries start known =
      let same = lines_same (unnamed selection) (Count.First n) from entries start known in (same, same)
  entries_same false selection (Count.Last n) from records entries start known =
      (last_same (unnamed selection) n from entries known, lines_same (unnamed selection) (Count.Last n) from entries start known)
  entries_same false selection (Count.Tail n) from records entries start known =
      let same = lines_same (unnamed selection) (Count.Tail n) from entries start known in (same, same)

  -- ---- with filters

  abbrev selection_for : Option Filters → Detail → SelectedEntries
  selection_for None detail = in_detail detail
  selection_for (Some filters) detail = with_entry_filters filters (in_detail detail)

  chosen_events : (filters : Option Filters) (has : Bool) (detail : Detail) (count : Count) (from : Option ℕ)
      → choosing_any filters (events_job has detail count from) ≡ events_for has (selection_for filters detail) count from
  chosen_events None true detail count from = refl
  chosen_events None false detail count from = refl
  chosen_events (Some filters) true detail count from = refl
  chosen_events (Some filters) false detail Count.All from = refl
  chosen_events (Some filters) false detail (Count.First n) from = refl
  chosen_events (Some filters) false detail (Count.Last n) from = refl
  chosen_events (Some filters) false detail (Count.Tail n) from = refl

  -- a job that filters leave as it is
  unchosen : (filters : Option Filters) (job : Job) → ((given : Filters) → choosing given job ≡ job) → keeping_last job ≡ job
      → SamePlan x (Some job) image store → BothSame (choosing_any filters job)
  unchosen None job same kept plan = (plan, subst (λ (j : Job). SamePlan x (Some j) image store) (sym kept) plan)
  unchosen (Some given) job same kept plan = subst BothSame (sym (same given)) (plan, subst (λ (j : Job). SamePlan x (Some j) image store) (sym kept) plan)

  listed_same : (filters : Option Filters) (detail : Detail) (kind : Kind) (from : Option ℕ) → SameWalk Sdr image store
      → IsKnownPlace Sdr image (start_of from) → All (SameReading image store) (sensors_of (filter (row_is_of_kind kind) image.sdr))
      → BothSame (choosing_any filters (Job.Records (listing (Form.Record detail (of_kind kind)) (start_of from) None)))
  listed_same None detail kind from walks known readings =
      let same = λ (tries tries' : Tries). listing_same (Form.Record detail (of_kind kind)) from walks known (record_same detail (of_kind kind) readings) in (same, same)
  listed_same (Some filters) detail kind from walks known readings =
      let selection = with_filters filters (of_kind kind) in
      let same = λ (tries tries' : Tries). listing_same (Form.Record detail selection) from walks known (record_same detail selection readings) in (same, same)

  -- all devices, with the name of device 0 or without
  all_same : (has : Bool) → SameWalk Sdr image store → All (SameInventory image store) (0 ∷ devices_of image.sdr)
      → SamePlan x (Some (devices_job has)) image store
  all_same true walks inventories = devices_same walks inventories
  all_same false walks inventories = λ tries tries'. inventories_same None walks inventories

  prints_the_same : (task : Task) (from : Option ℕ) (filters : Option Filters) → HasAsked x.has_names image store task
      → IsOfCapture image task from → PrintsTheSame x image store task from filters
  prints_the_same Task.Hex from filters asked known =
      unchosen filters (Job.Records (listing Form.Hex (start_of from) None)) (λ given. refl) refl
      (λ tries tries'. listing_same Form.Hex from (asked.walk Sdr refl) known (λ row among. itself _))
  prints_the_same (Task.List kind) from filters asked known = listed_same filters Detail.Line kind from (asked.walk Sdr refl) known asked.readings
  prints_the_same (Task.Elist kind) from filters asked known = listed_same filters Detail.Long kind from (asked.walk Sdr refl) known asked.readings
  prints_the_same (Task.Get name) from filters asked known =
      unchosen filters (Job.Records (listing (Form.Block name) (start_of from) None)) (λ given. refl) refl
      (λ tries tries'. listing_same (Form.Block name) from (asked.walk Sdr refl) known (block_same name asked.readings))
  prints_the_same (Task.SelList count) from filters asked known =
      subst BothSame (sym (chosen_events filters (x.has_names Detail.Line) Detail.Line count from))
      (entries_same (x.has_names Detail.Line) (selection_for filters Detail.Line) count from (asked.walk Sdr) (asked.walk Sel refl) (same_start count (asked.info Sel)) known)
  prints_the_same (Task.SelGet id) from filters asked known =
      subst BothSame (sym (chosen_events filters (x.has_names Detail.Block) Detail.Block (Count.First 1) (Some id)))
      (entries_same (x.has_names Detail.Block) (selection_for filters Detail.Block) (Count.First 1) (Some id) (asked.walk Sdr) (asked.walk Sel refl) tt known)
  prints_the_same (Task.Info shelf) from filters asked known =
      unchosen filters (Job.Info shelf) (λ given. refl) refl (λ tries tries'. info_agrees shelf (asked.info shelf (info_asked shelf)))
  prints_the_same (Task.Fru None) from filters asked known =
      unchosen filters (devices_job (x.has_names Detail.Line)) (devices_unchosen (x.has_names Detail.Line)) (devices_unkept (x.has_names Detail.Line))
      (all_same (x.has_names Detail.Line) (asked.walk Sdr refl) asked.inventories)
    where
      devices_unchosen : (has : Bool) (given : Filters) → choosing given (devices_job has) ≡ devices_job has
      devices_unchosen true given = refl
      devices_unchosen false given = refl

      devices_unkept : (has : Bool) → keeping_last (devices_job has) ≡ devices_job has
      devices_unkept true = refl
      devices_unkept false = refl
  prints_the_same (Task.Fru (Some id)) from filters asked known =
      unchosen filters (Job.Inventory Detail.Block id None) (λ given. refl) refl
      (λ tries tries'. inventory_agrees id (All-head (SameInventory image store) id [] asked.inventories))
  prints_the_same Task.Rewrite from filters asked known = absurd known

module _ (x : Texts) (exists : WalkExists) (unique : WalkIsUnique) (found : FoundIsRow) where
  pub print_the_same : CapturesPrintTheSame x
  print_the_same = λ image store task from filters is_image is_store capture known.
      prints_the_same x exists unique found image store is_image is_store task from filters
      (asked_of_capture x.has_names image store task from capture known) known

  pub print_what_they_have : CapturesPrintWhatTheyHave x
  print_what_they_have = λ left image store task from filters is_image is_store capture unneeded known.
      prints_the_same x exists unique found image store is_image is_store task from filters
      (asked_of_rest x.has_names left image store task from capture unneeded known) known
