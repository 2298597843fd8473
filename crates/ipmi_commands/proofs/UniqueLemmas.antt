-- Items have at most one text, and a finished run has at most one output.
use Rattle.std.proofs.Common.{◌≡◌, ℕ, ◌+◌, zero, suc, ◌-◌, Bool, true, false, cond, Option, None, Some, Result, Ok, Err, List, [], ◌∷◌, length, take, drop, sym, ap, subst, ◌∙◌, arith}
use Rattle.ipmi_commands.specs.Below.{known, Count, IsStore, WalkEnd, Done, CycleAt, MissingAt, Shelf, Sdr, Sel, Place, First, Id, start_of, Row, IsShelf, FoundIsRow, AreBytes, Store, info_of, rows_of, store_shelf, AllOf, WalkExists, place_after, place_after_rows, SdrFault, SdrView, entry_bytes, sdr_view_of, sel_view_of, Ending}
use Rattle.ipmi_commands.specs.Prelude.{after_names, after_points, AtRecord, bytes_of_rows, has_last, OnTail, OnTailFrom, OnTried, OnWhole, Plan, tail_from, NameLookup, OnNamed, PrintsAll, AreOfBytes, EntryText, named_entries, first_rows, FinishedRunsAreOne, Form, IfChosen, info_plan, Printed, IsBlockOfName, IsLocatorPiece, IsOfBytes, IsRecordText, IsTextOfRecord, IsRowText, IsTextOver, IsPieceOver, is_faulty, Item, ItemsHaveOneText, Job, kept_items, kept_plan, last_items, last_plan, last_rows, OnWalk, reading_for, row_items, shelf_of, ReadPoint, points_of_walk, Subject, walk_call_bound, with_first_points, Texts, TextsAreOne}
use Rattle.ipmi_selection.specs.declared.detail.Detail.{Detail}
use Rattle.ipmi_commands.specs.Output.{Output, piece_of}
use Rattle.ipmi_commands.specs.declared.limits.Tries.{Tries}
use Rattle.ipmi_command_line.specs.declared.filters.Filters.{Filters}
use Rattle.ipmi_selection.specs.Selection.{chosen, chosen_by, passes_entry}
use Rattle.ipmi_commands.proofs.LimitLemmas.{first_rows-take}

-- there is at most one such text
abbrev IsOne : (List ℕ → Type 0) → Type 0
IsOne IsText = (a b : List ℕ) → IsText a → IsText b → a ≡ b

one_equation : (text : List ℕ) → IsOne (λ t. t ≡ text)
one_equation text a b x y = x ∙ sym y

one_chosen : (chosen : Bool) (IsText : List ℕ → Type 0) → IsOne IsText
    → IsOne (IfChosen chosen IsText)
one_chosen chosen IsText one = grind arith

-- the bytes of an entry's view
entry_are_bytes : (bytes : List ℕ) → AreBytes bytes → AreBytes (entry_bytes (sel_view_of bytes))
entry_are_bytes bytes are = grind arith

module _ {x : Texts} (one : TextsAreOne x) where
  one_locator : (store : Store) (view : Result SdrView SdrFault) → IsOne (IsLocatorPiece x store view)
  one_locator store view = grind (arith, one_chosen, one.device_is, one.elsewhere_is)

  one_record : (detail : Detail) (store : Store) (row : Row) (view : Result SdrView SdrFault)
      → IsOne (IsRecordText x detail store row view)
  one_record detail store row (Ok view) a b p q = one.record_is detail row.id view (known (reading_for store view)) a b p.0 q.0
  one_record detail store row (Err fault) a b p q = one.fault_is row.id fault row.bytes a b p q

  one_block_of_name : (name : List ℕ) (store : Store) (id : ℕ) (view : Result SdrView SdrFault)
      → IsOne (IsBlockOfName x name store id view)
  one_block_of_name name store id (Ok view) a b p q =
      one_chosen _ (IsTextOfRecord x Detail.Block id view (known (reading_for store view)))
      (λ a b p q. one.record_is Detail.Block id view (known (reading_for store view)) a b p.0 q.0) a b p q
  one_block_of_name name store id (Err fault) a b p q = p ∙ sym q

  one_row : (form : Form) (store : Store) (row : Row) → AreBytes row.bytes → IsOne (IsRowText x store form row)
  one_row Form.Hex store row are a b p q = one.hex_is row a b p q
  one_row Form.Bytes store row are a b p q = p ∙ sym q
  one_row (Form.Record detail selection) store row are a b p q =
      one_chosen _ (IsRecordText x detail store row (sdr_view_of row.bytes)) (one_record detail store row (sdr_view_of row.bytes)) a b p q
  one_row (Form.Block name) store row are a b p q = one_block_of_name name store row.id (sdr_view_of row.bytes) a b p q
  one_row Form.Device store row are a b p q = one_locator store (sdr_view_of row.bytes) a b p q
  one_row (Form.Entry entries) store row are a b p q =
      one_chosen _ (x.IsEntry entries.selection.detail row.id (sel_view_of row.bytes) entries.sensors)
      (λ a b p q. one.entry_is entries.selection.detail row.id (sel_view_of row.bytes) entries.sensors a b (entry_are_bytes row.bytes are) p q) a b p q
  one_row Form.Skipped store row are a b p q = p ∙ sym q

  one_item : (store : Store) (subject : Subject) → IsOfBytes subject → IsOne (IsTextOver x store subject)
  one_item store subject bytes = grind (arith, one_row, one.device_is, one.info_is)

  one_piece : (store : Store) (subject : Subject) (a b : Output) → IsOfBytes subject
      → IsPieceOver x store subject a → IsPieceOver x store subject b → a ≡ b
  one_piece store subject a b bytes p q =
      p.counted ∙ ap (λ (text : List ℕ). piece_of text (is_faulty x store subject)) (one_item store subject bytes a.bytes b.bytes p.is_text q.is_text) ∙ sym q.counted

  -- items have at most one text
  pub one_text : ItemsHaveOneText x
  one_text store [] a b bytes p q = p ∙ sym q
  one_text store (item ∷ items) a b bytes p q =
      p.joined ∙ rw (one_piece store item.subject p.first q.first bytes.0 p.is_first q.is_first, one_text store items p.rest q.rest bytes.1 p.is_rest q.is_rest) (sym q.joined)

-- ---- the numbers of the items are bytes

rows_are_bytes : FoundIsRow → (form : Form) (shelf : Shelf) (rows : List Row) (start : Place)
    (walk : List Row) → IsShelf shelf rows → AllOf rows walk
    → AreOfBytes (row_items form start walk)
rows_are_bytes look_row form shelf rows start [] ok all = tt
rows_are_bytes look_row form shelf rows start (row ∷ walk) ok all = ((look_row shelf rows row.id row ok all.0).bytes, rows_are_bytes look_row form shelf rows (place_after row.next) walk ok all.1)

parts_of_shelf : (n : ℕ) (rows walk : List Row) → AllOf rows walk
    → AllOf rows (take n walk) × AllOf rows (drop n walk)
parts_of_shelf zero rows walk all = (tt, all)
parts_of_shelf (suc n) rows [] all = (tt, tt)
parts_of_shelf (suc n) rows (row ∷ walk) all = let parts = parts_of_shelf n rows walk all.1 in ((all.0, parts.0), parts.1)

first_of_shelf : (form : Form) (most : Option ℕ) (rows walk : List Row) → AllOf rows walk → AllOf rows (first_rows form most walk)
first_of_shelf form most rows walk all = subst (AllOf rows) (sym (first_rows-take form most walk))
    (parts_of_shelf (length (first_rows form most walk)) rows walk all).0

chosen_of_shelf : (filters : Option Filters) (rows walk : List Row) → AllOf rows walk → AllOf rows (chosen_by filters walk)
chosen_of_shelf None rows walk all = all
chosen_of_shelf (Some filters) rows [] all = tt
chosen_of_shelf (Some filters) rows (row ∷ walk) all = by (passes_entry filters row.id (sel_view_of row.bytes)) (chosen_of_shelf (Some filters) rows walk all.1)
  where
    by : (one : Bool) → AllOf rows (chosen_by (Some filters) walk)
        → AllOf rows (cond one (row ∷ chosen_by (Some filters) walk) (chosen_by (Some filters) walk))
    by true rest = (all.0, rest)
    by false rest = rest

last_of_shelf : (n : ℕ) (rows walk : List Row) (end : WalkEnd) → AllOf rows walk → AllOf rows (last_rows n walk end)
last_of_shelf n rows walk Done all = (parts_of_shelf (length walk - n) rows walk all).1
last_of_shelf n rows walk (CycleAt id) all = tt
last_of_shelf n rows walk (MissingAt id) all = tt

kept_are_bytes : FoundIsRow → (entries : EntryText) (rows kept : List Row) → IsShelf Sel rows → AllOf rows kept
    → AreOfBytes (kept_items entries kept)
kept_are_bytes look_row entries rows [] ok all = tt
kept_are_bytes look_row entries rows (row ∷ kept) ok all = ((look_row Sel rows row.id row ok all.0).bytes, kept_are_bytes look_row entries rows kept ok all.1)

first_kept : (points : List ReadPoint) (items : List Item) → AreOfBytes items
    → AreOfBytes (with_first_points points items)
first_kept points items are = grind arith

-- ---- at most one output

module _ {x : Texts} (one : ItemsHaveOneText x) (exists : WalkExists) (look_row : FoundIsRow) where
  one_plan : (store : Store) {items : List Item} {end : Ending} {old a b : Output} {e f : Ending}
      → AreOfBytes items → Printed (IsPieceOver x store) items old a × (e ≡ end)
      → Printed (IsPieceOver x store) items old b × (f ≡ end) → (a ≡ b) × (e ≡ f)
  one_plan store {items} bytes p q =
      (p.0.new_is ∙ rw (one store items p.0.text q.0.text bytes p.0.are q.0.are) (sym q.0.new_is), p.1 ∙ sym q.1)

  kept_bytes : (store : Store) → IsStore store → (entries : EntryText) (n : ℕ) (start : Place) (walk : List Row) (end : WalkEnd)
      → AllOf store.sel walk → AreOfBytes (kept_plan entries n start walk end).items
  kept_bytes store ok entries n start walk end all =
      let rows = last_rows n (chosen entries.selection walk) end in
      first_kept (points_of_walk start walk end) (kept_items entries rows)
      (kept_are_bytes look_row entries store.sel rows ok.sel (last_of_shelf n store.sel (chosen entries.selection walk) end (chosen_of_shelf entries.selection.filters store.sel walk all)))

  -- along the walk that has the last entries
  module _ (store : Store) (ok : IsStore store) (entries : EntryText) (n : ℕ) (tries tries' : Tries) {A B : Plan → Type 0} {R : Type 0}
      (both : (plan : Plan) → AreOfBytes plan.items → A plan → B plan → R) where
    tail_bytes : (start : Place) (points : List ReadPoint) (walk : List Row) (end : WalkEnd) → AllOf store.sel walk
        → AreOfBytes (after_points points (kept_plan entries n start walk end)).items
    tail_bytes start points walk end all = first_kept _ _ (kept_bytes store ok entries n start walk end all)

    whole_meets : (points : List ReadPoint) (calls calls' : ℕ) → OnWhole points calls entries n tries store (λ plan c. A plan)
        → OnWhole points calls' entries n tries' store (λ plan c. B plan) → R
    whole_meets points calls calls' p q =
        let there = exists Sel store.sel First ok.sel in
        both _ (tail_bytes First points there.0 there.1 there.2.of_shelf) (p there.0 there.1 there.2 there.3) (q there.0 there.1 there.2 there.3)

    tried_meets : (has : Bool) (id : ℕ) (walk : List Row) (end : WalkEnd) → AllOf store.sel walk
        → OnTried has id walk end entries n tries store (λ plan c. A plan) → OnTried has id walk end entries n tries' store (λ plan c. B plan) → R
    tried_meets true id walk end all p q = both _ (tail_bytes (Id id) (AtRecord 0 ∷ []) walk end all) p q
    tried_meets false id walk end all p q = whole_meets (AtRecord 0 ∷ points_of_walk (Id id) walk end)
        (tries.count + 1 + walk_call_bound Form.Skipped store tries walk) (tries'.count + 1 + walk_call_bound Form.Skipped store tries' walk) p q

    from_meets : (start : Option ℕ) → OnTailFrom start entries n tries store (λ plan c. A plan)
        → OnTailFrom start entries n tries' store (λ plan c. B plan) → R
    from_meets None p q = whole_meets (AtRecord 0 ∷ []) (tries.count + 1) (tries'.count + 1) p q
    from_meets (Some id) p q =
        let there = exists Sel store.sel (Id id) ok.sel in
        tried_meets (has_last n (chosen entries.selection there.0) there.1) id there.0 there.1 there.2.of_shelf (p there.0 there.1 there.2 there.3) (q there.0 there.1 there.2 there.3)

    tail_meets : OnTail entries n tries store (λ plan c. A plan) → OnTail entries n tries' store (λ plan c. B plan) → R
    tail_meets p q = from_meets (tail_from n (info_of Sel store)) p q

  -- after reading the names
  one_named : (store : Store) (old a b : Output) (e f : Ending) (named : NameLookup)
      (tries tries' : Tries) (rows : List Row) (end : WalkEnd) → IsStore store → AllOf store.sdr rows
      → OnNamed rows end named tries store (λ plan calls. PrintsAll (IsPieceOver x store) (after_names rows end plan) old a e)
      → OnNamed rows end named tries' store (λ plan calls. PrintsAll (IsPieceOver x store) (after_names rows end plan) old b f)
      → (a ≡ b) × (e ≡ f)
  one_named store old a b e f (NameLookup.Events detail Count.All from) tries tries' rows end ok all p q =
      let there = exists Sel store.sel (start_of from) ok.sel in
      one_plan store (first_kept _ _ (rows_are_bytes look_row (Form.Entry (named_entries detail (bytes_of_rows rows))) Sel store.sel (start_of from) there.0 ok.sel there.2.of_shelf))
      (p there.0 there.1 there.2 there.3) (q there.0 there.1 there.2 there.3)
  one_named store old a b e f (NameLookup.Events detail (Count.First n) from) tries tries' rows end ok all p q =
      let there = exists Sel store.sel (start_of from) ok.sel in
      let form = Form.Entry (named_entries detail (bytes_of_rows rows)) in
      one_plan store (first_kept _ _ (rows_are_bytes look_row form Sel store.sel (start_of from) (first_rows form (Some n) there.0) ok.sel (first_of_shelf form (Some n) store.sel there.0 there.2.of_shelf)))
      (p there.0 there.1 there.2 there.3) (q there.0 there.1 there.2 there.3)
  one_named store old a b e f (NameLookup.Events detail (Count.Last n) from) tries tries' rows end ok all p q =
      let there = exists Sel store.sel (start_of from) ok.sel in
      one_plan store (first_kept _ _ (kept_bytes store ok (named_entries detail (bytes_of_rows rows)) n (start_of from) there.0 there.1 there.2.of_shelf))
      (p there.0 there.1 there.2 there.3) (q there.0 there.1 there.2 there.3)
  one_named store old a b e f (NameLookup.Events detail (Count.Tail n) from) tries tries' rows end ok all p q =
      tail_meets store ok (named_entries detail (bytes_of_rows rows)) n tries tries' (λ plan bytes p q. one_plan store (first_kept _ _ bytes) p q) p q
  one_named store old a b e f NameLookup.Devices tries tries' rows end ok all p q =
      one_plan store (tt, rows_are_bytes look_row Form.Device Sdr store.sdr First rows ok.sdr all) p q

  -- the last entries
  one_last : (store : Store) (old a b : Output) (e f : Ending) (entries : EntryText) (n : ℕ) (from : Option ℕ) → IsStore store
      → OnWalk Sel (start_of from) store (λ walk end. PrintsAll (IsPieceOver x store) (last_plan entries n (start_of from) walk end) old a e)
      → OnWalk Sel (start_of from) store (λ walk end. PrintsAll (IsPieceOver x store) (last_plan entries n (start_of from) walk end) old b f)
      → (a ≡ b) × (e ≡ f)
  one_last store old a b e f entries n from ok p q =
      let start = start_of from in
      let there = exists Sel store.sel start ok.sel in
      one_plan store (first_kept (points_of_walk start there.0 there.1) (last_items entries n start there.0 there.1)
      (rows_are_bytes look_row (Form.Entry entries) Sel store.sel (place_after_rows start (take (length there.0 - n) there.0)) (last_rows n there.0 there.1) ok.sel (grind (arith, parts_of_shelf (length there.0 - n) store.sel there.0 there.2.of_shelf))))
      (p there.0 there.1 there.2 there.3) (q there.0 there.1 there.2 there.3)

  pub one_output : FinishedRunsAreOne x
  one_output (Job.Records l) tries tries' store old a b e f ok p q =
      let rows = rows_of (shelf_of l.form) store in
      let shelf = store_shelf (shelf_of l.form) store ok in
      let there = exists (shelf_of l.form) rows l.start shelf in
      one_plan store (rows_are_bytes look_row l.form (shelf_of l.form) rows l.start (first_rows l.form l.most there.0) shelf (first_of_shelf l.form l.most rows there.0 there.2.of_shelf))
      (p there.0 there.1 there.2 there.3) (q there.0 there.1 there.2 there.3)
  one_output (Job.Last entries n from) tries tries' store old a b e f ok p q = one_last store old a b e f entries n from ok p q
  one_output (Job.LastKept entries n from) tries tries' store old a b e f ok p q =
      let there = exists Sel store.sel (start_of from) ok.sel in
      one_plan store (kept_bytes store ok entries n (start_of from) there.0 there.1 there.2.of_shelf) (p there.0 there.1 there.2 there.3) (q there.0 there.1 there.2 there.3)
  one_output (Job.Tail entries n) tries tries' store old a b e f ok p q =
      tail_meets store ok entries n tries tries' (λ plan bytes p q. one_plan store bytes p q) p q
  one_output (Job.NameLookup named) tries tries' store old a b e f ok p q =
      let there = exists Sdr store.sdr First ok.sdr in
      one_named store old a b e f named tries tries' there.0 there.1 ok there.2.of_shelf
      (p there.0 there.1 there.2 there.3) (q there.0 there.1 there.2 there.3)
  one_output (Job.Info shelf) tries tries' store old a b e f ok p q = let bytes : AreOfBytes (info_plan shelf (info_of shelf store)).items = grind arith in one_plan store bytes p q
  one_output (Job.Inventory detail id name) tries tries' store old a b e f ok p q = one_plan store (tt, tt) p q
  one_output (Job.AllInventories name) tries tries' store old a b e f ok p q =
      let there = exists Sdr store.sdr First ok.sdr in
      one_plan store (tt, rows_are_bytes look_row Form.Device Sdr store.sdr First there.0 ok.sdr there.2.of_shelf)
      (p there.0 there.1 there.2 there.3) (q there.0 there.1 there.2 there.3)
