-- The lines of a rewritten image are accepted one after the other; the rows of a shelf.
use Rattle.std.proofs.Common.{◌≡◌, ℕ, Bool, true, false, cond, not, nat_eq, None, IfSome, Ok, List, [], ◌∷◌, ◌++◌, drop, refl, sym, ap, subst, ◌∙◌, append_assoc, append-nil, arith, codes, fold, filter_map, eq-eqb, ne_eqb}
use Rattle.std.specs.List.{join_with_byte}
use Rattle.std.proofs.lemmas.Bool.Decides.{nat_tests}
use Rattle.std.proofs.lemmas.List.Elements.{filter_map-append}
use Rattle.std.proofs.lemmas.List.Sums.{fold-append}
use Rattle.byteorder.specs.Endian.{big_bytes}
use Rattle.hex.specs.Hex.{encode_lower}
use Rattle.ipmi_image.specs.Below.{Shelf, Sdr, Sel, Row, AllRows, LacksId, DistinctIds, first_row, id_in, IsShelf, Store, Inventory, SensorReading, has_id}
use Rattle.ipmi_image.specs.Prelude.{pieces, SavedRow, Line, a_row, line_of_fields, row_on, first_id, chained, with_inventory_line, sensor_on, info_on, first_of, is_no_record, is_no_id, begins_with_another, row_fault, fault_in, line_judged, is_end, store_after, hex_of, next_field, rows_lines, lines_text, id_of, Version}
use Rattle.ipmi_image.proofs.TextLemmas.{pieces-more}
use Rattle.ipmi_image.proofs.ReadLemmas.{store_after_line, line_judged-found}
use Rattle.ipmi_image.proofs.ParseLemmas.{IsField, AreFields, a_word, a_hex, pieces-join_with_byte, line_of-fields, AreBytes-big_bytes, word_of, saved_row, line_of_fields-row_fields}

-- ---- the contents of lines

-- the contents of lines in order, before dashes are replaced by ids
pub record Kept : Type 0 where
  pub sdr : List SavedRow
  pub sel : List SavedRow
  pub inventories : List Inventory
  pub readings : List SensorReading
  pub sdr_info : List (List ℕ)
  pub sel_info : List (List ℕ)

abbrev pub nothing : Kept
nothing = record { sdr = []; sel = []; inventories = []; readings = []; sdr_info = []; sel_info = [] }

-- with the contents of more lines
abbrev pub kept_with : Kept → List Line → Kept
kept_with kept lines = record {
  sdr = kept.sdr ++ filter_map (row_on Sdr) lines;
  sel = kept.sel ++ filter_map (row_on Sel) lines;
  inventories = fold with_inventory_line kept.inventories lines;
  readings = kept.readings ++ filter_map sensor_on lines;
  sdr_info = kept.sdr_info ++ filter_map (info_on Sdr) lines;
  sel_info = kept.sel_info ++ filter_map (info_on Sel) lines;
}

abbrev pub store_kept : Kept → Store
store_kept kept = record {
  sdr = chained kept.sdr;
  sel = chained kept.sel;
  inventories = kept.inventories;
  readings = kept.readings;
  sdr_info = first_of kept.sdr_info;
  sel_info = first_of kept.sel_info;
}

kept_with-one : (lines : List Line) (line : Line)
    → kept_with nothing (lines ++ line ∷ []) ≡ kept_with (kept_with nothing lines) (line ∷ [])
kept_with-one lines line = simp (filter_map-append, fold-append)

-- after lines with these contents, lines with these fields give the store
abbrev pub Gives : Store → Kept → List (List (List ℕ)) → Type 0
Gives store kept lines = (before : List Line) → kept_with nothing before ≡ kept → store_after Version.Two before (pieces 10 (lines_text lines)) ≡ Ok store

pub line_gives : (store : Store) (kept : Kept) (first : List ℕ) (fields : List (List ℕ))
    (line : Line) (rest : List (List (List ℕ))) → AreFields (first ∷ fields)
    → line_of_fields Version.Two (first ∷ fields) ≡ Ok line
    → is_end line ≡ false → fault_in (store_kept kept) line ≡ None
    → Gives store (kept_with kept (line ∷ [])) rest → Gives store kept ((first ∷ fields) ∷ rest)
line_gives store kept first fields line rest are says more fine give = λ before is.
    let text = join_with_byte 32 (first ∷ fields) in
    let found : line_judged Version.Two before text ≡ Ok line = line_judged-found Version.Two before text line None (line_of-fields first fields are ∙ says) (ap (λ (k : Kept). fault_in (store_kept k) line) is ∙ fine) in
    rw (append_assoc text (10 ∷ []) (lines_text rest), pieces-more 10 text (lines_text rest) (pieces-join_with_byte first fields are).0, store_after_line Version.Two before text (lines_text rest), found, more)
    (give (before ++ line ∷ []) (kept_with-one before line ∙ ap (λ (k : Kept). kept_with k (line ∷ [])) is))

-- ---- rows

-- the id of the first of these rows, FFFFh if there is none
abbrev pub first_row_id : List Row → ℕ
first_row_id rows = first_id (λ (row : Row). row.id) rows

abbrev pub saved_rows : List Row → List SavedRow
saved_rows [] = []
saved_rows (row ∷ rows) = saved_row (first_row_id rows) row ∷ saved_rows rows

first_id-saved_rows : (rows : List Row) → first_id id_of (saved_rows rows) ≡ first_row_id rows
first_id-saved_rows [] = refl
first_id-saved_rows (row ∷ rows) = refl

-- saved rows with their next ids are the original rows
pub chained-saved_rows : (rows : List Row) → chained (saved_rows rows) ≡ rows
chained-saved_rows [] = refl
chained-saved_rows (row ∷ rows) = let more = chained-saved_rows rows in let first = first_id-saved_rows rows in grind (arith, nat_tests, more, first)

-- none of these rows has the id of a saved one
abbrev Others : List SavedRow → List Row → Type 0
Others [] rows = Unit {0}
Others (s ∷ saved) rows = LacksId s.id rows × Others saved rows

others_next : (saved : List SavedRow) (s : SavedRow) (row : Row) (rows : List Row)
    → Others saved (row ∷ rows) → LacksId s.id rows
    → (has_id (chained saved) row.id ≡ false) × Others (saved ++ s ∷ []) rows
others_next [] s row rows others lacks = (refl, (lacks, tt))
others_next (t ∷ saved) s row rows others lacks =
    let more = others_next saved s row rows others.1 lacks in
    (rw (ne_eqb row.id t.id others.0.0) more.0, (others.0.1, more.1))

-- the bytes of the very first row begin with its id, and no other row has the id 0000h
abbrev FirstFits : List SavedRow → List Row → Type 0
FirstFits [] rows = IfSome (first_row rows) (λ row. id_in row.bytes ≡ row.id) × LacksId 0 (drop 1 rows)
FirstFits (s ∷ saved) rows = LacksId 0 rows

-- these rows may come after the saved ones
record MayFollow (shelf : Shelf) (saved : List SavedRow) (rows : List Row) : Type 0 where
  all : AllRows shelf rows
  distinct : DistinctIds rows
  others : Others saved rows
  first : FirstFits saved rows

-- the first of them has no fault, and the others may come after it
row_follows : (shelf : Shelf) (saved : List SavedRow) (following : ℕ) (row : Row) (rows : List Row)
    → MayFollow shelf saved (row ∷ rows)
    → (row_fault shelf (chained saved) (saved_row following row) ≡ None)
    × MayFollow shelf (saved ++ saved_row following row ∷ []) rows
row_follows shelf saved following row rows may =
    let ok = may.all.0 in
    let fits = ok.fits in
    let others = others_next saved (saved_row following row) row rows may.others may.distinct.0 in
    let whole : is_no_record shelf row.bytes ≡ false = rw (eq-eqb _ _ ok.whole) (grind (arith, nat_tests)) in
    let first = by saved may.first in
    (rw (first.0, others.0, whole, first.1) refl, record { all = may.all.1; distinct = may.distinct.1; others = others.1; first = first.2 })
  where
    below : nat_eq row.id 65535 ≡ false
    below = let id = may.all.0.id in ne_eqb row.id 65535 (λ e. omega (arith, id, e))

    by : (saved : List SavedRow) → FirstFits saved (row ∷ rows)
        → (is_no_id (chained saved) row.id ≡ false)
        × (begins_with_another (chained saved) (saved_row following row) ≡ false)
        × FirstFits (saved ++ saved_row following row ∷ []) rows
    by [] fits = (grind (arith, below), ap not (eq-eqb _ _ fits.0), fits.1)
    by (t ∷ saved) fits = (rw (ne_eqb row.id 0 fits.0) below, refl, fits.1)

pub a_shelf : (shelf : Shelf) → IsField (word_of shelf)
a_shelf Sdr = a_word (codes "sdr") refl
a_shelf Sel = a_word (codes "sel") refl

a_next : (following next : ℕ) → IsField (next_field following next)
a_next following next = by (nat_eq next following)
  where
    by : (t : Bool) → IsField (cond t (codes "-") (hex_of 2 next))
    by true = a_word (codes "-") refl
    by false = a_hex (big_bytes 2 next) (AreBytes-big_bytes 2 next)

abbrev pub with_rows : Shelf → Kept → List SavedRow → Kept
with_rows Sdr kept rows = record kept { sdr = rows }
with_rows Sel kept rows = record kept { sel = rows }

row_kept : (shelf : Shelf) (kept : Kept) (saved : List SavedRow) (row : SavedRow)
    → (fault_in (store_kept (with_rows shelf kept saved)) (a_row shelf row)
    ≡ row_fault shelf (chained saved) row)
    × (kept_with (with_rows shelf kept saved) (a_row shelf row ∷ [])
    ≡ with_rows shelf kept (saved ++ row ∷ []))
row_kept Sdr kept saved row = (refl, simp append-nil)
row_kept Sel kept saved row = (refl, simp append-nil)

rows_give : (store : Store) (shelf : Shelf) (kept : Kept) (saved : List SavedRow) (rows : List Row)
    (rest : List (List (List ℕ))) → MayFollow shelf saved rows
    → Gives store (with_rows shelf kept (saved ++ saved_rows rows)) rest
    → Gives store (with_rows shelf kept saved) (rows_lines (word_of shelf) rows ++ rest)
rows_give store shelf kept saved [] rest may give = rw append-nil at give
rows_give store shelf kept saved (row ∷ rows) rest may give =
    let following = first_row_id rows in
    let row' = saved_row following row in
    let next = row_follows shelf saved following row rows may in
    let kept' = row_kept shelf kept saved row' in
    let more = rows_give store shelf kept (saved ++ row' ∷ []) rows rest next.1 (rw (← append_assoc saved (row' ∷ []) (saved_rows rows)) at give) in
    let fields = hex_of 2 row.id ∷ next_field following row.next ∷ encode_lower row.bytes ∷ [] in
    line_gives store (with_rows shelf kept saved) (word_of shelf) fields (a_row shelf row') (rows_lines (word_of shelf) rows ++ rest)
    (a_shelf shelf, (a_hex (big_bytes 2 row.id) (AreBytes-big_bytes 2 row.id), (a_next following row.next, (a_hex row.bytes may.all.0.bytes, tt))))
    (line_of_fields-row_fields shelf following row may.all.0)
    refl
    (kept'.0 ∙ next.0)
    (subst (λ (k : Kept). Gives store k (rows_lines (word_of shelf) rows ++ rest)) (sym kept'.1) more)

pub shelf_gives : (store : Store) (shelf : Shelf) (kept : Kept) (rows : List Row)
    (rest : List (List (List ℕ))) → IsShelf shelf rows
    → Gives store (with_rows shelf kept (saved_rows rows)) rest
    → Gives store (with_rows shelf kept []) (rows_lines (word_of shelf) rows ++ rest)
shelf_gives store shelf kept rows rest is = rows_give store shelf kept [] rows rest (record { all = is.all; distinct = is.distinct; others = tt; first = (is.first, is.later) })
