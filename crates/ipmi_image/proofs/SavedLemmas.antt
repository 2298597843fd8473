-- The stores of images are well formed, none of their inventories is empty, and each LUN has two bits.
use Rattle.std.proofs.Common.{rules, ◌≡◌, ℕ, ◌+◌, ◌*◌, ◌^◌, ◌<◌, ◌≤◌, Bool, true, false, cond, not, Option, None, Some, IfSome, IfOk, Result, Ok, Err, List, [], ◌∷◌, ◌++◌, length, map, refl, arith, codes, All, filter_map, unwrap_or, length-append, bytes_eq, fold, option_map}
use Rattle.std.specs.Result.{result_ok}
use Rattle.std.proofs.lemmas.List.{length-map}
use Rattle.std.proofs.Math.ListN.{get_or-map}
use Rattle.std.proofs.lemmas.Bool.Decides.{nat_tests}
use Rattle.std.proofs.lemmas.Result.{IfOk-at_ok}
use Rattle.std.proofs.lemmas.List.Elements.{All-push, All-from_get_or}
use Rattle.std.proofs.lemmas.List.Sums.{fold-append}
use Rattle.byteorder.specs.Endian.{big_number}
use Rattle.byteorder.specs.Numbers.{big_from-lt}
use Rattle.hex.specs.declared.error.FromHexError.{FromHexError}
use Rattle.hex.specs.Hex.{decode_of}
use Rattle.hex.proofs.HexLemmas.{decode_of-ok}
use Rattle.ipmi_image.specs.Below.{Shelf, Sdr, Sel, AreBytes, Store, Inventory, SensorReading, IsShelf, IsInfo, IsStore, info_of, inventory_in}
use Rattle.ipmi_image.specs.Prelude.{LineCause, LineFault, ImageFault, pieces, Line, a_row, an_inventory, a_reading, an_info, the_end, bytes_in, end_line, number_in, with_two, with_three, row_line, inventory_line, reading_line, info_line, line_of_fields, line_of, chained, row_on, info_on, info_fault, with_inventory_line, sensor_on, reading_of_bytes, store_of_lines, fault_in, line_judged, is_end, ends_here, store_after, store_of_pieces, store_of_image, StoredSensor, sensor_of, AreInventories, AreReadings, IsSaved, Version}
use Rattle.ipmi_image.proofs.ParseLemmas.{IsBytes-from_AreBytes}
use Rattle.ipmi_image.proofs.ReadLemmas.{after_line}
use Rattle.ipmi_image.proofs.ShelfLemmas.{shelf_with}
use Rattle.ipmi_image.proofs.StoreLemmas.{reading_fine, with_bytes_all, AreInventories-more, AreReadings-new, said_after, filter_map-after, info_after, first_of-after}

-- ---- the contents of a single line

-- its numbers fit their fields, its bytes are below 256, and an inventory has at least one byte
abbrev IsSaid : Line → Type 0
IsSaid (a_row shelf row) =
    (row.id < 65536) × (unwrap_or row.next 65535 < 65536) × AreBytes row.bytes
IsSaid (an_inventory id bytes) = (id < 256) × (0 < length bytes) × AreBytes bytes
IsSaid (a_reading lun number bytes) = (lun < 256) × (number < 256) × AreBytes bytes
IsSaid (an_info shelf bytes) = AreBytes bytes
IsSaid the_end = Unit {0}

-- hex digits decode to bytes
bytes_in-bytes : (hex : List ℕ)
    → IfSome (bytes_in hex) (λ bytes. AreBytes bytes × (length hex ≡ 2 * length bytes))
bytes_in-bytes hex = by (decode_of hex) refl
  where
    by : (r : Result (List ℕ) FromHexError) → decode_of hex ≡ r
        → IfSome (result_ok r) (λ bytes. AreBytes bytes × (length hex ≡ 2 * length bytes))
    by (Ok bytes) e = let ok = decode_of-ok hex bytes e in (All-from_get_or (λ (b : ℕ). b < 256) bytes 0 (λ k lt. ok.3 k), ok.2)
    by (Err fault) e = tt

number_in-lt : (n : ℕ) (hex : List ℕ) → IfSome (number_in n hex) (λ x. x < 256 ^ n)
number_in-lt n hex = by (bytes_in hex) (bytes_in-bytes hex)
  where
    by : (o : Option (List ℕ))
        → IfSome o (λ bytes. AreBytes bytes × (length hex ≡ 2 * length bytes))
        → IfSome (option_map (big_number n) o) (λ x. x < 256 ^ n)
    by None is = tt
    by (Some bytes) is = big_from-lt 0 n bytes (IsBytes-from_AreBytes bytes is.0)

row_line-said : (version : Version) (shelf : Shelf) (a b c : List ℕ)
    → IfOk (row_line version shelf a b c) IsSaid
row_line-said version shelf a b c = grind (arith, number_in-lt 2 a, number_in-lt 2 b, bytes_in-bytes c)

inventory_line-said : (a b : List ℕ) → IfOk (inventory_line a b) IsSaid
inventory_line-said a b = grind (arith, number_in-lt 1 a, bytes_in-bytes b)

reading_line-said : (a b c : List ℕ) → IfOk (reading_line a b c) IsSaid
reading_line-said a b c = grind (arith, number_in-lt 1 (48 ∷ a), number_in-lt 1 b, bytes_in-bytes c)

info_line-said : (a b : List ℕ) → IfOk (info_line a b) IsSaid
info_line-said a b = grind (arith, bytes_in-bytes b)

with_two-said : (cause : LineCause) (line : List ℕ → List ℕ → Result Line LineFault)
    → ((a b : List ℕ) → IfOk (line a b) IsSaid) → (fields : List (List ℕ))
    → IfOk (with_two cause line fields) IsSaid
with_two-said cause line h (a ∷ b ∷ []) = h a b
with_two-said cause line h _ = tt

with_three-said : (cause : LineCause) (line : List ℕ → List ℕ → List ℕ → Result Line LineFault)
    → ((a b c : List ℕ) → IfOk (line a b c) IsSaid) → (fields : List (List ℕ))
    → IfOk (with_three cause line fields) IsSaid
with_three-said cause line h (a ∷ b ∷ c ∷ []) = h a b c
with_three-said cause line h _ = tt

line_of_fields-said : (version : Version) (fields : List (List ℕ))
    → IfOk (line_of_fields version fields) IsSaid
line_of_fields-said version [] = tt
line_of_fields-said version (word ∷ fields) =
    by (bytes_eq word (codes "sdr")) (bytes_eq word (codes "sel")) (bytes_eq word (codes "fru"))
    (bytes_eq word (codes "reading")) (bytes_eq word (codes "info")) (bytes_eq word (codes "end"))
  where
    by : (a b c d e f : Bool) → IfOk (cond a (with_three LineCause.RowFields (row_line version Sdr) fields)
        (cond b (with_three LineCause.RowFields (row_line version Sel) fields)
        (cond c (with_two LineCause.InventoryFields inventory_line fields)
        (cond d (with_three LineCause.ReadingFields reading_line fields)
        (cond e (with_two LineCause.InfoFields info_line fields) (cond f (end_line fields) (Err (LineFault.Line LineCause.FirstWord)))))))) IsSaid
    by true b c d e f = with_three-said LineCause.RowFields (row_line version Sdr) (row_line-said version Sdr) fields
    by false true c d e f = with_three-said LineCause.RowFields (row_line version Sel) (row_line-said version Sel) fields
    by false false true d e f = with_two-said LineCause.InventoryFields inventory_line inventory_line-said fields
    by false false false true e f = with_three-said LineCause.ReadingFields reading_line reading_line-said fields
    by false false false false true f = with_two-said LineCause.InfoFields info_line info_line-said fields
    by false false false false false f = grind arith

line_of-said : (version : Version) (text : List ℕ) → IfOk (line_of version text) IsSaid
unfolding line_of
line_of-said version text = line_of_fields-said version (pieces 32 text)

-- ---- accepted lines

info_fine : (already : Option (List ℕ)) (bytes : List ℕ) → info_fault already bytes ≡ None
    → AreBytes bytes → IfSome (info_after (Some bytes) already) IsInfo
info_fine None bytes fine all = record { len = grind (arith, nat_tests); all = all }
info_fine (Some x) bytes fine all = cc fine

-- one more line keeps the store well formed
module _ (before : List Line) (store : IsStore (store_of_lines before)) where
  rows_more : (shelf : Shelf) (line : Line) → IsSaid line
      → fault_in (store_of_lines before) line ≡ None
      → IsShelf shelf (chained (said_after (filter_map (row_on shelf) before) (row_on shelf line)))
  rows_more Sdr (a_row Sdr row) said fine = shelf_with Sdr _ row fine said.0 said.1 said.2 store.sdr
  rows_more Sel (a_row Sel row) said fine = shelf_with Sel _ row fine said.0 said.1 said.2 store.sel
  rows_more Sdr _ said fine = store.sdr
  rows_more Sel _ said fine = store.sel

  inventories_before : AreInventories (fold with_inventory_line [] before)
  inventories_before = record { all = store.inventories; distinct = store.distinct_inventories }

  readings_before : AreReadings (filter_map sensor_on before)
  readings_before = record { all = store.readings; distinct = store.distinct_readings }

  inventories_more : (line : Line) → IsSaid line → fault_in (store_of_lines before) line ≡ None
      → AreInventories (with_inventory_line (fold with_inventory_line [] before) line)
  inventories_more (an_inventory id bytes) said fine = AreInventories-more _ id bytes fine said.0 said.2 inventories_before
  inventories_more _ said fine = inventories_before

  readings_more : (line : Line) → IsSaid line → fault_in (store_of_lines before) line ≡ None
      → AreReadings (said_after (filter_map sensor_on before) (sensor_on line))
  readings_more (a_reading lun number bytes) said fine =
      let byte = IsBytes-from_AreBytes bytes said.2 in
      AreReadings-new _ (record { lun = lun; number = number; reading = reading_of_bytes bytes }) (reading_fine lun _ bytes fine).0
      (record { lun = said.0; number = said.1; raw = byte 0; flags = byte 1; status = byte 2; more = byte 3 })
      readings_before
  readings_more _ said fine = readings_before

  info_more : (shelf : Shelf) (line : Line) → IsSaid line
      → fault_in (store_of_lines before) line ≡ None
      → IfSome (info_after (info_on shelf line) (info_of shelf (store_of_lines before))) IsInfo
  info_more Sdr (an_info Sdr bytes) said fine = info_fine _ bytes fine said
  info_more Sel (an_info Sel bytes) said fine = info_fine _ bytes fine said
  info_more Sdr _ said fine = store.sdr_info
  info_more Sel _ said fine = store.sel_info

  store_more : (line : Line) → IsSaid line → fault_in (store_of_lines before) line ≡ None
      → IsStore (store_of_lines (before ++ line ∷ []))
  store_more line said fine = simp (filter_map-after, first_of-after, fold-append) (record {
    sdr = rows_more Sdr line said fine;
    sel = rows_more Sel line said fine;
    inventories = (inventories_more line said fine).all;
    distinct_inventories = (inventories_more line said fine).distinct;
    readings = (readings_more line said fine).all;
    distinct_readings = (readings_more line said fine).distinct;
    sdr_info = info_more Sdr line said fine;
    sel_info = info_more Sel line said fine;
  })

abbrev HasBytes : Inventory → Type 0
HasBytes inventory = 0 < length inventory.bytes

abbrev LowLun : SensorReading → Type 0
LowLun sensor = sensor.lun ≤ 3

-- and no inventory is empty, and each LUN has two bits
module _ (before : List Line) (saved : IsSaved (store_of_lines before)) where
  has_bytes_more : (line : Line) → IsSaid line
      → All HasBytes (with_inventory_line (fold with_inventory_line [] before) line)
  has_bytes_more (an_inventory id bytes) said =
      let len = length-append (unwrap_or (inventory_in (fold with_inventory_line [] before) id) []) bytes in
      with_bytes_all HasBytes id bytes (fold with_inventory_line [] before) (omega (arith, said.1, len)) saved.some
  has_bytes_more _ said = saved.some

  low_lun_more : (line : Line) → fault_in (store_of_lines before) line ≡ None
      → All LowLun (said_after (filter_map sensor_on before) (sensor_on line))
  low_lun_more (a_reading lun number bytes) fine = All-push LowLun _ _ saved.luns (reading_fine lun _ bytes fine).1
  low_lun_more _ fine = saved.luns

  saved_more : (line : Line) → IsSaid line → fault_in (store_of_lines before) line ≡ None
      → IsSaved (store_of_lines (before ++ line ∷ []))
  saved_more line said fine = simp (filter_map-after, fold-append) (record { some = has_bytes_more line said; luns = low_lun_more line fine })

-- the store of an image
abbrev IsGiven : Store → Type 0
IsGiven store = IsStore store × IsSaved store

line_judged_parts : (before : List Line) (version : Version) (text : List ℕ) (line : Line)
    → line_judged version before text ≡ Ok line
    → (line_of version text ≡ Ok line) × (fault_in (store_of_lines before) line ≡ None)
line_judged_parts before version text line e = grind arith

given_judged : (before : List Line) (version : Version) (text : List ℕ) (line : Line)
    → IsGiven (store_of_lines before) → line_judged version before text ≡ Ok line
    → IsGiven (store_of_lines (before ++ line ∷ []))
given_judged before version text line given e =
    let parts = line_judged_parts before version text line e in
    let said = IfOk-at_ok IsSaid parts.0 (line_of-said version text) in
    (store_more before given.0 line said parts.1, saved_more before given.1 line said parts.1)

-- the store of all lines
given_after : (version : Version) (before : List Line) (texts : List (List ℕ))
    → IsGiven (store_of_lines before) → IfOk (store_after version before texts) IsGiven
unfolding store_after
given_after version before (text ∷ (following ∷ rest)) given =
    by (λ line. given_after version (before ++ line ∷ []) (following ∷ rest))
    (line_judged version before text) refl
  where
    last : (line : Line)
        → IfOk (store_after version (before ++ line ∷ []) (following ∷ rest)) IsGiven
        → (end here : Bool)
        → IfOk (cond (not end) (store_after version (before ++ line ∷ []) (following ∷ rest))
        (cond here (Ok (store_of_lines before)) (Err (ImageFault.AfterEnd (length before + 3)))))
        IsGiven
    last line more false here = more
    last line more true true = given
    last line more true false = tt

    by : ((line : Line) → IsGiven (store_of_lines (before ++ line ∷ []))
        → IfOk (store_after version (before ++ line ∷ []) (following ∷ rest)) IsGiven)
        → (r : Result Line LineFault) → line_judged version before text ≡ r
        → IfOk (after_line version before (following ∷ rest) r) IsGiven
    by more (Err fault) is = tt
    by more (Ok line) is = last line (more line (given_judged before version text line given is)) (is_end line) (ends_here (following ∷ rest))
given_after version before _ given = tt

nothing_given : IsGiven (store_of_lines [])
nothing_given = search rules

given_by_image : (bytes : List ℕ) → IfOk (store_of_image bytes) IsGiven
given_by_image bytes = by (pieces 10 bytes)
  where
    by : (l : List (List ℕ)) → IfOk (store_of_pieces l) IsGiven
    by (first ∷ (following ∷ rest)) = grind (arith, given_after Version.One [] (following ∷ rest) nothing_given, given_after Version.Two [] (following ∷ rest) nothing_given)
    by _ = tt

pub store_given : (bytes : List ℕ) (store : Store) → store_of_image bytes ≡ Ok store
    → IsStore store × IsSaved store
store_given bytes store e = IfOk-at_ok IsGiven e (given_by_image bytes)

pub stored_luns : (sensors : List StoredSensor) → All (λ s. s.lun ≤ 3) (map sensor_of sensors)
    → All (λ (s : StoredSensor). s.lun ≤ 3) sensors
stored_luns sensors all = λ k d lt.
    let len = length-map sensors sensor_of in
    rw (get_or-map sensor_of sensors k d) at (all k (sensor_of d) (omega (arith, lt, len)))
