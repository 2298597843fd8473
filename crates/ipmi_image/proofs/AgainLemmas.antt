-- A rewritten image is read as the same store: its inventories, readings and infos, and the whole store.
use Rattle.std.proofs.Common.{◌≡◌, ◌≢◌, ℕ, zero, suc, ◌+◌, ◌/◌, ◌<◌, ◌≤◌, true, false, nat_lt, Option, None, Some, Ok, List, [], ◌∷◌, ◌++◌, length, take, drop, map, refl, sym, ap, subst, ◌∙◌, append_assoc, append-nil, arith, codes, unwrap_or, IfSome, All, AllPairs, flat_map, eq-eqb, ne_eqb, length-append, length-drop, length-take, take-append-drop, get_or-append-add}
use Rattle.std.specs.Option.{option_to_list}
use Rattle.std.proofs.lemmas.Bool.Decides.{nat_tests}
use Rattle.std.proofs.lemmas.List.{take_all, get_or_append_left}
use Rattle.std.proofs.lemmas.List.Concat.{flat_map_single}
use Rattle.std.proofs.lemmas.List.Elements.{All-head, All-tail, All-take, All-drop}
use Rattle.byteorder.specs.Endian.{big_bytes}
use Rattle.hex.specs.Hex.{encode_lower}
use Rattle.ipmi_image.specs.Below.{Shelf, Sdr, Sel, AreBytes, Store, Inventory, SensorReading, IsInventory, IsInfo, IsSensorReading, OtherSensor, IsStore, inventory_in, reading_in}
use Rattle.ipmi_image.specs.Prelude.{pieces, an_inventory, a_reading, an_info, the_end, first_of, with_bytes, info_fault, fault_in, store_of_image, hex_of, rows_lines, first_parts, part_fields, inventory_lines, reading_fields, info_lines, other_lines, lines_text, image_text_of, IsSaved, Version}
use Rattle.ipmi_image.proofs.TextLemmas.{Lacks, pieces-more}
use Rattle.ipmi_image.proofs.ReadLemmas.{line_judged-found, store_after_line, store_of_image-lines}
use Rattle.ipmi_image.proofs.ParseLemmas.{a_word, a_hex, pieces-join_with_byte, line_of-fields, AreBytes-big_bytes, word_of, line_of_fields-part_fields, bytes_of_reading, AreBytes-bytes_of_reading, line_of_fields-reading_fields, line_of_fields-info}
use Rattle.ipmi_image.proofs.TakenLemmas.{Kept, nothing, kept_with, store_kept, Gives, line_gives, saved_rows, chained-saved_rows, with_rows, a_shelf, shelf_gives}

abbrev Lines : Type 0
Lines = List (List (List ℕ))

-- ---- items that differ from all items before them

-- each item before x is related to x
pairs_middle : {T : Type 0} (R : T → T → Type 0) (front rest : List T) (x : T)
    → AllPairs R (front ++ x ∷ rest) → All (λ a. R a x) front
pairs_middle R front rest x pairs = λ k d lt.
    let len = length-append front (x ∷ rest) in
    let p = pairs k (length front + 0) d (omega (arith, lt)) (omega (arith, len)) in
    rw (get_or_append_left front (x ∷ rest) d k lt, get_or-append-add front (x ∷ rest) 0 d) at p

-- if the lines of each item are accepted after the items before it, the lines of all items are accepted
each_gives : (store : Store) {X : Type 0} (P : X → Type 0) (R : X → X → Type 0)
    (kept : List X → Kept) (lines : X → Lines)
    → ((front : List X) (x : X) (rest : Lines) → P x → All (λ a. R a x) front
    → Gives store (kept (front ++ x ∷ [])) rest → Gives store (kept front) (lines x ++ rest))
    → (front xs : List X) (rest : Lines) → All P xs → AllPairs R (front ++ xs)
    → Gives store (kept (front ++ xs)) rest → Gives store (kept front) (flat_map lines xs ++ rest)
each_gives store P R kept lines one front [] rest all pairs give = rw append-nil at give
each_gives store P R kept lines one front (x ∷ xs) rest all pairs give =
    let same = append_assoc front (x ∷ []) xs in
    let more = each_gives store P R kept lines one (front ++ x ∷ []) xs rest (All-tail P x xs all) (subst (AllPairs R) (sym same) pairs) (subst (λ l. Gives store (kept l) rest) (sym same) give) in
    rw (append_assoc (lines x) (flat_map lines xs) rest) (one front x (flat_map lines xs ++ rest) (All-head P x xs all) (pairs_middle R front xs x pairs) more)

-- ---- inventories

with_bytes-twice : (id : ℕ) (a b : List ℕ) (inventories : List Inventory)
    → with_bytes id b (with_bytes id a inventories) ≡ with_bytes id (a ++ b) inventories
with_bytes-twice id a b [] = rw (eq-eqb id id refl) refl
with_bytes-twice id a b (x ∷ xs) = let more = with_bytes-twice id a b xs in grind (arith, append_assoc, nat_tests, more)

inventory_in-with_bytes : (id : ℕ) (a : List ℕ) (inventories : List Inventory)
    → unwrap_or (inventory_in (with_bytes id a inventories) id) []
    ≡ unwrap_or (inventory_in inventories id) [] ++ a
inventory_in-with_bytes id a [] = rw (eq-eqb id id refl) refl
inventory_in-with_bytes id a (x ∷ xs) = let more = inventory_in-with_bytes id a xs in grind (arith, nat_tests, more)

-- the first bytes of an inventory make a new one
new_bytes : (id : ℕ) (bytes : List ℕ) (front : List Inventory) → All (λ i. i.id ≢ id) front
    → (with_bytes id bytes front ≡ front ++ record { id = id; bytes = bytes } ∷ [])
    × (inventory_in front id ≡ None)
new_bytes id bytes [] lacks = (refl, refl)
new_bytes id bytes (x ∷ xs) lacks =
    let more = new_bytes id bytes xs (All-tail (λ (i : Inventory). i.id ≢ id) x xs lacks) in
    rw (ne_eqb x.id id (lacks 0 x (omega arith))) (rw more.0 refl, more.1)

-- a well-formed inventory that is not empty
record IsWhole (inventory : Inventory) : Type 0 where
  ok : IsInventory inventory
  some : 0 < length inventory.bytes

module _ (store : Store) (kept : Kept) where
  abbrev inventories_kept : List Inventory → Kept
  inventories_kept inventories = record kept { inventories = inventories }

  part_gives : (id : ℕ) (part : List ℕ) (inventories : List Inventory) (rest : Lines) → id ≤ 254
      → 0 < length part → AreBytes part
      → length (unwrap_or (inventory_in inventories id) []) + length part ≤ 65535
      → Gives store (inventories_kept (with_bytes id part inventories)) rest
      → Gives store (inventories_kept inventories) (part_fields id part ∷ rest)
  part_gives id part inventories rest le some bytes fits give =
      line_gives store (inventories_kept inventories) (codes "fru") (hex_of 1 id ∷ encode_lower part ∷ []) (an_inventory id part) rest
      (a_word (codes "fru") refl, (a_hex (big_bytes 1 id) (AreBytes-big_bytes 1 id), (a_hex part bytes, tt)))
      (line_of_fields-part_fields id part le some bytes)
      refl
      (rw (ne_eqb id 255 (λ e. omega (arith, le, e)), below) refl)
      (simp append-nil give)
    where
      below : nat_lt 65535 (length (unwrap_or (inventory_in inventories id) []) + length part)
          ≡ false
      below = grind (arith, nat_tests)

  -- the first part, then the others if there are any
  parts_give : (id n : ℕ) (bytes : List ℕ) (inventories : List Inventory) (rest : Lines) → id ≤ 254
      → n ≡ (length bytes + 63) / 64 → 0 < length bytes → AreBytes bytes
      → length (unwrap_or (inventory_in inventories id) []) + length bytes ≤ 65535
      → Gives store (inventories_kept (with_bytes id bytes inventories)) rest
      → Gives store (inventories_kept inventories)
      (map (part_fields id) (first_parts n bytes) ++ rest)
  parts_give id zero bytes inventories rest le count some all fits give = absurd (omega (arith, count, some))
  parts_give id (suc zero) bytes inventories rest le count some all fits give = rw (take_all 64 bytes (omega (arith, count))) (part_gives id bytes inventories rest le some all fits give)
  parts_give id (suc (suc n)) bytes inventories rest le count some all fits give =
      let left = length-drop 64 bytes in
      let taken = length-take 64 bytes in
      let joined_len = length-append (unwrap_or (inventory_in inventories id) []) (take 64 bytes) in
      let held = ap length (inventory_in-with_bytes id (take 64 bytes) inventories) in
      let same : with_bytes id (drop 64 bytes) (with_bytes id (take 64 bytes) inventories)
      ≡ with_bytes id bytes inventories =
      with_bytes-twice id (take 64 bytes) (drop 64 bytes) inventories
      ∙ rw (take-append-drop 64 bytes) refl in
      part_gives id (take 64 bytes) inventories
      (map (part_fields id) (first_parts (suc n) (drop 64 bytes)) ++ rest) le
      (omega (arith, taken, some)) (All-take (λ (b : ℕ). b < 256) 64 bytes all)
      (omega (arith, taken, fits))
      (parts_give id (suc n) (drop 64 bytes) (with_bytes id (take 64 bytes) inventories) rest le (omega (arith, left, count)) (omega (arith, left, count)) (All-drop (λ (b : ℕ). b < 256) 64 bytes all)
      (omega (arith, left, taken, joined_len, held, fits, count))
      (subst (λ (l : List Inventory). Gives store (inventories_kept l) rest) (sym same) give))

  inventory_gives : (front : List Inventory) (x : Inventory) (rest : Lines) → IsWhole x
      → All (λ a. a.id ≢ x.id) front → Gives store (inventories_kept (front ++ x ∷ [])) rest
      → Gives store (inventories_kept front) (inventory_lines x ++ rest)
  inventory_gives front x rest is lacks give =
      let new = new_bytes x.id x.bytes front lacks in
      let fits = is.ok.fits in
      parts_give x.id ((length x.bytes + 63) / 64) x.bytes front rest is.ok.id refl is.some is.ok.bytes (rw new.1 (omega (arith, fits))) (rw new.0 give)

  pub inventories_give : (inventories : List Inventory) (rest : Lines) → All IsInventory inventories
      → All (λ i. 0 < length i.bytes) inventories → AllPairs (λ a b. a.id ≢ b.id) inventories
      → Gives store (inventories_kept inventories) rest
      → Gives store (inventories_kept []) (flat_map inventory_lines inventories ++ rest)
  inventories_give inventories rest all some =
      each_gives store IsWhole (λ (a b : Inventory). a.id ≢ b.id) inventories_kept inventory_lines
      inventory_gives [] inventories rest (λ k d lt. record { ok = all k d lt; some = some k d lt })

-- ---- readings

reading_in-absent : (front : List SensorReading) (x : SensorReading)
    → All (λ a. OtherSensor a x) front → reading_in front x.lun x.number ≡ None
reading_in-absent [] x others = refl
reading_in-absent (a ∷ front) x others =
    let more = reading_in-absent front x (All-tail (λ a. OtherSensor a x) a front others) in
    let other = others 0 a (omega arith) in
    grind (arith, nat_tests, more, other)

record IsSensor (sensor : SensorReading) : Type 0 where
  ok : IsSensorReading sensor
  lun : sensor.lun ≤ 3

module _ (store : Store) (kept : Kept) where
  abbrev readings_kept : List SensorReading → Kept
  readings_kept readings = record kept { readings = readings }

  reading_gives : (front : List SensorReading) (x : SensorReading) (rest : Lines) → IsSensor x
      → All (λ a. OtherSensor a x) front → Gives store (readings_kept (front ++ x ∷ [])) rest
      → Gives store (readings_kept front) (reading_fields x ∷ rest)
  reading_gives front x rest is others give =
      let lun = All-drop (λ b. nat_lt 32 b ≡ true) 1 (hex_of 1 x.lun) (a_hex (big_bytes 1 x.lun) (AreBytes-big_bytes 1 x.lun)) in
      line_gives store (readings_kept front) (codes "reading") (drop 1 (hex_of 1 x.lun) ∷ hex_of 1 x.number ∷ encode_lower (bytes_of_reading x) ∷ []) (a_reading x.lun x.number (bytes_of_reading x)) rest
      (a_word (codes "reading") refl, (lun, (a_hex (big_bytes 1 x.number) (AreBytes-big_bytes 1 x.number), (a_hex (bytes_of_reading x) (AreBytes-bytes_of_reading x is.ok), tt))))
      (line_of_fields-reading_fields x is.lun is.ok)
      refl
      (rw (below, reading_in-absent front x others) refl)
      (simp append-nil give)
    where
      below : nat_lt 3 x.lun ≡ false
      below = let le = is.lun in grind (arith, nat_tests)

  pub readings_give : (readings : List SensorReading) (rest : Lines) → All IsSensorReading readings
      → All (λ s. s.lun ≤ 3) readings → AllPairs OtherSensor readings
      → Gives store (readings_kept readings) rest
      → Gives store (readings_kept []) (map reading_fields readings ++ rest)
  readings_give readings rest all luns pairs give = rw (← flat_map_single reading_fields readings)
      (each_gives store IsSensor OtherSensor readings_kept (λ x. reading_fields x ∷ []) reading_gives [] readings rest (λ k d lt. record { ok = all k d lt; lun = luns k d lt }) pairs give)

-- ---- infos

abbrev pub with_infos : Shelf → Kept → List (List ℕ) → Kept
with_infos Sdr kept infos = record kept { sdr_info = infos }
with_infos Sel kept infos = record kept { sel_info = infos }

info_kept : (shelf : Shelf) (kept : Kept) (bytes : List ℕ)
    → (fault_in (store_kept (with_infos shelf kept [])) (an_info shelf bytes)
    ≡ info_fault None bytes)
    × (kept_with (with_infos shelf kept []) (an_info shelf bytes ∷ [])
    ≡ with_infos shelf kept (bytes ∷ []))
info_kept Sdr kept bytes = (refl, simp append-nil)
info_kept Sel kept bytes = (refl, simp append-nil)

info_gives : (store : Store) (shelf : Shelf) (kept : Kept) (info : Option (List ℕ)) (rest : Lines)
    → IfSome info IsInfo → Gives store (with_infos shelf kept (option_to_list info)) rest
    → Gives store (with_infos shelf kept []) (info_lines (word_of shelf) info ++ rest)
info_gives store shelf kept None rest ok give = give
info_gives store shelf kept (Some bytes) rest ok give =
    let kept' = info_kept shelf kept bytes in
    line_gives store (with_infos shelf kept []) (codes "info") (word_of shelf ∷ encode_lower bytes ∷ []) (an_info shelf bytes) rest
    (a_word (codes "info") refl, (a_shelf shelf, (a_hex bytes ok.all, tt)))
    (line_of_fields-info shelf bytes ok)
    refl
    (kept'.0 ∙ rw (eq-eqb _ _ ok.len) refl)
    (subst (λ (k : Kept). Gives store k rest) (sym kept'.1) give)

-- ---- the whole store

first_of-info : (info : Option (List ℕ)) → first_of (option_to_list info) ≡ info
first_of-info None = refl
first_of-info (Some bytes) = refl

end_gives : (store : Store) (kept : Kept) → store_kept kept ≡ store
    → Gives store kept ((codes "end" ∷ []) ∷ [])
unfolding pieces
end_gives store kept same = λ before is.
    let found = line_judged-found Version.Two before (codes "end") the_end None (line_of-fields (codes "end") [] (a_word (codes "end") refl, tt)) refl in
    rw (pieces-more 10 (codes "end") [] (pieces-join_with_byte (codes "end") [] (a_word (codes "end") refl, tt)).0, store_after_line Version.Two before (codes "end") [], found) (ap Ok (ap store_kept is ∙ same))

pub store_of_image_image_text_of : (store : Store) → IsStore store → IsSaved store
    → store_of_image (image_text_of store) ≡ Ok store
unfolding image_text_of
store_of_image_image_text_of store is saved =
    let rows = with_rows Sel (with_rows Sdr nothing (saved_rows store.sdr)) (saved_rows store.sel) in
    let inventories = inventories_kept store rows store.inventories in
    let readings = readings_kept store inventories store.readings in
    let info = with_infos Sdr readings (option_to_list store.sdr_info) in
    let all = with_infos Sel info (option_to_list store.sel_info) in
    let same : store_kept all ≡ store = rw (chained-saved_rows store.sdr, chained-saved_rows store.sel, first_of-info store.sdr_info, first_of-info store.sel_info) refl in
    let end = end_gives store all same in
    let infos = info_gives store Sdr readings store.sdr_info _ is.sdr_info (info_gives store Sel info store.sel_info _ is.sel_info end) in
    let others = inventories_give store rows store.inventories _ is.inventories saved.some
    is.distinct_inventories
    (readings_give store inventories store.readings _ is.readings saved.luns
    is.distinct_readings infos) in
    let lines = rows_lines (codes "sdr") store.sdr ++ (rows_lines (codes "sel") store.sel ++ other_lines store) in
    store_of_image-lines _ (codes "ipmi-image 2") (lines_text lines) Version.Two (pieces-more 10 (codes "ipmi-image 2") (lines_text lines) header) refl
    ∙ shelf_gives store Sdr nothing store.sdr _ is.sdr (shelf_gives store Sel (with_rows Sdr nothing (saved_rows store.sdr)) store.sel _ is.sel others) [] refl
  where
    header : Lacks 10 (codes "ipmi-image 2")
    header = (pieces-join_with_byte (codes "ipmi-image") (codes "2" ∷ []) (a_word (codes "ipmi-image") refl, (a_word (codes "2") refl, tt))).0
