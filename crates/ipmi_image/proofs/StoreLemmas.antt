-- Adding a line to the contents of an image keeps them a store, and adds exactly what the line says.
use Rattle.std.proofs.Common.{◌≡◌, ◌≢◌, ℕ, zero, suc, ◌<◌, ◌≤◌, Bool, true, false, nat_eq, inl, inr, Result, Ok, Err, Option, None, Some, List, [], ◌∷◌, ◌++◌, length, get_or, map, refl, sym, ap, ◌∙◌, append-nil, arith, All, AllPairs, filter_map, cond, unwrap_or, length-append, eqb-true}
use Rattle.std.proofs.lemmas.Bool.{eqb-false}
use Rattle.std.proofs.lemmas.Bool.Decides.{nat_tests}
use Rattle.std.proofs.lemmas.List.Quantifiers.{all_pairs_push}
use Rattle.std.proofs.lemmas.List.Elements.{All-cons, All-append, All-push, filter_map-append}
use Rattle.std.proofs.lemmas.List.Sums.{fold-append}
use Rattle.ipmi_image.specs.Below.{Reading, Sdr, Sel, AreBytes, Store, Inventory, SensorReading, IsInventory, IsSensorReading, OtherSensor, inventory_in, reading_in}
use Rattle.ipmi_image.specs.Prelude.{LineFault, Contents, StoredInventory, StoredSensor, SavedRow, Line, a_row, an_inventory, a_reading, an_info, the_end, kept_inventory, row_on, chained, with_bytes, with_inventory_line, reading_of_bytes, sensor_on, info_on, first_of, store_of_lines, row_fault, inventory_fault, reading_fault, info_fault, fault_in, sensor_of, store_of, HoldsLines, Puts, AreInventories, AreReadings}

-- ---- one more line

-- a list, followed by the item of a line if the line has one
abbrev pub said_after : {Y : Type 0} → List Y → Option Y → List Y
said_after l None = l
said_after l (Some y) = l ++ y ∷ []

pub filter_map-after : {Y : Type 0} (h : Line → Option Y) (before : List Line) (line : Line)
    → filter_map h (before ++ line ∷ []) ≡ said_after (filter_map h before) (h line)
filter_map-after h before line = grind (arith, filter_map-append h before (line ∷ []), append-nil (filter_map h before))

-- the first info counts
abbrev pub info_after : Option (List ℕ) → Option (List ℕ) → Option (List ℕ)
info_after None already = already
info_after (Some bytes) None = Some bytes
info_after (Some bytes) (Some x) = Some x

pub first_of-after : (l : List (List ℕ)) (info : Option (List ℕ))
    → first_of (said_after l info) ≡ info_after info (first_of l)
first_of-after l info = grind arith

-- ---- each kind of line

pub same_store : (a b : Store) → a.sdr ≡ b.sdr → a.sel ≡ b.sel → a.inventories ≡ b.inventories
    → a.readings ≡ b.readings → a.sdr_info ≡ b.sdr_info → a.sel_info ≡ b.sel_info → a ≡ b
same_store a b e1 e2 e3 e4 e5 e6 =
    let made = λ (s : Store). let x : Store = record { sdr = s.sdr; sel = s.sel; inventories = s.inventories; readings = s.readings; sdr_info = s.sdr_info; sel_info = s.sel_info } in x in
    let same : made a ≡ made b = cc in same

-- the contents are those of the lines
pub store_of-lines : (contents : Contents) (lines : List Line) → HoldsLines contents lines
    → store_of contents ≡ store_of_lines lines
store_of-lines contents lines holds = same_store (store_of contents) (store_of_lines lines) (ap chained holds.sdr) (ap chained holds.sel) holds.inventories holds.readings holds.sdr_info holds.sel_info

-- the same result of an addition, with its fault and its effect stated in another way
puts_as : (f f' : Option LineFault) (P P' : Type 0) (r : Result (Unit {0}) LineFault) → f' ≡ f
    → (f ≡ None → P → P') → Puts f P r → Puts f' P' r
puts_as f f' P P' (Ok done) e to put = (e ∙ put.0, to put.0 put.1)
puts_as f f' P P' (Err x) e to put = elim put [ inl memory ↦ inl memory | inr is ↦ inr (e ∙ is) ]

-- a line was added after these lines, or is not allowed there, or memory ran out
abbrev pub IsPut : Contents → List Line → Line → Result (Unit {0}) LineFault → Type 0
IsPut new before line result = Puts (fault_in (store_of_lines before) line) (HoldsLines new (before ++ line ∷ [])) result

module _ (old : Contents) (before : List Line) (holds : HoldsLines old before) where
  fault_in-store_of_lines : (line : Line)
      → fault_in (store_of_lines before) line ≡ fault_in (store_of old) line
  fault_in-store_of_lines line = rw (sym (store_of-lines old before holds)) refl

  -- each part of the new contents is the old part with the item of the line
  holds-after : (new : Contents) (line : Line) → new.sdr ≡ said_after old.sdr (row_on Sdr line)
      → new.sel ≡ said_after old.sel (row_on Sel line)
      → map kept_inventory new.inventories
      ≡ with_inventory_line (map kept_inventory old.inventories) line
      → map sensor_of new.sensors ≡ said_after (map sensor_of old.sensors) (sensor_on line)
      → new.sdr_info ≡ info_after (info_on Sdr line) old.sdr_info
      → new.sel_info ≡ info_after (info_on Sel line) old.sel_info
      → HoldsLines new (before ++ line ∷ [])
  holds-after new line sdr sel inventories readings sdr_info sel_info = record {
    sdr = sdr ∙ rw holds.sdr (sym (filter_map-after (row_on Sdr) before line));
    sel = sel ∙ rw holds.sel (sym (filter_map-after (row_on Sel) before line));
    inventories = inventories ∙ rw holds.inventories (sym (fold-append with_inventory_line [] before (line ∷ [])));
    readings = readings ∙ rw holds.readings (sym (filter_map-after sensor_on before line));
    sdr_info = sdr_info ∙ ap (info_after (info_on Sdr line)) holds.sdr_info ∙ sym (ap first_of (filter_map-after (info_on Sdr) before line) ∙ first_of-after _ (info_on Sdr line));
    sel_info = sel_info ∙ ap (info_after (info_on Sel line)) holds.sel_info ∙ sym (ap first_of (filter_map-after (info_on Sel) before line) ∙ first_of-after _ (info_on Sel line));
  }

  pub sdr-put : (row : SavedRow) (sdr : List SavedRow) (r : Result (Unit {0}) LineFault)
      → Puts (row_fault Sdr (chained old.sdr) row) (sdr ≡ old.sdr ++ row ∷ []) r
      → IsPut (record old { sdr = sdr }) before (a_row Sdr row) r
  sdr-put row sdr r = puts_as _ _ _ _ r (fault_in-store_of_lines (a_row Sdr row)) (λ none is. holds-after (record old { sdr = sdr }) (a_row Sdr row) is refl refl refl refl refl)

  pub sel-put : (row : SavedRow) (sel : List SavedRow) (r : Result (Unit {0}) LineFault)
      → Puts (row_fault Sel (chained old.sel) row) (sel ≡ old.sel ++ row ∷ []) r
      → IsPut (record old { sel = sel }) before (a_row Sel row) r
  sel-put row sel r = puts_as _ _ _ _ r (fault_in-store_of_lines (a_row Sel row)) (λ none is. holds-after (record old { sel = sel }) (a_row Sel row) refl is refl refl refl refl)

  pub bytes-put : (id : ℕ) (bytes : List ℕ) (inventories : List StoredInventory)
      (r : Result (Unit {0}) LineFault)
      → Puts (inventory_fault id (inventory_in (map kept_inventory old.inventories) id) bytes)
      (map kept_inventory inventories ≡ with_bytes id bytes (map kept_inventory old.inventories)) r
      → IsPut (record old { inventories = inventories }) before (an_inventory id bytes) r
  bytes-put id bytes inventories r =
      puts_as _ _ _ _ r (fault_in-store_of_lines (an_inventory id bytes))
      (λ none is. holds-after (record old { inventories = inventories }) (an_inventory id bytes)
      refl refl is refl refl refl)

  pub sensor-put : (lun number : ℕ) (bytes : List ℕ) (sensors : List StoredSensor)
      (r : Result (Unit {0}) LineFault)
      → Puts (reading_fault lun (reading_in (map sensor_of old.sensors) lun number) bytes)
      (map sensor_of sensors ≡ map sensor_of old.sensors
      ++ record { lun = lun; number = number; reading = reading_of_bytes bytes } ∷ []) r
      → IsPut (record old { sensors = sensors }) before (a_reading lun number bytes) r
  sensor-put lun number bytes sensors r =
      puts_as _ _ _ _ r (fault_in-store_of_lines (a_reading lun number bytes))
      (λ none is. holds-after (record old { sensors = sensors }) (a_reading lun number bytes) refl
      refl refl is refl refl)

  -- the info is the first
  first_info : (already info : Option (List ℕ)) (bytes : List ℕ) → info_fault already bytes ≡ None
      → info ≡ Some bytes → info ≡ info_after (Some bytes) already
  first_info already info bytes none is = grind arith

  pub sdr_info-put : (bytes : List ℕ) (info : Option (List ℕ)) (r : Result (Unit {0}) LineFault)
      → Puts (info_fault old.sdr_info bytes) (info ≡ Some bytes) r
      → IsPut (record old { sdr_info = info }) before (an_info Sdr bytes) r
  sdr_info-put bytes info r =
      puts_as _ _ _ _ r (fault_in-store_of_lines (an_info Sdr bytes))
      (λ none is. holds-after (record old { sdr_info = info }) (an_info Sdr bytes) refl refl refl
      refl (first_info old.sdr_info info bytes none is) refl)

  pub sel_info-put : (bytes : List ℕ) (info : Option (List ℕ)) (r : Result (Unit {0}) LineFault)
      → Puts (info_fault old.sel_info bytes) (info ≡ Some bytes) r
      → IsPut (record old { sel_info = info }) before (an_info Sel bytes) r
  sel_info-put bytes info r =
      puts_as _ _ _ _ r (fault_in-store_of_lines (an_info Sel bytes))
      (λ none is. holds-after (record old { sel_info = info }) (an_info Sel bytes) refl refl refl
      refl refl (first_info old.sel_info info bytes none is))

  pub end-put : IsPut old before the_end (Ok tt)
  end-put = (refl, holds-after old the_end refl refl refl refl refl refl)

-- ---- inventories and readings of a store

pub inventory_fits : (inventories : List Inventory) (id : ℕ) → All IsInventory inventories
    → (length (unwrap_or (inventory_in inventories id) []) ≤ 65535)
    × AreBytes (unwrap_or (inventory_in inventories id) [])
inventory_fits [] id all = (omega arith, λ k d below. absurd (omega (arith, below)))
inventory_fits (x ∷ xs) id all = by (inventory_fits xs id (λ k d lt. all (suc k) d (omega (arith, lt)))) (nat_eq x.id id)
  where
    by : (length (unwrap_or (inventory_in xs id) []) ≤ 65535)
        × AreBytes (unwrap_or (inventory_in xs id) [])
        → (b : Bool) → (length (unwrap_or (cond b (Some x.bytes) (inventory_in xs id)) []) ≤ 65535)
        × AreBytes (unwrap_or (cond b (Some x.bytes) (inventory_in xs id)) [])
    by rest true = ((all 0 x (omega arith)).fits, (all 0 x (omega arith)).bytes)
    by rest false = rest

-- a fact about each inventory that also holds for the one with more bytes
pub with_bytes_all : (P : Inventory → Type 0) (id : ℕ) (bytes : List ℕ) (xs : List Inventory)
    → P (record { id = id; bytes = unwrap_or (inventory_in xs id) [] ++ bytes }) → All P xs
    → All P (with_bytes id bytes xs)
with_bytes_all P id bytes [] new all = All-cons P _ [] new all
with_bytes_all P id bytes (x ∷ xs) new all = by (λ more tail. with_bytes_all P id bytes xs more tail) (λ k d lt. all (suc k) d (omega (arith, lt))) (nat_eq x.id id) refl new
  where
    by : (P (record { id = id; bytes = unwrap_or (inventory_in xs id) [] ++ bytes }) → All P xs
        → All P (with_bytes id bytes xs)) → All P xs → (b : Bool) → nat_eq x.id id ≡ b
        → P (record { id = id; bytes = unwrap_or (cond b (Some x.bytes) (inventory_in xs id)) [] ++ bytes }) → All P (cond b (record { id = x.id; bytes = x.bytes ++ bytes } ∷ xs) (x ∷ with_bytes id bytes xs))
    by later tail true e new = All-cons P _ xs (rw (eqb-true x.id id e) new) tail
    by later tail false e new = All-cons P x _ (all 0 x (omega arith)) (later new tail)

-- no two inventories have the same id
with_bytes_apart : (id : ℕ) (bytes : List ℕ) (xs : List Inventory)
    → AllPairs (λ a b. a.id ≢ b.id) xs → AllPairs (λ a b. a.id ≢ b.id) (with_bytes id bytes xs)
with_bytes_apart id bytes [] apart = λ i j d lt below. absurd (omega (arith, lt, below))
with_bytes_apart id bytes (x ∷ xs) apart = by (with_bytes_apart id bytes xs (λ i j d lt below. apart (suc i) (suc j) d (omega (arith, lt)) (omega (arith, below)))) (nat_eq x.id id) refl
  where
    by : AllPairs (λ a b. a.id ≢ b.id) (with_bytes id bytes xs) → (b : Bool) → nat_eq x.id id ≡ b
        → AllPairs (λ a b. a.id ≢ b.id)
        (cond b (record { id = x.id; bytes = x.bytes ++ bytes } ∷ xs) (x ∷ with_bytes id bytes xs))
    by later b e i zero d lt below = absurd (omega (arith, lt))
    by later true e zero (suc j) d lt below = apart 0 (suc j) d lt below
    by later true e (suc i) (suc j) d lt below = apart (suc i) (suc j) d lt below
    by later false e zero (suc j) d lt below =
        with_bytes_all (λ y. x.id ≢ y.id) id bytes xs (λ same. absurd (eqb-false x.id id e same))
        (λ k d lt. apart 0 (suc k) d (omega arith) (omega (arith, lt))) j d (omega (arith, below))
    by later false e (suc i) (suc j) d lt below = later i j d (omega (arith, lt)) (omega (arith, below))

-- with more bytes they are still inventories of a store
pub AreInventories-more : (xs : List Inventory) (id : ℕ) (bytes : List ℕ)
    → inventory_fault id (inventory_in xs id) bytes ≡ None → id < 256 → AreBytes bytes
    → AreInventories xs → AreInventories (with_bytes id bytes xs)
AreInventories-more xs id bytes fine lt new are = record {
  all = with_bytes_all IsInventory id bytes xs (record {
    id = grind (arith, nat_tests);
    fits = grind (arith, nat_tests, length-append (unwrap_or (inventory_in xs id) []) bytes);
    bytes = All-append (λ n. n < 256) (unwrap_or (inventory_in xs id) []) bytes (inventory_fits xs id are.all).1 new;
  }) are.all;
  distinct = with_bytes_apart id bytes xs are.distinct;
}

pub reading_fine : (lun : ℕ) (already : Option Reading) (bytes : List ℕ)
    → reading_fault lun already bytes ≡ None → (already ≡ None) × (lun ≤ 3)
reading_fine lun already bytes fine = grind (arith, nat_tests)

other_sensor : (readings : List SensorReading) (new : SensorReading) (k : ℕ) (d : SensorReading)
    → reading_in readings new.lun new.number ≡ None → k < length readings
    → OtherSensor (get_or readings k d) new
other_sensor [] new k d none lt = absurd (omega (arith, lt))
other_sensor (x ∷ xs) new zero d none lt = λ same same'. grind (arith, nat_tests)
other_sensor (x ∷ xs) new (suc k) d none lt = other_sensor xs new k d (grind arith) (omega (arith, lt))

pub AreReadings-new : (readings : List SensorReading) (new : SensorReading)
    → reading_in readings new.lun new.number ≡ None → IsSensorReading new → AreReadings readings
    → AreReadings (readings ++ new ∷ [])
AreReadings-new readings new none is are = record {
  all = All-push IsSensorReading readings new are.all is;
  distinct = all_pairs_push OtherSensor readings new are.distinct (λ k d below. other_sensor readings new k d none below);
}
