-- All phases of a capture, one after the other.
use Rattle.std.proofs.Common.{Option, None, Some, ◌≡◌, ℕ, zero, suc, ◌<◌, ◌==◌, ◌||◌, true, false, IsTrue, List, [], ◌∷◌, length, take, get_or, map, ◌⊎◌, inl, inr, refl, sym, ap, subst, ◌∙◌, arith, All, Bool, slice_index_or}
use Rattle.std.proofs.lemmas.List.{length-map}
use Rattle.std.proofs.lemmas.List.Folds.{list_all_at}
use Rattle.std.proofs.lemmas.Bool.Decides.{nat_tests}
use Rattle.std.proofs.Math.ListN.{get_or-map}
use Rattle.ipmi_capture.specs.Below.{Cycle, CycleAt, MissingAt, Ended, EndsBy, First, GaveUp, IsWalk, Malformed, Missing, Refused, Row, Seen, Shelf, Stalled, StaysHonest, WalkEnd, info_of, inventory_of, IsHonest, IsStore, reading_of, reading_in, rows_of, Sdr, Sel, SensorReading, stays_trans, Store, with_info, with_rows}
use Rattle.ipmi_capture.specs.Capture.{devices_of, HasWalk, InventoryOrLeft, IsCaptureBut, IsCaptureOf, NoneOrSame, OwnInventories, OwnReadings, ReadingOrLeft, SameWalk, sensors_of, WalkOrLeft}
use Rattle.ipmi_capture.specs.Named.{AreMarks, IsSensorKey, Names, sensor_place}
use Rattle.ipmi_capture.specs.Meanwhile.{IsTrueWhile}
use Rattle.ipmi_capture.specs.Phases.{Adds, AreRowsOf, AreWalk, CameOf, Captures, HasInventories, HasReadings, IsEndOf, IsUnkept, IsUnread, NoneIsFaulty, PlainEnds, Walks, WalksWhile}
use Rattle.ipmi_capture.specs.Left.{EndIsNoted, EndsAs, IsLeftOut, NotesEnd, LacksInfo, LacksInventory, LacksReading, LacksRecords, leaves_nothing, PlainLeaves, SameOrLeft}
use Rattle.ipmi_capture.specs.declared.left.Left.{Left}
use Rattle.std.specs.List.{Any, list_all}
use Rattle.std.proofs.lemmas.List.Elements.{All-append, All-cons, All-nil}
use Rattle.ipmi_capture.proofs.FoundLemmas.{is_marked, no_device}
use Rattle.ipmi_capture.proofs.ReadLemmas.{adds_weaker, any_of_one, captures_with, Lasts, nothing_left, same_more, walk_more}
use Rattle.ipmi_capture.proofs.WalkLemmas.{same_walk}

-- each sensor that a record names is marked
pub named_readings : (P : ℕ × ℕ → Type 0) (sensors : List Bool) (keys : List (ℕ × ℕ)) → All IsSensorKey keys
    → AreMarks sensors (map sensor_place keys)
    → ((key : ℕ × ℕ) → IsSensorKey key → slice_index_or sensors (sensor_place key) false ≡ true → P key) → All P keys
named_readings P sensors keys are marks named = λ k d lt.
    let len = length-map keys sensor_place in
    let at = is_marked (map sensor_place keys) k (sensor_place d) (omega (arith, lt, len)) in
    named (get_or keys k d) (are k d lt) (marks _ ∙ rw (get_or-map sensor_place keys k d) at at)

-- and so is each device
pub named_inventories : (P : ℕ → Type 0) (devices : List Bool) (ids : List ℕ) → All (λ id. id < 256) ids → AreMarks devices ids
    → ((id : ℕ) → id < 255 → IsTrue ((id == 0) || slice_index_or devices id false) → P id) → P 255 → All P (0 ∷ ids)
named_inventories P devices ids are marks named last = λ k d lt. by k d lt
  where
    real : (id : ℕ) → (id < 255) ⊎ (id ≡ 255) → slice_index_or devices id false ≡ true → P id
    real id (inl lt) mark = named id lt (grind (arith, mark))
    real id (inr is) mark = subst P (sym is) last

    decide : (id : ℕ) → id < 256 → (id < 255) ⊎ (id ≡ 255)
    decide id lt = grind (arith, nat_tests)

    by : (k d : ℕ) → k < length (0 ∷ ids) → P (get_or (0 ∷ ids) k d)
    by zero d lt = named 0 (omega arith) refl
    by (suc k) d lt =
        let id = get_or ids k d in
        let below : k < length ids = omega (arith, lt) in
        real id (decide id (are k d below)) (marks id ∙ is_marked ids k d below)

-- FFh is no device
pub neither : (image store : Store) → IsStore image → IsStore store → inventory_of 255 image ≡ inventory_of 255 store
neither image store is_image is_store =
    rw (no_device image.inventories is_image.inventories, no_device store.inventories is_store.inventories) refl

module _ (left : List Left) (image store : Store) where
  pub is_capture : IsStore image → IsStore store → AreWalk Sdr left store image.sdr
      → AreWalk Sel left store image.sel
      → SameOrLeft (LacksInfo Sdr) left (info_of Sdr image) (info_of Sdr store)
      → SameOrLeft (LacksInfo Sel) left (info_of Sel image) (info_of Sel store)
      → All (ReadingOrLeft left image store) (sensors_of image.sdr)
      → All (InventoryOrLeft left image store) (0 ∷ devices_of image.sdr)
      → OwnReadings image store → OwnInventories image store → IsCaptureBut left image store
  is_capture is_image is_store sdr sel sdr_info sel_info readings inventories own_readings own_inventories = record {
    sdr = same_walk Sdr left image store sdr;
    sel = same_walk Sel left image store sel;
    sdr_info = sdr_info;
    sel_info = sel_info;
    readings = readings;
    inventories = inventories;
    own_readings = own_readings;
    own_inventories = own_inventories;
  }

-- ---- if nothing was left out

module _ (left : List Left) (nothing : IsTrue (list_all leaves_nothing left)) where
  none_of : (P : Left → Type 0) → ((l : Left) → P l → leaves_nothing l ≡ false) → Any P left → ⊥
  none_of P lacks any =
      let is : leaves_nothing (get_or left any.0 any.1) ≡ false = ap leaves_nothing any.3 ∙ lacks any.1 any.4 in
      let all : list_all leaves_nothing left ≡ false = list_all_at leaves_nothing left any.0 any.1 any.2 is in
      absurd (grind (arith, all, nothing))

  same_of : {V : Type 0} (P : Left → Type 0) (a b : Option V)
      → ((l : Left) → P l → leaves_nothing l ≡ false) → SameOrLeft P left a b → a ≡ b
  same_of P a b lacks (inl same) = same
  same_of P a b lacks (inr other) = absurd (none_of P lacks other.1)

  no_records : (shelf : Shelf) (l : Left) → LacksRecords shelf l → leaves_nothing l ≡ false
  no_records shelf (Left.Records s (Cycle n)) lacks = absurd lacks
  no_records shelf (Left.Records s (Missing n)) lacks = absurd lacks
  no_records shelf (Left.Records s (GaveUp n)) lacks = refl
  no_records shelf (Left.Records s (Refused n code)) lacks = refl
  no_records shelf (Left.Records s (Stalled n)) lacks = refl
  no_records shelf (Left.Records s (Malformed n)) lacks = refl
  no_records shelf (Left.Info s unread) lacks = refl
  no_records shelf (Left.Reading l n unread) lacks = refl
  no_records shelf (Left.Size i code) lacks = refl
  no_records shelf (Left.Empty i) lacks = refl
  no_records shelf (Left.CutOff i) lacks = refl
  no_records shelf (Left.Inventory i ended) lacks = refl

  no_info : (shelf : Shelf) (l : Left) → LacksInfo shelf l → leaves_nothing l ≡ false
  no_info shelf (Left.Records s ended) lacks = absurd lacks
  no_info shelf (Left.Info s unread) lacks = refl
  no_info shelf (Left.Reading l n unread) lacks = refl
  no_info shelf (Left.Size i code) lacks = refl
  no_info shelf (Left.Empty i) lacks = refl
  no_info shelf (Left.CutOff i) lacks = refl
  no_info shelf (Left.Inventory i ended) lacks = refl

  no_reading : (lun number : ℕ) (l : Left) → LacksReading lun number l → leaves_nothing l ≡ false
  no_reading lun number (Left.Records s ended) lacks = absurd lacks
  no_reading lun number (Left.Info s unread) lacks = refl
  no_reading lun number (Left.Reading l n unread) lacks = refl
  no_reading lun number (Left.Size i code) lacks = refl
  no_reading lun number (Left.Empty i) lacks = refl
  no_reading lun number (Left.CutOff i) lacks = refl
  no_reading lun number (Left.Inventory i ended) lacks = refl

  no_inventory : (id : ℕ) (l : Left) → LacksInventory id l → leaves_nothing l ≡ false
  no_inventory id (Left.Records s ended) lacks = absurd lacks
  no_inventory id (Left.Info s unread) lacks = refl
  no_inventory id (Left.Reading l n unread) lacks = refl
  no_inventory id (Left.Size i code) lacks = refl
  no_inventory id (Left.Empty i) lacks = refl
  no_inventory id (Left.CutOff i) lacks = refl
  no_inventory id (Left.Inventory i ended) lacks = refl

  walk_of : (shelf : Shelf) (image store : Store) → WalkOrLeft shelf left image store
      → SameWalk shelf image store
  walk_of shelf image store walks = λ walk end is ends. by walk end (walks walk end is ends)
    where
      by : (walk : List Row) (end : WalkEnd)
          → (HasWalk shelf image walk end × EndIsNoted shelf left end)
          ⊎ ((rows_of shelf image ≡ take (length (rows_of shelf image)) walk) × Any (LacksRecords shelf) left)
          → HasWalk shelf image walk end
      by walk end (inl same) = same.0
      by walk end (inr front) = absurd (none_of (LacksRecords shelf) (no_records shelf) front.1)

  pub whole_capture : (image store : Store) → IsCaptureBut left image store → IsCaptureOf image store
  whole_capture image store but = record {
    sdr = walk_of Sdr image store but.sdr;
    sel = walk_of Sel image store but.sel;
    sdr_info = same_of (LacksInfo Sdr) (info_of Sdr image) (info_of Sdr store) (no_info Sdr) but.sdr_info;
    sel_info = same_of (LacksInfo Sel) (info_of Sel image) (info_of Sel store) (no_info Sel) but.sel_info;
    readings = λ k d lt.
        let key = get_or (sensors_of image.sdr) k d in
        same_of (LacksReading key.0 key.1) (reading_of key.0 key.1 image) (reading_of key.0 key.1 store) (no_reading key.0 key.1) (but.readings k d lt);
    inventories = λ k d lt.
        let id = get_or (0 ∷ devices_of image.sdr) k d in
        same_of (LacksInventory id) (inventory_of id image) (inventory_of id store) (no_inventory id) (but.inventories k d lt);
    own_readings = but.own_readings;
    own_inventories = but.own_inventories;
  }

noted : (shelf : Shelf) (e : Ended) (at end : WalkEnd) → NotesEnd shelf at (Left.Records shelf e) → end ≡ at
    → EndIsNoted shelf (Left.Records shelf e ∷ []) end
noted shelf e at end notes is = inr (any_of_one (NotesEnd shelf end) (Left.Records shelf e)
    (subst (λ (x : WalkEnd). NotesEnd shelf x (Left.Records shelf e)) (sym is) notes))

-- the rows read, and the item that is noted
pub came_rows : (shelf : Shelf) (rows walk : List Row) (end : WalkEnd) (e : Ended) → CameOf walk end rows (Some e)
    → AreRowsOf shelf (Left.Records shelf e ∷ []) rows walk end
came_rows shelf rows walk end (Cycle n) came = inl (came.0, noted shelf (Cycle n) (CycleAt n) end refl came.1)
came_rows shelf rows walk end (Missing n) came = inl (came.0, noted shelf (Missing n) (MissingAt n) end refl came.1)
came_rows shelf rows walk end (GaveUp n) came = inr (came, any_of_one (LacksRecords shelf) (Left.Records shelf (GaveUp n)) refl)
came_rows shelf rows walk end (Refused n code) came = inr (came, any_of_one (LacksRecords shelf) (Left.Records shelf (Refused n code)) refl)
came_rows shelf rows walk end (Stalled n) came = inr (came, any_of_one (LacksRecords shelf) (Left.Records shelf (Stalled n)) refl)
came_rows shelf rows walk end (Malformed n) came = inr (came, any_of_one (LacksRecords shelf) (Left.Records shelf (Malformed n)) refl)

-- the records of a shelf whose listing ended for this reason
pub captures_walk : {S : Seen → Type 0} {tries : ℕ} {s s' : Seen} (shelf : Shelf) (rows : List Row) (ended : Ended)
    → StaysHonest s s' → Walks S shelf tries s s' rows (Some ended) → WalksWhile shelf s s' rows (Some ended)
    → Captures S tries s s' [] (Left.Records shelf ended ∷ [])
    (AreWalk shelf (Left.Records shelf ended ∷ []) s.store rows)
captures_walk {s = s} {s' = s'} shelf rows ended stays walks meanwhile = record {
  more = Left.Records shelf ended ∷ [];
  grows = refl;
  counts = walks.counts;
  fact = λ same walk end is ends. came_rows shelf rows walk end ended (walks.along same walk end is ends);
  told = All-cons (IsTrueWhile s s') (Left.Records shelf ended) [] (told ended walks.none_faulty meanwhile) (All-nil (IsTrueWhile s s'));
  plain = λ p all. All-cons (PlainLeaves s.store) (Left.Records shelf ended) []
      (fine ended (walks.plain p) (λ walk end is ends. walks.along (stays.plain_store p) walk end is ends)) (All-nil (PlainLeaves s.store));
}
  where
    told : (e : Ended) → NoneIsFaulty (Some e) → WalksWhile shelf s s' rows (Some e) → IsTrueWhile s s' (Left.Records shelf e)
    told (Cycle n) none came = record {
      kept = λ keeps walk end is ends. (came.kept keeps walk end is ends).1;
      not_grown = λ grown. (came.along grown.0 grown.1 grown.2).2.1;
    }
    told (Missing n) none came = record {
      kept = λ keeps walk end is ends. (came.kept keeps walk end is ends).1;
      not_grown = λ grown. (came.along grown.0 grown.1 grown.2).2.1;
    }
    told (GaveUp n) none came = tt
    told (Refused n code) none came = tt
    told (Stalled n) none came = none
    told (Malformed n) none came = none

    fine : (e : Ended) → PlainEnds (Some e) → ((walk : List Row) (end : WalkEnd)
        → IsWalk (rows_of shelf s.store) First walk → EndsBy (rows_of shelf s.store) First walk end
        → CameOf walk end rows (Some e)) → PlainLeaves s.store (Left.Records shelf e)
    fine (Cycle n) plain came = λ walk end is ends. (came walk end is ends).1
    fine (Missing n) plain came = λ walk end is ends. (came walk end is ends).1
    fine (GaveUp n) plain came = plain
    fine (Refused n code) plain came = plain
    fine (Stalled n) plain came = plain
    fine (Malformed n) plain came = plain

-- the records of a shelf whose listing was finished
pub captures_whole_walk : {S : Seen → Type 0} {tries : ℕ} {s s' : Seen} (shelf : Shelf) (rows : List Row) (left : List Left)
    → Walks S shelf tries s s' rows None → Captures S tries s s' left left (AreWalk shelf left s.store rows)
captures_whole_walk shelf rows left walks =
    nothing_left left walks.counts (λ same walk end is ends. let came = walks.along same walk end is ends in inl (came.0, inl came.1))

-- ---- all phases; the controller stays honest in each

pub stays_on : {a b c : Seen} → (IsHonest a → StaysHonest a b) → (IsHonest b → StaysHonest b c)
    → IsHonest a → StaysHonest a c
stays_on {a = a} {b = b} {c = c} first later h = stays_trans a b c (first h) (later (first h).honest)

both_last : (A B : Store → List Left → Type 0) → Lasts A → Lasts B → Lasts (λ s l. A s l × B s l)
both_last A B la lb store left more h = (la store left more h.0, lb store left more h.1)

module _ {s0 s1 s2 s3 s4 s5 s6 : Seen} (k1 : StaysHonest s0 s1) (k2 : StaysHonest s1 s2)
    (k3 : StaysHonest s2 s3) (k4 : StaysHonest s3 s4) (k5 : StaysHonest s4 s5)
    (k6 : StaysHonest s5 s6) where
  two : StaysHonest s0 s2
  two = stays_trans s0 s1 s2 k1 k2

  three : StaysHonest s0 s3
  three = stays_trans s0 s2 s3 two k3

  four : StaysHonest s0 s4
  four = stays_trans s0 s3 s4 three k4

  five : StaysHonest s0 s5
  five = stays_trans s0 s4 s5 four k5

  pub all_parts : {S : Seen → Type 0} {tries : ℕ} {l0 l1 l2 l3 l4 l5 l6 : List Left} (A B C D E F : Store → List Left → Type 0)
      → Lasts A → Lasts B → Lasts C → Lasts D → Lasts E
      → Captures S tries s0 s1 l0 l1 (A s0.store l1) → Captures S tries s1 s2 l1 l2 (B s1.store l2)
      → Captures S tries s2 s3 l2 l3 (C s2.store l3) → Captures S tries s3 s4 l3 l4 (D s3.store l4)
      → Captures S tries s4 s5 l4 l5 (E s4.store l5) → Captures S tries s5 s6 l5 l6 (F s5.store l6)
      → Captures S tries s0 s6 l0 l6
      (((((A s0.store l6 × B s0.store l6) × C s0.store l6) × D s0.store l6) × E s0.store l6) × F s0.store l6)
  all_parts A B C D E F la lb lc ld le a b c d e f =
      let ab = captures_with A B la k1 k2 a b in
      let lab = both_last A B la lb in
      let abc = captures_with (λ s l. A s l × B s l) C lab two k3 ab c in
      let labc = both_last (λ s l. A s l × B s l) C lab lc in
      let abcd = captures_with (λ s l. (A s l × B s l) × C s l) D labc three k4 abc d in
      let labcd = both_last (λ s l. (A s l × B s l) × C s l) D labc ld in
      let abcde = captures_with (λ s l. ((A s l × B s l) × C s l) × D s l) E labcd four k5 abcd e in
      let labcde = both_last (λ s l. ((A s l × B s l) × C s l) × D s l) E labcd le in
      captures_with (λ s l. (((A s l × B s l) × C s l) × D s l) × E s l) F labcde five k6 abcde f

walk_lasts : (shelf : Shelf) (rows : List Row) → Lasts (λ s l. AreWalk shelf l s rows)
walk_lasts shelf rows store left more are = walk_more shelf left more rows store are

info_lasts : (shelf : Shelf) (image : Store)
    → Lasts (λ s l. SameOrLeft (LacksInfo shelf) l (info_of shelf image) (info_of shelf s))
info_lasts shelf image store left more same = same_more (LacksInfo shelf) left more _ _ same

readings_last : (marks : List Bool) (image : Store) → Lasts (λ s l. HasReadings marks l image s)
readings_last marks image store left more has = record {
  named = λ key is mark. same_more (LacksReading key.0 key.1) left more _ _ (has.named key is mark);
  own = has.own;
}

-- the effect of each phase on the image of the phase before it
abbrev pub Parts : List Bool → List Bool → Store → Store → Store → Store → Store → Store → List Left → Store → Type 0
Parts sensors devices i1 i2 i3 i4 i5 i6 left store =
    ((((SameOrLeft (LacksInfo Sdr) left (info_of Sdr i1) (info_of Sdr store) × AreWalk Sdr left store (rows_of Sdr i2))
    × SameOrLeft (LacksInfo Sel) left (info_of Sel i3) (info_of Sel store)) × AreWalk Sel left store (rows_of Sel i4))
    × HasReadings sensors left i5 store) × HasInventories devices left i6 store

pub captures_parts : {S : Seen → Type 0} {tries : ℕ} {s0 s1 s2 s3 s4 s5 s6 : Seen} {l0 l1 l2 l3 l4 l5 l6 : List Left}
    (i1 i2 i3 i4 i5 i6 : Store) (sensors devices : List Bool)
    → (IsHonest s0 → StaysHonest s0 s1) → (IsHonest s1 → StaysHonest s1 s2)
    → (IsHonest s2 → StaysHonest s2 s3) → (IsHonest s3 → StaysHonest s3 s4)
    → (IsHonest s4 → StaysHonest s4 s5) → (IsHonest s5 → StaysHonest s5 s6)
    → (IsHonest s0 → Captures S tries s0 s1 l0 l1 (SameOrLeft (LacksInfo Sdr) l1 (info_of Sdr i1) (info_of Sdr s0.store)))
    → (IsHonest s1 → Captures S tries s1 s2 l1 l2 (AreWalk Sdr l2 s1.store (rows_of Sdr i2)))
    → (IsHonest s2 → Captures S tries s2 s3 l2 l3 (SameOrLeft (LacksInfo Sel) l3 (info_of Sel i3) (info_of Sel s2.store)))
    → (IsHonest s3 → Captures S tries s3 s4 l3 l4 (AreWalk Sel l4 s3.store (rows_of Sel i4)))
    → (IsHonest s4 → Captures S tries s4 s5 l4 l5 (HasReadings sensors l5 i5 s4.store))
    → (IsHonest s5 → Captures S tries s5 s6 l5 l6 (HasInventories devices l6 i6 s5.store))
    → IsHonest s0 → Captures S tries s0 s6 l0 l6 (Parts sensors devices i1 i2 i3 i4 i5 i6 l6 s0.store)
captures_parts i1 i2 i3 i4 i5 i6 sensors devices stays1 stays2 stays3 stays4 stays5 stays6 a b c d e f h =
    let k1 = stays1 h in
    let k2 = stays2 k1.honest in
    let k3 = stays3 k2.honest in
    let k4 = stays4 k3.honest in
    let k5 = stays5 k4.honest in
    let k6 = stays6 k5.honest in
    all_parts k1 k2 k3 k4 k5 k6
    (λ s l. SameOrLeft (LacksInfo Sdr) l (info_of Sdr i1) (info_of Sdr s)) (λ s l. AreWalk Sdr l s (rows_of Sdr i2))
    (λ s l. SameOrLeft (LacksInfo Sel) l (info_of Sel i3) (info_of Sel s)) (λ s l. AreWalk Sel l s (rows_of Sel i4))
    (λ s l. HasReadings sensors l i5 s) (λ s l. HasInventories devices l i6 s)
    (info_lasts Sdr i1) (walk_lasts Sdr (rows_of Sdr i2)) (info_lasts Sel i3) (walk_lasts Sel (rows_of Sel i4)) (readings_last sensors i5)
    (a h) (b k1.honest) (c k2.honest) (d k3.honest) (e k4.honest) (f k5.honest)

-- later phases keep what was put into the image
pub assemble : (left : List Left) (store i0 i1 i2 i3 i4 i5 i6 : Store) → i1 ≡ with_info Sdr (info_of Sdr i1) i0
    → i2 ≡ with_rows Sdr (rows_of Sdr i2) i1 → i3 ≡ with_info Sel (info_of Sel i3) i2
    → i4 ≡ with_rows Sel (rows_of Sel i4) i3 → i5 ≡ record i4 { readings = i5.readings }
    → i6 ≡ record i5 { inventories = i6.inventories } → IsStore i6 → IsStore store
    → (sensors devices : List Bool) → Names i4.sdr sensors devices
    → Parts sensors devices i1 i2 i3 i4 i5 i6 left store → IsCaptureBut left i6 store
assemble left store i0 i1 i2 i3 i4 i5 i6 e1 e2 e3 e4 e5 e6 is_image is_store sensors devices names facts =
    let sdr_four : i6.sdr ≡ i4.sdr = ap (λ (x : Store). x.sdr) e6 ∙ ap (λ (x : Store). x.sdr) e5 in
    let sdr_two : i6.sdr ≡ i2.sdr = sdr_four ∙ ap (λ (x : Store). x.sdr) e4 ∙ ap (λ (x : Store). x.sdr) e3 in
    let sel_four : i6.sel ≡ i4.sel = ap (λ (x : Store). x.sel) e6 ∙ ap (λ (x : Store). x.sel) e5 in
    let sel_info : i6.sel_info ≡ i3.sel_info = ap (λ (x : Store). x.sel_info) e6 ∙ ap (λ (x : Store). x.sel_info) e5 ∙ ap (λ (x : Store). x.sel_info) e4 in
    let sdr_info : i6.sdr_info ≡ i1.sdr_info = ap (λ (x : Store). x.sdr_info) e6 ∙ ap (λ (x : Store). x.sdr_info) e5 ∙ ap (λ (x : Store). x.sdr_info) e4
    ∙ ap (λ (x : Store). x.sdr_info) e3 ∙ ap (λ (x : Store). x.sdr_info) e2 in
    let readings : i6.readings ≡ i5.readings = ap (λ (x : Store). x.readings) e6 in
    let named : Names i6.sdr sensors devices = rw sdr_four names in
    let has : HasReadings sensors left i6 store =
    record {
      named = λ key is mark. subst (λ (l : List SensorReading). SameOrLeft (LacksReading key.0 key.1) left (reading_in l key.0 key.1) (reading_of key.0 key.1 store)) (sym readings) (facts.0.1.named key is mark);
      own = λ lun number. subst (λ (l : List SensorReading). NoneOrSame (reading_in l lun number) (reading_of lun number store)) (sym readings) (facts.0.1.own lun number);
    } in
    is_capture left i6 store is_image is_store (rw sdr_two facts.0.0.0.0.1) (rw sel_four facts.0.0.1)
    (subst (λ (o : _). SameOrLeft (LacksInfo Sdr) left o (info_of Sdr store)) (sym sdr_info) facts.0.0.0.0.0)
    (subst (λ (o : _). SameOrLeft (LacksInfo Sel) left o (info_of Sel store)) (sym sel_info) facts.0.0.0.1)
    (named_readings (ReadingOrLeft left i6 store) sensors (sensors_of i6.sdr) named.keys named.sensors_are has.named)
    (named_inventories (InventoryOrLeft left i6 store) devices (devices_of i6.sdr) named.ids named.devices_are facts.1.named (inl (neither i6 store is_image is_store)))
    has.own facts.1.own

-- ---- an item left out is not in the image, and the rows of a shelf end as is noted

out_end : (shelf : Shelf) (rows : List Row) (image : Store) (l : Left) → IsEndOf shelf rows l → rows_of shelf image ≡ rows
    → IsLeftOut image l
out_end shelf rows image l out same =
    subst (IsLeftOut image) (sym out.is) (subst (λ (r : List Row). EndsAs shelf r out.ended) (sym same) out.ends)

out_info : (shelf : Shelf) (image : Store) (l : Left) → LacksInfo shelf l
    → info_of shelf image ≡ None → IsLeftOut image l
out_info shelf image (Left.Records s ended) lacks none = absurd lacks
out_info shelf image (Left.Info s unread) lacks none = rw lacks none
out_info shelf image (Left.Reading l n unread) lacks none = absurd lacks
out_info shelf image (Left.Size i code) lacks none = absurd lacks
out_info shelf image (Left.Empty i) lacks none = absurd lacks
out_info shelf image (Left.CutOff i) lacks none = absurd lacks
out_info shelf image (Left.Inventory i ended) lacks none = absurd lacks

out_reading : (lun number : ℕ) (image : Store) (l : Left) → LacksReading lun number l
    → reading_of lun number image ≡ None → IsLeftOut image l
out_reading lun number image (Left.Records s ended) lacks none = absurd lacks
out_reading lun number image (Left.Info s unread) lacks none = absurd lacks
out_reading lun number image (Left.Reading l n unread) lacks none = rw (lacks.0, lacks.1) none
out_reading lun number image (Left.Size i code) lacks none = absurd lacks
out_reading lun number image (Left.Empty i) lacks none = absurd lacks
out_reading lun number image (Left.CutOff i) lacks none = absurd lacks
out_reading lun number image (Left.Inventory i ended) lacks none = absurd lacks

out_inventory : (id : ℕ) (image : Store) (l : Left) → LacksInventory id l
    → inventory_of id image ≡ None → IsLeftOut image l
out_inventory id image (Left.Records s ended) lacks none = absurd lacks
out_inventory id image (Left.Info s unread) lacks none = absurd lacks
out_inventory id image (Left.Reading l n unread) lacks none = absurd lacks
out_inventory id image (Left.Size i code) lacks none = rw lacks none
out_inventory id image (Left.Empty i) lacks none = rw lacks none
out_inventory id image (Left.CutOff i) lacks none = rw lacks none
out_inventory id image (Left.Inventory i ended) lacks none = rw lacks none

module _ (image : Store) where
  out_more : {left left' : List Left} (P : Left → Type 0) → ((l : Left) → P l → IsLeftOut image l)
      → All (IsLeftOut image) left → Adds P left left' → All (IsLeftOut image) left'
  out_more {left = left} P out all adds =
      let more = adds_weaker P (IsLeftOut image) out adds in
      rw more.grows (All-append (IsLeftOut image) left more.more all more.all)

  pub left_out : {l0 l1 l2 l3 l4 l5 l6 : List Left} (i1 i2 i3 i4 i5 : Store)
      → i2 ≡ with_rows Sdr (rows_of Sdr i2) i1 → i3 ≡ with_info Sel (info_of Sel i3) i2 → i4 ≡ with_rows Sel (rows_of Sel i4) i3 → i5 ≡ record i4 { readings = i5.readings }
      → image ≡ record i5 { inventories = image.inventories } → l0 ≡ []
      → Adds (λ l. LacksInfo Sdr l × (info_of Sdr i1 ≡ None)) l0 l1 → Adds (IsEndOf Sdr (rows_of Sdr i2)) l1 l2
      → Adds (λ l. LacksInfo Sel l × (info_of Sel i3 ≡ None)) l2 l3 → Adds (IsEndOf Sel (rows_of Sel i4)) l3 l4
      → Adds (IsUnread i5) l4 l5 → Adds (IsUnkept image) l5 l6 → All (IsLeftOut image) l6
  left_out {l0 = l0} i1 i2 i3 i4 i5 e2 e3 e4 e5 e6 empty a b c d e f =
      let sel : rows_of Sel image ≡ rows_of Sel i4 = ap (λ (x : Store). x.sel) e6 ∙ ap (λ (x : Store). x.sel) e5 in
      let sdr : rows_of Sdr image ≡ rows_of Sdr i2 = ap (λ (x : Store). x.sdr) e6 ∙ ap (λ (x : Store). x.sdr) e5 ∙ ap (λ (x : Store). x.sdr) e4 ∙ ap (λ (x : Store). x.sdr) e3 in
      let sel_info : image.sel_info ≡ i3.sel_info = ap (λ (x : Store). x.sel_info) e6 ∙ ap (λ (x : Store). x.sel_info) e5 ∙ ap (λ (x : Store). x.sel_info) e4 in
      let sdr_info : image.sdr_info ≡ i1.sdr_info = ap (λ (x : Store). x.sdr_info) e6 ∙ ap (λ (x : Store). x.sdr_info) e5 ∙ ap (λ (x : Store). x.sdr_info) e4
      ∙ ap (λ (x : Store). x.sdr_info) e3 ∙ ap (λ (x : Store). x.sdr_info) e2 in
      let readings : image.readings ≡ i5.readings = ap (λ (x : Store). x.readings) e6 in
      let none : All (IsLeftOut image) l0 = rw empty (All-nil (IsLeftOut image)) in
      let one = out_more (λ l. LacksInfo Sdr l × (info_of Sdr i1 ≡ None)) (λ l out. out_info Sdr image l out.0 (sdr_info ∙ out.1)) none a in
      let two = out_more (IsEndOf Sdr (rows_of Sdr i2)) (λ l out. out_end Sdr (rows_of Sdr i2) image l out sdr) one b in
      let three = out_more (λ l. LacksInfo Sel l × (info_of Sel i3 ≡ None)) (λ l out. out_info Sel image l out.0 (sel_info ∙ out.1)) two c in
      let four = out_more (IsEndOf Sel (rows_of Sel i4)) (λ l out. out_end Sel (rows_of Sel i4) image l out sel) three d in
      let five = out_more (IsUnread i5) (λ l out. out_reading out.key.0 out.key.1 image l out.lacks (ap (λ (list : List SensorReading). reading_in list out.key.0 out.key.1) readings ∙ out.none)) four e in
      out_more (IsUnkept image) (λ l out. out_inventory out.id image l out.lacks out.none) five f
