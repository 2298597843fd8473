-- All phases of a capture, one after the other, while the store changes.
use Rattle.std.proofs.Common.{◌≡◌, ℕ, Bool, Option, None, Some, List, ◌∷◌, [], ◌++◌, length, take, inl, inr, ◌⊎◌, sym, ap, subst, ◌∙◌}
use Rattle.std.proofs.lemmas.List.{append-nil, append_assoc}
use Rattle.std.specs.List.{Any}
use Rattle.ipmi_bus.proofs.HeldLemmas.{keeps_first, keeps_second}
use Rattle.ipmi_capture.specs.Below.{Done, Ended, EndsBy, First, info_of, inventory_of, IsHonest, IsStore, IsWalk, Keeps, OnGrowing, reading_in, reading_of, Row, rows_of, Sdr, Seen, Sel, SensorReading, Shelf, stays_refl, stays_trans, StaysHonest, Store, WasLog, with_info, with_rows}
use Rattle.ipmi_capture.specs.Capture.{devices_of, HasWalk, InventoryOrLeft, NoneOrSame, ReadingOrLeft, sensors_of}
use Rattle.ipmi_capture.specs.Left.{LacksInfo, LacksInventory, LacksReading, LacksRecords, SameOrLeft}
use Rattle.ipmi_capture.specs.Meanwhile.{IsCaptureWhile, IsShelfWhile, LogOrLeft, OfHeld}
use Rattle.ipmi_capture.specs.Named.{Names}
use Rattle.ipmi_capture.specs.Phases.{Adds, AreRowsOf, CameOfLog, HasInventoriesWhile, HasLog, HasReadingsWhile, WalksWhile}
use Rattle.ipmi_capture.specs.declared.left.Left.{Left}
use Rattle.ipmi_capture.proofs.CaptureLemmas.{came_rows, named_inventories, named_readings, neither}
use Rattle.ipmi_capture.proofs.LogLemmas.{own_first, own_second}
use Rattle.ipmi_capture.proofs.MeanwhileLemmas.{growing_first, growing_second, kept_value, of_held_first, of_held_second}
use Rattle.ipmi_capture.proofs.ReadLemmas.{any_after, any_more, any_of_one, same_more, walk_after, walk_more}
use Rattle.ipmi_capture.proofs.WalkLemmas.{same_walk, walk_of_itself}

-- ---- the records of a shelf

-- `Holds` for a log becomes `More`
growing_to : {shelf : Shelf} {s s' : Seen} (Holds More : List Row → Type 0) → ((log : List Row) → Holds log → More log)
    → OnGrowing shelf First s s' Holds → OnGrowing shelf First s s' More
growing_to Holds More to on = λ rows log grew. let was = on rows log grew in (was.0, was.1, to was.0 was.2)

pub first_records : {shelf : Shelf} {s s' : Seen} {rows : List Row} (left : List Left) (ended : Ended)
    → WalksWhile shelf s s' rows (Some ended) → HasLog shelf (left ++ Left.Records shelf ended ∷ []) s s' rows
first_records {shelf} {s} {s'} {rows} left ended walks = record {
  kept = λ keeps. walk_after shelf left (Left.Records shelf ended ∷ []) rows s.store (λ walk end is ends. came_rows shelf rows walk end ended (walks.kept keeps walk end is ends));
  along = growing_to (λ log. CameOfLog shelf log rows (Some ended)) _ (λ log came. inr (came.0, any_after (LacksRecords shelf) left (Left.Records shelf ended ∷ []) (any_of_one (LacksRecords shelf) (Left.Records shelf ended) came.1))) walks.along;
  own = walks.own;
}

pub whole_log : {shelf : Shelf} {s s' : Seen} {rows : List Row} (left : List Left) → WalksWhile shelf s s' rows None
    → HasLog shelf left s s' rows
whole_log {shelf} {s} {s'} {rows} left walks = record {
  kept = λ keeps walk end is ends. let came = walks.kept keeps walk end is ends in inl (came.0, inl came.1);
  along = growing_to (λ log. CameOfLog shelf log rows None) _ (λ log came. inl came) walks.along;
  own = walks.own;
}

-- an image whose rows are the walk has that walk
same_log : (shelf : Shelf) (left : List Left) (image : Store) (s s' : Seen) → HasLog shelf left s s' (rows_of shelf image)
    → LogOrLeft shelf left image s s'
same_log shelf left image s s' has = λ first log grew.
    let was = has.along first log grew in
    (was.0, was.1, by first was.0 was.1 was.2)
  where
    by : (first log : List Row) → WasLog shelf First s s' first log
        → (rows_of shelf image ≡ log) ⊎ ((rows_of shelf image ≡ take (length (rows_of shelf image)) log) × Any (LacksRecords shelf) left)
        → HasWalk shelf image log Done
        ⊎ ((rows_of shelf image ≡ take (length (rows_of shelf image)) log) × Any (LacksRecords shelf) left)
    by first log was (inl same) =
        let own = subst (λ (rows : List Row). IsWalk rows First log × EndsBy rows First log Done) (sym same) (walk_of_itself (rows_of shelf was.store) log Done was.is_log.walks was.is_log.ends) in
        inl (same, own.0, own.1)
    by first log was (inr front) = inr front

-- ---- more items left out

-- the second list begins with the first
abbrev pub Begins : List Left → List Left → Type 0
Begins left left' = (more : List Left) × (left' ≡ left ++ more)

pub begins_adds : {P : Left → Type 0} {left left' : List Left} → Adds P left left' → Begins left left'
begins_adds adds = (adds.more, adds.grows)

pub begins_then : (a b c : List Left) → Begins a b → Begins b c → Begins a c
begins_then a b c first then_ = (
  first.0 ++ then_.0,
  then_.1 ∙ ap (λ (l : List Left). l ++ then_.0) first.1 ∙ append_assoc a first.0 then_.0,
)

same_begun : {V : Type 0} (P : Left → Type 0) (left left' : List Left) → Begins left left' → (a b : Option V)
    → SameOrLeft P left a b → SameOrLeft P left' a b
same_begun P left left' begins a b same = subst (λ (l : List Left). SameOrLeft P l a b) (sym begins.1) (same_more P left begins.0 a b same)

-- ---- a phase, from b to c, and all of the capture, from a to d

module _ {a b c d : Seen} (first : StaysHonest a b) (this : StaysHonest b c) (rest : StaysHonest c d) where
  until : StaysHonest a c
  until = stays_trans a b c first this

  over_held : {P Q : Store → Type 0} → ((store : Store) → P store → Q store) → OfHeld b c P → OfHeld a d Q
  over_held to held = of_held_first a c d until rest to (of_held_second a b c first this (λ store is. is) held)

  over_kept : {V : Type 0} (of : Store → V) → Keeps of a d → Keeps of b c × (of b.store ≡ of a.store)
  over_kept of keeps = (
    keeps_second of a b c first.store this.store (keeps_first of a c d until.store rest.store keeps),
    kept_value a b d first (stays_trans b c d this rest) of keeps,
  )

  module _ (left left' : List Left) (more : Begins left left') where
    over_log : (shelf : Shelf) (rows : List Row) → HasLog shelf left b c rows → HasLog shelf left' a d rows
    over_log shelf rows has = record {
      kept = λ keeps walk end is ends.
          let kept = over_kept (rows_of shelf) keeps in
          subst (λ (l : List Left). AreRowsOf shelf l rows walk end) (sym more.1) (walk_more shelf left more.0 rows b.store (has.kept kept.0) walk end (rw kept.1 is) (rw kept.1 ends));
      along = growing_first a c d until rest shelf First to (growing_second a b c first this shelf First (λ log is. is) has.along);
      own = own_first shelf a c d until rest rows (own_second shelf a b c first this rows has.own);
    }
      where
        to : (log : List Row) → (rows ≡ log) ⊎ ((rows ≡ take (length rows) log) × Any (LacksRecords shelf) left)
            → (rows ≡ log) ⊎ ((rows ≡ take (length rows) log) × Any (LacksRecords shelf) left')
        to log (inl same) = inl same
        to log (inr front) = inr (front.0, subst (Any (LacksRecords shelf)) (sym more.1) (any_more (LacksRecords shelf) left more.0 front.1))

    over_value : {V : Type 0} (Lacks : Left → Type 0) (value : Store → Option V) (in_image : Option V)
        → OfHeld b c (λ store. SameOrLeft Lacks left in_image (value store))
        → OfHeld a d (λ store. SameOrLeft Lacks left' in_image (value store))
    over_value Lacks value in_image held = over_held (λ store. same_begun Lacks left left' more in_image (value store)) held

    over_readings : (marks : List Bool) (image : Store) → HasReadingsWhile marks left image b c
        → HasReadingsWhile marks left' image a d
    over_readings marks image has = record {
      named = λ key is mark. over_value (LacksReading key.0 key.1) (reading_of key.0 key.1) (reading_of key.0 key.1 image) (has.named key is mark);
      own = λ lun number. over_held (λ store is. is) (has.own lun number);
    }

    over_inventories : (marks : List Bool) (image : Store) → HasInventoriesWhile marks left image b c
        → HasInventoriesWhile marks left' image a d
    over_inventories marks image has = record {
      named = λ id below mark keeps.
          let kept = over_kept (inventory_of id) keeps in
          subst (λ (o : Option (List ℕ)). SameOrLeft (LacksInventory id) left' (inventory_of id image) o) kept.1
          (same_begun (LacksInventory id) left left' more (inventory_of id image) (inventory_of id b.store) (has.named id below mark kept.0));
      own = λ id keeps.
          let kept = over_kept (inventory_of id) keeps in
          subst (λ (o : Option (List ℕ)). NoneOrSame (inventory_of id image) o) kept.1 (has.own id kept.0);
    }

-- ---- all phases

-- the info of a shelf, and then its records, which were read from the state `between` on
pub record InfoThenRows (shelf : Shelf) (i1 i2 : Store) (left : List Left) (s s' : Seen) : Type 0 where
  between : Seen
  first : StaysHonest s between
  later : StaysHonest between s'
  info : OfHeld s between (λ store. SameOrLeft (LacksInfo shelf) left (info_of shelf i1) (info_of shelf store))
  rows : HasLog shelf left between s' (rows_of shelf i2)

-- they were read one after the other, from b to c and from c to d
module _ {a b c d e : Seen} (before : StaysHonest a b) (read : StaysHonest b c) (walked : StaysHonest c d) (rest : StaysHonest d e)
    (honest : IsHonest c) where
  info_then_rows : (shelf : Shelf) (i1 i2 : Store) (l1 l2 l3 : List Left) → Begins l1 l3 → Begins l2 l3
      → OfHeld b c (λ store. SameOrLeft (LacksInfo shelf) l1 (info_of shelf i1) (info_of shelf store))
      → HasLog shelf l2 c d (rows_of shelf i2) → InfoThenRows shelf i1 i2 l3 a e
  info_then_rows shelf i1 i2 l1 l2 l3 begins1 begins2 info rows = record {
    between = c;
    first = stays_trans a b c before read;
    later = stays_trans c d e walked rest;
    info = over_value before read (stays_refl c honest) l1 l3 begins1 (LacksInfo shelf) (info_of shelf) (info_of shelf i1) info;
    rows = over_log (stays_refl c honest) walked rest l2 l3 begins2 shelf (rows_of shelf i2) rows;
  }

-- later phases keep both
kept_shelf : (shelf : Shelf) (left : List Left) (image i1 i2 : Store) (s s' : Seen) → rows_of shelf image ≡ rows_of shelf i2
    → info_of shelf image ≡ info_of shelf i1 → InfoThenRows shelf i1 i2 left s s' → IsShelfWhile shelf left image s s'
kept_shelf shelf left image i1 i2 s s' rows info has =
    let log : HasLog shelf left has.between s' (rows_of shelf image) = rw rows has.rows in
    record {
      between = has.between;
      first = has.first;
      later = has.later;
      info = rw info has.info;
      rows = λ keeps. same_walk shelf left image has.between.store (log.kept keeps);
      grown = same_log shelf left image has.between s' log;
      own = log.own;
    }

-- the effect of each phase on the image of the phase before it
pub record PartsWhile (sensors devices : List Bool) (i1 i2 i3 i4 i5 i6 : Store) (left : List Left) (s s' : Seen) : Type 0 where
  sdr : InfoThenRows Sdr i1 i2 left s s'
  sel : InfoThenRows Sel i3 i4 left s s'
  readings : HasReadingsWhile sensors left i5 s s'
  inventories : HasInventoriesWhile devices left i6 s s'

pub parts_while : {s0 s1 s2 s3 s4 s5 s6 : Seen} {l2 l3 l4 l5 l6 : List Left} (l1 : List Left) (i1 i2 i3 i4 i5 i6 : Store) (sensors devices : List Bool)
    → (IsHonest s0 → StaysHonest s0 s1) → (IsHonest s1 → StaysHonest s1 s2)
    → (IsHonest s2 → StaysHonest s2 s3) → (IsHonest s3 → StaysHonest s3 s4)
    → (IsHonest s4 → StaysHonest s4 s5) → (IsHonest s5 → StaysHonest s5 s6)
    → Begins l1 l2 → Begins l2 l3 → Begins l3 l4 → Begins l4 l5 → Begins l5 l6
    → (IsHonest s0 → OfHeld s0 s1 (λ store. SameOrLeft (LacksInfo Sdr) l1 (info_of Sdr i1) (info_of Sdr store)))
    → (IsHonest s1 → HasLog Sdr l2 s1 s2 (rows_of Sdr i2))
    → (IsHonest s2 → OfHeld s2 s3 (λ store. SameOrLeft (LacksInfo Sel) l3 (info_of Sel i3) (info_of Sel store)))
    → (IsHonest s3 → HasLog Sel l4 s3 s4 (rows_of Sel i4))
    → (IsHonest s4 → HasReadingsWhile sensors l5 i5 s4 s5) → (IsHonest s5 → HasInventoriesWhile devices l6 i6 s5 s6)
    → IsHonest s0 → PartsWhile sensors devices i1 i2 i3 i4 i5 i6 l6 s0 s6
parts_while {s0} {s1} {s2} {s3} {s4} {s5} {s6} {l2} {l3} {l4} {l5} {l6} l1 i1 i2 i3 i4 i5 i6 sensors devices stays1 stays2 stays3 stays4 stays5 stays6 g2 g3 g4 g5 g6 a b c d e f h =
    let k1 = stays1 h in
    let k2 = stays2 k1.honest in
    let k3 = stays3 k2.honest in
    let k4 = stays4 k3.honest in
    let k5 = stays5 k4.honest in
    let k6 = stays6 k5.honest in
    let to2 = stays_trans s0 s1 s2 k1 k2 in
    let to3 = stays_trans s0 s2 s3 to2 k3 in
    let to4 = stays_trans s0 s3 s4 to3 k4 in
    let to5 = stays_trans s0 s4 s5 to4 k5 in
    let from4 = stays_trans s4 s5 s6 k5 k6 in
    let from3 = stays_trans s3 s4 s6 k4 from4 in
    let from2 = stays_trans s2 s3 s6 k3 from3 in
    let l46 = begins_then l4 l5 l6 g5 g6 in
    let l36 = begins_then l3 l4 l6 g4 l46 in
    let l26 = begins_then l2 l3 l6 g3 l36 in
    let l16 = begins_then l1 l2 l6 g2 l26 in
    record {
      sdr = info_then_rows (stays_refl s0 h) k1 k2 from2 k1.honest Sdr i1 i2 l1 l2 l6 l16 l26 (a h) (b k1.honest);
      sel = info_then_rows to2 k3 k4 from4 k3.honest Sel i3 i4 l3 l4 l6 l36 l46 (c k2.honest) (d k3.honest);
      readings = over_readings to4 k5 k6 l5 l6 g6 sensors i5 (e k4.honest);
      inventories = over_inventories to5 k6 (stays_refl s6 k6.honest) l6 l6 ([], sym (append-nil l6)) devices i6 (f k5.honest);
    }

-- later phases keep what was put into the image
pub assemble_while : (left : List Left) (s s' : Seen) (i0 i1 i2 i3 i4 i5 i6 : Store) → i1 ≡ with_info Sdr (info_of Sdr i1) i0
    → i2 ≡ with_rows Sdr (rows_of Sdr i2) i1 → i3 ≡ with_info Sel (info_of Sel i3) i2
    → i4 ≡ with_rows Sel (rows_of Sel i4) i3 → i5 ≡ record i4 { readings = i5.readings }
    → i6 ≡ record i5 { inventories = i6.inventories } → IsStore i6 → IsHonest s
    → (sensors devices : List Bool) → Names i4.sdr sensors devices
    → PartsWhile sensors devices i1 i2 i3 i4 i5 i6 left s s' → IsCaptureWhile left i6 s s'
assemble_while left s s' i0 i1 i2 i3 i4 i5 i6 e1 e2 e3 e4 e5 e6 is_image h sensors devices names parts =
    let sdr_four : i6.sdr ≡ i4.sdr = ap (λ (x : Store). x.sdr) e6 ∙ ap (λ (x : Store). x.sdr) e5 in
    let sdr_two : i6.sdr ≡ i2.sdr = sdr_four ∙ ap (λ (x : Store). x.sdr) e4 ∙ ap (λ (x : Store). x.sdr) e3 in
    let sel_four : i6.sel ≡ i4.sel = ap (λ (x : Store). x.sel) e6 ∙ ap (λ (x : Store). x.sel) e5 in
    let sel_info : i6.sel_info ≡ i3.sel_info = ap (λ (x : Store). x.sel_info) e6 ∙ ap (λ (x : Store). x.sel_info) e5 ∙ ap (λ (x : Store). x.sel_info) e4 in
    let sdr_info : i6.sdr_info ≡ i1.sdr_info = ap (λ (x : Store). x.sdr_info) e6 ∙ ap (λ (x : Store). x.sdr_info) e5 ∙ ap (λ (x : Store). x.sdr_info) e4
    ∙ ap (λ (x : Store). x.sdr_info) e3 ∙ ap (λ (x : Store). x.sdr_info) e2 in
    let readings : i5.readings ≡ i6.readings = sym (ap (λ (x : Store). x.readings) e6) in
    let named : Names i6.sdr sensors devices = rw sdr_four names in
    record {
      sdr = kept_shelf Sdr left i6 i1 i2 s s' sdr_two sdr_info parts.sdr;
      sel = kept_shelf Sel left i6 i3 i4 s s' sel_four sel_info parts.sel;
      readings = named_readings (λ key. OfHeld s s' (λ store. ReadingOrLeft left i6 store key)) sensors (sensors_of i6.sdr) named.keys named.sensors_are
          (λ key is mark. subst (λ (l : List SensorReading). OfHeld s s' (λ store. SameOrLeft (LacksReading key.0 key.1) left (reading_in l key.0 key.1) (reading_of key.0 key.1 store))) readings (parts.readings.named key is mark));
      inventories = named_inventories (λ id. Keeps (inventory_of id) s s' → InventoryOrLeft left i6 s.store id) devices (devices_of i6.sdr) named.ids named.devices_are
          parts.inventories.named (λ keeps. inl (neither i6 s.store is_image h.store));
      own_readings = λ lun number. subst (λ (l : List SensorReading). OfHeld s s' (λ store. NoneOrSame (reading_in l lun number) (reading_of lun number store))) readings (parts.readings.own lun number);
      own_inventories = parts.inventories.own;
    }
