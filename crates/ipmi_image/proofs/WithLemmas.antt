-- A controller over a machine, with the sensor data records of an image, answers as honestly as the machine.
use Rattle.std.proofs.Common.{◌≡◌, ◌≢◌, ℕ, ◌-◌, ◌<◌, ◌&&◌, nat_lt, nat_le, map, length, ap, Bool, true, false, Option, None, Some, Result, Ok, Err, List, [], ◌∷◌, All, refl, sym, ◌∙◌, arith, if◌then◌else◌, true≢false, MatchResult}
use Rattle.std.specs.List.{list_all}
use Rattle.std.proofs.lemmas.Bool.Decides.{nat_tests}
use Rattle.std.proofs.lemmas.List.{drop-map}
use Rattle.std.proofs.lemmas.List.Elements.{All-head, All-tail}
use Rattle.ipmi_bus.specs.Answers.{CountsRefusal}
use Rattle.ipmi_bus.specs.Events.{counts_after, with_failure}
use Rattle.ipmi_bus.specs.Readers.{ValueIs}
use Rattle.ipmi_bus.specs.declared.step.Ended.{Ended}
use Rattle.ipmi_bus.specs.declared.tally.Event.{Event}
use Rattle.ipmi_image.specs.Below.{AllRows, Asked, Busy, BytesAnswers, Cancelled, Code, CodeClass, class_of, CountsPiece, DistinctIds, FailsWith, PartFailsWith, reads_ahead, FruSize, GivesPiece, held, info_of, IsChange, IsFinished, IsHonest, IsQuiet, IsRow, IsShelf, IsStore, LacksId, look, MayLoseReservation, NotPresent, other, Part, part_asked, PartAnswers, Refusal, ReserveAnswers, Row, Sdr, Seen, Sel, Shelf, SizeAnswers, SmallerPart, stays_refl, Store, ValueAnswers}
use Rattle.ipmi_image.specs.Prelude.{are_current, are_rows, counts_with, is_row, is_sdr_shelf, is_stale, lacks_id, out_of_range, part_answer, Responder, seen_as, seen_with, with_reservation, with_rows}

-- ---- the test for a well-formed shelf

bytes_are : (bytes : List ℕ) → list_all (λ b. nat_lt b 256) bytes ≡ true → All (λ b. b < 256) bytes
bytes_are [] is = grind arith
bytes_are (b ∷ bytes) is = grind (arith, nat_tests, bytes_are bytes)

are_bytes-of : (bytes : List ℕ) → All (λ b. b < 256) bytes → list_all (λ b. nat_lt b 256) bytes ≡ true
are_bytes-of [] are = grind arith
are_bytes-of (b ∷ bytes) are = grind (arith, nat_tests, are_bytes-of bytes (All-tail (λ x. x < 256) b bytes are), All-head (λ x. x < 256) b bytes are)

row_is : (row : Row) → is_row row ≡ true → IsRow Sdr row
row_is row is = record {
  id = grind (arith, nat_tests);
  next = grind (arith, nat_tests);
  whole = grind (arith, nat_tests);
  fits = grind (arith, nat_tests);
  bytes = bytes_are row.bytes (grind arith);
}

is_row-of : (row : Row) → IsRow Sdr row → is_row row ≡ true
is_row-of row row_ = let a = row_.id in let b = row_.next in let c = row_.whole in let d = row_.fits in let e = are_bytes-of row.bytes row_.bytes in grind (arith, nat_tests)

lacks_is : (n : ℕ) (rows : List Row) → lacks_id n rows ≡ true → LacksId n rows
lacks_is n [] is = tt
lacks_is n (row ∷ rows) is = (grind (arith, nat_tests), lacks_is n rows (grind arith))

is_lacks-of : (n : ℕ) (rows : List Row) → LacksId n rows → lacks_id n rows ≡ true
is_lacks-of n [] lacks = refl
is_lacks-of n (row ∷ rows) lacks = grind (arith, nat_tests, lacks.0, is_lacks-of n rows lacks.1)

rows_are : (rows : List Row) → are_rows rows ≡ true → AllRows Sdr rows × DistinctIds rows
rows_are [] is = (tt, tt)
rows_are (row ∷ rows) is =
    let rest = rows_are rows (grind arith) in
    ((row_is row (grind arith), rest.0), (lacks_is row.id rows (grind arith), rest.1))

are_rows-of : (rows : List Row) → AllRows Sdr rows → DistinctIds rows → are_rows rows ≡ true
are_rows-of [] all distinct = refl
are_rows-of (row ∷ rows) all distinct = grind (arith, is_row-of row all.0, is_lacks-of row.id rows distinct.0, are_rows-of rows all.1 distinct.1)

shelf_is : (rows : List Row) → is_sdr_shelf rows ≡ true → IsShelf Sdr rows
shelf_is [] is = record { all = tt; distinct = tt; first = tt; later = tt }
shelf_is (row ∷ rows) is =
    let are = rows_are (row ∷ rows) (grind arith) in
    record {
      all = are.0;
      distinct = are.1;
      first = grind (arith, nat_tests);
      later = lacks_is 0 rows (grind arith);
    }

pub is_shelf-of : (rows : List Row) → IsShelf Sdr rows → is_sdr_shelf rows ≡ true
is_shelf-of [] shelf = refl
is_shelf-of (row ∷ rows) shelf = grind (arith, nat_tests, are_rows-of (row ∷ rows) shelf.all shelf.distinct, shelf.first, is_lacks-of 0 rows shelf.later)

-- ---- honesty

-- a store with the records of a shelf
store_with : (rows : List Row) (store : Store) → IsShelf Sdr rows → IsStore store → IsStore (with_rows Sdr rows store)
store_with rows store shelf of_store = record {
  sdr = shelf;
  sel = of_store.sel;
  inventories = of_store.inventories;
  distinct_inventories = of_store.distinct_inventories;
  readings = of_store.readings;
  distinct_readings = of_store.distinct_readings;
  sdr_info = of_store.sdr_info;
  sel_info = of_store.sel_info;
}

-- the controller is honest if the machine is
pub honest_with : (r : Responder) (s : Seen) → IsShelf Sdr r.image.sdr → IsHonest s → IsHonest (seen_with r s)
honest_with r s shelf honest = record {
  said = let said = honest.said in grind (arith, said, is_shelf-of s.store.sdr honest.store.sdr);
  store = store_with r.image.sdr s.store shelf honest.store;
}

-- and only then
pub machine_honest : (r : Responder) (s : Seen) → IsHonest (seen_with r s) → IsHonest s
machine_honest r s honest =
    let is : (s.honest && is_sdr_shelf s.store.sdr) ≡ true = honest.said in
    record {
      said = grind arith;
      store = store_with s.store.sdr (with_rows Sdr r.image.sdr s.store) (shelf_is s.store.sdr (grind arith)) honest.store;
    }

-- ---- what a call leaves

-- it neither gives nor takes a reservation of these records, whose rows stay
kept : (shelf : Shelf) (r r' : Responder) (s s' : Seen) → r'.image ≡ r.image → r'.sdr_reservation ≡ r.sdr_reservation
    → MayLoseReservation Sel s s' → MayLoseReservation shelf (seen_with r s) (seen_with r' s')
kept Sdr r r' s s' image reservation sel = record {
  none_given = λ n e. sym reservation ∙ e;
  kept_over_change = λ more n e. rw (ap (λ (store : Store). store.sdr) image) (λ id row found. (row, found, record { id = refl; bytes = refl }));
  plain = λ p. absurd (true≢false (sym p));
}
kept Sel r r' s s' image reservation sel = record {
  none_given = sel.none_given;
  kept_over_change = sel.kept_over_change;
  plain = λ p. absurd (true≢false (sym p));
}

changed : (r r' : Responder) (s s' : Seen) → r'.image ≡ r.image → IsHonest (seen_with r s) → IsChange s s'
    → IsChange (seen_with r s) (seen_with r' s')
changed r r' s s' image honest change = record {
  stays = record {
    honest = honest_with r' s' (rw image honest.store.sdr) change.stays.honest;
    plain = λ p. absurd (true≢false (sym p));
    store = record {
      grows = change.stays.store.grows;
      stays = λ same. rw image (ap (with_rows Sdr r.image.sdr) (change.stays.store.stays same));
      past = rw image (drop-map (with_rows Sdr r.image.sdr) (s'.stores_added - s.stores_added) (held s') ∙ ap (map (with_rows Sdr r.image.sdr)) change.stays.store.past);
    };
    plain_store = λ p. absurd (true≢false (sym p));
  };
  one = change.one;
}

-- ---- a call that the machine answers

-- it leaves the image and the reservation, and counts the answer
pub record IsAnswered {V : Type 0} (asked : ℕ) (result : Result V Code) (r r' : Responder) : Type 0 where
  pub image : r'.image ≡ r.image
  pub reservation : r'.sdr_reservation ≡ r.sdr_reservation
  pub counts : r'.tally.counts ≡ counts_with asked result r.tally.counts

pub answered : {V : Type 0} (asked : ℕ) (result : Result V Code) (r r' : Responder) → r' ≡ record r { tally = r'.tally }
    → r'.tally.counts ≡ counts_with asked result r.tally.counts → IsAnswered asked result r r'
answered asked result r r' same counts = record {
  image = ap (λ (x : Responder). x.image) same;
  reservation = ap (λ (x : Responder). x.sdr_reservation) same;
  counts = counts;
}

module _ (r r' : Responder) (s s' : Seen) where
  abbrev old : Seen
  old = seen_with r s

  abbrev new : Seen
  new = seen_with r' s'

  -- the call was counted, and nothing else
  abbrev IsCounted : ℕ → Type 0
  IsCounted asked = r'.tally.counts ≡ counts_after r.tally.counts (Event.Called asked)

  quiet : (asked : ℕ) → IsCounted asked → IsQuiet s s' → IsQuiet old new
  quiet asked counts q = rw counts (omega (arith, q))

  finished : (asked : ℕ) → IsCounted asked → IsFinished s s' → IsFinished old new
  finished asked counts q = rw counts (omega (arith, q))

  piece : (b : Bool) (asked : ℕ) → IsCounted asked → CountsPiece b s s' → CountsPiece b old new
  piece true asked counts h = finished asked counts h
  piece false asked counts h = quiet asked counts h

  fails : (P Q : Type 0) (class : CodeClass) (code asked : ℕ)
      → r'.tally.counts ≡ record (with_failure class code (counts_after r.tally.counts (Event.Called asked))) { last_failure = Some code }
      → FailsWith P Q class code s s' → FailsWith P Q class code old new
  fails P Q Cancelled code asked counts q = rw counts (omega (arith, q))
  fails P Q Busy code asked counts q = rw counts (omega (arith, q))
  fails P Q SmallerPart code asked counts h = let q = h.1 in (h.0, rw counts (omega (arith, q)))
  fails P Q NotPresent code asked counts h = let q = h.1 in (h.0, rw counts (omega (arith, q)))
  fails P Q Refusal code asked counts q = rw counts (omega (arith, q))

  given : {V : Type 0} {Gave Gives : V → Type 0} (P Q : Type 0) (asked : ℕ) (result : Result V Code)
      → IsAnswered asked result r r' → ((v : V) → IsCounted asked → Gave v → Gives v)
      → MatchResult result Gave (λ code. FailsWith P Q (class_of code.0) code.0 s s')
      → MatchResult result Gives (λ code. FailsWith P Q (class_of code.0) code.0 old new)
  given P Q asked (Ok v) is goes gave = goes v is.counts gave
  given P Q asked (Err code) is goes gave = fails P Q (class_of code.0) code.0 asked is.counts gave

  pub value_with : {V : Type 0} (value : Store → Option V) (result : Result V Code) (asked : ℕ)
      → ((store : Store) → value (with_rows Sdr r'.image.sdr store) ≡ value store)
      → IsAnswered asked result r r' → IsHonest old → ValueAnswers value result s s' → ValueAnswers value result old new
  value_with value result asked same is honest a = record {
    change = changed r r' s s' is.image honest a.change;
    gives = rw (same s'.store) (given _ _ asked result is (λ v counts g. (g.0, finished asked counts g.1)) a.gives);
    sdr = kept Sdr r r' s s' is.image is.reservation a.sel;
    sel = kept Sel r r' s s' is.image is.reservation a.sel;
    plain = λ p. absurd (true≢false (sym p));
  }

  pub info_with : (shelf : Shelf) (result : Result (List ℕ) Code) → IsAnswered 0 result r r' → IsHonest old
      → ValueAnswers (info_of shelf) result s s' → ValueAnswers (info_of shelf) result old new
  info_with Sdr result is honest a = value_with (info_of Sdr) result 0 (λ store. refl) is honest a
  info_with Sel result is honest a = value_with (info_of Sel) result 0 (λ store. refl) is honest a

  pub size_with : (id : ℕ) (result : Result FruSize Code) → IsAnswered 0 result r r' → IsHonest old
      → SizeAnswers id result s s' → SizeAnswers id result old new
  size_with id result is honest a = record {
    change = changed r r' s s' is.image honest a.change;
    gives = given _ _ 0 result is (λ size counts g. (g.0, g.1, g.2, g.3, piece _ 0 counts g.4)) a.gives;
    sdr = kept Sdr r r' s s' is.image is.reservation a.sel;
    sel = kept Sel r r' s s' is.image is.reservation a.sel;
    plain = λ p. absurd (true≢false (sym p));
  }

  pub bytes_with : (id offset asked : ℕ) (result : Result ℕ Code) (into : List ℕ) → IsAnswered asked result r r' → IsHonest old
      → BytesAnswers id offset asked result into s s' → BytesAnswers id offset asked result into old new
  bytes_with id offset asked result into is honest a = record {
    change = changed r r' s s' is.image honest a.change;
    gives = given _ _ asked result is (λ got counts g. (g.0, g.1, g.2, piece _ asked counts g.3)) a.gives;
    sdr = kept Sdr r r' s s' is.image is.reservation a.sel;
    sel = kept Sel r r' s s' is.image is.reservation a.sel;
    plain = λ p. absurd (true≢false (sym p));
  }

  pub reserve_with : (result : Result ℕ Code) → IsAnswered 0 result r r' → IsHonest old
      → ReserveAnswers Sel result s s' → ReserveAnswers Sel result old new
  reserve_with result is honest a = record {
    change = changed r r' s s' is.image honest a.change;
    gives = reserved result is a.gives;
    beside = record {
      none_given = λ n e. sym is.reservation ∙ e;
      kept_over_change = λ more n e. rw (ap (λ (store : Store). store.sdr) is.image) (λ id row found. (row, found, record { id = refl; bytes = refl }));
      plain = λ p. absurd (true≢false (sym p));
    };
    plain = λ p. absurd (true≢false (sym p));
  }
    where
      reserved : (result : Result ℕ Code) → IsAnswered 0 result r r'
          → MatchResult result (λ n. IsQuiet s s' × (s'.sel_reservation ≡ Some n))
          (λ code. FailsWith ⊥ ⊥ (class_of code.0) code.0 s s' × MayLoseReservation Sel s s')
          → MatchResult result (λ n. IsQuiet old new × (s'.sel_reservation ≡ Some n))
          (λ code. FailsWith ⊥ ⊥ (class_of code.0) code.0 old new × MayLoseReservation Sel old new)
      reserved (Ok n) is g = (quiet 0 is.counts g.0, g.1)
      reserved (Err code) is g = (fails ⊥ ⊥ (class_of code.0) code.0 0 is.counts g.0, kept Sel r r' s s' is.image is.reservation g.1)

  -- no request for an entry of the log reads ahead
  entry_fails : (P Q : Type 0) (class : CodeClass) (code asked : ℕ)
      → r'.tally.counts ≡ record (with_failure class code (counts_after r.tally.counts (Event.Called asked))) { last_failure = Some code }
      → PartFailsWith false P Q class code s s' → PartFailsWith false P Q class code old new
  entry_fails P Q Cancelled code asked counts h = fails P Q Cancelled code asked counts h
  entry_fails P Q Busy code asked counts h = fails P Q Busy code asked counts h
  entry_fails P Q SmallerPart code asked counts h = fails P Q SmallerPart code asked counts h
  entry_fails P Q NotPresent code asked counts h = fails P Q NotPresent code asked counts h
  entry_fails P Q Refusal code asked counts h = fails P Q Refusal code asked counts h

  entry_given : {V : Type 0} {Gave Gives : V → Type 0} (P Q : Type 0) (asked : ℕ) (result : Result V Code)
      → IsAnswered asked result r r' → ((v : V) → IsCounted asked → Gave v → Gives v)
      → MatchResult result Gave (λ code. PartFailsWith false P Q (class_of code.0) code.0 s s')
      → MatchResult result Gives (λ code. PartFailsWith false P Q (class_of code.0) code.0 old new)
  entry_given P Q asked (Ok v) is goes gave = goes v is.counts gave
  entry_given P Q asked (Err code) is goes gave = entry_fails P Q (class_of code.0) code.0 asked is.counts gave

  pub part_with : (reservation id offset asked : ℕ) (result : Result Part Code) (into : List ℕ) → IsAnswered asked result r r'
      → IsHonest old → PartAnswers (part_asked Sel reservation id offset asked) result into s s'
      → PartAnswers (part_asked Sel reservation id offset asked) result into old new
  part_with reservation id offset asked result into is honest a = record {
    change = changed r r' s s' is.image honest a.change;
    gives = entry_given _ _ asked result is (λ part counts g. (
      g.0,
      record {
        found = g.1.found;
        piece = g.1.piece;
        next = g.1.next;
        reserved = g.1.reserved;
        counts = piece _ asked counts g.1.counts;
      },
    )) a.gives;
    keeps = kept Sel r r' s s' is.image is.reservation a.keeps;
    beside = kept Sdr r r' s s' is.image is.reservation a.keeps;
    plain = λ p. absurd (true≢false (sym p));
  }

-- ---- a call that the image answers

calm : (s : Seen) → IsHonest s → IsChange s s
calm s honest = record { stays = stays_refl s honest; one = omega arith }

still : (s : Seen) → MayLoseReservation Sel s s
still s = record {
  none_given = λ n e. e;
  kept_over_change = λ more. absurd (omega (arith, more));
  plain = λ p. refl;
}

not_stale : (offset reservation : ℕ) (last : Option ℕ) → (0 < offset → last ≡ Some reservation)
    → is_stale offset reservation last ≡ false
not_stale offset reservation None is = grind (arith, nat_tests)
not_stale offset reservation (Some last) is = grind (arith, nat_tests)

no_trouble_at : (is_past : Bool) (part : Part)
    → MatchResult (if is_past then Err out_of_range else Ok part) (λ part. Unit {0}) (λ code. (class_of code.0 ≢ Cancelled) × (class_of code.0 ≢ Busy))
no_trouble_at true part = (λ e. grind (arith, e), λ e. grind (arith, e))
no_trouble_at false part = tt

-- under the last reservation, no answer is a trouble
no_trouble : (ask : Asked) (last : Option ℕ) (row : Option Row) → is_stale ask.offset ask.reservation last ≡ false
    → MatchResult (part_answer ask 254 last row) (λ part. Unit {0}) (λ code. (class_of code.0 ≢ Cancelled) × (class_of code.0 ≢ Busy))
no_trouble ask last None fresh = (λ e. grind (arith, e), λ e. grind (arith, e))
no_trouble ask last (Some row) fresh = rw fresh (no_trouble_at (nat_le (length row.bytes) ask.offset) _)

module _ (r r' : Responder) (s : Seen) (image : r'.image ≡ r.image) where
  abbrev before : Seen
  before = seen_with r s

  abbrev after : Seen
  after = seen_with r' s

  unchanged : IsHonest before → IsChange before after
  unchanged honest = changed r r' s s image honest (calm s (machine_honest r s honest))

  piece_of : (b : Bool) → CountsPiece b (seen_as true r) (seen_as true r') → CountsPiece b before after
  piece_of true h = omega (arith, h)
  piece_of false h = omega (arith, h)

  -- the image fails with no trouble
  fails_of : (ahead : Bool) (P Q : Type 0) (class : CodeClass) (code : ℕ) → class ≢ Cancelled → class ≢ Busy
      → PartFailsWith ahead P Q class code (seen_as true r) (seen_as true r') → PartFailsWith ahead P Q class code before after
  fails_of ahead P Q Cancelled code not not_busy h = absurd (not refl)
  fails_of ahead P Q Busy code not not_busy h = absurd (not_busy refl)
  fails_of ahead P Q SmallerPart code not not_busy h = let q = h.1 in (h.0, omega (arith, q))
  fails_of ahead P Q NotPresent code not not_busy h = let q = h.1 in (h.0, omega (arith, q))
  fails_of true P Q Refusal code not not_busy h = omega (arith, h)
  fails_of false P Q Refusal code not not_busy h = omega (arith, h)

  -- the image refuses a part
  refuses : (ahead : Bool) (code : ℕ) → CountsRefusal ahead code (seen_as false r) (seen_as false r')
      → CountsRefusal ahead code before after
  refuses true code h = omega (arith, h)
  refuses false code h = omega (arith, h)

  pub refused_with : (ask : Asked) (into : List ℕ) → r'.sdr_reservation ≡ r.sdr_reservation → IsHonest before
      → PartFailsWith (reads_ahead ask.shelf ask.offset ask.len) (Unit {0}) (Unit {0}) (class_of out_of_range.0) out_of_range.0
      (seen_as false r) (seen_as false r')
      → PartAnswers ask (Err out_of_range) into before after
  refused_with ask into reservation honest h = record {
    change = unchanged honest;
    gives = refuses (reads_ahead ask.shelf ask.offset ask.len) out_of_range.0 h;
    keeps = kept ask.shelf r r' s s image reservation (still s);
    beside = kept (other ask.shelf) r r' s s image reservation (still s);
    plain = λ p. absurd (true≢false (sym p));
  }

  reserved_with : (number : ℕ) → IsHonest before → ReserveAnswers Sdr (Ok number) (seen_as true r) (seen_as true r')
      → ReserveAnswers Sdr (Ok number) before after
  reserved_with number honest a = record {
    change = unchanged honest;
    gives = let q = a.gives.0 in (omega (arith, q), a.gives.1);
    beside = record {
      none_given = λ n e. e;
      kept_over_change = λ more. absurd (omega (arith, more));
      plain = λ p. absurd (true≢false (sym p));
    };
    plain = λ p. absurd (true≢false (sym p));
  }

  part_of : (reservation id offset asked : ℕ) (result : Result Part Code) (into : List ℕ)
      → MatchResult result (λ part. Unit {0}) (λ code. (class_of code.0 ≢ Cancelled) × (class_of code.0 ≢ Busy))
      → MatchResult result (λ part. (row : Row) × GivesPiece (part_asked Sdr reservation id offset asked) part into (seen_as true r) (seen_as true r') row)
      (λ code. PartFailsWith (reads_ahead Sdr offset asked) (1 < asked) (look r'.image.sdr id ≡ None) (class_of code.0) code.0 (seen_as true r) (seen_as true r'))
      → MatchResult result (λ part. (row : Row) × GivesPiece (part_asked Sdr reservation id offset asked) part into before after row)
      (λ code. PartFailsWith (reads_ahead Sdr offset asked) (1 < asked) (look r'.image.sdr id ≡ None) (class_of code.0) code.0 before after)
  part_of reservation id offset asked (Ok part) into calm_ g = (
    g.0,
    record {
      found = g.1.found;
      piece = g.1.piece;
      next = g.1.next;
      reserved = g.1.reserved;
      counts = piece_of _ g.1.counts;
    },
  )
  part_of reservation id offset asked (Err code) into calm_ g = fails_of (reads_ahead Sdr offset asked) _ _ (class_of code.0) code.0 calm_.0 calm_.1 g

  record_with : (reservation id offset asked : ℕ) (result : Result Part Code) (into : List ℕ)
      → r'.sdr_reservation ≡ r.sdr_reservation → (0 < offset → r.sdr_reservation ≡ Some reservation)
      → result ≡ part_answer (part_asked Sdr reservation id offset asked) 254 r.sdr_reservation (look r.image.sdr id)
      → IsHonest before
      → PartAnswers (part_asked Sdr reservation id offset asked) result into (seen_as true r) (seen_as true r')
      → PartAnswers (part_asked Sdr reservation id offset asked) result into before after
  record_with reservation id offset asked result into kept_ reserved exact honest a = record {
    change = unchanged honest;
    gives = part_of reservation id offset asked result into (rw exact (no_trouble (part_asked Sdr reservation id offset asked) r.sdr_reservation (look r.image.sdr id) (not_stale offset reservation r.sdr_reservation reserved))) a.gives;
    keeps = kept Sdr r r' s s image kept_ (still s);
    beside = kept Sel r r' s s image kept_ (still s);
    plain = λ p. absurd (true≢false (sym p));
  }

pub record_answers : (r r' : Responder) (s : Seen) (reservation id offset asked : ℕ) (result : Result Part Code) (into : List ℕ)
    → r' ≡ record r { near = r'.near; tally = r'.tally } → (0 < offset → r.sdr_reservation ≡ Some reservation)
    → result ≡ part_answer (part_asked Sdr reservation id offset asked) 254 r.sdr_reservation (look r.image.sdr id)
    → IsHonest (seen_with r s)
    → PartAnswers (part_asked Sdr reservation id offset asked) result into (seen_as true r) (seen_as true r')
    → PartAnswers (part_asked Sdr reservation id offset asked) result into (seen_with r s) (seen_with r' s)
record_answers r r' s reservation id offset asked result into same reserved exact honest a = record_with r r' s (ap (λ (x : Responder). x.image) same)
    reservation id offset asked result into (ap (λ (x : Responder). x.sdr_reservation) same) reserved exact honest a

pub reserve_answers : (r r' : Responder) (s : Seen) (number : ℕ) → r' ≡ record (with_reservation Sdr number r) { tally = r'.tally }
    → IsHonest (seen_with r s) → ReserveAnswers Sdr (Ok number) (seen_as true r) (seen_as true r')
    → ReserveAnswers Sdr (Ok number) (seen_with r s) (seen_with r' s)
reserve_answers r r' s number kept_ honest a = reserved_with r r' s (ap (λ (x : Responder). x.image) kept_) number honest a

-- ---- whether the records are the machine's

-- an info that was read of an honest machine is in its store
pub current_in_store : (old : Option (List ℕ)) (read : Result (Option (List ℕ)) Ended) (tries : ℕ) (s s' : Seen)
    → are_current old read ≡ true → ValueIs (info_of Sdr) tries s s' read → are_current old (Ok (info_of Sdr s'.store)) ≡ true
current_in_store old (Ok now) tries s s' is value = rw (sym value.1) is
current_in_store None (Err ended) tries s s' is value = absurd (true≢false (sym is))
current_in_store (Some old) (Err ended) tries s s' is value = absurd (true≢false (sym is))
