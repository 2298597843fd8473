-- Putting the readings of marked sensors and the inventories of marked devices into an image, one by one.
use Rattle.std.proofs.Common.{◌≡◌, ℕ, ◌+◌, ◌*◌, ◌<◌, ◌≤◌, Vec, Bool, true, false, cond, IsTrue, ◌&&◌, ◌||◌, ◌==◌, nat_eq, Option, None, Some, Result, Ok, Err, IfOk, IfSome, IsSome, OnOk, MatchOption, List, [], ◌∷◌, ◌++◌, length, slice_index_or, ◌⊎◌, inl, inr, All, refl, sym, ap, subst, ◌∙◌, arith}
use Rattle.std.specs.Bool.{⊤}
use Rattle.std.specs.declared.alloc.AllocError.{AllocError}
use Rattle.std.specs.declared.alloc.Global.{Global}
use Rattle.std.proofs.lemmas.Option.{none-some}
use Rattle.std.specs.List.{Any}
use Rattle.std.specs.Option.{option_or, option_to_list}
use Rattle.std.proofs.lemmas.Bool.Decides.{nat_tests}
use Rattle.std.proofs.lemmas.List.Elements.{All-append, All-cons, All-nil, All-weaker}
use Rattle.std.proofs.lemmas.List.{append-nil, append_assoc, get_or-append-add, get_or_append_left, length-append}
use Rattle.ipmi_bus.proofs.HeldLemmas.{held_at_last, held_in_first, keeps_first, keeps_same, keeps_second}
use Rattle.ipmi_capture.specs.Accounted.{AtSome, IsAbsent, IsListedOrAbsent, IsReadingAccounted}
use Rattle.ipmi_capture.specs.Below.{as_inventory, AsksAtMost, Cycle, Ended, GaveUp, Malformed, Missing, Refused, Stalled, IsHonest, Inventory, inventory_in, IsPlain, inventory_of, Reading, SensorReading, reading_in, reading_of, FruEnded, InventoryCounts, InventoryIs, Keeps, not_present, ReadsRetryingParts, ReadsValue, Row, Seen, Shelf, stays_refl, stays_trans, StaysHonest, Store, with_inventory, with_reading, WalkEnd, WithinTries}
use Rattle.ipmi_capture.specs.Capture.{InventoryOrLeft, NoneOrSame, OwnInventories, OwnReadings, ReadingOrLeft}
use Rattle.ipmi_capture.specs.Left.{AreCounted, CountsGrow, EndIsNoted, LacksInventory, LacksReading, LacksRecords, NotesEnd, PlainLeaves, SameOrLeft, unread_in, unread_of}
use Rattle.ipmi_capture.specs.Meanwhile.{IsTrueWhile, OfHeld}
use Rattle.ipmi_capture.specs.Named.{IsSensorKey, sensor_place}
use Rattle.ipmi_capture.specs.Phases.{Adds, AreInventoriesAccounted, AreReadingsAccounted, AreRowsOf, AreWalk, Captures, HasInventories, HasInventoriesWhile, HasInventory, HasRead, HasReadings, HasReadingsWhile, IsLeftAfter, IsLeftAgain, IsLeftBy, IsNotPlain, IsUnkept, IsUnread, most_for_inventory, NoneIsLeft}
use Rattle.ipmi_capture.specs.declared.left.Left.{Left}
use Rattle.ipmi_capture.specs.declared.left.Unread.{Unread}
use Rattle.ipmi_capture.proofs.CountLemmas.{counted_after, counted_inventory, counted_nothing, counted_size, counted_then, counted_value, grown_none, grown_parts, grown_then, grown_within, last_state}
use Rattle.ipmi_capture.proofs.FoundLemmas.{inventory_in-snoc, kept_more, kept_next, KeptBelow, read_more, read_next, ReadBelow, reading_in-snoc}
use Rattle.ipmi_capture.proofs.MeanwhileLemmas.{kept_value, no_some, of_held_first, of_held_second, told_first, told_second}
use Rattle.ipmi_capture.proofs.StepLemmas.{between}

-- ---- items left out

module _ (P : Left → Type 0) where
  pub any_of_one : (one : Left) → P one → Any P (one ∷ [])
  any_of_one one is = (0, one, omega arith, refl, is)

  pub any_more : (left more : List Left) → Any P left → Any P (left ++ more)
  any_more left more any = (any.0, any.1, omega (arith, any.2, length-append left more), get_or_append_left left more any.1 any.0 any.2 ∙ any.3, any.4)

  pub any_after : (left later : List Left) → Any P later → Any P (left ++ later)
  any_after left later any = (
    length left + any.0,
    any.1,
    omega (arith, any.2, length-append left later),
    get_or-append-add left later any.0 any.1 ∙ any.3,
    any.4,
  )

  module _ {V : Type 0} (left other : List Left) (a b : Option V) where
    pub same_more : SameOrLeft P left a b → SameOrLeft P (left ++ other) a b
    same_more (inl same) = inl same
    same_more (inr lacks) = inr (lacks.0, any_more left other lacks.1)

    pub same_after : SameOrLeft P other a b → SameOrLeft P (left ++ other) a b
    same_after (inl same) = inl same
    same_after (inr lacks) = inr (lacks.0, any_after left other lacks.1)

module _ (shelf : Shelf) (left other : List Left) where
  noted_more : (end : WalkEnd) → EndIsNoted shelf left end → EndIsNoted shelf (left ++ other) end
  noted_more end (inl done) = inl done
  noted_more end (inr noted) = inr (any_more (NotesEnd shelf end) left other noted)

  noted_after : (end : WalkEnd) → EndIsNoted shelf other end → EndIsNoted shelf (left ++ other) end
  noted_after end (inl done) = inl done
  noted_after end (inr noted) = inr (any_after (NotesEnd shelf end) left other noted)

  module _ (rows : List Row) where
    rows_more : (walk : List Row) (end : WalkEnd) → AreRowsOf shelf left rows walk end
        → AreRowsOf shelf (left ++ other) rows walk end
    rows_more walk end (inl same) = inl (same.0, noted_more end same.1)
    rows_more walk end (inr lacks) = inr (lacks.0, any_more (LacksRecords shelf) left other lacks.1)

    rows_after : (walk : List Row) (end : WalkEnd) → AreRowsOf shelf other rows walk end
        → AreRowsOf shelf (left ++ other) rows walk end
    rows_after walk end (inl same) = inl (same.0, noted_after end same.1)
    rows_after walk end (inr lacks) = inr (lacks.0, any_after (LacksRecords shelf) left other lacks.1)

    pub walk_more : (store : Store) → AreWalk shelf left store rows
        → AreWalk shelf (left ++ other) store rows
    walk_more store are = λ walk end is ends. rows_more walk end (are walk end is ends)

    pub walk_after : (store : Store) → AreWalk shelf other store rows
        → AreWalk shelf (left ++ other) store rows
    walk_after store are = λ walk end is ends. rows_after walk end (are walk end is ends)

-- an item that was refused or given up says nothing about the store
told_unread : (s s' : Seen) (l : Left) (unread : Unread) → unread_in l ≡ unread ∷ []
    → IsTrueWhile s s' l
told_unread s s' (Left.Records shelf (Cycle n)) unread is = cc
told_unread s s' (Left.Records shelf (Missing n)) unread is = cc
told_unread s s' (Left.Records shelf (GaveUp n)) unread is = tt
told_unread s s' (Left.Records shelf (Refused n code)) unread is = tt
told_unread s s' (Left.Records shelf (Stalled n)) unread is = cc
told_unread s s' (Left.Records shelf (Malformed n)) unread is = cc
told_unread s s' (Left.Info shelf u) unread is = tt
told_unread s s' (Left.Reading lun number u) unread is = tt
told_unread s s' (Left.Size id code) unread is = tt
told_unread s s' (Left.Empty id) unread is = cc
told_unread s s' (Left.CutOff id) unread is = cc
told_unread s s' (Left.Inventory id FruEnded.Memory) unread is = cc
told_unread s s' (Left.Inventory id (FruEnded.Refused code)) unread is = tt
told_unread s s' (Left.Inventory id FruEnded.GaveUp) unread is = tt
told_unread s s' (Left.Inventory id FruEnded.Stalled) unread is = cc
told_unread s s' (Left.Inventory id FruEnded.Words) unread is = cc

one_told : (s s' : Seen) (l : Left) → IsTrueWhile s s' l → All (IsTrueWhile s s') (l ∷ [])
one_told s s' l is = All-cons (IsTrueWhile s s') l [] is (All-nil (IsTrueWhile s s'))

none_or_same : {V : Type 0} (P : Left → Type 0) (left : List Left) (a b : Option V)
    → SameOrLeft P left a b → NoneOrSame a b
none_or_same P left a b (inl same) = inr same
none_or_same P left a b (inr lacks) = inl lacks.0

-- ---- more items left out

of_option : (P : Left → Type 0) (o : Option Left) → IfSome o P → All P (option_to_list o)
of_option P None is = All-nil P
of_option P (Some l) is = All-cons P l [] is (All-nil P)

pub adds_none : (P : Left → Type 0) (left : List Left) → Adds P left left
adds_none P left = record { more = []; grows = sym (append-nil left); all = All-nil P }

pub adds_some : (P : Left → Type 0) (left : List Left) (o : Option Left) → IfSome o P
    → Adds P left (left ++ option_to_list o)
adds_some P left o is = record { more = option_to_list o; grows = refl; all = of_option P o is }

pub adds_weaker : {left left' : List Left} (P Q : Left → Type 0) → ((l : Left) → P l → Q l)
    → Adds P left left' → Adds Q left left'
adds_weaker P Q weaker adds = record {
  more = adds.more;
  grows = adds.grows;
  all = All-weaker P Q weaker adds.more adds.all;
}

adds_then : {left left' : List Left} (P Q : Left → Type 0) (o : Option Left)
    → ((l : Left) → P l → Q l) → Adds P left left' → IfSome o Q
    → Adds Q left (left' ++ option_to_list o)
adds_then {left = left} P Q o weaker adds is = record {
  more = adds.more ++ option_to_list o;
  grows = ap (λ (l : List Left). l ++ option_to_list o) adds.grows ∙ append_assoc left adds.more (option_to_list o);
  all = All-append Q adds.more (option_to_list o) (All-weaker P Q weaker adds.more adds.all) (of_option Q o is);
}

-- ---- a phase of a capture that leaves nothing out
pub nothing_left : {S : Seen → Type 0} {tries : ℕ} {s s' : Seen} {Fact : Type 0} (left : List Left) → CountsGrow s s'
    → (s'.stores_added ≡ s.stores_added → Fact) → Captures S tries s s' left left Fact
nothing_left {s = s} {s' = s'} left counts fact = record {
  more = [];
  grows = sym (append-nil left);
  counts = counts;
  fact = fact;
  told = All-nil (IsTrueWhile s s');
  plain = λ p all. all;
}

-- ---- two phases of a capture, one after the other

-- the new items are appended to the earlier ones
pub captures_after : {S : Seen → Type 0} {tries : ℕ} {s s' : Seen} {Fact Fact' : Type 0} (left later : List Left) → (Fact → Fact')
    → Captures S tries s s' [] later Fact → Captures S tries s s' left (left ++ later) Fact'
captures_after {s = s} left later to captures = record {
  more = later;
  grows = refl;
  counts = rw (sym captures.grows) at captures.counts;
  fact = λ same. to (captures.fact same);
  told = rw (sym captures.grows) at captures.told;
  plain = λ p all. All-append (PlainLeaves s.store) left later all (captures.plain p (All-nil (PlainLeaves s.store)));
}

pub captures_then : {S : Seen → Type 0} {tries : ℕ} {s s' s'' : Seen} {left left' left'' : List Left} {First Second Both : Type 0}
    → StaysHonest s s' → StaysHonest s' s'' → Captures S tries s s' left left' First
    → Captures S tries s' s'' left' left'' Second
    → (s'.store ≡ s.store → (more : List Left) → left'' ≡ left' ++ more → First → Second → Both)
    → Captures S tries s s'' left left'' Both
captures_then {S = S} {tries = tries} {s = s} {s' = s'} {s'' = s''} {left = left} {left' = left'} {left'' = left''} before later first second both = record {
  more = first.more ++ second.more;
  grows = second.grows ∙ ap (λ (l : List Left). l ++ second.more) first.grows ∙ append_assoc left first.more second.more;
  counts = counted_then S tries first.more second.more s s' s'' first.counts second.counts;
  fact = λ same.
      let parts = between s s' s'' before later same in
      both (before.store.stays parts.0) second.more second.grows (first.fact parts.0) (second.fact parts.1);
  told = All-append (IsTrueWhile s s'') first.more second.more (told_first s s' s'' before later first.more first.told)
      (told_second s s' s'' before later second.more second.told);
  plain = λ p all.
      let store = before.store.stays (before.plain_store p) in
      subst (λ (x : Store). All (PlainLeaves x) left'') store (second.plain (before.plain p)
      (subst (λ (x : Store). All (PlainLeaves x) left') (sym store) (first.plain p all)));
}

-- ---- over any controller: listed, or absent

module _ {V : Type 0} (S : Seen → Type 0) (Lacks : Left → Type 0) (left other : List Left) (value : Option V) where
  pub listed_more : IsListedOrAbsent S Lacks left value → IsListedOrAbsent S Lacks (left ++ other) value
  listed_more is none = elim (is none) [ inl any ↦ inl (any_more Lacks left other any) | inr absent ↦ inr absent ]

  pub listed_after : IsListedOrAbsent S Lacks other value → IsListedOrAbsent S Lacks (left ++ other) value
  listed_after is none = elim (is none) [ inl any ↦ inl (any_after Lacks left other any) | inr absent ↦ inr absent ]

module _ {V : Type 0} (S : Seen → Type 0) (Lacks : Left → Type 0) (value : Option V) where
  -- one item was left out, or none
  pub listed_one : (o : Option Left) → IfSome o (λ l. Lacks l × (value ≡ None))
      → MatchOption o (value ≡ None → AtSome S IsAbsent) (λ l. ⊤) → IsListedOrAbsent S Lacks (option_to_list o) value
  listed_one None lacks absent = λ none. inr (absent none)
  listed_one (Some l) lacks absent = λ none. inl (any_of_one Lacks l lacks.0)

pub absent_now : {V : Type 0} (S : Seen → Type 0) (value : Option V) (s : Seen) → S s → (o : Option Left)
    → MatchOption o (value ≡ None → IsAbsent s) (λ l. ⊤) → MatchOption o (value ≡ None → AtSome S IsAbsent) (λ l. ⊤)
absent_now S value s at None absent = λ none. (s, at, absent none)
absent_now S value s at (Some l) absent = tt

-- ---- readings

-- `P` holds for each marked sensor before this place
abbrev pub NamedTo : ℕ → List Bool → (ℕ × ℕ → Type 0) → Type 0
NamedTo place marks P = (key : ℕ × ℕ) → IsSensorKey key → sensor_place key < place
    → slice_index_or marks (sensor_place key) false ≡ true → P key

before_or_at : (place : ℕ) (key : ℕ × ℕ) → sensor_place key < place + 1
    → (sensor_place key < place) ⊎ (sensor_place key ≡ place)
before_or_at place key below = grind (arith, nat_tests)

-- this place is not marked
named_skipped : {place : ℕ} (marks : List Bool) (P : ℕ × ℕ → Type 0) → slice_index_or marks place false ≡ false
    → NamedTo place marks P → NamedTo (place + 1) marks P
named_skipped {place} marks P unmarked named = λ key is below mark. by key is mark (before_or_at place key below)
  where
    by : (key : ℕ × ℕ) → IsSensorKey key → slice_index_or marks (sensor_place key) false ≡ true
        → (sensor_place key < place) ⊎ (sensor_place key ≡ place) → P key
    by key is mark (inl lt) = named key is lt mark
    by key is mark (inr here) = absurd (grind (arith, unmarked, rw here at mark))

-- two sensors with the same place are equal
same_key : (key : ℕ × ℕ) (lun number : ℕ) → IsSensorKey key → number < 256
    → sensor_place key ≡ sensor_place (lun, number) → (key.0 ≡ lun) × (key.1 ≡ number)
same_key key lun number is fits at = (omega (arith, is.number, fits, at), omega (arith, is.number, fits, at))

-- it holds for the sensor at this place, and still for those before it
named_next : {place : ℕ} (marks : List Bool) (lun number : ℕ) (P Q : ℕ × ℕ → Type 0)
    → sensor_place (lun, number) ≡ place → number < 256 → NamedTo place marks P
    → ((key : ℕ × ℕ) → sensor_place key < place → P key → Q key) → Q (lun, number)
    → NamedTo (place + 1) marks Q
named_next {place} marks lun number P Q at fits named still this =
    λ key is below mark. by key is mark (before_or_at place key below)
  where
    by : (key : ℕ × ℕ) → IsSensorKey key → slice_index_or marks (sensor_place key) false ≡ true
        → (sensor_place key < place) ⊎ (sensor_place key ≡ place) → Q key
    by key is mark (inl lt) = still key lt (named key is lt mark)
    by key is mark (inr here) =
        let same = same_key key lun number is fits (here ∙ sym at) in
        rw (same.0, same.1) this

-- the readings of the places before this one
pub record ReadTo (place : ℕ) (marks : List Bool) (left : List Left) (image store : Store) : Type 0 where
  pub named : NamedTo place marks (ReadingOrLeft left image store)
  pub own : OwnReadings image store

-- the same, of stores that the controller held meanwhile
pub record ReadWhile (place : ℕ) (marks : List Bool) (left : List Left) (image : Store) (s s' : Seen) : Type 0 where
  pub named : NamedTo place marks (λ key. OfHeld s s' (λ store. ReadingOrLeft left image store key))
  pub own : (lun number : ℕ)
      → OfHeld s s' (λ store. NoneOrSame (reading_of lun number image) (reading_of lun number store))

-- a reading of a place before this one that the image lacks
abbrev pub UnreadTo : ℕ → Store → Left → Type 0
UnreadTo place image left = (unread : IsUnread image left) × (sensor_place unread.key < place)

pub record IsReading (S : Seen → Type 0) (place part tries : ℕ) (marks : List Bool) (s s' : Seen)
    (left left' : List Left) (old new : Store) : Type 0 where
  pub beside : new ≡ record old { readings = new.readings }
  pub below : ReadBelow place new.readings
  pub calls : s'.calls ≤ s.calls + place * (tries + 1)
  pub asked : AsksAtMost part s s'
  pub stays : IsHonest s → StaysHonest s s'
  pub lacks : Adds (UnreadTo place new) left left'
  pub accounted : NamedTo place marks (IsReadingAccounted S left' new)
  pub read : IsHonest s → Captures S tries s s' left left' (ReadTo place marks left' new s.store)
  pub meanwhile : IsHonest s → ReadWhile place marks left' new s s'

-- none was read yet
pub reading_begun : {S : Seen → Type 0} (part tries : ℕ) (marks : List Bool) (s : Seen) (left : List Left) (image : Store)
    → image.readings ≡ [] → IsReading S 0 part tries marks s s left left image image
reading_begun part tries marks s left image none = record {
  beside = refl;
  below = rw none tt;
  calls = omega arith;
  asked = omega arith;
  stays = λ h. stays_refl s h;
  lacks = adds_none (UnreadTo 0 image) left;
  accounted = λ key is below. absurd (omega (arith, below));
  read = λ h. nothing_left left (grown_none s) (λ same. record {
    named = λ key is below. absurd (omega (arith, below));
    own = λ lun number. inl (ap (λ (l : List SensorReading). reading_in l lun number) none);
  });
  meanwhile = λ h. record {
    named = λ key is below. absurd (omega (arith, below));
    own = λ lun number. (s.store, held_at_last s s, inl (ap (λ (l : List SensorReading). reading_in l lun number) none));
  };
}

-- all were read
pub reading_done : {S : Seen → Type 0} {place part tries : ℕ} {marks : List Bool} {s s' : Seen}
    {left left' : List Left} {old new : Store}
    → IsReading S place part tries marks s s' left left' old new → 1024 ≤ place → IsHonest s
    → Captures S tries s s' left left' (HasReadings marks left' new s.store)
reading_done so all h = record {
  more = (so.read h).more;
  grows = (so.read h).grows;
  counts = (so.read h).counts;
  fact = λ same. record {
    named = λ key is mark. ((so.read h).fact same).named key is (omega (arith, all, is.lun, is.number)) mark;
    own = ((so.read h).fact same).own;
  };
  told = (so.read h).told;
  plain = (so.read h).plain;
}

pub readings_while : {S : Seen → Type 0} {place part tries : ℕ} {marks : List Bool} {s s' : Seen}
    {left left' : List Left} {old new : Store}
    → IsReading S place part tries marks s s' left left' old new → 1024 ≤ place → IsHonest s
    → HasReadingsWhile marks left' new s s'
readings_while so all h = record {
  named = λ key is mark. (so.meanwhile h).named key is (omega (arith, all, is.lun, is.number)) mark;
  own = (so.meanwhile h).own;
}

pub reading_lacks : {S : Seen → Type 0} {place part tries : ℕ} {marks : List Bool} {s s' : Seen}
    {left left' : List Left} {old new : Store}
    → IsReading S place part tries marks s s' left left' old new → Adds (IsUnread new) left left'
reading_lacks {place = place} {new = new} so = adds_weaker (UnreadTo place new) (IsUnread new) (λ l unread. unread.0) so.lacks

pub readings_accounted : {S : Seen → Type 0} {place part tries : ℕ} {marks : List Bool} {s s' : Seen}
    {left left' : List Left} {old new : Store}
    → IsReading S place part tries marks s s' left left' old new → 1024 ≤ place
    → AreReadingsAccounted S marks left' new
readings_accounted so all = λ key is mark. so.accounted key is (omega (arith, all, is.lun, is.number)) mark

-- the next place is not marked
pub reading_skipped : {S : Seen → Type 0} {place part tries : ℕ} {marks : List Bool} {s s' : Seen}
    {left left' : List Left} {old new : Store}
    → IsReading S place part tries marks s s' left left' old new
    → slice_index_or marks place false ≡ false
    → IsReading S (place + 1) part tries marks s s' left left' old new
reading_skipped {S = S} {place = place} {marks = marks} {s = s} {s' = s'} {left' = left'} {new = new} so unmarked = record {
  beside = so.beside;
  below = read_more place new.readings so.below;
  calls = omega (arith, so.calls);
  asked = so.asked;
  stays = so.stays;
  lacks = adds_weaker (UnreadTo place new) (UnreadTo (place + 1) new) (λ l unread. (unread.0, omega (arith, unread.1))) so.lacks;
  accounted = named_skipped marks (IsReadingAccounted S left' new) unmarked so.accounted;
  read = λ h. record {
    more = (so.read h).more;
    grows = (so.read h).grows;
    counts = (so.read h).counts;
    fact = λ same. record {
      named = named_skipped marks (ReadingOrLeft left' new s.store) unmarked ((so.read h).fact same).named;
      own = ((so.read h).fact same).own;
    };
    told = (so.read h).told;
    plain = (so.read h).plain;
  };
  meanwhile = λ h. record {
    named = named_skipped marks (λ key. OfHeld s s' (λ store. ReadingOrLeft left' new store key)) unmarked (so.meanwhile h).named;
    own = (so.meanwhile h).own;
  };
}

-- the image after a reading was added
module _ (lun number : ℕ) where
  read_beside : (old new more : Store) (o : Option Reading) → HasRead lun number o new more
      → new ≡ record old { readings = new.readings } → more ≡ record old { readings = more.readings }
  read_beside old new more None has beside = rw has beside
  read_beside old new more (Some reading) has beside =
      has ∙ rw (ap (λ (x : Store). x.readings) has) (ap (λ (x : Store). record x { readings = new.readings ++ record { lun = lun; number = number; reading = reading } ∷ [] }) beside)

  read_below : (new more : Store) (o : Option Reading) → HasRead lun number o new more
      → ReadBelow (sensor_place (lun, number)) new.readings
      → ReadBelow (sensor_place (lun, number) + 1) more.readings
  read_below new more None has below = rw has (read_more _ new.readings below)
  read_below new more (Some reading) has below = rw (ap (λ (x : Store). x.readings) has) (read_next _ new.readings (record { lun = lun; number = number; reading = reading }) refl below)

  others_stay : (new more : Store) (o : Option Reading) → HasRead lun number o new more
      → (key : ℕ × ℕ) → sensor_place key < sensor_place (lun, number)
      → reading_of key.0 key.1 more ≡ reading_of key.0 key.1 new
  others_stay new more None has key lt = ap (reading_of key.0 key.1) has
  others_stay new more (Some reading) has key lt =
      ap (reading_of key.0 key.1) has
      ∙ reading_in-snoc new.readings (record { lun = lun; number = number; reading = reading }) key.0 key.1
      ∙ other (reading_in new.readings key.0 key.1)
    where
      other : (found : Option Reading)
          → option_or found (cond (nat_eq lun key.0 && nat_eq number key.1) (Some reading) None) ≡ found
      other found = grind (arith, nat_tests, lt)

  -- what holds of this reading, and held of each, holds of each
  own_read : (new more : Store) (o : Option Reading) (P : ℕ → ℕ → Option Reading → Type 0)
      → HasRead lun number o new more → ((l n : ℕ) → P l n (reading_of l n new))
      → P lun number (reading_of lun number more) → (l n : ℕ) → P l n (reading_of l n more)
  own_read new more None P has own this = λ l n. subst (λ (x : Store). P l n (reading_of l n x)) (sym has) (own l n)
  own_read new more (Some reading) P has own this = λ l n. by l n (nat_eq lun l && nat_eq number n) refl
    where
      found : (l n : ℕ) → reading_of l n more
          ≡ option_or (reading_of l n new) (cond (nat_eq lun l && nat_eq number n) (Some reading) None)
      found l n = ap (reading_of l n) has ∙ reading_in-snoc new.readings (record { lun = lun; number = number; reading = reading }) l n

      nothing : (o : Option Reading) → option_or o None ≡ o
      nothing None = refl
      nothing (Some r) = refl

      by : (l n : ℕ) (b : Bool) → (nat_eq lun l && nat_eq number n) ≡ b → P l n (reading_of l n more)
      by l n true e =
          let lun_is : lun ≡ l = grind (arith, nat_tests, e) in
          let number_is : number ≡ n = grind (arith, nat_tests, e) in
          subst (λ (x : ℕ). P l x (reading_of l x more)) number_is
          (subst (λ (x : ℕ). P x number (reading_of x number more)) lun_is this)
      by l n false e =
          let stays : reading_of l n more ≡ reading_of l n new = found l n ∙ rw e (nothing (reading_of l n new)) in
          subst (P l n) (sym stays) (own l n)

pub reading_read : {S : Seen → Type 0} {place part tries : ℕ} {marks : List Bool} {s s' s'' : Seen}
    {left left' : List Left} {old new more : Store} (lacks : Option Left) (lun number : ℕ)
    → IsReading S place part tries marks s s' left left' old new
    → sensor_place (lun, number) ≡ place → number < 256
    → HasRead lun number (reading_of lun number more) new more
    → IfSome lacks (λ l. LacksReading lun number l × (reading_of lun number more ≡ None))
    → MatchOption lacks (reading_of lun number more ≡ None → AtSome S IsAbsent) (λ l. ⊤)
    → s''.calls ≤ s'.calls + (tries + 1) → AsksAtMost part s' s''
    → (IsHonest s' → StaysHonest s' s'')
    → (IsHonest s' → Captures S tries s' s'' [] (option_to_list lacks)
    (ReadingOrLeft (option_to_list lacks) more s'.store (lun, number)))
    → (IsHonest s' → OfHeld s' s'' (λ store. ReadingOrLeft (option_to_list lacks) more store (lun, number)))
    → IsReading S (place + 1) part tries marks s s'' left (left' ++ option_to_list lacks) old more
reading_read {S = S} {place = place} {marks = marks} {s = s} {s' = s'} {s'' = s''} {left' = left'} {old = old} {new = new} {more = more} lacks lun number so at fits has none absent calls asked stays read while_read = record {
  beside = read_beside lun number old new more (reading_of lun number more) has so.beside;
  below = rw at at (read_below lun number new more (reading_of lun number more) has (rw (sym at) at so.below));
  calls = omega (arith, so.calls, calls);
  asked = omega (arith, so.asked, asked);
  stays = λ h. stays_trans s s' s'' (so.stays h) (stays (so.stays h).honest);
  lacks = adds_then (UnreadTo place new) (UnreadTo (place + 1) more) lacks still so.lacks (here lacks none);
  accounted = named_next marks lun number (IsReadingAccounted S left' new) (IsReadingAccounted S (left' ++ option_to_list lacks) more) at fits so.accounted
      (λ key lt was. listed_more S (LacksReading key.0 key.1) left' (option_to_list lacks) (reading_of key.0 key.1 more)
      (subst (IsListedOrAbsent S (LacksReading key.0 key.1) left') (sym (others_stay lun number new more (reading_of lun number more) has key (omega (arith, lt, at)))) was))
      (listed_after S (LacksReading lun number) left' (option_to_list lacks) (reading_of lun number more)
      (listed_one S (LacksReading lun number) (reading_of lun number more) lacks none absent));
  read = λ h.
      let before = so.stays h in
      captures_then before (stays before.honest) (so.read h)
      (captures_after left' (option_to_list lacks) (same_after (LacksReading lun number) left' (option_to_list lacks) _ _) (read before.honest))
      (λ store grown grows to this.
      let now = subst (λ (x : Store). ReadingOrLeft (left' ++ option_to_list lacks) more x (lun, number)) store this in
      record {
        named = named_next marks lun number (ReadingOrLeft left' new s.store) (ReadingOrLeft (left' ++ option_to_list lacks) more s.store) at fits to.named
            (λ key lt. earlier key lt s.store) now;
        own = own_read lun number new more (reading_of lun number more) (λ l n o. NoneOrSame o (reading_of l n s.store)) has to.own
            (none_or_same (LacksReading lun number) (left' ++ option_to_list lacks) (reading_of lun number more) (reading_of lun number s.store) now);
      });
  meanwhile = λ h.
      let before = so.stays h in
      let later = stays before.honest in
      let was = so.meanwhile h in
      let now : OfHeld s s'' (λ store. ReadingOrLeft (left' ++ option_to_list lacks) more store (lun, number)) =
      of_held_second s s' s'' before later (λ store. same_after (LacksReading lun number) left' (option_to_list lacks) (reading_of lun number more) (reading_of lun number store)) (while_read before.honest) in
      record {
        named = named_next marks lun number (λ key. OfHeld s s' (λ store. ReadingOrLeft left' new store key))
            (λ key. OfHeld s s'' (λ store. ReadingOrLeft (left' ++ option_to_list lacks) more store key)) at fits was.named
            (λ key lt. of_held_first s s' s'' before later (earlier key lt)) now;
        own = own_read lun number new more (reading_of lun number more) (λ l n o. OfHeld s s'' (λ store. NoneOrSame o (reading_of l n store))) has
            (λ l n. of_held_first s s' s'' before later (λ store same. same) (was.own l n))
            (now.0, now.1, none_or_same (LacksReading lun number) (left' ++ option_to_list lacks) (reading_of lun number more) (reading_of lun number now.0) now.2);
      };
}
  where
    still : (l : Left) → UnreadTo place new l → UnreadTo (place + 1) more l
    still l unread = (
      record {
        key = unread.0.key;
        lacks = unread.0.lacks;
        none = others_stay lun number new more (reading_of lun number more) has unread.0.key (omega (arith, unread.1, at)) ∙ unread.0.none;
      },
      omega (arith, unread.1),
    )

    here : (o : Option Left)
        → IfSome o (λ l. LacksReading lun number l × (reading_of lun number more ≡ None))
        → IfSome o (UnreadTo (place + 1) more)
    here None is = tt
    here (Some l) is = (record { key = (lun, number); lacks = is.0; none = is.1 }, omega (arith, at))

    earlier : (key : ℕ × ℕ) → sensor_place key < place → (store : Store) → ReadingOrLeft left' new store key
        → ReadingOrLeft (left' ++ option_to_list lacks) more store key
    earlier key lt store was =
        let stays = others_stay lun number new more (reading_of lun number more) has key (omega (arith, lt, at)) in
        same_more (LacksReading key.0 key.1) left' (option_to_list lacks) _ _
        (subst (λ (o : Option Reading). SameOrLeft (LacksReading key.0 key.1) left' o (reading_of key.0 key.1 store)) (sym stays) was)

-- ---- inventories

-- `P` holds for device 0, and for each marked device before this one
abbrev pub DevicesTo : ℕ → List Bool → (ℕ → Type 0) → Type 0
DevicesTo to marks P = (id : ℕ) → id < to → IsTrue ((id == 0) || slice_index_or marks id false) → P id

below_or_at : (to id : ℕ) → id < to + 1 → (id < to) ⊎ (id ≡ to)
below_or_at to id below = grind (arith, nat_tests)

-- this device is not marked
devices_skipped : {to : ℕ} (marks : List Bool) (P : ℕ → Type 0) → ((to == 0) || slice_index_or marks to false) ≡ false
    → DevicesTo to marks P → DevicesTo (to + 1) marks P
devices_skipped {to} marks P unmarked named = λ id below mark. by id mark (below_or_at to id below)
  where
    by : (id : ℕ) → IsTrue ((id == 0) || slice_index_or marks id false) → (id < to) ⊎ (id ≡ to) → P id
    by id mark (inl lt) = named id lt mark
    by id mark (inr here) = absurd (grind (arith, unmarked, rw here at mark))

-- it holds for this device, and still for those before it
devices_next : {id : ℕ} (marks : List Bool) (P Q : ℕ → Type 0) → DevicesTo id marks P
    → ((other : ℕ) → other < id → P other → Q other) → Q id → DevicesTo (id + 1) marks Q
devices_next {id} marks P Q named still this = λ other below mark. by other mark (below_or_at id other below)
  where
    by : (other : ℕ) → IsTrue ((other == 0) || slice_index_or marks other false) → (other < id) ⊎ (other ≡ id) → Q other
    by other mark (inl lt) = still other lt (named other lt mark)
    by other mark (inr here) = rw here this

pub record KeptTo (to : ℕ) (marks : List Bool) (left : List Left) (image store : Store) : Type 0 where
  pub named : DevicesTo to marks (InventoryOrLeft left image store)
  pub own : OwnInventories image store

-- the same, of inventories that did not change
pub record KeptWhile (to : ℕ) (marks : List Bool) (left : List Left) (image : Store) (s s' : Seen) : Type 0 where
  pub named : DevicesTo to marks (λ id. Keeps (inventory_of id) s s' → InventoryOrLeft left image s.store id)
  pub own : (id : ℕ) → Keeps (inventory_of id) s s' → NoneOrSame (inventory_of id image) (inventory_of id s.store)

-- an inventory of a device before this one that the image lacks
abbrev pub UnkeptTo : ℕ → Store → Left → Type 0
UnkeptTo to image left = (unkept : IsUnkept image left) × (unkept.id < to)

pub record IsKeeping (S : Seen → Type 0) (to part tries : ℕ) (marks : List Bool) (s s' : Seen)
    (left left' : List Left) (old new : Store) : Type 0 where
  pub beside : new ≡ record old { inventories = new.inventories }
  pub below : KeptBelow to new.inventories
  pub calls : s'.calls ≤ s.calls + to * most_for_inventory tries
  pub asked : AsksAtMost part s s'
  pub stays : IsHonest s → StaysHonest s s'
  pub lacks : Adds (UnkeptTo to new) left left'
  pub accounted : DevicesTo to marks (λ id. IsListedOrAbsent S (LacksInventory id) left' (inventory_of id new))
  pub read : IsHonest s → Captures S tries s s' left left' (KeptTo to marks left' new s.store)
  pub meanwhile : IsHonest s → KeptWhile to marks left' new s s'

-- none was read yet
pub keeping_begun : {S : Seen → Type 0} (part tries : ℕ) (marks : List Bool) (s : Seen) (left : List Left) (image : Store)
    → image.inventories ≡ [] → IsKeeping S 0 part tries marks s s left left image image
keeping_begun part tries marks s left image none = record {
  beside = refl;
  below = rw none tt;
  calls = omega arith;
  asked = omega arith;
  stays = λ h. stays_refl s h;
  lacks = adds_none (UnkeptTo 0 image) left;
  accounted = λ id below. absurd (omega (arith, below));
  read = λ h. nothing_left left (grown_none s) (λ same. record {
    named = λ id below. absurd (omega (arith, below));
    own = λ id. inl (ap (λ (l : List Inventory). inventory_in l id) none);
  });
  meanwhile = λ h. record {
    named = λ id below. absurd (omega (arith, below));
    own = λ id keeps. inl (ap (λ (l : List Inventory). inventory_in l id) none);
  };
}

-- all were read
pub keeping_done : {S : Seen → Type 0} {to part tries : ℕ} {marks : List Bool} {s s' : Seen}
    {left left' : List Left} {old new : Store}
    → IsKeeping S to part tries marks s s' left left' old new → 255 ≤ to → IsHonest s
    → Captures S tries s s' left left' (HasInventories marks left' new s.store)
keeping_done so all h = record {
  more = (so.read h).more;
  grows = (so.read h).grows;
  counts = (so.read h).counts;
  fact = λ same. record {
    named = λ id below mark. ((so.read h).fact same).named id (omega (arith, all, below)) mark;
    own = ((so.read h).fact same).own;
  };
  told = (so.read h).told;
  plain = (so.read h).plain;
}

pub inventories_while : {S : Seen → Type 0} {to part tries : ℕ} {marks : List Bool} {s s' : Seen}
    {left left' : List Left} {old new : Store}
    → IsKeeping S to part tries marks s s' left left' old new → 255 ≤ to → IsHonest s
    → HasInventoriesWhile marks left' new s s'
inventories_while so all h = record {
  named = λ id below mark. (so.meanwhile h).named id (omega (arith, all, below)) mark;
  own = (so.meanwhile h).own;
}

pub keeping_lacks : {S : Seen → Type 0} {to part tries : ℕ} {marks : List Bool} {s s' : Seen}
    {left left' : List Left} {old new : Store}
    → IsKeeping S to part tries marks s s' left left' old new → Adds (IsUnkept new) left left'
keeping_lacks {to = to} {new = new} so = adds_weaker (UnkeptTo to new) (IsUnkept new) (λ l unkept. unkept.0) so.lacks

pub inventories_accounted : {S : Seen → Type 0} {to part tries : ℕ} {marks : List Bool} {s s' : Seen}
    {left left' : List Left} {old new : Store}
    → IsKeeping S to part tries marks s s' left left' old new → 255 ≤ to
    → AreInventoriesAccounted S marks left' new
inventories_accounted so all = λ id below mark. so.accounted id (omega (arith, all, below)) mark

-- the next device is not marked
pub keeping_skipped : {S : Seen → Type 0} {to part tries : ℕ} {marks : List Bool} {s s' : Seen}
    {left left' : List Left} {old new : Store}
    → IsKeeping S to part tries marks s s' left left' old new
    → ((to == 0) || slice_index_or marks to false) ≡ false
    → IsKeeping S (to + 1) part tries marks s s' left left' old new
keeping_skipped {S = S} {to = to} {tries = tries} {marks = marks} {s = s} {s' = s'} {left' = left'} {new = new} so unmarked = record {
  beside = so.beside;
  below = kept_more to new.inventories so.below;
  calls = omega (arith, so.calls);
  asked = so.asked;
  stays = so.stays;
  lacks = adds_weaker (UnkeptTo to new) (UnkeptTo (to + 1) new) (λ l unkept. (unkept.0, omega (arith, unkept.1))) so.lacks;
  accounted = devices_skipped marks (λ id. IsListedOrAbsent S (LacksInventory id) left' (inventory_of id new)) unmarked so.accounted;
  read = λ h. record {
    more = (so.read h).more;
    grows = (so.read h).grows;
    counts = (so.read h).counts;
    fact = λ same. record {
      named = devices_skipped marks (InventoryOrLeft left' new s.store) unmarked ((so.read h).fact same).named;
      own = ((so.read h).fact same).own;
    };
    told = (so.read h).told;
    plain = (so.read h).plain;
  };
  meanwhile = λ h. record {
    named = devices_skipped marks (λ id. Keeps (inventory_of id) s s' → InventoryOrLeft left' new s.store id) unmarked (so.meanwhile h).named;
    own = (so.meanwhile h).own;
  };
}

module _ (id : ℕ) where
  kept_beside : (old new more : Store) (o : Option (List ℕ)) → HasInventory id o new more
      → new ≡ record old { inventories = new.inventories }
      → more ≡ record old { inventories = more.inventories }
  kept_beside old new more None has beside = rw has beside
  kept_beside old new more (Some bytes) has beside =
      has ∙ rw (ap (λ (x : Store). x.inventories) has) (ap (λ (x : Store). record x { inventories = new.inventories ++ record { id = id; bytes = bytes } ∷ [] }) beside)

  kept_below : (new more : Store) (o : Option (List ℕ)) → HasInventory id o new more
      → KeptBelow id new.inventories → KeptBelow (id + 1) more.inventories
  kept_below new more None has below = rw has (kept_more id new.inventories below)
  kept_below new more (Some bytes) has below = rw (ap (λ (x : Store). x.inventories) has) (kept_next id new.inventories bytes below)

  others_kept : (new more : Store) (o : Option (List ℕ)) → HasInventory id o new more → (other : ℕ)
      → other < id → inventory_of other more ≡ inventory_of other new
  others_kept new more None has other lt = ap (inventory_of other) has
  others_kept new more (Some bytes) has other lt =
      ap (inventory_of other) has
      ∙ inventory_in-snoc new.inventories (record { id = id; bytes = bytes }) other
      ∙ stays (inventory_in new.inventories other)
    where
      stays : (found : Option (List ℕ)) → option_or found (cond (nat_eq id other) (Some bytes) None) ≡ found
      stays found = grind (arith, nat_tests, lt)

  -- what holds of this inventory, and held of each, holds of each
  own_kept : (new more : Store) (o : Option (List ℕ)) (P : ℕ → Option (List ℕ) → Type 0) → HasInventory id o new more
      → ((other : ℕ) → P other (inventory_of other new)) → P id (inventory_of id more)
      → (other : ℕ) → P other (inventory_of other more)
  own_kept new more None P has own this = λ other. subst (λ (x : Store). P other (inventory_of other x)) (sym has) (own other)
  own_kept new more (Some bytes) P has own this = λ other. by other (nat_eq id other) refl
    where
      found : (other : ℕ) → inventory_of other more
          ≡ option_or (inventory_of other new) (cond (nat_eq id other) (Some bytes) None)
      found other = ap (inventory_of other) has ∙ inventory_in-snoc new.inventories (record { id = id; bytes = bytes }) other

      nothing : (o : Option (List ℕ)) → option_or o None ≡ o
      nothing None = refl
      nothing (Some b) = refl

      by : (other : ℕ) (b : Bool) → nat_eq id other ≡ b → P other (inventory_of other more)
      by other true e =
          let is : id ≡ other = grind (arith, nat_tests, e) in
          subst (λ (x : ℕ). P x (inventory_of x more)) is this
      by other false e =
          let stays : inventory_of other more ≡ inventory_of other new = found other ∙ rw e (nothing (inventory_of other new)) in
          subst (P other) (sym stays) (own other)

pub keeping_read : {S : Seen → Type 0} {part tries : ℕ} {marks : List Bool} {s s' s'' : Seen}
    {left left' : List Left} {old new more : Store} (lacks : Option Left) (id : ℕ)
    → IsKeeping S id part tries marks s s' left left' old new
    → HasInventory id (inventory_of id more) new more
    → IfSome lacks (λ l. LacksInventory id l × (inventory_of id more ≡ None))
    → MatchOption lacks (inventory_of id more ≡ None → AtSome S IsAbsent) (λ l. ⊤)
    → s''.calls ≤ s'.calls + most_for_inventory tries → AsksAtMost part s' s''
    → (IsHonest s' → StaysHonest s' s'')
    → (IsHonest s' → Captures S tries s' s'' [] (option_to_list lacks)
    (InventoryOrLeft (option_to_list lacks) more s'.store id))
    → (IsHonest s' → Keeps (inventory_of id) s' s'' → InventoryOrLeft (option_to_list lacks) more s'.store id)
    → IsKeeping S (id + 1) part tries marks s s'' left (left' ++ option_to_list lacks) old more
keeping_read {S = S} {tries = tries} {marks = marks} {s = s} {s' = s'} {s'' = s''} {left' = left'} {old = old} {new = new} {more = more} lacks id so has none absent calls asked stays read while_read = record {
  beside = kept_beside id old new more (inventory_of id more) has so.beside;
  below = kept_below id new more (inventory_of id more) has so.below;
  calls = let next : (id + 1) * most_for_inventory tries ≡ id * most_for_inventory tries + most_for_inventory tries = omega arith in omega (arith, so.calls, calls, next);
  asked = omega (arith, so.asked, asked);
  stays = λ h. stays_trans s s' s'' (so.stays h) (stays (so.stays h).honest);
  lacks = adds_then (UnkeptTo id new) (UnkeptTo (id + 1) more) lacks still so.lacks (here lacks none);
  accounted = devices_next marks (λ other. IsListedOrAbsent S (LacksInventory other) left' (inventory_of other new))
      (λ other. IsListedOrAbsent S (LacksInventory other) (left' ++ option_to_list lacks) (inventory_of other more)) so.accounted
      (λ other lt was. listed_more S (LacksInventory other) left' (option_to_list lacks) (inventory_of other more)
      (subst (IsListedOrAbsent S (LacksInventory other) left') (sym (others_kept id new more (inventory_of id more) has other lt)) was))
      (listed_after S (LacksInventory id) left' (option_to_list lacks) (inventory_of id more)
      (listed_one S (LacksInventory id) (inventory_of id more) lacks none absent));
  read = λ h.
      let before = so.stays h in
      captures_then before (stays before.honest) (so.read h)
      (captures_after left' (option_to_list lacks) (same_after (LacksInventory id) left' (option_to_list lacks) _ _) (read before.honest))
      (λ store grown grows done this.
      let now = subst (λ (x : Store). InventoryOrLeft (left' ++ option_to_list lacks) more x id) store this in
      record {
        named = devices_next marks (InventoryOrLeft left' new s.store) (InventoryOrLeft (left' ++ option_to_list lacks) more s.store) done.named
            (λ other lt. earlier other lt s.store) now;
        own = own_kept id new more (inventory_of id more) (λ other o. NoneOrSame o (inventory_of other s.store)) has done.own
            (none_or_same (LacksInventory id) (left' ++ option_to_list lacks) (inventory_of id more) (inventory_of id s.store) now);
      });
  meanwhile = λ h.
      let before = so.stays h in
      let later = stays before.honest in
      let was = so.meanwhile h in
      let now : Keeps (inventory_of id) s s'' → InventoryOrLeft (left' ++ option_to_list lacks) more s.store id =
      λ keeps. subst (λ (o : Option (List ℕ)). SameOrLeft (LacksInventory id) (left' ++ option_to_list lacks) (inventory_of id more) o) (kept_value s s' s'' before later (inventory_of id) keeps)
      (same_after (LacksInventory id) left' (option_to_list lacks) (inventory_of id more) (inventory_of id s'.store)
      (while_read before.honest (keeps_second (inventory_of id) s s' s'' before.store later.store keeps))) in
      record {
        named = devices_next marks (λ other. Keeps (inventory_of other) s s' → InventoryOrLeft left' new s.store other)
            (λ other. Keeps (inventory_of other) s s'' → InventoryOrLeft (left' ++ option_to_list lacks) more s.store other) was.named
            (λ other lt old_is keeps. earlier other lt s.store (old_is (keeps_first (inventory_of other) s s' s'' before.store later.store keeps))) now;
        own = own_kept id new more (inventory_of id more) (λ other o. Keeps (inventory_of other) s s'' → NoneOrSame o (inventory_of other s.store)) has
            (λ other keeps. was.own other (keeps_first (inventory_of other) s s' s'' before.store later.store keeps))
            (λ keeps. none_or_same (LacksInventory id) (left' ++ option_to_list lacks) (inventory_of id more) (inventory_of id s.store) (now keeps));
      };
}
  where
    still : (l : Left) → UnkeptTo id new l → UnkeptTo (id + 1) more l
    still l unkept = (
      record {
        id = unkept.0.id;
        lacks = unkept.0.lacks;
        none = others_kept id new more (inventory_of id more) has unkept.0.id unkept.1 ∙ unkept.0.none;
      },
      omega (arith, unkept.1),
    )

    here : (o : Option Left)
        → IfSome o (λ l. LacksInventory id l × (inventory_of id more ≡ None))
        → IfSome o (UnkeptTo (id + 1) more)
    here None is = tt
    here (Some l) is = (record { id = id; lacks = is.0; none = is.1 }, omega arith)

    earlier : (other : ℕ) → other < id → (store : Store) → InventoryOrLeft left' new store other
        → InventoryOrLeft (left' ++ option_to_list lacks) more store other
    earlier other lt store was =
        let stays = others_kept id new more (inventory_of id more) has other lt in
        same_more (LacksInventory other) left' (option_to_list lacks) _ _
        (subst (λ (o : Option (List ℕ)). SameOrLeft (LacksInventory other) left' o (inventory_of other store)) (sym stays) was)

-- a fact about Ok results implies another
pub on_ok : {T E A B : Type 0} (result : Result T E) → OnOk result A → (A → B) → OnOk result B
on_ok (Ok value) has to = to has
on_ok (Err e) has to = tt

-- ---- one value, one inventory

module _ {V : Type 0} {S : Seen → Type 0} {tries : ℕ} {s s' : Seen} (value : Store → Option V) (Lacks : Left → Type 0) where
  pub came_value : (v : V) (in_image : Option V) → in_image ≡ Some v
      → ReadsValue value tries s s' (Ok (Some v))
      → Captures S tries s s' [] [] (SameOrLeft Lacks [] in_image (value s.store))
  came_value v in_image has reads =
      nothing_left [] (grown_within reads.is.0) (λ same. inl (has ∙ reads.is.1 ∙ ap value (reads.stays.store.stays same)))

  pub absent_value : (in_image : Option V) → in_image ≡ None → ReadsValue value tries s s' (Ok None)
      → Captures S tries s s' [] [] (SameOrLeft Lacks [] in_image (value s.store))
  absent_value in_image none reads =
      nothing_left [] (grown_within reads.is.0) (λ same. inl (none ∙ reads.is.1 ∙ ap value (reads.stays.store.stays same)))

  pub left_value : (ended : Ended) (lacks : Left) (in_image : Option V) → S s → S s' → in_image ≡ None
      → Lacks lacks → unread_in lacks ≡ unread_of ended ∷ [] → ReadsValue value tries s s' (Err ended)
      → Captures S tries s s' [] (lacks ∷ []) (SameOrLeft Lacks (lacks ∷ []) in_image (value s.store))
  left_value ended lacks in_image from to none lacks_it unread reads = record {
    more = lacks ∷ [];
    grows = refl;
    counts = counted_value S tries value lacks ended unread from to reads.is;
    fact = λ same. inr (none, any_of_one Lacks lacks lacks_it);
    told = one_told s s' lacks (told_unread s s' lacks (unread_of ended) unread);
    plain = λ p all. let never : Err ended ≡ Ok (value s.store) = (reads.plain p).0 in cc;
  }

-- the same, over any change
module _ {V : Type 0} (s s' : Seen) (value : Store → Option V) (Lacks : Left → Type 0) where
  pub value_while : {tries : ℕ} (o in_image : Option V) → in_image ≡ o → ReadsValue value tries s s' (Ok o)
      → OfHeld s s' (λ store. SameOrLeft Lacks [] in_image (value store))
  value_while o in_image has reads = (s'.store, held_at_last s s', inl (has ∙ reads.is.1))

  pub left_while : (lacks : Left) (in_image : Option V) → in_image ≡ None → Lacks lacks
      → OfHeld s s' (λ store. SameOrLeft Lacks (lacks ∷ []) in_image (value store))
  left_while lacks in_image none lacks_it = (s'.store, held_at_last s s', inr (none, any_of_one Lacks lacks lacks_it))

pub read_again : (lun number : ℕ) (reading : Reading) (old new : Store)
    → reading_of lun number old ≡ None → new ≡ with_reading lun number reading old
    → reading_of lun number new ≡ Some reading
read_again lun number reading old new none is =
    ap (reading_of lun number) is
    ∙ reading_in-snoc old.readings (record { lun = lun; number = number; reading = reading }) lun number
    ∙ rw none (grind (arith, nat_tests))

pub has_read : (lun number : ℕ) (reading : Reading) (old new : Store)
    → reading_of lun number old ≡ None → new ≡ with_reading lun number reading old
    → HasRead lun number (reading_of lun number new) old new
has_read lun number reading old new none is = rw (read_again lun number reading old new none is) is

pub came_reading : {S : Seen → Type 0} {tries : ℕ} {s s' : Seen} (lun number : ℕ) (reading : Reading)
    (old new : Store) → reading_of lun number old ≡ None
    → new ≡ with_reading lun number reading old
    → ReadsValue (reading_of lun number) tries s s' (Ok (Some reading))
    → Captures S tries s s' [] [] (ReadingOrLeft [] new s.store (lun, number))
came_reading lun number reading old new none is reads =
    came_value (reading_of lun number) (LacksReading lun number) reading (reading_of lun number new) (read_again lun number reading old new none is) reads

pub reading_while : {tries : ℕ} {s s' : Seen} (lun number : ℕ) (reading : Reading) (old new : Store)
    → reading_of lun number old ≡ None → new ≡ with_reading lun number reading old
    → ReadsValue (reading_of lun number) tries s s' (Ok (Some reading))
    → OfHeld s s' (λ store. ReadingOrLeft [] new store (lun, number))
reading_while lun number reading old new none is reads =
    value_while _ _ (reading_of lun number) (LacksReading lun number) (Some reading) (reading_of lun number new) (read_again lun number reading old new none is) reads

pub kept_again : (id : ℕ) (bytes : List ℕ) (old new : Store) → inventory_of id old ≡ None
    → new ≡ with_inventory id bytes old → inventory_of id new ≡ Some bytes
kept_again id bytes old new none is =
    ap (inventory_of id) is
    ∙ inventory_in-snoc old.inventories (record { id = id; bytes = bytes }) id
    ∙ rw none (grind (arith, nat_tests))

pub has_inventory : (id : ℕ) (bytes : List ℕ) (old new : Store) → inventory_of id old ≡ None
    → new ≡ with_inventory id bytes old → HasInventory id (inventory_of id new) old new
has_inventory id bytes old new none is = rw (kept_again id bytes old new none is) is

-- it did not change while it was read
all_there : {S : Seen → Type 0} {tries : ℕ} {s s' : Seen} {bytes : List ℕ} (id : ℕ)
    → ReadsRetryingParts S id tries s s' (Ok bytes) → Keeps (inventory_of id) s s' → inventory_of id s.store ≡ Some bytes
all_there id reads keeps = sym (reads.kept keeps) ∙ (reads.is keeps).1

-- its parts and the troubles after the last of them
grown_read : {S : Seen → Type 0} {tries : ℕ} {s s' : Seen} {bytes : List ℕ} (id : ℕ)
    → ReadsRetryingParts S id tries s s' (Ok bytes) → CountsGrow s s'
grown_read id reads = grown_then (grown_parts reads.is_last) (grown_within reads.counts.0)

pub came_inventory : {S : Seen → Type 0} {tries : ℕ} {s s' : Seen} (id : ℕ) (bytes : List ℕ) (old new : Store)
    → inventory_of id old ≡ None → new ≡ with_inventory id bytes old
    → ReadsRetryingParts S id tries s s' (Ok bytes)
    → Captures S tries s s' [] [] (InventoryOrLeft [] new s.store id)
came_inventory {s = s} {s' = s'} id bytes old new none is reads = nothing_left [] (grown_read id reads) (λ same.
    inl (kept_again id bytes old new none is ∙ sym (all_there id reads (keeps_same (inventory_of id) s s' reads.stays.store same))))

-- the inventory did not change while it was read
pub inventory_while : {S : Seen → Type 0} {tries : ℕ} {s s' : Seen} (id : ℕ) (bytes : List ℕ) (old new : Store)
    → inventory_of id old ≡ None → new ≡ with_inventory id bytes old
    → ReadsRetryingParts S id tries s s' (Ok bytes)
    → Keeps (inventory_of id) s s' → InventoryOrLeft [] new s.store id
inventory_while id bytes old new none is reads keeps = inl (kept_again id bytes old new none is ∙ sym (all_there id reads keeps))

-- an inventory without bytes is not put into the image
pub empty_while : (s s' : Seen) (id : ℕ) (image : Store) → inventory_of id image ≡ None
    → Keeps (inventory_of id) s s' → InventoryOrLeft (Left.Empty id ∷ []) image s.store id
empty_while s s' id image none keeps = inr (none, any_of_one (LacksInventory id) (Left.Empty id) refl)

pub came_empty : {S : Seen → Type 0} {tries : ℕ} {s s' : Seen} (id : ℕ) (bytes : List ℕ) (image : Store)
    → inventory_of id image ≡ None → bytes ≡ [] → ReadsRetryingParts S id tries s s' (Ok bytes)
    → Captures S tries s s' [] (Left.Empty id ∷ []) (InventoryOrLeft (Left.Empty id ∷ []) image s.store id)
came_empty {S = S} {tries = tries} {s = s} {s' = s'} id bytes image none no_bytes reads = record {
  more = Left.Empty id ∷ [];
  grows = refl;
  counts = counted_nothing S tries (Left.Empty id) refl (grown_read id reads);
  fact = λ same. inr (none, any_of_one (LacksInventory id) (Left.Empty id) refl);
  told = one_told s s' (Left.Empty id) ((s'.store, held_at_last s s', reads.counts.1), empty);
  plain = λ p all. All-cons (PlainLeaves s.store) (Left.Empty id) [] (empty (keeps_same (inventory_of id) s s' reads.stays.store (reads.stays.plain_store p))) (All-nil (PlainLeaves s.store));
}
  where
    empty : Keeps (inventory_of id) s s' → inventory_of id s.store ≡ Some []
    empty keeps = all_there id reads keeps ∙ ap Some no_bytes

-- an inventory that was not read is left out, unless there is none
module _ (S : Seen → Type 0) {tries : ℕ} {s s' s'' : Seen} (id : ℕ) (ended : FruEnded) (image : Store)
    (none : inventory_of id image ≡ None) (reads : ReadsRetryingParts S id tries s s' (Err ended))
    (later : StaysHonest s' s'') (after : CountsGrow s' s'') where
  -- CBh was answered, and the store has no such inventory
  absent : ended ≡ FruEnded.Refused not_present → CountsGrow s s'
      × (Keeps (inventory_of id) s s'' → inventory_of id s.store ≡ None)
  absent is = (
    grown_then (grown_parts reads.is_last) (grown_within (within (rw is at reads.counts))),
    λ keeps.
        let first = keeps_first (inventory_of id) s s' s'' reads.stays.store later.store keeps in
        sym (reads.kept first) ∙ lacks (rw is at (reads.is first)),
  )
    where
      within : InventoryCounts id tries reads.last s' (Err (FruEnded.Refused not_present)) → WithinTries tries reads.last s'
      within counts = counts.0

      lacks : InventoryIs id tries reads.last s' (Err (FruEnded.Refused not_present)) → inventory_of id reads.last.store ≡ None
      lacks is = is.1

  -- it was refused or given up
  left_unread : (lacks : Left) → LacksInventory id lacks → IsNotPlain ended → IsTrueWhile s s'' lacks
      → AreCounted S tries (lacks ∷ []) s s''
      → Captures S tries s s'' [] (lacks ∷ []) (InventoryOrLeft (lacks ∷ []) image s.store id)
  left_unread lacks of_id not_plain is_true counts = record {
    more = lacks ∷ [];
    grows = refl;
    counts = counts;
    fact = λ same. inr (none, any_of_one (LacksInventory id) lacks of_id);
    told = one_told s s'' lacks is_true;
    plain = λ p all. absurd (not_plain (reads.plain p).0);
  }

  told_ended : (from to : Seen) (i : ℕ) (e : FruEnded) → IsNotPlain e → InventoryCounts id tries from to (Err e)
      → IsTrueWhile s s'' (Left.Inventory i e)
  told_ended from to i FruEnded.Memory not counts = absurd (not tt)
  told_ended from to i FruEnded.GaveUp not counts = tt
  told_ended from to i (FruEnded.Refused code) not counts = tt
  told_ended from to i FruEnded.Stalled not counts = absurd counts
  told_ended from to i FruEnded.Words not counts = absurd counts

  -- an inventory that is absent, and did not change, is not cut off
  never_cut : ended ≡ FruEnded.Refused not_present → IsSome (inventory_of id s''.store)
      → Keeps (inventory_of id) s s'' → ⊥
  never_cut is there keeps = no_some (inventory_of id s''.store) there (keeps.0 ∙ (absent is).1 keeps)

  -- CBh was answered, and the store had no such inventory then
  gone_then : ended ≡ FruEnded.Refused not_present → inventory_of id s'.store ≡ None
  gone_then is = none_then (rw is at reads.counts)
    where
      none_then : InventoryCounts id tries reads.last s' (Err (FruEnded.Refused not_present)) → inventory_of id s'.store ≡ None
      none_then counts = counts.1

  left_cut : ended ≡ FruEnded.Refused not_present → IsSome (inventory_of id s''.store)
      → Captures S tries s s'' [] (Left.CutOff id ∷ []) (InventoryOrLeft (Left.CutOff id ∷ []) image s.store id)
  left_cut is there = record {
    more = Left.CutOff id ∷ [];
    grows = refl;
    counts = counted_nothing S tries (Left.CutOff id) refl (grown_then (absent is).0 after);
    fact = λ same. inr (none, any_of_one (LacksInventory id) (Left.CutOff id) refl);
    told = one_told s s'' (Left.CutOff id) ((s''.store, held_at_last s s'', there), out);
    plain = λ p all.
        let all = stays_trans s s' s'' reads.stays later in
        absurd (never_cut is there (keeps_same (inventory_of id) s s'' all.store (all.plain_store p)));
  }
    where
      out : OfHeld s s'' (λ store. inventory_of id store ≡ None)
      out = (s'.store, held_in_first s s' s'' reads.stays.store later.store s'.store (held_at_last s s'), gone_then is)

  -- the parts that came before
  before : (lacks : Left) → AreCounted S tries (lacks ∷ []) reads.last s'' → AreCounted S tries (lacks ∷ []) s s''
  before lacks counts = counted_after S tries (lacks ∷ []) s'' (grown_parts reads.is_last) counts

  -- it isn't known whether there is one: its size was given up or refused
  left_unknown : (e : FruEnded) → IsNotPlain e → S s' → S s'' → ended ≡ FruEnded.Refused not_present
      → InventoryCounts id tries s' s'' (Err e) → (IsPlain s' → inventory_of id s'.store ≡ None → ⊥)
      → Captures S tries s s'' [] (Left.Inventory id e ∷ []) (InventoryOrLeft (Left.Inventory id e ∷ []) image s.store id)
  left_unknown e not to end is counts never = record {
    more = Left.Inventory id e ∷ [];
    grows = refl;
    counts = counted_after S tries (Left.Inventory id e ∷ []) s'' (absent is).0
        (counted_inventory S tries id id e to end not counts (grown_none s''));
    fact = λ same. inr (none, any_of_one (LacksInventory id) (Left.Inventory id e) refl);
    told = one_told s s'' (Left.Inventory id e) (told_ended s' s'' id e not counts);
    plain = λ p all. absurd (never (record { said = reads.stays.plain p; honest = reads.stays.honest }) (gone_then is));
  }

  left_one : (lacks : Left) → S s → S s' → S s'' → IsLeftBy id ended s'' lacks → IsLeftAgain ended tries s' s'' lacks
      → (IsPlain s' → inventory_of id s'.store ≡ None → ended ≡ FruEnded.Refused not_present → ⊥)
      → Captures S tries s s'' [] (lacks ∷ []) (InventoryOrLeft (lacks ∷ []) image s.store id)
  left_one (Left.Records shelf e) from to end left again never = absurd left
  left_one (Left.Info shelf unread) from to end left again never = absurd left
  left_one (Left.Reading lun number unread) from to end left again never = absurd left
  left_one (Left.Empty i) from to end left again never = absurd left
  left_one (Left.CutOff i) from to end left again never =
      subst (λ (x : ℕ). Captures S tries s s'' [] (Left.CutOff x ∷ []) (InventoryOrLeft (Left.CutOff x ∷ []) image s.store id)) (sym left.0)
      (left_cut left.1 (subst (λ (x : ℕ). IsSome (inventory_of x s''.store)) left.0 again))
  left_one (Left.Size i code) from to end left again never =
      left_unread (Left.Size i code) left.0 left.1 tt (before (Left.Size i code) (counted_size S tries i id code (last_state from reads.is_last) to end (rw left.2 at left.1) (rw left.2 at reads.counts) again))
  left_one (Left.Inventory i e) from to end left again never =
      subst (λ (x : ℕ). Captures S tries s s'' [] (Left.Inventory x e ∷ []) (InventoryOrLeft (Left.Inventory x e ∷ []) image s.store id)) (sym left.0)
      (elim left.2 [
        | inl same ↦
            let not : IsNotPlain ended = rw same at left.1 in
            subst (λ (x : FruEnded). Captures S tries s s'' [] (Left.Inventory id x ∷ []) (InventoryOrLeft (Left.Inventory id x ∷ []) image s.store id)) (sym same)
            (left_unread (Left.Inventory id ended) refl not (told_ended reads.last s' id ended not reads.counts) (before (Left.Inventory id ended) (counted_inventory S tries id id ended (last_state from reads.is_last) to not reads.counts after)))
        | inr other ↦
            left_unknown e left.1 to end other.0 (subst (λ (x : ℕ). InventoryCounts x tries s' s'' (Err e)) left.0 (again other.0)) (λ plain gone. never plain gone other.0)
      ])

pub left_inventory : (S : Seen → Type 0) {tries : ℕ} {s s' s'' : Seen} (id : ℕ) (ended : FruEnded)
    (result : Result (Option Left) AllocError) (image : Store) → S s → S s' → S s'' → inventory_of id image ≡ None
    → ReadsRetryingParts S id tries s s' (Err ended) → StaysHonest s' s'' → CountsGrow s' s''
    → IfOk result (λ o. MatchOption o ((ended ≡ FruEnded.Refused not_present) × IsAbsent s'') (IsLeftBy id ended s''))
    → IfOk result (λ o. IfSome o (IsLeftAgain ended tries s' s''))
    → (IsPlain s' → inventory_of id s'.store ≡ None → ended ≡ FruEnded.Refused not_present → result ≡ Ok None)
    → IfOk result (λ o. Captures S tries s s'' [] (option_to_list o)
    (InventoryOrLeft (option_to_list o) image s.store id))
left_inventory S id ended (Err e) image from to end none reads later after left again plain = tt
left_inventory S {s = s} {s' = s'} {s'' = s''} id ended (Ok None) image from to end none reads later after left again plain =
    let gone = absent S id ended image none reads later after left.0 in
    nothing_left [] (grown_then gone.0 after) (λ same. inl (none ∙ sym (gone.1 (keeps_same (inventory_of id) s s'' (stays_trans s s' s'' reads.stays later).store same))))
left_inventory S id ended (Ok (Some lacks)) image from to end none reads later after left again plain =
    left_one S id ended image none reads later after lacks from to end left again (λ is gone same. let never = plain is gone same in cc)

lacks_by : (id : ℕ) (ended : FruEnded) (seen : Seen) (l : Left) → IsLeftBy id ended seen l → LacksInventory id l
lacks_by id ended seen (Left.Records shelf e) left = absurd left
lacks_by id ended seen (Left.Info shelf unread) left = absurd left
lacks_by id ended seen (Left.Reading lun number unread) left = absurd left
lacks_by id ended seen (Left.Size i code) left = left.0
lacks_by id ended seen (Left.Empty i) left = absurd left
lacks_by id ended seen (Left.CutOff i) left = left.0
lacks_by id ended seen (Left.Inventory i e) left = left.0

-- it is left out, or there is none
pub left_inventory_while : {S : Seen → Type 0} {tries : ℕ} {s s' s'' : Seen} (id : ℕ) (ended : FruEnded)
    (result : Result (Option Left) AllocError) (image : Store) → inventory_of id image ≡ None
    → ReadsRetryingParts S id tries s s' (Err ended) → StaysHonest s' s''
    → IfOk result (λ o. MatchOption o ((ended ≡ FruEnded.Refused not_present) × IsAbsent s'') (IsLeftBy id ended s''))
    → IfOk result (λ o. Keeps (inventory_of id) s s'' → InventoryOrLeft (option_to_list o) image s.store id)
left_inventory_while id ended (Err e) image none reads later left = tt
left_inventory_while {S} {tries} {s} {s'} {s''} id ended (Ok None) image none reads later left = λ keeps.
    let first = keeps_first (inventory_of id) s s' s'' reads.stays.store later.store keeps in
    inl (none ∙ sym (sym (reads.kept first) ∙ lacks (rw left.0 at (reads.is first))))
  where
    lacks : InventoryIs id tries reads.last s' (Err (FruEnded.Refused not_present)) → inventory_of id reads.last.store ≡ None
    lacks is = is.1
left_inventory_while {s'' = s''} id ended (Ok (Some l)) image none reads later left = λ keeps.
    inr (none, any_of_one (LacksInventory id) l (lacks_by id ended s'' l left))

-- what an inventory that was not read leaves out
pub left_after : (id : ℕ) (ended : FruEnded) (seen : Seen) (result : Result (Option Left) AllocError)
    (image : Store) → inventory_of id image ≡ None
    → IfOk result (λ o. MatchOption o ((ended ≡ FruEnded.Refused not_present) × IsAbsent seen) (IsLeftBy id ended seen))
    → IfOk result (λ o. MatchOption o (NoneIsLeft (Err ended) seen (inventory_of id image))
    (λ l. IsLeftAfter id (Err ended) seen l × (inventory_of id image ≡ None)))
left_after id ended seen (Err e) image none left = tt
left_after id ended seen (Ok None) image none left = left
left_after id ended seen (Ok (Some l)) image none left = (left, none)

-- the item left out is of this device, and is not in the image
module _ (read : Result (Vec ℕ Global) FruEnded) (seen : Seen) (result : Result (Option Left) AllocError) (value : Option (List ℕ)) where
  pub lacks_after : (id : ℕ) → IfOk result (λ o. MatchOption o (NoneIsLeft (as_inventory read) seen value)
      (λ l. IsLeftAfter id (as_inventory read) seen l × (value ≡ None)))
      → IfOk result (λ o. IfSome o (λ l. LacksInventory id l × (value ≡ None)))
  lacks_after id left = by read result left
    where
      by : (r : Result (Vec ℕ Global) FruEnded) (out : Result (Option Left) AllocError)
          → IfOk out (λ o. MatchOption o (NoneIsLeft (as_inventory r) seen value)
          (λ l. IsLeftAfter id (as_inventory r) seen l × (value ≡ None)))
          → IfOk out (λ o. IfSome o (λ l. LacksInventory id l × (value ≡ None)))
      by r (Err e) left = tt
      by r (Ok None) left = tt
      by (Ok bytes) (Ok (Some l)) left = (subst (LacksInventory id) (sym left.0.0) refl, left.1)
      by (Err ended) (Ok (Some l)) left = (lacks_by id ended seen l left.0, left.1)

  -- nothing is left out, and the image lacks it: the last call said that it is absent
  pub absent_after : (id : ℕ) → IfOk result (λ o. MatchOption o (NoneIsLeft (as_inventory read) seen value)
      (λ l. IsLeftAfter id (as_inventory read) seen l × (value ≡ None)))
      → IfOk result (λ o. MatchOption o (value ≡ None → IsAbsent seen) (λ l. ⊤))
  absent_after id left = by read result left
    where
      by : (r : Result (Vec ℕ Global) FruEnded) (out : Result (Option Left) AllocError)
          → IfOk out (λ o. MatchOption o (NoneIsLeft (as_inventory r) seen value)
          (λ l. IsLeftAfter id (as_inventory r) seen l × (value ≡ None)))
          → IfOk out (λ o. MatchOption o (value ≡ None → IsAbsent seen) (λ l. ⊤))
      by r (Err e) left = tt
      by r (Ok (Some l)) left = tt
      by (Ok bytes) (Ok None) left = λ none. absurd (none-some bytes.items (sym none ∙ left))
      by (Err ended) (Ok None) left = λ none. left.1

-- ---- all phases

-- the fact still holds if more items are left out
abbrev pub Lasts : (Store → List Left → Type 0) → Type 0
Lasts Fact = (store : Store) (left more : List Left) → Fact store left → Fact store (left ++ more)

pub captures_with : {S : Seen → Type 0} {tries : ℕ} {s s' s'' : Seen} {left left' left'' : List Left}
    (First Second : Store → List Left → Type 0) → Lasts First → StaysHonest s s'
    → StaysHonest s' s'' → Captures S tries s s' left left' (First s.store left')
    → Captures S tries s' s'' left' left'' (Second s'.store left'')
    → Captures S tries s s'' left left'' (First s.store left'' × Second s.store left'')
captures_with {s = s} {left' = left'} {left'' = left''} First Second lasts before later first second =
    captures_then before later first second (λ store more grows a b. (
      subst (λ (l : List Left). First s.store l) (sym grows) (lasts s.store left' more a),
      subst (λ (x : Store). Second x left'') store b,
    ))
