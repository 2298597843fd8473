-- A part of an inventory from an honest controller.
use Rattle.std.proofs.Common.{◌≡◌, ℕ, suc, ◌+◌, ◌-◌, ◌*◌, ◌<◌, ◌≤◌, Bool, true, false, nat_eq, Option, None, Some, Result, Ok, Err, List, [], length, take, drop, slice_range, refl, sym, ap, subst, ◌∙◌, arith, unwrap_or, IsTrue, IsSome, ne_eqb, Vec}
use Rattle.std.specs.declared.alloc.Global.{Global}
use Rattle.std.proofs.lemmas.Bool.Decides.{nat_tests}
use Rattle.std.proofs.Math.Nat.{le-mul_of_pos_right, mul-add, mul-le-mul_left}
use Rattle.std.proofs.Math.Seq.{take-length}
use Rattle.ipmi_bus.specs.Prelude.{Code, CodeClass, SmallerPart, NotPresent, Refusal, FruEnded, Size, FruRetrieval, TriesFor, inventory_of, class_of, Seen, IsCall, IsQuiet, IsTroubled, IsFinished, IsRefused, StaysHonest, stays_trans, HasMet, CountFrom, NoneCame, ReadsInventory, ReadsRetryingParts, ReadsWithTries, read_call_bound, IsHonest, Keeps, CountsPiece, FailsWith, BytesAnswers, SameInventory, FruSince, FruEnds, FruNext, HasSize, InventoryCounts, InventoryIs, inventory_len, WithinTries, IsRefusedWith, digits}
use Rattle.ipmi_bus.specs.FruRetrieval.{calls_for_byte, troubles_after, IsOpenInventory, CountsTrouble, MakesSmaller, PartFails, TakesInventoryPart, HasRead, calls_left}
use Rattle.ipmi_bus.specs.Readers.{BroughtBytes}
use Rattle.ipmi_bus.specs.Seen.{stays_refl}
use Rattle.ipmi_bus.proofs.DigitLemmas.{digits_most}
use Rattle.ipmi_bus.proofs.HeldLemmas.{keeps_first, keeps_same}
use Rattle.ipmi_bus.proofs.PartLemmas.{take-with_piece, calm_piece, smaller_some}

module _ (S : Seen → Type 0) (old r : FruRetrieval) (s s' s'' : Seen) (asked got : ℕ)
    (len : length r.bytes.items ≡ length old.bytes.items)
    (front : take old.have r.bytes.items ≡ take old.have old.bytes.items)
    (since : FruSince S old s s') (open_ : IsOpenInventory old) (state : S s'') (brought : BroughtBytes s'')
    (gave : BytesAnswers old.id old.have asked (Ok got)
    (slice_range r.bytes.items old.have (old.have + asked)) s' s'') where
  all : StaysHonest s s''
  all = stays_trans s s' s'' since.stays gave.change.stays

  -- the inventory did not change
  abbrev Same : Type 0
  Same = Keeps (inventory_of old.id) s s''

  first : Same → Keeps (inventory_of old.id) s s'
  first same = keeps_first (inventory_of old.id) s s' s'' since.stays.store gave.change.stays.store same

  -- the inventory is the same as for the earlier parts
  whole_is : (same : Same) → gave.gives.0 ≡ (since.read (first same)).whole
  whole_is same =
      let here = sym same.0 ∙ gave.gives.1 in
      let before = (since.read (first same)).found in
      cc (here, before)

  calm : HasMet 0 s' s''
  calm = calm_piece _ s' s'' gave.gives.3

  -- the retrieval with the new bytes
  abbrev taken : FruRetrieval
  taken = record old { bytes = r.bytes; have = old.have + got; troubles = troubles_after old.tries_for old.troubles }

  read_more : Same → HasRead taken s
  read_more same =
      let before = since.read (first same) in
      let piece = gave.gives.2 in
      record {
        whole = before.whole;
        found = before.found;
        size = before.size ∙ sym len;
        bytes = take-with_piece old.have got asked old.bytes.items r.bytes.items before.whole piece.fits front before.bytes
            (piece.bytes ∙ ap (λ (l : List ℕ). take got (drop old.have l)) (whole_is same));
      }

  fresh_most : (flag : Bool) → CountsPiece flag s' s''
      → s''.fresh_troubles ≤ since.last.fresh_troubles + old.troubles
  fresh_most true counts = omega (arith, counts.fresh_troubles)
  fresh_most false counts = omega (arith, counts.fresh_troubles, since.fresh_most open_.more)

  fresh_more : Same → old.have + got < length r.bytes.items
      → s''.fresh_troubles ≡ since.last.fresh_troubles + old.troubles
  fresh_more same left =
      let size = (since.read (first same)).size in
      let whole = ap (length {A = ℕ}) (whole_is same) in
      let flag : nat_eq (old.have + got) (length gave.gives.0) ≡ false = ne_eqb _ _ (λ (e : old.have + got ≡ length gave.gives.0). absurd (omega (arith, len))) in
      let quiet : IsQuiet s' s'' = subst (λ (b : Bool). CountsPiece b s' s'') flag gave.gives.3 in
      quiet.fresh_troubles ∙ since.fresh (first same) open_.more

  -- the troubles that count after this part
  record Counted (t : TriesFor) : Type 0 where
    last : Seen
    from : CountFrom t S old.tries s last s''
    met : HasMet (troubles_after t old.troubles) last s''
    most : s''.fresh_troubles ≤ last.fresh_troubles + troubles_after t old.troubles
    fresh : Same → old.have + got < length r.bytes.items
        → s''.fresh_troubles ≡ last.fresh_troubles + troubles_after t old.troubles
    none : old.troubles ≡ 0 → troubles_after t old.troubles ≡ 0

  count_part : (t : TriesFor) → CountFrom t S old.tries s since.last s' → Counted t
  count_part TriesFor.Inventory from = record {
    last = since.last;
    from = from;
    met = search (arith, calm);
    most = fresh_most _ gave.gives.3;
    fresh = fresh_more;
    none = λ e. e;
  }
  count_part TriesFor.EachPart from = record {
    last = s'';
    from = record {
      first = all;
      later = stays_refl s'' all.honest;
      parts = suc from.parts;
      came = (since.last, from.came, state, brought, search (arith, calm, open_.begun.troubles));
      calls = 0;
      none = refl;
    };
    met = search arith;
    most = omega arith;
    fresh = λ same left. omega arith;
    none = λ e. refl;
  }

  part_taken : FruSince S taken s s''
  part_taken =
      let counted = count_part old.tries_for since.counted in
      record {
        stays = all;
        last = counted.last;
        counted = counted.from;
        read = read_more;
        met = counted.met;
        fresh_most = λ left. counted.most;
        found = λ all. subst IsSome (sym gave.gives.1) refl;
        fresh = counted.fresh;
        plain = λ p.
            let before = since.plain p in
            let now = since.stays.plain p in
            (counted.none before.0, record { sdr = gave.sdr.plain now ∙ before.1.sdr; sel = gave.sel.plain now ∙ before.1.sel });
      }

  -- the new bytes are accepted
  pub part_answers : (new : FruRetrieval) (result : Result (Unit {0}) FruEnded)
      → r ≡ record old { bytes = r.bytes } → TakesInventoryPart got r new result
      → FruNext S old new s s'' result
  part_answers new (Ok u) is takes = subst (λ (x : FruRetrieval). FruSince S x s s'') (sym takes.1)
      (subst (λ (x : FruRetrieval). FruSince S (record x { have = x.have + got; troubles = troubles_after x.tries_for x.troubles }) s s'') (sym is) part_taken)
  part_answers new (Err ended) is takes = absurd (omega (arith, takes.0, gave.gives.2.some))

-- only CBh says that the item is absent
nat_eq-cbh : (code : ℕ) → class_of code ≡ NotPresent → nat_eq code 0xCB ≡ true
nat_eq-cbh code is = grind (arith, nat_tests)

nat_eq-not_cbh : (code : ℕ) → class_of code ≡ Refusal → nat_eq code 0xCB ≡ false
nat_eq-not_cbh code is = ne_eqb _ _ (λ (e : code ≡ 0xCB). let other = sym (ap class_of e) ∙ is in cc other)

-- an inventory that did not change was there when the troubles began to count
kept_at_last : (S : Seen → Type 0) (id tries : ℕ) (s last s' : Seen) (t : TriesFor) → CountFrom t S tries s last s'
    → Keeps (inventory_of id) s s' → inventory_of id last.store ≡ inventory_of id s.store
kept_at_last S id tries s last s' TriesFor.Inventory from same = rw from refl
kept_at_last S id tries s last s' TriesFor.EachPart from same = (keeps_first (inventory_of id) s last s' from.first.store from.later.store same).0

-- an honest controller failed a call for a part
module _ (S : Seen → Type 0) (old : FruRetrieval) (bytes : Vec ℕ Global) (s s' s'' : Seen) (asked : ℕ) (code : Code)
    (into : List ℕ) (items : bytes.items ≡ old.bytes.items) (open_ : IsOpenInventory old)
    (since : FruSince S old s s') (state : S s'') (called : s''.calls ≡ s'.calls + 1)
    (failed : s''.last_failure ≡ Some code.0)
    (gave : BytesAnswers old.id old.have asked (Err code) into s' s'') where
  stays : StaysHonest s s''
  stays = stays_trans s s' s'' since.stays gave.change.stays

  at_first : Keeps (inventory_of old.id) s s'' → Keeps (inventory_of old.id) s s'
  at_first same = keeps_first (inventory_of old.id) s s' s'' since.stays.store gave.change.stays.store same

  -- it brought no bytes
  none_came : BroughtBytes s'' → ⊥
  none_came brought = let none = brought.1 in cc (failed, none)

  -- troubles count from the same state as before
  from_last : (t : TriesFor) → CountFrom t S old.tries s since.last s' → CountFrom t S old.tries s since.last s''
  from_last TriesFor.Inventory from = from
  from_last TriesFor.EachPart from = record {
    first = from.first;
    later = stays_trans since.last s' s'' from.later gave.change.stays;
    parts = from.parts;
    came = from.came;
    calls = suc from.calls;
    none = (s', from.none, state, called, none_came);
  }

  still : CountFrom old.tries_for S old.tries s since.last s''
  still = from_last old.tries_for since.counted

  -- a plain controller gives what it has, so this one is not plain
  not_plain : IsTrue s.plain → ⊥
  not_plain p =
      let same = since.stays.plain_store p in
      let read = since.read (keeps_same (inventory_of old.id) s s' since.stays.store same) in
      let found : inventory_of old.id s'.store ≡ Some read.whole = ap (inventory_of old.id) (since.stays.store.stays same) ∙ read.found in
      let plain = rw found at (gave.plain (since.stays.plain p)) in
      cc (plain (omega (arith, open_.more, read.size)))

  -- the call is to be repeated
  since_failed : (part troubles k : ℕ) → troubles ≡ old.troubles + k
      → s''.troubles ≡ s'.troubles + k → s''.fresh_troubles ≡ s'.fresh_troubles + k
      → s''.refusals ≡ s'.refusals → s''.last_code ≡ s'.last_code
      → FruSince S (record old { bytes = bytes; part = part; troubles = troubles }) s s''
  since_failed part troubles k now counted fresh refusals last_code =
      let len = ap (length {A = ℕ}) items in
      record {
        stays = stays;
        last = since.last;
        counted = still;
        read = λ same. let before = since.read (at_first same) in
            record { whole = before.whole; found = before.found; size = before.size ∙ sym len; bytes = ap (take old.have) items ∙ before.bytes };
        met = search arith;
        fresh_most = λ left. omega (arith, since.fresh_most open_.more);
        found = λ all. absurd (omega (arith, open_.more));
        fresh = λ same left. omega (arith, since.fresh (at_first same) open_.more);
        plain = λ p. absurd (not_plain p);
      }

  given_up : IsTroubled s' s'' → old.troubles ≡ old.tries
      → FruEnds old.id old.tries s since.last s'' FruEnded.GaveUp
  given_up troubled all = record {
    stays = stays;
    counts = search (arith, since.fresh_most open_.more);
    is = λ same. search (arith, since.fresh (at_first same) open_.more);
    plain = λ p. absurd (not_plain p);
  }

  trouble_answers : (new : FruRetrieval) (result : Result (Unit {0}) FruEnded) → IsTroubled s' s''
      → CountsTrouble (record old { bytes = bytes }) new result → FruNext S old new s s'' result
  trouble_answers new (Ok u) troubled counts = rw counts.0 (since_failed old.part (old.troubles + 1) 1 refl troubled.troubles troubled.fresh_troubles troubled.refusals troubled.last_code)
  trouble_answers new (Err ended) troubled counts = rw counts.0 (since.last, still, given_up troubled counts.2)

  smaller_answers : (new : FruRetrieval) (result : Result (Unit {0}) FruEnded) → 1 < asked
      → IsQuiet s' s'' → MakesSmaller asked (record old { bytes = bytes }) new result
      → FruNext S old new s s'' result
  smaller_answers new (Ok u) more quiet does = subst (λ (x : FruRetrieval). FruSince S x s s'') (sym does.1)
      (since_failed new.part old.troubles 0 (omega arith) (omega (arith, quiet.troubles)) (omega (arith, quiet.fresh_troubles)) quiet.refusals quiet.last_code)
  smaller_answers new (Err ended) more quiet does = absurd (smaller_some asked more does.1)

  absent : class_of code.0 ≡ NotPresent → inventory_of old.id s''.store ≡ None → IsFinished s' s''
      → FruEnds old.id old.tries s since.last s'' (FruEnded.Refused code)
  absent class none finished =
      let within : WithinTries old.tries since.last s'' = search arith in
      record {
        stays = stays;
        counts = rw (nat_eq-cbh code.0 class) (within, none);
        is = λ same. rw (nat_eq-cbh code.0 class) (within, kept_at_last S old.id old.tries s since.last s'' old.tries_for still same ∙ sym same.0 ∙ none);
        plain = λ p. absurd (not_plain p);
      }

  refused : class_of code.0 ≡ Refusal → IsRefused code.0 s' s''
      → FruEnds old.id old.tries s since.last s'' (FruEnded.Refused code)
  refused class refuses =
      let with_code : IsRefusedWith old.tries code.0 since.last s'' = search arith in
      record {
        stays = stays;
        counts = rw (nat_eq-not_cbh code.0 class) with_code;
        is = λ same. rw (nat_eq-not_cbh code.0 class) with_code;
        plain = λ p. absurd (not_plain p);
      }

  part_by_class : (class : CodeClass) (new : FruRetrieval) (result : Result (Unit {0}) FruEnded)
      → class_of code.0 ≡ class → FailsWith (1 < asked) (inventory_of old.id s''.store ≡ None) class
      code.0 s' s''
      → PartFails class code asked (record old { bytes = bytes }) new result
      → FruNext S old new s s'' result
  part_by_class SmallerPart new result class fails does = smaller_answers new result fails.0 fails.1 does
  part_by_class NotPresent new result class fails does = rw does.0 (since.last, still, absent class fails.0 fails.1)
  part_by_class Refusal new result class refuses does = rw does.0 (since.last, still, refused class refuses)
  part_by_class _ new result class troubled does = trouble_answers new result troubled does

  pub part_failed : (r new : FruRetrieval) (result : Result (Unit {0}) FruEnded)
      → r ≡ record old { bytes = bytes } → PartFails (class_of code.0) code asked r new result
      → FruNext S old new s s'' result
  part_failed r new result is fails =
      part_by_class (class_of code.0) new result refl gave.gives (subst (λ (x : FruRetrieval). PartFails (class_of code.0) code asked x new result) is fails)

pub same_trans : (a b c : FruRetrieval) → SameInventory a b → SameInventory b c → SameInventory a c
same_trans a b c p q = record { id = q.id ∙ p.id; tries = q.tries ∙ p.tries; tries_for = q.tries_for ∙ p.tries_for; size = q.size ∙ p.size; part = omega (arith, p.part, q.part); some = q.some; fits = q.fits; have = q.have; troubles = q.troubles }

-- ---- reading the whole inventory

-- one more call for the size
pub none_more : (S : Seen → Type 0) (s s' s'' : Seen) → (calls : ℕ) × NoneCame S calls s s' → S s'' → IsCall 0 s' s''
    → (calls : ℕ) × NoneCame S calls s s''
none_more S s s' s'' none state called =
    (suc none.0, (s', none.1, state, called.calls, λ brought. omega (arith, brought.0, called.last_asked)))

-- troubles count from the first state while the size is asked for
count_first : (S : Seen → Type 0) (tries : ℕ) (s s' : Seen) → StaysHonest s s' → (calls : ℕ) × NoneCame S calls s s'
    → IsHonest s → (t : TriesFor) → CountFrom t S tries s s s'
count_first S tries s s' kept asked honest TriesFor.Inventory = refl
count_first S tries s s' kept asked honest TriesFor.EachPart = record {
  first = stays_refl s honest;
  later = kept;
  parts = 0;
  came = refl;
  calls = asked.0;
  none = asked.1;
}

-- the calls for the size
first_calls : (t : TriesFor) (tries len : ℕ) → tries + 1 ≤ read_call_bound t tries len
first_calls TriesFor.Inventory tries len = omega arith
first_calls TriesFor.EachPart tries len =
    let most : tries + 1 ≤ (tries + 1) * (len + 1) = le-mul_of_pos_right (tries + 1) (omega arith) in omega (arith, most)

-- and those after it
pub all_calls : (t : TriesFor) (tries len most troubles part before after : ℕ) → troubles ≤ tries → len ≤ most
    → after + 1 ≤ before + troubles + 1 + ((tries - troubles) + calls_for_byte t tries * len + digits part)
    → after ≤ before + read_call_bound t tries most
all_calls TriesFor.Inventory tries len most troubles part before after few fits made = omega (arith, made, few, fits, digits_most part)
all_calls TriesFor.EachPart tries len most troubles part before after few fits made =
    let split : (tries + 1) * (most + 1) ≡ (tries + 1) * most + (tries + 1) * 1 = mul-add (tries + 1) most 1 in
    let more : (tries + 1) * len ≤ (tries + 1) * most = mul-le-mul_left (tries + 1) fits in
    omega (arith, made, few, split, more, digits_most part)

-- the size was not told
pub size_failed : (S : Seen → Type 0) (id tries : ℕ) (t : TriesFor) (s s' : Seen) (ended : FruEnded)
    → FruEnds id tries s s s' ended → (calls : ℕ) × NoneCame S calls s s' → IsHonest s → s'.calls ≤ s.calls + tries + 1
    → ReadsWithTries t S id tries s s' (Err ended)
size_failed S id tries t s s' ended ends none honest few = record {
  stays = ends.stays;
  last = s;
  counted = count_first S tries s s' ends.stays none honest t;
  counts = ends.counts;
  is = ends.is;
  calls = λ same. omega (arith, few, first_calls t tries (inventory_len id s.store));
  plain = ends.plain;
}

-- the read of the whole inventory, and of each part
pub reads_inventory : (S : Seen → Type 0) (id tries : ℕ) (s s' : Seen) (result : Result (List ℕ) FruEnded)
    → ReadsWithTries TriesFor.Inventory S id tries s s' result → ReadsInventory id tries s s' result
reads_inventory S id tries s s' result reads = record {
  stays = reads.stays;
  counts = subst (λ (x : Seen). InventoryCounts id tries x s' result) reads.counted reads.counts;
  is = λ same. subst (λ (x : Seen). InventoryIs id tries x s' result) reads.counted (reads.is same);
  calls = reads.calls;
  plain = reads.plain;
}

pub reads_parts : (S : Seen → Type 0) (id tries : ℕ) (s s' : Seen) (result : Result (List ℕ) FruEnded)
    → ReadsWithTries TriesFor.EachPart S id tries s s' result → ReadsRetryingParts S id tries s s' result
reads_parts S id tries s s' result reads = record {
  stays = reads.stays;
  last = reads.last;
  is_last = reads.counted;
  counts = reads.counts;
  kept = kept_at_last S id tries s reads.last s' TriesFor.EachPart reads.counted;
  is = reads.is;
  calls = reads.calls;
  plain = reads.plain;
}

-- there is no memory for it
pub memory_failed : (S : Seen → Type 0) (id tries : ℕ) (tries_for : TriesFor) (size : Size) (s s' : Seen)
    → HasSize id size s s' → (calls : ℕ) × NoneCame S calls s s' → IsHonest s → size.troubles ≤ tries
    → s'.calls ≡ s.calls + size.troubles + 1
    → ReadsWithTries tries_for S id tries s s' (Err FruEnded.Memory)
memory_failed S id tries tries_for size s s' has asked honest few called =
    let within : WithinTries tries s s' = search (arith, has.met) in
    record {
      stays = has.stays;
      last = s;
      counted = count_first S tries s s' has.stays asked honest tries_for;
      counts = (within, subst IsSome (sym has.found.1) refl);
      is = λ same. (within, subst IsSome (sym (sym same.0 ∙ has.found.1)) refl);
      calls = λ same. omega (arith, called, few, first_calls tries_for tries (inventory_len id s.store));
      plain = λ p. (tt, (has.plain p).1);
    }

-- the size is known, and no bytes are read yet
module _ (S : Seen → Type 0) (id part tries : ℕ) (tries_for : TriesFor) (size : Size) (bytes : Vec ℕ Global) (s s' : Seen)
    (has : HasSize id size s s') (asked : (calls : ℕ) × NoneCame S calls s s') (honest : IsHonest s)
    (len : length bytes.items ≡ size.bytes) where
  abbrev begun : FruRetrieval
  begun = record { id = id; part = part; tries = tries; tries_for = tries_for; troubles = size.troubles; have = 0; bytes = bytes }

  found_at_first : Keeps (inventory_of id) s s' → inventory_of id s.store ≡ Some has.found.0
  found_at_first same = sym same.0 ∙ has.found.1

  pub since_size : FruSince S begun s s'
  since_size = record {
    stays = has.stays;
    last = s;
    counted = count_first S tries s s' has.stays asked honest tries_for;
    read = λ same. record { whole = has.found.0; found = found_at_first same; size = has.found.2 ∙ sym len; bytes = refl };
    met = has.met;
    fresh_most = λ more. omega (arith, has.fresh_troubles (omega (arith, len)));
    found = λ all. subst IsSome (sym has.found.1) refl;
    fresh = λ same more. has.fresh_troubles (omega (arith, len));
    plain = has.plain;
  }

  pub bound_is : (s'' : Seen) → StaysHonest s' s'' → size.troubles ≤ tries
      → s'.calls ≡ s.calls + size.troubles + 1 → s''.calls + 1 ≤ s'.calls + calls_left begun
      → Keeps (inventory_of id) s s''
      → s''.calls ≤ s.calls + read_call_bound tries_for tries (inventory_len id s.store)
  bound_is s'' later few called made same =
      let first = found_at_first (keeps_first (inventory_of id) s s' s'' has.stays.store later.store same) in
      let size_is : inventory_len id s.store ≡ length has.found.0 = ap (λ (o : Option (List ℕ)). length (unwrap_or o [])) first in
      all_calls tries_for tries (length bytes.items - 0) (inventory_len id s.store) size.troubles part s.calls s''.calls few
      (omega (arith, len, has.found.2, size_is)) (omega (arith, called, made))

-- all bytes are read
module _ (S : Seen → Type 0) (id tries : ℕ) (tries_for : TriesFor) (s s' : Seen) (r : FruRetrieval) (since : FruSince S r s s')
    (id_is : r.id ≡ id) (tries_are : r.tries ≡ tries) (tries_for_is : r.tries_for ≡ tries_for) (few : r.troubles ≤ r.tries)
    (all : r.have ≡ length r.bytes.items) where
  -- there were at most as many troubles as tries
  within_tries : WithinTries tries since.last s'
  within_tries = search arith

  counted_from : CountFrom tries_for S tries s since.last s'
  counted_from = rw (← tries_for_is, ← tries_are) since.counted

  inventory_counted : InventoryCounts id tries since.last s' (Ok r.bytes.items)
  inventory_counted = (within_tries, subst (λ (n : ℕ). IsSome (inventory_of n s'.store)) id_is (since.found all))

  inventory_read : Keeps (inventory_of id) s s' → InventoryIs id tries since.last s' (Ok r.bytes.items)
  inventory_read same =
      let read = since.read (subst (λ (n : ℕ). Keeps (inventory_of n) s s') (sym id_is) same) in
      let bytes : r.bytes.items ≡ read.whole =
      sym (take-length r.bytes.items) ∙ rw (sym all) (read.bytes ∙ rw (all ∙ sym read.size) (take-length read.whole)) in
      let kept = kept_at_last S id tries s since.last s' tries_for counted_from same in
      (within_tries, kept ∙ rw (sym id_is) (read.found ∙ ap Some (sym bytes)))

  pub all_read : (Keeps (inventory_of id) s s' → s'.calls ≤ s.calls + read_call_bound tries_for tries (inventory_len id s.store))
      → ReadsWithTries tries_for S id tries s s' (Ok r.bytes.items)
  all_read few_calls = record {
    stays = since.stays;
    last = since.last;
    counted = counted_from;
    counts = inventory_counted;
    is = inventory_read;
    calls = few_calls;
    plain = λ p. (tt, (since.plain p).1);
  }
