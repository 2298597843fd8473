-- The state of a management controller that contracts see, and which controllers are honest and
-- plain.
use Rattle.std.proofs.Common.{◌∙◌, ap, arith, sym}
use Rattle.std.proofs.lemmas.List.{drop-drop}
use Rattle.std.specs.Prelude.{◌≡◌, ℕ, ◌+◌, ◌-◌, ◌<◌, ◌≤◌, max, Bool, IsTrue, Option, None, Some, Result, Ok, Err, List, ◌∷◌, drop, take, refl}
use Rattle.ipmi_bus.specs.Types.{Code, Sdr, Sel, Shelf}
use Rattle.ipmi_bus.specs.Shelf.{KeepsRows}
use Rattle.ipmi_bus.specs.Store.{Store, IsStore, rows_of}

-- `store` is what the controller holds. When its contents change, a store is added: it replaces
-- `store`, and the one that it replaces becomes the first of `earlier`. The counters have no upper
-- limit. `most_asked` is the largest part asked for, in bytes; `last_asked` is that of the last call,
-- 0 if it was not for a part; `last_failure` is its code, if it failed. Fresh troubles are those since
-- something was finished. `last_code` is the code of the last refusal. A refusal to read ahead is not
-- counted as one.
pub record Seen : Type 0 where
  pub store : Store
  pub earlier : List Store
  pub honest : Bool
  pub plain : Bool
  pub sdr_reservation : Option ℕ
  pub sel_reservation : Option ℕ
  pub calls : ℕ
  pub most_asked : ℕ
  pub last_asked : ℕ
  pub last_failure : Option ℕ
  pub troubles : ℕ
  pub fresh_troubles : ℕ
  pub refusals : ℕ
  pub last_code : ℕ
  pub stores_added : ℕ

-- the shelf's current reservation
abbrev pub current : Shelf → Seen → Option ℕ
current Sdr seen = seen.sdr_reservation
current Sel seen = seen.sel_reservation

-- it claims to be honest, and its store is well formed: the premise of all statements about its
-- answers
pub record IsHonest (seen : Seen) : Type 0 where
  pub said : IsTrue seen.honest
  pub store : IsStore seen.store

-- an honest controller that claims to be plain: the definition of each answer says what it must
-- answer, and it adds no store
pub record IsPlain (seen : Seen) : Type 0 where
  pub said : IsTrue seen.plain
  pub honest : IsHonest seen

-- A state that a controller of this type has. Code that works with any such type meets no other states than those of its run.
abbrev pub IsStateOf : {C : Type 0} → (C → Seen) → Seen → Type 0
IsStateOf {C} seen s = (ctl : C) × (seen ctl ≡ s)

-- ---- what each call counts, for any controller

-- the code with which a call failed, if it did
abbrev pub failing_code : {T : Type 0} → Result T Code → Option ℕ
failing_code (Ok answer) = None
failing_code (Err code) = Some code.0

-- a call for a part of `asked` bytes, 0 if it was not for a part
pub record IsCall (asked : ℕ) (old new : Seen) : Type 0 where
  pub calls : new.calls ≡ old.calls + 1
  pub most_asked : new.most_asked ≡ max old.most_asked asked
  pub last_asked : new.last_asked ≡ asked

-- no part of more than `part` bytes was asked for
abbrev pub AsksAtMost : ℕ → Seen → Seen → Type 0
AsksAtMost part old new = new.most_asked ≤ max old.most_asked part

-- ---- what an answer counts, in addition to the call

pub record IsQuiet (old new : Seen) : Type 0 where
  pub troubles : new.troubles ≡ old.troubles
  pub fresh_troubles : new.fresh_troubles ≡ old.fresh_troubles
  pub refusals : new.refusals ≡ old.refusals
  pub last_code : new.last_code ≡ old.last_code

pub record IsTroubled (old new : Seen) : Type 0 where
  pub troubles : new.troubles ≡ old.troubles + 1
  pub fresh_troubles : new.fresh_troubles ≡ old.fresh_troubles + 1
  pub refusals : new.refusals ≡ old.refusals
  pub last_code : new.last_code ≡ old.last_code

pub record IsFinished (old new : Seen) : Type 0 where
  pub troubles : new.troubles ≡ old.troubles
  pub fresh_troubles : new.fresh_troubles ≡ 0
  pub refusals : new.refusals ≡ old.refusals
  pub last_code : new.last_code ≡ old.last_code

pub record IsRefused (code : ℕ) (old new : Seen) : Type 0 where
  pub troubles : new.troubles ≡ old.troubles
  pub fresh_troubles : new.fresh_troubles ≡ old.fresh_troubles
  pub refusals : new.refusals ≡ old.refusals + 1
  pub last_code : new.last_code ≡ code

-- ---- what does not change

-- the stores that the controller has held, the present one first
abbrev pub held : Seen → List Store
held seen = seen.store ∷ seen.earlier

-- the stores that it held at the first state, at the second and between them, the latest first
abbrev pub held_over : Seen → Seen → List Store
held_over old new = new.store ∷ take (new.stores_added - old.stores_added) new.earlier

-- the store is unchanged unless a store is added; no store that it held before is forgotten
pub record KeepsStore (old new : Seen) : Type 0 where
  pub grows : old.stores_added ≤ new.stores_added
  pub stays : new.stores_added ≡ old.stores_added → new.store ≡ old.store
  pub past : drop (new.stores_added - old.stores_added) (held new) ≡ held old

-- an honest controller stays honest; a plain one stays plain and adds no store
pub record StaysHonest (old new : Seen) : Type 0 where
  pub honest : IsHonest new
  pub plain : IsTrue old.plain → IsTrue new.plain
  pub store : KeepsStore old new
  pub plain_store : IsTrue old.plain → new.stores_added ≡ old.stores_added

-- reflexive and transitive: it holds over no calls, and over two sequences of calls if it holds
-- over each
pub stays_refl : (s : Seen) → IsHonest s → StaysHonest s s
stays_refl s honest = record {
  honest = honest;
  plain = λ p. p;
  store = record {
    grows = omega arith;
    stays = λ same. refl;
    past = ap (λ (n : ℕ). drop n (held s)) {y = 0} (omega arith);
  };
  plain_store = λ p. refl;
}

pub stays_trans : (a b c : Seen) → StaysHonest a b → StaysHonest b c → StaysHonest a c
stays_trans a b c first then_ = record {
  honest = then_.honest;
  plain = λ p. then_.plain (first.plain p);
  store = record {
    grows = omega (arith, first.store.grows, then_.store.grows);
    stays = λ same. then_.store.stays (omega (arith, first.store.grows, then_.store.grows, same))
        ∙ first.store.stays (omega (arith, first.store.grows, then_.store.grows, same));
    past = ap (λ (n : ℕ). drop n (held c)) {y = c.stores_added - b.stores_added + (b.stores_added - a.stores_added)} (omega (arith, first.store.grows, then_.store.grows))
        ∙ sym (drop-drop (b.stores_added - a.stores_added) (c.stores_added - b.stores_added) (held c))
        ∙ ap (drop (b.stores_added - a.stores_added)) then_.store.past ∙ first.store.past;
  };
  plain_store = λ p. then_.plain_store (first.plain p) ∙ first.plain_store p;
}

-- what a call of an honest controller may change: it adds at most one store
pub record IsChange (old new : Seen) : Type 0 where
  pub stays : StaysHonest old new
  pub one : new.stores_added ≤ old.stores_added + 1

-- No reservation of the shelf becomes current. If a store is added, one stays current only if each id
-- still requests the same record (reservations: IPMI v2.0, sections 31.4 and 33.11). An honest
-- controller may cancel a reservation at any call; a plain one cancels none.
pub record MayLoseReservation (shelf : Shelf) (old new : Seen) : Type 0 where
  pub none_given : (r : ℕ) → current shelf new ≡ Some r → current shelf old ≡ Some r
  pub kept_over_change : old.stores_added < new.stores_added → (r : ℕ)
      → current shelf new ≡ Some r → KeepsRows (rows_of shelf old.store) (rows_of shelf new.store)
  pub plain : IsTrue old.plain → current shelf new ≡ current shelf old
