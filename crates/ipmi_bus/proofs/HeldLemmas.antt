-- What a controller held over two spans of time, and over each of them.
use Rattle.std.proofs.Common.{◌≡◌, ℕ, zero, suc, ◌+◌, ◌-◌, List, [], ◌∷◌, ◌++◌, ◌≤◌, inl, inr, length, take, drop, refl, sym, ap, subst, ◌∙◌, arith}
use Rattle.std.proofs.Math.Seq.{drop-nil}
use Rattle.ipmi_bus.specs.Prelude.{AllGive, BeginsWith, EachGrew, Grows, held_over, IsOneOf, Keeps, KeepsStore, OnlyGrew, Place, Row, rows_of, Seen, Shelf, Store, WasHeld}

-- ---- a list of stores, and the list that it had been earlier

-- the first n stores after x, if the list is y and f without its first m stores
split_at : (m k : ℕ) (x : Store) (e : List Store) (y : Store) (f : List Store) → drop m (x ∷ e) ≡ y ∷ f
    → (later : List Store) × (x ∷ take (m + k) e ≡ later ++ (y ∷ take k f)) × (x ∷ take m e ≡ later ++ (y ∷ []))
split_at zero k x e y f is =
    let first : x ≡ y = cc is in
    let rest : e ≡ f = cc is in
    let n : 0 + k ≡ k = omega arith in
    ([], rw (n, first, rest) refl, rw first refl)
split_at (suc m) k x [] y f is = let none = drop-nil {A = Store} m in cc (is, none)
split_at (suc m) k x (z ∷ e) y f is =
    let rest = split_at m k z e y f is in
    let n : suc m + k ≡ suc (m + k) = omega arith in
    (x ∷ rest.0, rw n (ap (λ (l : List Store). x ∷ l) rest.1), ap (λ (l : List Store). x ∷ l) rest.2)

-- what was held over both spans is what was held over the first one, after what was added in the second one
record Split (a b c : Seen) : Type 0 where
  later : List Store
  whole : held_over a c ≡ later ++ held_over a b
  second : held_over b c ≡ later ++ (b.store ∷ [])

split : (a b c : Seen) → KeepsStore a b → KeepsStore b c → Split a b c
split a b c first then_ =
    let n : c.stores_added - a.stores_added ≡ c.stores_added - b.stores_added + (b.stores_added - a.stores_added) = omega (arith, first.grows, then_.grows) in
    let parts = split_at (c.stores_added - b.stores_added) (b.stores_added - a.stores_added) c.store c.earlier b.store b.earlier then_.past in
    record { later = parts.0; whole = ap (λ (k : ℕ). c.store ∷ take k c.earlier) n ∙ parts.1; second = parts.2 }

-- the store at the first state is the last one of the list
held_first : (n : ℕ) (x : Store) (e : List Store) (y : Store) (f : List Store) → drop n (x ∷ e) ≡ y ∷ f
    → IsOneOf (x ∷ take n e) y
held_first zero x e y f is = inl (cc is)
held_first (suc n) x [] y f is = let none = drop-nil {A = Store} n in cc (is, none)
held_first (suc n) x (z ∷ e) y f is = inr (held_first n z e y f is)

-- ---- a store that was held

one_after : (later stores : List Store) (store : Store) → IsOneOf stores store → IsOneOf (later ++ stores) store
one_after [] stores store is = is
one_after (x ∷ later) stores store is = inr (one_after later stores store is)

one_before : (later : List Store) (y : Store) (stores : List Store) (store : Store) → IsOneOf (later ++ (y ∷ [])) store
    → IsOneOf (later ++ (y ∷ stores)) store
one_before [] y stores store (inl is) = inl is
one_before [] y stores store (inr none) = absurd none
one_before (x ∷ later) y stores store (inl is) = inl is
one_before (x ∷ later) y stores store (inr more) = inr (one_before later y stores store more)

module _ (a b c : Seen) (first : KeepsStore a b) (then_ : KeepsStore b c) where
  pub held_in_first : (store : Store) → WasHeld a b store → WasHeld a c store
  held_in_first store is = let s = split a b c first then_ in subst (λ (l : List Store). IsOneOf l store) (sym s.whole) (one_after s.later (held_over a b) store is)

  pub held_in_second : (store : Store) → WasHeld b c store → WasHeld a c store
  held_in_second store is =
      let s = split a b c first then_ in
      let at : IsOneOf (s.later ++ (b.store ∷ [])) store = subst (λ (l : List Store). IsOneOf l store) s.second is in
      subst (λ (l : List Store). IsOneOf l store) (sym s.whole) (one_before s.later b.store (take (b.stores_added - a.stores_added) b.earlier) store at)

pub held_at_last : (s s' : Seen) → WasHeld s s' s'.store
held_at_last s s' = inl refl

pub held_at_first : (s s' : Seen) → KeepsStore s s' → WasHeld s s' s.store
held_at_first s s' keeps = held_first (s'.stores_added - s.stores_added) s'.store s'.earlier s.store s.earlier keeps.past

-- ---- a part of the store that did not change

give_after : {V : Type 0} (of : Store → V) (value : V) (later stores : List Store) → AllGive of value (later ++ stores)
    → AllGive of value stores
give_after of value [] stores all = all
give_after of value (x ∷ later) stores all = give_after of value later stores all.1

give_before : {V : Type 0} (of : Store → V) (value : V) (later : List Store) (y : Store) (stores : List Store)
    → AllGive of value (later ++ (y ∷ stores)) → AllGive of (of y) (later ++ (y ∷ []))
give_before {V} of value later y stores all = by later all
  where
    here : (l : List Store) → AllGive of value (l ++ (y ∷ stores)) → of y ≡ value
    here [] all = all.0
    here (x ∷ l) all = here l all.1

    by : (l : List Store) → AllGive of value (l ++ (y ∷ stores)) → AllGive of (of y) (l ++ (y ∷ []))
    by [] all = (refl, tt)
    by (x ∷ l) all = (all.0 ∙ sym (here l all.1), by l all.1)

module _ {V : Type 0} (of : Store → V) (a b c : Seen) (first : KeepsStore a b) (then_ : KeepsStore b c) (all : Keeps of a c) where
  pub keeps_first : Keeps of a b
  keeps_first = let s = split a b c first then_ in give_after of (of a.store) s.later (held_over a b) (subst (λ (l : List Store). AllGive of (of a.store) l) s.whole all)

  pub keeps_second : Keeps of b c
  keeps_second =
      let s = split a b c first then_ in
      let at : AllGive of (of b.store) (s.later ++ (b.store ∷ [])) = give_before of (of a.store) s.later b.store (take (b.stores_added - a.stores_added) b.earlier) (subst (λ (l : List Store). AllGive of (of a.store) l) s.whole all) in
      subst (λ (l : List Store). AllGive of (of b.store) l) (sym s.second) at

-- and what is made of that part
pub keeps_through : {V W : Type 0} (of : Store → V) (through : V → W) (s s' : Seen) → Keeps of s s'
    → Keeps (λ store. through (of store)) s s'
keeps_through {V} {W} of through s s' keeps = by (held_over s s') keeps
  where
    by : (stores : List Store) → AllGive of (of s.store) stores → AllGive (λ store. through (of store)) (through (of s.store)) stores
    by [] all = tt
    by (x ∷ stores) all = (ap through all.0, by stores all.1)

pub keeps_same : {V : Type 0} (of : Store → V) (s s' : Seen) → KeepsStore s s' → s'.stores_added ≡ s.stores_added → Keeps of s s'
keeps_same of s s' keeps same =
    let n : s'.stores_added - s.stores_added ≡ 0 = omega (arith, same) in
    rw n (ap of (keeps.stays same), tt)

-- ---- lists that begin with the same records

pub begins_length : (a b : List Row) → BeginsWith a b → length a ≤ length b
begins_length [] b p = omega arith
begins_length (x ∷ a) [] p = absurd p
begins_length (x ∷ a) (y ∷ b) p = omega (arith, begins_length a b p.1)

pub begins_refl : (a : List Row) → BeginsWith a a
begins_refl [] = tt
begins_refl (x ∷ a) = (record { id = refl; bytes = refl }, begins_refl a)

pub begins_trans : (a b c : List Row) → BeginsWith a b → BeginsWith b c → BeginsWith a c
begins_trans [] b c p q = tt
begins_trans (x ∷ a) [] c p q = absurd p
begins_trans (x ∷ a) (y ∷ b) [] p q = absurd q
begins_trans (x ∷ a) (y ∷ b) (z ∷ c) p q = (
  record { id = q.0.id ∙ p.0.id; bytes = q.0.bytes ∙ p.0.bytes },
  begins_trans a b c p.1 q.1,
)

-- ---- walks that only grew

pub grows_refl : (start : Place) (rows : List Row) → Grows start rows rows
grows_refl start rows walk w ends = (walk, begins_refl walk, w, ends)

pub grows_trans : (start : Place) (a b c : List Row) → Grows start a b → Grows start b c
    → Grows start a c
grows_trans start a b c first then_ walk w ends =
    let mid = first walk w ends in
    let last = then_ mid.0 mid.2 mid.3 in
    (last.0, begins_trans walk mid.0 last.0 mid.1 last.1, last.2, last.3)

module _ (shelf : Shelf) (start : Place) where
  grew_after : (later stores : List Store) → EachGrew shelf start (later ++ stores) → EachGrew shelf start stores
  grew_after [] stores all = all
  grew_after (x ∷ []) [] all = tt
  grew_after (x ∷ []) (y ∷ stores) all = all.1
  grew_after (x ∷ (x' ∷ later)) stores all = grew_after (x' ∷ later) stores all.1

  grew_before : (later : List Store) (y : Store) (stores : List Store) → EachGrew shelf start (later ++ (y ∷ stores))
      → EachGrew shelf start (later ++ (y ∷ []))
  grew_before [] y stores all = tt
  grew_before (x ∷ []) y stores all = (all.0, tt)
  grew_before (x ∷ (x' ∷ later)) y stores all = (all.0, grew_before (x' ∷ later) y stores all.1)

  grew_over : (n : ℕ) (x : Store) (e : List Store) (y : Store) (f : List Store) → drop n (x ∷ e) ≡ y ∷ f
      → EachGrew shelf start (x ∷ take n e) → Grows start (rows_of shelf y) (rows_of shelf x)
  grew_over zero x e y f is all = let same : x ≡ y = cc is in rw same (grows_refl start (rows_of shelf y))
  grew_over (suc n) x [] y f is all = let none = drop-nil {A = Store} n in cc (is, none)
  grew_over (suc n) x (z ∷ e) y f is all =
      grows_trans start (rows_of shelf y) (rows_of shelf z) (rows_of shelf x) (grew_over n z e y f is all.1) all.0

  pub grows_over : (s s' : Seen) → KeepsStore s s' → OnlyGrew shelf start s s'
      → Grows start (rows_of shelf s.store) (rows_of shelf s'.store)
  grows_over s s' keeps all = grew_over (s'.stores_added - s.stores_added) s'.store s'.earlier s.store s.earlier keeps.past all

  -- from each store that was held
  one_grew : (x : Store) (stores : List Store) (y : Store) → EachGrew shelf start (x ∷ stores) → IsOneOf (x ∷ stores) y
      → Grows start (rows_of shelf y) (rows_of shelf x)
  one_grew x stores y all (inl is) = rw is (grows_refl start (rows_of shelf x))
  one_grew x [] y all (inr none) = absurd none
  one_grew x (z ∷ stores) y all (inr more) =
      grows_trans start (rows_of shelf y) (rows_of shelf z) (rows_of shelf x) (one_grew z stores y all.1 more) all.0

  pub grew_since : (s s' : Seen) (store : Store) → OnlyGrew shelf start s s' → WasHeld s s' store
      → Grows start (rows_of shelf store) (rows_of shelf s'.store)
  grew_since s s' store all held = one_grew s'.store (take (s'.stores_added - s.stores_added) s'.earlier) store all held

  module _ (a b c : Seen) (first : KeepsStore a b) (then_ : KeepsStore b c) (all : OnlyGrew shelf start a c) where
    pub grew_first : OnlyGrew shelf start a b
    grew_first = let s = split a b c first then_ in grew_after s.later (held_over a b) (subst (EachGrew shelf start) s.whole all)

    pub grew_second : OnlyGrew shelf start b c
    grew_second =
        let s = split a b c first then_ in
        let at : EachGrew shelf start (s.later ++ (b.store ∷ [])) = grew_before s.later b.store (take (b.stores_added - a.stores_added) b.earlier) (subst (EachGrew shelf start) s.whole all) in
        subst (EachGrew shelf start) (sym s.second) at

  pub grew_same : (s s' : Seen) → s'.stores_added ≡ s.stores_added → OnlyGrew shelf start s s'
  grew_same s s' same = let n : s'.stores_added - s.stores_added ≡ 0 = omega (arith, same) in rw n tt
