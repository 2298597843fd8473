-- The ids in a table of bits.
use Rattle.std.proofs.Common.{◌≡◌, ◌≢◌, ℕ, zero, suc, ◌+◌, ◌≤◌, ◌*◌, ◌/◌, ◌%◌, ◌<◌, ◌^◌, Bool, true, false, cond, eqb, ◌&&◌, ◌||◌, nat_lt, nat_eq, List, get_or, set as put, length, replicate, refl, sym, ap, ◌∙◌, inl, inr, rules, arith, nat_cmp, bit_or, eq-eqb, get_or-set_same, get_or-set_other}
use Rattle.std.specs.Cmp.{nat_cmp_total, unsigned_tied}
use Rattle.std.specs.Int.{bit_at}
use Rattle.std.specs.FinSet as set
use Rattle.std.specs.FinSet.{members, nat_cmp-IsAntisymmetric, contains-insert, contains-empty, len-insert, len-empty}
use Rattle.std.proofs.lemmas.Nat.Bits.{bit_at_set_same, bit_at_set_other, bit_at-zero}
use Rattle.std.proofs.lemmas.Bool.{cases_eq, cases_lt}
use Rattle.std.proofs.lemmas.Bool.Decides.{nat_tests}
use Rattle.std.proofs.lemmas.List.{get_or-replicate, get_or_past, length-replicate}
use mir.Syntax.{w8}
use mir.Val.{bits}
use Rattle.ipmi_bus.specs.Prelude.{has_id_bit, ids_below, ids_in}

contains-put : (s : set.FinSet nat_cmp) (b p : Bool) (k q : ℕ) → (q ≡ k → p ≡ b)
    → set.contains s q ≡ (nat_lt q k && p)
    → set.contains (cond b (set.insert s k) s) q ≡ (nat_lt q (suc k) && p)
contains-put s true p k q same ih = grind (members, rules)
contains-put s false p k q same ih = grind (members, rules)

contains-ids_below : (bytes : List ℕ) (k q : ℕ)
    → set.contains (ids_below bytes k) q ≡ (nat_lt q k && has_id_bit bytes q)
unfolding ids_below
contains-ids_below bytes zero q = grind (members, rules)
contains-ids_below bytes (suc k) q = contains-put (ids_below bytes k) (has_id_bit bytes k) (has_id_bit bytes q) k q (ap (has_id_bit bytes)) (contains-ids_below bytes k q)

pub contains-ids_in : (bytes : List ℕ) (q : ℕ)
    → set.contains (ids_in bytes) q ≡ (nat_lt q 65536 && has_id_bit bytes q)
unfolding ids_in
contains-ids_in bytes q = contains-ids_below bytes 65536 q

len-put : (s : set.FinSet nat_cmp) (b : Bool) (k : ℕ) → set.len s ≤ k
    → set.len (cond b (set.insert s k) s) ≤ suc k
len-put s b k le = grind (arith, len-insert nat_cmp_total s k)

len-ids_below : (bytes : List ℕ) (k : ℕ) → set.len (ids_below bytes k) ≤ k
unfolding ids_below
len-ids_below bytes zero = omega (arith, len-empty nat_cmp)
len-ids_below bytes (suc k) = len-put (ids_below bytes k) (has_id_bit bytes k) k (len-ids_below bytes k)

-- a table has at most as many ids as bits
pub len-ids_in : (bytes : List ℕ) → set.len (ids_in bytes) ≤ 65536
unfolding ids_in
len-ids_in bytes = len-ids_below bytes 65536

-- the byte at n / 8 with the bit of n set
abbrev marked : List ℕ → ℕ → ℕ
marked bytes n = bit_or (get_or bytes (n / 8) 0) (1 * 2 ^ (n % 8) % 2 ^ bits w8)

-- the bit at q after setting the bit at n
has_id_bit-put_same : (bytes : List ℕ) (n : ℕ) → n / 8 < length bytes
    → has_id_bit (put bytes (n / 8) (marked bytes n)) n ≡ true
has_id_bit-put_same bytes n within =
    eq-eqb _ 1 (rw (get_or-set_same bytes (n / 8) (marked bytes n) 0 within) (bit_at_set_same w8 (get_or bytes (n / 8) 0) (n % 8) (omega arith)))

has_id_bit-put_other : (bytes : List ℕ) (n q : ℕ) → n / 8 < length bytes → q ≢ n
    → has_id_bit (put bytes (n / 8) (marked bytes n)) q ≡ has_id_bit bytes q
has_id_bit-put_other bytes n q within ne = elim (cases_eq (q / 8) (n / 8)) [
  | inl e ↦
      let apart : q % 8 ≢ n % 8 = λ same. ne (omega arith) in
      ap (λ x. eqb x 1) (
      ap (λ i. bit_at (get_or (put bytes (n / 8) (marked bytes n)) i 0) (q % 8)) e
      ∙ rw (get_or-set_same bytes (n / 8) (marked bytes n) 0 within)
      (bit_at_set_other w8 (get_or bytes (n / 8) 0) (n % 8) (omega arith) (q % 8) apart
      ∙ rw (sym e) refl))
  | inr far ↦ ap (λ x. eqb (bit_at x (q % 8)) 1) (get_or-set_other bytes (n / 8) (q / 8) (marked bytes n) 0 far)
]

pub ids_in-put : (bytes : List ℕ) (n : ℕ) → length bytes ≡ 8192 → n < 65536
    → ids_in (put bytes (n / 8) (marked bytes n)) ≡ set.insert (ids_in bytes) n
ids_in-put bytes n len fits =
    let within : n / 8 < length bytes = omega arith in
    set.same_set nat_cmp_total nat_cmp-IsAntisymmetric _ _ (λ q.
    joined q _ _ _ _ (contains-ids_in (put bytes (n / 8) (marked bytes n)) q) (contains-ids_in bytes q)
    (λ e. ap (has_id_bit (put bytes (n / 8) (marked bytes n))) e ∙ has_id_bit-put_same bytes n within)
    (has_id_bit-put_other bytes n q within)
    ∙ sym (contains-insert nat_cmp_total (ids_in bytes) n q ∙ rw (unsigned_tied q n) refl))
  where
    joined : (q : ℕ) (a b x y : Bool) → a ≡ (nat_lt q 65536 && x) → b ≡ (nat_lt q 65536 && y)
        → (q ≡ n → x ≡ true) → (q ≢ n → x ≡ y) → a ≡ (nat_eq q n || b)
    joined q a b x y p r same apart = elim (cases_eq q n) [ inl e ↦ grind (arith, nat_tests, same e) | inr ne ↦ grind (arith, nat_tests, apart ne) ]

-- each element of a list of zeros is zero, even past its end
get_or-zeros : (zeros : List ℕ) (n i : ℕ) → zeros ≡ replicate n 0 → get_or zeros i 0 ≡ 0
get_or-zeros zeros n i e = elim (cases_lt i n) [
  | inl lt ↦ rw e (get_or-replicate n i 0 0 lt)
  | inr le ↦ get_or_past zeros i 0 (omega (arith, ap length e, length-replicate {A = ℕ}))
]

-- a table of zeros has no id
pub ids_in_zeros : (zeros : List ℕ) (n : ℕ) → zeros ≡ replicate n 0 → ids_in zeros ≡ set.empty
ids_in_zeros zeros n is =
    set.same_set nat_cmp_total nat_cmp-IsAntisymmetric _ _ (λ q.
    contains-ids_in zeros q
    ∙ none q (has_id_bit zeros q) (rw (get_or-zeros zeros n (q / 8) is, bit_at-zero (q % 8)) refl)
    ∙ sym (contains-empty nat_cmp q))
  where
    none : (q : ℕ) (b : Bool) → b ≡ false → (nat_lt q 65536 && b) ≡ false
    none q b e = grind (arith, nat_tests, e)

-- a table that lacks an id has fewer ids than bits
pub room_left : (bytes : List ℕ) (n : ℕ) → length bytes ≡ 8192 → n < 65536
    → set.contains (ids_in bytes) n ≡ false → set.len (ids_in bytes) < 65536
room_left bytes n len fits unseen =
    let more : set.len (set.insert (ids_in bytes) n) ≡ set.len (ids_in bytes) + 1 =
    len-insert nat_cmp_total (ids_in bytes) n
    ∙ ap (λ (b : Bool). cond b (set.len (ids_in bytes)) (set.len (ids_in bytes) + 1)) unseen in
    omega (arith, more, ap (λ (s : set.FinSet nat_cmp). set.len s) (ids_in-put bytes n len fits), len-ids_in (put bytes (n / 8) (marked bytes n)))
