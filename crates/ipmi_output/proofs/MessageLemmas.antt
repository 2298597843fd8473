-- The bytes taken by a message sink after writing several parts.
pub use Rattle.std.proofs.Common.{append_assoc}
use Rattle.std.proofs.Common.{◌≡◌, ◌∙◌, ℕ, ◌<◌, ◌==◌, if◌then◌else◌, suc, List, [], ◌++◌, ◌+◌, ◌-◌, Option, None, Some, Ok, Err, Result, Bor, get_or, length, length-append, take, drop, refl, sym, ap, subst, arith, ne_eqb, drop-cons, take-add, append-nil, take-append-drop, option_map, flat_map}
use Rattle.std.proofs.Math.Seq.{take-append-add}
use Rattle.std.proofs.lemmas.List.{take-append-le, take_rest}
use Rattle.std.proofs.lemmas.Bool.Decides.{nat_tests}
use Rattle.std.proofs.lemmas.List.Concat.{flat_map-append}
use Rattle.std.specs.Io.KnownBytes.{Appends, Keeps}
use Rattle.ipmi_output.specs.Received.{Received, ReceivesAll, ReceivesPart}

-- the first i bytes and the next n of them
pub take_next : (i n : ℕ) (bytes : List ℕ)
    → take (i + n) bytes ≡ take i bytes ++ take n (take (length bytes - i) (drop i bytes))
take_next i n bytes = rw (take_rest bytes i) (take-add i n bytes)

pub ruleset next_bytes = (take_next, append_assoc)

-- appending twice is appending both
pub Appends-both : (old mid new : Option (List ℕ)) (xs ys : List ℕ) → Appends old mid xs
    → Appends mid new ys → Appends old new (xs ++ ys)
Appends-both old mid new xs ys first second = grind (arith, append_assoc)

-- a call that failed changed nothing
pub Appends-kept : (old new : Option (List ℕ)) → Keeps old new → Appends old new []
Appends-kept old new kept = grind (arith, append-nil)

-- a call that took some bytes was not a fault
pub option_map-kept : (faults : Option ℕ) (n : ℕ) → (n ≡ 0 → ⊥)
    → option_map (λ k. k + (if n == 0 then 1 else 0)) faults ≡ faults
option_map-kept faults n some = grind (arith, nat_tests)

-- some bytes were taken, and then more
pub ReceivesAll-both : (old mid new : Received) (xs ys : List ℕ) → ReceivesAll old mid xs
    → ReceivesAll mid new ys → ReceivesAll old new (xs ++ ys)
ReceivesAll-both old mid new xs ys first second =
    (Appends-both old.taken mid.taken new.taken xs ys first.0 second.0, second.1 ∙ first.1)

-- a part of the first bytes is also a part of all bytes
pub ReceivesPart-before : (old new : Received) (xs ys : List ℕ) → ReceivesPart old new xs
    → ReceivesPart old new (xs ++ ys)
ReceivesPart-before old new xs ys part = (part.0, omega (arith, part.1, length-append xs ys), rw (take-append-le part.0 xs ys (omega (arith, part.1))) part.2, part.3)

-- all of the first bytes, then a part of the next ones
pub ReceivesPart-after : (old mid new : Received) (xs ys : List ℕ) → ReceivesAll old mid xs
    → ReceivesPart mid new ys → ReceivesPart old new (xs ++ ys)
ReceivesPart-after old mid new xs ys first part = (
  length xs + part.0,
  omega (arith, part.1, length-append xs ys),
  rw (take-append-add xs ys part.0) (Appends-both old.taken mid.taken new.taken xs (take part.0 ys) first.0 part.2),
  part.3 ∙ rw first.1 refl,
)

-- the texts of the items before item i, then a part of the text of item i
pub ReceivesPart-in_item : {X : Type 0} (f : X → List ℕ) (old mid new : Received) (xs : List X)
    (i : ℕ) (d : X) → i < length xs → ReceivesAll old mid (flat_map f (take i xs))
    → ReceivesPart mid new (f (get_or xs i d)) → ReceivesPart old new (flat_map f xs)
ReceivesPart-in_item f old mid new xs i d within first part =
    let split : flat_map f (take i xs) ++ (f (get_or xs i d) ++ flat_map f (drop (suc i) xs)) ≡ flat_map f xs =
    cc (drop-cons xs i d within, flat_map-append f (take i xs) (drop i xs), take-append-drop i xs) in
    subst (λ (t : List ℕ). ReceivesPart old new t) split
    (ReceivesPart-after old mid new _ _ first (ReceivesPart-before mid new _ (flat_map f (drop (suc i) xs)) part))
