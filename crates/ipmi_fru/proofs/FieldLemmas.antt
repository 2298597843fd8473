-- The fields that bytes encode, field by field.
use Rattle.std.proofs.Common.{◌≡◌, ◌≢◌, ℕ, zero, suc, ◌/◌, ◌%◌, ◌≤◌, false, Option, None, Some, List, [], ◌∷◌, ◌++◌, length, take, drop, refl, sym, ap, subst, ◌∙◌, arith, inl, inr, option_map, is_some, ne_eqb, eq-eqb, true≢false, length-append, length-drop, length-take-le, take-append-drop}
use Rattle.std.proofs.Math.Seq.{drop-append_seam, take-append_seam}
use Rattle.std.proofs.lemmas.Bool.{cases_eq, cases_lt, le-ltb, lt-ltb}
use Rattle.ipmi_fru.specs.Prelude.{AreaField, Spells, fields_from, fields_in}

-- a field and the bytes after it
fields_from-cons : (n byte : ℕ) (bytes : List ℕ) → byte ≢ 0xc1 → byte % 64 ≤ length bytes
    → fields_from (suc n) (byte ∷ bytes)
    ≡ option_map (λ fields. (record { code = byte / 64; bytes = take (byte % 64) bytes }) ∷ fields) (fields_from n (drop (byte % 64) bytes))
fields_from-cons n byte bytes goes_on fits = rw (ne_eqb byte 0xc1 goes_on, le-ltb (length bytes) (byte % 64) fits) refl

-- more steps than there are bytes change nothing
fields_from-enough : (n m : ℕ) (bytes : List ℕ) → length bytes ≤ n → length bytes ≤ m
    → fields_from n bytes ≡ fields_from m bytes
fields_from-enough n m [] a b = refl
fields_from-enough zero m (byte ∷ bytes) a b = absurd (omega (arith, a))
fields_from-enough (suc n) zero (byte ∷ bytes) a b = absurd (omega (arith, b))
fields_from-enough (suc n) (suc m) (byte ∷ bytes) a b =
    let left = length-drop (byte % 64) bytes in
    rw (fields_from-enough n m (drop (byte % 64) bytes) (omega (arith, left, a)) (omega (arith, left, b))) refl

pub fields_in-first : (bytes after rest : List ℕ) (byte : ℕ) (field : AreaField)
    → bytes ≡ byte ∷ after → byte ≢ 0xc1 → byte % 64 ≤ length after → field ≡ record { code = byte / 64; bytes = take (byte % 64) after }
    → rest ≡ drop (byte % 64) after
    → fields_in bytes ≡ option_map (λ fields. field ∷ fields) (fields_in rest)
fields_in-first bytes after rest byte field is no_end fits field_is rest_is =
    let left = length-drop (byte % 64) after in
    let enough = fields_from-enough (length after) (length (drop (byte % 64) after)) (drop (byte % 64) after) (omega (arith, left)) (omega arith) in
    ap fields_in is ∙ fields_from-cons (length after) byte after no_end fits ∙ rw (rest_is, field_is, enough) refl

-- ---- the fields found are the fields that the bytes encode

fields_from-spelt : (n : ℕ) (bytes : List ℕ) (fields : List AreaField) → length bytes ≤ n
    → Spells bytes fields → fields_from n bytes ≡ Some fields
fields_from-spelt n [] [] fits spells = refl
fields_from-spelt zero (byte ∷ bytes) fields fits spells = absurd (omega (arith, fits))
fields_from-spelt (suc n) (byte ∷ bytes) [] fits spells = rw (eq-eqb byte 0xc1 spells) refl
fields_from-spelt n [] (field ∷ fields) fits spells = let b = spells.1.0 in cc b.bytes_are
fields_from-spelt (suc n) (byte ∷ bytes) (field ∷ fields) fits spells =
    let rest = spells.0 in
    let b = spells.1.0 in
    let joined = length-append field.bytes rest in
    let len : length (byte ∷ bytes) ≡ length (b.type_length ∷ (field.bytes ++ rest)) = ap length b.bytes_are in
    let more = fields_from-spelt n rest fields (omega (arith, fits, joined, len)) spells.1.1 in
    ap (fields_from (suc n)) b.bytes_are ∙ fields_from-cons n b.type_length (field.bytes ++ rest) b.is_no_end (omega (arith, joined, b.length_is))
    ∙ rw (← b.length_is, drop-append_seam field.bytes rest, take-append_seam field.bytes rest, ← b.code_is, more) refl

-- encoded fields are found
pub fields_in-found : (bytes : List ℕ) (fields : List AreaField) → Spells bytes fields
    → fields_in bytes ≡ Some fields
fields_in-found bytes fields spells = fields_from-spelt (length bytes) bytes fields (omega arith) spells

mapped : (f : List AreaField → List AreaField) (o : Option (List AreaField))
    (fields : List AreaField)
    → option_map f o ≡ Some fields → (rest : List AreaField) × ((o ≡ Some rest) × (f rest ≡ fields))
mapped f None fields e = cc e
mapped f (Some rest) fields e = (rest, (refl, cc e))

found : (n : ℕ) (bytes : List ℕ) (fields : List AreaField) → fields_from n bytes ≡ Some fields
    → Spells bytes fields
found n [] fields e = let is : [] ≡ fields = cc e in subst (Spells []) is tt
found zero (byte ∷ bytes) fields e = cc e
found (suc n) (byte ∷ bytes) fields e = elim (cases_eq byte 0xc1) [
  | inl is ↦ let none : [] ≡ fields = cc (rw (eq-eqb byte 0xc1 is) at e) in subst (Spells (byte ∷ bytes)) none is
  | inr no_end ↦ elim (cases_lt (length bytes) (byte % 64)) [
    | inl long ↦ cc (rw (ne_eqb byte 0xc1 no_end, lt-ltb (length bytes) (byte % 64) long) at e)
    | inr fits ↦
        let more = mapped (λ fields. (record { code = byte / 64; bytes = take (byte % 64) bytes }) ∷ fields) (fields_from n (drop (byte % 64) bytes)) fields
        (sym (fields_from-cons n byte bytes no_end fits) ∙ e) in
        subst (Spells (byte ∷ bytes)) more.1.1 (
          drop (byte % 64) bytes,
          (
            record {
              type_length = byte;
              is_no_end = no_end;
              code_is = refl;
              length_is = length-take-le (byte % 64) bytes fits;
              bytes_are = ap (λ (l : List ℕ). byte ∷ l) (sym (take-append-drop (byte % 64) bytes));
            },
            found n (drop (byte % 64) bytes) more.0 more.1.0,
          ),
        )
  ]
]

-- the fields found are encoded
pub are_spelt : (bytes : List ℕ) (fields : List AreaField) → fields_in bytes ≡ Some fields
    → Spells bytes fields
are_spelt bytes fields is = found (length bytes) bytes fields is

-- if nothing is found, nothing is encoded
pub none_spelt : (bytes : List ℕ) → is_some (fields_in bytes) ≡ false → (fields : List AreaField)
    → Spells bytes fields → ⊥
none_spelt bytes none fields spells = true≢false (sym (ap is_some (fields_in-found bytes fields spells)) ∙ none)
