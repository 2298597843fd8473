-- Concatenated records.
use Rattle.std.proofs.Common.{◌≡◌, ◌∙◌, ℕ, zero, suc, ◌+◌, ◌≤◌, nat_le, Bool, true, false, if◌then◌else◌, None, Some, List, [], ◌∷◌, ◌++◌, length, take, drop, refl, sym, ap, arith}
use Rattle.std.specs.List.{AllPass, concat}
use Rattle.std.proofs.lemmas.Bool.Decides.{nat_tests}
use Rattle.std.proofs.lemmas.List.{length-append, length-drop, length-take-le, get_or_append_left}
use Rattle.std.proofs.lemmas.List.Elements.{All-head, All-tail}
use Rattle.std.proofs.Math.Seq.{take-append_seam, drop-append_seam}
use Rattle.ipmi_text.specs.SdrHeader.{sdr_len}
use Rattle.ipmi_events.specs.Sensors.{first_record, first_records, is_whole_record, records_in}

no_records : (most : ℕ) → first_records most [] ≡ []
unfolding first_records
no_records zero = refl
no_records (suc most) = refl

-- a record has at least one byte, so there are at most as many records as bytes
enough : (most more : ℕ) (bytes : List ℕ) → length bytes ≤ most → length bytes ≤ more
    → first_records most bytes ≡ first_records more bytes
unfolding first_records
enough zero more [] le le' = sym (no_records more)
enough zero more (b ∷ bytes) le le' = absurd (omega (arith, le))
enough (suc most) zero [] le le' = refl
enough (suc most) zero (b ∷ bytes) le le' = absurd (omega (arith, le'))
enough (suc most) (suc more) bytes le le' =
    let len = sdr_len bytes in
    by (nat_le len (length bytes)) (ap (λ (l : List (List ℕ)). take len bytes ∷ l) (enough most more (drop len bytes) (omega (arith, le, length-drop len bytes)) (omega (arith, le', length-drop len bytes))))
  where
    by : (whole : Bool) {A : Type 0} {x y : List A} → x ≡ y
        → (if whole then x else []) ≡ (if whole then y else [])
    by true e = e
    by false e = refl

-- ---- the next record

next_by_len : (bytes : List ℕ) → nat_le (sdr_len bytes) (length bytes) ≡ true
    → records_in bytes ≡ take (sdr_len bytes) bytes ∷ records_in (drop (sdr_len bytes) bytes)
unfolding first_records records_in
next_by_len bytes whole =
    let len = sdr_len bytes in
    let after = drop len bytes in
    enough (length bytes) (suc (length bytes)) bytes (omega arith) (omega arith)
    ∙ rw whole (ap (λ (l : List (List ℕ)). take len bytes ∷ l) (enough (length bytes) (length after) after (omega (arith, length-drop len bytes)) (omega arith)))

last_by_len : (bytes : List ℕ) → nat_le (sdr_len bytes) (length bytes) ≡ false
    → records_in bytes ≡ []
unfolding first_records records_in
last_by_len bytes short =
    enough (length bytes) (suc (length bytes)) bytes (omega arith) (omega arith)
    ∙ rw short refl

-- the first record, if there is one
record Begins (bytes first : List ℕ) : Type 0 where
  pub whole : nat_le (sdr_len bytes) (length bytes) ≡ true
  pub firstis : first ≡ take (sdr_len bytes) bytes

begins : (bytes first : List ℕ) → first_record bytes ≡ Some first → Begins bytes first
begins bytes first is = by (nat_le (sdr_len bytes) (length bytes)) refl is
  where
    by : (whole : Bool) → nat_le (sdr_len bytes) (length bytes) ≡ whole
        → (if whole then Some (take (sdr_len bytes) bytes) else None) ≡ Some first
        → Begins bytes first
    by true whole is = record { whole = whole; firstis = grind (arith, is) }
    by false short is = absurd (grind (arith, is))

pub len_of_first : (bytes first : List ℕ) → first_record bytes ≡ Some first
    → (length first ≡ sdr_len bytes) × (length first ≤ length bytes)
len_of_first bytes first is =
    let b = begins bytes first is in
    let le : sdr_len bytes ≤ length bytes = grind (arith, nat_tests, b.whole) in
    let e : length first ≡ sdr_len bytes = ap length b.firstis ∙ length-take-le (sdr_len bytes) bytes le in
    (e, omega (arith, e, le))

pub next_record : (bytes first : List ℕ) → first_record bytes ≡ Some first
    → records_in bytes ≡ first ∷ records_in (drop (length first) bytes)
next_record bytes first is =
    let b = begins bytes first is in
    next_by_len bytes b.whole ∙ rw ((len_of_first bytes first is).0, b.firstis) refl

pub last_record : (bytes : List ℕ) → first_record bytes ≡ None → records_in bytes ≡ []
last_record bytes is = by (nat_le (sdr_len bytes) (length bytes)) refl is
  where
    by : (whole : Bool) → nat_le (sdr_len bytes) (length bytes) ≡ whole
        → (if whole then Some (take (sdr_len bytes) bytes) else None) ≡ None
        → records_in bytes ≡ []
    by true whole is = absurd (grind (arith, is))
    by false short is = last_by_len bytes short

-- ---- concatenated records are found again

first_of_two : (bytes more : List ℕ) → is_whole_record bytes ≡ true
    → records_in (bytes ++ more) ≡ bytes ∷ records_in more
first_of_two bytes more whole =
    let header : 5 ≤ length bytes = grind (arith, nat_tests, whole) in
    let size : length bytes ≡ sdr_len bytes = grind (arith, nat_tests, whole) in
    let both : sdr_len (bytes ++ more) ≡ length bytes = ap (λ n. 5 + n) (get_or_append_left bytes more 0 4 (omega (arith, header))) ∙ sym size in
    next_by_len (bytes ++ more) (grind (arith, nat_tests, both, length-append bytes more))
    ∙ rw (both, take-append_seam bytes more, drop-append_seam bytes more) refl

pub records_in-concat : (records : List (List ℕ)) → AllPass is_whole_record records
    → records_in (concat records) ≡ records
records_in-concat [] all = last_by_len [] refl
records_in-concat (bytes ∷ records) all =
    first_of_two bytes (concat records) (All-head (λ b. is_whole_record b ≡ true) bytes records all)
    ∙ ap (λ (l : List (List ℕ)). bytes ∷ l) (records_in-concat records (All-tail (λ b. is_whole_record b ≡ true) bytes records all))
