-- Lines by the number of their fields, and by their first words.
use Rattle.std.proofs.Common.{◌≡◌, ℕ, ◌<◌, Bool, true, false, cond, nat_eq, Option, None, Some, is_some, option_map, option_and_then, ok_or, Result, Err, List, [], ◌∷◌, ◌++◌, length, get_or, refl, sym, subst, arith, codes, bytes_eq, Ok}
use Rattle.std.specs.Result.{result_ok}
use Rattle.std.proofs.lemmas.Bool.Decides.{nat_tests}
use Rattle.std.proofs.lemmas.List.Elements.{All-nil, All-cons}
use Rattle.std.proofs.lemmas.Slice.Eq.{bytes_eq-Decides}
use Rattle.hex.specs.declared.error.FromHexError.{FromHexError}
use Rattle.hex.specs.Hex.{decode_of, is_hex_digit}
use Rattle.hex.proofs.HexLemmas.{decode_of-ok}
use Rattle.ipmi_image.specs.Below.{Shelf, Sdr, Sel}
use Rattle.ipmi_image.specs.Prelude.{a_row, bytes_in, end_line, LineCause, is_dash, LineFault, next_in, number_in, pieces, row_line, shelf_in, Line, with_two, with_three, line_of_fields, Version}
use Rattle.ipmi_image.proofs.TextLemmas.{Lacks, length_pieces, pieces-more, pieces-one}

-- a third field is too many
pub with_two_more : (cause : LineCause) (line : List ℕ → List ℕ → Result Line LineFault) (a b rest : List ℕ)
    → with_two cause line (a ∷ b ∷ pieces 32 rest) ≡ Err (LineFault.Line cause)
with_two_more cause line a b rest = grind (arith, length_pieces 32 rest)

pub with_three_two : (cause : LineCause) (line : List ℕ → List ℕ → List ℕ → Result Line LineFault) (a : List ℕ)
    (l : List (List ℕ)) → with_three cause line (a ∷ l) ≡ with_two cause (line a) l
with_three_two cause line a [] = refl
with_three_two cause line a (b ∷ []) = refl
with_three_two cause line a (b ∷ c ∷ []) = refl
with_three_two cause line a (b ∷ c ∷ d ∷ rest) = refl

-- a line `end` with fields is invalid
pub end_has_fields : (rest : List ℕ) → end_line (pieces 32 rest) ≡ Err (LineFault.Line LineCause.EndFields)
end_has_fields rest = by (pieces 32 rest) (length_pieces 32 rest)
  where
    by : (l : List (List ℕ)) → 0 < length l → end_line l ≡ Err (LineFault.Line LineCause.EndFields)
    by [] some = absurd (omega (arith, some))
    by (field ∷ l) some = refl

-- with one empty field a line that is not `end` has the fault that it has with none
pub with_empty_field : (version : Version) (word : List ℕ) → bytes_eq word (codes "end") ≡ false
    → line_of_fields version (word ∷ pieces 32 []) ≡ line_of_fields version (word ∷ [])
with_empty_field version word other = rw (pieces-one 32 [] (All-nil (λ (b : ℕ). nat_eq b 32 ≡ false)), other) refl

-- ---- rows that are cut at the positions of their spaces

not_space : (character : ℕ) → is_hex_digit character ≡ true → nat_eq character 32 ≡ false
not_space character is = grind (arith, nat_tests)

lacks_space : (hex : List ℕ) → is_some (bytes_in hex) ≡ true → Lacks 32 hex
lacks_space hex are = by (decode_of hex) refl are
  where
    by : (r : Result (List ℕ) FromHexError) → decode_of hex ≡ r → is_some (result_ok r) ≡ true → Lacks 32 hex
    by (Ok bytes) eq some = λ k d lt. not_space (get_or hex k d) ((decode_of-ok hex bytes eq).1 k d lt)
    by (Err e) eq some = cc some

is_some-map : {A B : Type 0} (f : A → B) (o : Option A) → is_some (option_map f o) ≡ true → is_some o ≡ true
is_some-map f (Some x) some = refl
is_some-map f None some = some

-- the fields of a row that is read are present
row_parts : (shelf : Shelf) (fit : Bool) (a b : LineFault) (id : Option ℕ) (next : Option (Option ℕ)) (bytes : Option (List ℕ)) (line : Line)
    → cond fit (ok_or (option_and_then (λ i. option_and_then (λ n. option_map (λ b. a_row shelf (record { id = i; next = n; bytes = b })) bytes) next) id) a) (Err b) ≡ Ok line
    → (is_some id ≡ true) × (is_some next ≡ true) × (is_some bytes ≡ true)
row_parts shelf true e e' (Some i) (Some n) (Some b) line read = (refl, refl, refl)
row_parts shelf true e e' None n b line read = cc read
row_parts shelf true e e' (Some i) None b line read = cc read
row_parts shelf true e e' (Some i) (Some n) None line read = cc read
row_parts shelf false e e' i n b line read = cc read

next_lacks_space : (next : List ℕ) → is_some (next_in next) ≡ true → Lacks 32 next
next_lacks_space next are = by (is_dash next) refl are
  where
    by : (t : Bool) → is_dash next ≡ t
        → is_some (cond t (Some None) (option_map (λ (id : ℕ). Some id) (number_in 2 next))) ≡ true → Lacks 32 next
    by true dash some = subst (Lacks 32) (sym ((bytes_eq-Decides next (codes "-")).0 dash)) (All-cons (λ (b : ℕ). nat_eq b 32 ≡ false) 45 [] refl (All-nil (λ (b : ℕ). nat_eq b 32 ≡ false)))
    by false dash some = lacks_space next (is_some-map _ (bytes_in next) (is_some-map _ (number_in 2 next) some))

-- a row that is read has three fields
pub row_has_three : (version : Version) (shelf : Shelf) (id next hex : List ℕ) (line : Line)
    → row_line version shelf id next hex ≡ Ok line
    → with_three LineCause.RowFields (row_line version shelf) (pieces 32 (id ++ 32 ∷ (next ++ 32 ∷ hex))) ≡ Ok line
row_has_three version shelf id next hex line read =
    let parts = row_parts shelf _ _ _ (number_in 2 id) (next_in next) (bytes_in hex) line read in
    rw (pieces-more 32 id (next ++ 32 ∷ hex) (lacks_space id (is_some-map _ (bytes_in id) parts.0)), pieces-more 32 next hex (next_lacks_space next parts.1), pieces-one 32 hex (lacks_space hex parts.2)) read

-- ---- the first word of a row

lacks_three : (separator a b c : ℕ) → nat_eq a separator ≡ false → nat_eq b separator ≡ false
    → nat_eq c separator ≡ false → Lacks separator (a ∷ b ∷ c ∷ [])
lacks_three separator a b c x y z =
    let cons = All-cons (λ (b : ℕ). nat_eq b separator ≡ false) in
    cons a (b ∷ c ∷ []) x (cons b (c ∷ []) y (cons c [] z (All-nil (λ (b : ℕ). nat_eq b separator ≡ false))))

pub pieces-shelf : (word rest : List ℕ) → is_some (shelf_in word) ≡ true
    → pieces 32 (word ++ 32 ∷ rest) ≡ word ∷ pieces 32 rest
pieces-shelf word rest is = pieces-more 32 word rest (by (bytes_eq word (codes "sdr")) (bytes_eq word (codes "sel")) refl refl is)
  where
    by : (sdr sel : Bool) → bytes_eq word (codes "sdr") ≡ sdr → bytes_eq word (codes "sel") ≡ sel
        → is_some (cond sdr (Some Sdr) (cond sel (Some Sel) None)) ≡ true → Lacks 32 word
    by true sel a b is = subst (Lacks 32) (sym ((bytes_eq-Decides word (codes "sdr")).0 a)) (lacks_three 32 115 100 114 refl refl refl)
    by false true a b is = subst (Lacks 32) (sym ((bytes_eq-Decides word (codes "sel")).0 b)) (lacks_three 32 115 101 108 refl refl refl)
    by false false a b is = cc is
