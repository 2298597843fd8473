-- The position of each byte in ipmitool's output.
use Rattle.std.proofs.Common.{◌≡◌, zero, suc, ℕ, ◌+◌, ◌-◌, ◌*◌, ◌/◌, ◌<◌, ◌++◌, List, [], ◌∷◌, length, take, drop, slice_index, refl, sym, ap, ◌∙◌, arith}
use Rattle.std.proofs.lemmas.Bool.Decides.{nat_tests}
use Rattle.std.proofs.lemmas.List.{drop_at, drop-drop, length-append}
use Rattle.ipmi_raw.specs.declared.tool.Tool.TheVariants.{Ipmitool}
use Rattle.ipmi_raw.specs.Words.{word, break_before, words_from}
use Rattle.ipmi_raw.specs.Laws.{place_of, BytesStandAtPlaces, BytesAreAll}

length_break : (j : ℕ) → length (break_before Ipmitool j) ≡ j / 16 - (j - 1) / 16
length_break j = grind (arith, nat_tests)

at_places : (bytes : List ℕ) (i j : ℕ) → i < length bytes
    → take 3 (drop (3 * (j + i) + (j + i) / 16 - (3 * j + (j - 1) / 16)) (words_from Ipmitool j bytes)) ≡ word Ipmitool (slice_index bytes i)
at_places [] i j lt = absurd (omega arith)
at_places (byte ∷ bytes) zero j lt =
    let rest : List ℕ = word Ipmitool byte ++ words_from Ipmitool (j + 1) bytes in
    let count : 3 * (j + 0) + (j + 0) / 16 - (3 * j + (j - 1) / 16) ≡ length (break_before Ipmitool j) = omega (arith, length_break j) in
    let here : drop (3 * (j + 0) + (j + 0) / 16 - (3 * j + (j - 1) / 16)) (break_before Ipmitool j ++ rest) ≡ rest =
    drop_at (break_before Ipmitool j) rest (3 * (j + 0) + (j + 0) / 16 - (3 * j + (j - 1) / 16)) (sym count) in
    ap (take 3) here
at_places (byte ∷ bytes) (suc i) j lt =
    let rest : List ℕ = word Ipmitool byte ++ words_from Ipmitool (j + 1) bytes in
    let far : ℕ = 3 * (j + 1 + i) + (j + 1 + i) / 16 - (3 * (j + 1) + (j + 1 - 1) / 16) in
    let sum : length (break_before Ipmitool j) + (3 + far) ≡ 3 * (j + suc i) + (j + suc i) / 16 - (3 * j + (j - 1) / 16) = omega (arith, length_break j) in
    let past : drop (3 + far) rest ≡ drop far (words_from Ipmitool (j + 1) bytes) = sym (drop-drop far 3 rest) in
    let all : drop (3 * (j + suc i) + (j + suc i) / 16 - (3 * j + (j - 1) / 16)) (break_before Ipmitool j ++ rest) ≡ drop far (words_from Ipmitool (j + 1) bytes) =
    ap (λ (k : ℕ). drop k (break_before Ipmitool j ++ rest)) (sym sum)
    ∙ (sym (drop-drop (3 + far) (length (break_before Ipmitool j)) (break_before Ipmitool j ++ rest))
    ∙ (ap (drop (3 + far)) (drop_at (break_before Ipmitool j) rest (length (break_before Ipmitool j)) refl) ∙ past)) in
    ap (take 3) all ∙ at_places bytes i (j + 1) (omega arith)

pub bytes_at_places : BytesStandAtPlaces
bytes_at_places bytes i lt =
    let count : 3 * (0 + i) + (0 + i) / 16 - (3 * 0 + (0 - 1) / 16) ≡ place_of i = omega arith in
    ap (λ (k : ℕ). take 3 (drop k (words_from Ipmitool 0 bytes))) (sym count) ∙ at_places bytes i 0 lt

length_words : (bytes : List ℕ) (j : ℕ)
    → length (words_from Ipmitool j bytes) ≡ 3 * length bytes + ((j + length bytes - 1) / 16 - (j - 1) / 16) + 4
length_words [] j = omega arith
length_words (byte ∷ bytes) j =
    let rest : List ℕ = word Ipmitool byte ++ words_from Ipmitool (j + 1) bytes in
    omega (arith, length_break j, length-append (break_before Ipmitool j) (word Ipmitool byte ++ words_from Ipmitool (j + 1) bytes), length_words bytes (j + 1))

pub bytes_are_all : BytesAreAll
bytes_are_all bytes = omega (arith, length_words bytes 0)
