-- The text of a mark is read back.
use Rattle.std.proofs.Common.{◌≡◌, ℕ, zero, suc, ◌+◌, ◌<◌, Option, None, Some, List, [], ◌∷◌, ◌++◌, length, take, drop, refl, ap, subst, ◌∙◌, arith, length-append, replicate, slice_index, Ok}
use Rattle.std.specs.Option.{ForSome}
use Rattle.std.proofs.Math.Seq.{drop-append-add, get_or-append_seam, take-append_seam}
use Rattle.std.proofs.lemmas.List.Elements.{All-append, All-cons, All-nil}
use Rattle.byteorder.specs.Endian.{big_bytes}
use Rattle.byteorder.specs.Numbers.{big_number-reads_back}
use Rattle.hex.specs.Hex.{decode_sized, encode_lower, lower_digits}
use Rattle.hex.proofs.HexLemmas.{decode_of-encode_lower, decode_sized-twice, length-encode_with}
use Rattle.ipmi_text.specs.Bytes.{AreBytes}
use Rattle.ipmi_image.proofs.ParseLemmas.{AreBytes-big_bytes, IsBytes-from_AreBytes}
use Rattle.ipmi_commands.specs.declared.kept.KeptEntry.{KeptEntry}
use Rattle.ipmi_commands.specs.declared.mark.Mark.{Mark}
use Rattle.ipmi_commands.specs.Mark.{entry_code, entry_of_code, header, info_code, info_of_code, IsEntry, IsLogInfo, mark_of_code, mark_text, MarksAreReadBack}

-- ---- the first n of a list, and the rest

first_part : (n : ℕ) (a b : List ℕ) → length a ≡ n → take n (a ++ b) ≡ a
first_part n a b len = subst (λ (k : ℕ). take k (a ++ b) ≡ a) len (take-append_seam a b)

rest_part : (n : ℕ) (a b : List ℕ) → length a ≡ n → drop n (a ++ b) ≡ b
rest_part n a b len =
    let size : length a + 0 ≡ n = omega (arith, len) in
    subst (λ (k : ℕ). drop k (a ++ b) ≡ b) size (drop-append-add a b 0)

zeros : (n : ℕ) → AreBytes (replicate n 0)
zeros zero = All-nil (λ (b : ℕ). b < 256)
zeros (suc n) = All-cons (λ (b : ℕ). b < 256) 0 (replicate n 0) (omega arith) (zeros n)

-- ---- codes

entry_len : (entry : Option KeptEntry) → ForSome entry IsEntry → length (entry_code entry) ≡ 19
entry_len None is = refl
entry_len (Some entry) is = omega (arith, (is entry refl).whole)

info_len : (info : Option (List ℕ)) → ForSome info IsLogInfo → length (info_code info) ≡ 15
info_len None is = refl
info_len (Some info) is = omega (arith, (is info refl).whole)

entry_bytes : (entry : Option KeptEntry) → ForSome entry IsEntry → AreBytes (entry_code entry)
entry_bytes None is = zeros 19
entry_bytes (Some entry) is =
    All-cons (λ (b : ℕ). b < 256) 1 (big_bytes 2 entry.id ++ entry.bytes) (omega arith) (All-append (λ (b : ℕ). b < 256) (big_bytes 2 entry.id) entry.bytes (AreBytes-big_bytes 2 entry.id) (is entry refl).bytes)

info_bytes : (info : Option (List ℕ)) → ForSome info IsLogInfo → AreBytes (info_code info)
info_bytes None is = zeros 15
info_bytes (Some info) is = All-cons (λ (b : ℕ). b < 256) 1 info (omega arith) (is info refl).bytes

entry_back : (entry : Option KeptEntry) → ForSome entry IsEntry → entry_of_code (entry_code entry) ≡ Some entry
entry_back None is = refl
entry_back (Some entry) is =
    let id = big_number-reads_back 2 entry.id [] (is entry refl).id in
    ap (λ (n : ℕ). Some (Some (record { id = n; bytes = entry.bytes }))) id

info_back : (info : Option (List ℕ)) → ForSome info IsLogInfo → info_of_code (info_code info) ≡ Some info
info_back None is = refl
info_back (Some info) is = refl

code_back : (mark : Mark) → ForSome mark.entry IsEntry → ForSome mark.info IsLogInfo
    → mark_of_code (entry_code mark.entry ++ info_code mark.info) ≡ Some mark
code_back mark entry_is info_is =
    let len = entry_len mark.entry entry_is in
    let front : take 19 (entry_code mark.entry ++ info_code mark.info) ≡ entry_code mark.entry = first_part 19 (entry_code mark.entry) (info_code mark.info) len in
    let back : drop 19 (entry_code mark.entry ++ info_code mark.info) ≡ info_code mark.info = rest_part 19 (entry_code mark.entry) (info_code mark.info) len in
    rw (front, back, entry_back mark.entry entry_is, info_back mark.info info_is) refl

pub marks_back : MarksAreReadBack
marks_back mark entry_is info_is =
    let code = entry_code mark.entry ++ info_code mark.info in
    let len : length code ≡ 34 = omega (arith, length-append (entry_code mark.entry) (info_code mark.info), entry_len mark.entry entry_is, info_len mark.info info_is) in
    let digits = encode_lower code in
    let many : length digits ≡ 68 = omega (arith, length-encode_with lower_digits code, len) in
    let bytes = All-append (λ (b : ℕ). b < 256) (entry_code mark.entry) (info_code mark.info) (entry_bytes mark.entry entry_is) (info_bytes mark.info info_is) in
    let decoded : decode_sized digits 34 ≡ Ok code = decode_sized-twice digits 34 many ∙ decode_of-encode_lower code (IsBytes-from_AreBytes code bytes) in
    let whole : length (mark_text mark) ≡ 87 = omega (arith, length-append header (digits ++ 10 ∷ []), length-append digits (10 ∷ []), many) in
    let middle : take 68 (drop 18 (mark_text mark)) ≡ digits = first_part 68 digits (10 ∷ []) many in
    let end : slice_index (mark_text mark) 86 ≡ 10 = subst (λ (k : ℕ). slice_index (digits ++ 10 ∷ []) k ≡ 10) many (get_or-append_seam digits 10 [] 0) in
    rw (whole, end, middle, decoded) (code_back mark entry_is info_is)
