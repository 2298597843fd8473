-- Reading the lines of a rewritten image.
use Rattle.std.proofs.Common.{◌≡◌, ℕ, zero, suc, ◌*◌, ◌^◌, ◌/◌, ◌%◌, ◌<◌, ◌≤◌, Bool, true, false, cond, nat_eq, nat_lt, ◌==◌, ◌||◌, None, Some, Ok, List, [], ◌∷◌, length, slice_index, drop, refl, ap, ◌∙◌, append-nil, arith, codes, option_map, if◌then◌else◌, ok_or, Err}
use Rattle.std.specs.Result.{result_ok}
use Rattle.std.specs.List.{AllPass, list_all, join_with_byte}
use Rattle.std.proofs.lemmas.Bool.Decides.{nat_tests}
use Rattle.std.proofs.lemmas.Grind.{common_steps}
use Rattle.std.proofs.lemmas.List.Elements.{All-nil, All-cons, All-tail, All-append}
use Rattle.std.proofs.lemmas.List.Sums.{AllPass-from_list_all}
use Rattle.byteorder.specs.Endian.{big_number, big_bytes}
use Rattle.byteorder.specs.Numbers.{length-bytes_high_first, big_number-reads_back}
use Rattle.hex.specs.Hex.{IsBytes, encode_lower, encode_with, decode_pairs, lower_digits}
use Rattle.hex.proofs.HexLemmas.{decode_of-encode_lower, length-encode_with}
use Rattle.ipmi_image.specs.Below.{Shelf, Sdr, Sel, AreBytes, Row, whole_len, IsRow, SensorReading, IsInfo, IsSensorReading}
use Rattle.ipmi_image.specs.Prelude.{pieces, SavedRow, a_row, an_inventory, a_reading, an_info, is_some_text, bytes_in, digits_fault, LineCause, number_in, next_in, is_dash, row_line, LineFault, line_of_fields, line_of, hex_of, next_field, row_fields, part_fields, reading_fields, Version}
use Rattle.ipmi_image.proofs.RewriteLemmas.{of_lun, drop_hex_of_lun}
use Rattle.ipmi_image.proofs.TextLemmas.{Lacks, pieces-one, pieces-more}

-- ---- fields

-- all bytes are above the space, so none is a space or a line feed
abbrev pub IsField : List ℕ → Type 0
IsField field = AllPass (λ b. nat_lt 32 b) field

abbrev pub AreFields : List (List ℕ) → Type 0
AreFields [] = Unit {0}
AreFields (field ∷ fields) = IsField field × AreFields fields

lacks : (separator : ℕ) (field : List ℕ) → separator ≤ 32 → IsField field → Lacks separator field
lacks separator field le is = λ k d lt. let above = is k d lt in grind (arith, nat_tests)

pub a_word : (word : List ℕ) → list_all (λ b. nat_lt 32 b) word ≡ true → IsField word
a_word word = AllPass-from_list_all (λ b. nat_lt 32 b) word

pub a_hex : (bytes : List ℕ) → AreBytes bytes → IsField (encode_lower bytes)
unfolding encode_with
a_hex [] all = All-nil (λ b. nat_lt 32 b ≡ true)
a_hex (b ∷ bytes) all =
    let digits = a_word lower_digits refl in
    let lt = all 0 b (omega arith) in
    let cons = All-cons (λ (b : ℕ). nat_lt 32 b ≡ true) in
    cons (slice_index lower_digits (b / 16))
    (slice_index lower_digits (b % 16) ∷ encode_lower bytes)
    (digits (b / 16) 0 (omega (arith, lt)))
    (cons (slice_index lower_digits (b % 16)) (encode_lower bytes)
    (digits (b % 16) 0 (omega arith)) (a_hex bytes (All-tail (λ (b : ℕ). b < 256) b bytes all)))

-- joined fields are one line, and cutting it gives the fields again
pub pieces-join_with_byte : (first : List ℕ) (fields : List (List ℕ)) → AreFields (first ∷ fields)
    → Lacks 10 (join_with_byte 32 (first ∷ fields))
    × (pieces 32 (join_with_byte 32 (first ∷ fields)) ≡ first ∷ fields)
pieces-join_with_byte first [] are = (lacks 10 first (omega arith) are.0, pieces-one 32 first (lacks 32 first (omega arith) are.0))
pieces-join_with_byte first (second ∷ fields) are =
    let more = pieces-join_with_byte second fields are.1 in (
      All-append (λ (b : ℕ). nat_eq b 10 ≡ false) first _ (lacks 10 first (omega arith) are.0) (All-cons (λ (b : ℕ). nat_eq b 10 ≡ false) 32 _ refl more.0),
      pieces-more 32 first _ (lacks 32 first (omega arith) are.0) ∙ rw more.1 refl,
    )

pub line_of-fields : (first : List ℕ) (fields : List (List ℕ)) → AreFields (first ∷ fields)
    → line_of Version.Two (join_with_byte 32 (first ∷ fields)) ≡ line_of_fields Version.Two (first ∷ fields)
unfolding line_of
line_of-fields first fields are = ap (line_of_fields Version.Two) (pieces-join_with_byte first fields are).1

-- ---- numbers and bytes

pub AreBytes-big_bytes : (n x : ℕ) → AreBytes (big_bytes n x)
AreBytes-big_bytes zero x = All-nil (λ (b : ℕ). b < 256)
AreBytes-big_bytes (suc zero) x = All-cons (λ (b : ℕ). b < 256) (x % 256) [] (omega arith) (AreBytes-big_bytes zero x)
AreBytes-big_bytes (suc (suc n)) x = All-cons (λ (b : ℕ). b < 256) (x / 256 ^ suc n % 256) (big_bytes (suc n) x) (omega arith) (AreBytes-big_bytes (suc n) x)

pub IsBytes-from_AreBytes : (bytes : List ℕ) → AreBytes bytes → IsBytes bytes
IsBytes-from_AreBytes bytes all i = grind (arith, common_steps)

bytes_in-encode_lower : (bytes : List ℕ) → AreBytes bytes
    → bytes_in (encode_lower bytes) ≡ Some bytes
bytes_in-encode_lower bytes all = ap result_ok (decode_of-encode_lower bytes (IsBytes-from_AreBytes bytes all))

number_in-hex_of : (n x : ℕ) → x < 256 ^ n → number_in n (hex_of n x) ≡ Some x
number_in-hex_of n x lt = ap (option_map (big_number n)) (bytes_in-encode_lower (big_bytes n x) (AreBytes-big_bytes n x)) ∙ ap Some (rw append-nil at (big_number-reads_back n x [] lt))

length-hex_of : (n x : ℕ) → length (hex_of n x) ≡ 2 * n
length-hex_of n x = length-encode_with lower_digits (big_bytes n x) ∙ ap (λ (k : ℕ). 2 * k) (length-bytes_high_first n x)

is_some_text-encode_lower : (bytes : List ℕ) → 0 < length bytes
    → is_some_text (encode_lower bytes) ≡ true
unfolding encode_with
is_some_text-encode_lower [] some = absurd (omega (arith, some))
is_some_text-encode_lower (b ∷ bytes) some = refl

-- ---- each kind of line

abbrev pub word_of : Shelf → List ℕ
word_of Sdr = codes "sdr"
word_of Sel = codes "sel"

-- the row as in its line
abbrev pub saved_row : ℕ → Row → SavedRow
saved_row following row = record { id = row.id; next = if row.next == following then None else Some row.next; bytes = row.bytes }

is_dash-hex_of : (x : ℕ) → is_dash (hex_of 2 x) ≡ false
unfolding encode_with
is_dash-hex_of x = grind arith

next_in-next_field : (following next : ℕ) → next < 65536
    → (((length (next_field following next) == 4) || is_dash (next_field following next)) ≡ true)
    × (next_in (next_field following next) ≡ Some (if next == following then None else Some next))
next_in-next_field following next lt = by (nat_eq next following)
  where
    by : (t : Bool) → (let field = cond t (codes "-") (hex_of 2 next) in
        ((length field == 4) || is_dash field) ≡ true)
        × (next_in (cond t (codes "-") (hex_of 2 next)) ≡ Some (cond t None (Some next)))
    by true = (refl, refl)
    by false = (rw (length-hex_of 2 next) refl, rw (is_dash-hex_of next) (ap (option_map (λ id. Some id)) (number_in-hex_of 2 next lt)))

-- a row has at least one byte
pub line_of_fields-row_fields : (shelf : Shelf) (following : ℕ) (row : Row) → IsRow shelf row
    → line_of_fields Version.Two (row_fields (word_of shelf) following row)
    ≡ Ok (a_row shelf (saved_row following row))
line_of_fields-row_fields shelf following row ok =
    let whole = ok.whole in
    let id = ok.id in
    let next = next_in-next_field following row.next ok.next in
    (by shelf).0 ∙ rw (number_in-hex_of 2 row.id (omega (arith, id)), next.1, bytes_in-encode_lower row.bytes ok.bytes, length-hex_of 2 row.id, next.0, is_some_text-encode_lower row.bytes (omega (arith, whole, (by shelf).1))) refl
  where
    by : (s : Shelf) → (line_of_fields Version.Two (row_fields (word_of s) following row)
        ≡ row_line Version.Two s (hex_of 2 row.id) (next_field following row.next)
        (encode_lower row.bytes)) × (0 < whole_len s row.bytes)
    by Sdr = (refl, omega arith)
    by Sel = (refl, omega arith)

pub line_of_fields-part_fields : (id : ℕ) (part : List ℕ) → id ≤ 254 → 0 < length part
    → AreBytes part → line_of_fields Version.Two (part_fields id part) ≡ Ok (an_inventory id part)
line_of_fields-part_fields id part le some bytes = rw (number_in-hex_of 1 id (omega (arith, le)), bytes_in-encode_lower part bytes, length-hex_of 1 id, is_some_text-encode_lower part some) refl

-- the four bytes of a reading
abbrev pub bytes_of_reading : SensorReading → List ℕ
bytes_of_reading sensor = sensor.reading.raw ∷ sensor.reading.flags ∷ sensor.reading.status ∷ sensor.reading.more ∷ []

pub AreBytes-bytes_of_reading : (sensor : SensorReading) → IsSensorReading sensor
    → AreBytes (bytes_of_reading sensor)
AreBytes-bytes_of_reading sensor ok =
    let cons = All-cons (λ (b : ℕ). b < 256) in
    let r = sensor.reading in
    cons r.raw (r.flags ∷ r.status ∷ r.more ∷ []) ok.raw (cons r.flags (r.status ∷ r.more ∷ []) ok.flags (cons r.status (r.more ∷ []) ok.status (cons r.more [] ok.more (All-nil (λ (b : ℕ). b < 256)))))

number_in-lun : (lun : ℕ) → lun ≤ 3 → number_in 1 (48 ∷ drop 1 (hex_of 1 lun)) ≡ Some lun
unfolding decode_pairs encode_with
number_in-lun = of_lun (λ lun. number_in 1 (48 ∷ drop 1 (hex_of 1 lun)) ≡ Some lun) refl refl refl refl

pub line_of_fields-reading_fields : (sensor : SensorReading) → sensor.lun ≤ 3
    → IsSensorReading sensor → line_of_fields Version.Two (reading_fields sensor)
    ≡ Ok (a_reading sensor.lun sensor.number (bytes_of_reading sensor))
line_of_fields-reading_fields sensor le ok =
    let bytes = bytes_of_reading sensor in
    let len : length (drop 1 (hex_of 1 sensor.lun)) ≡ 1 = ap length (drop_hex_of_lun sensor.lun le) in
    rw (number_in-lun sensor.lun le, number_in-hex_of 1 sensor.number ok.number, bytes_in-encode_lower bytes (AreBytes-bytes_of_reading sensor ok), len, length-hex_of 1 sensor.number, is_some_text-encode_lower bytes (omega arith)) refl

pub line_of_fields-info : (shelf : Shelf) (bytes : List ℕ) → IsInfo bytes
    → line_of_fields Version.Two (codes "info" ∷ word_of shelf ∷ encode_lower bytes ∷ [])
    ≡ Ok (an_info shelf bytes)
line_of_fields-info shelf bytes ok = let len = ok.len in by shelf ∙ rw (bytes_in-encode_lower bytes ok.all, is_some_text-encode_lower bytes (omega (arith, len))) refl
  where
    by : (s : Shelf) → line_of_fields Version.Two (codes "info" ∷ word_of s ∷ encode_lower bytes ∷ [])
        ≡ (if is_some_text (encode_lower bytes)
        then ok_or (option_map (λ b. an_info s b) (bytes_in (encode_lower bytes))) (digits_fault (encode_lower bytes))
        else Err (LineFault.Line LineCause.InfoFields))
    by Sdr = refl
    by Sel = refl
