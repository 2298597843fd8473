-- Reads the words of a text one after the other.
use Rattle.std.proofs.Common.{◌≡◌, ◌≢◌, Bool, true, false, nat_eq, ℕ, ◌+◌, ◌/◌, ◌%◌, ◌<◌, ◌≤◌, ◌++◌, Some, List, [], ◌∷◌, length, slice_index, refl, sym, ap, subst, ◌∙◌, append-nil, arith}
use Rattle.std.proofs.lemmas.List.{append_assoc, append_cancel_left, length-append}
use Rattle.std.proofs.lemmas.List.Elements.{All-tail}
use Rattle.std.proofs.lemmas.Bool.Decides.{Decides-eqb}
use Rattle.std.proofs.lemmas.Slice.Eq.{slice_eq-Decides}
use Rattle.std.specs.Cmp.Lexicographic.{pointwise}
use Rattle.hex.specs.Hex.{hex_digit_value}
use Rattle.hex.proofs.HexLemmas.{IsDigits, IsDigits-lower_digits, IsDigits-upper_digits}
use Rattle.ipmi_text.specs.Bytes.{AreBytes}
use Rattle.ipmi_raw.specs.declared.tool.Tool.{Tool}
use Rattle.ipmi_raw.specs.declared.tool.Tool.TheVariants.{Ipmitool, FreeIpmi}
use Rattle.ipmi_raw.specs.Words.{digits, word, break_before, ending, words_from, AreData}

-- the meaning of `==` on two texts
pub agree : (xs ys : List ℕ) (r : Bool) → r ≡ pointwise nat_eq xs ys → r ≡ true → xs ≡ ys
agree xs ys r says is = (slice_eq-Decides Decides-eqb xs ys r says).0 is

pub differ : (xs ys : List ℕ) (r : Bool) → r ≡ pointwise nat_eq xs ys → r ≡ false → xs ≢ ys
differ xs ys r says is e =
    let same : r ≡ true = (slice_eq-Decides Decides-eqb xs ys r says).1 e in
    cc

pub digits_are : (tool : Tool) → IsDigits (digits tool)
digits_are Ipmitool = IsDigits-lower_digits
digits_are FreeIpmi = IsDigits-upper_digits

pub same_digit : (tool : Tool) (a b : ℕ) → a < 16 → b < 16 → slice_index (digits tool) a ≡ slice_index (digits tool) b → a ≡ b
same_digit tool a b lta ltb e =
    let same : Some a ≡ Some b = sym (digits_are tool a lta) ∙ (ap hex_digit_value e ∙ digits_are tool b ltb) in
    cc

pub same_word : (tool : Tool) (a b : ℕ) (xs ys : List ℕ) → a < 256 → b < 256 → word tool a ++ xs ≡ word tool b ++ ys
    → (a ≡ b) × (xs ≡ ys)
same_word tool a b xs ys lta ltb e =
    let high : slice_index (digits tool) (a / 16) ≡ slice_index (digits tool) (b / 16) = cc in
    let low : slice_index (digits tool) (a % 16) ≡ slice_index (digits tool) (b % 16) = cc in
    let rest : xs ≡ ys = cc in
    let same_high : a / 16 ≡ b / 16 = same_digit tool (a / 16) (b / 16) (omega arith) (omega arith) high in
    let same_low : a % 16 ≡ b % 16 = same_digit tool (a % 16) (b % 16) (omega arith) (omega arith) low in
    (omega arith, rest)

-- the bytes were read from the text, and `rest` is the rest of it: the text consists of the words of these bytes, then those of
-- the rest
pub record IsReadTo (tool : Tool) (text bytes rest : List ℕ) : Type 0 where
  pub whole : (more : List ℕ) → words_from tool (length bytes) more ≡ rest → words_from tool 0 (bytes ++ more) ≡ text
  pub only : (all : List ℕ) → AreBytes all → words_from tool 0 all ≡ text
      → (more : List ℕ) × (all ≡ bytes ++ more) × AreBytes more × (words_from tool (length bytes) more ≡ rest)

pub read_none : (tool : Tool) (text : List ℕ) → IsReadTo tool text [] text
read_none tool text = record { whole = λ more e. e; only = λ all are e. (all, refl, are, e) }

after_one : (tool : Tool) (bytes rest after : List ℕ) (byte : ℕ) (all more : List ℕ) → byte < 256 → rest ≢ ending tool
    → rest ≡ break_before tool (length bytes) ++ (word tool byte ++ after)
    → all ≡ bytes ++ more → AreBytes more → words_from tool (length bytes) more ≡ rest
    → (next : List ℕ) × (all ≡ (bytes ++ byte ∷ []) ++ next) × AreBytes next
    × (words_from tool (length (bytes ++ byte ∷ [])) next ≡ after)
after_one tool bytes rest after byte all [] lt more_follow e eq are e2 = absurd (more_follow (sym e2))
after_one tool bytes rest after byte all (b ∷ next) lt more_follow e eq are e2 =
    let ltb : b < 256 = are 0 b (omega arith) in
    let cut : word tool b ++ words_from tool (length bytes + 1) next ≡ word tool byte ++ after =
    append_cancel_left (break_before tool (length bytes)) (word tool b ++ words_from tool (length bytes + 1) next) (word tool byte ++ after) (e2 ∙ e) in
    let same = same_word tool b byte (words_from tool (length bytes + 1) next) after ltb lt cut in
    let count : length bytes + 1 ≡ length (bytes ++ byte ∷ []) = omega (arith, length-append bytes (byte ∷ [])) in (
      next,
      eq ∙ (ap (λ (x : ℕ). bytes ++ x ∷ next) same.0 ∙ sym (append_assoc bytes (byte ∷ []) next)),
      All-tail (λ (x : ℕ). x < 256) b next are,
      subst (λ (k : ℕ). words_from tool k next ≡ after) count same.1,
    )

pub read_one : (tool : Tool) (text bytes rest after : List ℕ) (byte : ℕ) → IsReadTo tool text bytes rest → byte < 256
    → rest ≢ ending tool → rest ≡ break_before tool (length bytes) ++ (word tool byte ++ after)
    → IsReadTo tool text (bytes ++ byte ∷ []) after
read_one tool text bytes rest after byte r lt more_follow e =
    let count : length (bytes ++ byte ∷ []) ≡ length bytes + 1 = omega (arith, length-append bytes (byte ∷ [])) in
    record {
      whole = λ more f.
          let g : words_from tool (length bytes + 1) more ≡ after = subst (λ (k : ℕ). words_from tool k more ≡ after) count f in
          let h : words_from tool (length bytes) (byte ∷ more) ≡ rest =
          ap (λ (xs : List ℕ). break_before tool (length bytes) ++ (word tool byte ++ xs)) g ∙ sym e in
          ap (words_from tool 0) (append_assoc bytes (byte ∷ []) more) ∙ r.whole (byte ∷ more) h;
      only = λ all are f.
          let o = r.only all are f in
          after_one tool bytes rest after byte all o.0 lt more_follow e o.1 o.2 o.3;
    }

pub read_all : (tool : Tool) (text bytes rest : List ℕ) → IsReadTo tool text bytes rest → rest ≡ ending tool
    → text ≡ words_from tool 0 bytes
read_all tool text bytes rest r e = sym (r.whole [] (sym e)) ∙ ap (words_from tool 0) (append-nil bytes)

no_word : (tool : Tool) (bytes rest all more : List ℕ) → rest ≢ ending tool
    → ((byte : ℕ) (after : List ℕ) → byte < 256 → rest ≢ break_before tool (length bytes) ++ (word tool byte ++ after))
    → all ≡ bytes ++ more → AreBytes more → words_from tool (length bytes) more ≢ rest
no_word tool bytes rest all [] more_follow none eq are e = more_follow (sym e)
no_word tool bytes rest all (b ∷ next) more_follow none eq are e =
    none b (words_from tool (length bytes + 1) next) (are 0 b (omega arith)) (sym e)

pub read_no_more : (tool : Tool) (text bytes rest : List ℕ) → IsReadTo tool text bytes rest → rest ≢ ending tool
    → ((byte : ℕ) (after : List ℕ) → byte < 256 → rest ≢ break_before tool (length bytes) ++ (word tool byte ++ after))
    → (all : List ℕ) → AreData all → text ≢ words_from tool 0 all
read_no_more tool text bytes rest r more_follow none all are e =
    let o = r.only all are.1 (sym e) in
    no_word tool bytes rest all o.0 more_follow none o.1 o.2 o.3

too_many : (tool : Tool) (bytes rest all more : List ℕ) → length bytes ≡ 255 → rest ≢ ending tool → length all ≤ 255
    → all ≡ bytes ++ more → words_from tool (length bytes) more ≢ rest
too_many tool bytes rest all [] full more_follow fits eq e = more_follow (sym e)
too_many tool bytes rest all (b ∷ next) full more_follow fits eq e =
    absurd (omega (arith, ap length eq, length-append bytes (b ∷ next)))

pub read_too_many : (tool : Tool) (text bytes rest : List ℕ) → IsReadTo tool text bytes rest → length bytes ≡ 255
    → rest ≢ ending tool → (all : List ℕ) → AreData all → text ≢ words_from tool 0 all
read_too_many tool text bytes rest r full more_follow all are e =
    let o = r.only all are.1 (sym e) in
    too_many tool bytes rest all o.0 full more_follow are.0 o.1 o.3
