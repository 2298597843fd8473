-- Completion codes in ipmitool's output, and texts that it does not print for any reply to a request.
use Rattle.std.proofs.Common.{get_or, ◌≡◌, ◌≢◌, ◌⊎◌, inl, inr, ℕ, ◌-◌, ◌/◌, ◌%◌, ◌<◌, ◌≤◌, ◌++◌, true, false, None, Some, List, [], ◌∷◌, length, take, drop, slice_index, refl, sym, ap, ◌∙◌, arith, codes, nat_le, nat_eq, not, Bool, MatchBool}
use Rattle.std.specs.List.{list_any}
use Rattle.std.proofs.lemmas.Bool.{lt-ltb, le-ltb}
use Rattle.std.proofs.lemmas.Bool.Decides.{leb_tells}
use Rattle.std.proofs.lemmas.List.{append_cancel_left, append_cancel_right, take_all}
use Rattle.hex.specs.Hex.{hex_digit_value}
use Rattle.ipmi_raw.specs.declared.reply.Reply.{Reply}
use Rattle.ipmi_raw.specs.declared.reply.Reply.TheVariants.{Data, Refused, Silent}
use Rattle.ipmi_raw.specs.declared.request.Request.{Request}
use Rattle.ipmi_raw.specs.declared.tool.Tool.TheVariants.{Ipmitool}
use Rattle.ipmi_raw.specs.Words.{digits, two_digits, number, ending, words_from, AreData}
use Rattle.ipmi_raw.specs.Ipmitool.{refusal, IsMeaning, code_text, IsReplyText}
use Rattle.ipmi_raw.proofs.WordLemmas.{digits_are, same_digit}

-- a hex digit in ipmitool's letter case
abbrev pub digit : ℕ → ℕ
digit value = slice_index (digits Ipmitool) value

-- the text after the digits of a code: the closing bracket, then `after`
abbrev Closed : List ℕ → List ℕ
Closed after = codes "): " ++ after

-- a code has one or two digits
by_size : (code : ℕ) → ((code < 16) × (number Ipmitool code ≡ digit code ∷ [])) ⊎ ((16 ≤ code) × (number Ipmitool code ≡ two_digits Ipmitool code))
by_size code = of (leb_tells 16 code)
  where
    of : ((nat_le 16 code ≡ true) × (16 ≤ code)) ⊎ ((nat_le 16 code ≡ false) × (code < 16))
        → ((code < 16) × (number Ipmitool code ≡ digit code ∷ [])) ⊎ ((16 ≤ code) × (number Ipmitool code ≡ two_digits Ipmitool code))
    of (inl is) = inr (is.1, rw (le-ltb code 16 is.1) refl)
    of (inr is) = inl (is.1, rw (lt-ltb code 16 is.1) refl)

-- no digit is a closing bracket
no_bracket : (value : ℕ) → value < 16 → digit value ≢ 41
no_bracket value lt e =
    let none : hex_digit_value (digit value) ≡ None = ap hex_digit_value e in
    let some : hex_digit_value (digit value) ≡ Some value = digits_are Ipmitool value lt in
    cc

short_text : (code : ℕ) (text after : List ℕ) → number Ipmitool code ≡ digit code ∷ []
    → text ≡ number Ipmitool code ++ Closed after → text ≡ digit code ∷ Closed after
short_text code text after is e = e ∙ ap (λ (xs : List ℕ). xs ++ Closed after) is

long_text : (code : ℕ) (text after : List ℕ) → number Ipmitool code ≡ two_digits Ipmitool code
    → text ≡ number Ipmitool code ++ Closed after → text ≡ digit (code / 16) ∷ digit (code % 16) ∷ Closed after
long_text code text after is e = e ∙ ap (λ (xs : List ℕ). xs ++ Closed after) is

pub no_code : (text rest : List ℕ) (first : ℕ) → text ≡ first ∷ rest
    → ((value : ℕ) → value < 16 → digit value ≡ first → (after : List ℕ) → rest ≢ codes "): " ++ after)
    → ((high low : ℕ) → 1 ≤ high → high < 16 → low < 16 → digit high ≡ first → (after : List ℕ) → rest ≢ digit low ∷ (codes "): " ++ after))
    → (code : ℕ) (after : List ℕ) → code < 256 → text ≢ number Ipmitool code ++ (codes "): " ++ after)
no_code text rest first is short long code after lt e = of (by_size code)
  where
    of : ((code < 16) × (number Ipmitool code ≡ digit code ∷ [])) ⊎ ((16 ≤ code) × (number Ipmitool code ≡ two_digits Ipmitool code)) → ⊥
    of (inl size) =
        let all : first ∷ rest ≡ digit code ∷ Closed after = sym is ∙ short_text code text after size.1 e in
        let same : digit code ≡ first = cc in
        let others : rest ≡ Closed after = cc in
        short code size.0 same after others
    of (inr size) =
        let all : first ∷ rest ≡ digit (code / 16) ∷ digit (code % 16) ∷ Closed after = sym is ∙ long_text code text after size.1 e in
        let same : digit (code / 16) ≡ first = cc in
        let others : rest ≡ digit (code % 16) ∷ Closed after = cc in
        long (code / 16) (code % 16) (omega (arith, size.0)) (omega arith) (omega arith) same after others

-- codes with equal texts are equal
pub same_code : (a b : ℕ) (xs ys : List ℕ) → a < 256 → b < 256
    → number Ipmitool a ++ (codes "): " ++ xs) ≡ number Ipmitool b ++ (codes "): " ++ ys) → (a ≡ b) × (xs ≡ ys)
same_code a b xs ys lta ltb e = of (by_size a) (by_size b)
  where
    text : List ℕ
    text = number Ipmitool b ++ (codes "): " ++ ys)

    of : ((a < 16) × (number Ipmitool a ≡ digit a ∷ [])) ⊎ ((16 ≤ a) × (number Ipmitool a ≡ two_digits Ipmitool a))
        → ((b < 16) × (number Ipmitool b ≡ digit b ∷ [])) ⊎ ((16 ≤ b) × (number Ipmitool b ≡ two_digits Ipmitool b))
        → (a ≡ b) × (xs ≡ ys)
    of (inl p) (inl q) =
        let all : digit a ∷ Closed xs ≡ digit b ∷ Closed ys =
        sym (short_text a (number Ipmitool a ++ Closed xs) xs p.1 refl) ∙ short_text b (number Ipmitool a ++ Closed xs) ys q.1 e in
        let heads : digit a ≡ digit b = cc in
        (same_digit Ipmitool a b p.0 q.0 heads, cc)
    of (inl p) (inr q) =
        let all : digit a ∷ Closed xs ≡ digit (b / 16) ∷ digit (b % 16) ∷ Closed ys =
        sym (short_text a (number Ipmitool a ++ Closed xs) xs p.1 refl) ∙ long_text b (number Ipmitool a ++ Closed xs) ys q.1 e in
        let mark : digit (b % 16) ≡ 41 = cc in
        absurd (no_bracket (b % 16) (omega arith) mark)
    of (inr p) (inl q) =
        let all : digit (a / 16) ∷ digit (a % 16) ∷ Closed xs ≡ digit b ∷ Closed ys =
        sym (long_text a (number Ipmitool a ++ Closed xs) xs p.1 refl) ∙ short_text b (number Ipmitool a ++ Closed xs) ys q.1 e in
        let mark : digit (a % 16) ≡ 41 = cc in
        absurd (no_bracket (a % 16) (omega arith) mark)
    of (inr p) (inr q) =
        let all : digit (a / 16) ∷ digit (a % 16) ∷ Closed xs ≡ digit (b / 16) ∷ digit (b % 16) ∷ Closed ys =
        sym (long_text a (number Ipmitool a ++ Closed xs) xs p.1 refl) ∙ long_text b (number Ipmitool a ++ Closed xs) ys q.1 e in
        let highs : digit (a / 16) ≡ digit (b / 16) = cc in
        let lows : digit (a % 16) ≡ digit (b % 16) = cc in
        let rests : xs ≡ ys = cc in
        let high : a / 16 ≡ b / 16 = same_digit Ipmitool (a / 16) (b / 16) (omega arith) (omega arith) highs in
        let low : a % 16 ≡ b % 16 = same_digit Ipmitool (a % 16) (b % 16) (omega arith) (omega arith) lows in
        (omega arith, rests)

-- a text is a code's meaning and the ending, or it is not for any meaning
pub meaning_or_none : (text front : List ℕ) (has_feed : Bool) → text ≡ front ++ ending Ipmitool
    → has_feed ≡ list_any (λ byte. nat_eq byte 10) front
    → MatchBool (not has_feed)
    ((meaning : List ℕ) × IsMeaning meaning × (text ≡ meaning ++ ending Ipmitool))
    ((meaning : List ℕ) → IsMeaning meaning → text ≢ meaning ++ ending Ipmitool)
meaning_or_none text front false e has = (front, sym has, e)
meaning_or_none text front true e has = λ meaning is f.
    let same : front ≡ meaning = append_cancel_right front meaning (ending Ipmitool) (sym e ∙ f) in
    let both : true ≡ false = has ∙ (ap (list_any (λ byte. nat_eq byte 10)) same ∙ is) in
    cc

-- a text that begins like the tool's message for a failed request, but does not continue like one
pub no_reply : (request : Request) (text rest : List ℕ)
    → ((bytes : List ℕ) → AreData bytes → text ≢ words_from Ipmitool 0 bytes)
    → text ≡ refusal request ++ rest → rest ≢ codes ")\n. \n"
    → ((code : ℕ) (meaning : List ℕ) → 0 < code → code < 256 → IsMeaning meaning → rest ≢ codes " rsp=0x" ++ code_text code meaning)
    → (reply : Reply) → ¬ IsReplyText request reply text
no_reply request text rest no_data begins heard none (Data bytes) is = no_data bytes is.0 is.1
no_reply request text rest no_data begins heard none (Refused code) is =
    none code is.2.0 is.0 is.1 is.2.1
    (append_cancel_left (refusal request) rest (codes " rsp=0x" ++ code_text code is.2.0) (sym begins ∙ is.2.2))
no_reply request text rest no_data begins heard none Silent is =
    heard (append_cancel_left (refusal request) rest (codes ")\n. \n") (sym begins ∙ is))

-- a text that does not begin like the tool's message for a failed request, and is not of data
pub no_front : (request : Request) (text front : List ℕ)
    → ((bytes : List ℕ) → AreData bytes → text ≢ words_from Ipmitool 0 bytes)
    → front ≡ refusal request → ((rest : List ℕ) → text ≢ front ++ rest)
    → (reply : Reply) → ¬ IsReplyText request reply text
no_front request text front no_data is none (Data bytes) of = no_data bytes of.0 of.1
no_front request text front no_data is none (Refused code) of =
    none (codes " rsp=0x" ++ code_text code of.2.0) (of.2.2 ∙ ap (λ (xs : List ℕ). xs ++ (codes " rsp=0x" ++ code_text code of.2.0)) (sym is))
no_front request text front no_data is none Silent of =
    none (codes ")\n. \n") (of ∙ ap (λ (xs : List ℕ). xs ++ codes ")\n. \n") (sym is))

-- code 00h is not a failure
pub no_zero : (rest coded after : List ℕ) (found : ℕ) → rest ≡ codes " rsp=0x" ++ coded
    → coded ≡ number Ipmitool found ++ (codes "): " ++ after) → found < 256 → found ≡ 0
    → (code : ℕ) (meaning : List ℕ) → 0 < code → code < 256 → IsMeaning meaning → rest ≢ codes " rsp=0x" ++ code_text code meaning
no_zero rest coded after found begins is lt zero code meaning some lt2 means e =
    let same : coded ≡ code_text code meaning = append_cancel_left (codes " rsp=0x") coded (code_text code meaning) (sym begins ∙ e) in
    let both = same_code found code after (meaning ++ ending Ipmitool) lt lt2 (sym is ∙ same) in
    absurd (omega (arith, both.0, zero, some))

-- a zero that is followed by another digit, or by anything but the closing bracket
pub no_zero_first : (text : List ℕ) (high : ℕ) → 1 ≤ length text → high ≡ 0 → digit high ≡ get_or text 0 0
    → ((rest : List ℕ) → take (length text - 1) (drop 1 text) ≢ codes "): " ++ rest)
    → (code : ℕ) (after : List ℕ) → code < 256 → text ≢ number Ipmitool code ++ (codes "): " ++ after)
no_zero_first [] high some zero is none = absurd (omega arith)
no_zero_first (x ∷ xs) high some zero is none =
    let whole : take (length (x ∷ xs) - 1) xs ≡ xs = take_all (length (x ∷ xs) - 1) xs (omega arith) in
    no_code (x ∷ xs) xs x refl
    (λ value lt same after e. none after (whole ∙ e))
    (λ other low above lt lt2 same after e.
    let equal = same_digit Ipmitool other high lt (omega arith) (same ∙ sym is) in
    absurd (omega (arith, equal, zero, above)))
