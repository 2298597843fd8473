-- A line has no line feed before its last byte: strings are escaped, and a number of RFC 8259 has none.
use Rattle.std.proofs.Common.{◌≡◌, ◌≢◌, ◌+◌, ◌<◌, ◌≤◌, ◌/◌, ◌%◌, ◌++◌, ◌&&◌, ◌||◌, ◌==◌, ℕ, Bool, true, false, cond, inl, inr, nat_le, nat_lt, Option, None, Some, List, [], ◌∷◌, arith, drop, option_and_then, refl, subst}
use Rattle.std.proofs.lemmas.Bool.{and_parts, eqb-true, leb-true, ltb-false, ltb-true, or_cases}
use Rattle.std.proofs.lemmas.Bool.Decides.{nat_tests}
use Rattle.std.proofs.lemmas.Grind.{common_steps}
use Rattle.std.proofs.lemmas.List.Elements.{All-append, All-cons, All-nil}
use Rattle.std.specs.Char.{digit_char, is_ascii_digit}
use Rattle.std.specs.List.{All, list_all, prefix_len}
use Rattle.std.specs.Prelude.{⊤}
use Rattle.json.proofs.Numbered.{document-HasNumbers}
use Rattle.json.proofs.Printed.Trees.{ArePrintable-json_tokens}
use Rattle.json.specs.Json.{Json}
use Rattle.json.specs.Print.{ArePrintable, IsNumber, IsPrintable, begins, ends, escape, escape_byte, escape_letter, print, print_from, quoted, separator, token_text}
use Rattle.json.specs.Token.{Token, bad, begin_array, begin_object, boolean, end_array, end_object, key, null, number, string}
use Rattle.json.specs.Tree.{json_tokens}
use Rattle.json.specs.Word.{after_digits, after_exponent, after_fraction, after_minus, after_number, after_sign, after_whole, head}
use Rattle.ipmi_json.specs.Laws.{IsOneLine}
use Rattle.ipmi_json.specs.Object.{IsLineOfJson}

abbrev IsFree : List ℕ → Type 0
IsFree text = All (λ (byte : ℕ). byte ≢ 10) text

none_free : IsFree []
none_free = All-nil (λ (byte : ℕ). byte ≢ 10)

both_free : (a b : List ℕ) → IsFree a → IsFree b → IsFree (a ++ b)
both_free a b h k = All-append (λ (byte : ℕ). byte ≢ 10) a b h k

more_free : (x : ℕ) (text : List ℕ) → x ≢ 10 → IsFree text → IsFree (x ∷ text)
more_free x text h k = All-cons (λ (byte : ℕ). byte ≢ 10) x text h k

-- bytes above a line feed
above : (text : List ℕ) → list_all (λ (x : ℕ). nat_lt 10 x) text ≡ true → IsFree text
above [] h = none_free
above (x ∷ text) h =
    let parts = and_parts (nat_lt 10 x) (list_all (λ (x : ℕ). nat_lt 10 x) text) h in
    let high : 10 < x = ltb-true 10 x parts.0 in
    more_free x text (omega (arith, high)) (above text parts.1)

-- ---- strings

letter : (x : ℕ) → escape_letter x ≢ 10
letter x = grind (arith, nat_tests)

digit : (d : ℕ) → digit_char d ≢ 10
digit d = grind (arith, nat_tests)

escaped_byte : (x : ℕ) → IsFree (escape_byte x)
unfolding escape_byte
escaped_byte x = by (nat_lt 0 (escape_letter x)) (nat_lt x 32) (λ high. omega (arith, ltb-false x 32 high))
  where
    by : (short low : Bool) → (low ≡ false → x ≢ 10) → IsFree (cond short (92 ∷ escape_letter x ∷ []) (cond low (92 ∷ 117 ∷ 48 ∷ 48 ∷ digit_char (x / 16) ∷ digit_char (x % 16) ∷ []) (x ∷ [])))
    by true low high =
        more_free 92 (escape_letter x ∷ []) (omega arith) (more_free (escape_letter x) [] (letter x) none_free)
    by false true high =
        both_free (92 ∷ 117 ∷ 48 ∷ 48 ∷ []) (digit_char (x / 16) ∷ digit_char (x % 16) ∷ []) (above (92 ∷ 117 ∷ 48 ∷ 48 ∷ []) refl)
        (more_free (digit_char (x / 16)) (digit_char (x % 16) ∷ []) (digit (x / 16)) (more_free (digit_char (x % 16)) [] (digit (x % 16)) none_free))
    by false false high = more_free x [] (high refl) none_free

escaped : (text : List ℕ) → IsFree (escape text)
escaped [] = none_free
escaped (x ∷ text) = both_free (escape_byte x) (escape text) (escaped_byte x) (escaped text)

quoted_free : (text : List ℕ) → IsFree (quoted text)
quoted_free text =
    more_free 34 (escape text ++ 34 ∷ []) (omega arith) (both_free (escape text) (34 ∷ []) (escaped text) (above (34 ∷ []) refl))

-- ---- numbers

-- a text is free of line feeds if what a part of a number leaves of it is
abbrev IsFreeBefore : List ℕ → Option (List ℕ) → Type 0
IsFreeBefore text None = ⊤
IsFreeBefore text (Some rest) = IsFree rest → IsFree text

further : (text next : List ℕ) (left : Option (List ℕ)) → (IsFree next → IsFree text) → IsFreeBefore next left
    → IsFreeBefore text left
further text next None back h = tt
further text next (Some rest) back h = λ free. back (h free)

then : (text : List ℕ) (part : List ℕ → Option (List ℕ)) → ((next : List ℕ) → IsFreeBefore next (part next))
    → (left : Option (List ℕ)) → IsFreeBefore text left → IsFreeBefore text (option_and_then part left)
then text part more None h = tt
then text part more (Some rest) h = further text rest (part rest) h (more rest)

either : (text : List ℕ) (test : Bool) (a b : Option (List ℕ)) → (test ≡ true → IsFreeBefore text a) → IsFreeBefore text b
    → IsFreeBefore text (cond test a b)
either text true a b h k = h refl
either text false a b h k = k

-- without its first byte, which is no line feed
first : (text : List ℕ) → head text ≢ 10 → IsFree (drop 1 text) → IsFree text
first [] apart h = h
first (x ∷ text) apart h = more_free x text apart h

optional : (text : List ℕ) (test : Bool) → (test ≡ true → head text ≢ 10) → IsFree (cond test (drop 1 text) text)
    → IsFree text
optional text true apart h = first text (apart refl) h
optional text false apart h = h

is_byte : (text : List ℕ) (byte : ℕ) → byte ≢ 10 → (head text == byte) ≡ true → head text ≢ 10
is_byte text byte apart is = omega (arith, eqb-true (head text) byte is, apart)

is_one : (text : List ℕ) (a b : ℕ) → a ≢ 10 → b ≢ 10 → ((head text == a) || (head text == b)) ≡ true
    → head text ≢ 10
is_one text a b apart also is = elim (or_cases (head text == a) (head text == b) is) [
  | inl first_is ↦ is_byte text a apart first_is
  | inr second_is ↦ is_byte text b also second_is
]

is_digit : (x : ℕ) → is_ascii_digit x ≡ true → x ≢ 10
is_digit x is =
    let low : 48 ≤ x = leb-true 48 x (and_parts (nat_le 48 x) (nat_le x 57) is).0 in
    omega (arith, low)

one_digit : (x : ℕ) (text : List ℕ) (test : Bool) → (test ≡ true → x ≢ 10)
    → (IsFree (drop (prefix_len is_ascii_digit text) text) → IsFree text)
    → IsFree (drop (cond test (1 + prefix_len is_ascii_digit text) 0) (x ∷ text)) → IsFree (x ∷ text)
one_digit x text true apart more h =
    let rest : drop (1 + prefix_len is_ascii_digit text) (x ∷ text) ≡ drop (prefix_len is_ascii_digit text) text = grind (arith, common_steps) in
    more_free x text (apart refl) (more (rw rest at h))
one_digit x text false apart more h = h

digits_before : (text : List ℕ) → IsFree (drop (prefix_len is_ascii_digit text) text) → IsFree text
digits_before [] h = h
digits_before (x ∷ text) h = one_digit x text (is_ascii_digit x) (is_digit x) (digits_before text) h

digits : (text : List ℕ) → IsFreeBefore text (after_digits text)
digits text = either text (prefix_len is_ascii_digit text == 0) None _ (λ none. tt) (digits_before text)

whole : (text : List ℕ) → IsFreeBefore text (after_whole text)
whole text = either text (head text == 48) _ _ (λ is. first text (is_byte text 48 (omega arith) is)) (digits text)

fraction : (text : List ℕ) → IsFreeBefore text (after_fraction text)
fraction text =
    either text (head text == 46) _ (Some text) (λ is. further text (drop 1 text) _ (first text (is_byte text 46 (omega arith) is)) (digits (drop 1 text)))
    (λ free. free)

exponent : (text : List ℕ) → IsFreeBefore text (after_exponent text)
exponent text =
    let rest = drop 1 text in
    either text ((head text == 101) || (head text == 69)) _ (Some text)
    (λ is. further text rest _ (first text (is_one text 101 69 (omega arith) (omega arith) is))
    (further rest (after_sign rest) _ (optional rest _ (is_one rest 45 43 (omega arith) (omega arith))) (digits (after_sign rest))))
    (λ free. free)

number_free : (text : List ℕ) → IsNumber text → IsFree text
unfolding after_number
number_free text is =
    let parts : IsFreeBefore text (after_number text) =
    then text after_exponent exponent _ (then text after_fraction fraction _
    (further text (after_minus text) _ (optional text _ (is_byte text 45 (omega arith))) (whole (after_minus text)))) in
    subst (IsFreeBefore text) is parts none_free

-- ---- tokens

token_free : (t : Token) → IsPrintable t → IsFree (token_text t)
token_free begin_object h = above (token_text begin_object) refl
token_free end_object h = above (token_text end_object) refl
token_free begin_array h = above (token_text begin_array) refl
token_free end_array h = above (token_text end_array) refl
token_free (key text) h = both_free (quoted text) (58 ∷ []) (quoted_free text) (above (58 ∷ []) refl)
token_free (string text) h = quoted_free text
token_free (number text) h = number_free text h
token_free (boolean true) h = above (token_text (boolean true)) refl
token_free (boolean false) h = above (token_text (boolean false)) refl
token_free null h = above (token_text null) refl
token_free bad h = none_free

separator_free : (comma : Bool) → IsFree (cond comma (44 ∷ []) [])
separator_free true = above (44 ∷ []) refl
separator_free false = none_free

print_free : (after_value : Bool) (ts : List Token) → ArePrintable ts → IsFree (print_from after_value ts)
unfolding print_from ArePrintable
print_free after_value [] h = none_free
print_free after_value (t ∷ ts) h =
    let rest = print_from (ends t) ts in
    both_free (separator after_value t) (token_text t ++ rest) (separator_free (after_value && begins t))
    (both_free (token_text t) rest (token_free t h.0) (print_free (ends t) ts h.1))

-- ---- lines

pub one_line_feed : (j : Json) (text : List ℕ) → IsLineOfJson j text → IsOneLine text
one_line_feed j text h = record {
  line = print (json_tokens j);
  text_is = h.line_is;
  no_line_feed = print_free false (json_tokens j) (ArePrintable-json_tokens j (document-HasNumbers _ j h.reads_back));
}
