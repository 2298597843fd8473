-- The message of a request, read from its text byte by byte.
use Rattle.std.proofs.Common.{◌≡◌, ◌≢◌, ◌<◌, ◌≤◌, ℕ, ◌++◌, List, [], ◌∷◌, length, refl, sym, ap, ◌∙◌, append-nil, arith}
use Rattle.std.proofs.lemmas.List.{append_assoc, append_cancel_left, length-append}
use Rattle.std.proofs.lemmas.List.Elements.{All-tail}
use Rattle.ipmi_text.specs.Bytes.{AreBytes}
use Rattle.ipmi_raw.specs.declared.tool.Tool.{Tool}
use Rattle.ipmi_raw.specs.Words.{bytes_after, two_digits}
use Rattle.ipmi_raw.proofs.WordLemmas.{same_word}

-- the text consists of the bytes read so far and those of the rest
pub record IsReadTo (tool : Tool) (before end text bytes rest : List ℕ) : Type 0 where
  pub only : (all : List ℕ) → AreBytes all → text ≡ bytes_after tool before all ++ end
      → (more : List ℕ) × (all ≡ bytes ++ more) × AreBytes more × (rest ≡ bytes_after tool before more ++ end)

pub read_none : (tool : Tool) (before end text : List ℕ) → IsReadTo tool before end text [] text
read_none tool before end text = record { only = λ all are e. (all, refl, are, e) }

cut : (tool : Tool) (before end next : List ℕ) (byte : ℕ) → bytes_after tool before (byte ∷ next) ++ end
    ≡ before ++ (two_digits tool byte ++ (bytes_after tool before next ++ end))
cut tool before end next byte =
    append_assoc (before ++ two_digits tool byte) (bytes_after tool before next) end
    ∙ append_assoc before (two_digits tool byte) (bytes_after tool before next ++ end)

no_more : (tool : Tool) (before end bytes rest all more : List ℕ) → rest ≡ end → all ≡ bytes ++ more
    → rest ≡ bytes_after tool before more ++ end → bytes ≡ all
no_more tool before end bytes rest all [] at eq e = sym (eq ∙ append-nil bytes)
no_more tool before end bytes rest all (b ∷ next) at eq e =
    let whole : end ≡ before ++ (two_digits tool b ++ (bytes_after tool before next ++ end)) = sym at ∙ (e ∙ cut tool before end next b) in
    absurd (omega (
      arith,
      ap length whole,
      length-append before (two_digits tool b ++ (bytes_after tool before next ++ end)),
      length-append (bytes_after tool before next) end,
    ))

pub read_all : (tool : Tool) (before end text bytes rest : List ℕ) → IsReadTo tool before end text bytes rest → rest ≡ end
    → (all : List ℕ) → AreBytes all → text ≡ bytes_after tool before all ++ end → bytes ≡ all
read_all tool before end text bytes rest r at all are e =
    let o = r.only all are e in
    no_more tool before end bytes rest all o.0 at o.1 o.3

-- one more byte is read, or there is none
one_more : (tool : Tool) (before end bytes rest all more : List ℕ) → rest ≢ end → all ≡ bytes ++ more → AreBytes more
    → rest ≡ bytes_after tool before more ++ end
    → (byte : ℕ) × (next : List ℕ) × (more ≡ byte ∷ next) × (byte < 256) × AreBytes next
    × (rest ≡ before ++ (two_digits tool byte ++ (bytes_after tool before next ++ end)))
one_more tool before end bytes rest all [] not_at eq are e = absurd (not_at e)
one_more tool before end bytes rest all (b ∷ next) not_at eq are e =
    (b, next, refl, are 0 b (omega arith), All-tail (λ (x : ℕ). x < 256) b next are, e ∙ cut tool before end next b)

pub read_no_front : (tool : Tool) (before end text bytes rest : List ℕ) → IsReadTo tool before end text bytes rest → rest ≢ end
    → ((after : List ℕ) → rest ≢ before ++ after) → (all : List ℕ) → AreBytes all
    → text ≢ bytes_after tool before all ++ end
read_no_front tool before end text bytes rest r not_at none all are e =
    let o = r.only all are e in
    let m = one_more tool before end bytes rest all o.0 not_at o.1 o.2 o.3 in
    none (two_digits tool m.0 ++ (bytes_after tool before m.1 ++ end)) m.5

pub read_no_byte : (tool : Tool) (before end text bytes rest digits : List ℕ) → IsReadTo tool before end text bytes rest → rest ≢ end
    → rest ≡ before ++ digits → ((byte : ℕ) (after : List ℕ) → byte < 256 → digits ≢ two_digits tool byte ++ after)
    → (all : List ℕ) → AreBytes all → text ≢ bytes_after tool before all ++ end
read_no_byte tool before end text bytes rest digits r not_at front none all are e =
    let o = r.only all are e in
    let m = one_more tool before end bytes rest all o.0 not_at o.1 o.2 o.3 in
    none m.0 (bytes_after tool before m.1 ++ end) m.3
    (append_cancel_left before digits (two_digits tool m.0 ++ (bytes_after tool before m.1 ++ end)) (sym front ∙ m.5))

pub read_too_many : (tool : Tool) (before end text bytes rest : List ℕ) → IsReadTo tool before end text bytes rest → rest ≢ end
    → length bytes ≡ 8 → (all : List ℕ) → length all ≤ 8 → AreBytes all → text ≢ bytes_after tool before all ++ end
read_too_many tool before end text bytes rest r not_at full all fits are e =
    let o = r.only all are e in
    let m = one_more tool before end bytes rest all o.0 not_at o.1 o.2 o.3 in
    absurd (omega (arith, ap length o.1, length-append bytes o.0, ap length m.2))

pub read_one : (tool : Tool) (before end text bytes rest digits after : List ℕ) (byte : ℕ) → IsReadTo tool before end text bytes rest
    → rest ≢ end → rest ≡ before ++ digits → byte < 256 → digits ≡ two_digits tool byte ++ after
    → IsReadTo tool before end text (bytes ++ byte ∷ []) after
read_one tool before end text bytes rest digits after byte r not_at front lt is = record {
  only = λ all are e.
      let o = r.only all are e in
      let m = one_more tool before end bytes rest all o.0 not_at o.1 o.2 o.3 in
      let left = bytes_after tool before m.1 ++ end in
      let same_text : two_digits tool byte ++ after ≡ two_digits tool m.0 ++ left =
      sym is ∙ append_cancel_left before digits (two_digits tool m.0 ++ left) (sym front ∙ m.5) in
      let same = same_word tool byte m.0 after left lt m.3 (ap (λ (xs : List ℕ). 32 ∷ xs) same_text) in (
        m.1,
        o.1 ∙ (ap (λ (xs : List ℕ). bytes ++ xs) m.2 ∙ (ap (λ (x : ℕ). bytes ++ x ∷ m.1) (sym same.0) ∙ sym (append_assoc bytes (byte ∷ []) m.1))),
        m.4,
        same.1,
      );
}
