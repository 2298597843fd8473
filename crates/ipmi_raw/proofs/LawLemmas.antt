-- A text represents at most one reply.
use Rattle.std.proofs.Common.{◌⊎◌, inl, inr, ◌≡◌, ◌≢◌, Bool, true, false, cond, ℕ, ◌+◌, ◌<◌, ◌&&◌, ◌==◌, nat_lt, ◌%◌, ◌++◌, List, [], ◌∷◌, refl, sym, ap, ◌∙◌, arith, codes}
use Rattle.std.proofs.lemmas.List.{append_cancel_left}
use Rattle.std.proofs.lemmas.List.Elements.{All-tail}
use Rattle.ipmi_text.specs.Bytes.{AreBytes}
use Rattle.ipmi_raw.specs.declared.reply.Reply.TheVariants.{Data, Refused, Silent}
use Rattle.ipmi_raw.specs.declared.request.Request.{Request}
use Rattle.ipmi_raw.specs.declared.tool.Tool.{Tool}
use Rattle.ipmi_raw.specs.declared.tool.Tool.TheVariants.{Ipmitool, FreeIpmi}
use Rattle.ipmi_raw.specs.Words.{word, break_before, ending, words_from}
use Rattle.ipmi_raw.specs.Request.{command_of}
use Rattle.ipmi_raw.specs.Ipmitool as ipmitool_text
use Rattle.ipmi_raw.specs.FreeIpmi as freeipmi_text
use Rattle.ipmi_raw.specs.Laws.{OneReply}
use Rattle.ipmi_raw.proofs.WordLemmas.{same_word}
use Rattle.ipmi_raw.proofs.IpmitoolLemmas.{same_code}

unequal : (a b : ℕ) → (a < b) ⊎ (b < a) → a ≢ b
unequal a b apart e = omega (arith, apart, e)

no_word_after : (breaks : Bool) (byte : ℕ) (rest : List ℕ) → ending Ipmitool ≢ cond breaks (codes "\n") [] ++ (word Ipmitool byte ++ rest)
no_word_after true byte rest e = absurd (unequal 46 32 (inr (omega arith)) cc)
no_word_after false byte rest e = absurd (unequal 10 32 (inl (omega arith)) cc)

-- the ending does not begin with a word
no_word_at_end : (tool : Tool) (i byte : ℕ) (rest : List ℕ) → ending tool ≢ break_before tool i ++ (word tool byte ++ rest)
no_word_at_end Ipmitool i byte rest e = no_word_after (nat_lt 0 i && (i % 16 == 0)) byte rest e
no_word_at_end FreeIpmi i byte rest e = cc

-- equal texts of words have equal bytes
same_words : (tool : Tool) (i : ℕ) (xs ys : List ℕ) → AreBytes xs → AreBytes ys → words_from tool i xs ≡ words_from tool i ys → xs ≡ ys
same_words tool i [] [] are are2 e = refl
same_words tool i [] (y ∷ ys) are are2 e = absurd (no_word_at_end tool i y (words_from tool (i + 1) ys) e)
same_words tool i (x ∷ xs) [] are are2 e = absurd (no_word_at_end tool i x (words_from tool (i + 1) xs) (sym e))
same_words tool i (x ∷ xs) (y ∷ ys) are are2 e =
    let words = append_cancel_left (break_before tool i) (word tool x ++ words_from tool (i + 1) xs) (word tool y ++ words_from tool (i + 1) ys) e in
    let same = same_word tool x y (words_from tool (i + 1) xs) (words_from tool (i + 1) ys) (are 0 x (omega arith)) (are2 0 y (omega arith)) words in
    let rest = same_words tool (i + 1) xs ys (All-tail (λ (b : ℕ). b < 256) x xs are) (All-tail (λ (b : ℕ). b < 256) y ys are2) same.1 in
    cc (same.0, rest)

-- ---- FreeIPMI

same_received : (request : Request) (a b : ℕ) (xs ys : List ℕ) → a < 256 → b < 256 → AreBytes xs → AreBytes ys
    → freeipmi_text.received request a xs ≡ freeipmi_text.received request b ys → (a ≡ b) × (xs ≡ ys)
same_received request a b xs ys lta ltb are are2 e =
    let one : List ℕ = word FreeIpmi a ++ words_from FreeIpmi 0 xs in
    let other : List ℕ = word FreeIpmi b ++ words_from FreeIpmi 0 ys in
    let commands = append_cancel_left (codes "rcvd:") (word FreeIpmi (command_of request) ++ one) (word FreeIpmi (command_of request) ++ other) e in
    let codes_are = append_cancel_left (word FreeIpmi (command_of request)) one other commands in
    let same = same_word FreeIpmi a b (words_from FreeIpmi 0 xs) (words_from FreeIpmi 0 ys) lta ltb codes_are in
    (same.0, same_words FreeIpmi 0 xs ys are are2 same.1)

other_front : (request : Request) (code : ℕ) (bytes rest : List ℕ) → 105 ∷ rest ≢ freeipmi_text.received request code bytes
other_front request code bytes rest e = absurd (unequal 105 114 (inl (omega arith)) cc)

not_received : (request : Request) (code : ℕ) (bytes text : List ℕ) → freeipmi_text.IsSilence text → text ≢ freeipmi_text.received request code bytes
not_received request code bytes text (inl is) e = other_front request code bytes _ (sym is ∙ e)
not_received request code bytes text (inr (inl is)) e = other_front request code bytes _ (sym is ∙ e)
not_received request code bytes text (inr (inr (inl is))) e = other_front request code bytes _ (sym is ∙ e)
not_received request code bytes text (inr (inr (inr is))) e = other_front request code bytes _ (sym is ∙ e)

pub one_reply_of_freeipmi : OneReply freeipmi_text.IsReplyText
one_reply_of_freeipmi request (Data xs) (Data ys) text is is2 =
    ap Data (same_received request 0 0 xs ys (omega arith) (omega arith) is.0.1 is2.0.1 (sym is.1 ∙ is2.1)).1
one_reply_of_freeipmi request (Data xs) (Refused b) text is is2 =
    let same = same_received request 0 b xs is2.2.0 (omega arith) is2.1 is.0.1 is2.2.1.1 (sym is.1 ∙ is2.2.2) in
    absurd (omega (arith, same.0, is2.0))
one_reply_of_freeipmi request (Data xs) Silent text is is2 = absurd (not_received request 0 xs text is2 is.1)
one_reply_of_freeipmi request (Refused a) (Data ys) text is is2 =
    let same = same_received request a 0 is.2.0 ys is.1 (omega arith) is.2.1.1 is2.0.1 (sym is.2.2 ∙ is2.1) in
    absurd (omega (arith, same.0, is.0))
one_reply_of_freeipmi request (Refused a) (Refused b) text is is2 =
    ap Refused (same_received request a b is.2.0 is2.2.0 is.1 is2.1 is.2.1.1 is2.2.1.1 (sym is.2.2 ∙ is2.2.2)).0
one_reply_of_freeipmi request (Refused a) Silent text is is2 = absurd (not_received request a is.2.0 text is2 is.2.2)
one_reply_of_freeipmi request Silent (Data ys) text is is2 = absurd (not_received request 0 ys text is is2.1)
one_reply_of_freeipmi request Silent (Refused b) text is is2 = absurd (not_received request b is2.2.0 text is is2.2.2)
one_reply_of_freeipmi request Silent Silent text is is2 = refl

-- ---- ipmitool

not_refused : (request : Request) (bytes rest : List ℕ) → words_from Ipmitool 0 bytes ≢ ipmitool_text.refusal request ++ rest
not_refused request [] rest e = absurd (unequal 10 85 (inl (omega arith)) cc)
not_refused request (byte ∷ bytes) rest e = absurd (unequal 32 85 (inl (omega arith)) cc)

same_code_text : (request : Request) (a b : ℕ) (meaning other : List ℕ) → a < 256 → b < 256
    → ipmitool_text.refusal request ++ (codes " rsp=0x" ++ ipmitool_text.code_text a meaning)
    ≡ ipmitool_text.refusal request ++ (codes " rsp=0x" ++ ipmitool_text.code_text b other)
    → a ≡ b
same_code_text request a b meaning other lta ltb e =
    let after = append_cancel_left (ipmitool_text.refusal request) (codes " rsp=0x" ++ ipmitool_text.code_text a meaning)
    (codes " rsp=0x" ++ ipmitool_text.code_text b other) e in
    let coded = append_cancel_left (codes " rsp=0x") (ipmitool_text.code_text a meaning) (ipmitool_text.code_text b other) after in
    (same_code a b (meaning ++ ending Ipmitool) (other ++ ending Ipmitool) lta ltb coded).0

not_silent : (request : Request) (code : ℕ) (meaning : List ℕ)
    → ipmitool_text.refusal request ++ codes ")\n. \n"
    ≢ ipmitool_text.refusal request ++ (codes " rsp=0x" ++ ipmitool_text.code_text code meaning)
not_silent request code meaning e =
    let after = append_cancel_left (ipmitool_text.refusal request) (codes ")\n. \n") (codes " rsp=0x" ++ ipmitool_text.code_text code meaning) e in
    absurd (unequal 41 32 (inr (omega arith)) cc)

pub one_reply_of_ipmitool : OneReply ipmitool_text.IsReplyText
one_reply_of_ipmitool request (Data xs) (Data ys) text is is2 = ap Data (same_words Ipmitool 0 xs ys is.0.1 is2.0.1 (sym is.1 ∙ is2.1))
one_reply_of_ipmitool request (Data xs) (Refused b) text is is2 =
    absurd (not_refused request xs (codes " rsp=0x" ++ ipmitool_text.code_text b is2.2.0) (sym is.1 ∙ is2.2.2))
one_reply_of_ipmitool request (Data xs) Silent text is is2 = absurd (not_refused request xs (codes ")\n. \n") (sym is.1 ∙ is2))
one_reply_of_ipmitool request (Refused a) (Data ys) text is is2 =
    absurd (not_refused request ys (codes " rsp=0x" ++ ipmitool_text.code_text a is.2.0) (sym is2.1 ∙ is.2.2))
one_reply_of_ipmitool request (Refused a) (Refused b) text is is2 =
    ap Refused (same_code_text request a b is.2.0 is2.2.0 is.1 is2.1 (sym is.2.2 ∙ is2.2.2))
one_reply_of_ipmitool request (Refused a) Silent text is is2 = absurd (not_silent request a is.2.0 (sym is2 ∙ is.2.2))
one_reply_of_ipmitool request Silent (Data ys) text is is2 = absurd (not_refused request ys (codes ")\n. \n") (sym is2.1 ∙ is))
one_reply_of_ipmitool request Silent (Refused b) text is is2 = absurd (not_silent request b is2.2.0 (sym is ∙ is2.2.2))
one_reply_of_ipmitool request Silent Silent text is is2 = refl
