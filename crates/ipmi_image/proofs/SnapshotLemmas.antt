-- The lines that name lacking items, and the answers of a controller over a snapshot.
use Rattle.std.proofs.Common.{◌≡◌, ◌==◌, ℕ, ◌+◌, Bool, true, false, true≢false, cond, find, IfSome, not, Option, None, Some, Result, Ok, Err, List, [], ◌∷◌, ◌++◌, length, option_map, refl, sym, ap, ◌∙◌, arith, codes}
use Rattle.std.proofs.lemmas.Bool.Decides.{nat_tests}
use Rattle.ipmi_image.specs.Below.{Busy, Cancelled, class_of, Code, CodeClass, FailsWith, NotPresent, PartFailsWith, Refusal, Sdr, Seen, SmallerPart}
use Rattle.ipmi_image.specs.Prelude.{code_for, ImageFault, is_lack_line, is_third, Item, Lack, lack_of, lack_of_one, lack_of_reading, lacks_then, Line, LineCause, LineFault, may_name, may_refuse, pieces, refuses, saved_after, saved_of_image, saved_of_pieces, store_after, store_of_image, the_end, Version, with_three, with_two}
use Rattle.ipmi_image.proofs.ParseLemmas.{a_word, pieces-join_with_byte}
use Rattle.ipmi_image.proofs.ReadLemmas.{store_of_image-lines}
use Rattle.ipmi_image.proofs.TextLemmas.{Lacks, length_pieces, pieces-more}

-- other than three fields, and other than two

pub not_three : (fields : List (List ℕ)) → ((cause : LineCause) (line : List ℕ → List ℕ → List ℕ → Result Line LineFault)
    → with_three cause line fields ≡ Err (LineFault.Line cause)) → lack_of_reading fields ≡ None
not_three [] none = refl
not_three (a ∷ []) none = refl
not_three (a ∷ b ∷ []) none = refl
not_three (a ∷ b ∷ c ∷ []) none = let e = none LineCause.FirstWord (λ a b c. Ok the_end) in grind arith
not_three (a ∷ b ∷ c ∷ d ∷ more) none = refl

pub not_two : (kind : List ℕ) (fields : List (List ℕ)) → ((cause : LineCause) (line : List ℕ → List ℕ → Result Line LineFault)
    → with_two cause line fields ≡ Err (LineFault.Line cause)) → lack_of_one kind fields ≡ None
not_two kind [] none = refl
not_two kind (a ∷ []) none = refl
not_two kind (a ∷ b ∷ []) none = let e = none LineCause.FirstWord (λ a b. Ok the_end) in grind arith
not_two kind (a ∷ b ∷ c ∷ more) none = refl

-- ---- lines `lacks`

-- the lines after the first one of an image of version 2 give its store
pub store_of_image-second : (text : List ℕ)
    → store_of_image (codes "ipmi-image 2" ++ 10 ∷ text) ≡ store_after Version.Two [] (pieces 10 text)
store_of_image-second text = store_of_image-lines _ (codes "ipmi-image 2") text Version.Two (pieces-more 10 (codes "ipmi-image 2") text header) refl
  where
    header : Lacks 10 (codes "ipmi-image 2")
    header = (pieces-join_with_byte (codes "ipmi-image") (codes "2" ∷ []) (a_word (codes "ipmi-image") refl, (a_word (codes "2") refl, tt))).0

-- what a line and the lines after it say
abbrev pub after_lack : List Lack → List (List ℕ) → Option Lack → Result (List Lack × List (List ℕ)) ImageFault
after_lack before rest (Some lack) = lacks_then (before ++ lack ∷ []) rest
after_lack before rest None = Err (ImageFault.Line (length before + 2))

module _ (before : List Lack) (all line after : List ℕ) (cut : pieces 10 all ≡ line ∷ pieces 10 after) where
  lacks_then_line : lacks_then before (line ∷ pieces 10 after)
      ≡ cond (not (is_lack_line line)) (Ok (before, line ∷ pieces 10 after)) (after_lack before (pieces 10 after) (lack_of line))
  unfolding lacks_then
  lacks_then_line = grind (arith, length_pieces 10 after)

  pub lacks_then_other : is_lack_line line ≡ false → lacks_then before (pieces 10 all) ≡ Ok (before, pieces 10 all)
  lacks_then_other is = rw cut (lacks_then_line ∙ rw is refl)

  pub lacks_then_lack : is_lack_line line ≡ true
      → lacks_then before (pieces 10 all) ≡ after_lack before (pieces 10 after) (lack_of line)
  lacks_then_lack is = rw cut (lacks_then_line ∙ rw is refl)

pub lacks_then_last : (before : List Lack) (all : List ℕ) → pieces 10 all ≡ all ∷ [] → lacks_then before (pieces 10 all) ≡ Ok (before, pieces 10 all)
unfolding lacks_then
lacks_then_last before all is = rw is refl

-- an image of version 3
pub saved_of_image-third : (bytes first text : List ℕ) → pieces 10 bytes ≡ first ∷ pieces 10 text → is_third first ≡ true
    → saved_of_image bytes ≡ saved_after (lacks_then [] (pieces 10 text))
saved_of_image-third bytes first text cut is = ap saved_of_pieces cut ∙ grind (arith, is, length_pieces 10 text)

-- ---- refused requests

-- the first of some items passes the test
find-passes : {T : Type 0} (test : T → Bool) (items : List T) → IfSome (find test items) (λ item. test item ≡ true)
find-passes test [] = tt
find-passes test (item ∷ items) = by (test item) refl (find-passes test items)
  where
    by : (t : Bool) → t ≡ test item → IfSome (find test items) (λ item. test item ≡ true)
        → IfSome (cond t (Some item) (find test items)) (λ item. test item ≡ true)
    by true is more = sym is
    by false is more = more

-- a noted code that ends a request is that of a refusal or of a busy controller
pub code_refuses : (asked : Item) (lacks : List Lack) → IfSome (code_for asked lacks) (λ code. may_refuse code ≡ true)
code_refuses asked lacks =
    by (find (refuses asked) lacks) (find-passes (refuses asked) lacks) (find (may_name asked) lacks) (find-passes (may_name asked) lacks)
  where
    may : (lack : Lack) → may_name asked lack ≡ true → may_refuse lack.code ≡ true
    may lack is = grind (arith, is)

    by : (found : Option Lack) → IfSome found (λ lack. refuses asked lack ≡ true)
        → (naming : Option Lack) → IfSome naming (λ lack. may_name asked lack ≡ true)
        → IfSome (option_map (λ (lack : Lack). lack.code) (elim found [ Some lack ↦ Some lack | None ↦ naming ])) (λ code. may_refuse code ≡ true)
    by None first None is = tt
    by None first (Some lack) is = may lack is
    by (Some lack) is naming other = grind (arith, is)

pub is_lacking : (asked : Item) (lacks : List Lack) → IfSome (code_for asked lacks) (λ code. (length lacks == 0) ≡ false)
is_lacking asked [] = tt
is_lacking asked (lack ∷ lacks) = by (code_for asked (lack ∷ lacks))
  where
    by : (code : Option Code) → IfSome code (λ code. (length (lack ∷ lacks) == 0) ≡ false)
    by None = tt
    by (Some code) = grind (arith, nat_tests)

-- a call that failed with such a code needs no condition
pub fails_without : (ahead : Bool) (P Q P' Q' : Type 0) (code : Code) (old new : Seen) → may_refuse code ≡ true
    → PartFailsWith ahead P Q (class_of code.0) code.0 old new → PartFailsWith ahead P' Q' (class_of code.0) code.0 old new
fails_without ahead P Q P' Q' code old new may = by (class_of code.0) refl
  where
    by : (class : CodeClass) → class ≡ class_of code.0 → PartFailsWith ahead P Q class code.0 old new
        → PartFailsWith ahead P' Q' class code.0 old new
    by Cancelled is fails = fails
    by Busy is fails = fails
    by SmallerPart is fails = absurd (true≢false (sym may ∙ rw (may_refuse, sym is) refl))
    by NotPresent is fails = absurd (true≢false (sym may ∙ rw (may_refuse, sym is) refl))
    by Refusal is fails = fails

pub fails_any : (P Q : Type 0) (class : CodeClass) (code : ℕ) (old new : Seen)
    → PartFailsWith false ⊥ ⊥ class code old new → FailsWith P Q class code old new
fails_any P Q Cancelled code old new fails = fails
fails_any P Q Busy code old new fails = fails
fails_any P Q SmallerPart code old new fails = absurd fails.0
fails_any P Q NotPresent code old new fails = absurd fails.0
fails_any P Q Refusal code old new fails = fails

pub part_fails_any : (ahead : Bool) (P Q : Type 0) (class : CodeClass) (code : ℕ) (old new : Seen)
    → PartFailsWith ahead ⊥ ⊥ class code old new → PartFailsWith ahead P Q class code old new
part_fails_any ahead P Q Cancelled code old new fails = fails
part_fails_any ahead P Q Busy code old new fails = fails
part_fails_any ahead P Q SmallerPart code old new fails = absurd fails.0
part_fails_any ahead P Q NotPresent code old new fails = absurd fails.0
part_fails_any ahead P Q Refusal code old new fails = fails
