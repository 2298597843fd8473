-- The counts of a controller while items are left out.
use Rattle.std.proofs.Common.{◌≡◌, ℕ, zero, suc, ◌==◌, false, Option, Err, List, [], ◌∷◌, ◌++◌, refl, sym, ◌∙◌, arith, subst}
use Rattle.std.specs.Prelude.{flat_map}
use Rattle.std.proofs.lemmas.Bool.Decides.{nat_tests}
use Rattle.std.proofs.lemmas.List.Concat.{flat_map-append}
use Rattle.ipmi_capture.specs.Below.{Code, Cycle, CursorState, Ended, FruEnded, GaveUp, InventoryCounts, IsLastPart, IsRefusedWith, Malformed, Missing, PartsCame, Refused, Seen, Shelf, Stalled, StepAnswers, Store, ValueIs, WithinTries}
use Rattle.ipmi_capture.specs.Left.{AreCounted, CountsGrow, HaveStretches, IsStateOf, IsUnreadOver, unread_in, unread_of}
use Rattle.ipmi_capture.specs.Phases.{IsNotPlain}
use Rattle.ipmi_capture.specs.declared.left.Left.{Left}
use Rattle.ipmi_capture.specs.declared.left.Unread.{Unread}

pub is_state : {C : Type 0} (seen : C → Seen) (ctl : C) → IsStateOf seen (seen ctl)
is_state seen ctl = (ctl, refl)

-- ---- nothing is left out

pub grown_none : (s : Seen) → CountsGrow s s
grown_none s = record { troubles = omega arith; refusals = omega arith; code = λ none. refl }

pub grown_within : {tries : ℕ} {s s' : Seen} → WithinTries tries s s' → CountsGrow s s'
grown_within within = record {
  troubles = within.grows;
  refusals = omega (arith, within.refusals);
  code = λ none. within.last_code;
}

pub grown_then : {s s' s'' : Seen} → CountsGrow s s' → CountsGrow s' s'' → CountsGrow s s''
grown_then before later = record {
  troubles = omega (arith, before.troubles, later.troubles);
  refusals = omega (arith, before.refusals, later.refusals);
  code = λ none. later.code (omega (arith, before.refusals, later.refusals, none)) ∙ before.code (omega (arith, before.refusals, later.refusals, none));
}

grown_over : (tries : ℕ) (unread : Unread) {s s' : Seen} → IsUnreadOver tries unread s s' → CountsGrow s s'
grown_over tries Unread.GaveUp up = record {
  troubles = omega (arith, up.troubles);
  refusals = omega (arith, up.refusals);
  code = λ none. up.code;
}
grown_over tries (Unread.Refused code) refused = record {
  troubles = refused.grows;
  refusals = omega (arith, refused.refusals);
  code = λ none. absurd (omega (arith, refused.refusals, none));
}

-- ---- two sequences of calls

module _ (S : Seen → Type 0) (tries : ℕ) where
  stretches_after : (list : List Unread) {s s' : Seen} (s'' : Seen) → CountsGrow s s' → HaveStretches S tries list s' s''
      → HaveStretches S tries list s s''
  stretches_after [] s'' before have = grown_then before have
  stretches_after (unread ∷ list) s'' before have =
      (have.0, have.1, have.2, have.3, grown_then before have.4, have.5, have.6)

  stretches_then : (list more : List Unread) (s s' s'' : Seen) → HaveStretches S tries list s s'
      → HaveStretches S tries more s' s'' → HaveStretches S tries (list ++ more) s s''
  stretches_then [] more s s' s'' have later = stretches_after more s'' have later
  stretches_then (unread ∷ list) more s s' s'' have later =
      (have.0, have.1, have.2, have.3, have.4, have.5, stretches_then list more have.1 s' s'' have.6 later)

  stretches_grow : (list : List Unread) (s s' : Seen) → HaveStretches S tries list s s' → CountsGrow s s'
  stretches_grow [] s s' have = have
  stretches_grow (unread ∷ list) s s' have =
      grown_then have.4 (grown_then (grown_over tries unread have.5) (stretches_grow list have.1 s' have.6))

  pub grown_by : (left : List Left) (s s' : Seen) → AreCounted S tries left s s' → CountsGrow s s'
  grown_by left s s' counts = stretches_grow (flat_map unread_in left) s s' counts

  pub counted_after : (left : List Left) {s s' : Seen} (s'' : Seen) → CountsGrow s s' → AreCounted S tries left s' s''
      → AreCounted S tries left s s''
  counted_after left s'' before counts = stretches_after (flat_map unread_in left) s'' before counts

  pub counted_then : (left more : List Left) (s s' s'' : Seen) → AreCounted S tries left s s'
      → AreCounted S tries more s' s'' → AreCounted S tries (left ++ more) s s''
  counted_then left more s s' s'' before later =
      rw (flat_map-append unread_in left more) (stretches_then (flat_map unread_in left) (flat_map unread_in more) s s' s'' before later)

-- ---- one item

module _ (S : Seen → Type 0) (tries : ℕ) {s s' : Seen} where
  -- an item that was refused or given up
  counted_one : (l : Left) (unread : Unread) → unread_in l ≡ unread ∷ [] → S s → S s' → IsUnreadOver tries unread s s'
      → AreCounted S tries (l ∷ []) s s'
  counted_one l unread is from to over = rw is (s, s', from, to, grown_none s, over, grown_none s')

  pub counted_nothing : (l : Left) → unread_in l ≡ [] → CountsGrow s s' → AreCounted S tries (l ∷ []) s s'
  counted_nothing l is grown = rw is grown

  -- a value
  pub counted_value : {V : Type 0} (value : Store → Option V) (l : Left) (ended : Ended)
      → unread_in l ≡ unread_of ended ∷ [] → S s → S s' → ValueIs value tries s s' (Err ended)
      → AreCounted S tries (l ∷ []) s s'
  counted_value value l (GaveUp n) is from to up =
      counted_one l Unread.GaveUp is from to (record { troubles = up.troubles; refusals = up.refusals; code = up.last_code })
  counted_value value l (Refused n code) is from to refused = counted_one l (Unread.Refused code) is from to refused
  counted_value value l (Cycle n) is from to never = absurd never
  counted_value value l (Missing n) is from to never = absurd never
  counted_value value l (Stalled n) is from to never = absurd never
  counted_value value l (Malformed n) is from to never = absurd never

  -- a record
  pub counted_record : (shelf : Shelf) (c : CursorState) (ended : Ended) → c.tries ≡ tries → S s → S s'
      → StepAnswers c s s' (Err ended) → AreCounted S tries (Left.Records shelf ended ∷ []) s s'
  counted_record shelf c (Cycle n) same from to is = subst (λ (x : Seen). CountsGrow s x) (sym is) (grown_none s)
  counted_record shelf c (Missing n) same from to is = grown_within is.0
  counted_record shelf c (GaveUp n) same from to is =
      counted_one (Left.Records shelf (GaveUp n)) Unread.GaveUp refl from to
      (record { troubles = omega (arith, is.troubles, same); refusals = is.refusals; code = is.last_code })
  counted_record shelf c (Refused n code) same from to is =
      counted_one (Left.Records shelf (Refused n code)) (Unread.Refused code) refl from to (rw same at is)
  counted_record shelf c (Stalled n) same from to is = absurd is
  counted_record shelf c (Malformed n) same from to is = absurd is

-- ---- an inventory, whose size is requested once more after a refusal

grown_each : (S : Seen → Type 0) (tries parts : ℕ) (s s' : Seen) → PartsCame S tries parts s s' → CountsGrow s s'
grown_each S tries zero s s' came = rw came (grown_none s)
grown_each S tries (suc parts) s s' came = grown_then (grown_each S tries parts s came.0 came.1) (grown_within came.4)

-- the parts that brought bytes
pub grown_parts : {S : Seen → Type 0} {tries : ℕ} {s last s' : Seen} → IsLastPart S tries s last s' → CountsGrow s last
grown_parts {S = S} {tries = tries} {s = s} {last = last} is = grown_each S tries is.parts s last is.came

pub last_state : {S : Seen → Type 0} {tries : ℕ} {s last s' : Seen} → S s → IsLastPart S tries s last s' → S last
last_state {S = S} {tries = tries} {s = s} {last = last} from is = by is.parts is.came
  where
    by : (parts : ℕ) → PartsCame S tries parts s last → S last
    by zero came = rw came from
    by (suc parts) came = came.2

-- CBh is not counted as a refusal, and a plain controller may answer it
refused_inventory : {tries : ℕ} {s s' : Seen} (id : ℕ) (code : Code) → IsNotPlain (FruEnded.Refused code)
    → InventoryCounts id tries s s' (Err (FruEnded.Refused code)) → IsRefusedWith tries code.0 s s'
refused_inventory {tries = tries} {s = s} {s' = s'} id code not counts =
    let other : (code.0 == 0xCB) ≡ false = grind (arith, nat_tests, not) in
    by (rw other at counts)
  where
    by : IsRefusedWith tries code.0 s s' → IsRefusedWith tries code.0 s s'
    by refused = refused

module _ (S : Seen → Type 0) (tries : ℕ) {s s' s'' : Seen} where
  pub counted_inventory : (i id : ℕ) (ended : FruEnded) → S s → S s' → IsNotPlain ended
      → InventoryCounts id tries s s' (Err ended) → CountsGrow s' s''
      → AreCounted S tries (Left.Inventory i ended ∷ []) s s''
  counted_inventory i id FruEnded.Memory from to not counts after = absurd (not tt)
  counted_inventory i id FruEnded.GaveUp from to not counts after = (
    s,
    s',
    from,
    to,
    grown_none s,
    record { troubles = counts.troubles; refusals = counts.refusals; code = counts.last_code },
    after,
  )
  counted_inventory i id (FruEnded.Refused code) from to not counts after =
      (s, s', from, to, grown_none s, refused_inventory id code not counts, after)
  counted_inventory i id FruEnded.Stalled from to not counts after = absurd counts
  counted_inventory i id FruEnded.Words from to not counts after = absurd counts

  pub counted_size : (i id : ℕ) (code : Code) → S s → S s' → S s'' → IsNotPlain (FruEnded.Refused code)
      → InventoryCounts id tries s s' (Err (FruEnded.Refused code)) → IsRefusedWith tries code.0 s' s''
      → AreCounted S tries (Left.Size i code ∷ []) s s''
  counted_size i id code from to end not counts again =
      (s, s', from, to, grown_none s, refused_inventory id code not counts, (s', s'', to, end, grown_none s', again, grown_none s''))
