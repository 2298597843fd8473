-- The effect of an honest controller's answers on the record that is being read.
use Rattle.std.proofs.Common.{◌≡◌, ℕ, ◌+◌, ◌<◌, Bool, true, false, Option, None, Some, Result, Ok, Err, refl, sym, ◌∙◌, arith, ◌≤◌, inl, inr, IsTrue, IsSome}
use Rattle.std.proofs.lemmas.Bool.{cases_lt}
use Rattle.ipmi_bus.specs.Prelude.{Code, CodeClass, Cancelled, Busy, Refusal, Refused, Shelf, Ended, CallOutcome, Retrieval, Row, KeepsRows, rows_of, class_of, FailsWith, ReserveAnswers, Seen, stays_trans, KeepsStore, MayLoseReservation, IsTroubled, IsRefused, current, StaysHonest, SameRequest, IsReading, HoldsCurrent, HasMet, KeepsHeld, HonestSince, ReadIsHonest, ReadNext, WithinTries, after_trouble, ReserveFails}
use Rattle.ipmi_bus.specs.Retrieval.{IsOpenRecord, HasBytes, CountsTrouble}

-- over a call after which a reservation is current, the shelf keeps its rows
pub rows-kept : (shelf : Shelf) (s s' : Seen) (n : ℕ) → MayLoseReservation shelf s s'
    → KeepsStore s s' → current shelf s' ≡ Some n
    → KeepsRows (rows_of shelf s.store) (rows_of shelf s'.store)
rows-kept shelf s s' n keeps store now = elim (cases_lt s.stores_added s'.stores_added) [
  | inl more ↦ keeps.kept_over_change more n now
  | inr none ↦
      let same : s'.store ≡ s.store = store.stays (omega (arith, store.grows, none)) in
      λ m row found. (row, rw same found, record { id = refl; bytes = refl })
]

-- a call without a result keeps the bytes read so far; the part size, reading ahead and the number of troubles may change
pub reading_kept : (r : Retrieval) (s s' : Seen) (part : ℕ) (ahead : Bool) (troubles : ℕ)
    → MayLoseReservation r.shelf s s' → KeepsStore s s' → (0 < r.have → IsSome r.reservation)
    → IsReading r s → IsReading (record r { part = part; ahead = ahead; troubles = troubles }) s'
reading_kept r s s' part ahead troubles keeps store reserved reading = record { piece = λ some now. at r.reservation refl (reserved some) some now }
  where
    at : (o : Option ℕ) → r.reservation ≡ o → IsSome o → 0 < r.have
        → current r.shelf s' ≡ r.reservation
        → (row : Row) × HasBytes (record r { part = part; ahead = ahead; troubles = troubles }) s' row
    at None is h some now = cc h
    at (Some n) is h some now =
        let held : current r.shelf s' ≡ Some n = now ∙ is in
        let before = reading.piece some (keeps.none_given n held ∙ sym is) in
        let kept = rows-kept r.shelf s s' n keeps store held r.id before.0 before.1.found in
        (kept.0, record { found = kept.1; within = rw kept.2.bytes before.1.within; bytes = rw kept.2.bytes before.1.bytes })

after_reading : (is_cancelled : Bool) (r : Retrieval) (s s' : Seen)
    → MayLoseReservation r.shelf s s' → KeepsStore s s' → (0 < r.have → IsSome r.reservation)
    → IsReading r s → IsReading (after_trouble is_cancelled r) s'
after_reading true r s s' keeps store reserved reading = record { piece = λ some now. absurd (omega arith) }
after_reading false r s s' keeps store reserved reading = reading_kept r s s' r.part r.ahead (r.troubles + 1) keeps store reserved reading

after_have : (is_cancelled : Bool) (r : Retrieval) → (after_trouble is_cancelled r).have ≤ r.have
after_have is_cancelled r = grind arith

-- one more call
module _ (start old : Retrieval) (s s' s'' : Seen) (same : SameRequest start old)
    (since : HonestSince start old s s') (stays : StaysHonest s' s'') where
  all : StaysHonest s s''
  all = stays_trans s s' s'' since.stays stays

  first : s''.stores_added ≡ s.stores_added → s'.stores_added ≡ s.stores_added
  first e = omega (arith, since.stays.store.grows, stays.store.grows)

  -- a reservation is kept
  pub held_on : (new : Retrieval) → MayLoseReservation old.shelf s' s'' → s'.troubles ≤ s''.troubles
      → new.reservation ≡ old.reservation → IsSome start.reservation → s''.troubles ≡ s.troubles
      → KeepsHeld start new s s''
  held_on new keeps grows held some e =
      let before = since.keeps some (omega arith) in
      let given = rw same.shelf at keeps.none_given in
      record { held = held ∙ before.held; none_given = λ n now. before.none_given n (given n now) }

  pub within_calm : IsOpenRecord old → HasMet 0 s' s'' → WithinTries start.tries s s''
  within_calm open_ calm = search arith

  -- an honest controller answered with a trouble
  pub trouble_answers : (is_cancelled : Bool) (new : Retrieval) (result : Result CallOutcome Ended)
      → IsOpenRecord old → MayLoseReservation old.shelf s' s'' → IsTroubled s' s''
      → CountsTrouble is_cancelled old new result
      → (IsTrue s.plain → HoldsCurrent start s → ⊥) → ReadNext start new s s'' result
  trouble_answers is_cancelled new (Ok turn) open_ keeps troubled counts not_plain =
      let goes : HonestSince start (after_trouble is_cancelled old) s s'' = record {
        stays = all;
        reading = after_reading is_cancelled old s' s'' keeps stays.store open_.reserved since.reading;
        keeps = λ some e. absurd (omega arith);
        met = search arith;
        fresh_troubles = omega (arith, since.fresh_troubles, troubled.fresh_troubles);
        plain = λ p holds. absurd (not_plain p holds);
        within = λ e. omega (arith, since.within (first e), after_have is_cancelled old);
      } in
      rw (counts.0, counts.1) goes
  trouble_answers is_cancelled new (Err ended) open_ keeps troubled counts not_plain =
      let given : ReadIsHonest start old s s'' (Err (Ended.GaveUp old.id)) = record {
        stays = all;
        answers = search (arith, counts.2);
        keeps = λ some e. absurd (omega arith);
        plain = λ p holds. absurd (not_plain p holds);
      } in
      rw (counts.0, counts.1) given

  -- an honest controller refused the call
  pub refusal_answers : (new : Retrieval) (code : Code) (result : Result CallOutcome Ended)
      → IsOpenRecord old → MayLoseReservation old.shelf s' s'' → IsRefused code.0 s' s''
      → (result ≡ Err (Refused old.id code)) × (new ≡ old)
      → (IsTrue s.plain → HoldsCurrent start s → ⊥) → ReadNext start new s s'' result
  refusal_answers new code result open_ keeps refused does not_plain =
      let base : ReadIsHonest start old s s'' (Err (Refused old.id code)) = record {
        stays = all;
        answers = search arith;
        keeps = held_on old keeps (omega (arith, refused.troubles)) refl;
        plain = λ p holds. absurd (not_plain p holds);
      } in
      rw (does.0, does.1) base

  -- an honest controller gave a reservation
  pub reserve_given : (n : ℕ) → IsOpenRecord old → old.reservation ≡ None
      → ReserveAnswers old.shelf (Ok n) s' s''
      → HonestSince start (record old { reservation = Some n }) s s''
  reserve_given n open_ none answers =
      let quiet = answers.gives.0 in
      record {
        stays = all;
        reading = record { piece = λ some now. let held = open_.reserved some in cc (held, none) };
        keeps = λ some e. let held = (since.keeps some (omega (arith, quiet.troubles))).held in cc (held, none, some);
        met = search arith;
        fresh_troubles = quiet.fresh_troubles ∙ since.fresh_troubles;
        plain = λ p holds. record { holds = record { held = λ m e. answers.gives.1 ∙ e }; part = (since.plain p holds).part; ahead = (since.plain p holds).ahead };
        within = λ e. since.within (first e);
      }

  -- an honest controller failed the call for a reservation
  pub reserve_failed : (new : Retrieval) (code : Code) (result : Result CallOutcome Ended)
      → IsOpenRecord old → ReserveAnswers old.shelf (Err code) s' s''
      → ReserveFails (class_of code.0) code old new result → ReadNext start new s s'' result
  reserve_failed new code result open_ answers fails = by_class (class_of code.0) answers.gives.0 fails
    where
      not_plain : IsTrue s.plain → HoldsCurrent start s → ⊥
      not_plain p holds = cc (answers.plain (since.stays.plain p))

      by_class : (class : CodeClass) → FailsWith ⊥ ⊥ class code.0 s' s''
          → ReserveFails class code old new result → ReadNext start new s s'' result
      by_class Cancelled troubled does = trouble_answers false new result open_ answers.gives.1 troubled does not_plain
      by_class Busy troubled does = trouble_answers false new result open_ answers.gives.1 troubled does not_plain
      by_class Refusal refused does = refusal_answers new code result open_ answers.gives.1 refused does not_plain
      by_class _ never does = absurd never.0
