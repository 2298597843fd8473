-- What follows if a check says OK.
use Rattle.std.proofs.Common.{◌≡◌, ◌⊎◌, inl, inr, Bool, true, false, if◌then◌else◌, ◌||◌, List, [], ◌∷◌, ◌++◌, Ok, Err, is_err, refl, cond}
use Rattle.ipmi_commands.specs.Below.{Ending, Row, Seen, Store, WasHeld}
use Rattle.ipmi_sensors.specs.Sensors.{AreFoundWhile, Found, found_among, found_row, Searches, seeks}
use Rattle.ipmi_sensors.specs.declared.sensors.Sought.{Sought}
use Rattle.ipmi_check.specs.Laws.{AllFine, AreFine, AreFineWhile, FailureIsNotOk, IsFine, OkIsTrue}
use Rattle.ipmi_check.specs.Standing.{is_in, standing_of}
use Rattle.ipmi_check.specs.Verdict.{has, has_none, verdict_of}
use Rattle.ipmi_image.specs.declared.lack.Lack.{Lack}
use Rattle.ipmi_check.specs.declared.standing.Standing.{Standing}
use Rattle.ipmi_check.specs.declared.verdict.Verdict.{Verdict}

-- what an OK needs
ok_needs : (critical failed none unknown warning : Bool)
    → (if critical then Verdict.Critical else (if failed || (none || unknown) then Verdict.Unknown else (if warning then Verdict.Warning else Verdict.Ok))) ≡ Verdict.Ok
    → (critical ≡ false) × (failed ≡ false) × (unknown ≡ false) × (warning ≡ false)
ok_needs true failed none unknown warning is = absurd (cc is)
ok_needs false true none unknown warning is = absurd (cc is)
ok_needs false false true unknown warning is = absurd (cc is)
ok_needs false false false true warning is = absurd (cc is)
ok_needs false false false false true is = absurd (cc is)
ok_needs false false false false false is = (refl, refl, refl, refl)

fine : (standing : Standing) → is_in Standing.Critical standing ≡ false → is_in Standing.Unknown standing ≡ false
    → is_in Standing.Warning standing ≡ false → IsFine standing
fine Standing.Sound c u w = tt
fine Standing.Warning c u w = absurd (cc w)
fine Standing.Critical c u w = absurd (cc c)
fine Standing.Silent c u w = tt
fine Standing.Elsewhere c u w = tt
fine Standing.Unknown c u w = absurd (cc u)

-- none of these is critical, a warning or unknown
record None_ (lacks : List Lack) (found : List Found) : Type 0 where
  critical : has lacks Standing.Critical found ≡ false
  unknown : has lacks Standing.Unknown found ≡ false
  warning : has lacks Standing.Warning found ≡ false

or_left : (a b : Bool) → (a || b) ≡ false → a ≡ false
or_left false b is = refl
or_left true b is = absurd (cc is)

or_right : (a b : Bool) → (a || b) ≡ false → b ≡ false
or_right false b is = is
or_right true b is = absurd (cc is)

first_fine : (lacks : List Lack) (found : Found) (more : List Found) → None_ lacks (found ∷ more) → IsFine (standing_of lacks found)
first_fine lacks found more none = fine (standing_of lacks found)
    (or_left (is_in Standing.Critical (standing_of lacks found)) (has lacks Standing.Critical more) none.critical)
    (or_left (is_in Standing.Unknown (standing_of lacks found)) (has lacks Standing.Unknown more) none.unknown)
    (or_left (is_in Standing.Warning (standing_of lacks found)) (has lacks Standing.Warning more) none.warning)

rest_none : (lacks : List Lack) (found : Found) (more : List Found) → None_ lacks (found ∷ more) → None_ lacks more
rest_none lacks found more none = record {
  critical = or_right (is_in Standing.Critical (standing_of lacks found)) (has lacks Standing.Critical more) none.critical;
  unknown = or_right (is_in Standing.Unknown (standing_of lacks found)) (has lacks Standing.Unknown more) none.unknown;
  warning = or_right (is_in Standing.Warning (standing_of lacks found)) (has lacks Standing.Warning more) none.warning;
}

-- along a walk, row by row
are_fine : (lacks : List Lack) (sought : Sought) (store : Store) (rows : List Row) → None_ lacks (found_among sought store rows) → AreFine lacks sought store rows
are_fine lacks sought store [] none = tt
are_fine lacks sought store (row ∷ rows) none = with_row (λ more. are_fine lacks sought store rows more) (seeks sought row) refl none
  where
    with_row : (None_ lacks (found_among sought store rows) → AreFine lacks sought store rows) → (one : Bool) → seeks sought row ≡ one → None_ lacks (cond one (found_row store row ∷ []) [] ++ found_among sought store rows)
        → (seeks sought row ≡ true → IsFine (standing_of lacks (found_row store row))) × AreFine lacks sought store rows
    with_row rest true is none = (λ _. first_fine lacks (found_row store row) (found_among sought store rows) none, rest (rest_none lacks (found_row store row) (found_among sought store rows) none))
    with_row rest false is none = (λ sought_. absurd (cc (is, sought_)), rest none)

are_fine_while : (lacks : List Lack) (sought : Sought) (s s' : Seen) (rows : List Row) (found : List Found) → AreFoundWhile sought s s' rows found → None_ lacks found
    → AreFineWhile lacks sought s s' rows
are_fine_while lacks sought s s' [] found are none = tt
are_fine_while lacks sought s s' (row ∷ rows) found are none =
    with_row (λ more. are_fine_while lacks sought s s' rows are.rest are.is_rest more) (seeks sought row) refl (rw are.joined at none)
  where
    with_row : (None_ lacks are.rest → AreFineWhile lacks sought s s' rows) → (one : Bool) → seeks sought row ≡ one → None_ lacks (cond one (found_row are.store row ∷ []) [] ++ are.rest)
        → (seeks sought row ≡ true → (store : Store) × WasHeld s s' store × IsFine (standing_of lacks (found_row store row))) × AreFineWhile lacks sought s s' rows
    with_row rest true is none = (λ _. (are.store, are.held, first_fine lacks (found_row are.store row) are.rest none), rest (rest_none lacks (found_row are.store row) are.rest none))
    with_row rest false is none = (λ sought_. absurd (cc (is, sought_)), rest none)

pub ok_is_true : OkIsTrue
ok_is_true lacks sought start tries s s' found ending searches ok = of_ending ending searches ok
  where
    of_ending : (ending : Ending) → Searches sought start tries s s' [] found ending → verdict_of lacks found (is_err ending) ≡ Verdict.Ok
        → AllFine lacks sought start s s'
    of_ending (Err failure) searches ok =
        let needs = ok_needs (has lacks Standing.Critical found) true (has_none lacks found) (has lacks Standing.Unknown found) (has lacks Standing.Warning found) ok in
        absurd (cc needs.1)
    of_ending (Ok done) searches ok =
        let needs = ok_needs (has lacks Standing.Critical found) false (has_none lacks found) (has lacks Standing.Unknown found) (has lacks Standing.Warning found) ok in
        let none : None_ lacks found = record { critical = needs.0; unknown = needs.2; warning = needs.3 } in
        record {
          along = λ same walk end walks ends. let at = (searches.along same walk end walks ends).0 in (at.0, are_fine lacks sought s.store walk (rw at.1 at none));
          grows = λ first log grew. let g = searches.grows first log grew in (g.0, g.1, are_fine_while lacks sought s s' g.0 g.2.0 g.2.2 (rw g.2.1 at none));
        }

pub failure_is_not_ok : FailureIsNotOk
failure_is_not_ok lacks found = by_critical (has lacks Standing.Critical found)
  where
    by_critical : (critical : Bool) → ((if critical then Verdict.Critical else (if true || (has_none lacks found || has lacks Standing.Unknown found) then Verdict.Unknown else (if has lacks Standing.Warning found then Verdict.Warning else Verdict.Ok))) ≡ Verdict.Critical)
        ⊎ ((if critical then Verdict.Critical else (if true || (has_none lacks found || has lacks Standing.Unknown found) then Verdict.Unknown else (if has lacks Standing.Warning found then Verdict.Warning else Verdict.Ok))) ≡ Verdict.Unknown)
    by_critical true = inl refl
    by_critical false = inr refl
