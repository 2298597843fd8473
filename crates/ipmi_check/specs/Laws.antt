-- What a check says of an honest controller.
use Rattle.std.specs.Prelude.{◌≡◌, ◌⊎◌, true, is_err, List, [], ◌∷◌}
use Rattle.ipmi_commands.specs.Below.{Done, Ending, OnGrowing, Place, Row, Sdr, Seen, Store, WasHeld}
use Rattle.ipmi_image.specs.declared.lack.Lack.{Lack}
use Rattle.ipmi_commands.specs.Plan.{OnWalk}
use Rattle.ipmi_sensors.specs.Sensors.{Found, found_row, Searches, seeks}
use Rattle.ipmi_commands.specs.declared.limits.Tries.{Tries}
use Rattle.ipmi_sensors.specs.declared.sensors.Sought.{Sought}
use Rattle.ipmi_check.specs.Standing.{standing_of}
use Rattle.ipmi_check.specs.Verdict.{verdict_of}
use Rattle.ipmi_check.specs.declared.standing.Standing.{Standing}
use Rattle.ipmi_check.specs.declared.verdict.Verdict.{Verdict}

-- it is sound, has no reading, or has another owner
abbrev pub IsFine : Standing → Type 0
IsFine Standing.Sound = Unit {0}
IsFine Standing.Silent = Unit {0}
IsFine Standing.Elsewhere = Unit {0}
IsFine standing = ⊥

-- each row that a check looks at is fine by the readings of this store
abbrev pub AreFine : List Lack → Sought → Store → List Row → Type 0
AreFine lacks sought store [] = Unit {0}
AreFine lacks sought store (row ∷ rows) =
    (seeks sought row ≡ true → IsFine (standing_of lacks (found_row store row))) × AreFine lacks sought store rows

-- each is fine by a reading that the controller held meanwhile
abbrev pub AreFineWhile : List Lack → Sought → Seen → Seen → List Row → Type 0
AreFineWhile lacks sought s s' [] = Unit {0}
AreFineWhile lacks sought s s' (row ∷ rows) =
    (seeks sought row ≡ true → (store : Store) × WasHeld s s' store × IsFine (standing_of lacks (found_row store row)))
    × AreFineWhile lacks sought s s' rows

-- The walk of the sensor data records finished, and each record that the check looks at is fine: by the one store that the controller
-- held, or, if records were only appended while readings changed, by stores that it held meanwhile.
pub record AllFine (lacks : List Lack) (sought : Sought) (start : Place) (s s' : Seen) : Type 0 where
  pub along : s'.stores_added ≡ s.stores_added
      → OnWalk Sdr start s.store (λ walk end. (end ≡ Done) × AreFine lacks sought s.store walk)
  pub grows : OnGrowing Sdr start s s' (λ log. AreFineWhile lacks sought s s' log)

-- If a check says OK, none that it looks at is in trouble.
abbrev pub OkIsTrue : Type 0
OkIsTrue = (lacks : List Lack) (sought : Sought) (start : Place) (tries : Tries) (s s' : Seen) (found : List Found) (ending : Ending)
    → Searches sought start tries s s' [] found ending → verdict_of lacks found (is_err ending) ≡ Verdict.Ok
    → AllFine lacks sought start s s'

-- A check whose search failed is critical or unknown, over any controller.
abbrev pub FailureIsNotOk : Type 0
FailureIsNotOk = (lacks : List Lack) (found : List Found)
    → (verdict_of lacks found true ≡ Verdict.Critical) ⊎ (verdict_of lacks found true ≡ Verdict.Unknown)
