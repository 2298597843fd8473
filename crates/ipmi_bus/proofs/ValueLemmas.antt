-- The result of reading a value whose last call failed.
use Rattle.std.proofs.Common.{ℕ, ◌≤◌, Option, None, Ok, Err, rules}
use Rattle.ipmi_bus.specs.Types.{ValueFailure}
use Rattle.ipmi_bus.specs.Answers.{ValueAnswers}
use Rattle.ipmi_bus.specs.Prelude.{Code, Ended, Store, Seen, stays_trans, class_of, ValueFailureIs, ReadsValue}
use Rattle.ipmi_bus.proofs.Asking.{HasAsked}

module _ {V : Type 0} (value : Store → Option V) (code : Code) (id troubles tries : ℕ)
    (s s' s'' : Seen) (asked : HasAsked troubles s s')
    (answers : ValueAnswers value (Err code) s' s'') where
  pub value_failed : (ended : Ended) → troubles ≤ tries
      → ValueFailureIs (class_of code.0) code id troubles tries (Err ended)
      → ReadsValue value tries s s'' (Err ended)
  value_failed ended within is = let all = stays_trans s s' s'' asked.stays answers.change.stays in search rules

  pub value_absent : troubles ≤ tries
      → ValueFailureIs (class_of code.0) code id troubles tries (Ok ValueFailure.Absent)
      → ReadsValue value tries s s'' (Ok None)
  value_absent within is = let all = stays_trans s s' s'' asked.stays answers.change.stays in search rules
