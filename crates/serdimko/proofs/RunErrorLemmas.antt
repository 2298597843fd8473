-- What is said of a error.
use Rattle.std.proofs.Common.{◌≡◌, Bool, List, ℕ, Option, Result, Some, String, refl, arith}
use Rattle.std.specs.declared.alloc.AllocError.{AllocError}
use Rattle.std.specs.declared.alloc.Global.{Global}
use Rattle.ipmi_output.specs.Failure.{Ending, line_text, write_faults}
use Rattle.serdimko.specs.RunError.{faults_of_error, lost_error, error_of, error_text, said_of_error}
use Rattle.serdimko.specs.declared.run_error.RunError.{RunError}

pub said_unless_closed : (name : List ℕ) (is_only_input : Bool) (error : RunError) → (error ≡ RunError.Closed → ⊥)
    → said_of_error name is_only_input (Some error) ≡ line_text (error_text name is_only_input error)
said_unless_closed name is_only_input (RunError.Unread fault) other = refl
said_unless_closed name is_only_input (RunError.NoImage fault cause) other = refl
said_unless_closed name is_only_input (RunError.Failed failure) other = refl
said_unless_closed name is_only_input (RunError.Lost said) other = refl
said_unless_closed name is_only_input RunError.Faulty other = refl
said_unless_closed name is_only_input RunError.Closed other = absurd (other refl)

-- of a run only a write fault is one of the output
pub run_faults : (said : Result (Option (String Global)) AllocError) (ending : Ending) (faulty closed : Bool)
    → faults_of_error (lost_error said (error_of ending faulty closed)) ≡ write_faults ending
run_faults said ending faulty closed = grind arith
