-- Why a run ended, in a word.
use Rattle.std.specs.Prelude.{ℕ, codes, List, Option, Some, None}
use Rattle.ipmi_bus.specs.declared.inventory_reader.FruEnded.{FruEnded}
use Rattle.ipmi_bus.specs.declared.step.Ended.{Ended}
use Rattle.ipmi_image.specs.declared.image.ImageFault.{ImageFault}
use Rattle.ipmi_output.specs.declared.failure.Failure.{Failure}
use Rattle.serdimko.specs.declared.run_error.RunError.{RunError}

abbrev pub reason_of_ended : Ended → List ℕ
reason_of_ended (Ended.Cycle id) = codes "cycle"
reason_of_ended (Ended.Missing id) = codes "missing"
reason_of_ended (Ended.Refused id code) = codes "refused"
reason_of_ended (Ended.GaveUp id) = codes "gave_up"
reason_of_ended (Ended.Stalled id) = codes "stalled"
reason_of_ended (Ended.Malformed id) = codes "malformed"

abbrev pub reason_of_inventory : FruEnded → List ℕ
reason_of_inventory FruEnded.Memory = codes "memory"
reason_of_inventory (FruEnded.Refused code) = codes "refused"
reason_of_inventory FruEnded.GaveUp = codes "gave_up"
reason_of_inventory FruEnded.Stalled = codes "stalled"
reason_of_inventory FruEnded.Words = codes "words"

abbrev pub reason_of_failure : Failure → List ℕ
reason_of_failure Failure.Usage = codes "usage"
reason_of_failure (Failure.Image ImageFault.Memory) = codes "memory"
reason_of_failure (Failure.Image fault) = codes "image"
reason_of_failure (Failure.Ended ended) = reason_of_ended ended
reason_of_failure (Failure.Inventory id ended) = reason_of_inventory ended
reason_of_failure (Failure.NamesCycle id) = codes "names_cycle"
reason_of_failure (Failure.NamesMissing id) = codes "names_missing"
reason_of_failure (Failure.NoName name) = codes "no_name"
reason_of_failure Failure.NoInfo = codes "no_info"
reason_of_failure Failure.WriteFault = codes "write"
reason_of_failure Failure.OutOfMemory = codes "memory"

abbrev pub reason_of : Option RunError → List ℕ
reason_of None = codes "finished"
reason_of (Some (RunError.Unread fault)) = codes "unread"
reason_of (Some (RunError.NoImage fault cause)) = codes "image"
reason_of (Some (RunError.Failed failure)) = reason_of_failure failure
reason_of (Some (RunError.Lost said)) = codes "no_reply"
reason_of (Some RunError.Faulty) = codes "faulty"
reason_of (Some RunError.Closed) = codes "write"
