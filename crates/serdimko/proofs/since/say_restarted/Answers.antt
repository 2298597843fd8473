use Rattle.std.proofs.Common.{inl, inr, ℕ, List, Result, Ok, Err}
use Rattle.ipmi_output.specs.Received.{Received, ReceivesText, WritesAll}
use Rattle.serdimko.proofs.since.say_restarted.Goals as goal

received : {T E : Type 0} (old new : Received) (result : Result T E) (text : List ℕ) → WritesAll old new result text → ReceivesText old new text
received old new (Ok done) text all = inl all
received old new (Err error) text part = inr part

pub returns-in-Restarted : goal.returns-in-Restarted
returns-in-Restarted g c = rw c.in-Restarted.is (received _ _ c.write_message.result _ c.write_message.ensures)
