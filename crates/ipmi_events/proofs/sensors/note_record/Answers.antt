use Rattle.std.proofs.Common.{arith}
use Rattle.std.proofs.lemmas.Grind.{common_steps}
use Rattle.std.proofs.lemmas.Result.{on_ok_weaker}
use Rattle.ipmi_events.specs.Sensors.{row_of}
use Rattle.ipmi_events.proofs.sensors.note_record.Goals as goal

pub returns : goal.returns
returns c = on_ok_weaker c.note.result (λ is owner lun number o n. grind (arith, common_steps, is (row_of owner lun) number)) c.note.ensures
