use Rattle.std.proofs.Common.{rules}
use Rattle.ipmi_program.proofs.labels.labels_of.Goals as goal

pub loop-text-init : goal.loop-text-init
loop-text-init c = search rules
