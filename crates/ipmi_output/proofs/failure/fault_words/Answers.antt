use Rattle.std.proofs.Common.{rules}
use Rattle.ipmi_output.proofs.failure.fault_words.Goals as goal

pub returns-in-Twice : goal.returns-in-Twice
returns-in-Twice c = search rules
