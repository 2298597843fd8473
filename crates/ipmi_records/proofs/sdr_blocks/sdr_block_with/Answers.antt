use Rattle.std.proofs.Common.{arith}
use Rattle.std.proofs.lemmas.Grind.{common_steps}
use Rattle.ipmi_records.proofs.sdr_blocks.sdr_block_with.Goals as goal

pub returns : goal.returns
returns c = grind (arith, common_steps)
