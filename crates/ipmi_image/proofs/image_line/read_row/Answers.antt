use Rattle.std.proofs.Common.{arith}
use Rattle.std.proofs.lemmas.Grind.{common_steps}
use Rattle.ipmi_image.proofs.image_line.read_row.Goals as goal

pub returns-in_err-id : goal.returns-in_err-id
returns-in_err-id c = grind (arith, common_steps)

pub parse_next-requires : goal.parse_next-requires
parse_next-requires c = grind (arith, common_steps)

pub returns-in_err-next : goal.returns-in_err-next
returns-in_err-next c = grind (arith, common_steps)
