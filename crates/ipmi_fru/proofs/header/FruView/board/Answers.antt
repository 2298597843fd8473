use Rattle.std.proofs.Common.{rules}
use Rattle.ipmi_fru.proofs.header.FruView.board.Goals as goal

pub returns : goal.returns
returns c = search rules
