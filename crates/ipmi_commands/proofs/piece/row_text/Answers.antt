use Rattle.std.proofs.Common.{rules}
use Rattle.ipmi_commands.proofs.AskLemmas.{passed}
use Rattle.ipmi_commands.proofs.piece.row_text.Goals as goal

pub returns-in_err-record-in-Record-clause-honest : goal.returns-in_err-record-in-Record-clause-honest
returns-in_err-record-in-Record-clause-honest g c = search rules

pub returns-in_err-block-in-Block-clause-honest : goal.returns-in_err-block-in-Block-clause-honest
returns-in_err-block-in-Block-clause-honest g c = search rules

pub returns-in_err-device-in-Device-clause-honest : goal.returns-in_err-device-in-Device-clause-honest
returns-in_err-device-in-Device-clause-honest g c = λ h.
    rw (c.in-Device.is, passed _ _ c.from_residual-in_err-device-in-Device.ensures.1) (c.in_err-device-in-Device.ensures.honest h c.args.lent.now.id c.args.lent.now.next)

pub returns-in_ok-device-in-Device-clause-honest : goal.returns-in_ok-device-in-Device-clause-honest
returns-in_ok-device-in-Device-clause-honest g c = λ h.
    rw c.in-Device.is (c.in_ok-device-in-Device.ensures.honest h c.args.lent.now.id c.args.lent.now.next)
