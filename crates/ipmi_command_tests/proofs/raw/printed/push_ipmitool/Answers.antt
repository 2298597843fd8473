use Rattle.std.proofs.Common.{sym, subst}
use Rattle.ipmi_raw.specs.declared.reply.Reply.{Reply}
use Rattle.ipmi_raw.specs.declared.reply.Reply.TheVariants.{Refused}
use Rattle.ipmi_raw.specs.declared.tool.Tool.TheVariants.{Ipmitool}
use Rattle.ipmi_raw.specs.Peer.{IsReplyText}
use Rattle.ipmi_command_tests.specs.Replied.{CanBePrinted}
use Rattle.ipmi_command_tests.proofs.PrintedLemmas.{refused_by_ipmitool}
use Rattle.ipmi_command_tests.proofs.raw.printed.push_ipmitool.Goals as goal

pub returns-in-Refused : goal.returns-in-Refused
returns-in-Refused c =
    let can : CanBePrinted (Refused c.in-Refused.code) = subst CanBePrinted c.in-Refused.is c.requires.can in
    subst (λ (x : Reply). IsReplyText Ipmitool c.args.request x c.push_refused.new.text.items) (sym c.in-Refused.is)
    (refused_by_ipmitool c.args.request c.in-Refused.code c.push_refused.new.text.items can.0 can.1 c.push_refused.ensures)
