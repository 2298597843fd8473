use Rattle.std.proofs.Common.{◌≡◌, Some, refl, sym, ◌∙◌}
use Rattle.ipmi_image.specs.Controllers.{seen_of}
use Rattle.ipmi_command_tests.proofs.ReadLemmas.{as_read, reads, replies}
use Rattle.ipmi_command_tests.proofs.raw.memory.MemoryPeerPeer.exchange.Goals as goal

pub returns-clause-honest : goal.returns-clause-honest
returns-clause-honest c honest is =
    let sent = c.as_slice.ensures.value ∙ c.request_text-text.ensures in
    let message = c.in-Some.ensures c.args.request is (sym sent) in
    let read : Some c.in-Some-asked_by.asked ≡ Some (as_read c.args.request) =
    sym c.in-Some-asked_by.is
    ∙ (c.asked_by.ensures.is
    ∙ reads c.args.request c.lun.result c.as_slice-2.result.now is (sym c.lun.ensures) (c.as_slice-2.ensures.value ∙ message)) in
    let same : c.in-Some-asked_by.asked ≡ as_read c.args.request = cc in (
      refl,
      replies c.args.self.now.tool c.args.request c.in-Some-asked_by.asked c.answer-answer.result c.print_reply.new.text.items
          (seen_of c.args.self.now.ctl) (seen_of c.answer-answer.new.ctl) same c.print_reply.ensures (c.answer-answer.ensures.honest honest),
    )
