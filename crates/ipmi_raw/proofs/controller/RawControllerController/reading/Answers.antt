use Rattle.std.proofs.Common.{◌≡◌, Some, Err, ap, rules, sym}
use Rattle.ipmi_bus.specs.Seen.{failing_code}
use Rattle.ipmi_text.specs.declared.reading.Reading.{Reading}
use Rattle.ipmi_raw.specs.Answer.{reading_in, value_in}
use Rattle.ipmi_raw.specs.declared.request.Request.TheVariants as Request
use Rattle.ipmi_raw.proofs.AskLemmas.{asks_gave}
use Rattle.ipmi_raw.proofs.controller.RawControllerController.reading.Goals as goal

pub returns-in_err-reply-clause-asks : goal.returns-in_err-reply-clause-asks
returns-in_err-reply-clause-asks g c =
    let same : c.from_residual.result ≡ Err c.in_err-reply.field-0.0 = search rules in
    asks_gave g.P.Peer.brings (g.P.Peer.tool c.args.self.now.peer) (Request.Reading c.args.lun c.args.number)
    (λ given. c.from_residual.result ≡ value_in reading_in given) c.args.self.now c.ask.new.self (Err c.in_err-reply.field-0.0)
    (Some c.in_err-reply.field-0.0.0) (failing_code {T = Reading} c.from_residual.result) (ap (failing_code {T = Reading}) (sym same)) c.in_err-reply.ensures.asks same

pub returns-clause-honest : goal.returns-clause-honest
returns-clause-honest g c = search rules
