use Rattle.std.proofs.Common.{◌≡◌, ℕ, Some, Err, ap, rules, sym}
use Rattle.ipmi_bus.specs.Seen.{failing_code}
use Rattle.ipmi_bus.specs.Shelf.{id_in}
use Rattle.ipmi_raw.specs.Answer.{value_in}
use Rattle.ipmi_raw.specs.declared.request.Request.TheVariants as Request
use Rattle.ipmi_raw.proofs.AskLemmas.{asks_gave}
use Rattle.ipmi_raw.proofs.controller.RawControllerController.reserve.Goals as goal

pub returns-in_err-reply-clause-asks : goal.returns-in_err-reply-clause-asks
returns-in_err-reply-clause-asks g c =
    let same : c.from_residual.result ≡ Err c.in_err-reply.field-0.0 = search rules in
    asks_gave g.P.Peer.brings (g.P.Peer.tool c.args.self.now.peer) (Request.Reserve c.args.shelf)
    (λ given. c.from_residual.result ≡ value_in id_in given) c.args.self.now c.ask.new.self (Err c.in_err-reply.field-0.0)
    (Some c.in_err-reply.field-0.0.0) (failing_code {T = ℕ} c.from_residual.result) (ap (failing_code {T = ℕ}) (sym same)) c.in_err-reply.ensures.asks same
