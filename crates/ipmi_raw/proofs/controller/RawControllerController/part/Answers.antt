use Rattle.std.proofs.Common.{◌≡◌, Some, Err, ap, rules, sym, IfOk, length, take, drop}
use Rattle.ipmi_bus.specs.Seen.{failing_code}
use Rattle.ipmi_bus.specs.declared.controller.Part.{Part}
use Rattle.ipmi_raw.specs.Answer.{data_in, part_in, value_in}
use Rattle.ipmi_raw.specs.Request.{record_part}
use Rattle.ipmi_raw.specs.declared.request.Request.TheVariants as Request
use Rattle.ipmi_raw.proofs.AskLemmas.{asks_gave}
use Rattle.ipmi_raw.proofs.controller.RawControllerController.part.Goals as goal

pub returns-in_err-reply-clause-asks : goal.returns-in_err-reply-clause-asks
returns-in_err-reply-clause-asks g c =
    let same : c.from_residual.result ≡ Err c.in_err-reply.field-0.0 = search rules in
    asks_gave g.P.Peer.brings (g.P.Peer.tool c.args.self.now.peer) (Request.Get (record_part c.args.shelf c.args.reservation c.args.id c.args.offset (length c.args.into.now)))
    (λ given. (c.from_residual.result ≡ value_in part_in given) × IfOk c.from_residual.result (λ part. take part.got c.args.into.now ≡ drop 2 (data_in given))) c.args.self.now c.ask.new.self (Err c.in_err-reply.field-0.0)
    (Some c.in_err-reply.field-0.0.0) (failing_code {T = Part} c.from_residual.result) (ap (failing_code {T = Part}) (sym same)) c.in_err-reply.ensures.asks (same, rw same tt)

pub returns-clause-honest : goal.returns-clause-honest
returns-clause-honest g c = search rules
