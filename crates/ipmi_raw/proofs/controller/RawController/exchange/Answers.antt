use Rattle.std.proofs.Common.{◌≡◌, None, Ok, rules, sym, ◌∙◌}
use Rattle.ipmi_raw.specs.Peer.{IsReplyText}
use Rattle.ipmi_raw.proofs.ReplyLemmas.{means, no_reply, unfit, unread}
use Rattle.ipmi_raw.proofs.controller.RawController.exchange.Goals as goal

pub returns-then-is_to-clause-honest : goal.returns-then-is_to-clause-honest
returns-then-is_to-clause-honest g c honest is =
    let came = c.exchange-came.ensures.honest honest is in
    (means c.tool-tool.result (g.P.Peer.tool c.args.self.now.peer) c.args.request c.in_ok-reply.reply c.as_slice.result.now
    (g.P.Peer.seen c.args.self.now.peer) (g.P.Peer.seen c.exchange-came.new.self) c.tool-tool.ensures c.in_ok-reply.ensures
    (rw c.as_slice.ensures.value came.1)).1

pub returns-else-is_to-clause-honest : goal.returns-else-is_to-clause-honest
returns-else-is_to-clause-honest g c honest is =
    let came = c.exchange-came.ensures.honest honest is in
    c.if-is_to.ensures
    (means c.tool-tool.result (g.P.Peer.tool c.args.self.now.peer) c.args.request c.in_ok-reply.reply c.as_slice.result.now
    (g.P.Peer.seen c.args.self.now.peer) (g.P.Peer.seen c.exchange-came.new.self) c.tool-tool.ensures c.in_ok-reply.ensures
    (rw c.as_slice.ensures.value came.1)).0

pub returns-then-is_err-clause-sends : goal.returns-then-is_err-clause-sends
returns-then-is_err-clause-sends g c = (
  c.exchange-came.result,
  c.exchange-came.ensures.brings,
  no_reply (g.P.Peer.tool c.args.self.now.peer) c.args.request c.exchange-came.result c.exchange-came.new.reply.items
      (sym c.is_err.ensures.value ∙ c.if-is_err.true),
)

pub returns-in_err-reply-clause-sends : goal.returns-in_err-reply-clause-sends
returns-in_err-reply-clause-sends g c =
    let none : c.from_residual.result ≡ None = search rules in (
      c.exchange-came.result,
      c.exchange-came.ensures.brings,
      rw none
          (unread c.tool-tool.result (g.P.Peer.tool c.args.self.now.peer) c.args.request c.exchange-came.result c.as_slice.result.now
          c.exchange-came.new.reply.items c.tool-tool.ensures c.as_slice.ensures.value c.in_err-reply.ensures),
    )

pub returns-then-is_to-clause-sends : goal.returns-then-is_to-clause-sends
returns-then-is_to-clause-sends g c =
    let came : c.exchange-came.result ≡ Ok tt = search rules in
    let text : IsReplyText (g.P.Peer.tool c.args.self.now.peer) c.args.request c.in_ok-reply.reply c.exchange-came.new.reply.items = search rules in
    (c.exchange-came.result, c.exchange-came.ensures.brings, (came, text, c.if-is_to.ensures))

pub returns-else-is_to-clause-sends : goal.returns-else-is_to-clause-sends
returns-else-is_to-clause-sends g c = (
  c.exchange-came.result,
  c.exchange-came.ensures.brings,
  unfit c.tool-tool.result (g.P.Peer.tool c.args.self.now.peer) c.args.request c.exchange-came.result c.in_ok-reply.reply
      c.as_slice.result.now c.exchange-came.new.reply.items c.tool-tool.ensures c.as_slice.ensures.value c.in_ok-reply.ensures
      c.if-is_to.ensures,
)
