use Rattle.std.proofs.Common.{◌≡◌, None, Some, refl, ap, subst}
use Rattle.ipmi_raw.specs.declared.reply.Reply.{Reply}
use Rattle.ipmi_raw.specs.declared.reply.Reply.TheVariants.{Silent}
use Rattle.ipmi_raw.specs.Answer.{given, IsAnswer}
use Rattle.ipmi_raw.specs.Controller.{Exchanged}
use Rattle.ipmi_raw.proofs.AskLemmas.{not_both, sends_silence}
use Rattle.ipmi_raw.proofs.ThroughLemmas.{answered_before, still_honest}
use Rattle.ipmi_raw.proofs.controller.RawController.send.Goals as goal

pub returns-then-self-clause-sends : goal.returns-then-self-clause-sends
returns-then-self-clause-sends g c =
    let tool = g.P.Peer.tool c.args.self.now.peer in
    let same = c.in-Some-Silent.ensures.same in
    sends_silence g.P.Peer.brings tool (g.P.Peer.tool c.exchange.new.self.peer) c.args.request (λ reply. None ≡ Some reply) c.args.self.now
    c.exchange.new.self c.endures.new.self c.endures.result
    (subst (λ (reply : Reply). Exchanged g.P.Peer.brings tool c.args.request (Some reply) c.args.self.now.peer c.exchange.new.self.peer c.exchange.new.self.text.items)
    c.in-Some-Silent.field-0-is c.in-Some-Silent.ensures.sends)
    c.in-Some-Silent.ensures.tool (ap (λ r. r.silence.silent) same) (ap (λ r. r.silence.tries) same) c.endures.ensures.counts
    c.endures.ensures.probes (λ lasts. absurd (not_both c.endures.result lasts c.if-self.true))

pub returns-else-self-clause-sends : goal.returns-else-self-clause-sends
returns-else-self-clause-sends g c =
    let tool = g.P.Peer.tool c.args.self.now.peer in
    let same = c.in-Some-Silent.ensures.same in
    sends_silence g.P.Peer.brings tool (g.P.Peer.tool c.exchange.new.self.peer) c.args.request (λ reply. Some Silent ≡ Some reply)
    c.args.self.now c.exchange.new.self c.endures.new.self c.endures.result
    (subst (λ (reply : Reply). Exchanged g.P.Peer.brings tool c.args.request (Some reply) c.args.self.now.peer c.exchange.new.self.peer c.exchange.new.self.text.items)
    c.in-Some-Silent.field-0-is c.in-Some-Silent.ensures.sends)
    c.in-Some-Silent.ensures.tool (ap (λ r. r.silence.silent) same) (ap (λ r. r.silence.tries) same) c.endures.ensures.counts
    c.endures.ensures.probes (λ lasts. refl)

pub returns-else-self-clause-honest : goal.returns-else-self-clause-honest
returns-else-self-clause-honest g c honest is =
    let s = g.P.Peer.seen c.args.self.now.peer in
    let t = g.P.Peer.seen c.exchange.new.self.peer in
    let first : IsAnswer c.args.request (given c.args.request Silent) s t =
    subst (λ (reply : Reply). IsAnswer c.args.request (given c.args.request reply) s t) c.in-Some-Silent.field-0-is
    (c.in-Some-Silent.ensures.honest honest is) in
    answered_before c.args.request (given c.args.request Silent) s t (g.P.Peer.seen c.endures.new.self.peer) first
    (c.endures.ensures.honest (still_honest c.args.request (given c.args.request Silent) s t honest first)).1
