use Rattle.std.proofs.Common.{◌≡◌, ℕ, true, false, List, Result, Ok, Err, Some, None, ap, refl, subst, sym, ◌∙◌, rules}
use Rattle.ipmi_bus.specs.declared.code.Code.{Code}
use Rattle.ipmi_raw.specs.declared.reply.Reply.TheVariants.{Silent}
use Rattle.ipmi_raw.specs.Answer.{given, IsAnswer, says_unreserved}
use Rattle.ipmi_raw.proofs.ThroughLemmas.{answered}
use Rattle.ipmi_raw.proofs.AskLemmas.{asks_sent}
use Rattle.ipmi_raw.proofs.controller.RawController.ask.Goals as goal

pub returns-in-Some-Silent-clause-asks : goal.returns-in-Some-Silent-clause-asks
returns-in-Some-Silent-clause-asks g c =
    let was : c.args.self.now.is_lost ≡ false = search rules in
    let same = c.in-Some-Silent.ensures.same in
    let counted = c.fail-in-Some-Silent.ensures.counts in
    let open_ : c.fail-in-Some-Silent.new.self.is_lost ≡ false = ap (λ r. r.is_lost) counted ∙ c.in-Some-Silent.ensures.lost in
    asks_sent g.P.Peer.brings (g.P.Peer.tool c.args.self.now.peer) c.args.request (Some c.in-Some-Silent.field-0) (Err c.fail-in-Some-Silent.result)
    c.args.self.now (record c.args.self.now { tally = c.count.new.self }) c.send.new.self c.fail-in-Some-Silent.new.self
    (Some c.fail-in-Some-Silent.result.0) was refl counted (
      ap (λ r. r.clock) counted ∙ ap (λ r. r.clock) same,
      ap (λ r. r.pause) counted ∙ ap (λ r. r.pause) same,
      ap (λ r. r.silence.tries) counted ∙ c.in-Some-Silent.ensures.tries,
    )
    c.in-Some-Silent.ensures.sends
    (λ reply e. let is : reply ≡ Silent = cc (e, c.in-Some-Silent.field-0-is) in rw (is, c.fail-in-Some-Silent.ensures.code) refl)
    (λ lost. absurd cc)

pub returns-in-None-clause-asks : goal.returns-in-None-clause-asks
returns-in-None-clause-asks g c =
    let was : c.args.self.now.is_lost ≡ false = search rules in
    let same = c.in-None.ensures.same in
    let counted = c.fail-in-None.ensures.counts in
    asks_sent g.P.Peer.brings (g.P.Peer.tool c.args.self.now.peer) c.args.request None (Err c.fail-in-None.result) c.args.self.now
    (record c.args.self.now { tally = c.count.new.self }) c.send.new.self c.fail-in-None.new.self (Some c.fail-in-None.result.0) was refl counted (
      ap (λ r. r.clock) counted ∙ ap (λ r. r.clock) same,
      ap (λ r. r.pause) counted ∙ ap (λ r. r.pause) same,
      ap (λ r. r.silence.tries) counted ∙ c.in-None.ensures.tries,
    )
    c.in-None.ensures.sends
    (λ reply e. absurd cc)
    (λ lost. ap (λ code. Some code.0) c.fail-in-None.ensures.code)

pub returns-in-Some-Refused-clause-honest : goal.returns-in-Some-Refused-clause-honest
returns-in-Some-Refused-clause-honest g c = λ honest is.
    let was : c.args.self.now.is_lost ≡ false = search rules in
    let told : says_unreserved c.args.request c.in-Some-Refused.code ≡ true = sym c.if-says_unreserved.ensures in
    let same : given c.args.request c.in-Some-Refused.field-0 ≡ Ok c.new.result = rw (c.in-Some-Refused.field-0-is, told, c.new.ensures.value) refl in
    answered c.args.request (Ok c.new.result) (g.P.Peer.seen c.args.self.now.peer) (g.P.Peer.seen c.send.new.self.peer)
    c.args.self.now.tally.counts c.send.new.self.tally.counts c.args.self.now.is_lost c.send.new.self.is_lost
    (λ peer_is_honest. subst (λ (r : Result (List ℕ) Code). IsAnswer c.args.request r (g.P.Peer.seen c.args.self.now.peer) (g.P.Peer.seen c.send.new.self.peer)) same (c.in-Some-Refused.ensures.honest peer_is_honest is))
    (c.in-Some-Refused.ensures.lost ∙ sym was) honest
