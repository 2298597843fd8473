use Rattle.std.proofs.Common.{◌≡◌, ◌<◌, arith, false, is_err, refl, rules, subst, sym, Bool, Err}
use Rattle.std.proofs.Math.Logic.{∥∥₁_map}
use Rattle.ipmi_raw.specs.Handed.{OnlyRequests}
use Rattle.ipmi_raw.specs.Peer.{request_text}
use Rattle.ipmi_raw.specs.Piped.{unit_of}
use Rattle.ipmi_raw.specs.Request.{lun_of}
use Rattle.ipmi_raw.proofs.HandedLemmas.{still_requests}
use Rattle.ipmi_raw.proofs.PipedLemmas.{over_none, over_unit}
use Rattle.ipmi_raw.proofs.piped.PipedPeer.exchange.Goals as goal

pub returns-in-Ok-clause-brings : goal.returns-in-Ok-clause-brings
returns-in-Ok-clause-brings g c =
    let sent : c.as_slice.result.now ≡ request_text c.args.self.now.tool c.args.request = search rules in
    let unit : c.unit_of-unit.result ≡ unit_of c.args.self.now.tool (lun_of c.args.request) = search rules in
    let lasts : c.args.self.now.is_lost ≡ false = search rules in
    let few : c.unit_of-unit.result < 4 = search rules in (
      c.exchange-came.ensures.ended,
      c.exchange-came.ensures.first,
      λ last few. (
        rw (sym unit, sym sent)
            (over_unit g.O.Open.opens g.O.Replies.Read.remaining c.args.self.now.tool c.unit_of-unit.result
            c.as_slice.result.now c.args.self.now.opener c.opened.new.opener c.args.self.now.units c.replace-open.new.self c.replace-open.result
            c.replace-open.ensures.was c.replace-open.ensures.now c.exchange-came.result c.opened.new.reply.items c.exchange-came.new.reply.items
            c.replace.new.self c.in-Ok.streams c.exchange-came.new.self c.in-Ok.ensures.ready
            (record { sent = c.exchange-came.ensures.sent; given = c.exchange-came.ensures.given; read = c.exchange-came.ensures.read }) c.replace.ensures.now),
        search rules,
      ),
      λ lost. absurd cc,
      λ none. absurd (omega (arith, none, few, unit)),
    )

pub invariant_of-self : goal.invariant_of-self
invariant_of-self g c =
    let sent : c.as_slice.result.now ≡ request_text c.args.self.now.tool c.args.request = search rules in
    let unit : c.unit_of-unit.result ≡ unit_of c.args.self.now.tool (lun_of c.args.request) = search rules in
    let lasts : c.args.self.now.is_lost ≡ false = search rules in
    let few : c.unit_of-unit.result < 4 = search rules in
    let lost : c.is_err-self.result ≡ is_err c.exchange-came.result = search rules in
    record {
      handed = rw lost (∥∥₁_map c.args.self.now.handed (λ had.
          still_requests g.O.Open.opens g.O.Replies.Read.remaining c.args.self.now.tool c.unit_of-unit.result c.args.request c.exchange-came.result
          c.exchange-came.new.reply.items c.args.self.now.opener c.opened.new.opener c.args.self.now.units c.replace.new.self few (sym unit)
          (subst (λ (b : Bool). OnlyRequests g.O.Open.opens c.args.self.now.tool b c.args.self.now.units) lasts had)
          (rw (sym sent)
          (over_unit g.O.Open.opens g.O.Replies.Read.remaining c.args.self.now.tool c.unit_of-unit.result
          c.as_slice.result.now c.args.self.now.opener c.opened.new.opener c.args.self.now.units c.replace-open.new.self c.replace-open.result
          c.replace-open.ensures.was c.replace-open.ensures.now c.exchange-came.result c.opened.new.reply.items c.exchange-came.new.reply.items
          c.replace.new.self c.in-Ok.streams c.exchange-came.new.self c.in-Ok.ensures.ready
          (record { sent = c.exchange-came.ensures.sent; given = c.exchange-came.ensures.given; read = c.exchange-came.ensures.read }) c.replace.ensures.now))));
    }

pub invariant_of-self-in-Err : goal.invariant_of-self-in-Err
invariant_of-self-in-Err g c =
    let unit : c.unit_of-unit.result ≡ unit_of c.args.self.now.tool (lun_of c.args.request) = search rules in
    let lasts : c.args.self.now.is_lost ≡ false = search rules in
    let few : c.unit_of-unit.result < 4 = search rules in
    record {
      handed = ∥∥₁_map c.args.self.now.handed (λ had.
          still_requests g.O.Open.opens g.O.Replies.Read.remaining c.args.self.now.tool c.unit_of-unit.result c.args.request (Err (record {}))
          c.opened.new.reply.items c.args.self.now.opener c.opened.new.opener c.args.self.now.units c.replace-in-Err.new.self few (sym unit)
          (subst (λ (b : Bool). OnlyRequests g.O.Open.opens c.args.self.now.tool b c.args.self.now.units) lasts had)
          (over_none g.O.Open.opens g.O.Replies.Read.remaining c.args.self.now.tool c.unit_of-unit.result
          (request_text c.args.self.now.tool c.args.request) c.args.self.now.opener c.opened.new.opener c.args.self.now.units c.replace-open.new.self c.replace-open.result
          c.replace-open.ensures.was c.replace-open.ensures.now c.in-Err.streams (Err (record {})) c.opened.new.reply.items
          c.replace-in-Err.new.self refl c.in-Err.ensures.ready c.replace-in-Err.ensures.now));
    }
