-- What is known of a call from what is known of its request.
use Rattle.std.proofs.Common.{◌≡◌, ◌+◌, ◌<◌, ℕ, Bool, true, false, not, arith, MatchOption, Option, Some, None, Result, List, subst, sym, ap, refl, ◌∙◌}
use Rattle.ipmi_bus.specs.declared.code.Code.{Code}
use Rattle.ipmi_bus.specs.declared.tally.Tally.{Tally}
use Rattle.ipmi_raw.specs.declared.controller.RawController.{RawController}
use Rattle.ipmi_raw.specs.declared.reply.Reply.{Reply}
use Rattle.ipmi_raw.specs.declared.reply.Reply.TheVariants.{Silent}
use Rattle.ipmi_raw.specs.declared.request.Request.{Request}
use Rattle.ipmi_raw.specs.declared.tool.Tool.{Tool}
use Rattle.ipmi_raw.specs.Answer.{given}
use Rattle.ipmi_raw.specs.Controller.{Asks, Exchanged, Exchanges, Probes, Sends}

not_not : (b : Bool) → not b ≡ false → b ≡ true
not_not true e = refl
not_not false e = cc

pub not_both : (b : Bool) → b ≡ true → not b ≡ true → ⊥
not_both true e n = cc
not_both false e n = cc

gives_for : (Gives Gives' : Reply → Type 0) → ((reply : Reply) → Gives reply → Gives' reply) → (heard : Option Reply)
    → MatchOption heard ⊥ Gives → MatchOption heard ⊥ Gives'
gives_for Gives Gives' implies (Some reply) gives = implies reply gives
gives_for Gives Gives' implies None gives = gives

-- what a call gives is known from its reply, and counting before and afterwards changes nothing of what is sent
pub sends_gives : {P K : Type 0} (brings : Exchanges P) (tool : Tool) (request : Request) (Gives Gives' : Reply → Type 0)
    (old begun middle new : RawController P K) → begun ≡ record old { tally = begun.tally } → new ≡ record middle { tally = new.tally }
    → ((reply : Reply) → Gives reply → Gives' reply) → Sends brings tool request Gives begun middle
    → Sends brings tool request Gives' old new
sends_gives {P} {K} brings tool request Gives Gives' old begun middle new before after implies h =
    let counted : (first last : Tally) → Sends brings tool request Gives (record old { tally = first }) middle
    → Sends brings tool request Gives' old (record middle { tally = last }) = λ first last sent. record {
      heard = sent.heard;
      peer = sent.peer;
      text = sent.text;
      sent = sent.sent;
      counts = sent.counts;
      probes = sent.probes;
      gives = λ lasts. gives_for Gives Gives' implies sent.heard (sent.gives lasts);
    } in
    subst (λ (x : RawController P K). Sends brings tool request Gives' old x) (sym after)
    (counted begun.tally new.tally (subst (λ (x : RawController P K). Sends brings tool request Gives x middle) before h))

pub asks_gives : {P K : Type 0} (brings : Exchanges P) (tool : Tool) (request : Request)
    (Gives Gives' : Result (List ℕ) Code → Type 0) (old new : RawController P K) (failure failure' : Option ℕ)
    → failure ≡ failure' → ((answer : Result (List ℕ) Code) → Gives answer → Gives' answer)
    → Asks brings tool request Gives old new failure → Asks brings tool request Gives' old new failure'
asks_gives brings tool request Gives Gives' old new failure failure' same implies h = record {
  sends = λ was.
      sends_gives brings tool request (λ reply. Gives (given request reply)) (λ reply. Gives' (given request reply)) old old new new refl refl
      (λ reply. implies (given request reply)) (h.sends was);
  fails = λ lost. sym same ∙ h.fails lost;
  stays = h.stays;
  keeps = h.keeps;
}

-- the call returns what it does for this answer
pub asks_gave : {P K : Type 0} (brings : Exchanges P) (tool : Tool) (request : Request) (Gives : Result (List ℕ) Code → Type 0)
    (old new : RawController P K) (answer : Result (List ℕ) Code) (failure failure' : Option ℕ) → failure ≡ failure'
    → Asks brings tool request (λ given. given ≡ answer) old new failure → Gives answer
    → Asks brings tool request Gives old new failure'
asks_gave brings tool request Gives old new answer failure failure' same h gives =
    asks_gives brings tool request (λ given. given ≡ answer) Gives old new failure failure' same (λ other is. subst Gives (sym is) gives) h

-- the call returns this answer for the result of its request
pub asks_sent : {P K : Type 0} (brings : Exchanges P) (tool : Tool) (request : Request) (result : Option Reply)
    (answer : Result (List ℕ) Code) (old begun middle new : RawController P K) (failure : Option ℕ) → old.is_lost ≡ false
    → begun ≡ record old { tally = begun.tally } → new ≡ record middle { tally = new.tally }
    → (new.clock ≡ old.clock) × (new.pause ≡ old.pause) × (new.silence.tries ≡ old.silence.tries)
    → Sends brings tool request (λ reply. result ≡ Some reply) begun middle
    → ((reply : Reply) → result ≡ Some reply → given request reply ≡ answer) → (new.is_lost ≡ true → failure ≡ Some 0xFF)
    → Asks brings tool request (λ given. given ≡ answer) old new failure
asks_sent brings tool request result answer old begun middle new failure was before after keeps sent gives fails = record {
  sends = λ open_.
      sends_gives brings tool request (λ reply. result ≡ Some reply) (λ reply. given request reply ≡ answer) old begun middle new before after
      gives sent;
  fails = fails;
  stays = λ lost. absurd cc;
  keeps = keeps;
}

-- a request was met with silence: what is counted and sent then, given whether the controller is there
pub sends_silence : {P K : Type 0} (brings : Exchanges P) (tool tool' : Tool) (request : Request) (Gives : Reply → Type 0)
    (old middle new : RawController P K) (lasts : Bool)
    → Exchanged brings tool request (Some Silent) old.peer middle.peer middle.text.items → tool' ≡ tool
    → middle.silence.silent ≡ old.silence.silent → middle.silence.tries ≡ old.silence.tries
    → (middle.silence.silent < middle.silence.tries → (lasts ≡ true) × (new ≡ record middle { silence = new.silence })
    × (new.silence.silent ≡ middle.silence.silent + 1))
    → (middle.silence.silent ≡ middle.silence.tries → Probes brings tool' middle.peer (record new { is_lost = not lasts }))
    → (lasts ≡ true → Gives Silent) → Sends brings tool request Gives old (record new { is_lost = not lasts })
sends_silence brings tool tool' request Gives old middle new lasts sent same_tool same_silent same_tries counts probes gives = record {
  heard = Some Silent;
  peer = middle.peer;
  text = middle.text.items;
  sent = sent;
  counts = λ few.
      let c = counts (omega (arith, few, same_silent, same_tries)) in
      (ap (λ r. r.peer) c.1, ap (λ r. r.text.items) c.1, ap not c.0, c.2 ∙ ap (λ n. n + 1) same_silent);
  probes = λ many.
      let last : middle.silence.silent ≡ middle.silence.tries = omega (arith, many, same_silent, same_tries, old.silence.few) in
      subst (λ t. Probes brings t middle.peer (record new { is_lost = not lasts })) same_tool (probes last);
  gives = λ open_. gives (not_not lasts open_);
}
