-- The bytes before `done` and those taken next are the bytes before the new `done`.
use Rattle.std.proofs.Common.{ℕ, arith, List, [], ◌+◌, ◌<◌, ◌≡◌, append-nil, length, take, ap, ◌∙◌, option_map}
use Rattle.std.proofs.lemmas.Grind.{common_steps}
use Rattle.std.proofs.lemmas.Result.{MatchResult-from_err}
use Rattle.std.specs.Io.KnownBytes.{Appends}
use Rattle.ipmi_output.specs.Received.{Received, ReceivesAll, ReceivesPart}
use Rattle.ipmi_output.proofs.MessageLemmas.{Appends-both, Appends-kept, option_map-kept, take_next}
use Rattle.ipmi_output.proofs.message_sink.offer_all.Goals as goal

-- the part before `done`, if the next call took none
cut : (done : ℕ) (bytes : List ℕ) (old mid new : Received) → done < length bytes
    → ReceivesAll old mid (take done bytes) → Appends mid.taken new.taken []
    → new.faults ≡ option_map (λ n. n + 1) mid.faults → ReceivesPart old new bytes
cut done bytes old mid new within so_far none raised = (
  done,
  within,
  rw (append-nil (take done bytes)) at (Appends-both old.taken mid.taken new.taken (take done bytes) [] so_far.0 none),
  raised ∙ ap (option_map (λ n. n + 1)) so_far.1,
)

pub loop-done-preserved : goal.loop-done-preserved
loop-done-preserved g c = (
  grind (arith, common_steps),
  (
    rw (← take_next c.loop-done.done c.in_ok-taken.taken c.args.bytes.now) at (Appends-both _ _ _ _ _ c.loop-done.invariant.1.0 c.in_ok-taken.ensures.received.0),
    c.in_ok-taken.ensures.received.1 ∙ option_map-kept _ c.in_ok-taken.taken c.if-taken-eq0.false ∙ c.loop-done.invariant.1.1,
  ),
)

pub returns-in_err-taken : goal.returns-in_err-taken
returns-in_err-taken g c =
    let received = c.in_err-taken.ensures.received in
    MatchResult-from_err c.from_residual.result _ _ c.from_residual.ensures.0
    (λ e. cut c.loop-done.done c.args.bytes.now _ _ _ c.loop-done-test.true c.loop-done.invariant.1 (Appends-kept _ _ received.0) received.1)

pub returns-then-taken-eq0 : goal.returns-then-taken-eq0
returns-then-taken-eq0 g c =
    let received = rw c.if-taken-eq0.true at c.in_ok-taken.ensures.received in
    cut c.loop-done.done c.args.bytes.now _ _ _ c.loop-done-test.true c.loop-done.invariant.1 received.0 received.1
