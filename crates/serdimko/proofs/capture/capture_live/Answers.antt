use Rattle.serdimko.proofs.CapturedLemmas.{captured}
use Rattle.serdimko.proofs.capture.capture_live.Goals as goal

pub returns-clause-captures : goal.returns-clause-captures
returns-clause-captures g c = captured c.report_captured.result c.report_captured.ensures (λ status saves. record {
  image = c.in_ok-captured.captured.image;
  left = c.in_ok-captured.captured.left.items;
  calls = rw c.tries.ensures at c.capture.ensures.calls;
  asked = rw c.part.ensures.value at c.capture.ensures.asked;
  lacks = c.in_ok-captured.ensures.lacks;
  accounted = c.in_ok-captured.ensures.accounted;
  ends = rw c.in_ok-captured.ensures.whole at c.in_ok-captured.ensures.ends;
  stays = c.capture.ensures.stays;
  counts = rw c.tries.ensures at c.in_ok-captured.ensures.counts;
  but = c.in_ok-captured.ensures.honest;
  all = c.in_ok-captured.ensures.all;
  told = c.in_ok-captured.ensures.told;
  plain = c.in_ok-captured.ensures.plain;
  saves = rw c.lost.ensures at saves;
})
