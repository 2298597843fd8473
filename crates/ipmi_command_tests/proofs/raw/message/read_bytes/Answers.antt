use Rattle.std.proofs.Common.{arith}
use Rattle.ipmi_raw.proofs.WordLemmas.{agree, differ}
use Rattle.ipmi_command_tests.proofs.MessageLemmas.{read_all, read_no_front, read_no_byte, read_too_many, read_one}
use Rattle.ipmi_command_tests.proofs.raw.message.read_bytes.Goals as goal

pub returns-then-eq : goal.returns-then-eq
returns-then-eq c bytes fits are e =
    read_all c.args.tool c.args.before.now c.args.end.now c.args.text.now c.loop.bytes.items c.loop.rest.now c.loop.invariant.1
    (agree c.loop.rest.now c.args.end.now c.eq.result c.eq.ensures c.if-eq.true) bytes are e

pub returns-in_err-digits : goal.returns-in_err-digits
returns-in_err-digits c bytes fits are e =
    absurd (read_no_front c.args.tool c.args.before.now c.args.end.now c.args.text.now c.loop.bytes.items c.loop.rest.now c.loop.invariant.1
    (differ c.loop.rest.now c.args.end.now c.eq.result c.eq.ensures c.if-eq.false) c.in_err-digits.ensures bytes are e)

pub returns-in_err-byte : goal.returns-in_err-byte
returns-in_err-byte c bytes fits are e =
    absurd (read_no_byte c.args.tool c.args.before.now c.args.end.now c.args.text.now c.loop.bytes.items c.loop.rest.now c.in_ok-digits.digits.now
    c.loop.invariant.1 (differ c.loop.rest.now c.args.end.now c.eq.result c.eq.ensures c.if-eq.false) c.in_ok-digits.ensures c.in_err-byte.ensures
    bytes are e)

pub loop-preserved : goal.loop-preserved
loop-preserved c = (
  omega (arith, c.push.ensures.len, c.loop.invariant.0),
  rw c.push.ensures.items
      (read_one c.args.tool c.args.before.now c.args.end.now c.args.text.now c.loop.bytes.items c.loop.rest.now c.in_ok-digits.digits.now
      c.in_ok-byte.after.now c.in_ok-byte.byte c.loop.invariant.1
      (differ c.loop.rest.now c.args.end.now c.eq.result c.eq.ensures c.if-eq.false) c.in_ok-digits.ensures c.in_ok-byte.ensures.0 c.in_ok-byte.ensures.1),
)

pub returns-else-eq-2 : goal.returns-else-eq-2
returns-else-eq-2 c bytes fits are e =
    absurd (read_too_many c.args.tool c.args.before.now c.args.end.now c.args.text.now c.loop.bytes.items c.loop.rest.now c.loop.invariant.1
    (differ c.loop.rest.now c.args.end.now c.eq-2.result c.eq-2.ensures c.if-eq-2.false) (omega arith) bytes fits are e)
