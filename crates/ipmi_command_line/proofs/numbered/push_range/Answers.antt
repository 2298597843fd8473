use Rattle.std.proofs.Common.{◌≡◌, ◌∙◌, ◌+◌, ◌++◌, ◌-◌, ℕ, ap, arith, map}
use Rattle.std.specs.List.{range_with_len}
use Rattle.ipmi_command_line.specs.Numbered.{task_numbered}
use Rattle.ipmi_command_line.proofs.NumberedLemmas.{one_more}
use Rattle.ipmi_command_line.proofs.numbered.push_range.Goals as goal

pub loop-number-preserved : goal.loop-number-preserved
loop-number-preserved c = (
  omega (arith, c.loop-number.invariant.0),
  omega (arith, c.loop-number.invariant.0, c.loop-number-test.true),
  c.in_ok-push.ensures.items ∙ rw c.task.ensures
      (one_more (task_numbered c.args.kind) c.args.tasks.now.items c.loop-number.tasks.items c.args.range.now.first c.loop-number.number
      c.loop-number.invariant.0 c.loop-number.invariant.2),
)

pub returns : goal.returns
returns c =
    let all : c.loop-number.number - c.args.range.now.first ≡ c.args.range.now.last + 1 - c.args.range.now.first =
    omega (arith, c.loop-number-test.false, c.loop-number.invariant.0, c.loop-number.invariant.1) in
    c.loop-number.invariant.2 ∙ ap (λ (n : ℕ). c.args.tasks.now.items ++ map (task_numbered c.args.kind) (range_with_len c.args.range.now.first n)) all
