use Rattle.ipmi_events.proofs.PartsLemmas.{fields_text-drop, pushed_parts, said_parts}
use Rattle.ipmi_events.proofs.discrete.push_fields.Goals as goal

pub loop-field-preserved : goal.loop-field-preserved
loop-field-preserved c =
    let first = fields_text-drop c.args.fields.now c.loop-field.field-index _ c.args.event.now c.args.value c.loop-field-test.true in (
      rw (c.in_ok-more.ensures.text, c.in_ok-more.ensures.said) (pushed_parts c.args.before c.loop-field.said _ _ _ _ (rw first at c.loop-field.invariant.0)),
      rw c.in_ok-more.ensures.said (said_parts c.loop-field.said _ _ _ (rw first at c.loop-field.invariant.1)),
    )
