use Rattle.std.proofs.Common.{string_bytes, ap, length, sym, ◌∙◌}
use Rattle.std.proofs.lemmas.Result.{on_ok_weaker}
use Rattle.ipmi_records.specs.Prelude.{printed_name}
use Rattle.ipmi_events.proofs.NameLemmas.{followed_some}
use Rattle.ipmi_events.proofs.name.push_sensor_name.Goals as goal

pub returns : goal.returns
returns c = on_ok_weaker c.push_suffix.result
    (followed_some (string_bytes c.args.text.now) (string_bytes c.push_name.new.line) (printed_name c.args.view.now) _ _ c.in_ok-push_name.ensures
    (λ same. c.if-as_bytes-start.false (ap length c.as_bytes.ensures.value ∙ same ∙ sym (ap length c.as_bytes-start.ensures.value))))
    c.push_suffix.ensures
