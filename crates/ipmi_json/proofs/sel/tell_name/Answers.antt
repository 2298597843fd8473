use Rattle.std.proofs.Common.{◌∙◌, refl}
use Rattle.ipmi_json.proofs.sel.tell_name.Goals as goal

pub returns : goal.returns
returns g c =
    let text = c.as_str.ensures.value ∙ c.in_ok-push_sensor_name.ensures ∙ rw (c.clear.ensures.bytes, c.sensor_number.ensures) refl in
    rw c.in-Some.is (rw (c.text_unless_empty.ensures, text) at c.put-2.ensures)

pub returns-in_default : goal.returns-in_default
returns-in_default g c = rw c.in_default.is c.put.ensures
