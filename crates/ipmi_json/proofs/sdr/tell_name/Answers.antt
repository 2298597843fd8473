use Rattle.std.proofs.Common.{◌∙◌, ap, option_map, refl, sym}
use Rattle.ipmi_records.specs.Prelude.{id_field_of}
use Rattle.ipmi_json.proofs.sdr.tell_name.Goals as goal

pub returns-in_ok-push_sdr_text-in-Some : goal.returns-in_ok-push_sdr_text-in-Some
returns-in_ok-push_sdr_text-in-Some g c =
    let field = sym c.id_string.ensures ∙ ap (option_map id_field_of) c.in-Some.is in
    let text = c.as_str.ensures.value ∙ c.in_ok-push_sdr_text-in-Some.ensures ∙ rw c.clear.ensures.bytes refl in
    rw field (rw (c.text_unless_empty.ensures, text) at c.put.ensures)
