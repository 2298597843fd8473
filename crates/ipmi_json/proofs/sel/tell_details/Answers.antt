use Rattle.std.proofs.Common.{◌∙◌, [], ◌∷◌, codes, refl}
use Rattle.std.proofs.lemmas.Result.{on_ok_weaker}
use Rattle.ipmi_json.specs.Object.{text_unless_empty}
use Rattle.ipmi_json.proofs.sel.tell_details.Goals as goal

pub returns : goal.returns
returns g c =
    let said = c.in_ok-push_details.ensures in
    let text = c.as_str.ensures.value ∙ said.text_is ∙ rw c.clear.ensures.bytes refl in
    on_ok_weaker c.put.result (λ h. record {
      ms = (codes "event_details", text_unless_empty said.part) ∷ [];
      are = (said.part, (rw c.full_of.ensures at said.is_text, refl));
      tells = rw (c.text_unless_empty.ensures, text) at h;
    }) c.put.ensures
