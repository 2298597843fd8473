use Rattle.std.proofs.Common.{◌∙◌, ap, refl}
use Rattle.std.proofs.lemmas.Result.{on_ok_weaker}
use Rattle.ipmi_text.specs.FieldText.{binary_text}
use Rattle.ipmi_json.proofs.MemberLemmas.{joined, told_some}
use Rattle.ipmi_json.proofs.sel.tell_entry.Goals as goal

pub tell_by_kind-requires : goal.tell_by_kind-requires
tell_by_kind-requires g c = c.hex_text-raw.ensures ∙ ap binary_text c.bytes.ensures.value

pub returns : goal.returns
returns g c =
    let head = rw (c.entry_type.ensures, c.kind_word.ensures) at c.in_ok-tell_head.ensures in
    let told = c.in_ok-tell_by_kind.ensures in
    on_ok_weaker c.put.result (λ raw. told_some (joined (joined head told.tells) (rw (c.hex_text-raw.ensures, c.bytes.ensures.value) at raw))
    (record { told = told.ms; are_told = told.are; are = refl })) c.put.ensures
