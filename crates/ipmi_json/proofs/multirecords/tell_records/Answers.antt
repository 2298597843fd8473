use Rattle.std.proofs.Common.{◌∙◌, ap, option_map, refl}
use Rattle.std.proofs.lemmas.Result.{on_ok_weaker}
use Rattle.ipmi_json.specs.Multirecords.{record_fault_word}
use Rattle.ipmi_json.specs.Object.{text_or_null}
use Rattle.ipmi_json.proofs.MemberLemmas.{joined, list_told, told_some}
use Rattle.ipmi_json.proofs.multirecords.tell_records.Goals as goal

pub returns : goal.returns
returns g c =
    let objects = c.in_ok-end.ensures.objects in
    let fault = c.text_or_null.ensures ∙ ap text_or_null (c.end_word.ensures ∙ ap (option_map record_fault_word) c.in_ok-end.ensures.fault) in
    on_ok_weaker c.put.result
    (λ last. told_some (joined (list_told c.in_ok-begin_list.ensures objects.tells c.in_ok-end_list.ensures) (rw fault at last))
    (record { objects = objects.items; are_objects = objects.are; are = refl }))
    c.put.ensures
