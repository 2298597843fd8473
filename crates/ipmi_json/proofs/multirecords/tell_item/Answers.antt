use Rattle.std.proofs.Common.{refl}
use Rattle.std.proofs.lemmas.Result.{on_ok_weaker}
use Rattle.ipmi_fru.specs.Prelude.{record_of}
use Rattle.ipmi_json.proofs.MemberLemmas.{item_told, joined}
use Rattle.ipmi_json.proofs.MultirecordLemmas.{within_record}
use Rattle.ipmi_json.proofs.multirecords.tell_item.Goals as goal

pub returns : goal.returns
returns g c =
    let r = record_of c.args.view.now in
    let told = rw c.form_of.ensures at c.in_ok-tell_by_form.ensures in
    on_ok_weaker c.end.result (λ ends. record {
      items = _;
      are = record { value = _; is_value = record { told = told.ms; are_told = told.are; is = refl }; are = refl };
      tells = item_told (within_record r told.ms told.are) c.in_ok-begin_item.ensures (joined told.tells c.in_ok-put_raw.ensures) ends;
    }) c.end.ensures
