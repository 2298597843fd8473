use Rattle.std.proofs.lemmas.List.{drop_all}
use Rattle.std.proofs.lemmas.Result.{on_ok_weaker}
use Rattle.ipmi_json.proofs.AreaLemmas.{fields_told}
use Rattle.ipmi_json.proofs.areas.tell_fields.Goals as goal

pub keys-preserved : goal.keys-preserved
keys-preserved g c = λ new rest.
    let first = c.in_ok-put_first.ensures in
    c.keys.invariant new (fields_told c.language-language.result c.args.keys.now c.keys.key-index _ c.keys.left _ c.keys-test.true first.left first.value rest)

pub returns : goal.returns
returns g c =
    let none = drop_all c.keys.key-index c.args.keys.now c.keys-test.false in
    on_ok_weaker c.put.result
    (λ extra. rw (c.language-language.ensures, c.fields-left.ensures) at (c.keys.invariant c.put.new.self (rw none (rw (c.as_slice.ensures.value, c.in_ok-extra.ensures) at extra))))
    c.put.ensures
