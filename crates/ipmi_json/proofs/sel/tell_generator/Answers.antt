use Rattle.std.proofs.lemmas.Result.{on_ok_weaker}
use Rattle.ipmi_json.proofs.MemberLemmas.{joined}
use Rattle.ipmi_json.proofs.sel.tell_generator.Goals as goal

pub returns : goal.returns
returns g c =
    let generator = rw (c.from-generator.ensures, c.generator_id.ensures) at c.in_ok-put.ensures in
    on_ok_weaker c.put-2.result
    (λ revision. joined generator (rw (c.from-revision.ensures, c.revision.ensures) at revision))
    c.put-2.ensures
