use Rattle.std.proofs.Common.{◌∙◌, ◌++◌, ◌∷◌, [], ap, sym, take}
use Rattle.std.proofs.lemmas.List.{map_more}
use Rattle.ipmi_json.specs.Object.{pair_of, pairs_of}
use Rattle.ipmi_json.proofs.MemberLemmas.{joined}
use Rattle.ipmi_json.proofs.members.put_members.Goals as goal

pub loop-member-preserved : goal.loop-member-preserved
loop-member-preserved g c =
    let members = c.args.members.now in
    let k = c.loop-member.member-index in
    let next = map_more pair_of members k c.member-item.result c.loop-member-test.true
    ∙ ap (λ m. pairs_of (take k members) ++ pair_of m ∷ []) (sym c.member-item.is) in
    rw next (joined c.loop-member.invariant c.in_ok-put.ensures)
