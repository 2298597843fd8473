use Rattle.std.proofs.Common.{take}
use Rattle.ipmi_json.specs.Members.{Tells}
use Rattle.ipmi_json.specs.Object.{pairs_of}
use Rattle.ipmi_json.proofs.members.put_members.Given as goal

abbrev pub invariant-loop-member : goal.invariant-loop-member
invariant-loop-member g l =
    Tells g.M.Members.told (pairs_of (take l.member-index l.members)) l.initial.out l.out
