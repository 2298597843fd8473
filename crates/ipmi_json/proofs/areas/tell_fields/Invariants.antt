use Rattle.std.proofs.Common.{drop, map}
use Rattle.ipmi_json.specs.Areas.{field_members}
use Rattle.ipmi_json.specs.Members.{Tells}
use Rattle.ipmi_json.proofs.areas.tell_fields.Given as goal

-- With the members of the remaining keys and fields, all members will be told.
abbrev pub invariant-keys : goal.invariant-keys
invariant-keys g l =
    (new : g.row.M.Denot) → Tells g.M.Members.told (field_members l.language (map (λ key. key.now) (drop l.key-index l.keys)) l.left) l.out new
    → Tells g.M.Members.told (field_members l.language (map (λ key. key.now) l.keys) l.initial.left) l.initial.out new
