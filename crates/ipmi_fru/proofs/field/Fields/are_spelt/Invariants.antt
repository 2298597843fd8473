use Rattle.std.proofs.Common.{◌≡◌, is_some, length}
use Rattle.ipmi_fru.specs.Prelude.{fields_in}
use Rattle.ipmi_fru.proofs.field.Fields.are_spelt.Given as goal

abbrev pub invariant-fields : goal.invariant-fields
invariant-fields l = is_some (fields_in l.rest) ≡ is_some (fields_in l.bytes)

abbrev pub decreases-fields : goal.decreases-fields
decreases-fields l = length l.rest
