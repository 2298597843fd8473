use Rattle.std.proofs.Common.{rules}
use Rattle.ipmi_fru.proofs.FieldLemmas.{fields_in-first}
use Rattle.ipmi_fru.proofs.field.Beginning.of.Goals as goal

pub returns : goal.returns
returns c =
    let byte = c.in-Some.first.now in
    let parts = c.in-Some-split_at_checked in
    (fields_in-first c.args.bytes.now c.in-Some.after.now parts.rest.now byte (record { code = c.code_of-code.result; bytes = parts.bytes.now }) (search rules) (search rules) (search rules) (search rules) (search rules), search rules)
