use Rattle.ipmi_json.proofs.KeyLemmas.{keys_known}
use Rattle.ipmi_json.proofs.laws.each_key_is_an_object_key.Goals as goal

pub returns : goal.returns
returns c = keys_known
