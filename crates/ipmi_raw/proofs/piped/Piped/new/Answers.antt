use Rattle.std.proofs.Common.{refl}
use Rattle.ipmi_raw.proofs.HandedLemmas.{none_handed}
use Rattle.ipmi_raw.proofs.piped.Piped.new.Goals as goal

pub invariant_of-result : goal.invariant_of-result
invariant_of-result g c = record { handed = ∣ none_handed g.O.Requests.Write g.O.Open.opens c.args.tool ∣₁ }

pub returns-clause-tool : goal.returns-clause-tool
returns-clause-tool g c = refl

pub returns-clause-opener : goal.returns-clause-opener
returns-clause-opener g c = refl

pub returns-clause-units : goal.returns-clause-units
returns-clause-units g c = refl
