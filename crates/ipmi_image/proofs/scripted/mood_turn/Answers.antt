use Rattle.std.proofs.Common.{rules}
use Rattle.ipmi_image.specs.Below.{Sdr, Sel}
use Rattle.ipmi_image.proofs.AppendLemmas.{append_loses}
use Rattle.ipmi_image.proofs.scripted.mood_turn.Goals as goal

pub returns-in-Cancel-clause-exact : goal.returns-in-Cancel-clause-exact
returns-in-Cancel-clause-exact c = search rules

pub returns-in-Change-clause-leaves : goal.returns-in-Change-clause-leaves
returns-in-Change-clause-leaves c = search rules

pub returns-in-Append-clause-turns : goal.returns-in-Append-clause-turns
returns-in-Append-clause-turns c = λ honest. record {
  change = search rules;
  gives = search rules;
  sdr = append_loses Sdr c.args.responder.now c.append.new.self c.in-Append.image c.append.ensures.appended;
  sel = append_loses Sel c.args.responder.now c.append.new.self c.in-Append.image c.append.ensures.appended;
}
