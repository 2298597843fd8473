use Rattle.std.proofs.Common.{◌∙◌, ◌++◌, ap, append-nil, rules, sym}
use Rattle.ipmi_raw.proofs.StreamLemmas.{nothing_ended}
use Rattle.ipmi_raw.specs.Heard.{given_of}
use Rattle.ipmi_raw.proofs.streams.read_reply.Goals as goal

pub loop-init : goal.loop-init
loop-init g c = (
  search rules,
  sym (ap (λ text. given_of c.args.reader.now ++ text) c.clear.ensures ∙ append-nil (given_of c.args.reader.now)),
  search rules,
  search rules,
  rw c.clear.ensures (nothing_ended c.args.tool),
)
