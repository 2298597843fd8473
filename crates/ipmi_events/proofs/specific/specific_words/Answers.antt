use Rattle.std.proofs.Common.{◌∙◌, ap}
use Rattle.ipmi_events.specs.Specific.{specific_words}
use Rattle.ipmi_events.specs.Table.{words_at}
use Rattle.ipmi_events.proofs.specific.specific_words.Goals as goal

pub returns : goal.returns
unfolding specific_words
returns c = c.words_at.ensures ∙ ap (λ table. words_at table c.args.offset) c.specific_table.ensures
