use Rattle.std.proofs.Common.{rules, tests}
use Rattle.std.specs.Str.{trim}
use Rattle.std.proofs.lemmas.Iterator.{YieldsList-from_map_by, YieldsList-from_take}
use Rattle.std.proofs.lemmas.Iterator.Consumers.{map_from_collect, YieldsList-at, YieldsList-from_filter}
use Rattle.std.proofs.lemmas.Iterator.Splits.{YieldsList-from_lines}
use Rattle.ipmi_raw.proofs.last_words.said_lines.Goals as goal

pub returns : goal.returns
returns c =
    map_from_collect _ c.collect.ensures.ran
    (YieldsList-from_take 3
    (YieldsList-at c.take.ensures.source
    (YieldsList-from_filter _ _
    (YieldsList-at c.filter.ensures.source
    (YieldsList-from_map_by _ (λ r. r.now) trim (YieldsList-from_lines c.args.text.now (cc)) c.map.ensures.closure (λ x r q k. search (rules, tests))))
    c.filter.ensures.closure (λ x r q k. search (rules, tests))))
    c.take.ensures.count)
