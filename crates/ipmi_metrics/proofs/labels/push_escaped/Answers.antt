use Rattle.std.proofs.Common.{◌∙◌, ◌++◌, ap, map-id, string_bytes, sym}
use Rattle.std.proofs.lemmas.Iterator.{YieldsList-from_chars}
use Rattle.std.proofs.lemmas.Iterator.Consumers.{YieldsList-end}
use Rattle.std.proofs.lemmas.Str.{encodes-chars}
use lib.Utf8.{encodes}
use Rattle.ipmi_metrics.specs.Labels.{escaped}
use Rattle.ipmi_metrics.proofs.EscapeLemmas.{escaped-more}
use Rattle.ipmi_metrics.proofs.labels.push_escaped.Goals as goal

pub loop-character-preserved : goal.loop-character-preserved
loop-character-preserved c =
    escaped-more _ _ _ c.loop-character.yielded c.in-Some.character c.loop-character.invariant c.in_ok-push_escaped_character.ensures

pub returns : goal.returns
returns c =
    let end = YieldsList-end (YieldsList-from_chars c.args.value.now c.utf8.value cc) c.loop-character.yielded _ c.loop-character.yielded_by _ _ c.in-None.is c.next.ensures.steps in
    c.loop-character.invariant ∙ ap (λ text. string_bytes c.args.text.now ++ escaped text)
    (ap encodes (sym (map-id c.loop-character.yielded) ∙ end.0) ∙ encodes-chars c.args.value.now c.utf8.value)
