use Rattle.std.proofs.Common.{◌≡◌, IfOk, List, ℕ, string_bytes, subst}
use Rattle.ipmi_raw.proofs.LastWordsLemmas.{joined}
use Rattle.ipmi_raw.proofs.last_words.on_a_line.Goals as goal

pub returns-in-len1-up : goal.returns-in-len1-up
returns-in-len1-up c =
    subst (λ (text : List ℕ). IfOk c.join.result (λ line. string_bytes line ≡ text)) (joined c.args.lines.now c.in-len1-up.len_at_least)
    c.join.ensures.ok
