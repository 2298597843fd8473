use Rattle.std.proofs.Common.{◌++◌, sym, true≢false, ◌∙◌, arith}
use Rattle.ipmi_raw.specs.declared.tool.Tool.TheVariants.{FreeIpmi}
use Rattle.ipmi_raw.specs.Words.{word, words_from}
use Rattle.ipmi_raw.specs.FreeIpmi.{IsSilence}
use Rattle.ipmi_raw.specs.Request.{command_of}
use Rattle.ipmi_raw.proofs.WordLemmas.{same_word}
use Rattle.ipmi_raw.proofs.FreeIpmiLemmas.{command_lt, no_reply}
use Rattle.ipmi_raw.proofs.freeipmi.read_reply.Goals as goal

pub returns-in_err-command : goal.returns-in_err-command
returns-in_err-command c =
    let not_silent : ¬ IsSilence c.args.text.now = λ silent. true≢false (sym (c.is_silence.ensures.1 silent) ∙ c.if-is_silence.false) in
    rw c.from_residual-in_err-command.ensures
    (no_reply c.args.request c.args.text.now c.in_ok-rest.rest.now not_silent c.in_ok-rest.ensures
    (λ code bytes lt are e. c.in_err-command.ensures (command_of c.args.request) (word FreeIpmi code ++ words_from FreeIpmi 0 bytes)
    (command_lt c.args.request) e))

pub returns-then-command : goal.returns-then-command
returns-then-command c =
    let not_silent : ¬ IsSilence c.args.text.now = λ silent. true≢false (sym (c.is_silence.ensures.1 silent) ∙ c.if-is_silence.false) in
    no_reply c.args.request c.args.text.now c.in_ok-rest.rest.now not_silent c.in_ok-rest.ensures
    (λ code bytes lt are e.
    let same = same_word FreeIpmi c.in_ok-command.command (command_of c.args.request) c.in_ok-command.rest.now
    (word FreeIpmi code ++ words_from FreeIpmi 0 bytes) c.in_ok-command.ensures.0 (command_lt c.args.request)
    (sym c.in_ok-command.ensures.1 ∙ e) in
    absurd (omega (arith, same.0, c.command.ensures)))

pub returns-in_err-code : goal.returns-in_err-code
returns-in_err-code c =
    let not_silent : ¬ IsSilence c.args.text.now = λ silent. true≢false (sym (c.is_silence.ensures.1 silent) ∙ c.if-is_silence.false) in
    rw c.from_residual-in_err-code.ensures
    (no_reply c.args.request c.args.text.now c.in_ok-rest.rest.now not_silent c.in_ok-rest.ensures
    (λ code bytes lt are e.
    let same = same_word FreeIpmi c.in_ok-command.command (command_of c.args.request) c.in_ok-command.rest.now
    (word FreeIpmi code ++ words_from FreeIpmi 0 bytes) c.in_ok-command.ensures.0 (command_lt c.args.request)
    (sym c.in_ok-command.ensures.1 ∙ e) in
    c.in_err-code.ensures code (words_from FreeIpmi 0 bytes) lt same.1))
