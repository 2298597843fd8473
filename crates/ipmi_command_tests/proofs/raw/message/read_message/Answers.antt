use Rattle.std.proofs.Common.{◌≡◌, ◌++◌, subst, sym, codes}
use Rattle.ipmi_raw.specs.declared.tool.Tool.{Tool}
use Rattle.ipmi_raw.specs.declared.tool.Tool.TheVariants.{FreeIpmi}
use Rattle.ipmi_raw.specs.Peer.{request_text}
use Rattle.ipmi_raw.specs.Request.{lun_of, message_of}
use Rattle.ipmi_raw.specs.Words.{bytes_after, two_digits}
use Rattle.ipmi_command_tests.proofs.RequestLemmas.{message_are_bytes, message_fits, lun_lt, rest_of_ipmitool, rest_of_freeipmi, text_of_freeipmi}
use Rattle.ipmi_command_tests.proofs.raw.message.read_message.Goals as goal

pub returns-in_err-rest-in-FreeIpmi : goal.returns-in_err-rest-in-FreeIpmi
returns-in_err-rest-in-FreeIpmi c sent is e =
    let said = subst (λ (x : Tool). request_text x sent ≡ c.args.text.now) c.in-FreeIpmi.is e in
    absurd (c.in_err-rest-in-FreeIpmi.ensures (lun_of sent) (bytes_after FreeIpmi (codes " ") (message_of sent) ++ codes "\n") (lun_lt sent is)
    (rw c.in-FreeIpmi.is (text_of_freeipmi sent c.args.text.now said)))

pub returns-in_ok-strip-in-Ipmitool : goal.returns-in_ok-strip-in-Ipmitool
returns-in_ok-strip-in-Ipmitool c sent is e =
    let said = subst (λ (x : Tool). request_text x sent ≡ c.args.text.now) c.in-Ipmitool.is e in
    c.read_bytes.ensures (message_of sent) (message_fits sent) (message_are_bytes sent is)
    (subst (λ (x : Tool). c.in_ok-strip-in-Ipmitool.field-0.now ≡ bytes_after x (codes " 0x") (message_of sent) ++ codes "\necho .\n")
    (sym c.in-Ipmitool.is)
    (rest_of_ipmitool sent c.args.text.now c.in_ok-strip-in-Ipmitool.field-0.now said c.in_ok-strip-in-Ipmitool.ensures))

pub returns-in_ok-rest-in-FreeIpmi : goal.returns-in_ok-rest-in-FreeIpmi
returns-in_ok-rest-in-FreeIpmi c sent is e =
    let said = subst (λ (x : Tool). request_text x sent ≡ c.args.text.now) c.in-FreeIpmi.is e in
    c.read_bytes-in-FreeIpmi.ensures (message_of sent) (message_fits sent) (message_are_bytes sent is)
    (subst (λ (x : Tool). c.in_ok-rest-in-FreeIpmi.rest.now ≡ bytes_after x (codes " ") (message_of sent) ++ codes "\n") (sym c.in-FreeIpmi.is)
    (rest_of_freeipmi sent c.args.text.now c.in_ok-rest-in-FreeIpmi.rest.now c.in_ok-rest-in-FreeIpmi.field-0-0 is said
    c.in_ok-rest-in-FreeIpmi.ensures.0
    (subst (λ (x : Tool). c.args.text.now ≡ two_digits x c.in_ok-rest-in-FreeIpmi.field-0-0 ++ c.in_ok-rest-in-FreeIpmi.rest.now)
    c.in-FreeIpmi.is c.in_ok-rest-in-FreeIpmi.ensures.1)))
