-- Texts with a completion code other than 00h.
use Rattle.std.proofs.Common.{◌≡◌, ◌<◌, ℕ, ◌++◌, List, [], refl, ◌∙◌, arith, codes}
use Rattle.std.proofs.lemmas.List.{append_assoc}
use Rattle.std.proofs.lemmas.List.Elements.{All-nil}
use Rattle.ipmi_raw.specs.declared.reply.Reply.TheVariants.{Refused}
use Rattle.ipmi_raw.specs.declared.request.Request.{Request}
use Rattle.ipmi_raw.specs.declared.tool.Tool.TheVariants.{Ipmitool, FreeIpmi}
use Rattle.ipmi_raw.specs.FreeIpmi.{received}
use Rattle.ipmi_raw.specs.Ipmitool.{refusal}
use Rattle.ipmi_raw.specs.Peer.{IsReplyText}
use Rattle.ipmi_raw.specs.Words.{number}

pub refused_by_ipmitool : (request : Request) (code : ℕ) (text : List ℕ) → 0 < code → code < 256
    → text ≡ ((refusal request ++ codes " rsp=0x") ++ number Ipmitool code) ++ codes "): Unknown\n. \n"
    → IsReplyText Ipmitool request (Refused code) text
refused_by_ipmitool request code text some lt e = (
  some,
  lt,
  (
    codes "Unknown",
    refl,
    e
        ∙ (append_assoc (refusal request ++ codes " rsp=0x") (number Ipmitool code) (codes "): Unknown\n. \n")
        ∙ append_assoc (refusal request) (codes " rsp=0x") (number Ipmitool code ++ codes "): Unknown\n. \n")),
  ),
)

pub refused_by_freeipmi : (request : Request) (code : ℕ) (text : List ℕ) → 0 < code → code < 256 → text ≡ received request code []
    → IsReplyText FreeIpmi request (Refused code) text
refused_by_freeipmi request code text some lt e = (some, lt, ([], (omega arith, All-nil (λ (x : ℕ). x < 256)), e))
