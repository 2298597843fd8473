-- The input of `ipmitool exec` for a request, and its output for a reply.
use Rattle.std.specs.Prelude.{ℕ, ◌≡◌, ◌<◌, ◌==◌, ◌++◌, List, codes, false}
use Rattle.std.specs.List.{list_any}
use Rattle.ipmi_raw.specs.declared.reply.Reply.{Reply}
use Rattle.ipmi_raw.specs.declared.reply.Reply.TheVariants.{Data, Refused, Silent}
use Rattle.ipmi_raw.specs.declared.request.Request.{Request}
use Rattle.ipmi_raw.specs.declared.tool.Tool.TheVariants.{Ipmitool}
use Rattle.ipmi_raw.specs.Words.{bytes_after, number, ending, words_from, AreData}
use Rattle.ipmi_raw.specs.Request.{network_function_of, lun_of, command_of, message_of}

-- The request as words, then an `echo` for the end mark. It does not contain the logical unit: the
-- tool gets that from its option `-l`.
abbrev pub request_text : Request → List ℕ
request_text request = codes "raw" ++ bytes_after Ipmitool (codes " 0x") (message_of request) ++ codes "\necho .\n"

-- The tool's message if there is no data. The channel is 0, as requests are for the controller
-- itself and are not forwarded.
abbrev pub refusal : Request → List ℕ
refusal request =
    codes "Unable to send RAW command (channel=0x0 netfn=0x" ++ number Ipmitool (network_function_of request)
    ++ codes " lun=0x" ++ number Ipmitool (lun_of request)
    ++ codes " cmd=0x" ++ number Ipmitool (command_of request)

-- the tool's explanation of a completion code has no line feed
abbrev pub IsMeaning : List ℕ → Type 0
IsMeaning meaning = list_any (λ byte. byte == 10) meaning ≡ false

-- a completion code and the tool's explanation of it, including the end mark
abbrev pub code_text : ℕ → List ℕ → List ℕ
code_text code meaning = number Ipmitool code ++ (codes "): " ++ (meaning ++ ending Ipmitool))

-- The whole text of a reply to the request, including the end mark.
abbrev pub IsReplyText : Request → Reply → List ℕ → Type 0
IsReplyText request (Data bytes) text = AreData bytes × (text ≡ words_from Ipmitool 0 bytes)
IsReplyText request (Refused code) text =
    (0 < code) × (code < 256)
    × ((meaning : List ℕ) × IsMeaning meaning × (text ≡ refusal request ++ (codes " rsp=0x" ++ code_text code meaning)))
IsReplyText request Silent text = text ≡ refusal request ++ codes ")\n. \n"
