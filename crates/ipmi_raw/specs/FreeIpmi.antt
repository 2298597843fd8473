-- The input of FreeIPMI's `ipmi-raw` for a request, and its output for a reply.
use Rattle.std.specs.Prelude.{ℕ, ◌≡◌, ◌<◌, ◌++◌, List, codes, ◌⊎◌}
use Rattle.ipmi_raw.specs.declared.reply.Reply.{Reply}
use Rattle.ipmi_raw.specs.declared.reply.Reply.TheVariants.{Data, Refused, Silent}
use Rattle.ipmi_raw.specs.declared.request.Request.{Request}
use Rattle.ipmi_raw.specs.declared.tool.Tool.TheVariants.{FreeIpmi}
use Rattle.ipmi_raw.specs.Words.{two_digits, bytes_after, word, words_from, AreData}
use Rattle.ipmi_raw.specs.Request.{lun_of, command_of, message_of}

-- a line of bytes in two digits: the logical unit, the network function, the command and the data
abbrev pub request_text : Request → List ℕ
request_text request = two_digits FreeIpmi (lun_of request) ++ bytes_after FreeIpmi (codes " ") (message_of request) ++ codes "\n"

-- a line with the request's command, a completion code and data
abbrev pub received : Request → ℕ → List ℕ → List ℕ
received request code bytes =
    codes "rcvd:" ++ (word FreeIpmi (command_of request) ++ (word FreeIpmi code ++ words_from FreeIpmi 0 bytes))

-- a message of the tool that no answer came in time, or that the controller was too busy for one
abbrev pub IsSilence : List ℕ → Type 0
IsSilence text = (text ≡ codes "ipmi_cmd_raw: session timeout\n")
    ⊎ ((text ≡ codes "ipmi_cmd_raw: message timeout\n")
    ⊎ ((text ≡ codes "ipmi_cmd_raw: driver timeout\n")
    ⊎ (text ≡ codes "ipmi_cmd_raw: BMC busy\n")))

-- The whole text of a reply to the request. Bytes after a completion code other than 00h are
-- ignored.
abbrev pub IsReplyText : Request → Reply → List ℕ → Type 0
IsReplyText request (Data bytes) text = AreData bytes × (text ≡ received request 0 bytes)
IsReplyText request (Refused code) text =
    (0 < code) × (code < 256) × ((bytes : List ℕ) × AreData bytes × (text ≡ received request code bytes))
IsReplyText request Silent text = IsSilence text
