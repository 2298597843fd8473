-- Replies of a controller in memory.
use Rattle.std.specs.Prelude.{◌<◌, ⊤}
use Rattle.ipmi_bus.specs.Seen.{Seen}
use Rattle.ipmi_raw.specs.declared.reply.Reply.{Reply}
use Rattle.ipmi_raw.specs.declared.reply.Reply.TheVariants.{Data, Refused, Silent}
use Rattle.ipmi_raw.specs.declared.request.Request.{Request}
use Rattle.ipmi_raw.specs.Answer.{given, IsAnswer, IsDataIfAny}
use Rattle.ipmi_raw.specs.Words.{AreData}

-- an honest controller may give the reply to the request
abbrev pub IsReply : Request → Reply → Seen → Seen → Type 0
IsReply request reply old new = IsDataIfAny request (given request reply) × IsAnswer request (given request reply) old new

-- a tool can print the reply: its data are bytes, or its code is not 00h
abbrev pub CanBePrinted : Reply → Type 0
CanBePrinted (Data bytes) = AreData bytes
CanBePrinted (Refused code) = (0 < code) × (code < 256)
CanBePrinted Silent = ⊤
