-- The texts of requests and replies for each tool, and the replies over an honest controller.
use Rattle.std.specs.Prelude.{ℕ, List}
use Rattle.ipmi_bus.specs.Seen.{Seen}
use Rattle.ipmi_raw.specs.declared.reply.Reply.{Reply}
use Rattle.ipmi_raw.specs.declared.request.Request.{Request}
use Rattle.ipmi_raw.specs.declared.tool.Tool.{Tool}
use Rattle.ipmi_raw.specs.declared.tool.Tool.TheVariants.{Ipmitool, FreeIpmi}
use Rattle.ipmi_raw.specs.Ipmitool as ipmitool_text
use Rattle.ipmi_raw.specs.FreeIpmi as freeipmi_text
use Rattle.ipmi_raw.specs.Answer.{given, IsAnswer, IsDataIfAny}

abbrev pub request_text : Tool → Request → List ℕ
request_text Ipmitool request = ipmitool_text.request_text request
request_text FreeIpmi request = freeipmi_text.request_text request

abbrev pub IsReplyText : Tool → Request → Reply → List ℕ → Type 0
IsReplyText Ipmitool request reply text = ipmitool_text.IsReplyText request reply text
IsReplyText FreeIpmi request reply text = freeipmi_text.IsReplyText request reply text

-- the text is that of a reply that an honest controller may give to the request
pub record Replies (tool : Tool) (request : Request) (text : List ℕ) (old new : Seen) : Type 0 where
  pub reply : Reply
  pub text_is : IsReplyText tool request reply text
  pub fits : IsDataIfAny request (given request reply)
  pub answers : IsAnswer request (given request reply) old new
