-- The reply read from a text is the one that an honest peer gave.
use Rattle.std.proofs.Common.{◌≡◌, ℕ, true, List, Result, Ok, Err, is_err, subst}
use Rattle.ipmi_bus.specs.Seen.{Seen}
use Rattle.ipmi_raw.specs.declared.reply.Reply.{Reply}
use Rattle.ipmi_raw.specs.declared.request.Request.{Request}
use Rattle.ipmi_raw.specs.declared.tool.Tool.{Tool}
use Rattle.ipmi_raw.specs.declared.tool.Tool.TheVariants.{Ipmitool, FreeIpmi}
use Rattle.ipmi_raw.specs.Answer.{given, IsAnswer, IsDataIfAny}
use Rattle.ipmi_raw.specs.declared.peer.Lost.{Lost}
use Rattle.ipmi_raw.specs.Controller.{IsUnheard}
use Rattle.ipmi_raw.specs.Peer.{IsReplyText, Replies}
use Rattle.ipmi_raw.proofs.LawLemmas.{one_reply_of_ipmitool, one_reply_of_freeipmi}

one_reply : (tool : Tool) (request : Request) (one other : Reply) (text : List ℕ) → IsReplyText tool request one text
    → IsReplyText tool request other text → one ≡ other
one_reply Ipmitool request one other text is too = one_reply_of_ipmitool request one other text is too
one_reply FreeIpmi request one other text is too = one_reply_of_freeipmi request one other text is too

-- its data has the right length, and it is the answer of an honest controller
pub means : (tool of_peer : Tool) (request : Request) (reply : Reply) (text : List ℕ) (s t : Seen) → tool ≡ of_peer
    → IsReplyText tool request reply text → Replies of_peer request text s t
    → IsDataIfAny request (given request reply) × IsAnswer request (given request reply) s t
means tool of_peer request reply text s t same_tool is meant =
    let same : meant.reply ≡ reply =
    one_reply of_peer request meant.reply reply text meant.text_is (subst (λ (x : Tool). IsReplyText x request reply text) same_tool is) in
    subst (λ (x : Reply). IsDataIfAny request (given request x) × IsAnswer request (given request x) s t) same (meant.fits, meant.answers)

-- ---- no usable reply

-- no reply came
pub no_reply : (tool : Tool) (request : Request) (came : Result (Unit {0}) Lost) (text : List ℕ) → is_err came ≡ true
    → IsUnheard tool request came text
no_reply tool request (Err lost) text e = tt
no_reply tool request (Ok done) text e = cc

-- the text is not of a reply
pub unread : (tool of_peer : Tool) (request : Request) (came : Result (Unit {0}) Lost) (text text' : List ℕ) → tool ≡ of_peer
    → text ≡ text' → ((reply : Reply) → ¬ IsReplyText tool request reply text) → IsUnheard of_peer request came text'
unread tool of_peer request (Err lost) text text' same_tool same_text none = tt
unread tool of_peer request (Ok done) text text' same_tool same_text none = λ reply is fits.
    none reply (rw same_tool (rw same_text is))

-- the text is of a reply with data of a wrong length
pub unfit : (tool of_peer : Tool) (request : Request) (came : Result (Unit {0}) Lost) (reply : Reply) (text text' : List ℕ)
    → tool ≡ of_peer → text ≡ text' → IsReplyText tool request reply text → ¬ IsDataIfAny request (given request reply)
    → IsUnheard of_peer request came text'
unfit tool of_peer request (Err lost) reply text text' same_tool same_text is wrong = tt
unfit tool of_peer request (Ok done) reply text text' same_tool same_text is wrong = λ other too fits.
    let same : other ≡ reply = one_reply tool request other reply text (rw same_tool (rw same_text too)) is in
    wrong (subst (λ (x : Reply). IsDataIfAny request (given request x)) same fits)
