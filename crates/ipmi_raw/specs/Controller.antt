-- What contracts see of a controller at the other end of a peer.
use Rattle.std.specs.Prelude.{ℕ, ◌≡◌, ◌+◌, ◌≤◌, ◌<◌, ⊤, Bool, true, false, if◌then◌else◌, is_none, MatchBool, MatchOption, Option, None, Some, Result, Ok, Err, List}
use Rattle.ipmi_bus.specs.declared.code.Code.{Code}
use Rattle.ipmi_bus.specs.Counts.{Counts}
use Rattle.ipmi_bus.specs.Seen.{Seen}
use Rattle.ipmi_raw.specs.declared.controller.RawController.{RawController}
use Rattle.ipmi_raw.specs.declared.peer.Lost.{Lost}
use Rattle.ipmi_raw.specs.declared.reply.Reply.{Reply}
use Rattle.ipmi_raw.specs.declared.reply.Reply.TheVariants.{Data, Refused, Silent}
use Rattle.ipmi_raw.specs.declared.request.Request.{Request}
use Rattle.ipmi_raw.specs.declared.request.Request.TheVariants.{DeviceId}
use Rattle.ipmi_raw.specs.declared.tool.Tool.{Tool}
use Rattle.ipmi_raw.specs.Answer.{given, IsDataIfAny}
use Rattle.ipmi_raw.specs.Peer.{IsReplyText}

-- The controller at the other end, but with the counts of the calls made here. Once the connection
-- is lost, it does not claim to be honest.
abbrev pub seen_through : Seen → Counts → Bool → Seen
seen_through seen counts is_lost = record seen {
  honest = if is_lost then false else seen.honest;
  calls = counts.calls;
  most_asked = counts.most_asked;
  last_asked = counts.last_asked;
  last_failure = counts.last_failure;
}

-- the same for a controller, given the state at the other end of its peer
abbrev pub seen_of : {P K : Type 0} → (P → Seen) → RawController P K → Seen
seen_of seen raw = seen_through (seen raw.peer) raw.tally.counts raw.is_lost

-- the tool of the controller's peer, given the tool of a peer
abbrev pub tool_of : {P K : Type 0} → (P → Tool) → RawController P K → Tool
tool_of tool raw = tool raw.peer

-- the tool's output when the connection was lost, if it was
abbrev pub last_words : {P K : Type 0} → RawController P K → Option (List ℕ)
last_words raw = if raw.is_lost then Some raw.text.items else None

-- ---- one exchange over a peer

-- the type of a peer's `brings`: what is known of its exchanges
abbrev pub Exchanges : Type 0 → Type 1
Exchanges P = P → P → Request → Result (Unit {0}) Lost → List ℕ → Type 0

-- no reply came, or the received text is not of a reply to the request with data of the right length
abbrev pub IsUnheard : Tool → Request → Result (Unit {0}) Lost → List ℕ → Type 0
IsUnheard tool request (Err lost) text = ⊤
IsUnheard tool request (Ok done) text =
    (reply : Reply) → IsReplyText tool request reply text → ¬ IsDataIfAny request (given request reply)

-- a reply came: the received text is of it, and its data have the right length
abbrev pub IsHeard : Tool → Request → Result (Unit {0}) Lost → List ℕ → Reply → Type 0
IsHeard tool request came text reply =
    (came ≡ Ok tt) × IsReplyText tool request reply text × IsDataIfAny request (given request reply)

-- The request was sent once over the peer, which was `old` and is `new`, and nothing else was. This reply was heard, or none.
abbrev pub Exchanged : {P : Type 0} → Exchanges P → Tool → Request → Option Reply → P → P → List ℕ → Type 0
Exchanged brings tool request heard old new text = (came : Result (Unit {0}) Lost) × brings old new request came text
    × MatchOption heard (IsUnheard tool request came text) (IsHeard tool request came text)

-- ---- a call

-- what was heard is an answer: data or a code
abbrev pub is_answer : Option Reply → Bool
is_answer (Some (Data bytes)) = true
is_answer (Some (Refused code)) = true
is_answer (Some Silent) = false
is_answer None = false

-- the number of silent requests in a row after one more request, if there were `silent` before it: an answer ends the row
abbrev pub silent_after : ℕ → Option Reply → ℕ
silent_after silent (Some (Data bytes)) = 0
silent_after silent (Some (Refused code)) = 0
silent_after silent (Some Silent) = silent + 1
silent_after silent None = silent

-- Get Device ID was sent over this peer, and nothing else. If there was no answer, the connection is lost.
abbrev pub Probes : {P K : Type 0} → Exchanges P → Tool → P → RawController P K → Type 0
Probes brings tool peer new = (heard : Option Reply) × Exchanged brings tool DeviceId heard peer new.peer new.text.items
    × MatchBool new.is_lost (is_answer heard ≡ false) ((is_answer heard ≡ true) × (new.silence.silent ≡ 0))

-- A call sends its request. If more than `tries` requests in a row were silent, it sends Get Device ID too; otherwise nothing else. If
-- the connection is not lost then, there was a reply, for which the call returns what `Gives` says.
pub record Sends {P K : Type 0} (brings : Exchanges P) (tool : Tool) (request : Request) (Gives : Reply → Type 0)
    (old new : RawController P K) : Type 0 where
  pub heard : Option Reply
  pub peer : P
  pub text : List ℕ
  pub sent : Exchanged brings tool request heard old.peer peer text
  pub counts : silent_after old.silence.silent heard ≤ old.silence.tries → (new.peer ≡ peer) × (new.text.items ≡ text)
      × (new.is_lost ≡ is_none heard) × (new.silence.silent ≡ silent_after old.silence.silent heard)
  pub probes : old.silence.tries < silent_after old.silence.silent heard → Probes brings tool peer new
  pub gives : new.is_lost ≡ false → MatchOption heard ⊥ Gives

-- A call over any peer. If the connection is lost after it, the call fails with FFh. If it was lost before, nothing is sent, and only
-- counts change. The clock, the pause and the number of tries never change.
pub record Asks {P K : Type 0} (brings : Exchanges P) (tool : Tool) (request : Request) (Gives : Result (List ℕ) Code → Type 0)
    (old new : RawController P K) (failure : Option ℕ) : Type 0 where
  pub sends : old.is_lost ≡ false → Sends brings tool request (λ reply. Gives (given request reply)) old new
  pub fails : new.is_lost ≡ true → failure ≡ Some 0xFF
  pub stays : old.is_lost ≡ true → new ≡ record old { tally = new.tally }
  pub keeps : (new.clock ≡ old.clock) × (new.pause ≡ old.pause) × (new.silence.tries ≡ old.silence.tries)
