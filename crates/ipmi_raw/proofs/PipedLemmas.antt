-- An exchange over the streams of one unit. The streams are taken out and then put back.
use Rattle.std.proofs.Common.{◌≡◌, ◌≢◌, ◌==◌, sym, IsErr, if◌then◌else◌, ℕ, Bool, true, false, Option, None, Some, Result, Ok, Err, List, refl, subst, ap, ◌∙◌, [], unwrap_or}
use Rattle.std.specs.declared.io.traits.Write.{Ghosts}
use Rattle.ipmi_output.specs.Writer.{taken_of, writer_of}
use Rattle.ipmi_output.specs.declared.sink.Written.{Written}
use Rattle.ipmi_raw.specs.declared.peer.Lost.{Lost}
use Rattle.ipmi_raw.specs.declared.piped.Units.{Units}
use Rattle.ipmi_raw.specs.declared.streams.Streams.{Streams}
use Rattle.ipmi_raw.specs.declared.tool.Tool.{Tool}
use Rattle.ipmi_raw.specs.Heard.{given_of, reader_of}
use Rattle.ipmi_raw.specs.declared.heard.Heard.{Heard}
use Rattle.ipmi_raw.specs.Piped.{AreReady, IsExchange, IsFirst, IsOpened, IsOverUnit, Kept, Known, Openings, streams_of, with_streams}

-- the streams put in last are there
last_put : {R W : Type 0} (unit : ℕ) (one other : Option (Streams R W)) (units : Units R W)
    → with_streams unit other (with_streams unit one units) ≡ with_streams unit other units
last_put {R} {W} unit one other units = of (unit == 0) (unit == 1) (unit == 2) (unit == 3)
  where
    put : Bool → Bool → Bool → Bool → Option (Streams R W) → Units R W → Units R W
    put a b c d s u =
        if a then record u { zero = s } else if b then record u { one = s } else if c then record u { two = s }
        else if d then record u { three = s } else u

    of : (a b c d : Bool) → put a b c d other (put a b c d one units) ≡ put a b c d other units
    of true b c d = refl
    of false true c d = refl
    of false false true d = refl
    of false false false true = refl
    of false false false false = refl

-- no streams were open, so some were opened
module _ {O R W : Type 0} {write : Ghosts W} (opens : Openings O R W) (remaining : Known R) (tool : Tool) (unit : ℕ)
    (first : List ℕ) (opener opener' : O) (opened after : Kept R W write)
    (is_opened : IsOpened opens unit opener opener' opened) where
  pub ready_after : (was_open : Option (Kept R W write)) → ((s : Kept R W write) → was_open ≢ Some s)
      → IsFirst remaining tool (Ok tt) first opened after
      → AreReady opens remaining tool unit was_open (Ok after) first opener opener'
  ready_after (Some s) none over = absurd (none s refl)
  ready_after None none over = (opened, is_opened, over)

  pub lost_after : (was_open : Option (Kept R W write)) (lost : Lost)
      → ((s : Kept R W write) → was_open ≢ Some s) → IsFirst remaining tool (Err lost) first opened after
      → AreReady opens remaining tool unit was_open (Err (Some after)) first opener opener'
  lost_after (Some s) lost none over = absurd (none s refl)
  lost_after None lost none over = (opened, is_opened, (lost, over))

-- streams are as they were opened
pub opened_so : {O R W : Type 0} {write : Ghosts W} (opens : Openings O R W) (unit : ℕ) (opener opener' : O) (reader : R) (writer : W)
    (replies : Heard R) (requests : Written W write) → opens opener opener' unit (Some (reader, writer))
    → reader_of replies ≡ reader → given_of replies ≡ [] → writer_of requests ≡ writer
    → taken_of requests ≡ unwrap_or (write.contents writer) []
    → IsOpened opens unit opener opener' (record { replies = replies; requests = requests })
opened_so {write = write} opens unit opener opener' reader writer replies requests are same none_given too none = record {
  are_opened = subst (λ r. opens opener opener' unit (Some (r, writer_of requests))) (sym same)
      (subst (λ w. opens opener opener' unit (Some (reader, w))) (sym too) are);
  none_given = none_given;
  none_sent = none ∙ ap (λ w. unwrap_or (write.contents w) []) (sym too);
}

module _ {O R W : Type 0} {write : Ghosts W} (opens : Openings O R W) (remaining : Known R) (tool : Tool) (unit : ℕ)
    (request : List ℕ) (opener opener' : O) (old middle : Units (Heard R) (Written W write)) (was_open : Option (Kept R W write))
    (was : was_open ≡ streams_of unit old) (out : middle ≡ with_streams unit None old) where
  -- the request was exchanged over the streams
  pub over_unit : (came : Result (Unit {0}) Lost) (first reply : List ℕ) (new : Units (Heard R) (Written W write))
      (before after : Kept R W write)
      → AreReady opens remaining tool unit was_open (Ok before) first opener opener'
      → IsExchange remaining request came reply before after → new ≡ with_streams unit (Some after) middle
      → IsOverUnit opens remaining tool unit request came reply opener opener' old new
  over_unit came first reply new before after ready over put = record {
    now = Some after;
    others = put ∙ ap (λ u. with_streams unit (Some after) u) out ∙ last_put unit None (Some after) old;
    ready = Ok before;
    first = first;
    are_ready = subst (λ o. AreReady opens remaining tool unit o (Ok before) first opener opener') was ready;
    over = (after, refl, over);
  }

  -- the connection was lost when the streams were opened
  pub over_none : (lost : Option (Kept R W write)) (came : Result (Unit {0}) Lost) (reply : List ℕ)
      (new : Units (Heard R) (Written W write)) → IsErr came
      → AreReady opens remaining tool unit was_open (Err lost) reply opener opener' → new ≡ with_streams unit lost middle
      → IsOverUnit opens remaining tool unit request came reply opener opener' old new
  over_none lost came reply new is ready put = record {
    now = lost;
    others = put ∙ ap (λ u. with_streams unit lost u) out ∙ last_put unit None lost old;
    ready = Err lost;
    first = reply;
    are_ready = subst (λ o. AreReady opens remaining tool unit o (Err lost) reply opener opener') was ready;
    over = (refl, is, refl);
  }
