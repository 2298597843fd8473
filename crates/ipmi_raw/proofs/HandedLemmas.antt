-- What tools were handed stays requests over an exchange.
use Rattle.std.proofs.Common.{◌≡◌, ◌==◌, ◌<◌, ◌&&◌, arith, if◌then◌else◌, is_err, IsErr, ℕ, Bool, true, false, zero, suc, MatchResult, Option, None, Some, Result, Ok, Err, List, [], ◌∷◌, ◌++◌, refl, subst, sym, ap, take, drop, ◌∙◌}
use Rattle.std.proofs.lemmas.Bool.{eqb-true}
use Rattle.std.proofs.lemmas.Grind.{flat_map-append}
use Rattle.std.proofs.lemmas.List.{append_assoc, append-nil, take-append-drop}
use Rattle.std.proofs.lemmas.List.Elements.{All-nil, All-push}
use Rattle.std.specs.List.{flat_map}
use Rattle.std.specs.declared.io.traits.Write.{Ghosts}
use Rattle.ipmi_output.specs.Writer.{taken_of}
use Rattle.ipmi_output.specs.declared.sink.Written.{Written}
use Rattle.ipmi_raw.specs.declared.heard.Heard.{Heard}
use Rattle.ipmi_raw.specs.declared.peer.Lost.{Lost}
use Rattle.ipmi_raw.specs.declared.piped.Units.{Units}
use Rattle.ipmi_raw.specs.declared.request.Request.{Request}
use Rattle.ipmi_raw.specs.declared.streams.Streams.{Streams}
use Rattle.ipmi_raw.specs.declared.tool.Tool.{Tool}
use Rattle.ipmi_raw.specs.declared.tool.Tool.TheVariants.{Ipmitool, FreeIpmi}
use Rattle.ipmi_raw.specs.Handed.{AreRequests, AreRequestsUnlessCut, BreakOff, WasHanded, OnlyRequests}
use Rattle.ipmi_raw.specs.Peer.{request_text}
use Rattle.ipmi_raw.specs.Piped.{AreReady, first_text, IsExchange, IsFirst, IsOpened, IsOverUnit, Kept, Known, no_units, Openings, Ready, streams_of, unit_of, with_streams}
use Rattle.ipmi_raw.specs.Request.{lun_of}
use Rattle.ipmi_raw.specs.Streams.{HandsOver}

-- ---- texts

one_more : (tool : Tool) (unit : ℕ) (text : List ℕ) (request : Request) → unit_of tool (lun_of request) ≡ unit
    → AreRequests tool unit text → AreRequests tool unit (text ++ request_text tool request)
one_more tool unit text request to are =
    let before = flat_map (request_text tool) are.requests in
    record {
      requests = are.requests ++ request ∷ [];
      to_unit = All-push (λ r. unit_of tool (lun_of r) ≡ unit) are.requests request are.to_unit to;
      text_is = ap (λ t. t ++ request_text tool request) are.text_is
          ∙ append_assoc (first_text tool) before (request_text tool request)
          ∙ ap (λ t. first_text tool ++ t)
          (sym (flat_map-append (request_text tool) are.requests (request ∷ [])
          ∙ ap (λ t. before ++ t) (append-nil (request_text tool request))));
    }

none_yet : (tool : Tool) (unit : ℕ) → AreRequests tool unit (first_text tool)
none_yet tool unit = record { requests = []; to_unit = All-nil (λ r. unit_of tool (lun_of r) ≡ unit); text_is = sym (append-nil (first_text tool)) }

cut : (tool : Tool) (unit k : ℕ) (text bytes : List ℕ) → AreRequests tool unit (text ++ bytes)
    → BreakOff tool unit (text ++ take k bytes)
cut tool unit k text bytes are = (
  drop k bytes,
  subst (AreRequests tool unit) (sym (append_assoc text (take k bytes) (drop k bytes)
      ∙ ap (λ t. text ++ t) (take-append-drop k bytes))) are,
)

-- an input that took `text` after `base` is handed these bytes, which end a text of requests
handed_over : (tool : Tool) (unit : ℕ) (came : Result (Unit {0}) Lost) (bytes base text old new : List ℕ)
    → old ≡ base ++ text → HandsOver came bytes old new → AreRequests tool unit (text ++ bytes)
    → (text' : List ℕ) × (new ≡ base ++ text') × AreRequestsUnlessCut (is_err came) tool unit text'
handed_over tool unit (Ok done) bytes base text old new was over are =
    (text ++ bytes, over ∙ (ap (λ t. t ++ bytes) was ∙ append_assoc base text bytes), are)
handed_over tool unit (Err lost) bytes base text old new was over are = (
  text ++ take over.0 bytes,
  over.1 ∙ (ap (λ t. t ++ take over.0 bytes) was ∙ append_assoc base text (take over.0 bytes)),
  cut tool unit over.0 text bytes are,
)

-- ---- streams of one unit

module _ {O R W : Type 0} {write : Ghosts W} (opens : Openings O R W) (remaining : Known R) (tool : Tool) (unit : ℕ)
    (opener opener' : O) where
  over_open : (request : Request) (came : Result (Unit {0}) Lost) (reply : List ℕ) (before after : Kept R W write)
      → unit_of tool (lun_of request) ≡ unit → WasHanded opens unit (AreRequests tool unit) (Some before)
      → IsExchange remaining (request_text tool request) came reply before after
      → WasHanded opens unit (AreRequestsUnlessCut (is_err came) tool unit) (Some after)
  over_open request came reply before after to had over =
      let is = had.1 in
      let now = handed_over tool unit came (request_text tool request) (taken_of is.opened.requests) had.0
      (taken_of before.requests) (taken_of after.requests) is.taken over.sent (one_more tool unit had.0 request to had.2) in
      (now.0, record { opener = is.opener; opener' = is.opener'; opened = is.opened; is_opened = is.is_opened; taken = now.1 }, now.2)

  after_first : (came : Result (Unit {0}) Lost) (reply : List ℕ) (opened after : Kept R W write)
      → IsOpened opens unit opener opener' opened → (t : Tool) → tool ≡ t → IsFirst remaining t came reply opened after
      → WasHanded opens unit (AreRequestsUnlessCut (is_err came) tool unit) (Some after)
  after_first came reply opened after is Ipmitool same over =
      let now = handed_over tool unit came (first_text Ipmitool) (taken_of opened.requests) [] (taken_of opened.requests)
      (taken_of after.requests) (sym (append-nil (taken_of opened.requests))) over.sent
      (subst (λ t. AreRequests tool unit (first_text t)) same (none_yet tool unit)) in
      (now.0, record { opener = opener; opener' = opener'; opened = opened; is_opened = is; taken = now.1 }, now.2)
  after_first came reply opened after is FreeIpmi same over =
      subst (λ (c : Result (Unit {0}) Lost). WasHanded opens unit (AreRequestsUnlessCut (is_err c) tool unit) (Some after)) (sym over.0)
      (subst (λ s. WasHanded opens unit (AreRequests tool unit) (Some s)) (sym over.2) (
        [],
        record {
          opener = opener;
          opener' = opener';
          opened = opened;
          is_opened = is;
          taken = sym (append-nil (taken_of opened.requests));
        },
        subst (λ t. AreRequests tool unit (first_text t)) same (none_yet tool unit),
      ))

  ready_so : (first : List ℕ) (was : Option (Kept R W write)) (ready : Ready (Kept R W write))
      → WasHanded opens unit (AreRequests tool unit) was → AreReady opens remaining tool unit was ready first opener opener'
      → MatchResult ready (λ before. WasHanded opens unit (AreRequests tool unit) (Some before))
      (λ lost. WasHanded opens unit (BreakOff tool unit) lost)
  ready_so first (Some streams) ready had are =
      subst (λ (r : Ready (Kept R W write)). MatchResult r (λ before. WasHanded opens unit (AreRequests tool unit) (Some before))
      (λ lost. WasHanded opens unit (BreakOff tool unit) lost)) (sym are.0) had
  ready_so first None (Ok streams) had are = after_first (Ok tt) first are.0 streams are.1 tool refl are.2
  ready_so first None (Err (Some streams)) had are = after_first (Err are.2.0) first are.0 streams are.1 tool refl are.2.1
  ready_so first None (Err None) had are = tt

  -- the streams of the unit after an exchange
  over_ready : (request : Request) (came : Result (Unit {0}) Lost) (reply first : List ℕ) (now : Option (Kept R W write))
      (ready : Ready (Kept R W write)) → unit_of tool (lun_of request) ≡ unit
      → MatchResult ready (λ before. WasHanded opens unit (AreRequests tool unit) (Some before))
      (λ lost. WasHanded opens unit (BreakOff tool unit) lost)
      → MatchResult ready
      (λ before. (after : Kept R W write) × (now ≡ Some after) × IsExchange remaining (request_text tool request) came reply before after)
      (λ lost. (now ≡ lost) × IsErr came × (reply ≡ first))
      → WasHanded opens unit (AreRequestsUnlessCut (is_err came) tool unit) now
  over_ready request came reply first now (Ok before) to had over =
      subst (WasHanded opens unit (AreRequestsUnlessCut (is_err came) tool unit)) (sym over.1)
      (over_open request came reply before over.0 to had over.2)
  over_ready request came reply first now (Err lost) to had over =
      subst (λ b. WasHanded opens unit (AreRequestsUnlessCut b tool unit) now) (sym over.1)
      (subst (WasHanded opens unit (BreakOff tool unit)) (sym over.0) had)

-- ---- all units

put : {R W : Type 0} (unit : ℕ) (streams : Option (Streams R W)) (units : Units R W) → unit < 4
    → streams_of unit (with_streams unit streams units) ≡ streams
put zero streams units h = refl
put (suc zero) streams units h = refl
put (suc (suc zero)) streams units h = refl
put (suc (suc (suc zero))) streams units h = refl
put (suc (suc (suc (suc n)))) streams units h = absurd (omega (arith, h))

kept : {R W : Type 0} (unit other : ℕ) (streams : Option (Streams R W)) (units : Units R W) → unit < 4 → (other == unit) ≡ false
    → streams_of other (with_streams unit streams units) ≡ streams_of other units
kept zero other streams units few h = rw h refl
kept (suc zero) other streams units few h = rw h refl
kept (suc (suc zero)) other streams units few h = rw h refl
kept (suc (suc (suc zero))) other streams units few h = rw h refl
kept (suc (suc (suc (suc n)))) other streams units few h = absurd (omega (arith, few))

module _ {O R W : Type 0} {write : Ghosts W} (opens : Openings O R W) (remaining : Known R) (tool : Tool) where
  -- before an exchange no connection is lost; afterwards it is unless a reply came
  pub still_requests : (unit : ℕ) (request : Request) (came : Result (Unit {0}) Lost) (reply : List ℕ) (opener opener' : O)
      (old new : Units (Heard R) (Written W write)) → unit < 4 → unit_of tool (lun_of request) ≡ unit
      → OnlyRequests opens tool false old
      → IsOverUnit opens remaining tool unit (request_text tool request) came reply opener opener' old new
      → OnlyRequests opens tool (is_err came) new
  still_requests unit request came reply opener opener' old new few to had over = (unit, λ other. each other (other == unit) refl)
    where
      now : WasHanded opens unit (AreRequestsUnlessCut (is_err came) tool unit) over.now
      now = over_ready opens remaining tool unit opener opener' request came reply over.first over.now over.ready to
          (ready_so opens remaining tool unit opener opener' over.first (streams_of unit old) over.ready (had.1 unit) over.are_ready)
          over.over

      mine : WasHanded opens unit (AreRequestsUnlessCut (is_err came && true) tool unit) (streams_of unit new)
      mine = subst (WasHanded opens unit (AreRequestsUnlessCut (is_err came && true) tool unit))
          (sym (ap (λ u. streams_of unit u) over.others ∙ put unit over.now old few))
          (subst (λ b. WasHanded opens unit (AreRequestsUnlessCut b tool unit) over.now) (sym (and_true (is_err came))) now)
        where
          and_true : (b : Bool) → (b && true) ≡ b
          and_true true = refl
          and_true false = refl

      and_false : (b : Bool) → (b && false) ≡ false
      and_false true = refl
      and_false false = refl

      each : (other : ℕ) (is_same : Bool) → (other == unit) ≡ is_same
          → WasHanded opens other (AreRequestsUnlessCut (is_err came && is_same) tool other) (streams_of other new)
      each other true same = subst (λ u. WasHanded opens u (AreRequestsUnlessCut (is_err came && true) tool u) (streams_of u new))
          (sym (eqb-true other unit same)) mine
      each other false same = subst (WasHanded opens other (AreRequestsUnlessCut (is_err came && false) tool other))
          (sym (ap (λ u. streams_of other u) over.others ∙ kept unit other over.now old few same))
          (subst (λ b. WasHanded opens other (AreRequestsUnlessCut b tool other) (streams_of other old)) (sym (and_false (is_err came)))
          (had.1 other))

none_of : {R W : Type 0} (unit : ℕ) → streams_of {R = R} {W = W} unit no_units ≡ None
none_of {R} {W} unit = of (unit == 0) (unit == 1) (unit == 2) (unit == 3)
  where
    none : Option (Streams R W)
    none = None

    of : (a b c d : Bool) → (if a then none else if b then none else if c then none else if d then none else none) ≡ none
    of true b c d = refl
    of false true c d = refl
    of false false true d = refl
    of false false false true = refl
    of false false false false = refl

-- no streams are open yet
pub none_handed : {O R W : Type 0} (write : Ghosts W) (opens : Openings O R W) (tool : Tool)
    → OnlyRequests {write = write} opens tool false no_units
none_handed write opens tool = (0, λ unit. subst (WasHanded {write = write} opens unit (AreRequests tool unit)) (sym (none_of unit)) tt)
