-- The effect of a part from an honest controller on the record that is being read.
use Rattle.std.proofs.Common.{◌≡◌, ℕ, ◌+◌, ◌<◌, ◌≤◌, Bool, true, false, nat_eq, Option, None, Some, Result, Ok, Err, List, length, take, drop, get_or, slice_range, refl, sym, ap, subst, ◌∙◌, inl, inr, arith, IsTrue, IsSome, ne_eqb, get_or-take, take-take, take-add, MatchOption, IsOk}
use Rattle.std.proofs.lemmas.Bool.{cases_lt}
use Rattle.std.proofs.lemmas.Bool.Decides.{nat_tests}
use Rattle.ipmi_bus.specs.Prelude.{Shelf, Code, CodeClass, Cancelled, Busy, SmallerPart, NotPresent, Refusal, Part, Ended, Stalled, Malformed, CallOutcome, Again, Over, Whole, Absent, Retrieval, Row, IsRow, look, whole_len, len_of, largest_len, rows_of, store_shelf, Seen, stays_trans, IsHonest, StaysHonest, MayLoseReservation, IsQuiet, IsFinished, current, reads_ahead, CountsPiece, CountsRefusal, PartFailsWith, GivesPiece, PartAnswers, smaller_part, class_of, SameRequest, IsReading, HoldsCurrent, HasMet, KeepsHeld, HonestSince, IsPlainSince, ReadIsHonest, ReadNext, asked_to, wanted_len, after_part, Asked, part_asked, not_present}
use Rattle.ipmi_bus.specs.Retrieval.{IsOpenRecord, HasRead, TakesRecordPart, MakesSmaller, PartFails, RefusesPart}
use Rattle.ipmi_bus.proofs.ShelfLemmas.{look_row}
use Rattle.ipmi_bus.proofs.CallLemmas.{reading_kept, held_on, within_calm, trouble_answers, refusal_answers}

-- a request for the next bytes
abbrev request_of : Retrieval → ℕ → ℕ → Asked
request_of r reservation len = part_asked r.shelf reservation r.id r.have len

-- a byte that is already read
pub get_or-read : (have i : ℕ) (buffer bytes : List ℕ) → i < have
    → take have buffer ≡ take have bytes → get_or buffer i 0 ≡ get_or bytes i 0
get_or-read have i buffer bytes lt same = sym (get_or-take have buffer i 0 lt) ∙ rw same (get_or-take have bytes i 0 lt)

-- the wanted length depends only on the bytes that are already read
wanted_read : (shelf : Shelf) (have : ℕ) (buffer bytes : List ℕ)
    → take have buffer ≡ take have bytes → wanted_len shelf have buffer ≡ wanted_len shelf have bytes
wanted_read shelf have buffer bytes same = let byte = λ (lt : 4 < have). get_or-read have 4 buffer bytes lt same in grind (arith, nat_tests)

-- a request keeps the record open, and its answer is not longer than the bytes that are missing
pub open_requested : (r : Retrieval) (buffer : List ℕ) → IsOpenRecord r
    → take r.have buffer ≡ take r.have r.buffer → IsOpenRecord (record r { buffer = buffer })
open_requested r buffer is front =
    let wanted = wanted_read r.shelf r.have buffer r.buffer front in
    record { part = is.part; part_fits = is.part_fits; more = rw wanted is.more; fits = rw wanted is.fits; troubles = is.troubles; reserved = is.reserved }

-- a request is for at least one byte, and for none after the first 256
asked_within : (ahead : Bool) (shelf : Shelf) (have : ℕ) (buffer : List ℕ)
    → have < wanted_len shelf have buffer → wanted_len shelf have buffer ≤ largest_len shelf
    → (have < asked_to ahead shelf have buffer) × (asked_to ahead shelf have buffer ≤ 256)
asked_within ahead shelf have buffer more fits = grind (arith, nat_tests)

pub reaches_within : (r : Retrieval) → IsOpenRecord r
    → (r.have < asked_to r.ahead r.shelf r.have r.buffer)
    × (asked_to r.ahead r.shelf r.have r.buffer ≤ 256)
reaches_within r is = asked_within r.ahead r.shelf r.have r.buffer is.more is.fits

-- the wanted length is at most that of the row
pub wanted_within : (shelf : Shelf) (have : ℕ) (buffer : List ℕ) (row : Row) → IsRow shelf row
    → take have buffer ≡ take have row.bytes → wanted_len shelf have buffer ≤ length row.bytes
wanted_within shelf have buffer row ok same =
    let whole = ok.whole in let byte = λ (lt : 4 < have). get_or-read have 4 buffer row.bytes lt same in grind (arith, nat_tests)

-- bytes of the wanted length are the whole row
pub wanted_whole : (shelf : Shelf) (have : ℕ) (buffer : List ℕ) (row : Row) → IsRow shelf row
    → take have buffer ≡ take have row.bytes → have ≡ wanted_len shelf have buffer
    → have ≡ length row.bytes
wanted_whole shelf have buffer row ok same is =
    let whole = ok.whole in let byte = λ (lt : 4 < have). get_or-read have 4 buffer row.bytes lt same in grind (arith, nat_tests)

-- the bytes read before, while the reservation is current
take-before : (r : Retrieval) (s : Seen) (row : Row) → IsReading r s
    → (0 < r.have → current r.shelf s ≡ r.reservation)
    → look (rows_of r.shelf s.store) r.id ≡ Some row → take r.have r.buffer ≡ take r.have row.bytes
take-before r s row reading reserved found = elim (cases_lt 0 r.have) [
  | inl some ↦
      let before = reading.piece some (reserved some) in
      let e : before.0 ≡ row = let f = before.1.found in cc (f, found) in
      before.1.bytes ∙ rw e refl
  | inr none ↦ let zero : r.have ≡ 0 = omega arith in rw zero refl
]

-- and the new bytes
pub take-with_piece : (have got asked : ℕ) (before after bytes : List ℕ) → got ≤ asked
    → take have after ≡ take have before → take have before ≡ take have bytes
    → take got (slice_range after have (have + asked)) ≡ take got (drop have bytes)
    → take (have + got) after ≡ take (have + got) bytes
take-with_piece have got asked before after bytes fits front same piece =
    let range : slice_range after have (have + asked) ≡ take asked (drop have after) = ap (λ (k : ℕ). take k (drop have after)) {y = asked} (omega arith) in
    let inner : take got (drop have after) ≡ take got (drop have bytes) = sym (take-take got asked (drop have after) fits) ∙ sym (ap (take got) range) ∙ piece in
    take-add have got after ∙ rw (front ∙ same, inner) (sym (take-add have got bytes))

pub calm_piece : (flag : Bool) (s s' : Seen) → CountsPiece flag s s' → HasMet 0 s s'
calm_piece true s s' counts = search (arith, counts)
calm_piece false s s' counts = search (arith, counts)

-- the retrieval with the new bytes
abbrev taken : Retrieval → List ℕ → Part → Retrieval
taken old buffer part = after_part part (record old { buffer = buffer })

module _ (start old : Retrieval) (buffer : List ℕ) (s s' s'' : Seen) (n asked : ℕ) (part : Part)
    (row : Row) (same : SameRequest start old) (since : HonestSince start old s s')
    (open_ : IsOpenRecord old) (held : old.reservation ≡ Some n) (stays : StaysHonest s' s'')
    (keeps : MayLoseReservation old.shelf s' s'') (ok : IsRow old.shelf row)
    (front : take old.have buffer ≡ take old.have old.buffer)
    (gives : GivesPiece (request_of old n asked) part
    (slice_range buffer old.have (old.have + asked)) s' s'' row) where
  calm : HasMet 0 s' s''
  calm = calm_piece _ s' s'' gives.counts

  all : StaysHonest s s''
  all = stays_trans s s' s'' since.stays stays

  read : HasRead (taken old buffer part) s'' row
  read =
      let kept = reading_kept old s' s'' old.part old.ahead old.troubles keeps stays.store open_.reserved since.reading in
      let before = take-before old s'' row (record { piece = kept.piece }) (λ some. gives.reserved some ∙ sym held) gives.found in
      record {
        read = record {
          found = gives.found;
          within = gives.piece.within;
          bytes = take-with_piece old.have part.got asked old.buffer buffer row.bytes gives.piece.fits front before gives.piece.bytes;
        };
        next = gives.next;
      }

  keeps_held : IsSome start.reservation → s''.troubles ≡ s.troubles
      → KeepsHeld start (taken old buffer part) s s''
  keeps_held = held_on start old s s' s'' same since stays (taken old buffer part) keeps (omega (arith, calm.troubles_are)) refl

  holds : IsTrue s.plain → HoldsCurrent start s → IsPlainSince start (taken old buffer part) s''
  holds p h = record {
    holds = record { held = λ m e. keeps.plain (since.stays.plain p) ∙ (since.plain p h).holds.held m e };
    part = (since.plain p h).part;
    ahead = (since.plain p h).ahead;
  }

  piece_goes_on : old.have + part.got < wanted_len old.shelf (old.have + part.got) buffer
      → HonestSince start (taken old buffer part) s s''
  piece_goes_on more =
      let within = wanted_within old.shelf (old.have + part.got) buffer row ok read.read.bytes in
      let flag : nat_eq (old.have + part.got) (length row.bytes) ≡ false = ne_eqb _ _ (λ (e : old.have + part.got ≡ length row.bytes). absurd (omega arith)) in
      let quiet : IsQuiet s' s'' = subst (λ (b : Bool). CountsPiece b s' s'') flag gives.counts in
      record {
        stays = all;
        reading = record { piece = λ some now. (row, read.read) };
        keeps = keeps_held;
        met = search arith;
        fresh_troubles = quiet.fresh_troubles ∙ since.fresh_troubles;
        plain = holds;
        within = λ e. let len = rw (same.shelf, same.id, all.store.stays e) at (ap len_of gives.found) in omega (arith, gives.piece.within, len);
      }

  -- no byte comes after the end of the row, so none is left out
  whole_answers : (new : Retrieval)
      → new ≡ record (record old { buffer = buffer }) { have = new.have; next = part.next }
      → new.have ≤ old.have + part.got → new.have ≡ wanted_len old.shelf new.have buffer
      → ReadNext start new s s'' (Ok (Over Whole))
  whole_answers new is fits wanted =
      let front : take new.have buffer ≡ take new.have row.bytes = sym (take-take new.have (old.have + part.got) buffer fits) ∙ ap (take new.have) read.read.bytes ∙ take-take new.have (old.have + part.got) row.bytes fits in
      let whole = wanted_whole old.shelf new.have buffer row ok front wanted in
      let all_of_it : new.have ≡ old.have + part.got = omega (arith, whole, fits, gives.piece.within) in
      let base : ReadIsHonest start (taken old buffer part) s s'' (Ok Whole) = record {
        stays = all;
        answers = (within_calm start old s s' s'' same since stays open_ calm, (row, read, sym all_of_it ∙ whole));
        keeps = keeps_held;
        plain = λ p h. (holds p h, tt);
      } in
      rw (is, all_of_it) base

  piece_answers : (new : Retrieval) (result : Result CallOutcome Ended)
      → TakesRecordPart part (record old { buffer = buffer }) new result
      → ReadNext start new s s'' result
  piece_answers new (Ok Again) takes = rw takes.1 (piece_goes_on (rw takes.1 at takes.2))
  piece_answers new (Ok (Over Whole)) takes = whole_answers new takes.1 takes.2 (rw takes.1 at takes.3)
  piece_answers new (Err (Stalled id)) takes = absurd (omega (arith, takes.0, gives.piece.some))
  piece_answers new (Err (Malformed id)) takes =
      let five : 5 ≤ old.have + part.got = rw takes.1 at takes.4 in
      let whole : length row.bytes ≡ 5 + get_or row.bytes 4 0 = subst (λ (shelf : Shelf). length row.bytes ≡ whole_len shelf row.bytes) takes.3 ok.whole in
      let byte = get_or-read (old.have + part.got) 4 buffer row.bytes (omega arith) read.read.bytes in
      let largest : largest_len old.shelf ≡ 256 = ap largest_len takes.3 in
      absurd (omega (arith, takes.5, ok.fits, largest))
  piece_answers new _ takes = absurd takes

-- an honest controller gave a part
pub honest_part : (start old r new : Retrieval) (s s' s'' : Seen) (n asked : ℕ) (part : Part)
    (result : Result CallOutcome Ended) → SameRequest start old → HonestSince start old s s'
    → IsOpenRecord old → r ≡ record old { buffer = r.buffer }
    → take old.have r.buffer ≡ take old.have old.buffer → old.reservation ≡ Some n
    → PartAnswers (request_of old n asked) (Ok part)
    (slice_range r.buffer old.have (old.have + asked)) s' s'' → TakesRecordPart part r new result
    → ReadNext start new s s'' result
honest_part start old r new s s' s'' n asked part result same since open_ is front held parts takes =
    let row = parts.gives.0 in
    let ok = look_row old.shelf _ old.id row (store_shelf old.shelf s''.store parts.change.stays.honest.store) parts.gives.1.found in
    let takes' : TakesRecordPart part (record old { buffer = r.buffer }) new result = subst (λ (x : Retrieval). TakesRecordPart part x new result) is takes in
    piece_answers start old r.buffer s s' s'' n asked part row same since open_ held parts.change.stays parts.keeps ok front parts.gives.1 new result takes'

module _ (old : Retrieval) (s : Seen) (n asked : ℕ) (honest : IsHonest s) (open_ : IsOpenRecord old)
    (reading : IsReading old s) (holds : HoldsCurrent old s) (held : old.reservation ≡ Some n) where
  abbrev failed : Code → Result Part Code
  failed code = Err code

  -- a plain controller answers a request for more bytes with data, or with CBh if there is no such row
  pub plain_code : (code : Code) → MatchOption (look (rows_of old.shelf s.store) old.id)
      (failed code ≡ Err not_present)
      (λ row. old.have < length row.bytes → (0 < old.have → current old.shelf s ≡ Some n)
      → IsOk (failed code)) → code.0 ≡ 0xCB
  plain_code code plain = by_row (look (rows_of old.shelf s.store) old.id) refl
    where
      by_row : (o : Option Row) → look (rows_of old.shelf s.store) old.id ≡ o → code.0 ≡ 0xCB
      by_row None found = let is = rw found at plain in let e : code ≡ record { 0 = 0xCB } = cc is in rw e refl
      by_row (Some row) found =
          let ok : IsRow old.shelf row = look_row old.shelf _ old.id row (store_shelf old.shelf s.store honest.store) found in
          let same = take-before old s row reading (λ some. holds.held n held ∙ sym held) found in
          let within = wanted_within old.shelf old.have old.buffer row ok same in
          cc ((rw found at plain) (omega (arith, open_.more)) (λ some. holds.held n held))

-- for a part of more than one byte there is a smaller part
pub smaller_some : (asked : ℕ) → 1 < asked → smaller_part asked ≡ None → ⊥
smaller_some asked more none = grind (arith, nat_tests)

-- an honest controller failed a call for a part
module _ (start old new : Retrieval) (s s' s'' : Seen) (n asked : ℕ) (code : Code) (into : List ℕ)
    (same : SameRequest start old) (since : HonestSince start old s s') (open_ : IsOpenRecord old)
    (held : old.reservation ≡ Some n)
    (parts : PartAnswers (request_of old n asked) (Err code) into s' s'') where
  stays : StaysHonest s' s''
  stays = parts.change.stays

  over_all : StaysHonest s s''
  over_all = stays_trans s s' s'' since.stays stays

  keeps_on : (r : Retrieval) → s'.troubles ≤ s''.troubles → r.reservation ≡ old.reservation
      → IsSome start.reservation → s''.troubles ≡ s.troubles → KeepsHeld start r s s''
  keeps_on r = held_on start old s s' s'' same since stays r parts.keeps

  -- a smaller part is to be requested
  with_smaller : (part : ℕ) (ahead : Bool) → IsQuiet s' s'' → (IsTrue s.plain → HoldsCurrent start s → ⊥)
      → HonestSince start (record old { part = part; ahead = ahead }) s s''
  with_smaller part ahead quiet not_plain = record {
    stays = over_all;
    reading = reading_kept old s' s'' part ahead old.troubles parts.keeps stays.store open_.reserved since.reading;
    keeps = keeps_on (record old { part = part; ahead = ahead }) (omega (arith, quiet.troubles)) refl;
    met = search arith;
    fresh_troubles = quiet.fresh_troubles ∙ since.fresh_troubles;
    plain = λ p h. absurd (not_plain p h);
    within = λ e. since.within (omega (arith, since.stays.store.grows, stays.store.grows));
  }

  smaller_answers : (result : Result CallOutcome Ended) → 1 < asked → IsQuiet s' s''
      → (IsTrue s.plain → HoldsCurrent start s → ⊥) → MakesSmaller asked old new result
      → ReadNext start new s s'' result
  smaller_answers (Ok turn) more quiet not_plain does = rw does.0 (subst (λ (r : Retrieval). HonestSince start r s s'') (sym does.2) (with_smaller new.part _ quiet not_plain))
  smaller_answers (Err ended) more quiet not_plain does = absurd (smaller_some asked more does.1)

  -- a refusal to read ahead is kept from the caller, any other is told
  refusal_is : (ahead : Bool) (result : Result CallOutcome Ended) → CountsRefusal ahead code.0 s' s''
      → (IsTrue s.plain → HoldsCurrent start s → ⊥) → RefusesPart ahead code asked old new result
      → ReadNext start new s s'' result
  refusal_is true result quiet not_plain does = rw does.0 (subst (λ (r : Retrieval). HonestSince start r s s'') (sym does.2) (with_smaller new.part false quiet not_plain))
  refusal_is false result refused not_plain does = refusal_answers start old s s' s'' same since stays new code result open_ parts.keeps refused does not_plain

  absent_answers : (result : Result CallOutcome Ended)
      → look (rows_of old.shelf s''.store) old.id ≡ None → IsFinished s' s''
      → (result ≡ Ok (Over Absent)) × (new ≡ old) → ReadNext start new s s'' result
  absent_answers result absent finished does =
      let counts : HasMet 0 s' s'' = search (arith, finished) in
      let base : ReadIsHonest start old s s'' (Ok Absent) = record {
        stays = over_all;
        answers = (within_calm start old s s' s'' same since stays open_ counts, rw (same.shelf, same.id) at absent);
        keeps = keeps_on old (omega (arith, finished.troubles)) refl;
        plain = λ p h. (
          record {
            holds = record { held = λ m e. parts.keeps.plain (since.stays.plain p) ∙ (since.plain p h).holds.held m e };
            part = (since.plain p h).part;
            ahead = (since.plain p h).ahead;
          },
          tt,
        );
      } in
      rw (does.0, does.1) base

  part_by_class : (class : CodeClass) (result : Result CallOutcome Ended)
      → ((class ≡ NotPresent → ⊥) → IsTrue s.plain → HoldsCurrent start s → ⊥)
      → PartFailsWith (reads_ahead old.shelf old.have asked) (1 < asked) (look (rows_of old.shelf s''.store) old.id ≡ None) class code.0 s' s''
      → PartFails class code asked old new result → ReadNext start new s s'' result
  part_by_class Cancelled result not_plain troubled does = trouble_answers start old s s' s'' same since stays true new result open_ parts.keeps troubled does (not_plain (λ e. cc e))
  part_by_class Busy result not_plain troubled does = trouble_answers start old s s' s'' same since stays false new result open_ parts.keeps troubled does (not_plain (λ e. cc e))
  part_by_class SmallerPart result not_plain fails does = smaller_answers result fails.0 fails.1 (not_plain (λ e. cc e)) does
  part_by_class NotPresent result not_plain fails does = absent_answers result fails.0 fails.1 does
  part_by_class Refusal result not_plain fails does = refusal_is (reads_ahead old.shelf old.have asked) result fails (not_plain (λ e. cc e)) does

  pub part_failed : (result : Result CallOutcome Ended)
      → PartFails (class_of code.0) code asked old new result → ReadNext start new s s'' result
  part_failed result fails = part_by_class (class_of code.0) result not_plain parts.gives fails
    where
      not_plain : (class_of code.0 ≡ NotPresent → ⊥) → IsTrue s.plain → HoldsCurrent start s → ⊥
      not_plain other p h = other (ap class_of (plain_code old s' n asked since.stays.honest open_ since.reading (since.plain p h).holds held code (parts.plain (since.stays.plain p))))
