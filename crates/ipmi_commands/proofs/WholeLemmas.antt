-- A listing of the bytes of records writes whole records, over any controller.
use Rattle.std.proofs.Common.{◌≡◌, ℕ, ◌+◌, ◌≤◌, true, Err, List, [], ◌∷◌, ◌++◌, length, refl, sym, ap, ◌∙◌, arith, append_assoc, append-nil, length-append}
use Rattle.std.specs.List.{concat}
use Rattle.std.proofs.lemmas.Bool.Decides.{nat_tests}
use Rattle.std.proofs.lemmas.List.Elements.{All-append, All-cons, All-nil}
use Rattle.ipmi_text.specs.SdrHeader.{sdr_len}
use Rattle.ipmi_commands.specs.Below.{CursorState, Ending, Failure, is_whole_record, Row, Sdr, Seen, whole_len}
use Rattle.ipmi_commands.specs.Prelude.{Form, shelf_of, ShowsRow, WritesRecords, WritesWhole}
use Rattle.ipmi_commands.specs.Output.{Output}
use Rattle.ipmi_commands.proofs.CallLemmas.{HasCalled}
use Rattle.ipmi_commands.proofs.LimitLemmas.{counts_as}
use Rattle.ipmi_commands.specs.Format.{Texts}

pub whole_record : (bytes : List ℕ) → length bytes ≡ sdr_len bytes → is_whole_record bytes ≡ true
whole_record bytes is = grind (arith, nat_tests)

-- the bytes of these many records were written, if the form is that of bytes
abbrev pub WritesSoFar : Form → ℕ → List ℕ → List ℕ → Type 0
WritesSoFar Form.Bytes count old new = WritesRecords count old new
WritesSoFar form count old new = Unit {0}

no_records : (old : List ℕ) → WritesRecords 0 old old
no_records old = record { records = []; whole = All-nil _; count_is = refl; new_is = sym (append-nil old) }

pub writes_none : (form : Form) (old : List ℕ) → WritesSoFar form 0 old old
writes_none Form.Bytes old = no_records old
writes_none _ old = tt

concat-append : (records : List (List ℕ)) (bytes : List ℕ) → concat (records ++ bytes ∷ []) ≡ concat records ++ bytes
concat-append [] bytes = append-nil bytes
concat-append (first ∷ records) bytes = ap (λ (l : List ℕ). first ++ l) (concat-append records bytes) ∙ sym (append_assoc first (concat records) bytes)

one_record : (count : ℕ) (old new text bytes more : List ℕ) → WritesRecords count old new → length bytes ≡ whole_len Sdr bytes → text ≡ bytes
    → more ≡ new ++ text → WritesRecords (count + 1) old more
one_record count old new text bytes more before len is more_is = record {
  records = before.records ++ bytes ∷ [];
  whole = All-append (λ b. is_whole_record b ≡ true) before.records (bytes ∷ []) before.whole (All-cons (λ b. is_whole_record b ≡ true) bytes [] (whole_record bytes len) (All-nil _));
  count_is = omega (arith, length-append before.records (bytes ∷ []), before.count_is);
  new_is = more_is ∙ rw (is, before.new_is, concat-append before.records bytes) (append_assoc old (concat before.records) bytes);
}

pub writes_more : (x : Texts) → (form : Form) (count : ℕ) (old new text more : List ℕ) (row : Row) (seen : Seen) (piece : Output)
    → WritesSoFar form count old new → length row.bytes ≡ whole_len (shelf_of form) row.bytes
    → ShowsRow x form row seen piece → text ≡ piece.bytes → more ≡ new ++ text → WritesSoFar form (count + counts_as form row) old more
writes_more x Form.Bytes count old new text more row seen piece before len shows is more_is =
    one_record count old new text row.bytes more before len (is ∙ shows) more_is
writes_more x _ count old new text more row seen piece before len shows is more_is = tt

-- at most as many as there are ids
pub writes_whole : {each size : ℕ} {begun now : CursorState} {s s' : Seen} (form : Form) (count : ℕ) (old new : List ℕ) (ending : Ending)
    → HasCalled each size begun now s s' → count ≤ size → WritesSoFar form count old new → WritesWhole form old new ending
writes_whole form count old new ending called fewer before = by form ending before
  where
    few : count ≤ 65536
    few = omega (arith, fewer, called.ids, called.keeps.room)

    by : (form : Form) (ending : Ending) → WritesSoFar form count old new → WritesWhole form old new ending
    by form (Err Failure.WriteFault) before = tt
    by Form.Bytes ending before = (count, few, before)
    by form ending before = tt

pub whole_none : (form : Form) (old : List ℕ) (ending : Ending) → WritesWhole form old old ending
whole_none form old (Err Failure.WriteFault) = tt
whole_none Form.Bytes old ending = (0, omega arith, no_records old)
whole_none form old ending = tt
