-- The records of the multirecord area, one by one.
use Rattle.std.proofs.Common.{◌≡◌, ℕ, zero, suc, ◌+◌, ◌<◌, ◌≤◌, Bool, true, false, cond, Option, None, Some, Result, Ok, List, [], ◌∷◌, length, drop, slice_index, refl, sym, ap, ◌∙◌, arith, length-drop}
use Rattle.std.proofs.lemmas.Bool.Decides.{nat_tests}
use Rattle.ipmi_fru.specs.Prelude.{MultiFault, offset_of, MultiRecord, IsRecordList, HasItems, items_of, record_in, record_fault, after_record, items_by, items_from, items_in}

-- more steps than there are bytes change nothing
pub items_from-enough : (n m : ℕ) (bytes : List ℕ) → length bytes < n → length bytes < m
    → items_from n bytes ≡ items_from m bytes
items_from-enough zero m bytes a b = absurd (omega (arith, a))
items_from-enough (suc n) zero bytes a b = absurd (omega (arith, b))
items_from-enough (suc n) (suc m) [] a b = refl
items_from-enough (suc n) (suc m) (byte ∷ bytes) a b =
    let left = length-drop (5 + slice_index (byte ∷ bytes) 2) (byte ∷ bytes) in
    ap (items_by _ _) (items_from-enough n m (after_record (byte ∷ bytes)) (omega (arith, left, a)) (omega (arith, left, b)))

pub items_in-more : (bytes : List ℕ) → record_fault bytes ≡ None → (r : MultiRecord) (rest : List ℕ)
    → r ≡ record_in bytes → rest ≡ after_record bytes
    → r.last ≡ false → length rest < length bytes → items_in bytes ≡ Ok r ∷ items_in rest
items_in-more bytes fine r rest is rest_is last shorter =
    let not_last : (record_in bytes).last ≡ false = ap (λ (r : MultiRecord). r.last) (sym is) ∙ last in
    rw (fine, ← is, not_last, ← rest_is, items_from-enough (length bytes) (suc (length rest)) rest shorter (omega arith)) refl

-- ---- the items found are those of the only list of records

-- a list of records with these items
pub record IsListed (bytes : List ℕ) (items : List (Result MultiRecord MultiFault)) : Type 0 where
  pub records : List MultiRecord
  pub end : Option MultiFault
  pub is_list : IsRecordList bytes records end
  pub items_are : items ≡ items_of records end

enough_bytes : (bytes : List ℕ) → record_fault bytes ≡ None → 5 ≤ length bytes
enough_bytes bytes fine = grind (arith, nat_tests)

listed : (n : ℕ) (bytes : List ℕ) → length bytes < n → IsListed bytes (items_from n bytes)
listed zero bytes lt = absurd (omega (arith, lt))
listed (suc n) bytes lt = by (λ shorter. listed n (after_record bytes) shorter) (record_fault bytes) refl
  where
    r : MultiRecord
    r = record_in bytes

    last_or_more : (length (after_record bytes) < n
        → IsListed (after_record bytes) (items_from n (after_record bytes)))
        → record_fault bytes ≡ None → (last : Bool) → r.last ≡ last
        → IsListed bytes (Ok r ∷ cond last [] (items_from n (after_record bytes)))
    last_or_more ih fine true is = record { records = r ∷ []; end = None; is_list = (fine, (refl, rw is (refl, refl))); items_are = refl }
    last_or_more ih fine false is =
        let more = ih (omega (arith, length-drop (5 + slice_index bytes 2) bytes, enough_bytes bytes fine, lt)) in
        record { records = r ∷ more.records; end = more.end; is_list = (fine, (refl, rw is more.is_list)); items_are = rw more.items_are refl }

    by : (length (after_record bytes) < n
        → IsListed (after_record bytes) (items_from n (after_record bytes)))
        → (o : Option MultiFault) → record_fault bytes ≡ o
        → IsListed bytes (items_by o r (items_from n (after_record bytes)))
    by ih (Some f) is = record { records = []; end = Some f; is_list = is; items_are = refl }
    by ih None is = last_or_more ih is r.last refl

pub some_items : (bytes part : List ℕ) (items : List (Result MultiRecord MultiFault)) (offset : ℕ)
    → offset_of 5 bytes ≡ Some offset → part ≡ drop offset bytes → items ≡ items_in part
    → HasItems bytes items
some_items bytes part items offset is part_is items_are =
    let found = listed (suc (length part)) part (omega arith) in
    record {
      records = found.records;
      end = found.end;
      are_records = rw (is, ← part_is) found.is_list;
      items_are = items_are ∙ found.items_are;
    }

pub no_items : (bytes : List ℕ) (items : List (Result MultiRecord MultiFault))
    → offset_of 5 bytes ≡ None → items ≡ [] → HasItems bytes items
no_items bytes items is items_are =
    record { records = []; end = None; are_records = rw is (refl, refl); items_are = items_are }
