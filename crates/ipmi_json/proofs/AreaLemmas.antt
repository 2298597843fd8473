-- What is told of an area: how deep it is nested, and the loop over fields.
use Rattle.std.proofs.Common.{◌≡◌, ◌≤◌, ◌<◌, ◌+◌, ℕ, Option, None, Some, List, [], ◌∷◌, ◌++◌, Bor, add-one, arith, drop, get_or, length, map}
use Rattle.std.proofs.Math.Seq.{drop-cons}
use Rattle.json.specs.Tree.{depth}
use Rattle.ipmi_fru.specs.Prelude.{Area, AreaField, language_of}
use Rattle.ipmi_fru.specs.declared.area.AreaKind.{AreaKind}
use Rattle.ipmi_json.specs.Areas.{AreLeadMembers, extra_texts, field_keys, field_members, first_value}
use Rattle.ipmi_json.specs.Members.{Tells, Told}
use Rattle.ipmi_json.specs.Object.{AreWithin, Pair, text_or_null}
use Rattle.ipmi_json.proofs.MemberLemmas.{joined}
use Rattle.ipmi_json.proofs.ObjectLemmas.{depth-texts, within_joined}

depth-first_value : (language : ℕ) (fields : List AreaField) → depth (first_value language fields) ≤ 1
depth-first_value language fields = grind arith

pub depth-text_or_null : (text : Option (List ℕ)) → depth (text_or_null text) ≤ 0
depth-text_or_null None = omega arith
depth-text_or_null (Some text) = omega arith

within_fields : (language : ℕ) (keys : List (List ℕ)) (fields : List AreaField)
    → AreWithin 1 (field_members language keys fields)
within_fields language [] fields =
    let flat = depth-texts (extra_texts language fields) in
    omega (arith, flat)
within_fields language (name ∷ keys) fields =
    let one = depth-first_value language fields in
    let rest = within_fields language keys (drop 1 fields) in
    omega (arith, one, rest)

within_lead : (kind : AreaKind) (bytes : List ℕ) (ms : List Pair) → AreLeadMembers kind bytes ms → AreWithin 1 ms
within_lead AreaKind.Chassis bytes ms h = rw h (omega arith)
within_lead AreaKind.Board bytes ms h = rw h.1.1 (let time = depth-text_or_null h.0 in omega (arith, time))
within_lead AreaKind.Product bytes ms h = rw h (omega arith)

pub within_area : (area : Area) (lead : List Pair) → AreLeadMembers area.kind area.bytes lead
    → AreWithin 2 (lead ++ field_members (language_of area.kind area.bytes) (field_keys area.kind) area.fields)
within_area area lead h =
    let fields = field_members (language_of area.kind area.bytes) (field_keys area.kind) area.fields in
    let all = within_joined 1 lead fields (within_lead area.kind area.bytes lead h) (within_fields (language_of area.kind area.bytes) (field_keys area.kind) area.fields) in
    omega (arith, all)

-- a key with its field, and then the members of those that remain
pub fields_told : {S : Type 0} {told : Told S} {old mid new : S} (language : ℕ) (keys : List (Bor (List ℕ))) (i : ℕ)
    (none : Bor (List ℕ)) (left next : List AreaField) → i < length keys → next ≡ drop 1 left
    → Tells told (((get_or keys i none).now, first_value language left) ∷ []) old mid
    → Tells told (field_members language (map (λ key. key.now) (drop (i + 1) keys)) next) mid new
    → Tells told (field_members language (map (λ key. key.now) (drop i keys)) left) old new
fields_told language keys i none left next within is first rest =
    let rest = rw (add-one i, is) at rest in
    rw (drop-cons keys i none) (joined first rest)
