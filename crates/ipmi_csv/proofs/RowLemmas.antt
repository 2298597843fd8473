-- What a row keeps of the members that were told, and its text.
use Rattle.std.proofs.Common.{◌≡◌, ◌∙◌, ◌<◌, ◌≤◌, ◌++◌, ◌∷◌, [], ℕ, zero, suc, Bool, if◌then◌else◌, Option, None, Some, List, Global, IfOk, Result, Vec, ap, append_assoc, arith, bytes_eq, false, length, map, refl, sym, true}
use Rattle.std.proofs.lemmas.Grind.{common_steps}
use Rattle.std.proofs.lemmas.List.{append-nil, map-append}
use Rattle.std.proofs.lemmas.Result.{IfOk-weaker}
use Rattle.json.specs.Json.{Json, null}
use Rattle.ipmi_json.specs.Members.{BeginsItem, BeginsList, BeginsObject, EndsList, EndsObject, Tells, TellsSome, Top}
use Rattle.ipmi_json.specs.Object.{Pair, array_in, json_of, members_in, object_in}
use Rattle.ipmi_json.specs.declared.object.Label.{Label}
use Rattle.ipmi_json.specs.declared.object.Value.{Value}
use Rattle.ipmi_csv.specs.Cells.{csv_row}
use Rattle.ipmi_csv.specs.Row.{Seen, Told, add, before, begin, cell_of, cells_in, deeper, end, key_in, nothing, pass, put, seen_in, tell, text_or, told}
use Rattle.ipmi_csv.specs.Values.{IsRowOf, IsRowOfSome, area_members, both_keys, flat, members_of, text_of, value_at, value_or}
use Rattle.ipmi_command_line.specs.declared.request.Separator.{Separator}
use Rattle.ipmi_csv.specs.declared.row.Row.{Row}

-- ---- members that were told

abbrev seen_of : Option (List ℕ) → ℕ → List Told → Seen
seen_of area passed cells = record { area = area; passed = passed; cells = cells }

tell_more : (seen : Seen) (ms : List Pair) (m : Pair) → tell seen (ms ++ m ∷ []) ≡ put (tell seen ms) m
tell_more seen [] m = refl
tell_more seen (first ∷ ms) m = tell_more (put seen first) ms m

tell_passed : (n : ℕ) (area : Option (List ℕ)) (cells : List Told) (ms : List Pair)
    → tell (seen_of area (suc n) cells) ms ≡ seen_of area (suc n) cells
tell_passed n area cells [] = refl
tell_passed n area cells (m ∷ ms) = tell_passed n area cells ms

tell_area : (area : List ℕ) (cells : List Told) (ms : List Pair)
    → tell (seen_of (Some area) 0 cells) ms ≡ seen_of (Some area) 0 (cells ++ map cell_of (area_members area (members_in ms)))
tell_area area cells [] = ap (seen_of (Some area) 0) (sym (append-nil cells))
tell_area area cells (m ∷ ms) =
    tell_area area (cells ++ (both_keys area m.0, text_of m.1) ∷ []) ms
    ∙ ap (seen_of (Some area) 0) (append_assoc cells ((both_keys area m.0, text_of m.1) ∷ []) (map cell_of (area_members area (members_in ms))))

tell_top : (cells : List Told) (ms : List Pair)
    → tell (seen_of None 0 cells) ms ≡ seen_of None 0 (cells ++ map cell_of (flat ms))
tell_top cells [] = ap (seen_of None 0) (sym (append-nil cells))
tell_top cells (m ∷ ms) =
    let first = members_of m.0 m.1 in
    tell_top (cells ++ map cell_of first) ms
    ∙ ap (seen_of None 0) (append_assoc cells (map cell_of first) (map cell_of (flat ms))
    ∙ ap (λ rest. cells ++ rest) (sym (map-append cell_of first (flat ms))))

-- ---- objects and lists

object_by : (area : Option (List ℕ)) (passed : ℕ) (cells : List Told) (key : List ℕ) (ms : List Pair)
    → end (tell (begin (seen_of area passed cells) key) ms) ≡ put (seen_of area passed cells) (key, object_in ms)
object_by None zero cells key ms = ap end (tell_area key cells ms)
object_by (Some area) zero cells key ms =
    ap end (tell_passed 0 (Some area) (cells ++ (both_keys area key, []) ∷ []) ms)
object_by None (suc n) cells key ms = ap end (tell_passed (suc n) None cells ms)
object_by (Some area) (suc n) cells key ms = ap end (tell_passed (suc n) (Some area) cells ms)

item_by : (area : Option (List ℕ)) (passed : ℕ) (cells : List Told) (key : List ℕ) (ms : List Pair)
    → end (tell (deeper (pass (seen_of area passed cells) key)) ms) ≡ pass (seen_of area passed cells) key
item_by area zero cells key ms = ap end (tell_passed 1 area (cells ++ (key_in area key, []) ∷ []) ms)
item_by area (suc n) cells key ms = ap end (tell_passed (suc (suc n)) area cells ms)

list_by : (area : Option (List ℕ)) (passed : ℕ) (cells : List Told) (key : List ℕ) (items : List Json)
    → end (pass (seen_of area passed cells) key) ≡ put (seen_of area passed cells) (key, array_in items)
list_by None zero cells key items = refl
list_by (Some area) zero cells key items = refl
list_by area (suc n) cells key items = refl

-- ---- a row is a listener

pub member_told : {old new : Row} (m : Pair) → seen_in new ≡ put (seen_in old) m → Tells told (m ∷ []) old new
member_told m h = record {
  more = λ around ms is. h ∙ ap (λ (seen : Seen). put seen m) is ∙ sym (tell_more (before around) ms m);
}

pub object_begun : {old new : Row} (key : List ℕ) → seen_in new ≡ begin (seen_in old) key → BeginsObject told key old new
object_begun key h = record { object = λ around ms is. h ∙ ap (λ (seen : Seen). begin seen key) is }

pub list_begun : {old new : Row} (key : List ℕ) → seen_in new ≡ pass (seen_in old) key → BeginsList told key old new
list_begun key h = record { list = λ around ms is. h ∙ ap (λ (seen : Seen). pass seen key) is }

pub item_begun : {old new : Row} → seen_in new ≡ deeper (seen_in old) → BeginsItem told old new
item_begun h = record { item = λ around ms key items is. h ∙ ap deeper is }

pub object_ended : {old new : Row} → seen_in new ≡ end (seen_in old) → EndsObject told old new
object_ended h = record {
  object = λ around earlier key ms within is.
      let seen = tell (before around) earlier in
      h ∙ ap end is ∙ object_by seen.area seen.passed seen.cells key ms ∙ sym (tell_more (before around) earlier (key, object_in ms));
  item = λ around earlier key items ms within is.
      let seen = tell (before around) earlier in
      h ∙ ap end is ∙ item_by seen.area seen.passed seen.cells key ms;
}

pub list_ended : {old new : Row} → seen_in new ≡ end (seen_in old) → EndsList told old new
list_ended h = record {
  list = λ around earlier key items is.
      let seen = tell (before around) earlier in
      h ∙ ap end is ∙ list_by seen.area seen.passed seen.cells key items ∙ sym (tell_more (before around) earlier (key, array_in items));
}

-- ---- steps

put_by : (area : Option (List ℕ)) (passed : ℕ) (cells : List Told) (m : Pair) → 0 < passed
    → put (seen_of area passed cells) m ≡ seen_of area passed cells
put_by area zero cells m some = absurd (omega (arith, some))
put_by area (suc n) cells m some = refl

pub put_passed : (seen : Seen) (m : Pair) → 0 < seen.passed → seen ≡ put seen m
put_passed seen m some = sym (put_by seen.area seen.passed seen.cells m some)

pass_by : (area : Option (List ℕ)) (passed : ℕ) (cells : List Told) (key : List ℕ) → 0 < passed
    → pass (seen_of area passed cells) key ≡ deeper (seen_of area passed cells)
pass_by area zero cells key some = absurd (omega (arith, some))
pass_by area (suc n) cells key some = refl

pub pass_passed : (seen : Seen) (key : List ℕ) → 0 < seen.passed → deeper seen ≡ pass seen key
pass_passed seen key some = sym (pass_by seen.area seen.passed seen.cells key some)

first_by : (area : Option (List ℕ)) (passed : ℕ) (cells : List Told) (key : List ℕ) → passed ≤ 0
    → deeper (add (seen_of area passed cells) (key_in area key, [])) ≡ pass (seen_of area passed cells) key
first_by area zero cells key none = refl
first_by area (suc n) cells key none = absurd (omega (arith, none))

pub pass_first : (seen : Seen) (key : List ℕ) → seen.passed ≤ 0
    → deeper (add seen (key_in seen.area key, [])) ≡ pass seen key
pass_first seen key none = first_by seen.area seen.passed seen.cells key none

begin_by : (area : Option (List ℕ)) (passed : ℕ) (cells : List Told) (key : List ℕ) → 0 < passed
    → pass (seen_of area passed cells) key ≡ begin (seen_of area passed cells) key
begin_by area zero cells key some = absurd (omega (arith, some))
begin_by area (suc n) cells key some = refl

pub begin_passed : (seen : Seen) (key : List ℕ) → 0 < seen.passed → pass seen key ≡ begin seen key
begin_passed seen key some = begin_by seen.area seen.passed seen.cells key some

in_area_by : (area : List ℕ) (passed : ℕ) (cells : List Told) (key : List ℕ)
    → pass (seen_of (Some area) passed cells) key ≡ begin (seen_of (Some area) passed cells) key
in_area_by area zero cells key = refl
in_area_by area (suc n) cells key = refl

pub begin_in_area : (passed : ℕ) (cells : List Told) (area key : List ℕ)
    → pass (record { area = Some area; passed = passed; cells = cells }) key
    ≡ begin (record { area = Some area; passed = passed; cells = cells }) key
begin_in_area passed cells area key = in_area_by area passed cells key

pub begin_area : (passed : ℕ) (cells : List Told) (key : List ℕ) → passed ≤ 0
    → (record { area = Some key; passed = passed; cells = cells })
    ≡ begin (record { area = None; passed = passed; cells = cells }) key
begin_area zero cells key none = refl
begin_area (suc n) cells key none = absurd (omega (arith, none))

-- the cell of a value in the code
pub cell_of_value : (area : Option (List ℕ)) (key : List ℕ) (value : Value)
    → cells_in area (key, json_of value) ≡ (key_in area key, text_of (json_of value)) ∷ []
cell_of_value (Some area) key value = refl
cell_of_value None key Value.Null = refl
cell_of_value None key (Value.Bool b) = refl
cell_of_value None key (Value.Integer n) = refl
cell_of_value None key (Value.Number n) = refl
cell_of_value None key (Value.Text text) = refl
cell_of_value None key (Value.Texts list) = refl

-- a member that is not passed over
pub put_first : (seen : Seen) (key : List ℕ) (value : Value) → seen.passed ≤ 0
    → add seen (key_in seen.area key, text_of (json_of value)) ≡ put seen (key, json_of value)
put_first seen key value none = first seen.area seen.passed seen.cells none
  where
    first : (area : Option (List ℕ)) (passed : ℕ) (cells : List Told) → passed ≤ 0
        → add (seen_of area passed cells) (key_in area key, text_of (json_of value)) ≡ put (seen_of area passed cells) (key, json_of value)
    first area zero cells none = ap (λ more. seen_of area 0 (cells ++ more)) (sym (cell_of_value area key value))
    first area (suc n) cells none = absurd (omega (arith, none))

-- ---- rows

pub row-some : (separator : Separator) (texts : List (List ℕ)) → 0 < length (csv_row separator texts)
row-some separator [] = omega arith
row-some separator (text ∷ texts) = grind (arith, common_steps)

text_of-if : (test : Bool) (i j : Json)
    → (if test then text_of i else text_of j) ≡ text_of (if test then i else j)
text_of-if true i j = refl
text_of-if false i j = refl

text_of-value_or : (j : Json) (key : List ℕ) (ms : List Pair)
    → text_or (text_of j) key (map cell_of ms) ≡ text_of (value_or j key ms)
text_of-value_or j key [] = refl
text_of-value_or j key (m ∷ ms) =
    ap (λ text. text_or text key (map cell_of ms)) (text_of-if (bytes_eq m.0 key) m.1 j)
    ∙ text_of-value_or (if bytes_eq m.0 key then m.1 else j) key ms

texts_at : (keys : List (List ℕ)) (ms : List Pair)
    → map (λ key. text_or [] key (map cell_of (flat ms))) keys ≡ map (λ key. text_of (value_at key ms)) keys
texts_at [] ms = refl
texts_at (key ∷ keys) ms = rw (text_of-value_or null key (flat ms), texts_at keys ms) refl

-- the texts of what was told
pub texts_told : (row : Row) (keys : List (List ℕ)) (ms : List Pair) → told row Top ms
    → map (λ key. text_or [] key (seen_in row).cells) keys ≡ map (λ key. text_of (value_at key ms)) keys
texts_told row keys ms is =
    ap (λ (seen : Seen). map (λ key. text_or [] key seen.cells) keys) (is ∙ tell_top [] ms) ∙ texts_at keys ms

-- the row of a thing to which members were told
pub row_told : {E : Type 0} {Are : List Pair → Type 0} {begun now : Row} (separator : Separator) (labels : List Label) (columns : List (List ℕ))
    (r : Result (Vec ℕ Global) E) → seen_in begun ≡ nothing → TellsSome told Are begun now
    → ((ms : List Pair) → told now Top ms → IfOk r (λ line. IsRowOf separator labels columns ms line.items))
    → IfOk r (λ line. IsRowOfSome separator labels columns Are line.items)
row_told separator labels columns r begun t finished = IfOk-weaker r _ _
    (λ line h. record { ms = t.ms; are = t.are; is_row = h }) (finished t.ms (t.tells.more Top [] begun))

-- no row is empty
pub row_is_some : {E : Type 0} (separator : Separator) (labels : List Label) (columns : List (List ℕ)) (ms : List Pair) (r : Result (Vec ℕ Global) E)
    → IfOk r (λ line. IsRowOf separator labels columns ms line.items) → IfOk r (λ line. 0 < length line.items)
row_is_some separator labels columns ms r is = IfOk-weaker r _ _
    (λ line h. rw h (row-some separator (map (λ key. text_of (value_at key ms)) columns ++ map (λ (label : Label). label.value.now) labels))) is

pub told_is_some : {E : Type 0} {Are : List Pair → Type 0} {begun now : Row} (separator : Separator) (labels : List Label) (columns : List (List ℕ))
    (r : Result (Vec ℕ Global) E) → seen_in begun ≡ nothing → TellsSome told Are begun now
    → ((ms : List Pair) → told now Top ms → IfOk r (λ line. IsRowOf separator labels columns ms line.items))
    → IfOk r (λ line. 0 < length line.items)
told_is_some separator labels columns r begun t finished = row_is_some separator labels columns t.ms r (finished t.ms (t.tells.more Top [] begun))

-- the same of a record, whose row is not empty
pub record_told : {E : Type 0} {Are : List Pair → Type 0} {begun now : Row} (separator : Separator) (labels : List Label) (columns : List (List ℕ))
    (r : Result (Vec ℕ Global) E) → seen_in begun ≡ nothing → TellsSome told Are begun now
    → ((ms : List Pair) → told now Top ms → IfOk r (λ line. IsRowOf separator labels columns ms line.items))
    → IfOk r (λ line. IsRowOfSome separator labels columns Are line.items × (0 < length line.items))
record_told separator labels columns r begun t finished = IfOk-weaker r _ _
    (λ line h. (record { ms = t.ms; are = t.are; is_row = h }, rw h (row-some separator (map (λ key. text_of (value_at key t.ms)) columns ++ map (λ (label : Label). label.value.now) labels))))
    (finished t.ms (t.tells.more Top [] begun))

-- members that are the only ones have at most one row
pub one_row : (separator : Separator) (labels : List Label) (columns : List (List ℕ)) (Are : List Pair → Type 0) (text other : List ℕ)
    → ((ms more : List Pair) → Are ms → Are more → ms ≡ more)
    → IsRowOfSome separator labels columns Are text → IsRowOfSome separator labels columns Are other → text ≡ other
one_row separator labels columns Are text other one h k =
    h.is_row ∙ rw (one h.ms k.ms h.are k.are) (sym k.is_row)
