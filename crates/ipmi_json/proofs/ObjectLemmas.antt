-- The tokens that the code writes for members, and the object of these tokens.
use Rattle.std.proofs.Common.{◌≡◌, ◌≤◌, ℕ, Some, List, [], ◌∷◌, ◌++◌, refl, sym, ap, ◌∙◌, append_assoc, append-nil, option_and_then, arith, flat_map, map, rules, string_bytes}
use Rattle.std.specs.Str.{IsUtf8}
use Rattle.std.proofs.lemmas.Grind.{flat_map-append}
use Rattle.std.proofs.lemmas.Str.{IsUtf8-append, IsUtf8-from_ascii}
use Rattle.json.proofs.Printed.Trees.{value-json_tokens}
use Rattle.json.specs.Json.{Json, document, if_last, max_depth, string, value}
use Rattle.json.specs.Lex.{tokens}
use Rattle.json.specs.Print.{print}
use Rattle.json.specs.Token.{Token, begin_object, end_array, end_object, key}
use Rattle.json.specs.Tree.{depth, items_depth, items_tokens, json_tokens, members_tokens}
use Rattle.json.specs.Written.{Written}
use Rattle.ipmi_json.specs.Object.{AreWithin, Pair, array_in, json_of, items_in, labels_of, members_in, object_in, tokens_in}
use Rattle.ipmi_json.specs.Members.{Nesting, Item, Listing, Top, Under}
use Rattle.ipmi_json.specs.Open.{IsOpen, IsShallow, opened}
use Rattle.ipmi_json.specs.declared.object.Value.{Value}
use Rattle.ipmi_json.specs.declared.object.Label.{Label}

-- ---- depth

pub depth-texts : (list : List (List ℕ)) → items_depth (items_in (map string list)) ≡ 0
depth-texts [] = refl
depth-texts (text ∷ list) = rw (depth-texts list) refl

depth-json_of : (v : Value) → depth (json_of v) ≤ 1
depth-json_of Value.Null = omega arith
depth-json_of (Value.Bool b) = omega arith
depth-json_of (Value.Integer n) = omega arith
depth-json_of (Value.Number n) = omega arith
depth-json_of (Value.Text text) = omega arith
depth-json_of (Value.Texts list) =
    let flat = depth-texts (map (λ text. string_bytes text) list.now) in
    omega (arith, flat)

pub within_labels : (labels : List Label) → AreWithin 3 (labels_of labels)
within_labels [] = search rules
within_labels (label ∷ labels) =
    let rest = within_labels labels in
    omega (arith, rest)

pub within_joined : (deep : ℕ) (ms more : List Pair) → AreWithin deep ms → AreWithin deep more
    → AreWithin deep (ms ++ more)
within_joined deep [] more h k = k
within_joined deep (m ∷ ms) more h k =
    let later : AreWithin deep ms = omega (arith, h) in
    let rest = within_joined deep ms more later k in
    omega (arith, h, rest)

-- ---- tokens

tokens_in-append : (ms more : List Pair) → tokens_in (ms ++ more) ≡ tokens_in ms ++ tokens_in more
tokens_in-append [] more = refl
tokens_in-append (m ∷ ms) more =
    ap (λ l. key m.0 ∷ (json_tokens m.1 ++ l)) (tokens_in-append ms more)
    ∙ ap (λ l. key m.0 ∷ l) (sym (append_assoc (json_tokens m.1) (tokens_in ms) (tokens_in more)))

pub more_open : (around : Nesting) (ms more : List Pair) (old new : Written) → AreWithin 3 more → IsOpen around ms old
    → (new.tokens ≡ old.tokens ++ tokens_in more) × (new.before ≡ old.before) → IsOpen around (ms ++ more) new
more_open around ms more old new within o added = record {
  before = added.1 ∙ o.before;
  tokens = added.0 ∙ rw (o.tokens, tokens_in-append) (append_assoc (opened around) (tokens_in ms) (tokens_in more));
  within = within_joined 3 ms more o.within within;
  shallow = o.shallow;
}

-- a key and its value
pub member_open : (around : Nesting) (ms : List Pair) (name : List ℕ) (v : Value) (old named new : Written) → IsOpen around ms old
    → (named.tokens ≡ old.tokens ++ key name ∷ []) × (named.before ≡ old.before)
    → (new.tokens ≡ named.tokens ++ json_tokens (json_of v)) × (new.before ≡ named.before)
    → IsOpen around (ms ++ (name, json_of v) ∷ []) new
member_open around ms name v old named new o first second =
    more_open around ms ((name, json_of v) ∷ []) old new (let one = depth-json_of v in omega (arith, one)) o
    (second.0 ∙ rw first.0 (simp (append_assoc, append-nil)), second.1 ∙ first.1)

-- a key, and the beginning of its object or its list
pub begun_open : (around next : Nesting) (ms : List Pair) (name : List ℕ) (t : Token) (old named new : Written)
    → opened next ≡ opened around ++ (tokens_in ms ++ key name ∷ t ∷ [])
    → (IsShallow around → AreWithin 3 ms → IsShallow next) → IsOpen around ms old
    → (named.tokens ≡ old.tokens ++ key name ∷ []) × (named.before ≡ old.before)
    → (new.tokens ≡ named.tokens ++ t ∷ []) × (new.before ≡ named.before)
    → IsOpen next [] new
begun_open around next ms name t old named new is shallow o first second = record {
  before = second.1 ∙ first.1 ∙ o.before;
  tokens = second.0 ∙ rw (first.0, o.tokens, is) (simp (append_assoc, append-nil));
  within = omega arith;
  shallow = shallow o.shallow o.within;
}

pub item_open : (around : Nesting) (ms : List Pair) (name : List ℕ) (items : List Json) (old new : Written)
    → IsOpen (Listing around ms name items) [] old
    → (new.tokens ≡ old.tokens ++ begin_object ∷ []) × (new.before ≡ old.before)
    → IsOpen (Item around ms name items) [] new
item_open around ms name items old new o last = record {
  before = last.1 ∙ o.before;
  tokens = last.0 ∙ rw o.tokens (simp (append_assoc, append-nil));
  within = omega arith;
  shallow = o.shallow;
}

pub members_end : (ms : List Pair) → members_tokens (members_in ms) ≡ tokens_in ms ++ end_object ∷ []
members_end [] = refl
members_end (m ∷ ms) =
    ap (λ l. key m.0 ∷ (json_tokens m.1 ++ l)) (members_end ms)
    ∙ ap (λ l. key m.0 ∷ l) (sym (append_assoc (json_tokens m.1) (tokens_in ms) (end_object ∷ [])))

pub object_written : (ms : List Pair) (old : Written) (new : List Token) → IsOpen Top ms old
    → new ≡ old.tokens ++ end_object ∷ [] → new ≡ json_tokens (object_in ms)
object_written ms old new begun last = last ∙ rw (begun.tokens, members_end ms) refl

pub object_ended : (around : Nesting) (before : List Pair) (name : List ℕ) (ms : List Pair) (old new : Written) → AreWithin 2 ms
    → IsOpen (Under around before name) ms old
    → (new.tokens ≡ old.tokens ++ end_object ∷ []) × (new.before ≡ old.before)
    → IsOpen around (before ++ (name, object_in ms) ∷ []) new
object_ended around before name ms old new within o last = record {
  before = last.1 ∙ o.before;
  tokens = last.0 ∙ rw (o.tokens, tokens_in-append, members_end ms) (simp (append_assoc, append-nil));
  within = within_joined 3 before ((name, object_in ms) ∷ []) o.shallow.1 (omega (arith, within));
  shallow = o.shallow.0;
}

depth-items : (items : List Json) (j : Json) → items_depth (items_in items) ≤ 2 → depth j ≤ 2
    → items_depth (items_in (items ++ j ∷ [])) ≤ 2
depth-items [] j h k = omega (arith, k)
depth-items (i ∷ items) j h k =
    let later : items_depth (items_in items) ≤ 2 = omega (arith, h) in
    let rest = depth-items items j later k in
    omega (arith, h, rest)

pub item_ended : (around : Nesting) (before : List Pair) (name : List ℕ) (items : List Json) (ms : List Pair) (old new : Written)
    → AreWithin 1 ms → IsOpen (Item around before name items) ms old
    → (new.tokens ≡ old.tokens ++ end_object ∷ []) × (new.before ≡ old.before)
    → IsOpen (Listing around before name (items ++ object_in ms ∷ [])) [] new
item_ended around before name items ms old new within o last = record {
  before = last.1 ∙ o.before;
  tokens = last.0 ∙ rw (o.tokens, flat_map-append json_tokens items (object_in ms ∷ []), members_end ms) (simp (append_assoc, append-nil));
  within = omega arith;
  shallow = (o.shallow.0, (o.shallow.1.0, depth-items items (object_in ms) o.shallow.1.1 (omega (arith, within))));
}

items_end : (items : List Json) → items_tokens (items_in items) ≡ flat_map json_tokens items ++ end_array ∷ []
items_end [] = refl
items_end (j ∷ items) =
    rw (items_end items) (sym (append_assoc (json_tokens j) (flat_map json_tokens items) (end_array ∷ [])))

pub list_ended : (around : Nesting) (before : List Pair) (name : List ℕ) (items : List Json) (old new : Written)
    → IsOpen (Listing around before name items) [] old
    → (new.tokens ≡ old.tokens ++ end_array ∷ []) × (new.before ≡ old.before)
    → IsOpen around (before ++ (name, array_in items) ∷ []) new
list_ended around before name items old new o last = record {
  before = last.1 ∙ o.before;
  tokens = last.0 ∙ rw (o.tokens, tokens_in-append, items_end items) (simp (append_assoc, append-nil));
  within = within_joined 3 before ((name, array_in items) ∷ []) o.shallow.1.0 (let deep = o.shallow.1.1 in omega (arith, deep));
  shallow = o.shallow.0;
}

-- ---- reading back

pub read_back : (j : Json) → depth j ≤ max_depth → tokens (print (json_tokens j)) ≡ json_tokens j
    → document (print (json_tokens j)) ≡ Some j
read_back j flat same =
    ap (option_and_then (λ p. if_last p.0 p.1))
    (ap (value max_depth) (same ∙ sym (append-nil (json_tokens j))) ∙ value-json_tokens j max_depth [] flat)

pub utf8_line : (text : List ℕ) → IsUtf8 text → IsUtf8 (text ++ 10 ∷ [])
utf8_line text is = IsUtf8-append text (10 ∷ []) is (IsUtf8-from_ascii (10 ∷ []) (search rules))

pub object_depth : (ms : List Pair) → AreWithin 3 ms → depth (object_in ms) ≤ max_depth
object_depth ms within = omega (arith, within)
