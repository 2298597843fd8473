-- What was written of a JSON object, up to the members so far.
use Rattle.std.specs.Prelude.{◌≡◌, ◌≤◌, ⊤, List, [], ◌∷◌, ◌++◌, flat_map}
use Rattle.json.specs.Token.{Token, begin_array, begin_object, key}
use Rattle.json.specs.Tree.{items_depth, json_tokens}
use Rattle.json.specs.Written.{Written}
use Rattle.ipmi_json.specs.Members.{Nesting, Item, Listing, Top, Under}
use Rattle.ipmi_json.specs.Object.{AreWithin, items_in, Pair, tokens_in}

-- the tokens before members, by what is around them
abbrev pub opened : Nesting → List Token
opened Top = begin_object ∷ []
opened (Under around before name) =
    opened around ++ (tokens_in before ++ key name ∷ begin_object ∷ [])
opened (Listing around before name items) =
    opened around ++ (tokens_in before ++ key name ∷ begin_array ∷ flat_map json_tokens items)
opened (Item around before name items) =
    opened around ++ (tokens_in before ++ key name ∷ begin_array ∷ (flat_map json_tokens items ++ begin_object ∷ []))

-- what is around members is nested at most three deep
abbrev pub IsShallow : Nesting → Type 0
IsShallow Top = ⊤
IsShallow (Under around before name) = IsShallow around × AreWithin 3 before
IsShallow (Listing around before name items) =
    IsShallow around × (AreWithin 3 before × (items_depth (items_in items) ≤ 2))
IsShallow (Item around before name items) =
    IsShallow around × (AreWithin 3 before × (items_depth (items_in items) ≤ 2))

-- an object was written up to these members, with what is around them
pub record IsOpen (around : Nesting) (ms : List Pair) (out : Written) : Type 0 where
  pub before : out.before ≡ []
  pub tokens : out.tokens ≡ opened around ++ tokens_in ms
  pub within : AreWithin 3 ms
  pub shallow : IsShallow around

-- a JSON object is a listener
abbrev pub written : Written → Nesting → List Pair → Type 0
written out around ms = IsOpen around ms out
