-- What is told of a thing: members, one after another, some of them in objects and lists.
use Rattle.std.specs.Prelude.{◌≡◌, ℕ, List, [], ◌∷◌, ◌++◌}
use Rattle.json.specs.Json.{Json}
use Rattle.ipmi_json.specs.Object.{AreWithin, array_in, object_in, Pair}

-- what is around members that are told
pub data Nesting : Type 0 where
  -- nothing: they are the thing's own
  Top : Nesting
  -- an object under this key, after these members of what is around it
  Under : Nesting → List Pair → List ℕ → Nesting
  -- a list under this key, with these objects so far; or the next object of that list
  Listing : Nesting → List Pair → List ℕ → List Json → Nesting
  Item : Nesting → List Pair → List ℕ → List Json → Nesting

-- which members were told so far, with what is around them
abbrev pub Told : Type 0 → Type 1
Told S = S → Nesting → List Pair → Type 0

-- ---- members

-- these members were told, whatever is around them
pub record Tells {S : Type 0} (told : Told S) (ms : List Pair) (old new : S) : Type 0 where
  pub more : (around : Nesting) (before : List Pair) → told old around before → told new around (before ++ ms)

-- members that satisfy `Are` were told
pub record TellsSome {S : Type 0} (told : Told S) (Are : List Pair → Type 0) (old new : S) : Type 0 where
  pub ms : List Pair
  pub are : Are ms
  pub tells : Tells told ms old new

-- the member under a key, with a value that satisfies `Is`
pub record IsMember (key : List ℕ) (Is : Json → Type 0) (ms : List Pair) : Type 0 where
  pub value : Json
  pub is_value : Is value
  pub are : ms ≡ (key, value) ∷ []

-- ---- objects and lists

-- an object under a key was begun
pub record BeginsObject {S : Type 0} (told : Told S) (key : List ℕ) (old new : S) : Type 0 where
  pub object : (around : Nesting) (before : List Pair) → told old around before
      → told new (Under around before key) []

-- a list under a key was begun
pub record BeginsList {S : Type 0} (told : Told S) (key : List ℕ) (old new : S) : Type 0 where
  pub list : (around : Nesting) (before : List Pair) → told old around before
      → told new (Listing around before key []) []

-- an object of a list was begun
pub record BeginsItem {S : Type 0} (told : Told S) (old new : S) : Type 0 where
  pub item : (around : Nesting) (before : List Pair) (key : List ℕ) (items : List Json)
      → told old (Listing around before key items) [] → told new (Item around before key items) []

-- an object was ended; arrays and objects are nested at most three deep in a thing
pub record EndsObject {S : Type 0} (told : Told S) (old new : S) : Type 0 where
  pub object : (around : Nesting) (before : List Pair) (key : List ℕ) (ms : List Pair) → AreWithin 2 ms
      → told old (Under around before key) ms → told new around (before ++ (key, object_in ms) ∷ [])
  pub item : (around : Nesting) (before : List Pair) (key : List ℕ) (items : List Json) (ms : List Pair) → AreWithin 1 ms
      → told old (Item around before key items) ms
      → told new (Listing around before key (items ++ object_in ms ∷ [])) []

-- a list was ended
pub record EndsList {S : Type 0} (told : Told S) (old new : S) : Type 0 where
  pub list : (around : Nesting) (before : List Pair) (key : List ℕ) (items : List Json)
      → told old (Listing around before key items) []
      → told new around (before ++ (key, array_in items) ∷ [])

-- these objects of a list were told
pub record TellsItems {S : Type 0} (told : Told S) (items : List Json) (old new : S) : Type 0 where
  pub more : (around : Nesting) (before : List Pair) (key : List ℕ) (so_far : List Json)
      → told old (Listing around before key so_far) []
      → told new (Listing around before key (so_far ++ items)) []

-- objects of a list that satisfy `Are` were told
pub record TellsSomeItems {S : Type 0} (told : Told S) (Are : List Json → Type 0)
    (old new : S) : Type 0 where
  pub items : List Json
  pub are : Are items
  pub tells : TellsItems told items old new

-- one object of a list, which satisfies `Is`
pub record IsItem (Is : Json → Type 0) (items : List Json) : Type 0 where
  pub value : Json
  pub is_value : Is value
  pub are : items ≡ value ∷ []
