-- Members that were told, one after another.
use Rattle.std.proofs.Common.{ℕ, List, [], ◌∷◌, ◌++◌, append_assoc, Global, IfOk, Result, Vec}
use Rattle.std.proofs.lemmas.Result.{IfOk-weaker}
use Rattle.json.specs.Json.{Json}
use Rattle.json.specs.Written.{Written}
use Rattle.ipmi_json.specs.declared.object.Label.{Label}
use Rattle.ipmi_json.specs.Members.{BeginsObject, BeginsItem, BeginsList, EndsObject, EndsList, Item, Tells, TellsItems, TellsSome, Told, Top, Under}
use Rattle.ipmi_json.specs.Object.{AreWithin, IsLineOf, IsLineOfSome, Pair, array_in, object_in}
use Rattle.ipmi_json.specs.Open.{IsOpen, written}

pub joined : {S : Type 0} {told : Told S} {ms more : List Pair} {old mid new : S}
    → Tells told ms old mid → Tells told more mid new → Tells told (ms ++ more) old new
joined {ms = ms} {more = more} one two = record {
  more = λ around before is. rw (append_assoc before ms more) at (two.more around (before ++ ms) (one.more around before is));
}

pub told_some : {S : Type 0} {told : Told S} {Are : List Pair → Type 0} {ms : List Pair} {old new : S}
    → Tells told ms old new → Are ms → TellsSome told Are old new
told_some {ms = ms} tells are = record { ms = ms; are = are; tells = tells }

-- ---- objects and lists

pub object_told : {S : Type 0} {told : Told S} {key : List ℕ} {ms : List Pair} {old begun filled new : S} → AreWithin 2 ms
    → BeginsObject told key old begun → Tells told ms begun filled → EndsObject told filled new
    → Tells told ((key, object_in ms) ∷ []) old new
object_told {key = key} {ms = ms} within first tells last = record {
  more = λ around before is. last.object around before key ms within (tells.more (Under around before key) [] (first.object around before is));
}

pub item_told : {S : Type 0} {told : Told S} {ms : List Pair} {old begun filled new : S} → AreWithin 1 ms
    → BeginsItem told old begun → Tells told ms begun filled → EndsObject told filled new
    → TellsItems told (object_in ms ∷ []) old new
item_told {ms = ms} within first tells last = record {
  more = λ around before key items is. last.item around before key items ms within (tells.more (Item around before key items) [] (first.item around before key items is));
}

pub items_joined : {S : Type 0} {told : Told S} {items more : List Json} {old mid new : S}
    → TellsItems told items old mid → TellsItems told more mid new → TellsItems told (items ++ more) old new
items_joined {items = items} {more = more} one two = record {
  more = λ around before key done is. rw (append_assoc done items more) at (two.more around before key (done ++ items) (one.more around before key done is));
}

pub list_told : {S : Type 0} {told : Told S} {key : List ℕ} {items : List Json} {old begun filled new : S}
    → BeginsList told key old begun → TellsItems told items begun filled → EndsList told filled new
    → Tells told ((key, array_in items) ∷ []) old new
list_told {key = key} {items = items} first tells last = record {
  more = λ around before is. last.list around before key items (tells.more around before key [] (first.list around before is));
}

-- ---- lines

-- the line of an object to which members were told
pub line_told : {E : Type 0} {Are : List Pair → Type 0} {begun told : Written} (labels : List Label)
    (r : Result (Vec ℕ Global) E) → IsOpen Top [] begun → TellsSome written Are begun told
    → ((ms : List Pair) → IsOpen Top ms told → IfOk r (λ line. IsLineOf ms labels line.items))
    → IfOk r (λ line. IsLineOfSome Are labels line.items)
line_told labels r begun t finished = IfOk-weaker r _ _
    (λ line h. record { ms = t.ms; are = t.are; is_line = h }) (finished t.ms (t.tells.more Top [] begun))
