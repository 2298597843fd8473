-- What holds over a part of a capture, while the store changes, holds over all of it.
use Rattle.std.proofs.Common.{◌≡◌, List, [], ◌∷◌, All, Option, None, Some, IsSome, true≢false, sym, ap, ◌∙◌, inl, inr}
use Rattle.std.proofs.lemmas.List.Elements.{All-weaker}
use Rattle.ipmi_bus.proofs.HeldLemmas.{begins_trans, grew_first, grew_second, grows_over, held_in_first, held_in_second, keeps_first, keeps_same, keeps_second}
use Rattle.ipmi_capture.specs.Below.{AllGive, Cycle, CycleAt, FruEnded, First, GaveUp, inventory_of, Keeps, Malformed, Missing, MissingAt, OnGrowing, Place, Refused, Row, rows_of, Seen, Shelf, Stalled, StaysHonest, Store, WalkEnd, WasHeld}
use Rattle.ipmi_capture.specs.Left.{IsTrueOf}
use Rattle.ipmi_capture.specs.Meanwhile.{EndsWhile, IsTrueWhile, OfHeld, OnlyGrewAsLog}
use Rattle.ipmi_bus.specs.Held.{IsOneOf}
use Rattle.ipmi_bus.specs.Seen.{held_over}
use Rattle.std.proofs.lemmas.Option.{none-some}
use Rattle.ipmi_capture.specs.declared.left.Left.{Left}

pub of_held : (s s' : Seen) {P Q : Store → Type 0} → ((store : Store) → P store → Q store) → OfHeld s s' P → OfHeld s s' Q
of_held s s' to held = (held.0, held.1, to held.0 held.2)

module _ (a b c : Seen) (first : StaysHonest a b) (then_ : StaysHonest b c) where
  module _ {P Q : Store → Type 0} (to : (store : Store) → P store → Q store) where
    pub of_held_first : OfHeld a b P → OfHeld a c Q
    of_held_first held = (held.0, held_in_first a b c first.store then_.store held.0 held.1, to held.0 held.2)

    pub of_held_second : OfHeld b c P → OfHeld a c Q
    of_held_second held = (held.0, held_in_second a b c first.store then_.store held.0 held.1, to held.0 held.2)

  module _ (shelf : Shelf) (start : Place) {P Q : List Row → Type 0} (to : (log : List Row) → P log → Q log) where
    pub growing_first : OnGrowing shelf start a b P → OnGrowing shelf start a c Q
    growing_first on = λ rows log grew.
        let later = on rows log (grew_first shelf start a b c first.store then_.store grew) in
        let was = later.1 in (
          later.0,
          record { store = was.store; held = held_in_first a b c first.store then_.store was.store was.held; is_store = was.is_store; is_log = was.is_log; grown = was.grown },
          to later.0 later.2,
        )

    pub growing_second : OnGrowing shelf start b c P → OnGrowing shelf start a c Q
    growing_second on = λ rows log grew.
        let now = grows_over shelf start a b first.store (grew_first shelf start a b c first.store then_.store grew) rows log.walks log.ends in
        let later = on now.0 (record { walks = now.2; ends = now.3 }) (grew_second shelf start a b c first.store then_.store grew) in
        let was = later.1 in (
          later.0,
          record { store = was.store; held = held_in_second a b c first.store then_.store was.store was.held; is_store = was.is_store; is_log = was.is_log; grown = begins_trans rows now.0 later.0 now.1 was.grown },
          to later.0 later.2,
        )

  -- a part of the store that did not change
  pub kept_value : {V : Type 0} (of : Store → V) → Keeps of a c → of b.store ≡ of a.store
  kept_value of keeps = (keeps_first of a b c first.store then_.store keeps).0

  -- ---- a walk that only grew

  log_first : (shelf : Shelf) → OnlyGrewAsLog shelf a c → OnlyGrewAsLog shelf a b
  log_first shelf grown = (grown.0, grown.1, grew_first shelf First a b c first.store then_.store grown.2)

  log_second : (shelf : Shelf) → OnlyGrewAsLog shelf a c → OnlyGrewAsLog shelf b c
  log_second shelf grown =
      let now = grows_over shelf First a b first.store (grew_first shelf First a b c first.store then_.store grown.2) grown.0 grown.1.walks grown.1.ends in
      (now.0, record { walks = now.2; ends = now.3 }, grew_second shelf First a b c first.store then_.store grown.2)

  -- ---- what the items left out say

  ends_in_first : (shelf : Shelf) (by : WalkEnd) → EndsWhile shelf a b by → EndsWhile shelf a c by
  ends_in_first shelf by ends = record {
    kept = λ keeps. ends.kept (keeps_first (rows_of shelf) a b c first.store then_.store keeps);
    not_grown = λ grown. ends.not_grown (log_first shelf grown);
  }

  true_in_first : (l : Left) → IsTrueWhile a b l → IsTrueWhile a c l
  true_in_first (Left.Records shelf (Cycle n)) is = ends_in_first shelf (CycleAt n) is
  true_in_first (Left.Records shelf (Missing n)) is = ends_in_first shelf (MissingAt n) is
  true_in_first (Left.Records shelf (GaveUp n)) is = tt
  true_in_first (Left.Records shelf (Refused n code)) is = tt
  true_in_first (Left.Records shelf (Stalled n)) is = is
  true_in_first (Left.Records shelf (Malformed n)) is = is
  true_in_first (Left.Info shelf unread) is = tt
  true_in_first (Left.Reading lun number unread) is = tt
  true_in_first (Left.Size id code) is = tt
  true_in_first (Left.Empty id) is = (
    of_held_first (λ store there. there) is.0,
    λ keeps. is.1 (keeps_first (inventory_of id) a b c first.store then_.store keeps),
  )
  true_in_first (Left.CutOff id) is = (of_held_first (λ store there. there) is.0, of_held_first (λ store none. none) is.1)
  true_in_first (Left.Inventory id FruEnded.Memory) is = is
  true_in_first (Left.Inventory id (FruEnded.Refused code)) is = tt
  true_in_first (Left.Inventory id FruEnded.GaveUp) is = tt
  true_in_first (Left.Inventory id FruEnded.Stalled) is = is
  true_in_first (Left.Inventory id FruEnded.Words) is = is

  ends_in_second : (shelf : Shelf) (by : WalkEnd) → EndsWhile shelf b c by → EndsWhile shelf a c by
  ends_in_second shelf by ends = record {
    kept = λ keeps walk end is at.
        let same = kept_value (rows_of shelf) keeps in
        ends.kept (keeps_second (rows_of shelf) a b c first.store then_.store keeps) walk end (rw same is) (rw same at);
    not_grown = λ grown. ends.not_grown (log_second shelf grown);
  }

  true_in_second : (l : Left) → IsTrueWhile b c l → IsTrueWhile a c l
  true_in_second (Left.Records shelf (Cycle n)) is = ends_in_second shelf (CycleAt n) is
  true_in_second (Left.Records shelf (Missing n)) is = ends_in_second shelf (MissingAt n) is
  true_in_second (Left.Records shelf (GaveUp n)) is = tt
  true_in_second (Left.Records shelf (Refused n code)) is = tt
  true_in_second (Left.Records shelf (Stalled n)) is = is
  true_in_second (Left.Records shelf (Malformed n)) is = is
  true_in_second (Left.Info shelf unread) is = tt
  true_in_second (Left.Reading lun number unread) is = tt
  true_in_second (Left.Size id code) is = tt
  true_in_second (Left.Empty id) is = (
    of_held_second (λ store there. there) is.0,
    λ keeps. sym (kept_value (inventory_of id) keeps) ∙ is.1 (keeps_second (inventory_of id) a b c first.store then_.store keeps),
  )
  true_in_second (Left.CutOff id) is = (of_held_second (λ store there. there) is.0, of_held_second (λ store none. none) is.1)
  true_in_second (Left.Inventory id FruEnded.Memory) is = is
  true_in_second (Left.Inventory id (FruEnded.Refused code)) is = tt
  true_in_second (Left.Inventory id FruEnded.GaveUp) is = tt
  true_in_second (Left.Inventory id FruEnded.Stalled) is = is
  true_in_second (Left.Inventory id FruEnded.Words) is = is

  pub told_first : (left : List Left) → All (IsTrueWhile a b) left → All (IsTrueWhile a c) left
  told_first left told = All-weaker (IsTrueWhile a b) (IsTrueWhile a c) true_in_first left told

  pub told_second : (left : List Left) → All (IsTrueWhile b c) left → All (IsTrueWhile a c) left
  told_second left told = All-weaker (IsTrueWhile b c) (IsTrueWhile a c) true_in_second left told

-- a part that did not change is the same in each store that was held
keeps_held : {V : Type 0} (of : Store → V) (s s' : Seen) → Keeps of s s' → (store : Store) → WasHeld s s' store → of store ≡ of s.store
keeps_held of s s' keeps store held = by (held_over s s') keeps held
  where
    by : (stores : List Store) → AllGive of (of s.store) stores → IsOneOf stores store → of store ≡ of s.store
    by [] all none = absurd none
    by (one ∷ stores) all (inl is) = ap of is ∙ all.0
    by (one ∷ stores) all (inr more) = by stores all.1 more

pub no_some : {V : Type 0} (o : Option V) → IsSome o → o ≡ None → ⊥
no_some None is none = absurd (true≢false (sym is))
no_some (Some v) is none = none-some v (sym none)

-- if no store was added, they are true of the store
module _ (s s' : Seen) (stays : StaysHonest s s') (same : s'.stores_added ≡ s.stores_added) where
  true_of_store : (l : Left) → IsTrueWhile s s' l → IsTrueOf s.store l
  true_of_store (Left.Records shelf (Cycle n)) is = is.kept (keeps_same (rows_of shelf) s s' stays.store same)
  true_of_store (Left.Records shelf (Missing n)) is = is.kept (keeps_same (rows_of shelf) s s' stays.store same)
  true_of_store (Left.Records shelf (GaveUp n)) is = tt
  true_of_store (Left.Records shelf (Refused n code)) is = tt
  true_of_store (Left.Records shelf (Stalled n)) is = is
  true_of_store (Left.Records shelf (Malformed n)) is = is
  true_of_store (Left.Info shelf unread) is = tt
  true_of_store (Left.Reading lun number unread) is = tt
  true_of_store (Left.Size id code) is = tt
  true_of_store (Left.Empty id) is = is.1 (keeps_same (inventory_of id) s s' stays.store same)
  true_of_store (Left.CutOff id) is =
      let keeps = keeps_same (inventory_of id) s s' stays.store same in
      no_some (inventory_of id is.0.0) is.0.2 (keeps_held (inventory_of id) s s' keeps is.0.0 is.0.1
      ∙ sym (keeps_held (inventory_of id) s s' keeps is.1.0 is.1.1) ∙ is.1.2)
  true_of_store (Left.Inventory id FruEnded.Memory) is = is
  true_of_store (Left.Inventory id (FruEnded.Refused code)) is = tt
  true_of_store (Left.Inventory id FruEnded.GaveUp) is = tt
  true_of_store (Left.Inventory id FruEnded.Stalled) is = is
  true_of_store (Left.Inventory id FruEnded.Words) is = is

  pub told_of_store : (left : List Left) → All (IsTrueWhile s s') left → All (IsTrueOf s.store) left
  told_of_store left told = All-weaker (IsTrueWhile s s') (IsTrueOf s.store) true_of_store left told
