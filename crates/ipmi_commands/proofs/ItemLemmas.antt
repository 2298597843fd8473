-- The items of a plan, their texts, and the output if a run stops before or at one of them.
use Rattle.std.proofs.Common.{◌≡◌, ℕ, ◌+◌, ◌<◌, List, [], ◌∷◌, ◌++◌, length, take, drop, refl, sym, subst, ap, ◌∙◌, append_assoc, take-add, take-append-drop}
use Rattle.ipmi_commands.specs.Below.{Place, Row, place_after, place_after_rows, asked_at, Ending}
use Rattle.ipmi_commands.specs.Prelude.{AreTexts, AtEnd, AtRecord, Cause, Dishonest, Form, GaveUp, HasFirstItems, IsAmong, Item, Leaves, IsStopAmong, NoMemory, NoOutput, OfRow, Plan, Printed, PrintsAll, Refused, row_items, ReadPoint, points_because_of, next_points, Subject}
use Rattle.ipmi_commands.specs.Output.{and_then, IsCut, no_output, Output}
use Rattle.ipmi_commands.proofs.OutputLemmas.{nothing_then, then_assoc, then_nothing}

-- ---- items and rows

-- the items of some rows, and of the rows after them
pub row_items-append : (form : Form) (start : Place) (done rest : List Row)
    → row_items form start (done ++ rest)
    ≡ row_items form start done ++ row_items form (place_after_rows start done) rest
row_items-append form start [] rest = refl
row_items-append form start (d ∷ done) rest = rw (row_items-append form (place_after d.next) done rest) refl

-- the item of a row requested at this place
abbrev pub row_item : Form → Place → Row → Item
row_item form place row =
    record { subject = OfRow form row; points = AtRecord (asked_at place) ∷ points_because_of form row }

-- the items of the first rows, and of the next row
pub row_items-next : (form : Form) (at : Place) (rows : List Row) (count : ℕ) (row : Row)
    (rest : List Row) → drop count rows ≡ row ∷ rest
    → row_items form at (take (count + 1) rows)
    ≡ row_items form at (take count rows)
    ++ row_item form (place_after_rows at (take count rows)) row ∷ []
row_items-next form at rows count row rest is = rw (take-add count 1 rows, is) (row_items-append form at (take count rows) (row ∷ []))

-- the items of the first rows, and of the rows after them
pub row_items-split : (form : Form) (at : Place) (rows : List Row) (count : ℕ)
    → row_items form at rows ≡ row_items form at (take count rows)
    ++ row_items form (place_after_rows at (take count rows)) (drop count rows)
row_items-split form at rows count =
    ap (row_items form at) (sym (take-append-drop count rows)) ∙ row_items-append form at (take count rows) (drop count rows)

-- ---- texts

-- a plan with other items before its own
abbrev pub after_items : List Item → Plan → Plan
after_items first p = record { items = first ++ p.items; end = p.end; end_points = p.end_points }

module _ (IsText : Subject → Output → Type 0) where
  pub texts_joined : (items more : List Item) (a b : Output) → AreTexts IsText items a
      → AreTexts IsText more b → AreTexts IsText (items ++ more) (and_then a b)
  texts_joined [] more a b are rest = subst (AreTexts IsText more) (sym (ap (λ (o : Output). and_then o b) are ∙ nothing_then b)) rest
  texts_joined (item ∷ items) more a b are rest = record {
    first = are.first;
    rest = and_then are.rest b;
    is_first = are.is_first;
    is_rest = texts_joined items more are.rest b are.is_rest rest;
    joined = ap (λ (o : Output). and_then o b) are.joined ∙ then_assoc are.first are.rest b;
  }

  -- printing some items, then more
  pub printed_joined : (items more : List Item) (old text new : Output)
      → Printed IsText items old text → Printed IsText more text new
      → Printed IsText (items ++ more) old new
  printed_joined items more old text new one two = record {
    text = and_then one.text two.text;
    are = texts_joined items more one.text two.text one.are two.are;
    new_is = two.new_is ∙ ap (λ (o : Output). and_then o two.text) one.new_is ∙ then_assoc old one.text two.text;
  }

  pub none_printed : (old new : Output) → new ≡ old → Printed IsText [] old new
  none_printed old new same = record { text = no_output; are = refl; new_is = same ∙ sym (then_nothing old) }

  pub one_printed : (item : Item) (text old new : Output) → IsText item.subject text
      → new ≡ and_then old text → Printed IsText (item ∷ []) old new
  one_printed item text old new is new_is = record { text = text; are = record { first = text; rest = no_output; is_first = is; is_rest = refl; joined = sym (then_nothing text) }; new_is = new_is }

  abbrev pub no_items : (p : Plan) (old new : Output) → new ≡ old → HasFirstItems IsText p old new
  no_items p old new same = record { done = []; rest = p.items; items_are = refl; printed = none_printed old new same }

  -- ---- a run that stops

  -- after some items, the run gives up, is refused, or is out of memory
  pub stops_after : (p : Plan) (old new : Output) (ending : Ending) (cause : Cause)
      (first : HasFirstItems IsText p old new) → IsStopAmong (next_points first.rest p.end_points) cause
      → Leaves IsText p old new ending cause
  stops_after p old new ending (GaveUp point) first may = record { first = first; there = may }
  stops_after p old new ending (Refused point code) first may = record { first = first; there = may }
  stops_after p old new ending NoMemory first may = first
  stops_after p old new ending _ first may = absurd may

  -- a part of the next item's text was written
  pub cut_after : (p : Plan) (old whole new : Output) (ending : Ending)
      (first : HasFirstItems IsText p old whole) (item : Item) (later : List Item) (text : Output)
      → first.rest ≡ item ∷ later → IsText item.subject text → 0 < length text.bytes
      → IsCut whole new text → Leaves IsText p old new ending NoOutput
  cut_after p old whole new ending first item later text next is some part =
      record { whole = whole; first = first; item = item; later = later; next = next; text = text; is_text = is; some = some; part = part }

-- ---- each text of one kind is a text of another

module _ (A B : Subject → Output → Type 0) (keep : (subject : Subject) (text : Output) → A subject text → B subject text) where
  texts_map : (items : List Item) (text : Output) → AreTexts A items text → AreTexts B items text
  texts_map [] text are = are
  texts_map (item ∷ items) text are = record {
    first = are.first;
    rest = are.rest;
    is_first = keep item.subject are.first are.is_first;
    is_rest = texts_map items are.rest are.is_rest;
    joined = are.joined;
  }

  pub printed_map : (items : List Item) (old new : Output) → Printed A items old new → Printed B items old new
  printed_map items old new printed = record { text = printed.text; are = texts_map items printed.text printed.are; new_is = printed.new_is }

  abbrev first_map : (p : Plan) (old new : Output) → HasFirstItems A p old new → HasFirstItems B p old new
  first_map p old new first = record { done = first.done; rest = first.rest; items_are = first.items_are; printed = printed_map first.done old new first.printed }

  pub leaves_map : (p : Plan) (old new : Output) (ending : Ending) (cause : Cause) → Leaves A p old new ending cause
      → Leaves B p old new ending cause
  leaves_map p old new ending AtEnd leaves = (printed_map p.items old new leaves.0, leaves.1)
  leaves_map p old new ending (GaveUp point) leaves = record { first = first_map p old new leaves.first; there = leaves.there }
  leaves_map p old new ending (Refused point code) leaves = record { first = first_map p old new leaves.first; there = leaves.there }
  leaves_map p old new ending NoMemory leaves = first_map p old new leaves
  leaves_map p old new ending NoOutput leaves = record {
    whole = leaves.whole;
    first = first_map p old leaves.whole leaves.first;
    item = leaves.item;
    later = leaves.later;
    next = leaves.next;
    text = leaves.text;
    is_text = keep leaves.item.subject leaves.text leaves.is_text;
    some = leaves.some;
    part = leaves.part;
  }
  leaves_map p old new ending Dishonest leaves = absurd leaves

-- ---- an output that one plan allows is allowed by another

-- if the first items of the one plan were printed, so were the first items of the other, and the next item has at least these
-- points and texts
pub record IsCarried (IsText : Subject → Output → Type 0) (p q : Plan) (old new : Output)
    (rest : List Item) : Type 0 where
  pub first : HasFirstItems IsText q old new
  pub points : (point : ReadPoint) → IsAmong (next_points rest p.end_points) point
      → IsAmong (next_points first.rest q.end_points) point
  pub next : (item : Item) (later : List Item) (text : Output) → rest ≡ item ∷ later
      → IsText item.subject text → 0 < length text.bytes
      → (item' : Item) × (later' : List Item) × (first.rest ≡ item' ∷ later')
      × IsText item'.subject text

pub leaves_carried : (IsText : Subject → Output → Type 0) (p q : Plan) (old old' new : Output)
    (ending ending' : Ending) (cause : Cause)
    → ((whole : Output) (first : HasFirstItems IsText p old whole)
    → IsCarried IsText p q old' whole first.rest)
    → (cause ≡ AtEnd → PrintsAll IsText p old new ending → PrintsAll IsText q old' new ending')
    → Leaves IsText p old new ending cause → Leaves IsText q old' new ending' cause
leaves_carried IsText p q old old' new ending ending' AtEnd carry all leaves = all refl leaves
leaves_carried IsText p q old old' new ending ending' (GaveUp point) carry all leaves = let at = carry new leaves.first in record { first = at.first; there = at.points point leaves.there }
leaves_carried IsText p q old old' new ending ending' (Refused point code) carry all leaves = let at = carry new leaves.first in record { first = at.first; there = at.points point leaves.there }
leaves_carried IsText p q old old' new ending ending' NoMemory carry all leaves = (carry new leaves).first
leaves_carried IsText p q old old' new ending ending' NoOutput carry all leaves =
    let at = carry leaves.whole leaves.first in
    let next = at.next leaves.item leaves.later leaves.text leaves.next leaves.is_text leaves.some in
    cut_after IsText q old' leaves.whole new ending' at.first next.0 next.1 leaves.text next.2 next.3 leaves.some leaves.part
leaves_carried IsText p q old old' new ending ending' Dishonest carry all leaves = absurd leaves

-- a plan after items that were printed
pub leaves_joined : (IsText : Subject → Output → Type 0) (done : List Item) (p : Plan)
    (old text new : Output) (ending : Ending) (cause : Cause) → Printed IsText done old text
    → Leaves IsText p text new ending cause → Leaves IsText
    (after_items done p) old new ending cause
leaves_joined IsText done p old text new ending cause before leaves = leaves_carried IsText p (after_items done p) text old new ending ending cause
    (λ whole first. record {
      first = record {
        done = done ++ first.done;
        rest = first.rest;
        items_are = rw first.items_are (sym (append_assoc done first.done first.rest));
        printed = printed_joined IsText done first.done old text whole before first.printed;
      };
      points = λ point among. among;
      next = λ item later text next is some. (item, later, next, is);
    })
    (λ is all. (printed_joined IsText done p.items old text new before all.0, all.1)) leaves

-- a longer plan with at least the same points after each of the items
pub leaves_longer : (IsText : Subject → Output → Type 0) (p q : Plan) (more : List Item)
    → q.items ≡ p.items ++ more
    → ((point : ReadPoint) (rest : List Item) → IsAmong (next_points rest p.end_points) point
    → IsAmong (next_points (rest ++ more) q.end_points) point)
    → (old new : Output) (ending : Ending) (cause : Cause)
    → (cause ≡ AtEnd → PrintsAll IsText p old new ending → PrintsAll IsText q old new ending)
    → Leaves IsText p old new ending cause → Leaves IsText q old new ending cause
leaves_longer IsText p q more items_are points_are old new ending cause whole leaves = leaves_carried IsText p q old old new ending ending cause
    (λ whole first. record {
      first = record { done = first.done; rest = first.rest ++ more; items_are = items_are ∙ rw first.items_are (append_assoc first.done first.rest more); printed = first.printed };
      points = λ point among. points_are point first.rest among;
      next = λ item later text next is some. (item, later ++ more, rw next refl, is);
    })
    whole leaves
