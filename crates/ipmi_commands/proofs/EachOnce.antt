-- Runs one after another over a log that only grows find each entry once.
use Rattle.std.proofs.Common.{◌≡◌, ◌≢◌, inl, inr, ℕ, zero, suc, ◌-◌, ◌≤◌, IsSome, Option, None, Some, List, [], ◌∷◌, ◌++◌, length, slice_get, drop, take, refl, sym, ap, subst, ◌∙◌, arith, append_assoc, append-nil}
use Rattle.std.proofs.lemmas.List.{map-append}
use Rattle.std.specs.Option.{option_or}
use Rattle.ipmi_bus.proofs.HeldLemmas.{begins_length, begins_trans, grew_first, grew_second, grows_over, grows_refl, grows_trans}
use Rattle.std.proofs.Math.Seq.{drop-nil}
use Rattle.ipmi_bus.specs.Grown.{EachGrew, Grows}
use Rattle.ipmi_bus.specs.Held.{IsOneOf}
use Rattle.ipmi_bus.specs.Seen.{KeepsStore}
use Rattle.ipmi_bus.specs.Shelf.{SameRecord}
use Rattle.ipmi_commands.specs.Below.{BeginsWith, Done, First, Id, IsLog, IsStore, IsWalk, EndsBy, OnlyGrew, Place, RestIsWalk, Row, rows_of, Seen, Sel, Shelf, stays_trans, StaysHonest, Store, WalkIsUnique, WasHeld}
use Rattle.ipmi_commands.specs.declared.kept.KeptEntry.{KeptEntry}
use Rattle.ipmi_commands.specs.declared.mark.Mark.{Mark}
use Rattle.ipmi_commands.specs.declared.since.Continuity.{Continuity}
use Rattle.ipmi_commands.specs.declared.since.NewEntries.{NewEntries}
use Rattle.ipmi_commands.specs.Kept.{kept_row, kept_rows, last_entry}
use Rattle.ipmi_commands.specs.EachOnce.{FirstFindsEach, FoundTogether, HasAnId, InfoAlwaysTells, LeavesMark, LogOnlyGrew, NextFindsEach}
use Rattle.ipmi_commands.specs.Since.{AreAfter, AreAll, AreOfAnother, BeginsElsewhere, entry_before, FindsThem, Follow, IsUnchanged, Lacks}
use Rattle.ipmi_commands.proofs.MeanwhileLemmas.{log_later, log_now}

-- ---- up to a store that was held

last_held : Store → List Store → Store
last_held now [] = now
last_held now (store ∷ earlier) = last_held store earlier

last_held_is : (n : ℕ) (now : Store) (earlier : List Store) (first : Store) (before : List Store) → drop n (now ∷ earlier) ≡ first ∷ before
    → last_held now (take n earlier) ≡ first
unfolding last_held
last_held_is zero now earlier first before is = cc is
last_held_is (suc n) now [] first before is = cc (sym (drop-nil n) ∙ is)
last_held_is (suc n) now (store ∷ earlier) first before is = last_held_is n store earlier first before is

grew_to : (shelf : Shelf) (start : Place) (now : Store) (earlier : List Store) (store : Store) → EachGrew shelf start (now ∷ earlier)
    → IsOneOf (now ∷ earlier) store → Grows start (rows_of shelf (last_held now earlier)) (rows_of shelf store)
unfolding last_held
grew_to shelf start now [] store each (inl at) = subst (λ (x : Store). Grows start (rows_of shelf now) (rows_of shelf x)) (sym at) (grows_refl start (rows_of shelf now))
grew_to shelf start now [] store each (inr none) = absurd none
grew_to shelf start now (prev ∷ earlier) store each (inl at) =
    subst (λ (x : Store). Grows start (rows_of shelf (last_held prev earlier)) (rows_of shelf x)) (sym at)
    (grows_trans start (rows_of shelf (last_held prev earlier)) (rows_of shelf prev) (rows_of shelf now) (grew_to shelf start prev earlier prev each.1 (inl refl)) each.0)
grew_to shelf start now (prev ∷ earlier) store each (inr held) = grew_to shelf start prev earlier store each.1 held

grew_until : (shelf : Shelf) (start : Place) (s s' : Seen) (store : Store) → KeepsStore s s' → OnlyGrew shelf start s s' → WasHeld s s' store
    → Grows start (rows_of shelf s.store) (rows_of shelf store)
grew_until shelf start s s' store keeps grew held =
    let n = s'.stores_added - s.stores_added in
    let first = last_held_is n s'.store s'.earlier s.store s.earlier keeps.past in
    subst (λ (x : Store). Grows start (rows_of shelf x) (rows_of shelf store)) first (grew_to shelf start s'.store (take n s'.earlier) store grew held)

-- the log as it was then
log_until : (start : Place) (s s' : Seen) (store : Store) (log : List Row) → KeepsStore s s' → OnlyGrew Sel start s s' → WasHeld s s' store
    → IsLog Sel start s.store log → (now : List Row) × BeginsWith log now × IsLog Sel start store now
log_until start s s' store log keeps grew held is =
    let now = grew_until Sel start s s' store keeps grew held log is.walks is.ends in
    (now.0, now.1, record { walks = now.2; ends = now.3 })

log_over : (start : Place) (s s' : Seen) (log : List Row) → KeepsStore s s' → OnlyGrew Sel start s s'
    → IsLog Sel start s.store log → (now : List Row) × BeginsWith log now × IsLog Sel start s'.store now
log_over start s s' log keeps grew is =
    let now = grows_over Sel start s s' keeps grew log is.walks is.ends in
    (now.0, now.1, record { walks = now.2; ends = now.3 })

-- ---- the last entry

last_by_items : List KeptEntry → Option KeptEntry
last_by_items [] = None
last_by_items (item ∷ []) = Some item
last_by_items (item ∷ (next ∷ items)) = last_by_items (next ∷ items)

last_is : (items : List KeptEntry) → last_entry items ≡ last_by_items items
unfolding last_by_items
last_is [] = refl
last_is (item ∷ []) = refl
last_is (item ∷ (next ∷ items)) =
    let here : length (next ∷ items) - 1 ≡ length items = omega arith in
    let there : length (item ∷ next ∷ items) - 1 ≡ suc (length items) = omega arith in
    ap (slice_get (item ∷ next ∷ items)) there ∙ sym (ap (slice_get (next ∷ items)) here) ∙ last_is (next ∷ items)

split_by : (items : List KeptEntry) (entry : KeptEntry) → last_by_items items ≡ Some entry → (before : List KeptEntry) × (items ≡ before ++ entry ∷ [])
unfolding last_by_items
split_by [] entry is = cc is
split_by (item ∷ []) entry is = ([], cc is)
split_by (item ∷ (next ∷ items)) entry is =
    let rest = split_by (next ∷ items) entry is in (item ∷ rest.0, ap (λ (l : List KeptEntry). item ∷ l) rest.1)

last_split : (items : List KeptEntry) (entry : KeptEntry) → last_entry items ≡ Some entry → (before : List KeptEntry) × (items ≡ before ++ entry ∷ [])
last_split items entry is = split_by items entry (sym (last_is items) ∙ is)

has_last : (item : KeptEntry) (items : List KeptEntry) → (last : KeptEntry) × (last_by_items (item ∷ items) ≡ Some last)
unfolding last_by_items
has_last item [] = (item, refl)
has_last item (next ∷ items) = has_last next items

last_none : (items : List KeptEntry) → last_entry items ≡ None → items ≡ []
last_none [] is = refl
last_none (item ∷ items) is = cc (sym (has_last item items).1 ∙ sym (last_is (item ∷ items)) ∙ is)

joined_by : (a b : List KeptEntry) → last_by_items (a ++ b) ≡ option_or (last_by_items b) (last_by_items a)
unfolding last_by_items
joined_by a [] = ap last_by_items (append-nil a)
joined_by [] (item ∷ b) = let is = (has_last item b).1 in is ∙ sym (ap (λ (o : Option KeptEntry). option_or o None) is)
joined_by (one ∷ []) (item ∷ b) = let is = (has_last item b).1 in is ∙ sym (ap (λ (o : Option KeptEntry). option_or o (Some one)) is)
joined_by (one ∷ (next ∷ a)) (item ∷ b) = joined_by (next ∷ a) (item ∷ b)

last_joined : (a b : List KeptEntry) → last_entry (a ++ b) ≡ option_or (last_entry b) (last_entry a)
last_joined a b = last_is (a ++ b) ∙ joined_by a b ∙ sym (cc (last_is a, last_is b))

-- ---- logs as entries

same_kept : (row now : Row) → SameRecord row now → kept_row now ≡ kept_row row
same_kept row now same = grind (arith, same.id, same.bytes)

-- what a log begins with, by the last entry of that
record Split (log : List Row) (before : List KeptEntry) (entry : KeptEntry) : Type 0 where
  rows : List Row
  row : Row
  after : List Row
  are : log ≡ rows ++ row ∷ after
  kept : kept_rows rows ≡ before
  is : kept_row row ≡ entry

split_at : (first log : List Row) (before : List KeptEntry) (entry : KeptEntry) → BeginsWith first log → kept_rows first ≡ before ++ entry ∷ [] → Split log before entry
split_at [] log [] entry begins kept = cc kept
split_at [] log (one ∷ before) entry begins kept = cc kept
split_at (row ∷ first) [] before entry begins kept = absurd begins
split_at (row ∷ first) (now ∷ log) [] entry begins kept =
    record { rows = []; row = now; after = log; are = refl; kept = refl; is = same_kept row now begins.0 ∙ cc kept }
split_at (row ∷ first) (now ∷ log) (one ∷ before) entry begins kept =
    let rest = split_at first log before entry begins.1 (cc kept) in
    let one_is : kept_row row ≡ one = cc kept in
    record {
      rows = now ∷ rest.rows;
      row = rest.row;
      after = rest.after;
      are = ap (λ (l : List Row). now ∷ l) rest.are;
      kept = cc (same_kept row now begins.0, one_is, rest.kept);
      is = rest.is;
    }

-- no more entries
same_length : (first log : List Row) → BeginsWith first log → length log ≤ length first → kept_rows log ≡ kept_rows first
same_length [] [] begins few = refl
same_length [] (now ∷ log) begins few = absurd (omega (arith, few))
same_length (row ∷ first) [] begins few = absurd begins
same_length (row ∷ first) (now ∷ log) begins few =
    let rest = same_length first log begins.1 (omega (arith, few)) in cc (same_kept row now begins.0, rest)

-- ---- the rest of a log

module _ (unique : WalkIsUnique) (rest_is : RestIsWalk) where
  rest_log : (store : Store) (log : List Row) (before : List KeptEntry) (entry : KeptEntry) → IsStore store → IsLog Sel First store log → entry.id ≢ 0
      → (split : Split log before entry) → IsLog Sel (Id entry.id) store (split.row ∷ split.after)
  rest_log store log before entry ok is some split =
      let id : split.row.id ≡ entry.id = ap (λ (e : KeptEntry). e.id) split.is in
      let rows = rows_of Sel store in
      let rest = rest_is Sel rows First split.rows split.row split.after ok.sel
      (subst (λ (l : List Row). IsWalk rows First l) split.are is.walks)
      (subst (λ (l : List Row). EndsBy rows First l Done) split.are is.ends) (subst (λ (k : ℕ). k ≢ 0) (sym id) some) in
      record {
        walks = subst (λ (k : ℕ). IsWalk rows (Id k) (split.row ∷ split.after)) id rest.0;
        ends = subst (λ (k : ℕ). EndsBy rows (Id k) (split.row ∷ split.after) Done) id rest.1;
      }

  -- what a walk from the entry found, and the log as it was then
  joined : (store : Store) (first log walk : List Row) (before : List KeptEntry) (entry : KeptEntry) (entries : List KeptEntry) → IsStore store
      → IsLog Sel First store log → BeginsWith first log → kept_rows first ≡ before ++ entry ∷ [] → entry.id ≢ 0
      → IsLog Sel (Id entry.id) store walk → kept_rows walk ≡ entry ∷ entries → kept_rows log ≡ kept_rows first ++ entries
  joined store first log walk before entry entries ok is begins kept some walked found =
      let split = split_at first log before entry begins kept in
      let rest = rest_log store log before entry ok is some split in
      let one = (unique Sel (rows_of Sel store) (Id entry.id) walk (split.row ∷ split.after) Done Done ok.sel walked.walks walked.ends rest.walks rest.ends).0 in
      let after : kept_rows (split.row ∷ split.after) ≡ entry ∷ entries = sym (ap kept_rows one) ∙ found in
      ap kept_rows split.are ∙ map-append kept_row split.rows (split.row ∷ split.after)
      ∙ ap (λ (l : List KeptEntry). l ++ kept_rows (split.row ∷ split.after)) split.kept ∙ ap (λ (l : List KeptEntry). before ++ l) after
      ∙ sym (append_assoc before (entry ∷ []) entries) ∙ ap (λ (l : List KeptEntry). l ++ entries) (sym kept)

-- ---- the first run

or_none : (o : Option KeptEntry) → option_or o None ≡ o
or_none None = refl
or_none (Some entry) = refl

pub first_finds : FirstFindsEach
first_finds new s s' first found leaves is grew = by new.found.continuity found.follow leaves
  where
    by : (how : Continuity) → Follow how None new.found.entries.entries.items found.asked s'
        → new.mark.entry ≡ option_or (last_entry new.found.entries.entries.items) (entry_before how None)
        → FoundTogether s s' new.found.entries.entries.items new.mark
    by Continuity.Started all last =
        let m = found.asked in
        let now = log_over First s m first found.stays.store (grew_first Sel First s m s' found.stays.store found.later.store (grew First)) is in
        let g = all.grows now.0 now.2 (grew_second Sel First s m s' found.stays.store found.later.store (grew First)) in record {
          asked = m;
          stays = found.stays;
          later = found.later;
          first = now.0;
          log = g.0;
          begun = now.2;
          was = g.1;
          are = g.2;
          last = last ∙ or_none (last_entry new.found.entries.entries.items);
          info = found.info;
        }
    by Continuity.Continued all last = absurd all
    by Continuity.Restarted all last = absurd all
    by Continuity.Unchanged all last = absurd all

-- ---- the next one

module _ (unique : WalkIsUnique) (rest_is : RestIsWalk) (entries : List KeptEntry) (mark : Mark) (new : NewEntries) (s s1 s2 s' : Seen)
    (together : FoundTogether s s1 entries mark) (stays : StaysHonest s1 s2) (found : FindsThem (Some mark) new s2 s')
    (leaves : LeavesMark (Some mark) new) (has : HasAnId mark.entry) (grew : LogOnlyGrew s s') (tells : InfoAlwaysTells s s') where
  abbrev m : Seen
  m = found.asked

  abbrev items : List KeptEntry
  items = new.found.entries.entries.items

  to_m : StaysHonest s1 m
  to_m = stays_trans s1 s2 m stays found.stays

  since : StaysHonest together.asked m
  since = stays_trans together.asked s1 m together.later to_m

  all : StaysHonest s m
  all = stays_trans s together.asked m together.stays since

  -- over the parts of these runs
  grew_before : (start : Place) → OnlyGrew Sel start together.asked m
  grew_before start =
      let whole = grew_first Sel start s m s' all.store found.later.store (grew start) in
      grew_second Sel start s together.asked m together.stays.store since.store whole

  grew_now : (start : Place) → OnlyGrew Sel start m s'
  grew_now start = grew_second Sel start s m s' all.store found.later.store (grew start)

  -- the log at the request for the info
  at_m : (now : List Row) × BeginsWith together.log now × IsLog Sel First m.store now
  at_m =
      let then_ = log_later together.asked s1 together.log (grew_first Sel First together.asked s1 m together.later.store to_m.store (grew_before First)) together.was in
      let now = log_over First s1 m then_.0 to_m.store (grew_second Sel First together.asked s1 m together.later.store to_m.store (grew_before First)) then_.2 in
      (now.0, begins_trans together.log then_.0 now.0 then_.1 now.1, now.2)

  mark_is : (before : Option KeptEntry) → before ≡ mark.entry → new.mark.entry ≡ option_or (last_entry items) before
      → new.mark.entry ≡ last_entry (entries ++ items)
  mark_is before is last = last ∙ ap (option_or (last_entry items)) (is ∙ together.last) ∙ sym (last_joined entries items)

  unchanged : IsUnchanged mark items m s' → new.mark.entry ≡ last_entry (entries ++ items) → FoundTogether s s' (entries ++ items) new.mark
  unchanged is last = by mark.info refl is.some
    where
      by : (info : Option (List ℕ)) → mark.info ≡ info → IsSome info → FoundTogether s s' (entries ++ items) new.mark
      by None at some = cc some
      by (Some info) at some =
          let L = at_m in
          let same = tells together.asked m together.stays since found.later info together.first L.0 (sym together.info ∙ at) (sym is.same ∙ at) together.begun L.2 in
          let few = begins_length together.first together.log together.was.grown in
          let kept = same_length together.log L.0 L.1 (omega (arith, same, few)) in record {
            asked = m;
            stays = all;
            later = found.later;
            first = L.0;
            log = L.0;
            begun = L.2;
            was = log_now m s' found.later.store all.honest L.0 L.2;
            are = kept ∙ together.are ∙ sym (append-nil entries) ∙ ap (λ (l : List KeptEntry). entries ++ l) (sym is.none);
            last = last;
            info = found.info;
          }

  from_first : AreAll First items m s' → entries ≡ [] → new.mark.entry ≡ last_entry (entries ++ items) → FoundTogether s s' (entries ++ items) new.mark
  from_first walked none last =
      let L = at_m in
      let g = walked.grows L.0 L.2 (grew_now First) in record {
        asked = m;
        stays = all;
        later = found.later;
        first = L.0;
        log = g.0;
        begun = L.2;
        was = g.1;
        are = g.2 ∙ ap (λ (l : List KeptEntry). l ++ items) (sym none);
        last = last;
        info = found.info;
      }

  module _ (entry : KeptEntry) (at : mark.entry ≡ Some entry) (some : entry.id ≢ 0) where
    abbrev parts : (before : List KeptEntry) × (entries ≡ before ++ entry ∷ [])
    parts = last_split entries entry (sym together.last ∙ at)

    abbrev kept : kept_rows together.log ≡ parts.0 ++ entry ∷ []
    kept = together.are ∙ parts.1

    -- the log from the entry on
    abbrev at_entry : Split at_m.0 parts.0 entry
    at_entry = split_at together.log at_m.0 parts.0 entry at_m.1 kept

    from_entry : IsLog Sel (Id entry.id) m.store (at_entry.row ∷ at_entry.after)
    from_entry = rest_log unique rest_is m.store at_m.0 parts.0 entry all.honest.store at_m.2 some at_entry

    from_there : AreAll (Id entry.id) (entry ∷ items) m s' → new.mark.entry ≡ last_entry (entries ++ items) → FoundTogether s s' (entries ++ items) new.mark
    from_there walked last =
        let g = walked.grows (at_entry.row ∷ at_entry.after) from_entry (grew_now (Id entry.id)) in
        let later = log_until First m s' g.1.store at_m.0 found.later.store (grew_now First) g.1.held at_m.2 in record {
          asked = m;
          stays = all;
          later = found.later;
          first = at_m.0;
          log = later.0;
          begun = at_m.2;
          was = record { store = g.1.store; held = g.1.held; is_store = g.1.is_store; is_log = later.2; grown = later.1 };
          are = joined unique rest_is g.1.store together.log later.0 g.0 parts.0 entry items g.1.is_store later.2
              (begins_trans together.log at_m.0 later.0 at_m.1 later.1) kept some g.1.is_log g.2
              ∙ ap (λ (l : List KeptEntry). l ++ items) together.are;
          last = last;
          info = found.info;
        }

    -- the log does not lack it
    not_lacking : (b : Seen) → StaysHonest m b → StaysHonest b s' → Lacks entry m b → ⊥
    not_lacking b first then_ lacks =
        let g = lacks.grows (at_entry.row ∷ at_entry.after) from_entry (grew_first Sel (Id entry.id) m b s' first.store then_.store (grew_now (Id entry.id))) in
        by g.0 g.1.grown g.2
      where
        by : (log : List Row) → BeginsWith (at_entry.row ∷ at_entry.after) log → BeginsElsewhere entry log → ⊥
        by [] begins other = begins
        by (row ∷ log) begins other = other (same_kept at_entry.row row begins.0 ∙ at_entry.is)

  continued : (e : Option KeptEntry) → mark.entry ≡ e → HasAnId e → AreAfter e items m s' → new.mark.entry ≡ last_entry (entries ++ items)
      → FoundTogether s s' (entries ++ items) new.mark
  continued None at some walked last = from_first walked (last_none entries (sym together.last ∙ at)) last
  continued (Some entry) at some walked last = from_there entry at some walked last

  restarted : (e : Option KeptEntry) → mark.entry ≡ e → HasAnId e → AreOfAnother e items m s' → FoundTogether s s' (entries ++ items) new.mark
  restarted None at some other = absurd other
  restarted (Some entry) at some other = absurd (not_lacking entry at some other.0 other.1 other.2 other.3)

  next : (how : Continuity) → Follow how (Some mark) items m s' → new.mark.entry ≡ option_or (last_entry items) (entry_before how (Some mark))
      → FoundTogether s s' (entries ++ items) new.mark
  next Continuity.Started follow last = absurd follow
  next Continuity.Continued follow last = continued mark.entry refl has follow (mark_is mark.entry refl last)
  next Continuity.Restarted follow last = restarted mark.entry refl has follow
  next Continuity.Unchanged follow last = unchanged follow (mark_is mark.entry refl last)

pub next_finds : WalkIsUnique → RestIsWalk → NextFindsEach
next_finds unique rest_is entries mark new s s1 s2 s' together stays found leaves has grew tells =
    next unique rest_is entries mark new s s1 s2 s' together stays found leaves has grew tells new.found.continuity found.follow leaves
