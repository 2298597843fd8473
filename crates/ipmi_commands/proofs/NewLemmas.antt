-- The entries of the log that a run finds.
use Rattle.std.proofs.Common.{◌≡◌, ◌≢◌, ◌⊎◌, inl, inr, ℕ, ◌-◌, ◌<◌, ◌≤◌, ◌==◌, ◌||◌, MatchOption, eqb, eqb-true, Bool, true, false, Option, None, Some, Result, Ok, Err, List, [], ◌∷◌, length, map, drop, refl, sym, ap, subst, ◌∙◌, arith}
use Rattle.std.specs.List.{AllByRecursion, IsDistinct, list_any}
use Rattle.std.proofs.lemmas.Bool.{eqb-false, ne_eqb, or_parts}
use Rattle.std.proofs.lemmas.List.{length-map}
use Rattle.std.proofs.lemmas.Map.Steps.{length-le_from_distinct_below}
use Rattle.ipmi_bus.proofs.ShelfLemmas.{look_row}
use Rattle.ipmi_bus.specs.Shelf.{DistinctIds, LacksId}
use Rattle.ipmi_commands.specs.Below.{AllOf, CycleAt, Done, EndsBy, Failure, Id, IsHonest, IsShelf, IsStore, IsWalk, has_id, last_next, Missing, MissingAt, Place, Row, rows_of, Seen, Sel, stays_refl, Store, WalkEnd}
use Rattle.ipmi_commands.specs.declared.kept.KeptEntry.{KeptEntry}
use Rattle.ipmi_commands.specs.declared.kept.LastEntries.{LastEntries}
use Rattle.ipmi_commands.specs.declared.limits.Tries.{Tries}
use Rattle.ipmi_commands.specs.Kept.{kept_row, kept_rows, Keeps, KeepsEntries, last_of}
use Rattle.ipmi_commands.specs.Output.{Output}
use Rattle.ipmi_commands.specs.declared.mark.Mark.{Mark}
use Rattle.ipmi_commands.specs.declared.since.Continuity.{Continuity}
use Rattle.ipmi_commands.specs.declared.since.Found.{Found}
use Rattle.ipmi_commands.specs.Since.{BeginsElsewhere, FindsAfter, FindsAll, FindsSince, FindsWhole, Lacks}
use Rattle.ipmi_commands.specs.Prelude.{EntryText, Form, rows_end, Subject}
use Rattle.ipmi_selection.specs.Selection.{in_detail, SelectedEntries}
use Rattle.ipmi_selection.specs.declared.detail.Detail.{Detail}
use Rattle.ipmi_commands.proofs.CountLemmas.{ends_here, ends_since}
use Rattle.ipmi_commands.proofs.MeanwhileLemmas.{log_now}
use Rattle.ipmi_commands.specs.Format.{Texts}

-- ---- a walk has few rows

abbrev ids : List Row → List ℕ
ids rows = map (λ (row : Row). row.id) rows

ids_apart : (n : ℕ) (rows : List Row) → LacksId n rows → AllByRecursion (λ (m : ℕ). eqb n m ≡ false) (ids rows)
ids_apart n [] lacks = tt
ids_apart n (row ∷ rows) lacks =
    (ne_eqb n row.id (λ is. lacks.0 (sym is)), ids_apart n rows lacks.1)

ids_distinct : (rows : List Row) → DistinctIds rows → IsDistinct eqb (ids rows)
unfolding IsDistinct
ids_distinct [] distinct = tt
ids_distinct (row ∷ rows) distinct = (ids_apart row.id rows distinct.0, ids_distinct rows distinct.1)

ids_below : (rows walk : List Row) → IsShelf Sel rows → AllOf rows walk → (n : ℕ) → list_any (eqb n) (ids walk) ≡ true → n < 65535
ids_below rows [] ok all n has = cc has
ids_below rows (row ∷ walk) ok all n has = by (λ later. ids_below rows walk ok all.1 n later) (eqb n row.id) refl has
  where
    by : (list_any (eqb n) (ids walk) ≡ true → n < 65535) → (b : Bool) → eqb n row.id ≡ b → (b || list_any (eqb n) (ids walk)) ≡ true → n < 65535
    by rest true is has = let row_is = look_row Sel rows row.id row ok all.0 in omega (arith, eqb-true n row.id is, row_is.id)
    by rest false is has = rest has

few_rows : (store : Store) (start : Place) (walk : List Row) → IsStore store → IsWalk (rows_of Sel store) start walk → length walk ≤ 65535
few_rows store start walk ok w =
    let few = length-le_from_distinct_below (ids walk) 65535 (ids_distinct walk w.distinct) (ids_below (rows_of Sel store) walk ok.sel w.of_shelf) in
    subst (λ (k : ℕ). k ≤ 65535) (length-map walk (λ (row : Row). row.id)) few

all_kept : (n : ℕ) (walk : List Row) → length walk ≤ n → last_of n (kept_rows walk) ≡ kept_rows walk
all_kept n walk few =
    let none : length (kept_rows walk) - n ≡ 0 = omega (arith, few, length-map walk kept_row) in
    ap (λ (k : ℕ). drop k (kept_rows walk)) none

-- ---- a walk that failed

missing_end : (IsText : Subject → Output → Type 0) (selection : SelectedEntries) (n : ℕ) (start : Place) (walk : List Row) (end : WalkEnd) (text : Output)
    (kept : List KeptEntry) (id : ℕ) → Keeps selection n IsText start walk end text kept (Err (Failure.Ended (Missing id))) → end ≡ MissingAt id
missing_end IsText selection n start walk end text kept id keeps = by end (keeps entries 0).1
  where
    entries : EntryText
    entries = record { selection = in_detail Detail.Line; sensors = None }

    by : (end : WalkEnd) → Err (Failure.Ended (Missing id)) ≡ rows_end (Form.Entry entries) walk end → end ≡ MissingAt id
    by Done at = cc at
    by (CycleAt id) at = cc at
    by (MissingAt id) at = cc at

-- a walk that begins with the entry has its id
elsewhere : (rows : List Row) (entry : KeptEntry) (walk : List Row) → EndsBy rows (Id entry.id) walk (MissingAt entry.id) → BeginsElsewhere entry walk
elsewhere rows entry [] ends = tt
elsewhere rows entry (row ∷ walk) ends = λ same.
    let next = last_next row.next walk in
    let parts = or_parts (next == row.id) (has_id walk next) ends.3 in
    let is : row.id ≡ entry.id = ap (λ (e : KeptEntry). e.id) same in
    eqb-false next row.id parts.0 (sym ends.0 ∙ sym is)

-- no walk begins at 0000h or FFFFh
nowhere : (store : Store) (entry : KeptEntry) → IsStore store → (entry.id ≡ 0) ⊎ (entry.id ≡ 65535) → (walk : List Row)
    → IsWalk (rows_of Sel store) (Id entry.id) walk → BeginsElsewhere entry walk
nowhere store entry ok at [] w = tt
nowhere store entry ok (inl at) (row ∷ walk) w = absurd (cc (rw at at w.first))
nowhere store entry ok (inr at) (row ∷ walk) w = λ same.
    let row_is = look_row Sel (rows_of Sel store) row.id row ok.sel w.of_shelf.0 in
    omega (arith, at, row_is.id, ap (λ (e : KeptEntry). e.id) same)

pub lacks_nowhere : (entry : KeptEntry) (s : Seen) → IsHonest s → (entry.id ≡ 0) ⊎ (entry.id ≡ 65535) → Lacks entry s s
lacks_nowhere entry s h at = record {
  grows = λ first log grew. (first, log_now s s (stays_refl s h).store h first log, nowhere s.store entry h.store at first log.walks);
  along = λ same walk end w ends. nowhere s.store entry h.store at walk w;
}

-- ---- a walk

module _ (x : Texts) (n : ℕ) (start : Place) (tries : Tries) (s s' : Seen) (h : IsHonest s) (text : Output) (kept : LastEntries) where
  pub finds_all : 65535 ≤ n → KeepsEntries x (in_detail Detail.Line) n start tries s s' text kept.entries.items (Ok tt)
      → FindsAll start tries s s' (Ok kept)
  finds_all many keeps = record {
    ends = keeps.ends;
    all = record {
      grows = λ first log grew.
          let g = keeps.grows first log grew in
          let few = few_rows g.1.store start g.0 g.1.is_store g.1.is_log.walks in
          (g.0, g.1, sym (g.2.1 ∙ all_kept n g.0 (omega (arith, few, many))));
      along = λ same walk end w ends.
          let on = keeps.along same walk end w ends in
          let few = few_rows s.store start walk h.store w in
          (on.0.0, sym (on.0.1 ∙ all_kept n walk (omega (arith, few, many))));
    };
    lacks = λ entry at is. cc is;
  }

  pub finds_none : (failure : Failure) → KeepsEntries x (in_detail Detail.Line) n start tries s s' text kept.entries.items (Err failure)
      → FindsAll start tries s s' (Err failure)
  finds_none failure keeps = record {
    ends = keeps.ends;
    all = tt;
    lacks = λ entry at is. lacking entry at (cc is);
  }
    where
      lacking : (entry : KeptEntry) → start ≡ Id entry.id → failure ≡ Failure.Ended (Missing entry.id) → Lacks entry s s'
      lacking entry at is =
          let keeps' = rw (at, is) at keeps in record {
            grows = λ first log grew.
                let g = keeps'.grows first log grew in
                let end = missing_end _ (in_detail Detail.Line) n (Id entry.id) g.0 Done text kept.entries.items entry.id g.2 in
                (g.0, g.1, absurd (cc end));
            along = λ same walk end w ends.
                let on = keeps'.along same walk end w ends in
                let is = missing_end _ (in_detail Detail.Line) n (Id entry.id) walk end text kept.entries.items entry.id on.0 in
                elsewhere (rows_of Sel s.store) entry walk (subst (EndsBy (rows_of Sel s.store) (Id entry.id) walk) is ends);
          }

-- ---- after the entry of a mark

pub finds_nowhere : (entry : KeptEntry) (tries : Tries) (s : Seen) → IsHonest s → (entry.id ≡ 0) ⊎ (entry.id ≡ 65535) → FindsAfter entry tries s s (Ok None)
finds_nowhere entry tries s h at = record { ends = ends_here h refl tt; after = lacks_nowhere entry s h at }

-- the walk from its id begins with it, or with another one
pub finds_after : (entry : KeptEntry) (tries : Tries) (s s' : Seen) (kept : LastEntries) (after : Option LastEntries)
    → FindsAll (Id entry.id) tries s s' (Ok kept)
    → MatchOption after ((rest : List KeptEntry) → kept.entries.items ≢ entry ∷ rest) (λ rest. kept.entries.items ≡ entry ∷ rest.entries.items)
    → FindsAfter entry tries s s' (Ok after)
finds_after entry tries s s' kept None finds other = record {
  ends = finds.ends;
  after = record {
    grows = λ first log grew. let g = finds.all.grows first log grew in (g.0, g.1, another g.0 g.2);
    along = λ same walk end w ends. another walk (finds.all.along same walk end w ends).1;
  };
}
  where
    another : (walk : List Row) → kept_rows walk ≡ kept.entries.items → BeginsElsewhere entry walk
    another [] is = tt
    another (row ∷ walk) is = λ same. other (kept_rows walk) (sym is ∙ ap (λ (e : KeptEntry). e ∷ kept_rows walk) same)
finds_after entry tries s s' kept (Some rest) finds is = record {
  ends = finds.ends;
  after = rw is at finds.all;
}

-- the log lacks it, and was walked from its first entry
pub finds_restarted : (mark : Mark) (entry : KeptEntry) (info : Option (List ℕ)) (tries : Tries) (s m s' : Seen) (result : Result Found Failure)
    → mark.entry ≡ Some entry → FindsAfter entry tries s m (Ok None) → FindsWhole Continuity.Restarted tries m s' result
    → FindsSince (Some mark) info tries s s' result
finds_restarted mark entry info tries s m s' (Ok found) at after whole = record {
  ends = ends_since after.ends after.ends.stays.plain whole.ends;
  follow = λ read. rw (whole.continuity_is, at) (m, after.ends.stays, whole.ends.stays, after.after, whole.all);
}
finds_restarted mark entry info tries s m s' (Err failure) at after whole = record {
  ends = ends_since after.ends after.ends.stays.plain whole.ends;
  follow = λ read. tt;
}
