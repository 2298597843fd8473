-- What reading an inventory tells, with tries for each part of it or for the whole.
use Rattle.std.proofs.Common.{◌≡◌, ◌==◌, ℕ, zero, suc, ◌+◌, ◌≤◌, Bool, true, false, IsTrue, Option, None, Some, Result, Ok, Err, Vec, Global, List, [], ◌∷◌, IfErr, inl, if◌then◌else◌, option_map, refl, sym, ap, ◌∙◌, arith}
use Rattle.std.proofs.lemmas.Bool.Decides.{nat_tests}
use Rattle.ipmi_bus.specs.declared.code.Code.{Code}
use Rattle.ipmi_commands.specs.Below.{Failure, FruEnded, inventory_len, inventory_of, InventoryCounts, InventoryIs, Keeps, KeepsReservations, PartsCame, PlainMayAnswer, Seen, StaysHonest, Store}
use Rattle.ipmi_commands.specs.Prelude.{AtEnd, AtInventory, AsksAt, Cause, CountsSo, failure_of, Finds, GaveUp, is_absent, IsFine, NoMemory, read_call_bound, ReadError, ReadsFor, Refused, RetriesParts, Tries, unread_inventory}

-- since a state there were at most as many troubles as tries, or one more; nothing was refused before that state
pub record Told (each : Bool) (id tries : ℕ) (s s' : Seen) (result : Result (List ℕ) FruEnded) : Type 0 where
  pub stays : StaysHonest s s'
  pub last : Seen
  pub grows : s.troubles ≤ last.troubles
  pub refusals : last.refusals ≡ s.refusals
  pub kept : Keeps (inventory_of id) s s' → inventory_of id last.store ≡ inventory_of id s.store
  pub counts : InventoryCounts id tries last s' result
  pub is : Keeps (inventory_of id) s s' → InventoryIs id tries last s' result
  pub calls : Keeps (inventory_of id) s s' → s'.calls ≤ s.calls + read_call_bound each tries (inventory_len id s.store)
  pub plain : IsTrue s.plain → PlainMayAnswer result × KeepsReservations s s'

parts_grow : (S : Seen → Type 0) (tries parts : ℕ) (s s' : Seen) → PartsCame S tries parts s s'
    → (s.troubles ≤ s'.troubles) × (s'.refusals ≡ s.refusals)
parts_grow S tries zero s s' came = (rw came (omega arith), ap (λ (x : Seen). x.refusals) came)
parts_grow S tries (suc parts) s s' came =
    let before = parts_grow S tries parts s came.0 came.1 in
    (omega (arith, before.0, came.4.grows), came.4.refusals ∙ before.1)

told : (S : Seen → Type 0) (each : Bool) (id tries : ℕ) (s s' : Seen) (result : Result (List ℕ) FruEnded)
    → ReadsFor each S id tries s s' result → Told each id tries s s' result
told S false id tries s s' result reads = record {
  stays = reads.stays;
  last = s;
  grows = omega arith;
  refusals = refl;
  kept = λ keeps. refl;
  counts = reads.counts;
  is = reads.is;
  calls = reads.calls;
  plain = reads.plain;
}
told S true id tries s s' result reads =
    let came = parts_grow S tries reads.is_last.parts s reads.last reads.is_last.came in record {
      stays = reads.stays;
      last = reads.last;
      grows = came.0;
      refusals = came.1;
      kept = reads.kept;
      counts = reads.counts;
      is = reads.is;
      calls = reads.calls;
      plain = reads.plain;
    }

-- whether the controller has the inventory, at the bytes of the answer
abbrev pub Holds : ℕ → Store → Option (Vec ℕ Global) → Type 0
Holds id store found = option_map (λ bytes. bytes.items) found ≡ inventory_of id store

-- CBh is one of the two
not_both : (code : ℕ) → (code == 0xCB) ≡ false → code ≡ 0xCB → ⊥
not_both code other is = grind (arith, nat_tests)

module _ (S : Seen → Type 0) (id : ℕ) (tries : Tries) (s s' : Seen) where
  asks : (result : Result (List ℕ) FruEnded) → Told tries.for_each_part id tries.count s s' result → (cause : Cause)
      → s.troubles ≤ s'.troubles → CountsSo tries s s' cause → (IsTrue s.plain → IsFine cause)
      → AsksAt (AtInventory id ∷ []) tries s s' cause
  asks result t cause grows counts fine = record {
    ends = record { stays = t.stays; grows = grows; counts = counts; plain = fine };
    calls = λ keeps. omega (arith, t.calls keeps.0);
    keeps = λ p. (t.plain p).1;
  }

  -- its bytes came
  pub bytes_found : (bytes : Vec ℕ Global) → ReadsFor tries.for_each_part S id tries.count s s' (Ok bytes.items)
      → Finds (Holds id) (AtInventory id ∷ []) tries s s' (Ok (Some bytes))
  bytes_found bytes reads =
      let t = told S tries.for_each_part id tries.count s s' (Ok bytes.items) reads in
      let within = t.counts.0 in record {
        asks = asks (Ok bytes.items) t AtEnd (omega (arith, t.grows, within.grows)) (within.refusals ∙ t.refusals) (λ p. tt);
        is = λ keeps. sym ((t.is keeps.0).1) ∙ t.kept keeps.0 ∙ sym keeps.0.0;
      }

  abbrev Unread : FruEnded → Type 0
  Unread ended = Told tries.for_each_part id tries.count s s' (Err ended)

  abbrev unread_if : Bool → FruEnded → Result (Option (Vec ℕ Global)) ReadError
  unread_if absent ended = if absent then Ok None else Err (ReadError.Inventory id ended)

  by_code : (code : Code) (absent : Bool) → (code.0 == 0xCB) ≡ absent → Unread (FruEnded.Refused code)
      → Finds (Holds id) (AtInventory id ∷ []) tries s s' (unread_if absent (FruEnded.Refused code))
  by_code code true is t =
      let none = rw is at t.counts in record {
        asks = asks (Err (FruEnded.Refused code)) t AtEnd (omega (arith, t.grows, none.0.grows)) (none.0.refusals ∙ t.refusals) (λ p. tt);
        is = λ keeps. sym none.1;
      }
  by_code code false is t =
      let refused = rw is at t.counts in record {
        asks = asks (Err (FruEnded.Refused code)) t (Refused (AtInventory id) code.0) (omega (arith, t.grows, refused.grows))
            (refused.refusals ∙ ap (λ (n : ℕ). n + 1) t.refusals, refused.last_code)
            (λ p. absurd (not_both code.0 is (t.plain p).0));
        there = inl refl;
      }

  by_end : (ended : FruEnded) → Unread ended → Finds (Holds id) (AtInventory id ∷ []) tries s s' (unread_inventory id ended)
  by_end FruEnded.Memory t = record {
    asks = asks (Err FruEnded.Memory) t NoMemory (omega (arith, t.grows, t.counts.0.grows)) (t.counts.0.refusals ∙ t.refusals) (λ p. tt);
    there = tt;
  }
  by_end (FruEnded.Refused code) t = by_code code (code.0 == 0xCB) refl t
  by_end FruEnded.GaveUp t = record {
    asks = asks (Err FruEnded.GaveUp) t (GaveUp (AtInventory id)) (omega (arith, t.grows, t.counts.troubles)) (
      t.counts.refusals ∙ t.refusals,
      omega (arith, t.grows, t.counts.troubles),
      (t.counts.some_fresh, λ keeps. omega (arith, (t.is keeps).fresh_troubles)),
    )
        (λ p. absurd (t.plain p).0);
    there = inl refl;
  }
  by_end FruEnded.Stalled t = absurd t.counts
  by_end FruEnded.Words t = absurd t.counts

  -- none came, as there is no such inventory, or it was not read
  pub bytes_unread : (ended : FruEnded) → ReadsFor tries.for_each_part S id tries.count s s' (Err ended)
      → Finds (Holds id) (AtInventory id ∷ []) tries s s' (unread_inventory id ended)
  bytes_unread ended reads = by_end ended (told S tries.for_each_part id tries.count s s' (Err ended) reads)

  given_up : (ended : FruEnded) → ReadsFor tries.for_each_part S id tries.count s s' (Err ended)
      → RetriesParts tries S s' (Err (Failure.Inventory id ended))
  given_up FruEnded.GaveUp told = λ each.
      let reads = rw each at told in record {
        first = reads.last;
        calls = reads.is_last.calls;
        none = reads.is_last.none;
        troubles = omega (arith, reads.counts.troubles);
      }
  given_up _ told = tt

  -- if it was given up, no bytes came after the last tries
  pub parts_unread : (ended : FruEnded) → ReadsFor tries.for_each_part S id tries.count s s' (Err ended)
      → IfErr (unread_inventory id ended) (λ unread. RetriesParts tries S s' (Err (failure_of unread)))
  parts_unread ended reads = by (is_absent ended)
    where
      by : (absent : Bool) → IfErr (unread_if absent ended) (λ unread. RetriesParts tries S s' (Err (failure_of unread)))
      by true = tt
      by false = given_up ended reads
