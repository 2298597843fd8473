-- The counts of an honest controller over several sequences of calls.
use Rattle.std.proofs.Common.{◌≡◌, ℕ, ◌≤◌, arith}
use Rattle.ipmi_bus.proofs.HeldLemmas.{keeps_second}
use Rattle.ipmi_commands.specs.Below.{inventory_of, Keeps, Seen, IsHonest, StaysHonest, stays_refl, stays_trans}
use Rattle.ipmi_commands.specs.Prelude.{AtEnd, Cause, CountsSo, EndsFor, IsFine}
use Rattle.ipmi_commands.specs.declared.limits.Tries.{Tries}

-- over no calls
pub ends_here : {tries : Tries} {IsPlain : Type 0} {s : Seen} {cause : Cause} → IsHonest s
    → CountsSo tries s s cause → IsFine cause → EndsFor tries IsPlain s s cause
ends_here {s = s} honest counts fine = record { stays = stays_refl s honest; grows = omega arith; counts = counts; plain = λ p. fine }

-- a run without a failure may still end for this cause
pub ends_as : {tries : Tries} {IsPlain : Type 0} {s s' : Seen} {cause : Cause}
    → EndsFor tries IsPlain s s' AtEnd
    → CountsSo tries s s' cause → IsFine cause → EndsFor tries IsPlain s s' cause
ends_as ends counts fine = record { stays = ends.stays; grows = ends.grows; counts = counts; plain = λ p. fine }

-- if no store is added in total, none is added in either sequence
pub between : (s s' s'' : Seen) → StaysHonest s s' → StaysHonest s' s''
    → s''.stores_added ≡ s.stores_added
    → (s'.stores_added ≡ s.stores_added) × (s''.stores_added ≡ s'.stores_added)
between s s' s'' before later same = omega (arith, before.store.grows, later.store.grows, same)

counts_since : (tries : Tries) (s s' s'' : Seen)
    → ((id : ℕ) → Keeps (inventory_of id) s s'' → Keeps (inventory_of id) s' s'') → (cause : Cause)
    → s'.refusals ≡ s.refusals → s.troubles ≤ s'.troubles → CountsSo tries s' s'' cause
    → CountsSo tries s s'' cause
counts_since tries s s' s'' later cause refusals troubles counts = grind arith

-- the later calls ended for this cause, and so did all
pub ends_since : {tries : Tries} {IsPlain IsPlainLater : Type 0} {s s' s'' : Seen} {cause : Cause}
    → EndsFor tries IsPlain s s' AtEnd → (IsPlain → IsPlainLater)
    → EndsFor tries IsPlainLater s' s'' cause → EndsFor tries IsPlain s s'' cause
ends_since {tries = tries} {s = s} {s' = s'} {s'' = s''} {cause = cause} before plain later = record {
  stays = stays_trans s s' s'' before.stays later.stays;
  grows = omega (arith, before.grows, later.grows);
  counts = counts_since tries s s' s'' (λ id keeps. keeps_second (inventory_of id) s s' s'' before.stays.store later.stays.store keeps) cause before.counts before.grows later.counts;
  plain = λ p. later.plain (plain p);
}
