-- Reading a record, call by call.
use Rattle.std.proofs.Common.{◌≡◌, ℕ, ◌+◌, ◌*◌, ◌<◌, ◌≤◌, inl, inr, Option, None, Some, IsSome, Ok, refl, ap, ◌∙◌, arith, ◌-◌}
use Rattle.ipmi_bus.specs.Prelude.{AreWithin, AsksAtMost, digits, step_call_bound, Again, Retrieval, largest_len, Seen, IsHonest, StaysHonest, SameRequest, CallLeaves, unreserved, begun, HonestSince, ReadFirstAsks, len_of, look, rows_of}
use Rattle.ipmi_bus.specs.Retrieval.{IsOpenRecord, calls_left, request_len}

-- the length of the requested row, 0 if there is none
abbrev row_len : Retrieval → Seen → ℕ
row_len r seen = len_of (look (rows_of r.shelf seen.store) r.id)

-- the state after each call except the last
pub record Since (start now : Retrieval) (s s' : Seen) : Type 0 where
  pub is_open : IsOpenRecord now
  pub request : SameRequest start now
  pub asked : AsksAtMost start.part s s'
  pub grows : s.calls ≤ s'.calls
  pub fresh : s'.calls ≡ s.calls → now ≡ start
  pub calls : s'.calls + calls_left (largest_len start.shelf) now
      ≤ s.calls + calls_left (largest_len start.shelf) start
  pub honest : IsHonest s → HonestSince start now s s'
  pub row_calls : IsHonest s → s'.stores_added ≡ s.stores_added
      → s'.calls + calls_left (row_len start s) now ≤ s.calls + calls_left (row_len start s) start

same_request_trans : (a b c : Retrieval) → SameRequest a b → SameRequest b c → SameRequest a c
same_request_trans a b c p q = record {
  shelf = q.shelf ∙ p.shelf;
  tries = q.tries ∙ p.tries;
  id = q.id ∙ p.id;
  part = omega (arith, p.part, q.part);
  some = q.some;
  ahead = λ is. p.ahead (q.ahead is);
  ahead_stays = λ same. q.ahead_stays (omega (arith, p.part, q.part, same)) ∙ p.ahead_stays (omega (arith, p.part, q.part, same));
  ahead_ends = λ is. elim (q.ahead_ends is) [
    | inl same ↦ elim (p.ahead_ends (q.ahead is)) [ inl as_before ↦ inl (same ∙ as_before) | inr some ↦ inr (omega (arith, some, same)) ]
    | inr some ↦ inr some
  ];
}

-- one more call
module _ (start now new : Retrieval) (s s' s'' : Seen) (since : Since start now s s')
    (request : SameRequest now new) (counted : s''.calls ≡ s'.calls + 1)
    (asked : AsksAtMost now.part s' s'')
    (leaves : CallLeaves now new (Ok Again)) where
  -- one call is used up
  chain : (a b c : ℕ) → a + 1 ≤ b → s'.calls + b ≤ s.calls + c → s''.calls + a ≤ s.calls + c
  chain a b c p q = omega (arith, counted)

  calls_more : (len : ℕ) → new.have ≤ len
      → s'.calls + calls_left len now ≤ s.calls + calls_left len start
      → s''.calls + calls_left len new ≤ s.calls + calls_left len start
  calls_more len fits before = chain (calls_left len new) (calls_left len now) (calls_left len start) (leaves.1 len fits) before

  pub since_more : (IsHonest s' → StaysHonest s' s'') → (IsHonest s → HonestSince start new s s'')
      → Since start new s s''
  since_more stays honest = record {
    is_open = leaves.0;
    request = same_request_trans start now new since.request request;
    asked = omega (arith, asked, since.asked, since.request.part);
    grows = omega (arith, counted, since.grows);
    fresh = λ none. absurd (omega (arith, counted, since.grows, none));
    calls = calls_more (largest_len start.shelf) (omega (arith, leaves.0.more, leaves.0.fits, ap largest_len (request.shelf ∙ since.request.shelf))) since.calls;
    honest = honest;
    row_calls = λ h e.
        let before = (since.honest h).stays in
        calls_more (row_len start s) ((honest h).within e) (since.row_calls h (omega (arith, before.store.grows, (stays before.honest).store.grows)));
  }

-- after one more call fewer calls are left
pub fewer_left : (start now new : Retrieval) → SameRequest start now → SameRequest now new
    → CallLeaves now new (Ok Again)
    → calls_left (largest_len start.shelf) new < calls_left (largest_len start.shelf) now
fewer_left start now new before request leaves =
    let within : new.have ≤ largest_len start.shelf = omega (arith, leaves.0.more, leaves.0.fits, ap largest_len (request.shelf ∙ before.shelf)) in
    less _ _ (leaves.1 (largest_len start.shelf) within)
  where
    less : (a b : ℕ) → a + 1 ≤ b → a < b
    less a b p = omega arith

unreserved_le : (o : Option ℕ) → unreserved o ≤ 1
unreserved_le None = omega arith
unreserved_le (Some n) = omega arith

-- the last call
module _ (old : Retrieval) (id : ℕ) (now new : Retrieval) (s s' s'' : Seen)
    (since : Since (begun old id) now s s') (counted : s''.calls ≡ s'.calls + 1) where
  -- if no call was made before it, it is the first request
  pub first_request : (IsSome now.reservation → s''.last_asked ≡ request_len now)
      → ReadFirstAsks (begun old id) s s''
  first_request last some one = (rw (since.fresh (omega (arith, counted, one))) at last) some

  -- the largest number of calls for a record, from its beginning
  bound_by : (len tries : ℕ) (r : Retrieval) → r.tries ≡ tries → r.troubles ≡ 0 → r.have ≡ 0
      → calls_left len r ≤ step_call_bound tries len + digits r.part
  bound_by len tries r is t h =
      let most = unreserved_le r.reservation in
      let product : (r.tries - r.troubles) * (len + 2) ≡ tries * (len + 2) = ap (λ (n : ℕ). n * (len + 2)) {y = tries} (omega (arith, is, t)) in
      omega (arith, most, product, h)

  -- the bound for a row of this length, from the number of calls left before the last one
  bound : (len : ℕ) → s'.calls + calls_left len now ≤ s.calls + calls_left len (begun old id)
      → new.part ≡ now.part → AreWithin old.tries len old.part new.part s s''
  bound len calls same = chain (calls_left len now) (calls_left len (begun old id)) (step_call_bound old.tries len) (left_least len now) calls (ap digits same) (bound_by len old.tries (begun old id) refl refl refl)
    where
      left_least : (len : ℕ) (r : Retrieval) → 1 + digits r.part ≤ calls_left len r
      left_least len r = omega arith

      chain : (a b c : ℕ) → 1 + digits now.part ≤ a → s'.calls + a ≤ s.calls + b
          → digits new.part ≡ digits now.part → b ≤ c + digits old.part
          → s''.calls + digits new.part ≤ s.calls + c + digits old.part
      chain a b c p q d m = omega (arith, counted)

  -- the number of calls is within the bound for the largest row and the digits that the part size lost
  pub call_bound : new.part ≡ now.part
      → AreWithin old.tries (largest_len old.shelf) old.part new.part s s''
  call_bound same = bound (largest_len old.shelf) since.calls same

  -- if the store is unchanged, it is within the bound for the row's length
  pub row_bound : (IsHonest s' → StaysHonest s' s'') → new.part ≡ now.part → IsHonest s
      → s''.stores_added ≡ s.stores_added → AreWithin old.tries (row_len (begun old id) s) old.part new.part s s''
  row_bound stays same h e =
      let before = (since.honest h).stays in
      bound (row_len (begun old id) s) (since.row_calls h (omega (arith, before.store.grows, (stays before.honest).store.grows))) same
