-- The counters of a controller that contracts see. They have no upper limit.
use Rattle.std.specs.Prelude.{ℕ, Option}

pub record Counts : Type 0 where
  pub calls : ℕ
  pub most_asked : ℕ
  pub last_asked : ℕ
  pub last_failure : Option ℕ
  pub troubles : ℕ
  pub fresh_troubles : ℕ
  pub refusals : ℕ
  pub last_code : ℕ
  pub stores_added : ℕ
