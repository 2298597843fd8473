-- A reader that keeps what it gave.
use Rattle.std.specs.Prelude.{ℕ, List}
use Rattle.ipmi_raw.specs.declared.heard.Heard.{Heard}

-- the reader that it reads from
abbrev pub reader_of : {R : Type 0} → Heard R → R
reader_of heard = heard.reader

-- the bytes that it gave so far, in order
abbrev pub given_of : {R : Type 0} → Heard R → List ℕ
given_of heard = heard.history.given
