-- What clauses see of a source that never fails.
use Rattle.std.specs.Prelude.{ℕ, List}

pub record CleanInput : Type 0 where
  -- the bytes still to come
  pub left : List ℕ
  -- how many were given
  pub drawn : ℕ
