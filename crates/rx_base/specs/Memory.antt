-- What clauses see of a source and of a sink in memory, some of whose calls are to fail.
use Rattle.std.specs.Prelude.{ℕ, ◌+◌, ◌-◌, ◌^◌, min, List}

-- the number after this one, or the greatest `u64`
abbrev pub next_number : ℕ → ℕ
next_number n = min (n + 1) (2 ^ 64 - 1)

pub record MemoryInput : Type 0 where
  -- the bytes still to come
  pub left : List ℕ
  -- how many were given
  pub drawn : ℕ
  -- the most that one call gives
  pub step : ℕ
  -- the numbers of the calls that are to fail
  pub fails : List ℕ
  -- the number of the last call, from 1 on
  pub calls : ℕ
  pub faults : ℕ

pub record MemoryOutput : Type 0 where
  -- the bytes accepted so far
  pub taken : List ℕ
  -- the most that are ever accepted
  pub room : ℕ
  -- the most that one call takes
  pub step : ℕ
  -- the numbers of the calls that are to fail
  pub fails : List ℕ
  -- the number of the last call, from 1 on
  pub calls : ℕ
  pub faults : ℕ
