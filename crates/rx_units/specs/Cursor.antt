-- Where a reader stands in its units, and what it sees from there.
use Rattle.std.specs.Prelude.{◌≡◌, ℕ, ◌+◌, ◌≤◌, Bool, true, false, ◌==◌, ◌&&◌, List, [], ◌∷◌, All, length, drop, min, Option, Some, None}
use Rattle.std.specs.Str.{IsCharBoundary}
use Rattle.rx_units.specs.declared.code_point.CodePoint.{CodePoint}
use Rattle.rx_units.specs.declared.code_point.EscapeKind.{EscapeKind}
use Rattle.rx_units.specs.declared.code_point.EscapeKind.TheVariants as kind
use Rattle.rx_units.specs.Units.{offset_at}

pub record Cursor : Type 0 where
  pub units : List CodePoint
  -- how many units are after it
  pub place : ℕ
  -- the offset at place 0
  pub first : ℕ
  -- the bytes of the source text
  pub text : List ℕ

abbrev pub offset_of : Cursor → ℕ
offset_of r = offset_at r.first r.units r.place

-- the units from the place on
abbrev pub rest : Cursor → List CodePoint
rest r = drop r.place r.units

-- some places on, at most to the end
abbrev pub move_on : ℕ → Cursor → Cursor
move_on count r = record r { place = min (r.place + count) (length r.units) }

-- the value of the first unit
abbrev pub front : List CodePoint → Option ℕ
front [] = None
front (u ∷ us) = Some u.value

-- the value of the second unit
abbrev pub second : List CodePoint → Option ℕ
second [] = None
second (u ∷ us) = front us

-- how the first unit was written
abbrev pub front_kind : List CodePoint → EscapeKind
front_kind [] = kind.None
front_kind (u ∷ us) = u.escape_kind

-- the units begin with these values
abbrev pub begins : List ℕ → List CodePoint → Bool
begins [] us = true
begins (c ∷ cs) [] = false
begins (c ∷ cs) (u ∷ us) = u.value == c && begins cs us

-- the offset of some place (past the end as at the end)
abbrev pub IsOffset : Cursor → ℕ → Type 0
IsOffset r offset = (place : ℕ) × (offset ≡ offset_at r.first r.units place)

-- Each unit ends where the text may be cut, and not before the unit before it, or a first offset, does.
abbrev pub AreEnds : List ℕ → ℕ → List CodePoint → Type 0
AreEnds text first [] = Unit {0}
AreEnds text first (u ∷ us) = (first ≤ u.span.end) × IsCharBoundary text u.span.end × AreEnds text u.span.end us

-- what holds of each reader
pub record IsSound (units : List CodePoint) (place offset first : ℕ) (text : List ℕ) : Type 0 where
  pub within : place ≤ length units
  pub offset_is : offset ≡ offset_at first units place
  pub start : IsCharBoundary text first
  pub ends : AreEnds text first units
  -- each unit is a code point (6.1.4), a surrogate too
  pub code_points : All (λ unit. unit.value ≤ 0x10FFFF) units
