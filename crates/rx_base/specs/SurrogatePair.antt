-- The two halves of a character past FFFF in UTF-16.
use Rattle.std.specs.Prelude.{ℕ, ◌+◌, ◌-◌, ◌*◌}
use Rattle.std.specs.Int.{IsInRange}
use Rattle.rx_base.specs.Characters.{first_lead, last_lead, first_trail, last_trail}

abbrev pub IsLeadSurrogate : ℕ → Type 0
IsLeadSurrogate c = IsInRange first_lead last_lead c

abbrev pub IsTrailSurrogate : ℕ → Type 0
IsTrailSurrogate c = IsInRange first_trail last_trail c

-- the character of a lead and a trail (ECMA-262, 11.1.3)
abbrev pub surrogate_pair : ℕ → ℕ → ℕ
surrogate_pair lead trail = (lead - first_lead) * 0x400 + (trail - first_trail) + 0x10000
