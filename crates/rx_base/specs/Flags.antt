-- The flags of regular expressions (ECMA-262, 22.2.3.3, RegExpInitialize).
use Rattle.std.specs.Prelude.{ℕ, Bool, ◌==◌, List, codes}
use Rattle.std.specs.List.{list_any}
use Rattle.rx_base.specs.Characters.{is_one_of}

abbrev pub is_flag : ℕ → Bool
is_flag f = is_one_of (codes "dgimsuvy") f

-- Some flags hold this one.
abbrev pub holds : List ℕ → ℕ → Bool
holds fs f = list_any (λ g. g == f) fs
