-- What the truth values of a state say of its mode, and what classes hold without `v`.
use Rattle.std.proofs.Common.{◌≡◌, refl, ℕ, ◌==◌, ◌||◌, not, Bool, true, false, Option, List, ap, codes, arith}
use Rattle.rx_class.proofs.Common.{nat_tests, Mode, Sets, is_sets, is_unicode, mode_by, is_one_of, not_sets}
use Rattle.rx_model.specs.Classes.ClassRows.{has_hyphen, stands_raw_in_class}
use Rattle.rx_model.specs.Properties.PropertyEscapes.{SpellsProperty}
use Rattle.rx_model.proofs.Classes.ClassWholes.{only_sets}

-- Outside sets mode the first truth value of a state says whether it is a unicode mode.
pub unicode_by : (u : Bool) → is_unicode (mode_by u false) ≡ u
unicode_by true = refl
unicode_by false = refl

one_of_three : (c : ℕ) → is_one_of (codes "\\]-") c ≡ (c == 92 || c == 93 || c == 45)
one_of_three c = grind (arith, nat_tests)

-- Without `v` a unit that is neither a backslash, nor `]`, nor `-` stands for itself in a class, whatever follows it, and so does a `-`.
pub raw_without_sets : (mode : Mode) (c : ℕ) (w : List ℕ) → is_sets mode ≡ false → stands_raw_in_class mode c w ≡ not (c == 92 || c == 93 || c == 45)
raw_without_sets Sets c w no_sets = absurd (let no : ⊥ = cc no_sets in no)
raw_without_sets mode c w no_sets = ap not (one_of_three c)

pub hyphen_without_sets : (mode : Mode) → is_sets mode ≡ false → has_hyphen mode ≡ true
hyphen_without_sets Sets no_sets = absurd (let no : ⊥ = cc no_sets in no)
hyphen_without_sets mode no_sets = refl

-- No property is one of strings.
pub no_strings : (mode : Mode) (strings : Bool) (name : List ℕ) (value : Option (List ℕ)) (text : List ℕ) → is_sets mode ≡ false → SpellsProperty mode strings name value text → strings ≡ false
no_strings mode strings name value text no_sets spelled = only_sets mode (not_sets mode no_sets) strings name value text spelled
