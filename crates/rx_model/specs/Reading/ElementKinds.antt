-- What the kinds of elements spell whose lists end before a stop, where no other definition says it.
use Rattle.std.specs.Prelude.{◌≡◌, ◌⊎◌, ℕ, zero, suc, Bool, true, Option, Some, None, List, ◌++◌}
use Rattle.rx_base.specs.Ascii as ascii
use Rattle.rx_units.specs.declared.code_point.CodePoint.{CodePoint}
use Rattle.rx_model.specs.Classes.ClassRows.{Place, next_place, fresh, outside, SpellsInClass}
use Rattle.rx_model.specs.Classes.ClassTokens.{ClassToken, bracket, closer}
use Rattle.rx_model.specs.Inputs.Environment.{Environment}
use Rattle.rx_model.specs.Groups.GroupNames.{SpellsNameCharacter}
use Rattle.rx_model.specs.FirstPass.Marks.{starts}

-- A place of a class, with the number of the nested classes that are open there.
abbrev pub NestedPlace : Type 0
NestedPlace = ℕ × Place

-- At a place of a class the token is spelled; after the closer of the whole class there is no place, and no token of the class.
abbrev pub SpellsOfClass : Environment → Option NestedPlace → ClassToken → List CodePoint → List CodePoint → Type 0
SpellsOfClass e None t w rest = ⊥
SpellsOfClass e (Some p) t w rest = SpellsInClass e p.1 t w rest

-- how many nested classes are open after a bracket: that of the class itself opens none
abbrev pub depth_after_bracket : ℕ → Place → ℕ
depth_after_bracket inner outside = inner
depth_after_bracket inner q = suc inner

-- after a closer
abbrev pub place_after_closer : ℕ → Option NestedPlace
place_after_closer zero = None
place_after_closer (suc inner) = Some (inner, fresh)

-- the place after a token
abbrev pub after_of_class : Environment → Option NestedPlace → ClassToken → List CodePoint → Option NestedPlace
after_of_class e None t rest = None
after_of_class e (Some p) closer rest = place_after_closer p.0
after_of_class e (Some p) (bracket negative) rest = Some (depth_after_bracket p.0 p.1, fresh)
after_of_class e (Some p) t rest = Some (p.0, next_place e.mode p.1 t rest)

-- No character of a name stands at the front of a text.
abbrev pub HasNoNameCharacter : Bool → Bool → List ℕ → Type 0
HasNoNameCharacter unicode_mode first us = (c : ℕ) (w rest : List ℕ) → SpellsNameCharacter unicode_mode first c w rest → us ≡ w ++ rest → ⊥

-- The characters of a name end before a `>`, or where no further one stands.
abbrev pub IsNameEnd : Bool → Bool → List ℕ → Type 0
IsNameEnd unicode_mode first us = (starts ascii.greater_than us ≡ true) ⊎ HasNoNameCharacter unicode_mode first us
