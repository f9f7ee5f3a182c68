-- The characters of a class are code points where its units are.
use Rattle.std.proofs.Common.{subst, ℕ, ◌≤◌, true, List, [], ◌∷◌, ◌++◌, arith}
use Rattle.std.specs.Prelude.{All}
use Rattle.std.proofs.lemmas.List.{map-append}
use Rattle.std.proofs.lemmas.List.Elements.{All-cons, All-head, All-nil, All-tail}
use Rattle.rx_ast.specs.declared.leaf.CharacterKind.{CharacterKind}
use Rattle.rx_units.specs.declared.code_point.CodePoint.{CodePoint}
use Rattle.rx_units.specs.Units.{values}
use Rattle.rx_model.specs.Classes.ClassRows as spelled
use Rattle.rx_model.specs.Classes.ClassRows.{SpellsClassCharacter}
use Rattle.rx_model.specs.Inputs.Environment.{Environment}
use Rattle.rx_model.specs.Spelling.ReadBack.{AreCodeUnits}
use Rattle.rx_model.proofs.Characters.Escapes.{spelled_small}
use Rattle.rx_model.proofs.Characters.LegacyEscapes.{legacy_small}
use Rattle.rx_model.proofs.Spelling.Bounds.{alone_low}

-- units that are code points
abbrev pub AreSmall : List CodePoint → Type 0
AreSmall [] = Unit {0}
AreSmall (u ∷ us) = (u.value ≤ 0x10FFFF) × AreSmall us

pub all_small : (us : List CodePoint) → All (λ u. u.value ≤ 0x10FFFF) us → AreSmall us
all_small [] h = tt
all_small (u ∷ us) h = (All-head (λ u. u.value ≤ 0x10FFFF) u us h, all_small us (All-tail (λ u. u.value ≤ 0x10FFFF) u us h))

pub units_small : (us : List CodePoint) → AreCodeUnits us → AreSmall us
units_small [] h = tt
units_small (u ∷ us) h = (let l = h.0 in omega (arith, l), units_small us h.1)

pub small_back : (w more : List CodePoint) → AreSmall (w ++ more) → AreSmall more
small_back [] more h = h
small_back (u ∷ w) more h = small_back w more h.1

small_values : (us : List CodePoint) → AreSmall us → All (λ c. c ≤ 0x10FFFF) (values us)
small_values [] h = All-nil (λ c. c ≤ 0x10FFFF)
small_values (u ∷ us) h = All-cons (λ c. c ≤ 0x10FFFF) u.value (values us) h.0 (small_values us h.1)

pub character_small : (e : Environment) (k : CharacterKind) (v : ℕ) (w rest : List CodePoint) → SpellsClassCharacter e k v w rest → AreSmall (w ++ rest) → v ≤ 0x10FFFF
character_small e _ _ _ rest (spelled.raw unit h) small = small.0
character_small e _ _ _ rest (spelled.hyphen unit u h) small = omega arith
character_small e k v _ rest (spelled.escaped backslash following h s) small = spelled_small e k v (values following) (values rest) s
character_small e k v _ rest (spelled.escaped_in_class backslash following h s) small = let low = alone_low e.mode k v (values following) s in omega (arith, low)
character_small e k v _ rest (spelled.escaped_in_legacy backslash following h u s) small =
    legacy_small true e k v (values following) (values rest) s (subst (All (λ c. c ≤ 0x10FFFF)) (map-append (λ (u : CodePoint). u.value) following rest) (small_values (following ++ rest) small.1))
