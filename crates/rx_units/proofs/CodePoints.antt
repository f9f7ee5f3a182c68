-- Units are code points.
use Rattle.std.proofs.Common.{◌≡◌, ℕ, ◌+◌, ◌<◌, ◌≤◌, refl, arith, Bool, true, false, ◌||◌, cond, nat_lt, List, [], ◌∷◌, drop}
use Rattle.std.proofs.lemmas.Bool.{ltb-true}
use Rattle.std.proofs.lemmas.List.Elements.{All-append, All-cons, All-drop, All-head, All-nil, All-tail}
use Rattle.std.specs.Char.{len_utf8}
use Rattle.std.specs.Prelude.{All}
use Rattle.std.specs.Str.{IsUtf8, chars}
use Rattle.rx_units.specs.declared.code_point.CodePoint.{CodePoint}
use Rattle.rx_units.specs.declared.code_point.EscapeKind.{EscapeKind}
use Rattle.rx_units.specs.declared.code_point.EscapeKind.TheVariants as kind
use Rattle.rx_units.specs.Units.{character_units, lead_of, literal_units, trail_of, unit}
use Rattle.rx_units.proofs.Quoted.Widths.{AreCharacters, text_characters}

abbrev pub AreCodePoints : List CodePoint → Type 0
AreCodePoints us = All (λ unit. unit.value ≤ 0x10FFFF) us

none : AreCodePoints []
none = All-nil (λ unit. unit.value ≤ 0x10FFFF)

more : (u : CodePoint) (us : List CodePoint) → u.value ≤ 0x10FFFF → AreCodePoints us → AreCodePoints (u ∷ us)
more u us h rest = All-cons (λ unit. unit.value ≤ 0x10FFFF) u us h rest

lead_narrow : (c : ℕ) → c ≤ 0x10FFFF → lead_of c < 0x10000
lead_narrow c h = grind arith

trail_narrow : (c : ℕ) → trail_of c < 0x10000
trail_narrow c = grind arith

-- the units of one character
pub character_code_points : (joined : Bool) (start end c : ℕ) (k : EscapeKind) → c ≤ 0x10FFFF → AreCodePoints (character_units joined start end c k)
character_code_points joined start end c k h =
    let alone : CodePoint = unit start end c k in
    let lead : CodePoint = unit start end (lead_of c) k in
    let trail : CodePoint = unit start end (trail_of c) k in
    elim (joined || nat_lt c 0x10000) as (λ b. AreCodePoints (cond b (alone ∷ []) (lead ∷ trail ∷ []))) [
      | true ↦ more alone [] h none
      | false ↦ more lead (trail ∷ []) (omega (arith, lead_narrow c h)) (more trail [] (omega (arith, trail_narrow c)) none)
    ]

abbrev AreNarrow : List CodePoint → Type 0
AreNarrow us = All (λ unit. unit.value < 0x10000) us

more_narrow : (u : CodePoint) (us : List CodePoint) → u.value < 0x10000 → AreNarrow us → AreNarrow (u ∷ us)
more_narrow u us h rest = All-cons (λ unit. unit.value < 0x10000) u us h rest

no_wide : AreNarrow []
no_wide = All-nil (λ unit. unit.value < 0x10000)

-- without joining they are UTF-16 code units
pub character_narrow : (start end c : ℕ) (k : EscapeKind) → c ≤ 0x10FFFF → AreNarrow (character_units false start end c k)
character_narrow start end c k h = go (nat_lt c 0x10000) refl
  where
    go : (b : Bool) → nat_lt c 0x10000 ≡ b → AreNarrow (cond b (unit start end c k ∷ []) (unit start end (lead_of c) k ∷ unit start end (trail_of c) k ∷ []))
    go true e = more_narrow (unit start end c k) [] (ltb-true c 0x10000 e) no_wide
    go false e = more_narrow (unit start end (lead_of c) k) (unit start end (trail_of c) k ∷ []) (lead_narrow c h) (more_narrow (unit start end (trail_of c) k) [] (trail_narrow c) no_wide)

AreCodePoints-literal : (joined : Bool) (at : ℕ) (cs : List ℕ) → AreCharacters cs → AreCodePoints (literal_units joined at cs)
AreCodePoints-literal joined at [] h = none
AreCodePoints-literal joined at (c ∷ cs) h =
    All-append (λ unit. unit.value ≤ 0x10FFFF) (character_units joined at (at + len_utf8 c) c kind.None) (literal_units joined (at + len_utf8 c) cs)
    (character_code_points joined at (at + len_utf8 c) c kind.None (All-head (λ c. c ≤ 0x10FFFF) c cs h)) (AreCodePoints-literal joined (at + len_utf8 c) cs (All-tail (λ c. c ≤ 0x10FFFF) c cs h))

pub literal_code_points : (text : List ℕ) (joined : Bool) → IsUtf8 text → AreCodePoints (literal_units joined 0 (chars text))
literal_code_points text joined h = AreCodePoints-literal joined 0 (chars text) (text_characters text h)

-- so are those from a place on
pub code_points_from : (place : ℕ) (us : List CodePoint) → All (λ unit. unit.value ≤ 0x10FFFF) us → All (λ unit. unit.value ≤ 0x10FFFF) (drop place us)
code_points_from place us h = All-drop (λ unit. unit.value ≤ 0x10FFFF) place us h
