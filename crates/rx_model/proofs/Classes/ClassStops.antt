-- Where a refusal of a class holds the reading is stuck: no row of tokens goes on from there that the brackets allow.
use Rattle.std.proofs.Common.{◌≡◌, ◌⊎◌, refl, ap, ap₂, sym, ◌∙◌, subst, ℕ, ◌+◌, ◌<◌, ◌==◌, ◌&&◌, ◌||◌, Bool, true, false, not, Option, Some, None, List, [], ◌∷◌, ◌++◌, length, nat_le, arith, inl, inr, length-append}
use Rattle.std.proofs.lemmas.Bool.{eq-eqb, true≢false}
use Rattle.std.proofs.lemmas.Bool.Decides.{nat_tests}
use Rattle.std.proofs.lemmas.List.{map-append}
use Rattle.rx_base.specs.declared.diagnostic.Diagnostic.{Diagnostic}
use Rattle.rx_base.specs.declared.diagnostic.Diagnostic.TheVariants.{InvalidClassAtom}
use Rattle.rx_base.specs.declared.diagnostic.kinds.SetOperator.TheVariants.{Intersection, Subtraction}
use Rattle.rx_ast.specs.declared.leaf.CharacterKind.{CharacterKind}
use Rattle.rx_units.specs.declared.code_point.CodePoint.{CodePoint}
use Rattle.rx_units.specs.Units.{values}
use Rattle.rx_model.specs.declared.mode.Mode.{Mode}
use Rattle.rx_model.specs.declared.mode.Mode.TheVariants.{Legacy, Unicode}
use Rattle.rx_model.specs.Refusals.ClassCauses.{StandsRange}
use Rattle.rx_model.specs.Refusals.ClassPlaces.{begins_item}
use Rattle.rx_model.specs.Classes.ClassFronts.{atom_at, atom_read, no_atom}
use Rattle.rx_model.specs.Classes.ClassRows.{next_place, ClassTokenRow, Place, SpellsAtom, SpellsBracket, SpellsClassCharacter, SpellsInClass, SpellsOperand, at_dash, at_high, at_second, at_third, after_operator, fresh, has_threes, in_strings, is_dashed, outside}
use Rattle.rx_model.specs.Classes.ClassRuns.{Bracket, Brackets, Held, atom_may, after_step, class_run, class_step, after_closer, add_thing, is_union, may_close, operand, with_range, where_may, where_true}
use Rattle.rx_model.specs.Classes.ClassTokens.{Atom, character, escape, property, is_character, ClassToken, bracket, closer, item, low, dash, high, operator, strings, letter, string_bar, strings_end}
use Rattle.rx_model.specs.Inputs.Environment.{Environment, is_sets, is_unicode}
use Rattle.rx_model.specs.FirstPass.Marks.{starts}
use Rattle.rx_model.specs.Properties.PropertyForms.{begins_property}
use Rattle.rx_model.specs.Refusals.EscapeCauses.{IsEscapeCause, IsPropertyCause}
use Rattle.rx_model.specs.Refusals.Reached.{span_between, class_environment}
use Rattle.rx_model.specs.Refusals.Stops.{begins_class_escape}
use Rattle.rx_model.proofs.Classes.ClassStates.{Fits}
use Rattle.rx_model.proofs.Classes.ClassWholes.{only_sets}
use Rattle.rx_model.proofs.Classes.RefusedAtoms.{IsNoItem, BeginsAtom, atom_begins, escape_first, no_atom_escaped, no_atom_of_property}
use Rattle.rx_model.proofs.Classes.ClassEscapes.{no_escape_atom}
use Rattle.rx_model.proofs.Classes.ClassFronts.{atom_is_read}
use Rattle.rx_model.proofs.Reading.Prefixes.{first_in_class}
use Rattle.rx_model.proofs.Groups.GroupNames.{differs}
use Rattle.rx_model.proofs.Properties.PropertyRefusals.{property_first}

-- whether it is between items, operands and operators, or in class strings, and not within a range or three items
abbrev pub is_between : Place → Bool
is_between outside = false
is_between fresh = true
is_between at_dash = false
is_between at_high = false
is_between at_second = false
is_between at_third = false
is_between q = true

-- No row leads on from this place to another of its kind, or to the end of the class, that the brackets allow.
abbrev pub IsBlockedItem : Environment → Place → Brackets → List CodePoint → Type 0
IsBlockedItem e at brackets rest =
    (t : ClassToken) (ts : List ClassToken) (q : Place) (back : List CodePoint) (after : Brackets) → is_between q ≡ true → ClassTokenRow e (t ∷ ts) at rest q back → class_run (t ∷ ts) brackets ≡ Some after → ⊥

-- The brackets allow no token that is spelled here.
abbrev pub IsDead : Environment → Place → Brackets → List CodePoint → Type 0
IsDead e at brackets rest = (t : ClassToken) (w more : List CodePoint) → rest ≡ w ++ more → SpellsInClass e at t w more → class_step t brackets ≡ None

pub dead_blocked : (e : Environment) (at : Place) (brackets : Brackets) (rest : List CodePoint) → IsDead e at brackets rest → IsBlockedItem e at brackets rest
dead_blocked e at brackets rest dead t ts q back after between row run =
    let no : None ≡ Some after = ap (λ o. after_step o (λ brackets. class_run ts brackets)) (sym (dead t row.0 row.1 row.2 row.3)) ∙ run in cc no

pub item_between : (q : Place) → begins_item q ≡ true → is_between q ≡ true
item_between fresh h = refl
item_between (after_operator o) h = refl
item_between q h = absurd (true≢false (sym h))

-- A union is at its places alone.
pub fresh_union : (q : Place) (held : Held) → begins_item q ≡ true → Fits q held → is_union held ≡ true → q ≡ fresh
fresh_union fresh held h f u = refl
fresh_union (after_operator o) held h f u = absurd (true≢false (sym u ∙ ap is_union f))
fresh_union q held h f u = absurd (true≢false (sym h))

pub no_threes : (mode : Mode) → is_unicode mode ≡ true → has_threes mode ≡ false
no_threes Legacy h = absurd (true≢false (sym h))
no_threes mode h = refl

-- What is spelled between items, or in class strings.
data Spelled (e : Environment) (t : ClassToken) (w more : List CodePoint) : Type 0 where
  closes : t ≡ closer → values w ≡ 93 ∷ [] → Spelled e t w more
  by_atom : (a : Atom) → (t ≡ item a) ⊎ (is_character a ≡ true) → SpellsAtom e a w more → Spelled e t w more
  by_strings : is_sets e.mode ≡ true → values w ≡ 92 ∷ 113 ∷ 123 ∷ [] → Spelled e t w more
  by_less : is_sets e.mode ≡ true → values w ≡ 45 ∷ 45 ∷ [] → Spelled e t w more
  by_other : (c : ℕ) (v : List ℕ) → values w ≡ c ∷ v → (c == 92 || (c == 93 || c == 45)) ≡ false → Spelled e t w more

bracket_spelled : (e : Environment) (t : ClassToken) (negative : Bool) (w more : List CodePoint) → SpellsBracket negative w more → Spelled e t w more
bracket_spelled e t true w more s = by_other 91 (94 ∷ []) s refl
bracket_spelled e t false w more s = by_other 91 [] s.0 refl

operand_spelled : (e : Environment) (t : ClassToken) (w more : List CodePoint) → is_sets e.mode ≡ true → SpellsOperand e t w more → Spelled e t w more
operand_spelled e (item a) w more sets s = by_atom a (inl refl) s
operand_spelled e (bracket negative) w more sets s = bracket_spelled e (bracket negative) negative w more s
operand_spelled e strings w more sets s = by_strings sets s
operand_spelled e t w more sets s = absurd s

spelled_there : (e : Environment) (at : Place) (t : ClassToken) (w more : List CodePoint) → is_between at ≡ true → SpellsInClass e at t w more → Spelled e t w more
spelled_there e outside t w more between s = absurd (true≢false (sym between))
spelled_there e at_dash t w more between s = absurd (true≢false (sym between))
spelled_there e at_high t w more between s = absurd (true≢false (sym between))
spelled_there e at_second t w more between s = absurd (true≢false (sym between))
spelled_there e at_third t w more between s = absurd (true≢false (sym between))
spelled_there e fresh closer w more between s = closes refl s
spelled_there e fresh (item a) w more between s = by_atom a (inl refl) s.0
spelled_there e fresh (low k v) w more between s = by_atom (character k v) (inr refl) s.0
spelled_there e fresh (bracket negative) w more between s = operand_spelled e (bracket negative) w more s.0 s.1
spelled_there e fresh strings w more between s = operand_spelled e strings w more s.0 s.1
spelled_there e fresh (operator Intersection) w more between s = by_other 38 (38 ∷ []) s.1 refl
spelled_there e fresh (operator Subtraction) w more between s = by_less s.0 s.1
spelled_there e (after_operator o) t w more between s = operand_spelled e t w more s.0 s.1
spelled_there e in_strings (letter k v) w more between s = by_atom (character k v) (inr refl) s.1
spelled_there e in_strings string_bar w more between s = by_other 124 [] s.1 refl
spelled_there e in_strings strings_end w more between s = by_other 125 [] s.1 refl
spelled_there e in_strings t w more between s = absurd s.1
spelled_there e fresh t w more between s = absurd s

-- Text and token begin with one unit.
same_unit : (all w more : List CodePoint) (c d : ℕ) (v x : List ℕ) → values all ≡ c ∷ v → all ≡ w ++ more → values w ≡ d ∷ x → c ≡ d
same_unit all w more c d v x h whole s =
    let text : c ∷ v ≡ (d ∷ x) ++ values more = sym h ∙ ap values whole ∙ map-append (λ (u : CodePoint). u.value) w more ∙ ap (λ v. v ++ values more) s in
    cc text

second_unit : (all w more : List CodePoint) (c d b : ℕ) (v x : List ℕ) → values all ≡ c ∷ v → all ≡ w ++ more → values w ≡ d ∷ b ∷ x → starts b v ≡ true
second_unit all w more c d b v x h whole s =
    let text : c ∷ v ≡ (d ∷ b ∷ x) ++ values more = sym h ∙ ap values whole ∙ map-append (λ (u : CodePoint). u.value) w more ∙ ap (λ v. v ++ values more) s in
    let rest : v ≡ b ∷ (x ++ values more) = cc text in
    ap (starts b) rest ∙ eq-eqb b b refl

atom_unit : (mode : Mode) (all w more : List CodePoint) (c : ℕ) (v : List ℕ) → values all ≡ c ∷ v → all ≡ w ++ more → (b : BeginsAtom mode w) → c ≡ b.unit.value
atom_unit mode all w more c v h whole b = same_unit all w more c b.unit.value v (values b.others) h whole (ap values b.whole)

none_other : (c d : ℕ) → c ≡ d → (d == 92 || (d == 93 || d == 45)) ≡ false → (c == 92 || (c == 93 || c == 45)) ≡ true → ⊥
none_other c d same other is = true≢false (sym is ∙ ap (λ c. c == 92 || (c == 93 || c == 45)) same ∙ other)

module _ (mode : Mode) (us : List CodePoint) (start added : ℕ) where
  abbrev here : Environment
  here = class_environment mode us

  -- An escape that is refused is to stand here.
  pub data AtomFault (f : ℕ) (rest : List CodePoint) : Diagnostic → Type 0 where
    bad_escape : (backslash : CodePoint) (w : List CodePoint) → is_sets mode ≡ false → rest ≡ backslash ∷ w → backslash.value ≡ 92 → begins_class_escape here (values w) ≡ false
        → AtomFault f rest (InvalidClassAtom (span_between us start added f (f + 1)))
    in_escape : {d : Diagnostic} → IsEscapeCause mode us start added f rest d → AtomFault f rest d
    in_property : {d : Diagnostic} → IsPropertyCause mode us start added f rest d → AtomFault f rest d

  no_escape_spelled : is_sets mode ≡ false → (backslash : CodePoint) (rest : List CodePoint) → backslash.value ≡ 92 → begins_class_escape here (values rest) ≡ false → (a : Atom) (w more : List CodePoint) → backslash ∷ rest ≡ w ++ more →
      SpellsAtom here a w more → ⊥
  no_escape_spelled no_sets backslash rest h none a w more whole s =
      let no : no_atom ≡ atom_read a (length w) = sym (no_escape_atom mode no_sets us backslash rest h none) ∙ ap (atom_at here) whole ∙ atom_is_read here a w more s in cc no

  -- No atom is spelled there that obeys, and no character.
  pub no_item_there : (f : ℕ) (rest : List CodePoint) (d : Diagnostic) → AtomFault f rest d → (a : Atom) (w more : List CodePoint) → rest ≡ w ++ more → SpellsAtom here a w more → IsNoItem a
  no_item_there f rest _ (bad_escape backslash following no_sets h is none) a w more whole s = absurd (no_escape_spelled no_sets backslash following is none a w more (sym h ∙ whole) s)
  no_item_there f rest d (in_escape c) a w more whole s = absurd (no_atom_escaped here us start added f rest d a w more c whole s)
  no_item_there f rest d (in_property c) a w more whole s = no_atom_of_property here us start added f rest d a w more c whole s

  -- What a refused escape begins with.
  pub backslash_first : (f : ℕ) (rest : List CodePoint) (d : Diagnostic) → AtomFault f rest d → (w : List ℕ) × (values rest ≡ 92 ∷ w) × (is_sets mode ≡ true → starts 113 w ≡ false)
  backslash_first f rest _ (bad_escape backslash following no_sets h is none) =
      (values following, ap values h ∙ ap (λ c. c ∷ values following) is, λ sets. absurd (true≢false (sym sets ∙ no_sets)))
  backslash_first f rest d (in_escape c) = let b = escape_first here us start added f rest d c in (117 ∷ b.0, b.1, λ sets. refl)
  backslash_first f rest d (in_property c) =
      let b = property_first mode us start added f rest d c in
      (b.0 ∷ b.1, b.2, λ sets. no_q b.0 b.3)
    where
      no_q : (c : ℕ) → begins_property c ≡ true → (c == 113) ≡ false
      no_q c h = differs begins_property c 113 refl h

  -- Without `v` no atom at all is.
  pub no_atom_there : (f : ℕ) (rest : List CodePoint) (d : Diagnostic) → is_sets mode ≡ false → AtomFault f rest d → (a : Atom) (w more : List CodePoint) → rest ≡ w ++ more → SpellsAtom here a w more → ⊥
  no_atom_there f rest d no_sets c (character k v) w more whole s = true≢false (no_item_there f rest d c (character k v) w more whole s).no_character
  no_atom_there f rest d no_sets c (escape k) w more whole s = true≢false (no_item_there f rest d c (escape k) w more whole s).not_obeying
  no_atom_there f rest d no_sets c (property negative may name value) w more whole s =
      let none = only_sets mode (λ sets. true≢false (sym (ap is_sets sets) ∙ no_sets)) may name value s.text s.spelled in
      true≢false (sym (obeys negative) ∙ ap (λ may. not (negative && may)) (sym none) ∙ (no_item_there f rest d c (property negative may name value) w more whole s).not_obeying)
    where
      obeys : (negative : Bool) → not (negative && false) ≡ true
      obeys true = refl
      obeys false = refl

  -- Where an escape is refused no token is allowed.
  pub fault_dead : (at : Place) (inner : Bracket) (outer : Brackets) (f : ℕ) (rest : List CodePoint) (d : Diagnostic) → is_between at ≡ true → AtomFault f rest d → IsDead here at (inner ∷ outer) rest
  fault_dead at inner outer f rest d between c t w more whole s = by (spelled_there here at t w more between s)
    where
      b : (w : List ℕ) × (values rest ≡ 92 ∷ w) × (is_sets mode ≡ true → starts 113 w ≡ false)
      b = backslash_first f rest d c

      of_atom : (a : Atom) → (t ≡ item a) ⊎ (is_character a ≡ true) → IsNoItem a → class_step t (inner ∷ outer) ≡ None
      of_atom a (inl is) n =
          ap (λ t. class_step t (inner ∷ outer)) is ∙ ap (λ b. where_true b (add_thing inner outer (atom_may a) (operand inner.held))) n.not_obeying
      of_atom a (inr is) n = absurd (true≢false (sym is ∙ n.no_character))

      by : Spelled here t w more → class_step t (inner ∷ outer) ≡ None
      by (closes is h) = absurd (true≢false (ap (λ c. c == 92) (same_unit rest w more 92 93 b.0 [] b.1 whole h)))
      by (by_atom a is s) = of_atom a is (no_item_there f rest d c a w more whole s)
      by (by_strings sets h) = absurd (true≢false (sym (second_unit rest w more 92 92 113 b.0 (123 ∷ []) b.1 whole h) ∙ b.2 sets))
      by (by_less sets h) = absurd (true≢false (ap (λ c. c == 92) (same_unit rest w more 92 45 b.0 (45 ∷ []) b.1 whole h)))
      by (by_other c v h other) = absurd (none_other 92 c (same_unit rest w more 92 c b.0 v b.1 whole h) other refl)

  -- Before a closer that is not allowed.
  pub closer_dead : (at : Place) (inner : Bracket) (outer : Brackets) (rest : List CodePoint) (v : List ℕ) → is_between at ≡ true → values rest ≡ 93 ∷ v → may_close inner ≡ false → IsDead here at (inner ∷ outer) rest
  closer_dead at inner outer rest v between h close t w more whole s = by (spelled_there here at t w more between s)
    where
      by : Spelled here t w more → class_step t (inner ∷ outer) ≡ None
      by (closes is k) = ap (λ t. class_step t (inner ∷ outer)) is ∙ ap (λ b. after_closer inner.may b outer) close
      by (by_atom a is s) = let b = atom_begins here a w more s in absurd (true≢false (ap (λ c. c == 93) (atom_unit mode rest w more 93 v h whole b) ∙ b.no_closer))
      by (by_strings sets k) = absurd (true≢false (ap (λ c. c == 93) (same_unit rest w more 93 92 v (113 ∷ 123 ∷ []) h whole k)))
      by (by_less sets k) = absurd (true≢false (ap (λ c. c == 93) (same_unit rest w more 93 45 v (45 ∷ []) h whole k)))
      by (by_other c x k other) = absurd (none_other 93 c (same_unit rest w more 93 c v x h whole k) other refl)

  -- Before a `-` with `v`, and no second.
  pub dash_dead : (at : Place) (inner : Bracket) (outer : Brackets) (rest : List CodePoint) (v : List ℕ) → is_between at ≡ true → is_sets mode ≡ true → values rest ≡ 45 ∷ v → starts 45 v ≡ false → IsDead here at (inner ∷ outer) rest
  dash_dead at inner outer rest v between sets h one t w more whole s = absurd (by (spelled_there here at t w more between s))
    where
      by : Spelled here t w more → ⊥
      by (closes is k) = true≢false (ap (λ c. c == 45) (same_unit rest w more 45 93 v [] h whole k))
      by (by_atom a is s) = let b = atom_begins here a w more s in true≢false (ap (λ c. c == 45) (atom_unit mode rest w more 45 v h whole b) ∙ b.no_dash sets)
      by (by_strings sets k) = true≢false (ap (λ c. c == 45) (same_unit rest w more 45 92 v (113 ∷ 123 ∷ []) h whole k))
      by (by_less sets k) = true≢false (sym (second_unit rest w more 45 45 45 v [] h whole k) ∙ one)
      by (by_other c x k other) = none_other 45 c (same_unit rest w more 45 c v x h whole k) other refl

  -- Before a third `&`.
  pub third_dead : (inner : Bracket) (outer : Brackets) (unit : CodePoint) (rest : List CodePoint) → unit.value ≡ 38 → IsDead here (after_operator Intersection) (inner ∷ outer) (unit ∷ rest)
  third_dead inner outer unit rest is t w more whole s = absurd (by (spelled_there here (after_operator Intersection) t w more refl s))
    where
      some : (c : ℕ) (v : List ℕ) → values w ≡ c ∷ v → ⊥
      some c v h =
          let same = same_unit (unit ∷ rest) w more unit.value c (values rest) v refl whole h in
          true≢false (sym (ap not (ap (λ c. c == 38) (sym is ∙ same) ∙ ap (starts 38) (sym h)) ∙ s.2))

      by : Spelled here t w more → ⊥
      by (closes is h) = some 93 [] h
      by (by_atom a is s) = let b = atom_begins here a w more s in some b.unit.value (values b.others) (ap values b.whole)
      by (by_strings sets h) = some 92 (113 ∷ 123 ∷ []) h
      by (by_less sets h) = some 45 (45 ∷ []) h
      by (by_other c v h other) = some c v h

  -- One atom stands at the front.
  pub record IsSameAtom (a b : Atom) (w v more rest : List CodePoint) : Type 0 where
    pub atoms : a ≡ b
    pub counts : length w ≡ length v
    pub units : more ≡ rest

  pub same_atom : (a b : Atom) (w v more rest : List CodePoint) → w ++ more ≡ v ++ rest → SpellsAtom here a w more → SpellsAtom here b v rest → IsSameAtom a b w v more rest
  same_atom a b w v more rest h s t =
      let f = first_in_class here at_third (item a) (item b) w more v rest h s t in
      let items = f.0 in
      record {
        atoms = (let same : a ≡ b = cc items in same);
        counts = omega (arith, ap length h, length-append w more, length-append v rest, ap length f.1);
        units = f.1;
      }

  -- A `-` before an atom.
  pub dashed_by : (b : Atom) (v more : List CodePoint) (hyphen : CodePoint) → hyphen.value ≡ 45 → SpellsAtom here b v more → is_dashed (values (hyphen ∷ (v ++ more))) ≡ true
  dashed_by b v more hyphen h s =
      let begins = atom_begins here b v more s in
      ap (λ v. is_dashed (values (hyphen ∷ (v ++ more)))) begins.whole ∙ rw (h, begins.no_closer) refl

  -- What no atom and no character stands after: an atom and a `-` that are no three items and no range.
  lone_dead : (inner : Bracket) (outer : Brackets) (a : Atom) (w : List CodePoint) (hyphen : CodePoint) (rest : List CodePoint) → is_sets mode ≡ false → SpellsAtom here a w (hyphen ∷ rest) → is_dashed (values (hyphen ∷ rest)) ≡ true →
      ((b : Atom) (v more : List CodePoint) → has_threes mode ≡ true → rest ≡ v ++ more → SpellsAtom here b v more → ⊥) →
      ((k : CharacterKind) (x : ℕ) (v more : List CodePoint) → is_character a ≡ true → rest ≡ v ++ more → SpellsClassCharacter here k x v more → ⊥) →
      IsDead here fresh (inner ∷ outer) (w ++ (hyphen ∷ rest))
  lone_dead inner outer a w hyphen rest no_sets s dashed no_third no_high closer v more whole k =
      let begins = atom_begins here a w (hyphen ∷ rest) s in
      absurd (true≢false (ap (λ c. c == 93) (sym (same_unit (w ++ (hyphen ∷ rest)) v more begins.unit.value 93 (values (begins.others ++ (hyphen ∷ rest))) [] (ap (λ w. values (w ++ (hyphen ∷ rest))) begins.whole) whole k)) ∙ begins.no_closer))
  lone_dead inner outer a w hyphen rest no_sets s dashed no_third no_high (item b) v more whole k =
      let same = same_atom b a v w more (hyphen ∷ rest) (sym whole) k.0 s in
      absurd (elim k.1 [
        | inl undashed ↦ true≢false (sym dashed ∙ ap (λ us. is_dashed (values us)) (sym same.units) ∙ undashed)
        | inr other ↦ elim other [
          | inl third ↦
              let there : hyphen ∷ rest ≡ third.hyphen ∷ (third.w ++ third.more) = sym same.units ∙ third.whole in
              no_third third.third third.w third.more third.threes (let k : rest ≡ third.w ++ third.more = cc there in k) third.spelled
          | inr alone ↦ true≢false (sym alone.sets ∙ no_sets)
        ]
      ])
  lone_dead inner outer a w hyphen rest no_sets s dashed no_third no_high (low j x) v more whole k =
      let same = same_atom (character j x) a v w more (hyphen ∷ rest) (sym whole) k.0 s in
      let high = k.2 in
      let there : hyphen ∷ rest ≡ high.hyphen ∷ (high.w ++ high.more) = sym same.units ∙ high.whole in
      absurd (no_high high.kind high.value high.w high.more (ap is_character (sym same.atoms)) (let k : rest ≡ high.w ++ high.more = cc there in k) high.spelled)
  lone_dead inner outer a w hyphen rest no_sets s dashed no_third no_high (bracket negative) v more whole k = absurd (true≢false (sym k.0 ∙ no_sets))
  lone_dead inner outer a w hyphen rest no_sets s dashed no_third no_high strings v more whole k = absurd (true≢false (sym k.0 ∙ no_sets))
  lone_dead inner outer a w hyphen rest no_sets s dashed no_third no_high (operator o) v more whole k = absurd (true≢false (sym k.0 ∙ no_sets))
  lone_dead inner outer a w hyphen rest no_sets s dashed no_third no_high t v more whole k = absurd k

  -- Without `v` an escape that is refused is to end a range.
  pub second_dead : (inner : Bracket) (outer : Brackets) (f : ℕ) (d : Diagnostic) (a : Atom) (w : List CodePoint) (hyphen : CodePoint) (rest : List CodePoint) → is_sets mode ≡ false → SpellsAtom here a w (hyphen ∷ rest) →
      is_dashed (values (hyphen ∷ rest)) ≡ true → AtomFault f rest d → IsDead here fresh (inner ∷ outer) (w ++ (hyphen ∷ rest))
  second_dead inner outer f d a w hyphen rest no_sets s dashed c =
      lone_dead inner outer a w hyphen rest no_sets s dashed (λ b v more threes whole s. no_atom_there f rest d no_sets c b v more whole s)
      (λ k x v more is whole s. no_atom_there f rest d no_sets c (character k x) v more whole s)

  -- With `u` an end of a range is no character.
  pub ends_dead : (inner : Bracket) (outer : Brackets) (a b : Atom) (w v more : List CodePoint) (hyphen : CodePoint) → mode ≡ Unicode → SpellsAtom here a w (hyphen ∷ (v ++ more)) → hyphen.value ≡ 45 → SpellsAtom here b v more →
      (is_character a && is_character b) ≡ false → IsDead here fresh (inner ∷ outer) (w ++ (hyphen ∷ (v ++ more)))
  ends_dead inner outer a b w v more hyphen m s h t no_both =
      lone_dead inner outer a w hyphen (v ++ more) (ap is_sets m) s (dashed_by b v more hyphen h t) (λ c x back threes whole s. true≢false (sym threes ∙ ap has_threes m)) (λ k x z back is whole high.
      let same = same_atom (character k x) b z v back more (sym whole) high t in
      true≢false (sym (ap₂ (λ a b. a && b) is (ap is_character (sym same.atoms))) ∙ no_both))

  not_below : (v x : ℕ) → x < v → nat_le v x ≡ false
  not_below v x below = grind (arith, nat_tests)

  -- A range whose end is below its start is not allowed.
  no_range : (inner : Bracket) (outer : Brackets) (k j : CharacterKind) (v x : ℕ) (ts : List ClassToken) (after : Brackets) → x < v → class_run (low k v ∷ dash ∷ high j x ∷ ts) (inner ∷ outer) ≡ Some after → ⊥
  no_range inner outer k j v x ts after below h = by (with_range inner.held) refl
    where
      by : (o : Option Held) → with_range inner.held ≡ o → ⊥
      by None f =
          let no : None ≡ Some after = ap (λ o. after_step (where_may o (record inner { low_end = v } ∷ outer)) (λ bs. class_run (dash ∷ high j x ∷ ts) bs)) (sym f) ∙ h in cc no
      by (Some held) f =
          let low_is : class_run (dash ∷ high j x ∷ ts) (record inner { low_end = v } ∷ outer) ≡ Some after =
          ap (λ o. after_step (where_may o (record inner { low_end = v } ∷ outer)) (λ bs. class_run (dash ∷ high j x ∷ ts) bs)) (sym f) ∙ h in
          let no : None ≡ Some after =
          ap (λ b. after_step (where_true (b && nat_le x 0x10FFFF) (add_thing (record inner { low_end = v }) outer false (with_range inner.held))) (λ bs. class_run ts bs)) (sym (not_below v x below)) ∙ low_is in
          cc no

  -- The low end of a range is spelled before the others.
  pub low_there : (v x : ℕ) (w z more : List CodePoint) (hyphen : CodePoint) → (s : StandsRange here v w hyphen x z more) → SpellsInClass here fresh (low s.low_kind v) w (hyphen ∷ (z ++ more))
  low_there v x w z more hyphen s = (
    s.low_is,
    dashed_by (character s.high_kind x) z more hyphen s.hyphen_is s.high_is,
    record {
      hyphen = hyphen;
      kind = s.high_kind;
      value = x;
      w = z;
      more = more;
      whole = refl;
      hyphen_is = s.hyphen_is;
      spelled = s.high_is;
    },
  )

  after_low : (inner : Bracket) (outer : Brackets) (v x : ℕ) (w z more : List CodePoint) (hyphen : CodePoint) → (s : StandsRange here v w hyphen x z more) → x < v → (q : Place) (back : List CodePoint) (after : Brackets) → is_between q ≡ true →
      (ts : List ClassToken) → ClassTokenRow here ts at_dash (hyphen ∷ (z ++ more)) q back → class_run (low s.low_kind v ∷ ts) (inner ∷ outer) ≡ Some after → ⊥
  after_low inner outer v x w z more hyphen s below q back after between [] r run = true≢false (sym between ∙ ap is_between (sym r.0))
  after_low inner outer v x w z more hyphen s below q back after between (dash ∷ []) r run = true≢false (sym between ∙ ap is_between (sym r.4.0))
  after_low inner outer v x w z more hyphen s below q back after between (dash ∷ (high j y) ∷ ts) r run =
      let f = first_in_class here at_dash dash dash r.0 r.1 (hyphen ∷ []) (z ++ more) (sym r.2) r.3 (ap (λ c. c ∷ []) s.hyphen_is) in
      let g = first_in_class here at_high (high j y) (high s.high_kind x) r.4.0 r.4.1 z more (sym r.4.2 ∙ f.1) r.4.3 s.high_is in
      let same = g.0 in
      no_range inner outer s.low_kind j v y ts after (omega (arith, below, high_value j s.high_kind y x same)) run
    where
      high_value : (j k : CharacterKind) (y x : ℕ) → high j y ≡ high k x → y ≡ x
      high_value j k y x h = cc h
  after_low inner outer v x w z more hyphen s below q back after between (dash ∷ t ∷ ts) r run = absurd r.4.3
  after_low inner outer v x w z more hyphen s below q back after between (t ∷ ts) r run = absurd r.3

  pub range_blocked : (inner : Bracket) (outer : Brackets) (v x : ℕ) (w z more : List CodePoint) (hyphen : CodePoint) → StandsRange here v w hyphen x z more → x < v → IsBlockedItem here fresh (inner ∷ outer) (w ++ (hyphen ∷ (z ++ more)))
  range_blocked inner outer v x w z more hyphen s below t ts q back after between row run =
      let f = first_in_class here fresh t (low s.low_kind v) row.0 row.1 w (hyphen ∷ (z ++ more)) (sym row.2) row.3 (low_there v x w z more hyphen s) in
      after_low inner outer v x w z more hyphen s below q back after between ts
      (subst (λ us. ClassTokenRow here ts (next_place mode fresh (low s.low_kind v) us) us q back) f.1 (subst (λ t. ClassTokenRow here ts (next_place mode fresh t row.1) row.1 q back) f.0 row.4))
      (ap (λ t. class_run (t ∷ ts) (inner ∷ outer)) (sym f.0) ∙ run)
