-- The tokens of a class that is free of early errors open its bracket and close it.
use Rattle.std.proofs.Common.{◌≡◌, refl, sym, ap, ◌∙◌, ℕ, ◌≤◌, Bool, true, false, not, ◌&&◌, Option, Some, None, List, [], ◌∷◌, ◌++◌, nat_le}
use Rattle.std.proofs.lemmas.Bool.{le-leb, and_from}
use Rattle.rx_ast.specs.declared.leaf.CharacterKind.{CharacterKind}
use Rattle.rx_ast.specs.ClassTree.{Class}
use Rattle.rx_units.specs.declared.code_point.CodePoint.{CodePoint}
use Rattle.rx_model.specs.declared.mode.Mode.{Mode}
use Rattle.rx_model.specs.declared.mode.Mode.TheVariants.{Sets}
use Rattle.rx_model.specs.Classes.ClassRows.{IsClass}
use Rattle.rx_base.specs.declared.diagnostic.kinds.SetOperator.TheVariants.{Intersection, Subtraction}
use Rattle.rx_model.specs.Classes.ClassRuns.{Held, empty, single, several, pending, joined, Bracket, Brackets, atom_may, atom_obeys, after_step, bracket_of, class_run_from_start, class_run, class_step, add_thing, operand, with_range, where_may, where_true, with_strings}
use Rattle.rx_model.specs.Classes.ClassTokens.{Atom, ClassToken, bracket, item, low, dash, high, class_tokens}
use Rattle.rx_model.specs.Trees.Early.{IsEarlyClass}
use Rattle.rx_model.specs.Inputs.Environment.{Environment}
use Rattle.rx_model.specs.Properties.PropertyEscapes as spelled
use Rattle.rx_model.specs.Properties.PropertyEscapes.{SpellsProperty}
use Rattle.rx_model.proofs.Classes.ClassShapes.{early_closes}

-- what a bracket around a union holds
abbrev pub IsUnion : Held → Type 0
IsUnion empty = Unit {0}
IsUnion single = Unit {0}
IsUnion several = Unit {0}
IsUnion held = ⊥

-- It may hold one thing more.
pub record Grows (more : Option Held) : Type 0 where
  pub held : Held
  pub union : IsUnion held
  pub is : more ≡ Some held

one_operand : (held : Held) → IsUnion held → Grows (operand held)
one_operand empty u = record { held = single; union = tt; is = refl }
one_operand single u = record { held = several; union = tt; is = refl }
one_operand several u = record { held = several; union = tt; is = refl }
one_operand held u = absurd u

one_range : (held : Held) → IsUnion held → Grows (with_range held)
one_range empty u = record { held = several; union = tt; is = refl }
one_range single u = record { held = several; union = tt; is = refl }
one_range several u = record { held = several; union = tt; is = refl }
one_range held u = absurd u

without_strings : (held : Held) → with_strings held false false ≡ false
without_strings empty = refl
without_strings single = refl
without_strings several = refl
without_strings (pending Intersection) = refl
without_strings (pending Subtraction) = refl
without_strings (joined o) = refl

-- A bracket without strings, around a union, holds one thing more.
holds_more : (negative : Bool) (held : Held) (v : ℕ) (more : Option Held) (g : Grows more) →
    add_thing (record (bracket_of negative held false) { low_end = v }) [] false more ≡ Some (bracket_of negative g.held false ∷ [])
holds_more negative held v more g =
    ap (add_thing (record (bracket_of negative held false) { low_end = v }) [] false) g.is ∙ ap (λ may. Some (bracket_of negative g.held may ∷ [])) (without_strings held)

-- After these tokens the bracket is around a union still.
abbrev pub Runs : Bool → Held → List ClassToken → List ClassToken → Type 0
Runs negative held ts ss =
    (grown : Held) × IsUnion grown × (class_run (ts ++ ss) (bracket_of negative held false ∷ []) ≡ class_run ss (bracket_of negative grown false ∷ []))

pub atom_runs : (negative : Bool) (held : Held) (a : Atom) (ss : List ClassToken) → IsUnion held → atom_obeys a ≡ true → atom_may a ≡ false → Runs negative held (item a ∷ []) ss
atom_runs negative held a ss u obeys may =
    let r : Bracket = bracket_of negative held false in
    let g = one_operand held u in (
      g.held,
      g.union,
      ap (λ after. after_step after (λ brackets. class_run ss brackets))
          (ap (λ b. where_true b (add_thing r [] (atom_may a) (operand held))) obeys ∙ ap (λ may. add_thing r [] may (operand held)) may ∙ holds_more negative held 0 (operand held) g),
    )

pub range_runs : (negative : Bool) (held : Held) (k : CharacterKind) (v : ℕ) (j : CharacterKind) (x : ℕ) (ss : List ClassToken) → IsUnion held → v ≤ x → x ≤ 0x10FFFF →
    Runs negative held (low k v ∷ dash ∷ high j x ∷ []) ss
range_runs negative held k v j x ss u order small =
    let r : Bracket = record (bracket_of negative held false) { low_end = v } in
    let g = one_range held u in (
      g.held,
      g.union,
      ap (λ more. after_step (where_may more (r ∷ [])) (λ brackets. class_run (dash ∷ high j x ∷ ss) brackets)) g.is
          ∙ ap (λ after. after_step after (λ brackets. class_run ss brackets))
          (ap (λ b. where_true b (add_thing r [] false (with_range held))) (and_from (nat_le v x) (nat_le x 0x10FFFF) (le-leb v x order) (le-leb x 0x10FFFF small))
          ∙ holds_more negative held v (with_range held) g),
    )

pub property_obeys : (negative may : Bool) → (negative && may) ≡ false → not (negative && may) ≡ true
property_obeys negative may h = ap not h

-- More tokens go on with the brackets that these leave open.
pub class_run-append : (ts ss : List ClassToken) (bs cs : Brackets) → class_run ts bs ≡ Some cs → class_run (ts ++ ss) bs ≡ class_run ss cs
class_run-append [] ss bs cs h = let same : bs ≡ cs = cc h in ap (class_run ss) same
class_run-append (t ∷ ts) ss bs cs h = go (λ after. class_run-append ts ss after cs) (class_step t bs) refl
  where
    go : ((after : Brackets) → class_run ts after ≡ Some cs → class_run (ts ++ ss) after ≡ class_run ss cs) → (o : Option Brackets) → class_step t bs ≡ o → class_run (t ∷ (ts ++ ss)) bs ≡ class_run ss cs
    go again None e = absurd (let no : None ≡ Some cs = ap (λ o. after_step o (λ after. class_run ts after)) (sym e) ∙ h in let k : ⊥ = cc no in k)
    go again (Some after) e =
        ap (λ o. after_step o (λ after. class_run (ts ++ ss) after)) e
        ∙ again after (ap (λ o. after_step o (λ after. class_run ts after)) (sym e) ∙ h)

pub class_opened-append : (ts ss : List ClassToken) (cs : Brackets) → class_run_from_start ts ≡ Some cs → class_run_from_start (ts ++ ss) ≡ class_run ss cs
class_opened-append [] ss cs h = absurd (let no : ⊥ = cc h in no)
class_opened-append ((bracket negative) ∷ ts) ss cs h = class_run-append ts ss (bracket_of negative empty false ∷ []) cs h
class_opened-append (t ∷ ts) ss cs h = absurd (let no : ⊥ = cc h in no)

-- But in sets mode no property is of strings.
pub only_sets : (mode : Mode) → (mode ≡ Sets → ⊥) → (strings : Bool) (name : List ℕ) (value : Option (List ℕ)) (text : List ℕ) → SpellsProperty mode strings name value text → strings ≡ false
only_sets mode no_sets _ _ _ _ (spelled.pair valid) = refl
only_sets mode no_sets _ _ _ _ (spelled.category known) = refl
only_sets mode no_sets _ _ _ _ (spelled.binary no_category known) = refl
only_sets mode no_sets _ _ _ _ (spelled.of_strings sets no_category no_binary known) = absurd (no_sets sets)

-- A class that is spelled and free of early errors closes.
pub whole_class : (e : Environment) (c : Class) (w rest : List CodePoint) → IsClass e c w rest → IsEarlyClass c → class_run_from_start (class_tokens c) ≡ Some []
whole_class e c w rest is early = early_closes c is.shape.0 early
