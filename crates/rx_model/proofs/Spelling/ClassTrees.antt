-- The class whose mirror is the class that the canonical text is read as: made of the class's own boxes.
use Rattle.std.proofs.Common.{◌≡◌, refl, ap, sym, ◌∙◌, List, [], ◌∷◌, map}
use Rattle.rx_ast.specs.declared.leaf.Character.{Character}
use Rattle.rx_ast.specs.declared.class.CharacterClass.{CharacterClass, roll-CharacterClass}
use Rattle.rx_ast.specs.declared.class.CharacterClassContents.{CharacterClassContents, out-CharacterClassContents, roll-CharacterClassContents, roll-out-CharacterClassContents}
use Rattle.rx_ast.specs.declared.class.CharacterClassContents.TheVariants as contents
use Rattle.rx_ast.specs.declared.class.CharacterClassContents.TheViews as views
use Rattle.rx_ast.specs.declared.class.CharacterClassContents.TheOpen as layer
use Rattle.rx_ast.specs.declared.class.CharacterClassContents.TheOpen.{CharacterClassContents-F}
use Rattle.rx_ast.specs.declared.class.CharacterClassRange.{CharacterClassRange}
use Rattle.rx_ast.specs.declared.class.ClassStringDisjunction.{ClassStringDisjunction}
use Rattle.rx_ast.specs.ClassTree.{Member, Members, Class, range, escape, property, character, nested, strings, no_member, member, class, members, mirror_contents, mirror_class}
use Rattle.rx_ast.proofs.ClassEquations as equations
use Rattle.rx_model.specs.declared.mode.Mode.{Mode}
use Rattle.rx_model.proofs.Spelling.ClassAgain.{again_in_class, again_range, again_strings, again_member, again_members, again_class}

module _ (mode : Mode) where
  -- one level of contents
  abbrev Layer : Type 0
  Layer = CharacterClassContents-F CharacterClassContents CharacterClass

  -- the member that a level of contents is
  abbrev shape : Layer → Member
  shape (layer.CharacterClassRange b) = range b.value
  shape (layer.CharacterClassEscape b) = escape b
  shape (layer.UnicodePropertyEscape b) = property b.value
  shape (layer.Character b) = character b
  shape (layer.NestedCharacterClass b) = nested (mirror_class b.value)
  shape (layer.ClassStringDisjunction b) = strings b.value

  shape_is : (x : Layer) → mirror_contents (roll-CharacterClassContents x) ≡ shape x
  shape_is (layer.CharacterClassRange b) = ap mirror_contents (views.rolls-CharacterClassRange b) ∙ equations.range_is b
  shape_is (layer.CharacterClassEscape b) = ap mirror_contents (views.rolls-CharacterClassEscape b) ∙ equations.escape_is b
  shape_is (layer.UnicodePropertyEscape b) = ap mirror_contents (views.rolls-UnicodePropertyEscape b) ∙ equations.property_is b
  shape_is (layer.Character b) = ap mirror_contents (views.rolls-Character b) ∙ equations.character_is b
  shape_is (layer.NestedCharacterClass b) = ap mirror_contents (views.rolls-NestedCharacterClass b) ∙ equations.nested_is b
  shape_is (layer.ClassStringDisjunction b) = ap mirror_contents (views.rolls-ClassStringDisjunction b) ∙ equations.strings_is b

  -- contents whose mirror is this member, all contents of some members, and a class
  abbrev MadeMember : Member → Type 0
  MadeMember m = (x : CharacterClassContents) × (mirror_contents x ≡ m)

  abbrev MadeMembers : Members → Type 0
  MadeMembers ms = (xs : List CharacterClassContents) × (members (map mirror_contents xs) ≡ ms)

  abbrev MadeClass : Class → Type 0
  MadeClass c = (x : CharacterClass) × (mirror_class x ≡ c)

  -- the member of the level of some contents
  shape_out : (x : CharacterClassContents) → shape (out-CharacterClassContents x) ≡ mirror_contents x
  shape_out x = sym (shape_is (out-CharacterClassContents x)) ∙ ap mirror_contents (roll-out-CharacterClassContents x)

  -- an escape stays as it is
  kept : (x : Layer) (m : Member) → shape x ≡ m → MadeMember m
  kept x m e = (roll-CharacterClassContents x, shape_is x ∙ e)

  -- a range, a character and class strings are read again
  range_made : (x : Layer) (r : CharacterClassRange) → shape x ≡ range r → MadeMember (range (again_range mode r))
  range_made (layer.CharacterClassRange b) r e =
      let same : b.value ≡ r = cc e in
      let box = record b { value = again_range mode b.value } in
      (contents.CharacterClassRange box, equations.range_is box ∙ ap (λ r. range (again_range mode r)) same)
  range_made x r e = absurd (let f : ⊥ = cc e in f)

  character_made : (x : Layer) (c : Character) → shape x ≡ character c → MadeMember (character (again_in_class mode c))
  character_made (layer.Character b) c e =
      let same : b ≡ c = cc e in
      let again = again_in_class mode b in
      (contents.Character again, equations.character_is again ∙ ap (λ c. character (again_in_class mode c)) same)
  character_made x c e = absurd (let f : ⊥ = cc e in f)

  strings_made : (x : Layer) (d : ClassStringDisjunction) → shape x ≡ strings d → MadeMember (strings (again_strings mode d))
  strings_made (layer.ClassStringDisjunction b) d e =
      let same : b.value ≡ d = cc e in
      let box = record b { value = again_strings mode b.value } in
      (contents.ClassStringDisjunction box, equations.strings_is box ∙ ap (λ d. strings (again_strings mode d)) same)
  strings_made x d e = absurd (let f : ⊥ = cc e in f)

  -- what is made of a class is made of it as contents
  nested_made : (x : Layer) (c new : Class) → ((x : CharacterClass) → mirror_class x ≡ c → MadeClass new) → shape x ≡ nested c → MadeMember (nested new)
  nested_made (layer.NestedCharacterClass b) c new make e =
      let made = make b.value (let f : mirror_class b.value ≡ c = cc e in f) in
      let box = record b { value = made.0 } in
      (contents.NestedCharacterClass box, equations.nested_is box ∙ ap (λ c. nested c) made.1)
  nested_made x c new make e = absurd (let f : ⊥ = cc e in f)

  mutual
    member_made : (m : Member) (x : CharacterClassContents) → mirror_contents x ≡ m → MadeMember (again_member mode m)
    member_made (range r) x e = range_made (out-CharacterClassContents x) r (shape_out x ∙ e)
    member_made (escape k) x e = kept (out-CharacterClassContents x) (escape k) (shape_out x ∙ e)
    member_made (property p) x e = kept (out-CharacterClassContents x) (property p) (shape_out x ∙ e)
    member_made (character c) x e = character_made (out-CharacterClassContents x) c (shape_out x ∙ e)
    member_made (nested c) x e = nested_made (out-CharacterClassContents x) c (again_class mode c) (λ x e. tree_made c x e) (shape_out x ∙ e)
    member_made (strings d) x e = strings_made (out-CharacterClassContents x) d (shape_out x ∙ e)

    members_made : (ms : Members) (xs : List CharacterClassContents) → members (map mirror_contents xs) ≡ ms → MadeMembers (again_members mode ms)
    members_made no_member xs e = ([], refl)
    members_made (member m ms) [] e = absurd (let f : ⊥ = cc e in f)
    members_made (member m ms) (x ∷ xs) e =
        let made = member_made m x (let f : mirror_contents x ≡ m = cc e in f) in
        let more = members_made ms xs (let f : members (map mirror_contents xs) ≡ ms = cc e in f) in
        (made.0 ∷ more.0, ap (λ m. member m (members (map mirror_contents more.0))) made.1 ∙ ap (member (again_member mode m)) more.1)

    tree_made : (c : Class) (x : CharacterClass) → mirror_class x ≡ c → MadeClass (again_class mode c)
    tree_made (class s negative may kind ms) x e =
        let same : class x.span x.negative x.strings x.kind (members (map mirror_contents x.body)) ≡ class s negative may kind ms = sym (equations.class_is x) ∙ e in
        let more = members_made ms x.body (let f : members (map mirror_contents x.body) ≡ ms = cc same in f) in (
          roll-CharacterClass (record { span = s; negative = negative; strings = may; kind = kind; body = more.0 }),
          equations.class_roll _ ∙ ap (class s negative may kind) more.1,
        )

  -- a class whose mirror is that of another, read again
  pub class_made : (c : CharacterClass) → MadeClass (again_class mode (mirror_class c))
  class_made c = tree_made (mirror_class c) c refl
