-- Which variant a thing in a class is, by its mirror, and what it holds.
use Rattle.std.proofs.Common.{◌≡◌, ap, sym, ◌∙◌, subst}
use Rattle.std.specs.declared.alloc.Global.{Global}
use Rattle.std.specs.declared.boxed.Box.{Box}
use Rattle.rx_ast.specs.declared.leaf.Character.{Character}
use Rattle.rx_ast.specs.declared.leaf.CharacterClassEscape.{CharacterClassEscape}
use Rattle.rx_ast.specs.declared.leaf.UnicodePropertyEscape.{UnicodePropertyEscape}
use Rattle.rx_ast.specs.declared.class.CharacterClass.{CharacterClass}
use Rattle.rx_ast.specs.declared.class.CharacterClassRange.{CharacterClassRange}
use Rattle.rx_ast.specs.declared.class.ClassStringDisjunction.{ClassStringDisjunction}
use Rattle.rx_ast.specs.declared.class.CharacterClassContents.{CharacterClassContents, out-CharacterClassContents, roll-CharacterClassContents, roll-out-CharacterClassContents}
use Rattle.rx_ast.specs.declared.class.CharacterClassContents.TheVariants as contents
use Rattle.rx_ast.specs.declared.class.CharacterClassContents.TheViews as views
use Rattle.rx_ast.specs.declared.class.CharacterClassContents.TheOpen as layer
use Rattle.rx_ast.specs.declared.class.CharacterClassContents.TheOpen.{CharacterClassContents-F}
use Rattle.rx_ast.specs.ClassTree.{Member, Class, range, escape, property, character, nested, strings, mirror_contents}
use Rattle.rx_ast.specs.Forget.{forget_member, same_kind}
use Rattle.rx_ast.proofs.ClassEquations.{roll_is}
use Rattle.rx_ast.proofs.ClassContentEq.{member_of}

-- it is of the variant that this is the mirror of
abbrev pub IsOfVariant : Member → CharacterClassContents → Type 0
IsOfVariant (range r) c = (b : Box CharacterClassRange Global) × (c ≡ contents.CharacterClassRange b)
IsOfVariant (escape e) c = (b : CharacterClassEscape) × (c ≡ contents.CharacterClassEscape b)
IsOfVariant (property p) c = (b : Box UnicodePropertyEscape Global) × (c ≡ contents.UnicodePropertyEscape b)
IsOfVariant (character x) c = (b : Character) × (c ≡ contents.Character b)
IsOfVariant (nested k) c = (b : Box CharacterClass Global) × (c ≡ contents.NestedCharacterClass b)
IsOfVariant (strings d) c = (b : Box ClassStringDisjunction Global) × (c ≡ contents.ClassStringDisjunction b)

of_layer : (x : CharacterClassContents-F CharacterClassContents CharacterClass) → IsOfVariant (mirror_contents (roll-CharacterClassContents x)) (roll-CharacterClassContents x)
of_layer (layer.CharacterClassRange b) = let x = layer.CharacterClassRange b in subst (λ m. IsOfVariant m (roll-CharacterClassContents x)) (sym (roll_is x)) (b, views.rolls-CharacterClassRange b)
of_layer (layer.CharacterClassEscape b) = let x = layer.CharacterClassEscape b in subst (λ m. IsOfVariant m (roll-CharacterClassContents x)) (sym (roll_is x)) (b, views.rolls-CharacterClassEscape b)
of_layer (layer.UnicodePropertyEscape b) = let x = layer.UnicodePropertyEscape b in subst (λ m. IsOfVariant m (roll-CharacterClassContents x)) (sym (roll_is x)) (b, views.rolls-UnicodePropertyEscape b)
of_layer (layer.Character b) = let x = layer.Character b in subst (λ m. IsOfVariant m (roll-CharacterClassContents x)) (sym (roll_is x)) (b, views.rolls-Character b)
of_layer (layer.NestedCharacterClass b) = let x = layer.NestedCharacterClass b in subst (λ m. IsOfVariant m (roll-CharacterClassContents x)) (sym (roll_is x)) (b, views.rolls-NestedCharacterClass b)
of_layer (layer.ClassStringDisjunction b) = let x = layer.ClassStringDisjunction b in subst (λ m. IsOfVariant m (roll-CharacterClassContents x)) (sym (roll_is x)) (b, views.rolls-ClassStringDisjunction b)

forgotten : (m : Member) (c : CharacterClassContents) → IsOfVariant m c → IsOfVariant (forget_member same_kind m) c
forgotten (range r) c h = h
forgotten (escape e) c h = h
forgotten (property p) c h = h
forgotten (character x) c h = h
forgotten (nested k) c h = h
forgotten (strings d) c h = h

variant_is : (c : CharacterClassContents) → IsOfVariant (member_of c) c
variant_is c = forgotten (mirror_contents c) c (subst (λ d. IsOfVariant (mirror_contents d) d) (roll-out-CharacterClassContents c) (of_layer (out-CharacterClassContents c)))

-- Two of the same content are of one variant.
pub one_variant : (c d : CharacterClassContents) (m : Member) → mirror_contents c ≡ m → member_of c ≡ member_of d → IsOfVariant (forget_member same_kind m) d
one_variant c d m is same = subst (λ n. IsOfVariant n d) (sym same ∙ ap (forget_member same_kind) is) (variant_is d)

abbrev pub range_or : CharacterClassRange → Member → CharacterClassRange
range_or default (range r) = r
range_or default m = default

abbrev pub escape_or : CharacterClassEscape → Member → CharacterClassEscape
escape_or default (escape e) = e
escape_or default m = default

abbrev pub property_or : UnicodePropertyEscape → Member → UnicodePropertyEscape
property_or default (property p) = p
property_or default m = default

abbrev pub character_or : Character → Member → Character
character_or default (character c) = c
character_or default m = default

abbrev pub nested_or : Class → Member → Class
nested_or default (nested c) = c
nested_or default m = default

abbrev pub strings_or : ClassStringDisjunction → Member → ClassStringDisjunction
strings_or default (strings d) = d
strings_or default m = default
