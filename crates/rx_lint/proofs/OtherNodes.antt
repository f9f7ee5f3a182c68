-- Nodes of which a rule cannot hold, and the nodes of which it may.
use Rattle.std.proofs.Common.{◌≡◌, refl, ap, sym, ◌∙◌, Bool, true, false, not, Some, None, List, [], ◌∷◌, map, Bor}
use Rattle.std.specs.List.{slice_get}
use Rattle.rx_ast.specs.declared.ast_kind.RegExpAstKind.{RegExpAstKind}
use Rattle.rx_ast.specs.declared.ast_kind.RegExpAstKind.TheVariants as to
use Rattle.rx_ast.specs.declared.class.CharacterClass.{CharacterClass}
use Rattle.rx_ast.specs.declared.class.CharacterClassContents.{CharacterClassContents}
use Rattle.rx_ast.specs.declared.class.CharacterClassContentsKind.{CharacterClassContentsKind}
use Rattle.rx_ast.specs.declared.class.CharacterClassContentsKind.TheVariants.{Union, Intersection, Subtraction}
use Rattle.rx_ast.specs.declared.term.Term.{Term}
use Rattle.rx_ast.specs.declared.term.Alternative.{Alternative}
use Rattle.rx_ast.specs.declared.term.Disjunction.{Disjunction, out-Disjunction}
use Rattle.rx_ast.specs.declared.term.CapturingGroup.{CapturingGroup}
use Rattle.rx_ast.specs.declared.term.Quantifier.{Quantifier}
use Rattle.rx_base.specs.declared.span.Span.{Span}
use Rattle.rx_ast.proofs.Equations.{alternative_is, disjunction_is}
use Rattle.rx_ast.proofs.ClassEquations as of_class
use Rattle.rx_ast.specs.ClassTree as in_class
use Rattle.rx_ast.specs.ClassTree.{members, mirror_class, mirror_contents}
use Rattle.rx_ast.specs.Kinds as kinds
use Rattle.rx_ast.specs.MirrorKinds.{mirror_kind}
use Rattle.rx_ast.specs.Tree.{Whole, alternatives, nodes, mirror_alternative, mirror_disjunction, mirror_term}
use Rattle.rx_lint.specs.declared.earlier.Mark.{Mark}
use Rattle.rx_lint.specs.Earlier.{is_repeated_item, is_repeated_alternative}
use Rattle.rx_lint.specs.Rules.{is_empty_class, is_union, has_two_or_more, is_empty_alternative, is_unused, is_once}

pub no_class : (n : RegExpAstKind) → ((c : Bor CharacterClass) → n ≡ to.CharacterClass c → ⊥) → (is_empty_class (mirror_kind n) ≡ false) × (is_union (Some (mirror_kind n)) ≡ false)
no_class (to.CharacterClass c) other = absurd (other c refl)
no_class _ other = (refl, refl)

pub no_contents : (mark : Mark) (n : RegExpAstKind) → ((c : Bor CharacterClassContents) → n ≡ to.CharacterClassContents c → ⊥) → is_repeated_item mark (mirror_kind n) ≡ false
no_contents mark (to.CharacterClassContents c) other = absurd (other c refl)
no_contents mark _ other = refl

pub no_disjunction : (n : RegExpAstKind) → ((d : Bor Disjunction) → n ≡ to.Disjunction d → ⊥) → has_two_or_more (Some (mirror_kind n)) ≡ false
no_disjunction (to.Disjunction d) other = absurd (other d refl)
no_disjunction _ other = refl

pub no_terms_in : (n : RegExpAstKind) → ((a : Bor Alternative) → n ≡ to.Alternative a → ⊥) → is_empty_alternative (mirror_kind n) ≡ false
no_terms_in (to.Alternative a) other = absurd (other a refl)
no_terms_in _ other = refl

pub no_alternative : (mark : Mark) (n : RegExpAstKind) → ((a : Bor Alternative) → n ≡ to.Alternative a → ⊥) → is_repeated_alternative mark (mirror_kind n) ≡ false
no_alternative mark (to.Alternative a) other = absurd (other a refl)
no_alternative mark _ other = refl

pub no_group : (p : Whole) (n : RegExpAstKind) → ((g : Bor CapturingGroup) → n ≡ to.CapturingGroup g → ⊥) → is_unused p (mirror_kind n) ≡ false
no_group p (to.CapturingGroup g) other = absurd (other g refl)
no_group p _ other = refl

pub no_quantifier : (n : RegExpAstKind) → ((q : Bor Quantifier) → n ≡ to.Quantifier q → ⊥) → is_once (mirror_kind n) ≡ false
no_quantifier (to.Quantifier q) other = absurd (other q refl)
no_quantifier _ other = refl

-- a class with items, and one without
some_items : (s : Span) (negative strings : Bool) (kind : CharacterClassContentsKind) (cs : List CharacterClassContents) (c : CharacterClassContents) → Some c ≡ slice_get cs 0 → is_empty_class (kinds.class (in_class.class s negative strings kind (members (map mirror_contents cs)))) ≡ false
some_items s negative strings kind [] c some = cc
some_items s negative strings kind (d ∷ cs) c some = refl

no_items : (s : Span) (negative strings : Bool) (kind : CharacterClassContentsKind) (cs : List CharacterClassContents) → None ≡ slice_get cs 0 → is_empty_class (kinds.class (in_class.class s negative strings kind (members (map mirror_contents cs)))) ≡ not negative
no_items s negative strings kind [] none = refl
no_items s negative strings kind (c ∷ cs) none = cc

pub class_with_items : (k : CharacterClass) (c : CharacterClassContents) → Some c ≡ slice_get k.body 0 → false ≡ is_empty_class (kinds.class (mirror_class k))
class_with_items k c some = sym (ap (λ c. is_empty_class (kinds.class c)) (of_class.class_is k) ∙ some_items k.span k.negative k.strings k.kind k.body c some)

pub class_without_items : (k : CharacterClass) → None ≡ slice_get k.body 0 → not k.negative ≡ is_empty_class (kinds.class (mirror_class k))
class_without_items k none = sym (ap (λ c. is_empty_class (kinds.class c)) (of_class.class_is k) ∙ no_items k.span k.negative k.strings k.kind k.body none)

pub class_kind_is : (k : CharacterClass) → is_union (Some (kinds.class (mirror_class k))) ≡ is_union (Some (kinds.class (in_class.class k.span k.negative k.strings k.kind (members (map mirror_contents k.body)))))
class_kind_is k = ap (λ c. is_union (Some (kinds.class c))) (of_class.class_is k)

-- a disjunction with a second alternative, and one without
second : (s : Span) (as' : List Alternative) (a : Alternative) → Some a ≡ slice_get as' 1 → has_two_or_more (Some (kinds.disjunction (s, alternatives (map mirror_alternative as')))) ≡ true
second s [] a some = cc
second s (b ∷ []) a some = cc
second s (b ∷ (c ∷ as')) a some = refl

no_second : (s : Span) (as' : List Alternative) → None ≡ slice_get as' 1 → has_two_or_more (Some (kinds.disjunction (s, alternatives (map mirror_alternative as')))) ≡ false
no_second s [] none = refl
no_second s (b ∷ []) none = refl
no_second s (b ∷ (c ∷ as')) none = cc

pub two_alternatives : (d : Disjunction) (a : Alternative) → Some a ≡ slice_get (out-Disjunction d).body 1 → true ≡ has_two_or_more (Some (kinds.disjunction (mirror_disjunction d)))
two_alternatives d a some = sym (ap (λ d. has_two_or_more (Some (kinds.disjunction d))) (disjunction_is d) ∙ second (out-Disjunction d).span (out-Disjunction d).body a some)

pub one_alternative : (d : Disjunction) → None ≡ slice_get (out-Disjunction d).body 1 → false ≡ has_two_or_more (Some (kinds.disjunction (mirror_disjunction d)))
one_alternative d none = sym (ap (λ d. has_two_or_more (Some (kinds.disjunction d))) (disjunction_is d) ∙ no_second (out-Disjunction d).span (out-Disjunction d).body none)

-- an alternative with terms, and one without
some_terms : (s : Span) (ts : List Term) (t : Term) → Some t ≡ slice_get ts 0 → is_empty_alternative (kinds.alternative (s, nodes (map mirror_term ts))) ≡ false
some_terms s [] t some = cc
some_terms s (u ∷ ts) t some = refl

no_terms : (s : Span) (ts : List Term) → None ≡ slice_get ts 0 → is_empty_alternative (kinds.alternative (s, nodes (map mirror_term ts))) ≡ true
no_terms s [] none = refl
no_terms s (u ∷ ts) none = cc

pub with_terms : (a : Alternative) (t : Term) → Some t ≡ slice_get a.body 0 → false ≡ is_empty_alternative (kinds.alternative (mirror_alternative a))
with_terms a t some = sym (ap (λ a. is_empty_alternative (kinds.alternative a)) (alternative_is a) ∙ some_terms a.span a.body t some)

pub without_terms : (a : Alternative) → None ≡ slice_get a.body 0 → true ≡ is_empty_alternative (kinds.alternative (mirror_alternative a))
without_terms a none = sym (ap (λ a. is_empty_alternative (kinds.alternative a)) (alternative_is a) ∙ no_terms a.span a.body none)

-- a class of each kind
kind_of_class : (k : CharacterClass) (kind : CharacterClassContentsKind) → k.kind ≡ kind → is_union (Some (kinds.class (mirror_class k))) ≡ is_union (Some (kinds.class (in_class.class k.span k.negative k.strings kind (members (map mirror_contents k.body)))))
kind_of_class k kind is = class_kind_is k ∙ ap (λ kind. is_union (Some (kinds.class (in_class.class k.span k.negative k.strings kind (members (map mirror_contents k.body)))))) is

pub union_class : (k : CharacterClass) → k.kind ≡ Union → true ≡ is_union (Some (kinds.class (mirror_class k)))
union_class k is = sym (kind_of_class k Union is)

pub intersection_class : (k : CharacterClass) → k.kind ≡ Intersection → false ≡ is_union (Some (kinds.class (mirror_class k)))
intersection_class k is = sym (kind_of_class k Intersection is)

pub subtraction_class : (k : CharacterClass) → k.kind ≡ Subtraction → false ≡ is_union (Some (kinds.class (mirror_class k)))
subtraction_class k is = sym (kind_of_class k Subtraction is)
