-- The children of nodes that the code holds.
use Rattle.std.proofs.Common.{◌≡◌, refl, ap, ◌∙◌, List, [], ◌∷◌, map}
use Rattle.rx_ast.specs.declared.class.CharacterClass.{CharacterClass}
use Rattle.rx_ast.specs.declared.class.CharacterClassContents.{CharacterClassContents}
use Rattle.rx_ast.specs.declared.term.Alternative.{Alternative}
use Rattle.rx_ast.specs.declared.term.Disjunction.{Disjunction, out-Disjunction}
use Rattle.rx_ast.specs.declared.term.Term.{Term}
use Rattle.rx_ast.specs.ClassTree.{Member, members, mirror_contents, mirror_class}
use Rattle.rx_ast.specs.Tree.{Node, nodes, alternatives, mirror_term, mirror_alternative, mirror_disjunction}
use Rattle.rx_ast.specs.Kinds.{disjunction, alternative, class, each_term, each_alternative, each_contents, in_contents, in_term, children}
use Rattle.rx_visit.specs.Siblings.{alternative_kind, contents_kind, term_kind}
use Rattle.rx_ast.proofs.ClassEquations.{class_is}
use Rattle.rx_ast.proofs.Equations.{alternative_is, disjunction_is}

all_contents : (cs : List CharacterClassContents) → each_contents (members (map mirror_contents cs)) ≡ map contents_kind cs
all_contents [] = refl
all_contents (c ∷ cs) = ap (λ ks. contents_kind c ∷ ks) (all_contents cs)

terms : (ts : List Term) → each_term (nodes (map mirror_term ts)) ≡ map term_kind ts
terms [] = refl
terms (t ∷ ts) = ap (λ ks. term_kind t ∷ ks) (terms ts)

all_alternatives : (as' : List Alternative) → each_alternative (alternatives (map mirror_alternative as')) ≡ map alternative_kind as'
all_alternatives [] = refl
all_alternatives (a ∷ as') = ap (λ ks. alternative_kind a ∷ ks) (all_alternatives as')

pub in_class : (c : CharacterClass) (cs : List CharacterClassContents) → cs ≡ c.body → children (class (mirror_class c)) ≡ map contents_kind cs
in_class c cs is = ap (λ m. children (class m)) (class_is c) ∙ rw is (all_contents c.body)

pub in_alternative : (a : Alternative) (ts : List Term) → ts ≡ a.body → children (alternative (mirror_alternative a)) ≡ map term_kind ts
in_alternative a ts is = ap (λ m. children (alternative m)) (alternative_is a) ∙ rw is (terms a.body)

pub in_disjunction : (d : Disjunction) (as' : List Alternative) → as' ≡ (out-Disjunction d).body → children (disjunction (mirror_disjunction d)) ≡ map alternative_kind as'
in_disjunction d as' is = ap (λ m. children (disjunction m)) (disjunction_is d) ∙ rw is (all_alternatives (out-Disjunction d).body)

-- the node that a term of a variant is, or contents of a variant are, whose mirror is known
pub kind_of_term : {t variant : Term} {n : Node} → t ≡ variant → mirror_term variant ≡ n → in_term (mirror_term t) ≡ in_term n
kind_of_term is mirrored = ap (λ x. in_term (mirror_term x)) is ∙ ap in_term mirrored

pub kind_of_contents : {c variant : CharacterClassContents} {m : Member} → c ≡ variant → mirror_contents variant ≡ m → in_contents (mirror_contents c) ≡ in_contents m
kind_of_contents is mirrored = ap (λ x. in_contents (mirror_contents x)) is ∙ ap in_contents mirrored
