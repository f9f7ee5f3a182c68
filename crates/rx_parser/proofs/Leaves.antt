-- Terms that are one token.
use Rattle.std.proofs.Common.{◌≡◌, refl, ap, sym, ◌∙◌, subst, Bool, List, [], ◌∷◌}
use Rattle.std.specs.declared.boxed.Box.{Box}
use Rattle.std.specs.declared.alloc.Global.{Global}
use Rattle.rx_ast.specs.declared.leaf.NamedReference.{NamedReference}
use Rattle.rx_parser.proofs.Common.{UnicodePropertyEscape, Term, leaf_span, Mode, enter, leave, token, node_events, term_events, leaf_event, run, takes, leaf_takes, IsNode, IsLeafOf, Token, Opener, named, property, Span}
use Rattle.rx_ast.specs.declared.term.Term.TheVariants as variant
use Rattle.rx_ast.specs.Tree as tree
use Rattle.rx_ast.specs.Tree.{Leaf, leaf, mirror_term}
use Rattle.rx_ast.proofs.Equations as mirror
use Rattle.rx_model.specs.Trees.Token.{leaf_token}
use Rattle.rx_parser.specs.declared.found.Leaf.{Leaf as FoundLeaf}
use Rattle.rx_parser.specs.declared.found.Leaf.TheVariants as variants
use Rattle.rx_parser.specs.Found.{leaf_term, leaf_token as found_token}

-- A leaf stands wherever its token may, and its events are the token between the ends of its span.
pub leaf_runs : (mode : Mode) (l : Leaf) (ts : List Token) (open_groups : List Opener) (ready : Bool) → run mode (leaf_token l ∷ ts) open_groups ready ≡ run mode ts open_groups (leaf_takes l)
leaf_runs mode (tree.boundary b) ts open_groups ready = refl
leaf_runs mode (tree.character c) ts open_groups ready = refl
leaf_runs mode (tree.dot d) ts open_groups ready = refl
leaf_runs mode (tree.class_escape e) ts open_groups ready = refl
leaf_runs mode (tree.property p) ts open_groups ready = refl
leaf_runs mode (tree.class c) ts open_groups ready = refl
leaf_runs mode (tree.indexed r) ts open_groups ready = refl
leaf_runs mode (tree.named r) ts open_groups ready = refl

pub leaf_events : (term : Term) (l : Leaf) → mirror_term term ≡ leaf l → term_events term ≡ enter (leaf_span l).start ∷ leaf_event l ∷ leave (leaf_span l).end ∷ []
unfolding term_events
leaf_events term l e = ap node_events e

-- A term whose mirror is a leaf that is a token alone is that token.
pub leaf_is : (term : Term) (l : Leaf) → mirror_term term ≡ leaf l → leaf_event l ≡ token (leaf_token l) → IsLeafOf term (leaf_token l) (leaf_span l).start (leaf_span l).end
leaf_is term l m e = record {
  events_are = leaf_events term l m ∙ ap (λ z. enter (leaf_span l).start ∷ z ∷ leave (leaf_span l).end ∷ []) e;
  runs = λ mode ts open_groups ready. leaf_runs mode l ts open_groups ready ∙ ap (λ z. run mode ts open_groups (takes mode z)) (sym m);
  good = λ mode. subst (IsNode mode) (sym m) tt;
}

pub leaf_term_is : (it : FoundLeaf) (span : Span) → IsLeafOf (leaf_term it span) (found_token it) span.start span.end
leaf_term_is (variants.Boundary kind) span = leaf_is (leaf_term (variants.Boundary kind) span) (tree.boundary (record { span = span; kind = kind })) (mirror.boundary_is _) refl
leaf_term_is (variants.Character kind value) span = leaf_is (leaf_term (variants.Character kind value) span) (tree.character (record { span = span; kind = kind; value = value })) (mirror.character_is _) refl
leaf_term_is variants.Dot span = leaf_is (leaf_term variants.Dot span) (tree.dot (record { span = span })) (mirror.dot_is _) refl
leaf_term_is (variants.ClassEscape kind) span = leaf_is (leaf_term (variants.ClassEscape kind) span) (tree.class_escape (record { span = span; kind = kind })) (mirror.escape_is _) refl
leaf_term_is (variants.IndexedReference n) span = leaf_is (leaf_term (variants.IndexedReference n) span) (tree.indexed (record { span = span; index = n })) (mirror.indexed_is _) refl

pub named_is_leaf : (b : Box NamedReference Global) (r : NamedReference) → b.value ≡ r → IsLeafOf (variant.NamedReference b) (named r.name) r.span.start r.span.end
named_is_leaf b r e = subst (λ r. IsLeafOf (variant.NamedReference b) (named r.name) r.span.start r.span.end) e (leaf_is (variant.NamedReference b) (tree.named b.value) (mirror.named_is b) refl)

pub property_is_leaf : (b : Box UnicodePropertyEscape Global) (p : UnicodePropertyEscape) → b.value ≡ p
    → IsLeafOf (variant.UnicodePropertyEscape b) (property p.negative p.strings p.name p.value) p.span.start p.span.end
property_is_leaf b p e =
    subst (λ p. IsLeafOf (variant.UnicodePropertyEscape b) (property p.negative p.strings p.name p.value) p.span.start p.span.end) e
    (leaf_is (variant.UnicodePropertyEscape b) (tree.property b.value) (mirror.property_is b) refl)
