-- The tokens of a flattened tree, node by node.
use Rattle.std.proofs.Common.{◌≡◌, refl, ap, sym, ◌∙◌, Some, None, List, [], ◌∷◌, ◌++◌, append_assoc}
use Rattle.std.proofs.lemmas.List.{append-nil}
use Rattle.rx_base.specs.declared.span.Span.{Span}
use Rattle.rx_ast.specs.declared.term.Pattern.{Pattern}
use Rattle.rx_ast.specs.Forget.{forget_class, same_kind}
use Rattle.rx_ast.specs.Tree as tree
use Rattle.rx_ast.specs.Tree.{Leaf, mirror_disjunction}
use Rattle.rx_model.specs.Trees.Token.{Token, class, opener, closer, ignoring, opener_of, leaf_token, letter_bits}
use Rattle.rx_model.specs.Trees.Events.{Events, enter, leave, token, inside, modified, tokens_of, within, leaf_event, opener_event, alternatives_events, disjunction_events, tokens}

pub tokens_of-append : (es fs : Events) → tokens_of (es ++ fs) ≡ tokens_of es ++ tokens_of fs
tokens_of-append [] fs = refl
tokens_of-append ((enter n) ∷ es) fs = tokens_of-append es fs
tokens_of-append ((leave n) ∷ es) fs = tokens_of-append es fs
tokens_of-append ((token t) ∷ es) fs = ap (λ ts. t ∷ ts) (tokens_of-append es fs)
tokens_of-append ((inside c) ∷ es) fs = ap (λ ts. class (forget_class same_kind c) ∷ ts) (tokens_of-append es fs)
tokens_of-append ((modified m) ∷ es) fs = ap (λ ts. opener (ignoring (Some (letter_bits m))) ∷ ts) (tokens_of-append es fs)

-- the tokens of some events, and then others
abbrev pub before : Events → List Token → List Token
before es ts = tokens_of es ++ ts

pub before-append : (es fs : Events) (ts : List Token) → before (es ++ fs) ts ≡ before es (before fs ts)
before-append es fs ts = ap (λ ss. ss ++ ts) (tokens_of-append es fs) ∙ append_assoc (tokens_of es) (tokens_of fs) ts

pub before_leaf : (l : Leaf) (es : Events) (ts : List Token) → before (leaf_event l ∷ es) ts ≡ leaf_token l ∷ before es ts
before_leaf (tree.boundary b) es ts = refl
before_leaf (tree.character c) es ts = refl
before_leaf (tree.dot d) es ts = refl
before_leaf (tree.class_escape e) es ts = refl
before_leaf (tree.property p) es ts = refl
before_leaf (tree.class c) es ts = refl
before_leaf (tree.indexed r) es ts = refl
before_leaf (tree.named r) es ts = refl

pub before_opener : (o : tree.Opener) (es : Events) (ts : List Token) → before (opener_event o ∷ es) ts ≡ opener (opener_of o) ∷ before es ts
before_opener (tree.capturing name) es ts = refl
before_opener (tree.ignoring None) es ts = refl
before_opener (tree.ignoring (Some m)) es ts = refl
before_opener (tree.looking kind) es ts = refl

pub before_within : (s : Span) (es : Events) (ts : List Token) → before (within s es) ts ≡ before es ts
before_within s es ts = before-append es (leave s.end ∷ []) ts

pub before_quantified : (s : Span) (es : Events) (t : Token) (ts : List Token) → before (within s (es ++ (token t ∷ []))) ts ≡ before es (t ∷ ts)
before_quantified s es t ts = before_within s (es ++ (token t ∷ [])) ts ∙ before-append es (token t ∷ []) ts

pub before_group : (s d : Span) (o : tree.Opener) (es : Events) (ts : List Token) →
    before (within s (opener_event o ∷ (within d es ++ (token closer ∷ [])))) ts ≡ opener (opener_of o) ∷ before es (closer ∷ ts)
before_group s d o es ts =
    before_within s (opener_event o ∷ (within d es ++ (token closer ∷ []))) ts
    ∙ before_opener o (within d es ++ (token closer ∷ [])) ts
    ∙ ap (λ ss. opener (opener_of o) ∷ ss) (before-append (within d es) (token closer ∷ []) ts ∙ before_within d es (closer ∷ ts))

pub before_alternative : (s : Span) (es fs : Events) (ts : List Token) → before (within s es ++ fs) ts ≡ before es (before fs ts)
before_alternative s es fs ts = before-append (within s es) fs ts ∙ before_within s es (before fs ts)

-- the tokens of a pattern are those of its alternatives
pub tokens_are : (p : Pattern) → tokens p ≡ before (alternatives_events (mirror_disjunction p.body).1) []
unfolding disjunction_events
tokens_are p =
    let it = mirror_disjunction p.body in
    sym (append-nil (tokens p)) ∙ before_within p.span (within it.0 (alternatives_events it.1)) [] ∙ before_within it.0 (alternatives_events it.1) []
