-- The spelling of a tree is that of its tokens, one after the other.
use Rattle.std.proofs.Common.{◌≡◌, refl, ap, sym, ◌∙◌, ℕ, Bool, true, false, Some, None, List, [], ◌∷◌, ◌++◌, append_assoc, codes}
use Rattle.std.proofs.lemmas.List.{append-nil}
use Rattle.rx_base.specs.declared.span.Span.{Span}
use Rattle.rx_ast.specs.declared.term.Pattern.{Pattern}
use Rattle.rx_ast.specs.Forget.{same_kind, bare}
use Rattle.rx_ast.specs.Tree as tree
use Rattle.rx_ast.specs.Tree.{Leaf, Node, Nodes, Alternatives, leaf, quantified, group, no_node, node, no_alternative, alternative, mirror_disjunction}
use Rattle.rx_model.specs.declared.mode.Mode.{Mode}
use Rattle.rx_ast.specs.Texts.{boundary_text, class_escape_text, property_text, letters, dash, look_text, opener_text, quantifier_text, indexed_text, named_text}
use Rattle.rx_model.specs.Spelling.CharacterText.{outside, character_text}
use Rattle.rx_model.specs.Spelling.ClassText.{class_text}
use Rattle.rx_model.specs.Trees.Events.{Events, within, node_events, nodes_events, alternatives_events, barred_events, tokens}
use Rattle.rx_model.specs.Spelling.Spelling.{leaf_text, leaf_refers, refers, node_text, nodes_text, alternatives_text, barred_text, spelling}
use Rattle.rx_model.specs.Trees.Token.{Token, Opener, boundary, character, dot, class_escape, property, class, indexed, named, opener, closer, bar, quantifier, capturing, ignoring, looking, opener_of, leaf_token}
use Rattle.rx_model.proofs.Trees.Flat.{before, before-append, before_leaf, before_quantified, before_group, before_alternative, tokens_are}
use Rattle.rx_model.proofs.Spelling.Spelling.{letters_forget, dash_forget, class_text_forget, spelling_bare}

-- the text of an opener
abbrev pub opened_text : Opener → List ℕ
opened_text (capturing None) = codes "("
opened_text (capturing (Some name)) = codes "(?<" ++ (name ++ codes ">")
opened_text (ignoring None) = codes "(?:"
opened_text (ignoring (Some bits)) = codes "(?" ++ ((letters bits.0 ++ (dash bits.1 ++ letters bits.1)) ++ codes ":")
opened_text (looking kind) = look_text kind

-- the text of a token; the flag says whether an unquantified indexed reference stands right before
abbrev pub token_text : Mode → Bool → Token → List ℕ
token_text mode after_reference (boundary kind) = boundary_text kind
token_text mode after_reference (character kind value) = character_text mode (outside after_reference) value
token_text mode after_reference dot = codes "."
token_text mode after_reference (class_escape kind) = class_escape_text kind
token_text mode after_reference (property negative strings name value) = property_text negative name value
token_text mode after_reference (class c) = class_text mode c
token_text mode after_reference (indexed n) = indexed_text n
token_text mode after_reference (named name) = named_text name
token_text mode after_reference (opener o) = opened_text o
token_text mode after_reference closer = codes ")"
token_text mode after_reference bar = codes "|"
token_text mode after_reference (quantifier min max greedy) = quantifier_text min max greedy

abbrev pub token_refers : Token → Bool
token_refers (boundary kind) = false
token_refers (character kind value) = false
token_refers dot = false
token_refers (class_escape kind) = false
token_refers (property negative strings name value) = false
token_refers (class c) = false
token_refers (indexed n) = true
token_refers q = false

abbrev pub tokens_text : Mode → Bool → List Token → List ℕ
tokens_text mode after_reference [] = []
tokens_text mode after_reference (t ∷ ts) = token_text mode after_reference t ++ tokens_text mode (token_refers t) ts

opened_text_of : (o : tree.Opener) → opened_text (opener_of o) ≡ opener_text o
opened_text_of (tree.capturing None) = refl
opened_text_of (tree.capturing (Some name)) = refl
opened_text_of (tree.ignoring None) = refl
opened_text_of (tree.ignoring (Some m)) = rw (letters_forget m.enabling.0, letters_forget m.disabling.0, dash_forget m.disabling.0) refl
opened_text_of (tree.looking kind) = refl

module _ (mode : Mode) where
  leaf_says : (l : Leaf) (after_reference : Bool) (ts : List Token) →
      tokens_text mode after_reference (leaf_token l ∷ ts) ≡ leaf_text mode after_reference l ++ tokens_text mode (leaf_refers l) ts
  leaf_says (tree.boundary b) after_reference ts = refl
  leaf_says (tree.character c) after_reference ts = refl
  leaf_says (tree.dot d) after_reference ts = refl
  leaf_says (tree.class_escape e) after_reference ts = refl
  leaf_says (tree.property p) after_reference ts = refl
  leaf_says (tree.class c) after_reference ts = ap (λ text. text ++ tokens_text mode false ts) (class_text_forget same_kind mode c)
  leaf_says m after_reference ts = refl

  -- The tokens of these events have this text, whatever follows.
  abbrev Says : Bool → Events → List ℕ → Type 0
  Says r es text = (q : Bool) × ((ts : List Token) → tokens_text mode r (before es ts) ≡ text ++ tokens_text mode q ts)

  alternative_says : (s : Span) (es fs : Events) (u v : List ℕ) (r : Bool) → Says r es u → ((q : Bool) → Says q fs v) → Says r (within s es ++ fs) (u ++ v)
  alternative_says s es fs u v r p more =
      let m = more p.0 in (
        m.0,
        λ ts. ap (tokens_text mode r) (before_alternative s es fs ts) ∙ p.1 (before fs ts)
            ∙ ap (λ text. u ++ text) (m.1 ts) ∙ sym (append_assoc u v (tokens_text mode m.0 ts)),
      )

  mutual
    node_says : (n : Node) (r : Bool) (ts : List Token) → tokens_text mode r (before (node_events n) ts) ≡ node_text mode r n ++ tokens_text mode (refers n) ts
    node_says (leaf l) r ts = ap (tokens_text mode r) (before_leaf l _ ts) ∙ leaf_says l r ts
    node_says (quantified s min max greedy n) r ts =
        ap (tokens_text mode r) (before_quantified s (node_events n) (quantifier min max greedy) ts)
        ∙ node_says n r (quantifier min max greedy ∷ ts)
        ∙ sym (append_assoc (node_text mode r n) (quantifier_text min max greedy) (tokens_text mode false ts))
    node_says (group s o d more) r ts =
        let body = alternatives_text mode more in
        let h = alternatives_say more in
        ap (tokens_text mode r) (before_group s d o (alternatives_events more) ts)
        ∙ ap (λ text. text ++ tokens_text mode false (before (alternatives_events more) (closer ∷ ts))) (opened_text_of o)
        ∙ ap (λ text. opener_text o ++ text) (h.1 (closer ∷ ts) ∙ sym (append_assoc body (41 ∷ []) (tokens_text mode false ts)))
        ∙ sym (append_assoc (opener_text o) (body ++ (41 ∷ [])) (tokens_text mode false ts))

    nodes_say : (ns : Nodes) (r : Bool) → Says r (nodes_events ns) (nodes_text mode r ns)
    nodes_say no_node r = (r, λ ts. refl)
    nodes_say (node n ns) r =
        let h = nodes_say ns (refers n) in
        let u = node_text mode r n in
        let v = nodes_text mode (refers n) ns in (
          h.0,
          λ ts. ap (tokens_text mode r) (before-append (node_events n) (nodes_events ns) ts) ∙ node_says n r (before (nodes_events ns) ts)
              ∙ ap (λ text. u ++ text) (h.1 ts) ∙ sym (append_assoc u v (tokens_text mode h.0 ts)),
        )

    alternatives_say : (more : Alternatives) → Says false (alternatives_events more) (alternatives_text mode more)
    alternatives_say no_alternative = (false, λ ts. refl)
    alternatives_say (alternative s ns more) =
        alternative_says s (nodes_events ns) (barred_events more) (nodes_text mode false ns) (barred_text mode more) false (nodes_say ns false) (λ q. barred_say more q)

    barred_say : (more : Alternatives) (r : Bool) → Says r (barred_events more) (barred_text mode more)
    barred_say no_alternative r = (r, λ ts. refl)
    barred_say (alternative s ns more) r =
        let h = alternative_says s (nodes_events ns) (barred_events more) (nodes_text mode false ns) (barred_text mode more) false (nodes_say ns false) (λ q. barred_say more q) in
        (h.0, λ ts. ap (λ text. 124 ∷ text) (h.1 ts))

  -- the canonical spelling of a pattern is that of its tokens
  pub spelled_by_tokens : (p : Pattern) → spelling (bare p) mode ≡ tokens_text mode false (tokens p)
  spelled_by_tokens p =
      let all = (mirror_disjunction p.body).1 in
      let h = alternatives_say all in
      spelling_bare p mode ∙ sym (ap (tokens_text mode false) (tokens_are p) ∙ h.1 [] ∙ append-nil (alternatives_text mode all))
