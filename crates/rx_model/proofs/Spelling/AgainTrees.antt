-- The pattern whose mirror is the tree that the canonical text is read as: made of the pattern's own boxes.
use Rattle.std.proofs.Common.{◌≡◌, ℕ, Bool, false, Option, refl, ap, sym, ◌∙◌, List, [], ◌∷◌, map}
use Rattle.std.specs.declared.alloc.Global.{Global}
use Rattle.std.specs.declared.boxed.Box.{Box}
use Rattle.rx_base.specs.declared.span.Span.{Span}
use Rattle.rx_ast.specs.declared.leaf.Character.{Character}
use Rattle.rx_ast.specs.declared.term.Alternative.{Alternative, roll-Alternative}
use Rattle.rx_ast.specs.declared.term.CapturingGroup.{CapturingGroup, out-CapturingGroup, roll-CapturingGroup}
use Rattle.rx_ast.specs.declared.term.Disjunction.{Disjunction, out-Disjunction, roll-Disjunction}
use Rattle.rx_ast.specs.declared.term.IgnoreGroup.{IgnoreGroup, out-IgnoreGroup, roll-IgnoreGroup}
use Rattle.rx_ast.specs.declared.term.LookAroundAssertion.{LookAroundAssertion, out-LookAroundAssertion, roll-LookAroundAssertion}
use Rattle.rx_ast.specs.declared.term.Quantifier.{Quantifier, roll-Quantifier}
use Rattle.rx_ast.specs.declared.term.Term.{Term, out-Term, roll-Term, roll-out-Term}
use Rattle.rx_ast.specs.declared.term.Term.TheVariants as term
use Rattle.rx_ast.specs.declared.term.Term.TheViews as views
use Rattle.rx_ast.specs.declared.term.Term.TheOpen as layer
use Rattle.rx_ast.specs.declared.term.Term.TheOpen.{Term-F}
use Rattle.rx_ast.specs.ClassTree.{Class, mirror_class}
use Rattle.rx_ast.specs.Tree as tree
use Rattle.rx_ast.specs.Tree.{Leaf, Node, Nodes, Alternatives, leaf, quantified, group, no_node, node, no_alternative, alternative, nodes, alternatives, mirror_term, mirror_alternative, mirror_disjunction}
use Rattle.rx_ast.proofs.Equations as equations
use Rattle.rx_model.specs.declared.mode.Mode.{Mode}
use Rattle.rx_model.specs.Spelling.Spelling.{refers}
use Rattle.rx_model.proofs.Spelling.ClassAgain.{again_class}
use Rattle.rx_model.proofs.Spelling.ClassTrees.{class_made}
use Rattle.rx_model.proofs.Spelling.Again.{again_character, again_leaf, again_node, again_nodes, again_alternatives}

module _ (mode : Mode) where
  -- one level of a term
  abbrev Layer : Type 0
  Layer = Term-F Term Alternative CapturingGroup Disjunction IgnoreGroup LookAroundAssertion Quantifier

  -- the node that a level of a term is
  abbrev shape : Layer → Node
  shape (layer.BoundaryAssertion b) = leaf (tree.boundary b)
  shape (layer.LookAroundAssertion b) =
      let h = out-LookAroundAssertion b.value in group h.span (tree.looking h.kind) (mirror_disjunction h.body).0 (mirror_disjunction h.body).1
  shape (layer.Quantifier b) = quantified b.value.span b.value.min b.value.max b.value.greedy (mirror_term b.value.body)
  shape (layer.Character b) = leaf (tree.character b)
  shape (layer.Dot d) = leaf (tree.dot d)
  shape (layer.CharacterClassEscape b) = leaf (tree.class_escape b)
  shape (layer.UnicodePropertyEscape b) = leaf (tree.property b.value)
  shape (layer.CharacterClass b) = leaf (tree.class (mirror_class b.value))
  shape (layer.CapturingGroup b) =
      let h = out-CapturingGroup b.value in group h.span (tree.capturing h.name) (mirror_disjunction h.body).0 (mirror_disjunction h.body).1
  shape (layer.IgnoreGroup b) =
      let h = out-IgnoreGroup b.value in group h.span (tree.ignoring h.modifiers) (mirror_disjunction h.body).0 (mirror_disjunction h.body).1
  shape (layer.IndexedReference b) = leaf (tree.indexed b)
  shape (layer.NamedReference b) = leaf (tree.named b.value)

  shape_is : (x : Layer) → mirror_term (roll-Term x) ≡ shape x
  shape_is (layer.BoundaryAssertion b) = ap mirror_term (views.rolls-BoundaryAssertion b) ∙ equations.boundary_is b
  shape_is (layer.LookAroundAssertion b) = ap mirror_term (views.rolls-LookAroundAssertion b) ∙ equations.tree_of_look b
  shape_is (layer.Quantifier b) = ap mirror_term (views.rolls-Quantifier b) ∙ equations.tree_of_quantifier b
  shape_is (layer.Character b) = ap mirror_term (views.rolls-Character b) ∙ equations.character_is b
  shape_is (layer.Dot d) = ap mirror_term (views.rolls-Dot d) ∙ equations.dot_is d
  shape_is (layer.CharacterClassEscape b) = ap mirror_term (views.rolls-CharacterClassEscape b) ∙ equations.escape_is b
  shape_is (layer.UnicodePropertyEscape b) = ap mirror_term (views.rolls-UnicodePropertyEscape b) ∙ equations.property_is b
  shape_is (layer.CharacterClass b) = ap mirror_term (views.rolls-CharacterClass b) ∙ equations.class_is b
  shape_is (layer.CapturingGroup b) = ap mirror_term (views.rolls-CapturingGroup b) ∙ equations.tree_of_capturing b
  shape_is (layer.IgnoreGroup b) = ap mirror_term (views.rolls-IgnoreGroup b) ∙ equations.tree_of_ignore b
  shape_is (layer.IndexedReference b) = ap mirror_term (views.rolls-IndexedReference b) ∙ equations.indexed_is b
  shape_is (layer.NamedReference b) = ap mirror_term (views.rolls-NamedReference b) ∙ equations.named_is b

  -- a term whose mirror is this node
  abbrev Made : Node → Type 0
  Made n = (t : Term) × (mirror_term t ≡ n)

  -- the node of the level of a term
  shape_out : (t : Term) → shape (out-Term t) ≡ mirror_term t
  shape_out t = sym (shape_is (out-Term t)) ∙ ap mirror_term (roll-out-Term t)

  -- a leaf other than a character and a class stays as it is
  kept : (x : Layer) (n : Node) → shape x ≡ n → Made n
  kept x n e = (roll-Term x, shape_is x ∙ e)

  character_made : (r : Bool) (x : Layer) (c : Character) → shape x ≡ leaf (tree.character c) → Made (leaf (tree.character (again_character mode r c)))
  character_made r (layer.Character b) c e =
      let same : b ≡ c = cc e in
      let again = again_character mode r b in
      (term.Character again, equations.character_is again ∙ ap (λ c. leaf (tree.character (again_character mode r c))) same)
  character_made r x c e = absurd (let f : ⊥ = cc e in f)

  class_leaf_made : (x : Layer) (c : Class) → shape x ≡ leaf (tree.class c) → Made (leaf (tree.class (again_class mode c)))
  class_leaf_made (layer.CharacterClass b) c e =
      let same : mirror_class b.value ≡ c = cc e in
      let made = class_made mode b.value in
      let box = record b { value = made.0 } in
      (term.CharacterClass box, equations.class_is box ∙ ap (λ c. leaf (tree.class c)) (made.1 ∙ ap (again_class mode) same))
  class_leaf_made x c e = absurd (let f : ⊥ = cc e in f)

  leaf_made : (r : Bool) (x : Layer) (l : Leaf) → shape x ≡ leaf l → Made (leaf (again_leaf mode r l))
  leaf_made r x (tree.character c) e = character_made r x c e
  leaf_made r x (tree.boundary b) e = kept x (leaf (tree.boundary b)) e
  leaf_made r x (tree.dot d) e = kept x (leaf (tree.dot d)) e
  leaf_made r x (tree.class_escape k) e = kept x (leaf (tree.class_escape k)) e
  leaf_made r x (tree.property p) e = kept x (leaf (tree.property p)) e
  leaf_made r x (tree.class c) e = class_leaf_made x c e
  leaf_made r x (tree.indexed i) e = kept x (leaf (tree.indexed i)) e
  leaf_made r x (tree.named n) e = kept x (leaf (tree.named n)) e

  -- a disjunction whose mirror is this, terms whose mirrors are these nodes, and alternatives
  abbrev MadeBody : Span → Alternatives → Type 0
  MadeBody d more = (body : Disjunction) × (mirror_disjunction body ≡ (d, more))

  abbrev MadeTerms : Nodes → Type 0
  MadeTerms ns = (ts : List Term) × (nodes (map mirror_term ts) ≡ ns)

  abbrev MadeAlternatives : Alternatives → Type 0
  MadeAlternatives more = (parts : List Alternative) × (alternatives (map mirror_alternative parts) ≡ more)

  body_made : (d : Span) (more : Alternatives) → MadeAlternatives more → MadeBody d more
  body_made d more made = (roll-Disjunction (record { span = d; body = made.0 }), equations.disjunction_roll _ ∙ ap (λ rest. (d, rest)) made.1)

  capturing_made : (b : Box CapturingGroup Global) (d : Span) (more : Alternatives) → MadeBody d more →
      Made (group (out-CapturingGroup b.value).span (tree.capturing (out-CapturingGroup b.value).name) d more)
  capturing_made b d more made =
      let h = out-CapturingGroup b.value in
      let x = record h { body = made.0 } in
      let box = record b { value = roll-CapturingGroup x } in
      (term.CapturingGroup box, equations.capturing_term_is box ∙ equations.capturing_roll x ∙ ap (λ c. group h.span (tree.capturing h.name) c.0 c.1) made.1)

  ignore_made : (b : Box IgnoreGroup Global) (d : Span) (more : Alternatives) → MadeBody d more →
      Made (group (out-IgnoreGroup b.value).span (tree.ignoring (out-IgnoreGroup b.value).modifiers) d more)
  ignore_made b d more made =
      let h = out-IgnoreGroup b.value in
      let x = record h { body = made.0 } in
      let box = record b { value = roll-IgnoreGroup x } in
      (term.IgnoreGroup box, equations.ignore_term_is box ∙ equations.ignore_roll x ∙ ap (λ c. group h.span (tree.ignoring h.modifiers) c.0 c.1) made.1)

  look_made : (b : Box LookAroundAssertion Global) (d : Span) (more : Alternatives) → MadeBody d more →
      Made (group (out-LookAroundAssertion b.value).span (tree.looking (out-LookAroundAssertion b.value).kind) d more)
  look_made b d more made =
      let h = out-LookAroundAssertion b.value in
      let x = record h { body = made.0 } in
      let box = record b { value = roll-LookAroundAssertion x } in
      (term.LookAroundAssertion box, equations.look_term_is box ∙ equations.look_roll x ∙ ap (λ c. group h.span (tree.looking h.kind) c.0 c.1) made.1)

  -- What is made of the alternatives in a group is made of the group.
  module _ (s d : Span) (o : tree.Opener) (more new : Alternatives) (make : (parts : List Alternative) → alternatives (map mirror_alternative parts) ≡ more → MadeAlternatives new) where
    inside : (body : Disjunction) → (mirror_disjunction body).1 ≡ more → MadeBody d new
    inside body e = body_made d new (make (out-Disjunction body).body (sym (ap (λ c. c.1) (equations.disjunction_is body)) ∙ e))

    moved : (s' : Span) (o' : tree.Opener) → s' ≡ s → o' ≡ o → Made (group s' o' d new) → Made (group s o d new)
    moved s' o' e f made = (made.0, made.1 ∙ ap (λ s. group s o' d new) e ∙ ap (λ o. group s o d new) f)

    group_made : (x : Layer) → shape x ≡ group s o d more → Made (group s o d new)
    group_made (layer.CapturingGroup b) e =
        let h = out-CapturingGroup b.value in
        moved h.span (tree.capturing h.name) (cc e) (cc e) (capturing_made b d new (inside h.body (cc e)))
    group_made (layer.IgnoreGroup b) e =
        let h = out-IgnoreGroup b.value in
        moved h.span (tree.ignoring h.modifiers) (cc e) (cc e) (ignore_made b d new (inside h.body (cc e)))
    group_made (layer.LookAroundAssertion b) e =
        let h = out-LookAroundAssertion b.value in
        moved h.span (tree.looking h.kind) (cc e) (cc e) (look_made b d new (inside h.body (cc e)))
    group_made x e = absurd (let f : ⊥ = cc e in f)

  quantifier_made : (b : Box Quantifier Global) (s : Span) (min : ℕ) (max : Option ℕ) (greedy : Bool) (n : Node) → Made n → Made (quantified s min max greedy n)
  quantifier_made b s min max greedy n made =
      let x = roll-Quantifier (record { span = s; min = min; max = max; greedy = greedy; body = made.0 }) in
      let box = record b { value = x } in
      (term.Quantifier box, equations.tree_of_quantifier box ∙ ap (λ m. quantified s min max greedy m) made.1)

  -- What is made of the body of a quantifier is made of the quantifier.
  module _ (s : Span) (min : ℕ) (max : Option ℕ) (greedy : Bool) (n new : Node) (make : (t : Term) → mirror_term t ≡ n → Made new) where
    quantified_made : (x : Layer) → shape x ≡ quantified s min max greedy n → Made (quantified s min max greedy new)
    quantified_made (layer.Quantifier b) e = quantifier_made b s min max greedy new (make b.value.body (let f : mirror_term b.value.body ≡ n = cc e in f))
    quantified_made x e = absurd (let f : ⊥ = cc e in f)

  alternative_made : (s : Span) (ns : Nodes) (more : Alternatives) → MadeTerms ns → MadeAlternatives more → MadeAlternatives (alternative s ns more)
  alternative_made s ns more made rest =
      let a = roll-Alternative (record { span = s; body = made.0 }) in (
        a ∷ rest.0,
        ap (λ it. alternative it.0 it.1 (alternatives (map mirror_alternative rest.0))) (equations.alternative_roll _ ∙ ap (λ ns. (s, ns)) made.1)
            ∙ ap (λ more. alternative s ns more) rest.1,
      )

  term_made : (n : Node) (ns : Nodes) → Made n → MadeTerms ns → MadeTerms (node n ns)
  term_made n ns made rest = (made.0 ∷ rest.0, ap (λ m. node m (nodes (map mirror_term rest.0))) made.1 ∙ ap (λ more. node n more) rest.1)

  -- the terms of an alternative
  its_terms : (a : Alternative) (s : Span) (ns : Nodes) (more rest : Alternatives) → alternative (mirror_alternative a).0 (mirror_alternative a).1 rest ≡ alternative s ns more →
      nodes (map mirror_term a.body) ≡ ns
  its_terms a s ns more rest e = sym (ap (λ it. it.1) (equations.alternative_is a)) ∙ (let f : (mirror_alternative a).1 ≡ ns = cc e in f)

  mutual
    node_made : (r : Bool) (n : Node) (t : Term) → mirror_term t ≡ n → Made (again_node mode r n)
    node_made r (leaf l) t e = leaf_made r (out-Term t) l (shape_out t ∙ e)
    node_made r (quantified s min max greedy n) t e = quantified_made s min max greedy n (again_node mode r n) (λ t e. node_made r n t e) (out-Term t) (shape_out t ∙ e)
    node_made r (group s o d more) t e = group_made s d o more (again_alternatives mode more) (λ parts e. alternatives_made more parts e) (out-Term t) (shape_out t ∙ e)

    nodes_made : (r : Bool) (ns : Nodes) (ts : List Term) → nodes (map mirror_term ts) ≡ ns → MadeTerms (again_nodes mode r ns)
    nodes_made r no_node ts e = ([], refl)
    nodes_made r (node n ns) [] e = absurd (let f : ⊥ = cc e in f)
    nodes_made r (node n ns) (t ∷ ts) e =
        term_made (again_node mode r n) (again_nodes mode (refers n) ns) (node_made r n t (let f : mirror_term t ≡ n = cc e in f))
        (nodes_made (refers n) ns ts (let f : nodes (map mirror_term ts) ≡ ns = cc e in f))

    alternatives_made : (more : Alternatives) (parts : List Alternative) → alternatives (map mirror_alternative parts) ≡ more → MadeAlternatives (again_alternatives mode more)
    alternatives_made no_alternative parts e = ([], refl)
    alternatives_made (alternative s ns more) [] e = absurd (let f : ⊥ = cc e in f)
    alternatives_made (alternative s ns more) (a ∷ parts) e =
        alternative_made s (again_nodes mode false ns) (again_alternatives mode more)
        (nodes_made false ns a.body (its_terms a s ns more (alternatives (map mirror_alternative parts)) e))
        (alternatives_made more parts (let f : alternatives (map mirror_alternative parts) ≡ more = cc e in f))

  -- a disjunction with the alternatives of another, read again
  pub disjunction_made : (d : Disjunction) → (again : Disjunction) × (mirror_disjunction again ≡ ((mirror_disjunction d).0, again_alternatives mode (mirror_disjunction d).1))
  disjunction_made d =
      let it = mirror_disjunction d in
      body_made it.0 (again_alternatives mode it.1) (alternatives_made it.1 (out-Disjunction d).body (sym (ap (λ c. c.1) (equations.disjunction_is d))))
