-- Alternatives after the first are elements, and a disjunction is a first one and a row of these.
use Rattle.std.proofs.Common.{◌≡◌, refl, ap, sym, ◌∙◌, subst, ℕ, zero, suc, ◌==◌, true, Option, Some, None, List, [], ◌∷◌, ◌++◌, append_assoc, append-nil, inl, inr}
use Rattle.std.proofs.lemmas.Bool.{eqb-true}
use Rattle.rx_base.specs.declared.span.Span.{Span}
use Rattle.rx_ast.specs.declared.term.Pattern.{Pattern}
use Rattle.rx_ast.specs.Forget.{nowhere, forget_nodes, forget_alternatives, same_kind}
use Rattle.rx_ast.specs.Tree as tree
use Rattle.rx_ast.specs.Tree.{Leaf, Node, Nodes, Alternatives, leaf, quantified, group, no_node, node, no_alternative, alternative, mirror_disjunction}
use Rattle.rx_ast.proofs.Forget.{forget_nodes_twice}
use Rattle.rx_units.specs.declared.code_point.CodePoint.{CodePoint}
use Rattle.rx_units.specs.Sequences.{ElementRow}
use Rattle.rx_units.specs.Units.{values}
use Rattle.rx_model.specs.declared.mode.Mode.{Mode}
use Rattle.rx_model.specs.declared.rules.Rules.{Rules}
use Rattle.rx_model.specs.FirstPass.Marks.{starts}
use Rattle.rx_model.specs.Inputs.Environment.{Environment, environment}
use Rattle.rx_model.specs.Reading.Alternatives.{disjunction_of, EndsDisjunction, EndsAlternative, SpellsAlternative, SpellsBarred}
use Rattle.rx_model.specs.Reading.Prefixes.{GoesOn}
use Rattle.rx_model.specs.Reading.Reading.{IsSpelled}
use Rattle.rx_model.specs.Reading.Rows.{Spells, TokenRow}
use Rattle.rx_model.specs.Trees.Events.{Events, within, tokens_of, node_events, nodes_events, alternatives_events, barred_events, tokens}
use Rattle.rx_model.specs.Trees.Shapes.{AreNodes, HasAlternatives, AreAlternatives}
use Rattle.rx_model.specs.Trees.Token.{Token, boundary, character, dot, class_escape, property, class, indexed, named, opener, closer, bar, quantifier, leaf_token}
use Rattle.rx_model.proofs.Classes.ClassFronts.{single}
use Rattle.rx_model.proofs.Reading.OneRow.{first_token, nothing_spelled}
use Rattle.rx_model.proofs.Reading.Prefixes.{prefixes}
use Rattle.rx_model.proofs.Reading.Splits.{starting_unit}
use Rattle.rx_model.proofs.Trees.TreeFromTokens.{one_alternative}
use Rattle.rx_model.proofs.Trees.Flat.{before, before-append, before_leaf, before_quantified, before_group, before_alternative, tokens_are}
use Rattle.rx_model.proofs.Trees.Joins.{token_row_append, token_row_split}
use Rattle.rx_model.proofs.Trees.WithoutSpans.{nodes_tokens, nodes_shape}

-- How many groups are open after these tokens, where so many are before them; none, where a bar or a closer stands in no group.
abbrev open_after : List Token → ℕ → Option ℕ
open_after [] n = Some n
open_after (closer ∷ ts) zero = None
open_after (closer ∷ ts) (suc n) = open_after ts n
open_after (bar ∷ ts) zero = None
open_after (bar ∷ ts) (suc n) = open_after ts (suc n)
open_after ((opener o) ∷ ts) n = open_after ts (suc n)
open_after ((quantifier min max greedy) ∷ ts) n = open_after ts n
open_after ((boundary kind) ∷ ts) n = open_after ts n
open_after (dot ∷ ts) n = open_after ts n
open_after ((character kind value) ∷ ts) n = open_after ts n
open_after ((class_escape kind) ∷ ts) n = open_after ts n
open_after ((property negative strings name value) ∷ ts) n = open_after ts n
open_after ((class c) ∷ ts) n = open_after ts n
open_after ((indexed index) ∷ ts) n = open_after ts n
open_after ((named name) ∷ ts) n = open_after ts n

leaf_stays : (l : Leaf) (ts : List Token) (n : ℕ) → open_after (leaf_token l ∷ ts) n ≡ open_after ts n
leaf_stays (tree.boundary b) ts n = refl
leaf_stays (tree.character c) ts n = refl
leaf_stays (tree.dot d) ts n = refl
leaf_stays (tree.class_escape e) ts n = refl
leaf_stays (tree.property p) ts n = refl
leaf_stays (tree.class c) ts n = refl
leaf_stays (tree.indexed r) ts n = refl
leaf_stays (tree.named r) ts n = refl

alternative_stays : (s : Span) (ns : Nodes) (es : Events) (ts : List Token) (n : ℕ) → ((ts : List Token) → open_after (before (nodes_events ns) ts) n ≡ open_after ts n) →
    open_after (before es ts) n ≡ open_after ts n → open_after (before (within s (nodes_events ns) ++ es) ts) n ≡ open_after ts n
alternative_stays s ns es ts n here more = ap (λ ss. open_after ss n) (before_alternative s (nodes_events ns) es ts) ∙ here (before es ts) ∙ more

mutual
  node_stays : (it : Node) (ts : List Token) (n : ℕ) → open_after (before (node_events it) ts) n ≡ open_after ts n
  node_stays (leaf l) ts n = ap (λ ss. open_after ss n) (before_leaf l _ ts) ∙ leaf_stays l ts n
  node_stays (quantified s min max greedy it) ts n =
      ap (λ ss. open_after ss n) (before_quantified s (node_events it) (quantifier min max greedy) ts) ∙ node_stays it (quantifier min max greedy ∷ ts) n
  node_stays (group s o d more) ts n = ap (λ ss. open_after ss n) (before_group s d o (alternatives_events more) ts) ∙ alternatives_stay more (closer ∷ ts) n

  nodes_stay : (ns : Nodes) (ts : List Token) (n : ℕ) → open_after (before (nodes_events ns) ts) n ≡ open_after ts n
  nodes_stay no_node ts n = refl
  nodes_stay (node it ns) ts n =
      ap (λ ss. open_after ss n) (before-append (node_events it) (nodes_events ns) ts) ∙ node_stays it (before (nodes_events ns) ts) n ∙ nodes_stay ns ts n

  alternatives_stay : (more : Alternatives) (ts : List Token) (n : ℕ) → open_after (before (alternatives_events more) ts) (suc n) ≡ open_after ts (suc n)
  alternatives_stay no_alternative ts n = refl
  alternatives_stay (alternative s ns more) ts n = alternative_stays s ns (barred_events more) ts (suc n) (λ ts. nodes_stay ns ts (suc n)) (barred_stay more ts n)

  barred_stay : (more : Alternatives) (ts : List Token) (n : ℕ) → open_after (before (barred_events more) ts) (suc n) ≡ open_after ts (suc n)
  barred_stay no_alternative ts n = refl
  barred_stay (alternative s ns more) ts n = alternative_stays s ns (barred_events more) ts (suc n) (λ ts. nodes_stay ns ts (suc n)) (barred_stay more ts n)

abbrev tokens_in : Nodes → List Token
tokens_in ns = tokens_of (nodes_events ns)

-- The tokens of an alternative are not those of another and more, of which the first is a bar or a closer.
none_more : (ns ms : Nodes) (ts : List Token) → tokens_in ms ≡ tokens_in ns ++ ts → open_after ts 0 ≡ None → ⊥
none_more ns ms ts h none =
    let own : open_after (tokens_in ms) 0 ≡ Some 0 = ap (λ ss. open_after ss 0) (sym (append-nil (tokens_in ms))) ∙ nodes_stay ms [] 0 in
    let more : open_after (tokens_in ms) 0 ≡ None = ap (λ ss. open_after ss 0) h ∙ nodes_stay ns ts 0 ∙ none in
    let no : Some 0 ≡ None = sym own ∙ more in cc no

module _ (e : Environment) where
  -- A token that begins where an alternative ends is a bar or a closer.
  bar_or_closer : (ts : List Token) (t : Token) (us rest : List CodePoint) → EndsAlternative us → TokenRow e (t ∷ ts) us rest → open_after (t ∷ ts) 0 ≡ None
  bar_or_closer ts t us rest ends row = elim ends [
    | inl ends ↦ elim ends [
      | inl h ↦ absurd (nothing_spelled e t ts rest (subst (λ us. TokenRow e (t ∷ ts) us rest) h row))
      | inr h ↦ first closer 41 h (λ w more s. s) refl
    ]
    | inr h ↦ first bar 124 h (λ w more s. s) refl
  ]
    where
      first : (s : Token) (c : ℕ) → starts c (values us) ≡ true → ((w more : List CodePoint) → values w ≡ c ∷ [] → Spells e s w more) → open_after (s ∷ ts) 0 ≡ None → open_after (t ∷ ts) 0 ≡ None
      first s c h spells none =
          let f = starting_unit c us h in
          let same = (first_token e tt t s row.0 row.1 f.0 f.1 (sym row.2 ∙ f.2) row.3 (spells f.0 f.1 f.3)).0 in
          ap (λ t. open_after (t ∷ ts) 0) same ∙ none

  goes_on : (t s : Nodes) (w more v rest : List CodePoint) → SpellsAlternative e t w more → SpellsAlternative e s v rest → GoesOn e (tokens_in t) more (tokens_in s) rest → (t ≡ s) × (more ≡ rest)
  goes_on t s w more v rest a b i = go i.0 i.1 i.2
    where
      go : (ts : List Token) → tokens_in s ≡ tokens_in t ++ ts → TokenRow e ts more rest → (t ≡ s) × (more ≡ rest)
      go [] h row = (sym a.unspanned ∙ one_alternative e.mode t s a.shape b.shape (sym (h ∙ append-nil (tokens_in t))) ∙ b.unspanned, row)
      go (x ∷ ts) h row = absurd (none_more t s (x ∷ ts) h (bar_or_closer ts x more rest a.ends row))

  -- Two alternatives that one text begins with are one.
  one_alternative_front : (t s : Nodes) (w more v rest : List CodePoint) → w ++ more ≡ v ++ rest → SpellsAlternative e t w more → SpellsAlternative e s v rest → (t ≡ s) × (more ≡ rest)
  one_alternative_front t s w more v rest h a b =
      elim (prefixes e (tokens_in t) (tokens_in s) (w ++ more) more rest a.row (subst (λ us. TokenRow e (tokens_in s) us rest) (sym h) b.row)) [
        | inl i ↦ goes_on t s w more v rest a b i
        | inr i ↦ let r = goes_on s t v rest w more b a i in (sym r.0, sym r.1)
      ]

  pub one_barred : (q : Unit {0}) (t s : Nodes) (w more v rest : List CodePoint) → w ++ more ≡ v ++ rest → SpellsBarred e t w more → SpellsBarred e s v rest → (t ≡ s) × (more ≡ rest)
  one_barred q t s w more v rest h a b =
      let whole : a.bar ∷ (a.text ++ more) ≡ b.bar ∷ (b.text ++ rest) = ap (λ w. w ++ more) (sym a.whole) ∙ h ∙ ap (λ v. v ++ rest) b.whole in
      one_alternative_front t s a.text more b.text rest (cc whole) a.spelled b.spelled

  pub none_at_stop : (us : List CodePoint) → EndsDisjunction us → (t : Nodes) (w rest : List CodePoint) → us ≡ w ++ rest → SpellsBarred e t w rest → ⊥
  none_at_stop us ends t w rest h s =
      let whole : us ≡ s.bar ∷ (s.text ++ rest) = h ∙ ap (λ w. w ++ rest) s.whole in
      elim ends [
        | inl none ↦ let no : [] ≡ s.bar ∷ (s.text ++ rest) = sym none ∙ whole in cc no
        | inr closes ↦
            let first : (s.bar.value == 41) ≡ true = ap (λ us. starts 41 (values us)) (sym whole) ∙ closes in
            let no : 124 ≡ 41 = sym s.bar_is ∙ eqb-true s.bar.value 41 first in
            cc no
      ]

  -- the units that tokens take
  taken_units : (ts : List Token) (us rest : List CodePoint) → TokenRow e ts us rest → (w : List CodePoint) × (us ≡ w ++ rest)
  taken_units [] us rest row = ([], row)
  taken_units (t ∷ ts) us rest row =
      let w = taken_units ts row.1 rest row.4 in
      (row.0 ++ w.0, row.2 ∙ ap (λ us. row.0 ++ us) w.1 ∙ sym (append_assoc row.0 w.0 rest))

  -- An alternative, at the front of its tokens and others.
  spelled_alternative : (ns : Nodes) (us rest : List CodePoint) → AreNodes e.mode ns → TokenRow e (tokens_in ns) us rest → EndsAlternative rest → (w : List CodePoint) × (us ≡ w ++ rest) × SpellsAlternative e (forget_nodes same_kind ns) w rest
  spelled_alternative ns us rest shape row ends =
      let w = taken_units (tokens_in ns) us rest row in (
        w.0,
        w.1,
        record {
          unspanned = forget_nodes_twice same_kind same_kind ns;
          shape = subst (λ A. A) (sym (nodes_shape e.mode ns)) shape;
          row = subst (λ us. TokenRow e (tokens_in (forget_nodes same_kind ns)) us rest) w.1 (subst (λ ts. TokenRow e ts us rest) (sym (nodes_tokens ns)) row);
          ends = ends;
        },
      )

  of_spelled_alternative : (ns t : Nodes) (w rest : List CodePoint) → forget_nodes same_kind ns ≡ t → SpellsAlternative e t w rest → AreNodes e.mode ns × TokenRow e (tokens_in ns) (w ++ rest) rest
  of_spelled_alternative ns t w rest h s = (
    subst (λ A. A) (nodes_shape e.mode ns) (subst (AreNodes e.mode) (sym h) s.shape),
    subst (λ ts. TokenRow e ts (w ++ rest) rest) (ap tokens_in (sym h) ∙ nodes_tokens ns) s.row,
  )

  abbrev barred_at : Unit {0} → Nodes → List CodePoint → List CodePoint → Type 0
  barred_at q = SpellsBarred e

  abbrev after_barred : Unit {0} → Nodes → List CodePoint → Unit {0}
  after_barred q t rest = tt

  abbrev BarredRow : List Nodes → List CodePoint → List CodePoint → Type 0
  BarredRow others us rest = ElementRow barred_at after_barred others tt us tt rest

  alternative_tokens : (s : Span) (ns : Nodes) (es : Events) → tokens_of (within s (nodes_events ns) ++ es) ≡ tokens_in ns ++ tokens_of es
  alternative_tokens s ns es =
      sym (append-nil (tokens_of (within s (nodes_events ns) ++ es))) ∙ before_alternative s (nodes_events ns) es [] ∙ ap (λ ts. tokens_in ns ++ ts) (append-nil (tokens_of es))

  barred_ends : (more : Alternatives) (us rest : List CodePoint) → EndsDisjunction rest → TokenRow e (tokens_of (barred_events more)) us rest → EndsAlternative us
  barred_ends no_alternative us rest ends row = inl (subst EndsDisjunction (sym row) ends)
  barred_ends (alternative s ns more) us rest ends row =
      let u = single row.0 124 row.3 in
      inr (ap (λ us. starts 124 (values us)) (row.2 ∙ ap (λ w. w ++ row.1) u.1) ∙ ap (λ c. starts 124 (c ∷ values row.1)) u.2)

  -- an alternative, and what stands after it in its disjunction
  AlternativeAndRest : Nodes → Alternatives → List CodePoint → List CodePoint → Type 0
  AlternativeAndRest ns more us rest = (w : List CodePoint) × (between : List CodePoint) × (us ≡ w ++ between) × SpellsAlternative e (forget_nodes same_kind ns) w between × TokenRow e (tokens_of (barred_events more)) between rest

  alternative_and_rest : (s : Span) (ns : Nodes) (more : Alternatives) (us rest : List CodePoint) → AreNodes e.mode ns → EndsDisjunction rest →
      TokenRow e (tokens_of (within s (nodes_events ns) ++ barred_events more)) us rest → AlternativeAndRest ns more us rest
  unfolding AlternativeAndRest
  alternative_and_rest s ns more us rest shape ends row =
      let r = token_row_split e (tokens_in ns) (tokens_of (barred_events more)) us rest (subst (λ ts. TokenRow e ts us rest) (alternative_tokens s ns (barred_events more)) row) in
      let x = spelled_alternative ns us r.0 shape r.1 (barred_ends more r.0 rest ends r.2) in
      (x.0, r.0, x.1, x.2, r.2)

  barred_row : (more : Alternatives) (us rest : List CodePoint) → AreAlternatives e.mode more → EndsDisjunction rest → TokenRow e (tokens_of (barred_events more)) us rest →
      (others : List Nodes) × (forget_alternatives same_kind more ≡ disjunction_of others) × BarredRow others us rest
  unfolding AlternativeAndRest
  barred_row no_alternative us rest shape ends row = ([], refl, (refl, row))
  barred_row (alternative s ns more) us rest shape ends row =
      let u = single row.0 124 row.3 in
      let p = alternative_and_rest s ns more row.1 rest shape.0 ends row.4 in
      let r = barred_row more p.1 rest shape.1 ends p.4 in
      let whole : us ≡ (u.0 ∷ p.0) ++ p.1 = row.2 ∙ ap (λ w. w ++ row.1) u.1 ∙ ap (λ us. u.0 ∷ us) p.2 in (
        forget_nodes same_kind ns ∷ r.0,
        ap (λ all. alternative nowhere (forget_nodes same_kind ns) all) r.1,
        (u.0 ∷ p.0, p.1, whole, record { bar = u.0; text = p.0; whole = refl; bar_is = u.2; spelled = p.3 }, r.2),
      )

  abbrev IsDisjunction : Alternatives → List CodePoint → List CodePoint → Type 0
  IsDisjunction all us rest =
      (first : Nodes) × (others : List Nodes) × (w : List CodePoint) × (between : List CodePoint) × (us ≡ w ++ between) × (forget_alternatives same_kind all ≡ disjunction_of (first ∷ others)) ×
      SpellsAlternative e first w between × BarredRow others between rest

  -- A disjunction is a first alternative and a row of others.
  pub disjunction_row : (all : Alternatives) (us rest : List CodePoint) → EndsDisjunction rest → HasAlternatives e.mode all × TokenRow e (tokens_of (alternatives_events all)) us rest → IsDisjunction all us rest
  unfolding AlternativeAndRest
  disjunction_row no_alternative us rest ends h = absurd h.0
  disjunction_row (alternative s ns more) us rest ends h =
      let p = alternative_and_rest s ns more us rest h.0.0 ends h.1 in
      let r = barred_row more p.1 rest h.0.1 ends p.4 in
      (forget_nodes same_kind ns, r.0, p.0, p.1, p.2, ap (λ all. alternative nowhere (forget_nodes same_kind ns) all) r.1, p.3, r.2)

  -- tokens of an alternative and of what stands after it
  tokens_together : (s : Span) (ns t : Nodes) (more : Alternatives) (w between rest : List CodePoint) → forget_nodes same_kind ns ≡ t → SpellsAlternative e t w between →
      AreAlternatives e.mode more × TokenRow e (tokens_of (barred_events more)) between rest →
      (AreNodes e.mode ns × AreAlternatives e.mode more) × TokenRow e (tokens_of (within s (nodes_events ns) ++ barred_events more)) (w ++ between) rest
  tokens_together s ns t more w between rest h spelled after =
      let x = of_spelled_alternative ns t w between h spelled in
      let row = token_row_append e (tokens_in ns) (tokens_of (barred_events more)) (w ++ between) between rest x.1 after.1 in
      ((x.0, after.0), subst (λ ts. TokenRow e ts (w ++ between) rest) (sym (alternative_tokens s ns (barred_events more))) row)

  of_barred : (others : List Nodes) (more : Alternatives) (us rest : List CodePoint) → forget_alternatives same_kind more ≡ disjunction_of others → BarredRow others us rest →
      AreAlternatives e.mode more × TokenRow e (tokens_of (barred_events more)) us rest
  of_barred [] no_alternative us rest h row = (tt, row.1)
  of_barred [] (alternative s ns more) us rest h row = absurd (let no : ⊥ = cc h in no)
  of_barred (t ∷ others) no_alternative us rest h row = absurd (let no : ⊥ = cc h in no)
  of_barred (t ∷ others) (alternative s ns more) us rest h row =
      let b = row.3 in
      let same : forget_nodes same_kind ns ≡ t = cc h in
      let back : forget_alternatives same_kind more ≡ disjunction_of others = cc h in
      let r = tokens_together s ns t more b.text row.1 rest same b.spelled (of_barred others more row.1 rest back row.4) in
      (r.0, (b.bar ∷ [], b.text ++ row.1, row.2 ∙ ap (λ w. w ++ row.1) b.whole, ap (λ c. c ∷ []) b.bar_is, r.1))

  pub of_disjunction : (all : Alternatives) (us rest : List CodePoint) → IsDisjunction all us rest → HasAlternatives e.mode all × TokenRow e (tokens_of (alternatives_events all)) us rest
  of_disjunction no_alternative us rest d = absurd (let no : ⊥ = cc d.5 in no)
  of_disjunction (alternative s ns more) us rest d =
      let same : forget_nodes same_kind ns ≡ d.0 = cc d.5 in
      let back : forget_alternatives same_kind more ≡ disjunction_of d.1 = cc d.5 in
      let r = tokens_together s ns d.0 more d.2 d.3 rest same d.6 (of_barred d.1 more d.3 rest back d.7) in
      (r.0, subst (λ us. TokenRow e (tokens_of (within s (nodes_events ns) ++ barred_events more)) us rest) (sym d.4) r.1)

module _ (mode : Mode) (rules : Rules) (p : Pattern) (us : List CodePoint) where
  pattern_tokens : tokens p ≡ tokens_of (alternatives_events (mirror_disjunction p.body).1)
  pattern_tokens = tokens_are p ∙ append-nil (tokens_of (alternatives_events (mirror_disjunction p.body).1))

  pub pattern_row : IsSpelled mode rules p us → IsDisjunction (environment mode rules p) (mirror_disjunction p.body).1 us []
  pattern_row s =
      disjunction_row (environment mode rules p) (mirror_disjunction p.body).1 us [] (inl refl) (s.shape, subst (λ ts. TokenRow (environment mode rules p) ts us []) pattern_tokens s.row)

  pub of_pattern_row : IsDisjunction (environment mode rules p) (mirror_disjunction p.body).1 us [] → IsSpelled mode rules p us
  of_pattern_row d =
      let h = of_disjunction (environment mode rules p) (mirror_disjunction p.body).1 us [] d in
      record { shape = h.0; row = subst (λ ts. TokenRow (environment mode rules p) ts us []) (sym pattern_tokens) h.1 }
