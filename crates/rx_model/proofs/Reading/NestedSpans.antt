-- A tree that is spanned over offsets that do not fall is nested.
use Rattle.std.proofs.Common.{◌≡◌, refl, ap, sym, ◌∙◌, subst, ℕ, ◌+◌, ◌≤◌, arith, Option, Some, None, List, [], ◌∷◌, ◌++◌, length}
use Rattle.std.proofs.lemmas.List.{length-append, length-map}
use Rattle.rx_base.specs.declared.span.Span.{Span}
use Rattle.rx_ast.specs.declared.leaf.Modifiers.{Modifiers}
use Rattle.rx_ast.specs.declared.leaf.Character.{Character}
use Rattle.rx_ast.specs.declared.class.CharacterClassContentsKind.{CharacterClassContentsKind}
use Rattle.rx_ast.specs.declared.class.CharacterClassContentsKind.TheVariants.{Union, Intersection, Subtraction}
use Rattle.rx_ast.specs.declared.class.ClassString.{ClassString}
use Rattle.rx_ast.specs.Tree.{mirror}
use Rattle.rx_ast.specs.declared.term.Pattern.{Pattern}
use Rattle.rx_units.specs.Units.{offset_at}
use Rattle.rx_model.specs.declared.mode.Mode.{Mode}
use Rattle.rx_model.specs.declared.rules.Rules.{Rules}
use Rattle.rx_model.specs.Inputs.Environment.{environment}
use Rattle.rx_model.specs.Trees.Events.{disjunction_events}
use Rattle.rx_model.specs.Reading.Reading.{IsSpanned}
use Rattle.rx_ast.specs.ClassTree as in_class
use Rattle.rx_ast.specs.ClassTree.{Member, Members, Class, no_member, member}
use Rattle.rx_ast.specs.Tree as ast
use Rattle.rx_ast.specs.Tree.{Leaf, Node, Nodes, Alternatives, Whole, leaf, quantified, group, no_node, node, no_alternative}
use Rattle.rx_units.specs.declared.code_point.CodePoint.{CodePoint}
use Rattle.rx_model.specs.Inputs.Environment.{Environment, for_classes}
use Rattle.rx_model.specs.Trees.Events as event
use Rattle.rx_model.specs.Trees.Events.{Events, within, opener_event, node_events, nodes_events, alternatives_events, barred_events}
use Rattle.rx_model.specs.Classes.ClassTokens as of_class
use Rattle.rx_model.specs.Classes.ClassTokens.{ClassEvents, letters_events, string_events, barred_strings_events, strings_events, operator_events, member_events, class_events, members_events, more_members_events}
use Rattle.rx_model.specs.Classes.ClassRows.{ClassRow, Place}
use Rattle.rx_model.specs.Trees.Token as of_token
use Rattle.rx_model.specs.Reading.Rows.{Row}
use Rattle.rx_ast.specs.Forest.{Forest, nothing, tree, IsNested}
use Rattle.rx_ast.specs.Parts.{part_span, characters_forest, strings_forest, member_forest, members_forest, class_forest, leaf_forest, modifiers_forest, node_forest, nodes_forest, alternatives_forest, forest, IsNestedPattern}

-- where nodes begin and end in a class, before other offsets; and in a pattern
abbrev class_offsets : ClassEvents → List ℕ → List ℕ
class_offsets [] xs = xs
class_offsets ((of_class.enter n) ∷ es) xs = n ∷ class_offsets es xs
class_offsets ((of_class.leave n) ∷ es) xs = n ∷ class_offsets es xs
class_offsets ((of_class.token t) ∷ es) xs = class_offsets es xs

abbrev offsets : Events → List ℕ → List ℕ
offsets [] xs = xs
offsets ((event.enter n) ∷ es) xs = n ∷ offsets es xs
offsets ((event.leave n) ∷ es) xs = n ∷ offsets es xs
offsets ((event.token t) ∷ es) xs = offsets es xs
offsets ((event.inside c) ∷ es) xs = class_offsets (class_events c) (offsets es xs)
offsets ((event.modified m) ∷ es) xs = m.span.start ∷ m.span.end ∷ offsets es xs

abbrev Rise : ℕ → List ℕ → ℕ → Type 0
Rise low [] high = low ≤ high
Rise low (x ∷ xs) high = (low ≤ x) × Rise x xs high

lower : (xs : List ℕ) (low mid high : ℕ) → low ≤ mid → Rise mid xs high → Rise low xs high
lower [] low mid high le r = omega (arith, r)
lower (x ∷ xs) low mid high le r = let a = r.0 in (omega arith, r.1)

class_both : (es fs : ClassEvents) (xs : List ℕ) → class_offsets (es ++ fs) xs ≡ class_offsets es (class_offsets fs xs)
class_both [] fs xs = refl
class_both ((of_class.enter n) ∷ es) fs xs = ap (λ ys. n ∷ ys) (class_both es fs xs)
class_both ((of_class.leave n) ∷ es) fs xs = ap (λ ys. n ∷ ys) (class_both es fs xs)
class_both ((of_class.token t) ∷ es) fs xs = class_both es fs xs

both : (es fs : Events) (xs : List ℕ) → offsets (es ++ fs) xs ≡ offsets es (offsets fs xs)
both [] fs xs = refl
both ((event.enter n) ∷ es) fs xs = ap (λ ys. n ∷ ys) (both es fs xs)
both ((event.leave n) ∷ es) fs xs = ap (λ ys. n ∷ ys) (both es fs xs)
both ((event.token t) ∷ es) fs xs = both es fs xs
both ((event.inside c) ∷ es) fs xs = ap (class_offsets (class_events c)) (both es fs xs)
both ((event.modified m) ∷ es) fs xs = ap (λ ys. m.span.start ∷ m.span.end ∷ ys) (both es fs xs)

-- offsets that rise over some events rise over them and others
module _ (o : ℕ → ℕ) (rising : (i j : ℕ) → i ≤ j → o i ≤ o j) where
  class_rises : (e : Environment) (es : ClassEvents) (q r : Place) (i j high : ℕ) (us rest : List CodePoint) (xs : List ℕ) → ClassRow e o es q i us r j rest → Rise (o j) xs high → Rise (o i) (class_offsets es xs) high
  class_rises e [] q r i j high us rest xs row more = subst (λ k. Rise (o k) xs high) (sym row.1) more
  class_rises e ((of_class.enter n) ∷ es) q r i j high us rest xs row more =
      let here = row.0 in (omega arith, subst (λ k. Rise k (class_offsets es xs) high) (sym row.0) (class_rises e es q r i j high us rest xs row.1 more))
  class_rises e ((of_class.leave n) ∷ es) q r i j high us rest xs row more =
      let here = row.0 in (omega arith, subst (λ k. Rise k (class_offsets es xs) high) (sym row.0) (class_rises e es q r i j high us rest xs row.1 more))
  class_rises e ((of_class.token t) ∷ es) q r i j high us rest xs row more =
      lower (class_offsets es xs) _ _ high (rising i (i + length row.0) (omega arith)) (class_rises e es _ r (i + length row.0) j high row.1 rest xs row.4 more)

  pub rises : (e : Environment) (es : Events) (i j high : ℕ) (us rest : List CodePoint) (xs : List ℕ) → Row e o es i us j rest → Rise (o j) xs high → Rise (o i) (offsets es xs) high
  rises e [] i j high us rest xs row more = subst (λ k. Rise (o k) xs high) (sym row.0) more
  rises e ((event.enter n) ∷ es) i j high us rest xs row more =
      let here = row.0 in (omega arith, subst (λ k. Rise k (offsets es xs) high) (sym row.0) (rises e es i j high us rest xs row.1 more))
  rises e ((event.leave n) ∷ es) i j high us rest xs row more =
      let here = row.0 in (omega arith, subst (λ k. Rise k (offsets es xs) high) (sym row.0) (rises e es i j high us rest xs row.1 more))
  rises e ((event.token t) ∷ es) i j high us rest xs row more =
      lower (offsets es xs) _ _ high (rising i (i + length row.0) (omega arith)) (rises e es (i + length row.0) j high row.1 rest xs row.4 more)
  rises e ((event.inside c) ∷ es) i j high us rest xs row more =
      class_rises (for_classes e) (class_events c) _ _ i (i + length row.0) high _ _ (offsets es xs) row.3.row (rises e es (i + length row.0) j high row.1 rest xs row.4 more)
  rises e ((event.modified m) ∷ es) i j high us rest xs row more =
      let span = row.3 in
      let a = rising i (i + 2) (omega arith) in
      let b = rising (i + 2) (i + 2 + length span.modified.text) (omega arith) in
      let start = span.start in
      let end = span.end in
      let text = span.modified.text in
      let whole = ap length span.modified.whole in
      let same = length-map row.0 (λ (u : CodePoint). u.value) in
      let parts = length-append text (58 ∷ []) in
      let within : i + 2 + length text ≤ i + length row.0 = omega arith in
      let c = rising (i + 2 + length text) (i + length row.0) within in
      (omega arith, (omega arith, lower (offsets es xs) m.span.end (o (i + length row.0)) high (omega arith) (rises e es (i + length row.0) j high row.1 rest xs row.4 more)))

-- nested, with spans as labels
abbrev IsIn : ℕ → ℕ → Forest Span → Type 0
IsIn low high f = IsNested (λ (s : Span). s) low high f

-- A node, and whatever is after it, is nested from `low` on; the offsets after it rise from `mid` on. The same of a forest that ends.
record Over (low : ℕ) (xs : List ℕ) (high : ℕ) (f : Forest Span → Forest Span) : Type 0 where
  mid : ℕ
  rest : Rise mid xs high
  nests : (after : Forest Span) (end : ℕ) → IsIn mid end after → IsIn low end (f after)

record Closed (low : ℕ) (xs : List ℕ) (high : ℕ) (f : Forest Span) : Type 0 where
  mid : ℕ
  rest : Rise mid xs high
  nests : (end : ℕ) → mid ≤ end → IsIn low end f

empty : {low high : ℕ} {xs : List ℕ} → Rise low xs high → Closed low xs high nothing
empty {low} r = record { mid = low; rest = r; nests = λ end le. le }

chain : {low high : ℕ} {xs ys : List ℕ} {f : Forest Span → Forest Span} {g : Forest Span} (o : Over low ys high f) → Closed o.mid xs high g → Closed low xs high (f g)
chain o c = record { mid = c.mid; rest = c.rest; nests = λ end le. o.nests _ end (c.nests end le) }

wrap : {low high : ℕ} {xs : List ℕ} {inner : Forest Span} (s : Span) → low ≤ s.start → Closed s.start (s.end ∷ xs) high inner → Over low xs high (tree s inner)
wrap s le c = record { mid = s.end; rest = c.rest.1; nests = λ after end b. (le, c.nests s.end c.rest.0, b) }

bare : {low high : ℕ} {xs : List ℕ} (s : Span) → Rise low (s.start ∷ s.end ∷ xs) high → Over low xs high (tree s nothing)
bare s r = wrap s r.0 (empty r.1)

class_within : {low high : ℕ} {xs : List ℕ} {inner : Forest Span} (s : Span) (es : ClassEvents) → Rise low (class_offsets (of_class.within s es) xs) high →
    ((l : ℕ) → Rise l (class_offsets es (s.end ∷ xs)) high → Closed l (s.end ∷ xs) high inner) → Over low xs high (tree s inner)
class_within {low} {high} {xs} s es r within =
    wrap s r.0 (within s.start (subst (λ ys. Rise s.start ys high) (class_both es (of_class.leave s.end ∷ []) xs) r.1))

node_within : {low high : ℕ} {xs : List ℕ} {inner : Forest Span} (s : Span) (es : Events) → Rise low (offsets (within s es) xs) high →
    ((l : ℕ) → Rise l (offsets es (s.end ∷ xs)) high → Closed l (s.end ∷ xs) high inner) → Over low xs high (tree s inner)
node_within {low} {high} {xs} s es r within =
    wrap s r.0 (within s.start (subst (λ ys. Rise s.start ys high) (both es (event.leave s.end ∷ []) xs) r.1))

letters : (cs : List Character) (low high : ℕ) (xs : List ℕ) → Rise low (class_offsets (letters_events cs) xs) high → Closed low xs high (characters_forest part_span cs)
letters [] low high xs r = empty r
letters (c ∷ cs) low high xs r = let o = bare c.span r in chain o (letters cs o.mid high xs o.rest)

string : (s : ClassString) (low high : ℕ) (xs : List ℕ) → Rise low (class_offsets (string_events s) xs) high → Over low xs high (tree s.span (characters_forest part_span s.body))
string s low high xs r = class_within s.span (letters_events s.body) r (λ l t. letters s.body l high _ t)

barred_strings : (ss : List ClassString) (low high : ℕ) (xs : List ℕ) → Rise low (class_offsets (barred_strings_events ss) xs) high → Closed low xs high (strings_forest part_span ss)
barred_strings [] low high xs r = empty r
barred_strings (s ∷ ss) low high xs r =
    let o = string s low high _ (subst (λ ys. Rise low ys high) (class_both (string_events s) (barred_strings_events ss) xs) r) in
    chain o (barred_strings ss o.mid high xs o.rest)

strings : (ss : List ClassString) (low high : ℕ) (xs : List ℕ) → Rise low (class_offsets (strings_events ss) xs) high → Closed low xs high (strings_forest part_span ss)
strings [] low high xs r = empty r
strings (s ∷ ss) low high xs r =
    let o = string s low high _ (subst (λ ys. Rise low ys high) (class_both (string_events s) (barred_strings_events ss) xs) r) in
    chain o (barred_strings ss o.mid high xs o.rest)

no_offsets : (k : CharacterClassContentsKind) (es : ClassEvents) (xs : List ℕ) → class_offsets (operator_events k ++ es) xs ≡ class_offsets es xs
no_offsets Union es xs = refl
no_offsets Intersection es xs = refl
no_offsets Subtraction es xs = refl

mutual
  of_member : (m : Member) (low high : ℕ) (xs : List ℕ) → Rise low (class_offsets (member_events m) xs) high → Over low xs high (member_forest part_span m)
  of_member (in_class.range r) low high xs t =
      class_within r.span (of_class.range_events r) t (λ l u. let a = bare {xs = r.max.span.start ∷ r.max.span.end ∷ r.span.end ∷ xs} r.min.span u in let b = bare {xs = r.span.end ∷ xs} r.max.span a.rest in chain a (chain b (empty b.rest)))
  of_member (in_class.escape e) low high xs t = bare e.span t
  of_member (in_class.property p) low high xs t = bare p.span t
  of_member (in_class.character c) low high xs t = bare c.span t
  of_member (in_class.nested c) low high xs t = of_class_tree c low high xs t
  of_member (in_class.strings d) low high xs t =
      class_within d.span (of_class.token of_class.strings ∷ (strings_events d.body ++ (of_class.token of_class.strings_end ∷ []))) t
      (λ l u. strings d.body l high _ (subst (λ ys. Rise l ys high) (class_both (strings_events d.body) (of_class.token of_class.strings_end ∷ []) (d.span.end ∷ xs)) u))

  of_class_tree : (c : Class) (low high : ℕ) (xs : List ℕ) → Rise low (class_offsets (class_events c) xs) high → Over low xs high (class_forest part_span c)
  of_class_tree (in_class.class s negative may kind ms) low high xs t =
      class_within s (of_class.token (of_class.bracket negative) ∷ (members_events (operator_events kind) ms ++ (of_class.token of_class.closer ∷ []))) t
      (λ l u. of_members kind ms l high _ (subst (λ ys. Rise l ys high) (class_both (members_events (operator_events kind) ms) (of_class.token of_class.closer ∷ []) (s.end ∷ xs)) u))

  of_members : (kind : CharacterClassContentsKind) (ms : Members) (low high : ℕ) (xs : List ℕ) → Rise low (class_offsets (members_events (operator_events kind) ms) xs) high → Closed low xs high (members_forest part_span ms)
  of_members kind no_member low high xs t = empty t
  of_members kind (member m ms) low high xs t =
      let o = of_member m low high _ (subst (λ ys. Rise low ys high) (class_both (member_events m) (more_members_events (operator_events kind) ms) xs) t) in
      chain o (of_more kind ms o.mid high xs o.rest)

  of_more : (kind : CharacterClassContentsKind) (ms : Members) (low high : ℕ) (xs : List ℕ) → Rise low (class_offsets (more_members_events (operator_events kind) ms) xs) high → Closed low xs high (members_forest part_span ms)
  of_more kind no_member low high xs t = empty t
  of_more kind (member m ms) low high xs t =
      let o = of_member m low high _ (subst (λ ys. Rise low ys high) (no_offsets kind (member_events m ++ more_members_events (operator_events kind) ms) xs ∙ class_both (member_events m) (more_members_events (operator_events kind) ms) xs) t) in
      chain o (of_more kind ms o.mid high xs o.rest)

of_leaf : (l : Leaf) (low high : ℕ) (xs : List ℕ) → Rise low (offsets (node_events (leaf l)) xs) high → Over low xs high (leaf_forest part_span l)
of_leaf (ast.boundary b) low high xs t = bare b.span t
of_leaf (ast.character c) low high xs t = bare c.span t
of_leaf (ast.dot d) low high xs t = bare d.span t
of_leaf (ast.class_escape e) low high xs t = bare e.span t
of_leaf (ast.property p) low high xs t = bare p.span t
of_leaf (ast.class (in_class.class s negative may kind ms)) low high xs t =
    let o = of_class_tree (in_class.class s negative may kind ms) s.start high (s.end ∷ xs) t.1 in
    record { mid = s.end; rest = o.rest.1; nests = λ after end b. let n = o.nests nothing o.mid (omega arith) in (t.0, n.1, b) }
of_leaf (ast.indexed r) low high xs t = bare r.span t
of_leaf (ast.named r) low high xs t = bare r.span t

of_body : (d : Span) (more : Alternatives) (l high : ℕ) (xs : List ℕ) → ((m : ℕ) → Rise m (offsets (alternatives_events more) (d.end ∷ xs)) high → Closed m (d.end ∷ xs) high (alternatives_forest part_span more)) →
    Rise l (offsets (within d (alternatives_events more) ++ (event.token of_token.closer ∷ [])) xs) high → Closed l xs high (tree d (alternatives_forest part_span more) nothing)
of_body d more l high xs alts u =
    let o = node_within d (alternatives_events more) (subst (λ ys. Rise l ys high) (both (within d (alternatives_events more)) (event.token of_token.closer ∷ []) xs) u) alts in
    chain o (empty o.rest)

of_modified : (m : Option Modifiers) (d : Span) (more : Alternatives) (l high : ℕ) (xs : List ℕ) → ((m : ℕ) → Rise m (offsets (alternatives_events more) (d.end ∷ xs)) high → Closed m (d.end ∷ xs) high (alternatives_forest part_span more)) →
    Rise l (offsets (opener_event (ast.ignoring m) ∷ (within d (alternatives_events more) ++ (event.token of_token.closer ∷ []))) xs) high →
    Closed l xs high (modifiers_forest part_span m (tree d (alternatives_forest part_span more) nothing))
of_modified None d more l high xs alts u = of_body d more l high xs alts u
of_modified (Some m) d more l high xs alts u =
    let o = bare {xs = offsets (within d (alternatives_events more) ++ (event.token of_token.closer ∷ [])) xs} m.span u in
    chain o (of_body d more o.mid high xs alts o.rest)

mutual
  of_node : (n : Node) (low high : ℕ) (xs : List ℕ) → Rise low (offsets (node_events n) xs) high → Over low xs high (node_forest part_span n)
  of_node (leaf l) low high xs t = of_leaf l low high xs t
  of_node (quantified s min max greedy n) low high xs t =
      node_within s (node_events n ++ (event.token (of_token.quantifier min max greedy) ∷ [])) t
      (λ l u. let o = of_node n l high _ (subst (λ ys. Rise l ys high) (both (node_events n) (event.token (of_token.quantifier min max greedy) ∷ []) (s.end ∷ xs)) u) in chain o (empty o.rest))
  of_node (group s (ast.capturing name) d more) low high xs t =
      node_within s (opener_event (ast.capturing name) ∷ (within d (alternatives_events more) ++ (event.token of_token.closer ∷ []))) t (λ l u. of_body d more l high (s.end ∷ xs) (λ m v. of_alternatives more m high _ v) u)
  of_node (group s (ast.ignoring modifiers) d more) low high xs t =
      node_within s (opener_event (ast.ignoring modifiers) ∷ (within d (alternatives_events more) ++ (event.token of_token.closer ∷ []))) t (λ l u. of_modified modifiers d more l high (s.end ∷ xs) (λ m v. of_alternatives more m high _ v) u)
  of_node (group s (ast.looking kind) d more) low high xs t =
      node_within s (opener_event (ast.looking kind) ∷ (within d (alternatives_events more) ++ (event.token of_token.closer ∷ []))) t (λ l u. of_body d more l high (s.end ∷ xs) (λ m v. of_alternatives more m high _ v) u)

  of_nodes : (ns : Nodes) (low high : ℕ) (xs : List ℕ) → Rise low (offsets (nodes_events ns) xs) high → Closed low xs high (nodes_forest part_span ns)
  of_nodes no_node low high xs t = empty t
  of_nodes (node n ns) low high xs t =
      let o = of_node n low high _ (subst (λ ys. Rise low ys high) (both (node_events n) (nodes_events ns) xs) t) in
      chain o (of_nodes ns o.mid high xs o.rest)

  of_alternatives : (more : Alternatives) (low high : ℕ) (xs : List ℕ) → Rise low (offsets (alternatives_events more) xs) high → Closed low xs high (alternatives_forest part_span more)
  of_alternatives no_alternative low high xs t = empty t
  of_alternatives (ast.alternative s ns more) low high xs t =
      let o = node_within s (nodes_events ns) (subst (λ ys. Rise low ys high) (both (within s (nodes_events ns)) (barred_events more) xs) t) (λ m v. of_nodes ns m high _ v) in
      chain o (of_barred more o.mid high xs o.rest)

  of_barred : (more : Alternatives) (low high : ℕ) (xs : List ℕ) → Rise low (offsets (barred_events more) xs) high → Closed low xs high (alternatives_forest part_span more)
  of_barred no_alternative low high xs t = empty t
  of_barred (ast.alternative s ns more) low high xs t =
      let o = node_within s (nodes_events ns) (subst (λ ys. Rise low ys high) (both (within s (nodes_events ns)) (barred_events more) xs) t) (λ m v. of_nodes ns m high _ v) in
      chain o (of_barred more o.mid high xs o.rest)

-- The law: a pattern that is spanned over offsets that do not fall is nested.
pub spanned_nested : (e : Environment) (o : ℕ → ℕ) (p : Whole) (i j : ℕ) (us rest : List CodePoint) → ((i j : ℕ) → i ≤ j → o i ≤ o j) →
    Row e o (within p.0 (within p.1.0 (alternatives_events p.1.1))) i us j rest → IsNestedPattern p
unfolding forest
spanned_nested e o p i j us rest rising row =
    let r = rises o rising e (within p.0 (within p.1.0 (alternatives_events p.1.1))) i j (o j) us rest [] row (omega arith) in
    let all = node_within p.0 (within p.1.0 (alternatives_events p.1.1)) r (λ l u.
    let d = node_within p.1.0 (alternatives_events p.1.1) u (λ m v. of_alternatives p.1.1 m (o j) _ v) in chain d (empty d.rest)) in
    (all.nests nothing all.mid (omega arith)).1

-- The same of the model's words.
pub spanned_is_nested : (mode : Mode) (rules : Rules) (p : Pattern) (us : List CodePoint) (first added : ℕ) → ((i j : ℕ) → i ≤ j → offset_at first us i ≤ offset_at first us j) → IsSpanned mode rules p us first added → IsNestedPattern (mirror p)
unfolding disjunction_events
spanned_is_nested mode rules p us first added rising row =
    spanned_nested (environment mode rules p) (λ place. offset_at first us place + added) (mirror p) 0 (length us) us [] (λ i j le. let r = rising i j le in omega arith) row
