-- In a tree that is spanned over offsets that do not fall, patterns and alternatives own nothing themselves.
use Rattle.std.proofs.Common.{◌≡◌, refl, ap, sym, subst, ℕ, ◌+◌, ◌≤◌, arith, Option, Some, None, List, [], ◌∷◌, ◌++◌, length}
use Rattle.rx_ast.specs.declared.leaf.CharacterKind.{CharacterKind}
use Rattle.rx_ast.specs.declared.leaf.CharacterKind.TheVariants.{Symbol}
use Rattle.rx_paint.specs.declared.token.Token.{Token}
use Rattle.rx_base.specs.declared.span.Span.{Span}
use Rattle.rx_ast.specs.declared.leaf.Modifiers.{Modifiers}
use Rattle.rx_ast.specs.declared.leaf.Character.{Character}
use Rattle.rx_ast.specs.declared.class.CharacterClassContentsKind.{CharacterClassContentsKind}
use Rattle.rx_ast.specs.declared.class.CharacterClassContentsKind.TheVariants.{Union, Intersection, Subtraction}
use Rattle.rx_ast.specs.declared.class.ClassString.{ClassString}
use Rattle.rx_ast.specs.ClassTree as in_class
use Rattle.rx_ast.specs.ClassTree.{Member, Members, Class, no_member, member}
use Rattle.rx_ast.specs.Tree as ast
use Rattle.rx_ast.specs.Tree.{Leaf, Node, Nodes, Alternatives, Whole, leaf, quantified, group, no_node, node, no_alternative}
use Rattle.rx_units.specs.declared.code_point.CodePoint.{CodePoint}
use Rattle.rx_model.specs.Inputs.Environment.{Environment, for_classes}
use Rattle.rx_model.specs.Trees.Events as event
use Rattle.rx_model.specs.Trees.Events.{Events, within, opener_event, node_events, nodes_events, alternatives_events, barred_events}
use Rattle.rx_model.specs.Classes.ClassTokens as of_class
use Rattle.rx_model.specs.Classes.ClassTokens.{ClassEvents, letters_events, string_events, barred_strings_events, strings_events, operator_events, member_events, class_events, members_events, more_members_events}
use Rattle.rx_model.specs.Classes.ClassRows.{ClassRow, Place}
use Rattle.rx_model.specs.Trees.Token as of_token
use Rattle.rx_model.specs.Reading.Rows.{Row}
use Rattle.rx_model.proofs.Reading.NestedSpans.{rises}
use Rattle.rx_paint.specs.declared.token.Kind.{Kind}
use Rattle.rx_paint.specs.declared.token.Kind.TheVariants as paints
use Rattle.rx_ast.specs.Forest.{Forest, nothing, tree}
use Rattle.rx_ast.specs.Parts.{characters_forest, strings_forest, member_forest, members_forest, class_forest, leaf_forest, modifiers_forest, node_forest, nodes_forest, alternatives_forest, forest, in_pattern}
use Rattle.rx_paint.specs.Paints.{token_of, character_paint, part_token, root_token}
use Rattle.rx_paint.specs.Edges.{IsFilled}

-- A text is units, each a gap, and between them places where nodes begin and end.
data Item : Type 0 where
  gap : Item
  at : ℕ → Item

abbrev class_items : ClassEvents → List Item → List Item
class_items [] xs = xs
class_items ((of_class.enter n) ∷ es) xs = at n ∷ class_items es xs
class_items ((of_class.leave n) ∷ es) xs = at n ∷ class_items es xs
class_items ((of_class.token t) ∷ es) xs = gap ∷ class_items es xs

abbrev items : Events → List Item → List Item
items [] xs = xs
items ((event.enter n) ∷ es) xs = at n ∷ items es xs
items ((event.leave n) ∷ es) xs = at n ∷ items es xs
items ((event.token t) ∷ es) xs = gap ∷ items es xs
items ((event.inside c) ∷ es) xs = class_items (class_events c) (items es xs)
items ((event.modified m) ∷ es) xs = gap ∷ at m.span.start ∷ gap ∷ at m.span.end ∷ gap ∷ items es xs

abbrev Leads : ℕ → List Item → ℕ → Type 0
Leads low [] high = low ≡ high
Leads low (gap ∷ xs) high = (mid : ℕ) × (low ≤ mid) × Leads mid xs high
Leads low ((at n) ∷ xs) high = (low ≡ n) × Leads n xs high

class_both : (es fs : ClassEvents) (xs : List Item) → class_items (es ++ fs) xs ≡ class_items es (class_items fs xs)
class_both [] fs xs = refl
class_both ((of_class.enter n) ∷ es) fs xs = ap (λ ys. at n ∷ ys) (class_both es fs xs)
class_both ((of_class.leave n) ∷ es) fs xs = ap (λ ys. at n ∷ ys) (class_both es fs xs)
class_both ((of_class.token t) ∷ es) fs xs = ap (λ ys. gap ∷ ys) (class_both es fs xs)

both : (es fs : Events) (xs : List Item) → items (es ++ fs) xs ≡ items es (items fs xs)
both [] fs xs = refl
both ((event.enter n) ∷ es) fs xs = ap (λ ys. at n ∷ ys) (both es fs xs)
both ((event.leave n) ∷ es) fs xs = ap (λ ys. at n ∷ ys) (both es fs xs)
both ((event.token t) ∷ es) fs xs = ap (λ ys. gap ∷ ys) (both es fs xs)
both ((event.inside c) ∷ es) fs xs = ap (class_items (class_events c)) (both es fs xs)
both ((event.modified m) ∷ es) fs xs = ap (λ ys. gap ∷ at m.span.start ∷ gap ∷ at m.span.end ∷ gap ∷ ys) (both es fs xs)

module _ (o : ℕ → ℕ) (rising : (i j : ℕ) → i ≤ j → o i ≤ o j) where
  class_leads : (e : Environment) (es : ClassEvents) (q r : Place) (i j high : ℕ) (us rest : List CodePoint) (xs : List Item) → ClassRow e o es q i us r j rest → Leads (o j) xs high → Leads (o i) (class_items es xs) high
  class_leads e [] q r i j high us rest xs row more = subst (λ k. Leads (o k) xs high) (sym row.1) more
  class_leads e ((of_class.enter n) ∷ es) q r i j high us rest xs row more = (sym row.0, subst (λ k. Leads k (class_items es xs) high) (sym row.0) (class_leads e es q r i j high us rest xs row.1 more))
  class_leads e ((of_class.leave n) ∷ es) q r i j high us rest xs row more = (sym row.0, subst (λ k. Leads k (class_items es xs) high) (sym row.0) (class_leads e es q r i j high us rest xs row.1 more))
  class_leads e ((of_class.token t) ∷ es) q r i j high us rest xs row more =
      (o (i + length row.0), rising i (i + length row.0) (omega arith), class_leads e es _ r (i + length row.0) j high row.1 rest xs row.4 more)

  leads : (e : Environment) (es : Events) (i j high : ℕ) (us rest : List CodePoint) (xs : List Item) → Row e o es i us j rest → Leads (o j) xs high → Leads (o i) (items es xs) high
  leads e [] i j high us rest xs row more = subst (λ k. Leads (o k) xs high) (sym row.0) more
  leads e ((event.enter n) ∷ es) i j high us rest xs row more = (sym row.0, subst (λ k. Leads k (items es xs) high) (sym row.0) (leads e es i j high us rest xs row.1 more))
  leads e ((event.leave n) ∷ es) i j high us rest xs row more = (sym row.0, subst (λ k. Leads k (items es xs) high) (sym row.0) (leads e es i j high us rest xs row.1 more))
  leads e ((event.token t) ∷ es) i j high us rest xs row more =
      (o (i + length row.0), rising i (i + length row.0) (omega arith), leads e es (i + length row.0) j high row.1 rest xs row.4 more)
  leads e ((event.inside c) ∷ es) i j high us rest xs row more =
      class_leads (for_classes e) (class_events c) _ _ i (i + length row.0) high _ _ (items es xs) row.3.row (leads e es (i + length row.0) j high row.1 rest xs row.4 more)
  leads e ((event.modified m) ∷ es) i j high us rest xs row more =
      let own : Row e o ((event.modified m) ∷ []) i us (i + length row.0) row.1 = (row.0, row.1, row.2, row.3, (refl, refl)) in
      let here = rises o rising e ((event.modified m) ∷ []) i (i + length row.0) (o (i + length row.0)) us row.1 [] own (omega arith) in
      (m.span.start, here.0, (refl, (m.span.end, here.1.0, (refl, (o (i + length row.0), here.1.1, leads e es (i + length row.0) j high row.1 rest xs row.4 more)))))

abbrev pub NotOther : Kind → Type 0
NotOther k = k ≡ paints.Other → ⊥

record Over (low : ℕ) (xs : List Item) (high : ℕ) (f : Forest Token → Forest Token) : Type 0 where
  mid : ℕ
  rest : Leads mid xs high
  fills : (own : Token) (after : Forest Token) (end : ℕ) → IsFilled own mid end after → IsFilled own low end (f after)

record Closed (own : Token) (low : ℕ) (xs : List Item) (high : ℕ) (f : Forest Token) : Type 0 where
  mid : ℕ
  rest : Leads mid xs high
  fills : (end : ℕ) → (own.kind ≡ paints.Other → mid ≡ end) → IsFilled own low end f

empty : {own : Token} {low high : ℕ} {xs : List Item} → Leads low xs high → Closed own low xs high nothing
empty {own} {low} r = record { mid = low; rest = r; fills = λ end same. same }

chain : {own : Token} {low high : ℕ} {xs ys : List Item} {f : Forest Token → Forest Token} {g : Forest Token} (o : Over low ys high f) → Closed own o.mid xs high g → Closed own low xs high (f g)
chain {own} o c = record { mid = c.mid; rest = c.rest; fills = λ end same. o.fills own _ end (c.fills end same) }

filled_earlier : (own : Token) (low mid end : ℕ) (f : Forest Token) → NotOther own.kind → IsFilled own mid end f → IsFilled own low end f
filled_earlier own low mid end nothing apart f = λ other. absurd (apart other)
filled_earlier own low mid end (tree t i b) apart f = (λ other. absurd (apart other), f.1, f.2)

-- before a gap, and after one
before : {own : Token} {low mid high : ℕ} {xs : List Item} {f : Forest Token} → NotOther own.kind → Closed own mid xs high f → Closed own low xs high f
before {own} {low} {mid} {high} {xs} {f} apart c = record { mid = c.mid; rest = c.rest; fills = λ end same. filled_earlier own low mid end f apart (c.fills end same) }

after_gap : {own : Token} {low high : ℕ} {xs : List Item} {f : Forest Token} → NotOther own.kind → Closed own low (gap ∷ xs) high f → Closed own low xs high f
after_gap apart c = record { mid = c.rest.0; rest = c.rest.2; fills = λ end same. c.fills end (λ other. absurd (apart other)) }

wrap : {low high : ℕ} {xs : List Item} {inner : Forest Token} (s : Span) (k : Kind) → low ≡ s.start → Closed (token_of s k) s.start (at s.end ∷ xs) high inner → Over low xs high (tree (token_of s k) inner)
wrap s k is c = record { mid = s.end; rest = c.rest.1; fills = λ own after end b. (λ other. is, c.fills s.end (λ other. c.rest.0), b) }

bare : {low high : ℕ} {xs : List Item} (s : Span) (k : Kind) → NotOther k → Leads low (at s.start ∷ gap ∷ at s.end ∷ xs) high → Over low xs high (tree (token_of s k) nothing)
bare s k apart r = wrap s k r.0 (after_gap apart (empty r.1))

class_within : {low high : ℕ} {xs : List Item} {inner : Forest Token} (s : Span) (k : Kind) (es : ClassEvents) → Leads low (class_items (of_class.within s es) xs) high →
    ((l : ℕ) → Leads l (class_items es (at s.end ∷ xs)) high → Closed (token_of s k) l (at s.end ∷ xs) high inner) → Over low xs high (tree (token_of s k) inner)
class_within {low} {high} {xs} s k es r within = wrap s k r.0 (within s.start (subst (λ ys. Leads s.start ys high) (class_both es (of_class.leave s.end ∷ []) xs) r.1))

node_within : {low high : ℕ} {xs : List Item} {inner : Forest Token} (s : Span) (k : Kind) (es : Events) → Leads low (items (within s es) xs) high →
    ((l : ℕ) → Leads l (items es (at s.end ∷ xs)) high → Closed (token_of s k) l (at s.end ∷ xs) high inner) → Over low xs high (tree (token_of s k) inner)
node_within {low} {high} {xs} s k es r within = wrap s k r.0 (within s.start (subst (λ ys. Leads s.start ys high) (both es (event.leave s.end ∷ []) xs) r.1))

character_other : (k : CharacterKind) → NotOther (character_paint k)
character_other Symbol e = cc
character_other _ e = cc

class_other : NotOther paints.Class
class_other e = cc

letters : (own : Token) (cs : List Character) (low high : ℕ) (xs : List Item) → Leads low (class_items (letters_events cs) xs) high → Closed own low xs high (characters_forest part_token cs)
letters own [] low high xs r = empty r
letters own (c ∷ cs) low high xs r = let o = bare {xs = class_items (letters_events cs) xs} c.span (character_paint c.kind) (character_other c.kind) r in chain o (letters own cs o.mid high xs o.rest)

string : (s : ClassString) (low high : ℕ) (xs : List Item) → Leads low (class_items (string_events s) xs) high → Over low xs high (tree (token_of s.span paints.Class) (characters_forest part_token s.body))
string s low high xs r = class_within s.span paints.Class (letters_events s.body) r (λ l t. letters _ s.body l high _ t)

barred_strings : (own : Token) → NotOther own.kind → (ss : List ClassString) (low high : ℕ) (xs : List Item) → Leads low (class_items (barred_strings_events ss) xs) high → Closed own low xs high (strings_forest part_token ss)
barred_strings own apart [] low high xs r = empty r
barred_strings own apart (s ∷ ss) low high xs r =
    let o = string s r.0 high _ (subst (λ ys. Leads r.0 ys high) (class_both (string_events s) (barred_strings_events ss) xs) r.2) in
    before apart (chain o (barred_strings own apart ss o.mid high xs o.rest))

strings : (own : Token) → NotOther own.kind → (ss : List ClassString) (low high : ℕ) (xs : List Item) → Leads low (class_items (strings_events ss) xs) high → Closed own low xs high (strings_forest part_token ss)
strings own apart [] low high xs r = empty r
strings own apart (s ∷ ss) low high xs r =
    let o = string s low high _ (subst (λ ys. Leads low ys high) (class_both (string_events s) (barred_strings_events ss) xs) r) in
    chain o (barred_strings own apart ss o.mid high xs o.rest)

operated : (own : Token) → NotOther own.kind → (k : CharacterClassContentsKind) (es : ClassEvents) (low high : ℕ) (xs ys : List Item) (f : Forest Token) → Leads low (class_items (operator_events k ++ es) xs) high →
    ((l : ℕ) → Leads l (class_items es xs) high → Closed own l ys high f) → Closed own low ys high f
operated own apart Union es low high xs ys f t then = then low t
operated own apart Intersection es low high xs ys f t then = before apart (then t.0 t.2)
operated own apart Subtraction es low high xs ys f t then = before apart (then t.0 t.2)

mutual
  of_member : (m : Member) (low high : ℕ) (xs : List Item) → Leads low (class_items (member_events m) xs) high → Over low xs high (member_forest part_token m)
  of_member (in_class.range r) low high xs t =
      class_within r.span paints.Class (of_class.range_events r) t (λ l u.
      let a = bare {xs = gap ∷ at r.max.span.start ∷ gap ∷ at r.max.span.end ∷ at r.span.end ∷ xs} r.min.span (character_paint r.min.kind) (character_other r.min.kind) u in
      let b = bare {xs = at r.span.end ∷ xs} r.max.span (character_paint r.max.kind) (character_other r.max.kind) a.rest.2 in
      chain a (before class_other (chain b (empty b.rest))))
  of_member (in_class.escape e) low high xs t = bare e.span paints.Set (λ e. cc) t
  of_member (in_class.property p) low high xs t = bare p.span paints.Set (λ e. cc) t
  of_member (in_class.character c) low high xs t = bare c.span (character_paint c.kind) (character_other c.kind) t
  of_member (in_class.nested c) low high xs t = of_class_tree c low high xs t
  of_member (in_class.strings d) low high xs t =
      class_within d.span paints.Class (of_class.token of_class.strings ∷ (strings_events d.body ++ (of_class.token of_class.strings_end ∷ []))) t
      (λ l u. before class_other (after_gap class_other (strings (token_of d.span paints.Class) class_other d.body u.0 high _ (subst (λ ys. Leads u.0 ys high) (class_both (strings_events d.body) (of_class.token of_class.strings_end ∷ []) (at d.span.end ∷ xs)) u.2))))

  of_class_tree : (c : Class) (low high : ℕ) (xs : List Item) → Leads low (class_items (class_events c) xs) high → Over low xs high (class_forest part_token c)
  of_class_tree (in_class.class s negative may kind ms) low high xs t =
      class_within s paints.Class (of_class.token (of_class.bracket negative) ∷ (members_events (operator_events kind) ms ++ (of_class.token of_class.closer ∷ []))) t
      (λ l u. before class_other (after_gap class_other (of_members (token_of s paints.Class) class_other kind ms u.0 high _ (subst (λ ys. Leads u.0 ys high) (class_both (members_events (operator_events kind) ms) (of_class.token of_class.closer ∷ []) (at s.end ∷ xs)) u.2))))

  of_members : (own : Token) → NotOther own.kind → (kind : CharacterClassContentsKind) (ms : Members) (low high : ℕ) (xs : List Item) → Leads low (class_items (members_events (operator_events kind) ms) xs) high → Closed own low xs high (members_forest part_token ms)
  of_members own apart kind no_member low high xs t = empty t
  of_members own apart kind (member m ms) low high xs t =
      let o = of_member m low high _ (subst (λ ys. Leads low ys high) (class_both (member_events m) (more_members_events (operator_events kind) ms) xs) t) in
      chain o (of_more own apart kind ms o.mid high xs o.rest)

  of_more : (own : Token) → NotOther own.kind → (kind : CharacterClassContentsKind) (ms : Members) (low high : ℕ) (xs : List Item) → Leads low (class_items (more_members_events (operator_events kind) ms) xs) high → Closed own low xs high (members_forest part_token ms)
  of_more own apart kind no_member low high xs t = empty t
  of_more own apart kind (member m ms) low high xs t =
      operated own apart kind (member_events m ++ more_members_events (operator_events kind) ms) low high xs xs (member_forest part_token m (members_forest part_token ms)) t (λ l u.
      let o = of_member m l high _ (subst (λ ys. Leads l ys high) (class_both (member_events m) (more_members_events (operator_events kind) ms) xs) u) in
      chain o (of_more own apart kind ms o.mid high xs o.rest))

of_leaf : (l : Leaf) (low high : ℕ) (xs : List Item) → Leads low (items (node_events (leaf l)) xs) high → Over low xs high (leaf_forest part_token l)
of_leaf (ast.boundary b) low high xs t = bare b.span paints.Assert (λ e. cc) t
of_leaf (ast.character c) low high xs t = bare c.span (character_paint c.kind) (character_other c.kind) t
of_leaf (ast.dot d) low high xs t = bare d.span paints.Dot (λ e. cc) t
of_leaf (ast.class_escape e) low high xs t = bare e.span paints.Set (λ e. cc) t
of_leaf (ast.property p) low high xs t = bare p.span paints.Set (λ e. cc) t
of_leaf (ast.class (in_class.class s negative may kind ms)) low high xs t =
    let o = of_class_tree (in_class.class s negative may kind ms) s.start high (at s.end ∷ xs) t.1 in
    record { mid = s.end; rest = o.rest.1; fills = λ own after end b. let n = o.fills own nothing o.mid (λ other. refl) in (λ other. t.0, n.1, b) }
of_leaf (ast.indexed r) low high xs t = bare r.span paints.Reference (λ e. cc) t
of_leaf (ast.named r) low high xs t = bare r.span paints.Reference (λ e. cc) t

group_other : NotOther paints.Group
group_other e = cc

bar_other : NotOther paints.Bar
bar_other e = cc

quantifier_other : NotOther paints.Quantifier
quantifier_other e = cc

abbrev AltsOf : Alternatives → Span → List Item → ℕ → Type 0
AltsOf more d xs high = (m : ℕ) → Leads m (items (alternatives_events more) (at d.end ∷ xs)) high → Closed (token_of d paints.Bar) m (at d.end ∷ xs) high (alternatives_forest part_token more)

of_body : (own : Token) → NotOther own.kind → (d : Span) (more : Alternatives) (l high : ℕ) (xs : List Item) → AltsOf more d (gap ∷ xs) high →
    Leads l (items (within d (alternatives_events more) ++ (event.token of_token.closer ∷ [])) xs) high → Closed own l xs high (tree (token_of d paints.Bar) (alternatives_forest part_token more) nothing)
of_body own apart d more l high xs alts u =
    let o = node_within d paints.Bar (alternatives_events more) (subst (λ ys. Leads l ys high) (both (within d (alternatives_events more)) (event.token of_token.closer ∷ []) xs) u) alts in
    chain o (after_gap apart (empty o.rest))

of_modified : (own : Token) → NotOther own.kind → (m : Option Modifiers) (d : Span) (more : Alternatives) (l high : ℕ) (xs : List Item) → AltsOf more d (gap ∷ xs) high →
    Leads l (items (opener_event (ast.ignoring m) ∷ (within d (alternatives_events more) ++ (event.token of_token.closer ∷ []))) xs) high →
    Closed own l xs high (modifiers_forest part_token m (tree (token_of d paints.Bar) (alternatives_forest part_token more) nothing))
of_modified own apart None d more l high xs alts u = before apart (of_body own apart d more u.0 high xs alts u.2)
of_modified own apart (Some m) d more l high xs alts u =
    let o = bare {xs = gap ∷ items (within d (alternatives_events more) ++ (event.token of_token.closer ∷ [])) xs} m.span paints.Modifier (λ e. cc) u.2 in
    before apart (chain o (before apart (of_body own apart d more o.rest.0 high xs alts o.rest.2)))

mutual
  of_node : (n : Node) (low high : ℕ) (xs : List Item) → Leads low (items (node_events n) xs) high → Over low xs high (node_forest part_token n)
  of_node (leaf l) low high xs t = of_leaf l low high xs t
  of_node (quantified s min max greedy n) low high xs t =
      node_within s paints.Quantifier (node_events n ++ (event.token (of_token.quantifier min max greedy) ∷ [])) t
      (λ l u. let o = of_node n l high _ (subst (λ ys. Leads l ys high) (both (node_events n) (event.token (of_token.quantifier min max greedy) ∷ []) (at s.end ∷ xs)) u) in chain o (after_gap quantifier_other (empty o.rest)))
  of_node (group s (ast.capturing name) d more) low high xs t =
      node_within s paints.Group (opener_event (ast.capturing name) ∷ (within d (alternatives_events more) ++ (event.token of_token.closer ∷ []))) t (λ l u. before group_other (of_body (token_of s paints.Group) group_other d more u.0 high (at s.end ∷ xs) (λ m v. of_alternatives (token_of d paints.Bar) bar_other more m high _ v) u.2))
  of_node (group s (ast.ignoring modifiers) d more) low high xs t =
      node_within s paints.Group (opener_event (ast.ignoring modifiers) ∷ (within d (alternatives_events more) ++ (event.token of_token.closer ∷ []))) t (λ l u. of_modified (token_of s paints.Group) group_other modifiers d more l high (at s.end ∷ xs) (λ m v. of_alternatives (token_of d paints.Bar) bar_other more m high _ v) u)
  of_node (group s (ast.looking kind) d more) low high xs t =
      node_within s paints.Group (opener_event (ast.looking kind) ∷ (within d (alternatives_events more) ++ (event.token of_token.closer ∷ []))) t (λ l u. before group_other (of_body (token_of s paints.Group) group_other d more u.0 high (at s.end ∷ xs) (λ m v. of_alternatives (token_of d paints.Bar) bar_other more m high _ v) u.2))

  of_nodes : (own : Token) (ns : Nodes) (low high : ℕ) (xs : List Item) → Leads low (items (nodes_events ns) xs) high → Closed own low xs high (nodes_forest part_token ns)
  of_nodes own no_node low high xs t = empty t
  of_nodes own (node n ns) low high xs t =
      let o = of_node n low high _ (subst (λ ys. Leads low ys high) (both (node_events n) (nodes_events ns) xs) t) in
      chain o (of_nodes own ns o.mid high xs o.rest)

  of_alternatives : (own : Token) → NotOther own.kind → (more : Alternatives) (low high : ℕ) (xs : List Item) → Leads low (items (alternatives_events more) xs) high → Closed own low xs high (alternatives_forest part_token more)
  of_alternatives own apart no_alternative low high xs t = empty t
  of_alternatives own apart (ast.alternative s ns more) low high xs t =
      let o = node_within s paints.Other (nodes_events ns) (subst (λ ys. Leads low ys high) (both (within s (nodes_events ns)) (barred_events more) xs) t) (λ m v. of_nodes _ ns m high _ v) in
      chain o (of_barred own apart more o.mid high xs o.rest)

  of_barred : (own : Token) → NotOther own.kind → (more : Alternatives) (low high : ℕ) (xs : List Item) → Leads low (items (barred_events more) xs) high → Closed own low xs high (alternatives_forest part_token more)
  of_barred own apart no_alternative low high xs t = empty t
  of_barred own apart (ast.alternative s ns more) low high xs t =
      let o = node_within s paints.Other (nodes_events ns) (subst (λ ys. Leads t.0 ys high) (both (within s (nodes_events ns)) (barred_events more) xs) t.2) (λ m v. of_nodes _ ns m high _ v) in
      before apart (chain o (of_barred own apart more o.mid high xs o.rest))

-- In a pattern that is spanned over offsets that do not fall, nothing is left to nodes that are painted Other.
pub spanned_filled : (e : Environment) (o : ℕ → ℕ) (p : Whole) (i j : ℕ) (us rest : List CodePoint) → ((i j : ℕ) → i ≤ j → o i ≤ o j) →
    Row e o (within p.0 (within p.1.0 (alternatives_events p.1.1))) i us j rest → IsFilled (root_token p) p.0.start p.0.end (in_pattern part_token p)
unfolding forest
spanned_filled e o p i j us rest rising row =
    let r = leads o rising e (within p.0 (within p.1.0 (alternatives_events p.1.1))) i j (o j) us rest [] row refl in
    let all = node_within p.0 paints.Other (within p.1.0 (alternatives_events p.1.1)) r (λ l u.
    let d = node_within p.1.0 paints.Bar (alternatives_events p.1.1) u (λ m v. of_alternatives _ bar_other p.1.1 m (o j) _ v) in chain d (empty d.rest)) in
    (all.fills (token_of p.0 paints.Other) nothing all.mid (λ other. refl)).1
