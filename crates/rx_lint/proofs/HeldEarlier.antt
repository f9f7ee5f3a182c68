-- What the held earlier nodes answer, and how a node is added to them.
use Rattle.std.proofs.Common.{◌≡◌, refl, ap, sym, ◌∙◌, subst, ℕ, suc, eqb, ◌<◌, arith, Bool, true, false, cond, ◌&&◌, ◌||◌, Option, Some, List, [], ◌∷◌, ◌++◌, length, map, Bor}
use Rattle.std.specs.BTreeSet.{BTreeSet, contains, UpdatesBy}
use Rattle.std.specs.Cmp.Lexicographic.{slice_cmp}
use Rattle.std.specs.List.{list_any}
use Rattle.std.specs.Ordering.{nat_cmp, ordering_then, is_eq}
use Rattle.std.specs.Str.{bytes_eq}
use Rattle.std.specs.declared.cmp.Ordering.TheVariants.{Less, Equal, Greater}
use Rattle.std.proofs.Math.Bool.{and-false, or-false}
use Rattle.std.proofs.lemmas.Grind.{common_steps}
use Rattle.std.proofs.lemmas.List.{map-append}
use Rattle.std.proofs.lemmas.List.Folds.{list_any-append}
use Rattle.std.proofs.lemmas.Map.Text.{is_eq-slice_cmp}
use Rattle.rx_ast.specs.declared.ast_kind.RegExpAstKind.{RegExpAstKind}
use Rattle.rx_ast.specs.declared.ast_kind.RegExpAstKind.TheVariants as to
use Rattle.rx_ast.specs.declared.class.CharacterClassContents.{CharacterClassContents}
use Rattle.rx_ast.specs.declared.class.ClassString.{ClassString}
use Rattle.rx_ast.specs.declared.leaf.Character.{Character}
use Rattle.rx_base.specs.declared.span.Span.{Span}
use Rattle.rx_ast.specs.Forget.{nowhere}
use Rattle.rx_ast.specs.ClassTree as in_class
use Rattle.rx_ast.specs.ClassTree.{Member, Members, no_member, member}
use Rattle.rx_ast.specs.Tree as ast
use Rattle.rx_ast.specs.Tree.{Node, Nodes, Alternatives, SpannedNodes, leaf, quantified, group, no_node, node, no_alternative}
use Rattle.rx_ast.specs.Kinds as kinds
use Rattle.rx_ast.specs.Kinds.{Kind, alternative, class_contents, children, each_term, each_alternative, each_contents, order}
use Rattle.rx_ast.specs.MirrorKinds.{mirror_kind}
use Rattle.rx_lint.specs.declared.earlier.Mark.{Mark}
use Rattle.rx_lint.specs.declared.items.Items as item
use Rattle.rx_lint.specs.Earlier.{Row, row_cmp, HasRows, IsMark, is_repeated_item, is_repeated_alternative, AreUnasked, AreItemsBefore, AreRowsBefore}
use Rattle.rx_lint.specs.Items.{AreItems, is_useless}
use Rattle.rx_lint.specs.Numbers.{numbers}
use Rattle.rx_lint.specs.Rules.{is_union, is_useless_after, has_two_or_more, is_empty_alternative, is_equal_to, makes_useless}
use Rattle.rx_lint.proofs.Sets.{either}

pub none_passes : (p : Kind → Bool) → ((j : Kind) → p j ≡ false) → (ks : List Kind) → list_any p ks ≡ false
none_passes p fails [] = refl
none_passes p fails (k ∷ ks) = ap (λ b. b || list_any p ks) (fails k) ∙ none_passes p fails ks

-- the mark of nodes that no rule asks about
abbrev pub no_mark : Mark
no_mark = record { is_repeated = false; is_one_of_many = false }

abbrev pub is_alternative : Kind → Bool
is_alternative (alternative a) = true
is_alternative _ = false

no_repeated_item : (k : Kind) → is_repeated_item no_mark k ≡ false
no_repeated_item (class_contents m) = refl
no_repeated_item _ = refl

no_repeated_alternative : (k : Kind) → is_repeated_alternative no_mark k ≡ false
no_repeated_alternative (alternative m) = refl
no_repeated_alternative _ = refl

unequal_after : (k j : Kind) → is_alternative k ≡ false → is_equal_to k j ≡ false
unequal_after (alternative a) j other = cc
unequal_after (kinds.pattern p) j other = refl
unequal_after (kinds.disjunction p) j other = refl
unequal_after (kinds.term p) j other = refl
unequal_after (kinds.look_around s a d) j other = refl
unequal_after (kinds.quantifier s a b c d) j other = refl
unequal_after (kinds.capturing_group s a d) j other = refl
unequal_after (kinds.ignore_group s a d) j other = refl
unequal_after (kinds.boundary_assertion p) j other = refl
unequal_after (kinds.character p) j other = refl
unequal_after (kinds.dot p) j other = refl
unequal_after (kinds.class_escape p) j other = refl
unequal_after (kinds.property_escape p) j other = refl
unequal_after (kinds.class p) j other = refl
unequal_after (kinds.class_contents p) j other = refl
unequal_after (kinds.class_range p) j other = refl
unequal_after (kinds.string_disjunction p) j other = refl
unequal_after (kinds.class_string p) j other = refl
unequal_after (kinds.indexed_reference p) j other = refl
unequal_after (kinds.named_reference p) j other = refl

-- A node that is no alternative, in a parent that is no union and has no two alternatives; and a first node there.
unasked_one : (parent : Option Kind) (before : List Kind) (k : Kind) → is_union parent ≡ false → has_two_or_more parent ≡ false → list_any (is_equal_to k) before ≡ false → IsMark no_mark parent before k
unasked_one parent before k union many equal = record {
  item = ap (λ b. b && list_any (is_useless_after k) before) union ∙ sym (no_repeated_item k);
  many = ap (λ b. is_empty_alternative k && b) many;
  equal = equal ∙ sym (no_repeated_alternative k);
}

abbrev AreOthers : List Kind → Type 0
AreOthers [] = Unit {0}
AreOthers (k ∷ ks) = (is_alternative k ≡ false) × AreOthers ks

unasked_others : (parent : Option Kind) (before ks : List Kind) → is_union parent ≡ false → has_two_or_more parent ≡ false → AreOthers ks → AreUnasked parent before ks
unasked_others parent before [] union many others = tt
unasked_others parent before (k ∷ ks) union many others =
    (unasked_one parent before k union many (none_passes (is_equal_to k) (λ j. unequal_after k j others.0) before), unasked_others parent (before ++ (k ∷ [])) ks union many others.1)

other_terms : (ns : Nodes) → AreOthers (each_term ns)
other_terms no_node = tt
other_terms (node n ns) = (refl, other_terms ns)

other_contents : (ms : Members) → AreOthers (each_contents ms)
other_contents no_member = tt
other_contents (member m ms) = (refl, other_contents ms)

other_strings : (ss : List ClassString) → AreOthers (map kinds.class_string ss)
other_strings [] = tt
other_strings (s ∷ ss) = (refl, other_strings ss)

other_characters : (cs : List Character) → AreOthers (map kinds.character cs)
other_characters [] = tt
other_characters (c ∷ cs) = (refl, other_characters cs)

other_in_term : (n : Node) → AreOthers (kinds.in_term n ∷ [])
other_in_term (leaf (ast.boundary b)) = (refl, tt)
other_in_term (leaf (ast.character b)) = (refl, tt)
other_in_term (leaf (ast.dot b)) = (refl, tt)
other_in_term (leaf (ast.class_escape b)) = (refl, tt)
other_in_term (leaf (ast.property b)) = (refl, tt)
other_in_term (leaf (ast.class b)) = (refl, tt)
other_in_term (leaf (ast.indexed b)) = (refl, tt)
other_in_term (leaf (ast.named b)) = (refl, tt)
other_in_term (quantified s min max greedy n) = (refl, tt)
other_in_term (group s (ast.capturing name) d more) = (refl, tt)
other_in_term (group s (ast.ignoring modifiers) d more) = (refl, tt)
other_in_term (group s (ast.looking kind) d more) = (refl, tt)

other_in_contents : (m : Member) → AreOthers (kinds.in_contents m ∷ [])
other_in_contents (in_class.range r) = (refl, tt)
other_in_contents (in_class.escape r) = (refl, tt)
other_in_contents (in_class.property r) = (refl, tt)
other_in_contents (in_class.character r) = (refl, tt)
other_in_contents (in_class.nested r) = (refl, tt)
other_in_contents (in_class.strings r) = (refl, tt)

few_alternatives : (parent : Option Kind) (more : Alternatives) (s : Span) → parent ≡ Some (kinds.disjunction (s, more)) → is_union parent ≡ false → has_two_or_more parent ≡ false → AreUnasked parent [] (each_alternative more)
few_alternatives parent no_alternative s is union many = tt
few_alternatives parent (ast.alternative t ns no_alternative) s is union many = (unasked_one parent [] (alternative (t, ns)) union many refl, tt)
few_alternatives parent (ast.alternative t ns (ast.alternative u ms more)) s is union many = let no : true ≡ false = sym (ap has_two_or_more is) ∙ many in cc

unasked_alone : (parent : Option Kind) (k : Kind) → is_union parent ≡ false → has_two_or_more parent ≡ false → is_alternative k ≡ false → AreUnasked parent [] (k ∷ [])
unasked_alone parent k union many other = unasked_others parent [] (k ∷ []) union many (other, tt)

-- No rule asks of the children of a node that is no union and has no two alternatives.
pub unasked_start : (k : Kind) → is_union (Some k) ≡ false → has_two_or_more (Some k) ≡ false → AreUnasked (Some k) [] (children k)
unasked_start (kinds.disjunction d) union many = few_alternatives (Some (kinds.disjunction d)) d.1 d.0 refl union many
unasked_start (kinds.pattern p) union many = unasked_alone (Some (kinds.pattern p)) (kinds.disjunction p.1) union many refl
unasked_start (alternative a) union many = unasked_others (Some (alternative a)) [] (each_term a.1) union many (other_terms a.1)
unasked_start (kinds.term n) union many = unasked_others (Some (kinds.term n)) [] (kinds.in_term n ∷ []) union many (other_in_term n)
unasked_start (kinds.look_around s kind d) union many = unasked_alone (Some (kinds.look_around s kind d)) (kinds.disjunction d) union many refl
unasked_start (kinds.quantifier s min max greedy n) union many = unasked_alone (Some (kinds.quantifier s min max greedy n)) (kinds.term n) union many refl
unasked_start (kinds.capturing_group s name d) union many = unasked_alone (Some (kinds.capturing_group s name d)) (kinds.disjunction d) union many refl
unasked_start (kinds.ignore_group s modifiers d) union many = unasked_alone (Some (kinds.ignore_group s modifiers d)) (kinds.disjunction d) union many refl
unasked_start (kinds.boundary_assertion b) union many = tt
unasked_start (kinds.character c) union many = tt
unasked_start (kinds.dot d) union many = tt
unasked_start (kinds.class_escape e) union many = tt
unasked_start (kinds.property_escape p) union many = tt
unasked_start (kinds.class (in_class.class s negative may kind ms)) union many = unasked_others (Some (kinds.class (in_class.class s negative may kind ms))) [] (each_contents ms) union many (other_contents ms)
unasked_start (class_contents m) union many = unasked_others (Some (class_contents m)) [] (kinds.in_contents m ∷ []) union many (other_in_contents m)
unasked_start (kinds.class_range r) union many = unasked_others (Some (kinds.class_range r)) [] (map kinds.character (r.min ∷ r.max ∷ [])) union many (other_characters (r.min ∷ r.max ∷ []))
unasked_start (kinds.string_disjunction d) union many = unasked_others (Some (kinds.string_disjunction d)) [] (map kinds.class_string d.body) union many (other_strings d.body)
unasked_start (kinds.class_string s) union many = unasked_others (Some (kinds.class_string s)) [] (map kinds.character s.body) union many (other_characters s.body)
unasked_start (kinds.indexed_reference r) union many = tt
unasked_start (kinds.named_reference r) union many = tt

abbrev listed_members : Members → List Member
listed_members no_member = []
listed_members (member m ms) = m ∷ listed_members ms

each_contents_is : (ms : Members) → each_contents ms ≡ map class_contents (listed_members ms)
each_contents_is no_member = refl
each_contents_is (member m ms) = ap (λ ks. class_contents m ∷ ks) (each_contents_is ms)

abbrev listed_alternatives : Alternatives → List SpannedNodes
listed_alternatives no_alternative = []
listed_alternatives (ast.alternative s ns more) = (s, ns) ∷ listed_alternatives more

each_alternative_is : (more : Alternatives) → each_alternative more ≡ map alternative (listed_alternatives more)
each_alternative_is no_alternative = refl
each_alternative_is (ast.alternative s ns more) = ap (λ ks. alternative (s, ns) ∷ ks) (each_alternative_is more)

-- the items of a union, and the alternatives of a disjunction of two or more
union_items : (k : Kind) → is_union (Some k) ≡ true → (ms : List Member) × (children k ≡ map class_contents ms)
union_items (kinds.class (in_class.class s negative may kind ms)) union = (listed_members ms, each_contents_is ms)
union_items _ union = cc

many_alternatives : (k : Kind) → has_two_or_more (Some k) ≡ true → (bs : List SpannedNodes) × (children k ≡ map alternative bs)
many_alternatives (kinds.disjunction d) many = (listed_alternatives d.1, each_alternative_is d.1)
many_alternatives _ many = cc

pub items_start : {items : item.Items} (k : Kind) → is_union (Some k) ≡ true → AreItems items [] → AreItemsBefore items (Some k) [] (children k)
items_start k union are = let it = union_items k union in record { union = union; earlier = []; before_is = refl; held = are; later = it.0; next_is = it.1 }

pub rows_start : {rows : BTreeSet Row} (k : Kind) → has_two_or_more (Some k) ≡ true → ((q : Row) → contains row_cmp rows q ≡ false) → AreRowsBefore rows (Some k) [] (children k)
rows_start k many none = let it = many_alternatives k many in record { many = many; earlier = []; before_is = refl; held = record { found = λ q fits. none q }; later = it.0; next_is = it.1 }

-- A node among items is one.
pub item_of : (n : RegExpAstKind) (after : List Kind) (ms : List Member) → mirror_kind n ∷ after ≡ map class_contents ms → (c : Bor CharacterClassContents) × (n ≡ to.CharacterClassContents c)
item_of n after [] e = cc
item_of n after (m ∷ ms) e = of n (first_of_items n after m ms e)
  where
    first_of_items : (n : RegExpAstKind) (after : List Kind) (m : Member) (ms : List Member) → mirror_kind n ∷ after ≡ map class_contents (m ∷ ms) → mirror_kind n ≡ class_contents m
    first_of_items n after m ms e = cc

    of : {m : Member} (n : RegExpAstKind) → mirror_kind n ≡ class_contents m → (c : Bor CharacterClassContents) × (n ≡ to.CharacterClassContents c)
    of (to.CharacterClassContents c) e = (c, refl)
    of _ e = cc

useless_among : (later : Member) (ms : List Member) → list_any (is_useless_after (class_contents later)) (map class_contents ms) ≡ is_useless later ms
useless_among later [] = refl
useless_among later (m ∷ ms) = ap (λ b. makes_useless m later || b) (useless_among later ms)

pub item_added : {old new : item.Items} {parent : Option Kind} {before after : List Kind} (m : Member) (useless : Bool) → ((ms : List Member) → AreItems old ms → (useless ≡ is_useless m ms) × AreItems new (ms ++ (m ∷ []))) → AreItemsBefore old parent before (class_contents m ∷ after) →
    IsMark (record { is_repeated = useless; is_one_of_many = false }) parent before (class_contents m) × AreItemsBefore new parent (before ++ (class_contents m ∷ [])) after
item_added {old} {new} {parent} {before} {after} m useless adds are =
    let it = adds are.earlier are.held in (
      record {
        item = ap (λ b. b && list_any (is_useless_after (class_contents m)) before) are.union ∙ ap (list_any (is_useless_after (class_contents m))) are.before_is ∙ useless_among m are.earlier ∙ sym it.0;
        many = refl;
        equal = none_passes (is_equal_to (class_contents m)) (λ j. refl) before;
      },
      record {
        union = are.union;
        earlier = are.earlier ++ (m ∷ []);
        before_is = ap (λ ks. ks ++ (class_contents m ∷ [])) are.before_is ∙ sym (map-append class_contents are.earlier (m ∷ []));
        held = it.1;
        later = (items_after m after are.later are.next_is).0;
        next_is = (items_after m after are.later are.next_is).1;
      },
    )
  where
    items_after : (m : Member) (after : List Kind) (ms : List Member) → class_contents m ∷ after ≡ map class_contents ms → (ns : List Member) × (after ≡ map class_contents ns)
    items_after m after [] e = cc
    items_after m after (n ∷ ms) e = (ms, cc)

unequal_lengths : (xs ys : List ℕ) → (length xs ≡ length ys → ⊥) → bytes_eq xs ys ≡ false
unequal_lengths [] [] apart = absurd (apart refl)
unequal_lengths [] (y ∷ ys) apart = refl
unequal_lengths (x ∷ xs) [] apart = refl
unequal_lengths (x ∷ xs) (y ∷ ys) apart = ap (λ b. eqb x y && b) (unequal_lengths xs ys (λ same. apart (ap suc same))) ∙ and-false (eqb x y)

-- Keys are equal where rows are.
same_keys : (a b : Row) → a.0 ≡ length a.1.now → b.0 ≡ length b.1.now → is_eq (row_cmp a b) ≡ bytes_eq a.1.now b.1.now
same_keys a b x y =
    let rest = slice_cmp nat_cmp a.1.now b.1.now in
    elim (nat_cmp a.0 b.0) as (λ o. nat_cmp a.0 b.0 ≡ o → is_eq (ordering_then o rest) ≡ bytes_eq a.1.now b.1.now) [
      | Less ↦ λ is. sym (unequal_lengths a.1.now b.1.now (λ same. let apart : a.0 < b.0 = grind (arith, common_steps) in let e : a.0 ≡ b.0 = x ∙ same ∙ sym y in omega arith))
      | Equal ↦ λ is. is_eq-slice_cmp a.1.now b.1.now
      | Greater ↦ λ is. sym (unequal_lengths a.1.now b.1.now (λ same. let apart : b.0 < a.0 = grind (arith, common_steps) in let e : a.0 ≡ b.0 = x ∙ same ∙ sym y in omega arith))
    ] refl

rows_more : {seen later : BTreeSet Row} {rows : List (List ℕ)} (new : Row) → new.0 ≡ length new.1.now → UpdatesBy row_cmp (row_cmp new) seen later true → HasRows seen rows → HasRows later (rows ++ (new.1.now ∷ []))
rows_more {seen} {later} {rows} new is updates so_far = record {
  found = λ q fits.
      updates.0 q ∙ ap (λ b. cond b true (contains row_cmp seen q)) (same_keys new q is fits) ∙ ap (λ b. cond (bytes_eq new.1.now q.1.now) true b) (so_far.found q fits)
      ∙ either (bytes_eq new.1.now q.1.now) (list_any (λ s. bytes_eq s q.1.now) rows)
      ∙ ap (λ b. list_any (λ s. bytes_eq s q.1.now) rows || b) (sym (or-false (bytes_eq new.1.now q.1.now))) ∙ sym (list_any-append (λ s. bytes_eq s q.1.now) rows (new.1.now ∷ []));
}

-- The numbers of an alternative do not tell its span.
any_span : (a : SpannedNodes) (s : Span) → numbers (alternative (s, a.1)) ≡ numbers (alternative a)
unfolding order
any_span a s = refl

equal_among : (b : SpannedNodes) (as' : List SpannedNodes) → list_any (is_equal_to (alternative b)) (map alternative as') ≡ list_any (λ row. bytes_eq row (numbers (alternative b))) (map numbers (map alternative as'))
equal_among b [] = refl
equal_among b (a ∷ as') =
    ap (λ x. x || list_any (is_equal_to (alternative b)) (map alternative as')) (ap (λ ns. bytes_eq ns (numbers (alternative (nowhere, b.1)))) (any_span a nowhere) ∙ ap (bytes_eq (numbers (alternative a))) (any_span b nowhere))
    ∙ ap (λ x. bytes_eq (numbers (alternative a)) (numbers (alternative b)) || x) (equal_among b as')

pub row_added : {old new : BTreeSet Row} {parent : Option Kind} {before after : List Kind} (k : Kind) (row : Row) (there : Bool) → row.0 ≡ length row.1.now → row.1.now ≡ numbers k → there ≡ contains row_cmp old row → UpdatesBy row_cmp (row_cmp row) old new true → AreRowsBefore old parent before (k ∷ after) →
    IsMark (record { is_repeated = there; is_one_of_many = true }) parent before k × AreRowsBefore new parent (before ++ (k ∷ [])) after
row_added {old} {new} {parent} {before} {after} k row there sized is is_there updates are = of are.later are.next_is
  where
    of : (bs : List SpannedNodes) → k ∷ after ≡ map alternative bs → IsMark (record { is_repeated = there; is_one_of_many = true }) parent before k × AreRowsBefore new parent (before ++ (k ∷ [])) after
    of [] e = cc
    of (b ∷ bs) e =
        let here : alternative b ≡ k = cc in
        let next : after ≡ map alternative bs = cc in
        let answer : list_any (is_equal_to (alternative b)) before ≡ there =
        ap (list_any (is_equal_to (alternative b))) are.before_is ∙ equal_among b are.earlier ∙ ap (λ ks. list_any (λ row. bytes_eq row (numbers (alternative b))) (map numbers ks)) (sym are.before_is)
        ∙ ap (λ ns. list_any (λ row. bytes_eq row ns) (map numbers before)) (ap numbers here ∙ sym is) ∙ sym (are.held.found row sized) ∙ sym is_there in
        let mark : IsMark (record { is_repeated = there; is_one_of_many = true }) parent before (alternative b) = record {
          item = ap (λ x. is_union parent && x) (none_passes (is_useless_after (alternative b)) (λ j. refl) before) ∙ and-false (is_union parent);
          many = ap (λ x. is_empty_alternative (alternative b) && x) are.many;
          equal = answer;
        } in (
          subst (IsMark (record { is_repeated = there; is_one_of_many = true }) parent before) here mark,
          record {
            many = are.many;
            earlier = are.earlier ++ (b ∷ []);
            before_is = ap (λ ks. ks ++ (k ∷ [])) are.before_is ∙ ap (λ j. map alternative are.earlier ++ (j ∷ [])) (sym here) ∙ sym (map-append alternative are.earlier (b ∷ []));
            held = subst (HasRows new) (ap (λ ns. map numbers before ++ (ns ∷ [])) is ∙ sym (map-append numbers before (k ∷ []))) (rows_more row sized updates are.held);
            later = bs;
            next_is = next;
          },
        )
