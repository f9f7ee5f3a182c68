-- The tokens of a class are a list that ends after its closer: what stands between is balanced.
use Rattle.std.proofs.Common.{◌≡◌, refl, sym, ap, ap₂, ◌∙◌, subst, ℕ, zero, suc, Bool, true, false, Option, Some, None, List, [], ◌∷◌, ◌++◌, append_assoc, append-nil}
use Rattle.rx_base.specs.declared.span.Span.{Span}
use Rattle.rx_ast.specs.declared.leaf.Character.{Character}
use Rattle.rx_ast.specs.declared.class.CharacterClassContentsKind.{CharacterClassContentsKind}
use Rattle.rx_ast.specs.declared.class.CharacterClassContentsKind.TheVariants.{Union, Intersection, Subtraction}
use Rattle.rx_ast.specs.declared.class.ClassString.{ClassString}
use Rattle.rx_ast.specs.ClassTree as tree
use Rattle.rx_ast.specs.ClassTree.{Class, Member, Members, no_member, member, class}
use Rattle.rx_units.specs.declared.code_point.CodePoint.{CodePoint}
use Rattle.rx_model.specs.declared.mode.Mode.{Mode}
use Rattle.rx_model.specs.Classes.ClassRows.{Place, outside, fresh, at_dash, at_high, at_second, at_third, after_operator, in_strings, following_item, next_place, ClassTokenRow, IsClass}
use Rattle.rx_model.specs.Classes.ClassTokens.{ClassToken, bracket, closer, item, strings, strings_end, ClassEvents, token, class_tokens_of, within, letters_events, string_events, barred_strings_events, strings_events, operator_events, member_events, class_events, members_events, more_members_events, class_tokens}
use Rattle.rx_model.specs.Reading.ElementKinds.{NestedPlace, SpellsOfClass, after_of_class, depth_after_bracket}
use Rattle.rx_model.specs.Inputs.Environment.{Environment}
use Rattle.rx_units.specs.Sequences.{ElementRow}
use Rattle.rx_model.proofs.Classes.ClassShapes.{between_by, class_tokens_by, contents_are, contents_tokens}
use Rattle.rx_model.proofs.Classes.ClassTokens.{tokens_append}
use Rattle.rx_model.proofs.Classes.ClassWithoutSpans.{within_tokens}

-- how many brackets are open after tokens, from so many on; none where a closer closes none of them
abbrev nests : List ClassToken → ℕ → Option ℕ
nests [] depth = Some depth
nests ((bracket negative) ∷ ts) depth = nests ts (suc depth)
nests (closer ∷ ts) zero = None
nests (closer ∷ ts) (suc depth) = nests ts depth
nests (t ∷ ts) depth = nests ts depth

-- As many brackets are open after the tokens as before them.
abbrev IsBalanced : List ClassToken → Type 0
IsBalanced ts = (ss : List ClassToken) (depth : ℕ) → nests (ts ++ ss) depth ≡ nests ss depth

abbrev AreBalanced : ClassEvents → Type 0
AreBalanced es = IsBalanced (class_tokens_of es)

both_balanced : (es fs : ClassEvents) → AreBalanced es → AreBalanced fs → AreBalanced (es ++ fs)
both_balanced es fs a b ss depth =
    ap (λ ts. nests (ts ++ ss) depth) (tokens_append es fs)
    ∙ ap (λ ts. nests ts depth) (append_assoc (class_tokens_of es) (class_tokens_of fs) ss)
    ∙ a (class_tokens_of fs ++ ss) depth ∙ b ss depth

within_balanced : (s : Span) (es : ClassEvents) → AreBalanced es → AreBalanced (within s es)
within_balanced s es a = subst IsBalanced (sym (within_tokens s es)) a

letters_balanced : (cs : List Character) → AreBalanced (letters_events cs)
letters_balanced [] ss depth = refl
letters_balanced (c ∷ cs) ss depth = letters_balanced cs ss depth

string_balanced : (s : ClassString) → AreBalanced (string_events s)
string_balanced s = within_balanced s.span (letters_events s.body) (letters_balanced s.body)

barred_balanced : (ss : List ClassString) → AreBalanced (barred_strings_events ss)
barred_balanced [] ts depth = refl
barred_balanced (s ∷ ss) ts depth = both_balanced (string_events s) (barred_strings_events ss) (string_balanced s) (barred_balanced ss) ts depth

strings_balanced : (ss : List ClassString) → AreBalanced (strings_events ss)
strings_balanced [] ts depth = refl
strings_balanced (s ∷ ss) ts depth = both_balanced (string_events s) (barred_strings_events ss) (string_balanced s) (barred_balanced ss) ts depth

operator_balanced : (kind : CharacterClassContentsKind) → AreBalanced (operator_events kind)
operator_balanced Union ss depth = refl
operator_balanced Intersection ss depth = refl
operator_balanced Subtraction ss depth = refl

mutual
  member_balanced : (m : Member) → AreBalanced (member_events m)
  member_balanced (tree.range r) ss depth = refl
  member_balanced (tree.escape e) ss depth = refl
  member_balanced (tree.property p) ss depth = refl
  member_balanced (tree.character c) ss depth = refl
  member_balanced (tree.nested c) ss depth = class_balanced c ss depth
  member_balanced (tree.strings d) ss depth =
      within_balanced d.span (token strings ∷ (strings_events d.body ++ (token strings_end ∷ [])))
      (λ ts n. both_balanced (strings_events d.body) (token strings_end ∷ []) (strings_balanced d.body) (λ ts n. refl) ts n) ss depth

  class_balanced : (c : Class) → AreBalanced (class_events c)
  class_balanced (class s negative may kind ms) ss depth =
      let contents = contents_tokens (between_by kind) ms in
      ap (λ ts. nests (ts ++ ss) depth) (class_tokens_by s negative may kind ms)
      ∙ ap (λ ts. nests ts (suc depth)) (append_assoc contents (closer ∷ []) ss)
      ∙ ap (λ ts. nests (ts ++ (closer ∷ ss)) (suc depth)) (sym (contents_are (operator_events kind) ms))
      ∙ contents_balanced kind ms (closer ∷ ss) (suc depth)

  contents_balanced : (kind : CharacterClassContentsKind) (ms : Members) → AreBalanced (members_events (operator_events kind) ms)
  contents_balanced kind no_member ss depth = refl
  contents_balanced kind (member m ms) ss depth = both_balanced (member_events m) (more_members_events (operator_events kind) ms) (member_balanced m) (further_balanced kind ms) ss depth

  further_balanced : (kind : CharacterClassContentsKind) (ms : Members) → AreBalanced (more_members_events (operator_events kind) ms)
  further_balanced kind no_member ss depth = refl
  further_balanced kind (member m ms) ss depth =
      both_balanced (operator_events kind) (member_events m ++ more_members_events (operator_events kind) ms) (operator_balanced kind)
      (λ ts n. both_balanced (member_events m) (more_members_events (operator_events kind) ms) (member_balanced m) (further_balanced kind ms) ts n) ss depth

-- a place after a class's bracket
abbrev pub IsWithin : Place → Type 0
IsWithin outside = ⊥
IsWithin q = Unit {0}

within_after_item : (q : Place) (first : Bool) → IsWithin (following_item q first)
within_after_item fresh true = tt
within_after_item fresh false = tt
within_after_item at_second first = tt
within_after_item at_third first = tt
within_after_item outside first = tt
within_after_item at_dash first = tt
within_after_item at_high first = tt
within_after_item (after_operator o) first = tt
within_after_item in_strings first = tt

next_within : (mode : Mode) (q : Place) (t : ClassToken) (rest : List CodePoint) → IsWithin (next_place mode q t rest)
next_within mode q (item a) rest = within_after_item q _
next_within mode q t rest = tt

opened_within : (depth : ℕ) (q : Place) → IsWithin q → depth_after_bracket depth q ≡ suc depth
opened_within depth outside i = absurd i
opened_within depth q i = refl

module _ (e : Environment) where
  -- A row is some units, and what is left.
  pub row_units : (ts : List ClassToken) (q : Place) (us : List CodePoint) (r : Place) (rest : List CodePoint) → ClassTokenRow e ts q us r rest → (w : List CodePoint) × (us ≡ w ++ rest)
  row_units [] q us r rest row = ([], row.1)
  row_units (t ∷ ts) q us r rest row =
      let f = row_units ts (next_place e.mode q t row.1) row.1 r rest row.4 in (row.0 ++ f.0, row.2 ∙ ap (λ more. row.0 ++ more) f.1 ∙ sym (append_assoc row.0 f.0 rest))

  -- A row of tokens falls apart into two, and two are one.
  pub class_row_split : (ts ss : List ClassToken) (q : Place) (us : List CodePoint) (r : Place) (rest : List CodePoint) → ClassTokenRow e (ts ++ ss) q us r rest →
      (p : Place) × (more : List CodePoint) × ClassTokenRow e ts q us p more × ClassTokenRow e ss p more r rest
  class_row_split [] ss q us r rest row = (q, us, (refl, refl), row)
  class_row_split (t ∷ ts) ss q us r rest row =
      let s = class_row_split ts ss (next_place e.mode q t row.1) row.1 r rest row.4 in (s.0, s.1, (row.0, row.1, row.2, row.3, s.2), s.3)

  pub class_row_append : (ts ss : List ClassToken) (q : Place) (us : List CodePoint) (p : Place) (more : List CodePoint) (r : Place) (rest : List CodePoint) → ClassTokenRow e ts q us p more → ClassTokenRow e ss p more r rest →
      ClassTokenRow e (ts ++ ss) q us r rest
  class_row_append [] ss q us p more r rest row next = subst (λ q. ClassTokenRow e ss q us r rest) (sym row.0) (subst (λ v. ClassTokenRow e ss p v r rest) (sym row.1) next)
  class_row_append (t ∷ ts) ss q us p more r rest row next = (row.0, row.1, row.2, row.3, class_row_append ts ss (next_place e.mode q t row.1) row.1 p more r rest row.4 next)

  abbrev pub OfClass : List ClassToken → Option NestedPlace → List CodePoint → Option NestedPlace → List CodePoint → Type 0
  OfClass = ElementRow (SpellsOfClass e) (after_of_class e)

  -- A row of tokens inside the class, as a list of elements.
  inside_row : (ts : List ClassToken) (depth after : ℕ) (q : Place) (us : List CodePoint) (r : Place) (rest : List CodePoint) → nests ts depth ≡ Some after → IsWithin q → ClassTokenRow e ts q us r rest →
      OfClass ts (Some (depth, q)) us (Some (after, r)) rest
  inside_row [] depth after q us r rest n i row = (ap₂ (λ depth q. Some (depth, q)) (let same : depth ≡ after = cc n in same) row.0, row.1)
  inside_row ((bracket negative) ∷ ts) depth after q us r rest n i row = (
    row.0,
    row.1,
    row.2,
    row.3,
    subst (λ depth. OfClass ts (Some (depth, fresh)) row.1 (Some (after, r)) rest) (sym (opened_within depth q i)) (inside_row ts (suc depth) after fresh row.1 r rest n tt row.4),
  )
  inside_row (closer ∷ ts) zero after q us r rest n i row = absurd (let no : ⊥ = cc n in no)
  inside_row (closer ∷ ts) (suc depth) after q us r rest n i row = (row.0, row.1, row.2, row.3, inside_row ts depth after fresh row.1 r rest n tt row.4)
  inside_row (t ∷ ts) depth after q us r rest n i row = (row.0, row.1, row.2, row.3, inside_row ts depth after (next_place e.mode q t row.1) row.1 r rest n (next_within e.mode q t row.1) row.4)

  elements_append : (ts ss : List ClassToken) (q : Option NestedPlace) (us : List CodePoint) (p : Option NestedPlace) (more : List CodePoint) (r : Option NestedPlace) (rest : List CodePoint) →
      OfClass ts q us p more → OfClass ss p more r rest → OfClass (ts ++ ss) q us r rest
  elements_append [] ss q us p more r rest row next = subst (λ q. OfClass ss q us r rest) (sym row.0) (subst (λ v. OfClass ss p v r rest) (sym row.1) next)
  elements_append (t ∷ ts) ss q us p more r rest row next = (row.0, row.1, row.2, row.3, elements_append ts ss (after_of_class e q t row.1) row.1 p more r rest row.4 next)

  -- what stands in a class's own bracket, and its closer
  contents_end : (contents : List ClassToken) (us rest : List CodePoint) → IsBalanced contents → ClassTokenRow e (contents ++ (closer ∷ [])) fresh us fresh rest → OfClass (contents ++ (closer ∷ [])) (Some (0, fresh)) us None rest
  contents_end contents us rest balanced row =
      let s = class_row_split contents (closer ∷ []) fresh us fresh rest row in
      let last = s.3 in
      elements_append contents (closer ∷ []) (Some (0, fresh)) us (Some (0, s.0)) s.1 None rest
      (inside_row contents 0 0 fresh us s.0 s.1 (ap (λ ts. nests ts 0) (sym (append-nil contents)) ∙ balanced [] 0) tt s.2)
      (last.0, last.1, last.2, last.3, (refl, last.4.1))

  -- The tokens of a class lead to after its closer.
  pub class_ends : (c : Class) (w rest : List CodePoint) → IsClass e c w rest → OfClass (class_tokens c) (Some (0, outside)) (w ++ rest) None rest
  class_ends (class s negative may kind ms) w rest is =
      let contents = contents_tokens (between_by kind) ms in
      let tokens_are = class_tokens_by s negative may kind ms in
      let row : ClassTokenRow e (bracket negative ∷ (contents ++ (closer ∷ []))) outside (w ++ rest) fresh rest = subst (λ ts. ClassTokenRow e ts outside (w ++ rest) fresh rest) tokens_are is.row in
      let balanced : IsBalanced contents = subst IsBalanced (contents_are (operator_events kind) ms) (contents_balanced kind ms) in
      subst (λ ts. OfClass ts (Some (0, outside)) (w ++ rest) None rest) (sym tokens_are) (row.0, row.1, row.2, row.3, contents_end contents row.1 rest balanced row.4)

  -- Where there is no place no token stands.
  pub none_after_end : (ts : List ClassToken) (us : List CodePoint) (r : Option NestedPlace) (rest : List CodePoint) → OfClass ts None us r rest → (ts ≡ []) × (us ≡ rest)
  none_after_end [] us r rest row = (refl, row.1)
  none_after_end (t ∷ ts) us r rest row = absurd row.3

  -- Tokens that lead to after the closer are a row of tokens.
  pub row_of_elements : (ts : List ClassToken) (depth : ℕ) (q : Place) (us rest : List CodePoint) → OfClass ts (Some (depth, q)) us None rest → ClassTokenRow e ts q us fresh rest
  row_of_elements [] depth q us rest row = absurd (let same = row.0 in let no : ⊥ = cc same in no)
  row_of_elements ((bracket negative) ∷ ts) depth q us rest row = (row.0, row.1, row.2, row.3, row_of_elements ts (depth_after_bracket depth q) fresh row.1 rest row.4)
  row_of_elements (closer ∷ ts) zero q us rest row =
      let n = none_after_end ts row.1 None rest row.4 in
      (row.0, row.1, row.2, row.3, subst (λ ts. ClassTokenRow e ts fresh row.1 fresh rest) (sym n.0) (refl, n.1))
  row_of_elements (closer ∷ ts) (suc depth) q us rest row = (row.0, row.1, row.2, row.3, row_of_elements ts depth fresh row.1 rest row.4)
  row_of_elements (t ∷ ts) depth q us rest row = (row.0, row.1, row.2, row.3, row_of_elements ts depth (next_place e.mode q t row.1) row.1 rest row.4)
