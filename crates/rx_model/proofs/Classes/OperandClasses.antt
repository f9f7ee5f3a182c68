-- A class with `v` is made of the items of a union, or of the operands of an intersection or a subtraction; and these in brackets are a class.
use Rattle.std.proofs.Common.{◌≡◌, ◌≢◌, ◌⊎◌, refl, sym, ap, ap₂, ◌∙◌, subst, ℕ, ◌==◌, Bool, true, false, not, List, [], ◌∷◌, ◌++◌, length, append_assoc, inl, inr}
use Rattle.std.specs.Prelude.{All, map}
use Rattle.std.proofs.lemmas.List.Elements.{All-cons, All-nil}
use Rattle.std.specs.List.{list_any}
use Rattle.rx_base.specs.declared.diagnostic.kinds.SetOperator.{SetOperator}
use Rattle.rx_base.specs.declared.diagnostic.kinds.SetOperator.TheVariants as set
use Rattle.rx_ast.specs.declared.leaf.Character.{Character}
use Rattle.rx_ast.specs.declared.class.CharacterClassContentsKind.{CharacterClassContentsKind}
use Rattle.rx_ast.specs.declared.class.CharacterClassContentsKind.TheVariants.{Union, Intersection, Subtraction}
use Rattle.rx_ast.specs.declared.class.ClassString.{ClassString}
use Rattle.rx_ast.specs.ClassTree.{Class, Member, Members, class, member, members, no_member}
use Rattle.rx_ast.specs.ClassTree as tree
use Rattle.rx_ast.specs.Forget.{forget_character, forget_class, forget_member, forget_members, forget_string, nowhere, same_kind}
use Rattle.rx_base.specs.declared.span.Span.{Span}
use Rattle.rx_units.specs.declared.code_point.CodePoint.{CodePoint}
use Rattle.rx_units.specs.Units.{values}
use Rattle.rx_model.specs.Classes.ClassBrackets.{class_of_members}
use Rattle.rx_model.specs.Classes.ClassFromTokens.{string_of, strings_member}
use Rattle.rx_model.specs.Classes.ClassOperands.{IsClassOfOperands, IsClassOfUnion, SpellsFurtherOperand, SpellsOperator, SpellsUnionItem, SpellsWholeOperand, of_atom, of_class, of_operand, of_operator, of_range, of_strings}
use Rattle.rx_model.specs.Classes.ClassRows.{BeforeHigh, ClassTokenRow, IsClass, Place, SpellsBracket, fresh, outside}
use Rattle.rx_model.specs.Classes.ClassShapes.{AreOperands, AreTwo, IsOperand}
use Rattle.rx_model.specs.Classes.ClassStrings.{BarredRow, SpellsBarredString, SpellsSetCharacter, SpellsStrings, StringRow, of_bar, of_character}
use Rattle.rx_model.specs.Classes.ClassTokens.{ClassToken, bracket, character, closer, contents_kind, operator}
use Rattle.rx_model.specs.FirstPass.Marks.{starts}
use Rattle.rx_model.specs.Inputs.Environment.{Environment, is_sets}
use Rattle.rx_units.specs.Sequences.{ElementRow}
use Rattle.rx_model.specs.Trees.Early.{IsFlaggedString, may_contain_strings}
use Rattle.rx_model.proofs.Classes.ClassBrackets.{class_in_brackets}
use Rattle.rx_model.proofs.Classes.TokensOfBuilt.{ArePlain, IsPlainMember, atom_operand, atom_plain, fits_kind}
use Rattle.rx_model.proofs.Classes.ClassFlags.{atom_flagged}
use Rattle.rx_model.proofs.Classes.ClassEnds.{class_row_append, class_row_split}
use Rattle.rx_model.proofs.Classes.ClassFronts.{no_set_atom, single, text_of}
use Rattle.rx_model.proofs.Classes.ClassOperands.{atom_there}
use Rattle.rx_model.proofs.Classes.ClassShapes.{between_by, between_is, class_tokens_by, contents_tokens, further_tokens, operand_tokens}
use Rattle.rx_model.proofs.Classes.OperandTokens.{enters_fresh, further_row, further_stands, item_row, item_stands, operand_row, operand_stands}
use Rattle.rx_model.proofs.Classes.PieceClasses.{union_tokens}

plain_parts : (m : Member) (ms : Members) → ArePlain (member m ms) → IsPlainMember m × ArePlain ms
plain_parts m ms all =
    let plain = all.plain in (
      record { fits = all.fitting.0; flagged = all.flagged.0; plain = (let same : forget_member same_kind m ≡ m = cc plain in same) },
      record { fitting = all.fitting.1; flagged = all.flagged.1; plain = (let same : forget_members same_kind ms ≡ ms = cc plain in same) },
    )

-- A class without spans, with the right flag and of these members, is the class of them.
class_by_members : (s : Span) (negative may : Bool) (kind : CharacterClassContentsKind) (ms : Members) (list : List Member) → forget_class same_kind (class s negative may kind ms) ≡ class s negative may kind ms →
    may ≡ may_contain_strings kind ms → ms ≡ members list → class s negative may kind ms ≡ class_of_members negative kind list
class_by_members s negative may kind ms list plain flag are =
    let same : forget_members same_kind ms ≡ ms = cc plain in
    sym plain ∙ ap (class nowhere negative may kind) same ∙ ap (λ may. class nowhere negative may kind ms) flag ∙ ap (λ ms. class nowhere negative (may_contain_strings kind ms) kind ms) are

two_of : (m : Member) (ms : List Member) → ms ≢ [] → AreTwo (member m (members ms))
two_of m [] some = absurd (some refl)
two_of m (n ∷ ms) some = tt

module _ (e : Environment) where
  -- What is spelled has no spans, and what a class owes to the grammar.
  character_plain : (c : Character) (w rest : List CodePoint) → SpellsSetCharacter e c w rest → forget_character same_kind c ≡ c
  character_plain _ _ _ (of_character m s) = refl

  letters_plain : (cs : List Character) (us rest : List CodePoint) → StringRow e cs us rest → map (forget_character same_kind) cs ≡ cs
  letters_plain [] us rest row = refl
  letters_plain (c ∷ cs) us rest row = ap₂ (λ c cs. c ∷ cs) (character_plain c row.0 row.1 row.3) (letters_plain cs row.1 rest row.4)

  string_plain : (cs : List Character) (us rest : List CodePoint) → StringRow e cs us rest → forget_string same_kind (string_of cs) ≡ string_of cs
  string_plain cs us rest row = ap (λ body. record { span = nowhere; strings = not (length cs == 1); body = body }) (letters_plain cs us rest row)

  barred_plain : (s : ClassString) (w rest : List CodePoint) → SpellsBarredString e s w rest → IsFlaggedString s × (forget_string same_kind s ≡ s)
  barred_plain _ _ rest (of_bar bar cs w is row ends) = (refl, string_plain cs (w ++ rest) rest row)

  all_barred_plain : (ss : List ClassString) (us rest : List CodePoint) → BarredRow e ss us rest → All IsFlaggedString ss × (map (forget_string same_kind) ss ≡ ss)
  all_barred_plain [] us rest row = (All-nil IsFlaggedString, refl)
  all_barred_plain (s ∷ ss) us rest row =
      let first = barred_plain s row.0 row.1 row.3 in
      let more = all_barred_plain ss row.1 rest row.4 in
      (All-cons IsFlaggedString s ss first.0 more.0, ap₂ (λ s ss. s ∷ ss) first.1 more.1)

  strings_plain : (ss : List ClassString) (w rest : List CodePoint) → SpellsStrings e ss w rest → IsPlainMember (strings_member ss)
  strings_plain ss w rest s =
      let more = all_barred_plain s.more s.further (s.closer ∷ rest) s.more_row in
      let first = string_of s.first in
      let plain : map (forget_string same_kind) (first ∷ s.more) ≡ first ∷ s.more = ap₂ (λ s ss. s ∷ ss) (string_plain s.first s.inside s.further s.first_row) more.1 in
      subst (λ ss. IsPlainMember (strings_member ss)) (sym s.strings_are) (record {
        fits = λ h. let no : ⊥ = cc h in no;
        flagged = (refl, All-cons IsFlaggedString first s.more refl more.0);
        plain = ap (λ body. tree.strings (record { span = nowhere; strings = list_any (λ s. s.strings) (first ∷ s.more); body = body })) plain;
      })

  operand_plain : (m : Member) (w rest : List CodePoint) → SpellsWholeOperand e m w rest → IsPlainMember m
  operand_plain _ w rest (of_atom a s) = atom_plain a (atom_flagged e a w rest s)
  operand_plain _ w rest (of_class c m is) = record { fits = is.shape.0; flagged = is.shape.1; plain = ap tree.nested is.no_spans }
  operand_plain _ w rest (of_strings ss s) = strings_plain ss w rest s

  operand_is : (m : Member) (w rest : List CodePoint) → SpellsWholeOperand e m w rest → IsOperand m
  operand_is _ w rest (of_atom a s) = atom_operand a
  operand_is _ w rest (of_class c m is) = tt
  operand_is _ w rest (of_strings ss s) = tt

  item_plain : (m : Member) (w rest : List CodePoint) → SpellsUnionItem e m w rest → IsPlainMember m
  item_plain _ _ rest (of_range low hyphen high s is t) = record { fits = tt; flagged = tt; plain = refl }
  item_plain m w rest (of_operand s none) = operand_plain m w rest s

  further_is : (o : SetOperator) (m : Member) (w rest : List CodePoint) → SpellsFurtherOperand e o m w rest → IsPlainMember m × IsOperand m
  further_is o m _ rest (of_operator front w is s) = (operand_plain m w rest s, operand_is m w rest s)

  abbrev ItemRow : List Member → List CodePoint → List CodePoint → Type 0
  ItemRow ms us rest = ElementRow {Place = Unit {0}} (λ q. SpellsUnionItem e) (λ q m more. tt) ms tt us tt rest

  abbrev FurtherRow : SetOperator → List Member → List CodePoint → List CodePoint → Type 0
  FurtherRow o ms us rest = ElementRow {Place = Unit {0}} (λ q. SpellsFurtherOperand e o) (λ q m more. tt) ms tt us tt rest

  items_plain : (ms : List Member) (us rest : List CodePoint) → ItemRow ms us rest → All IsPlainMember ms
  items_plain [] us rest row = All-nil IsPlainMember
  items_plain (m ∷ ms) us rest row = All-cons IsPlainMember m ms (item_plain m row.0 row.1 row.3) (items_plain ms row.1 rest row.4)

  all_further : (o : SetOperator) (ms : List Member) (us rest : List CodePoint) → FurtherRow o ms us rest → All IsPlainMember ms × AreOperands (members ms)
  all_further o [] us rest row = (All-nil IsPlainMember, tt)
  all_further o (m ∷ ms) us rest row =
      let first = further_is o m row.0 row.1 row.3 in
      let more = all_further o ms row.1 rest row.4 in
      (All-cons IsPlainMember m ms first.0 more.0, (first.1, more.1))

  module _ (sets : is_sets e.mode ≡ true) where
    -- spelled → tokens
    items_tokens : (ms : List Member) (us rest : List CodePoint) → ItemRow ms us rest → ClassTokenRow e (further_tokens [] (members ms)) fresh us fresh rest
    items_tokens [] us rest row = (refl, row.1)
    items_tokens (m ∷ ms) us rest row =
        class_row_append e (operand_tokens m) (further_tokens [] (members ms)) fresh us fresh row.1 fresh rest
        (subst (λ us. ClassTokenRow e (operand_tokens m) fresh us fresh row.1) (sym row.2) (item_row e sets m row.0 row.1 row.3)) (items_tokens ms row.1 rest row.4)

    further_row_tokens : (o : SetOperator) (ms : List Member) (us rest : List CodePoint) → FurtherRow o ms us rest → ClassTokenRow e (further_tokens (operator o ∷ []) (members ms)) fresh us fresh rest
    further_row_tokens o [] us rest row = (refl, row.1)
    further_row_tokens o (m ∷ ms) us rest row =
        class_row_append e (operator o ∷ operand_tokens m) (further_tokens (operator o ∷ []) (members ms)) fresh us fresh row.1 fresh rest
        (subst (λ us. ClassTokenRow e (operator o ∷ operand_tokens m) fresh us fresh row.1) (sym row.2) (further_row e sets o m row.0 row.1 row.3)) (further_row_tokens o ms row.1 rest row.4)

    -- No range goes on with an operator.
    no_high_at : (us : List CodePoint) (v : List ℕ) → ((values us ≡ 38 ∷ v) ⊎ (values us ≡ 45 ∷ 45 ∷ v)) → BeforeHigh e us → ⊥
    no_high_at us v (inl h) b =
        let no : true ≡ false = sym (ap (λ c. c == 45) b.hyphen_is) ∙ ap (λ us. starts 45 (values us)) (sym b.whole) ∙ ap (starts 45) h in
        let k : ⊥ = cc no in k
    no_high_at us v (inr h) b =
        let text = sym (ap values b.whole) ∙ h in
        let back : values (b.w ++ b.more) ≡ 45 ∷ v = cc text in
        atom_there e (b.w ++ b.more) (no_set_atom e (b.w ++ b.more) 45 v sets back refl refl) (character b.kind b.value) b.w b.more refl b.spelled

    operator_no_high : (o : SetOperator) (front rest more : List CodePoint) → SpellsOperator o front rest → BeforeHigh e (front ++ more) → ⊥
    operator_no_high set.Intersection front rest more s b = no_high_at (front ++ more) (38 ∷ values more) (inl (text_of front more (38 ∷ 38 ∷ []) s.0)) b
    operator_no_high set.Subtraction front rest more s b = no_high_at (front ++ more) (values more) (inr (text_of front more (45 ∷ 45 ∷ []) s.0)) b

    further_no_high : (o : SetOperator) (m : Member) (w rest : List CodePoint) → SpellsFurtherOperand e o m w rest → BeforeHigh e (w ++ rest) → ⊥
    further_no_high o m _ rest (of_operator front w is s) b = operator_no_high o front (w ++ rest) (w ++ rest) is (subst (BeforeHigh e) (append_assoc front w rest) b)

    row_no_high : (o : SetOperator) (ms : List Member) (us rest : List CodePoint) → ms ≢ [] → FurtherRow o ms us rest → BeforeHigh e us → ⊥
    row_no_high o [] us rest some row b = some refl
    row_no_high o (m ∷ ms) us rest some row b = further_no_high o m row.0 row.1 row.3 (subst (BeforeHigh e) row.2 b)

    union_is_class : (c : Class) (w rest : List CodePoint) → IsClassOfUnion e c w rest → IsClass e c w rest
    union_is_class c w rest of =
        let b = of.brackets in
        let row = subst (λ ts. ClassTokenRow e ts fresh b.inside fresh (b.closer ∷ rest)) (sym (union_tokens (members of.items))) (items_tokens of.items b.inside (b.closer ∷ rest) of.row) in
        subst (λ c. IsClass e c w rest) (sym of.class_is) (class_in_brackets e of.negative Union of.items w rest b tt (items_plain of.items b.inside (b.closer ∷ rest) of.row) row)

    operands_are_class : (o : SetOperator) (c : Class) (w rest : List CodePoint) → IsClassOfOperands e o c w rest → IsClass e c w rest
    operands_are_class o c w rest of =
        let b = of.brackets in
        let kind = contents_kind o in
        let others = all_further o of.more of.further (b.closer ∷ rest) of.row in
        let first =
        operand_row e sets fresh tt of.first of.front of.further of.first_is (enters_fresh e sets of.first of.front of.further of.first_is (λ i. row_no_high o of.more of.further (b.closer ∷ rest) of.some_more of.row)) in
        let row =
        class_row_append e (operand_tokens of.first) (further_tokens (operator o ∷ []) (members of.more)) fresh b.inside fresh of.further fresh (b.closer ∷ rest)
        (subst (λ us. ClassTokenRow e (operand_tokens of.first) fresh us fresh of.further) (sym of.whole) first) (further_row_tokens o of.more of.further (b.closer ∷ rest) of.row) in
        subst (λ c. IsClass e c w rest) (sym of.class_is)
        (class_in_brackets e of.negative kind (of.first ∷ of.more) w rest b
        (fits_kind kind (members (of.first ∷ of.more)) (two_of of.first of.more of.some_more) (operand_is of.first of.front of.further of.first_is, others.1))
        (All-cons IsPlainMember of.first of.more (operand_plain of.first of.front of.further of.first_is) others.0)
        (subst (λ between. ClassTokenRow e (contents_tokens between (members (of.first ∷ of.more))) fresh b.inside fresh (b.closer ∷ rest)) (sym (between_is o)) row))

    -- tokens → spelled
    record Items (ms : Members) (us : List CodePoint) (p : Place) (more : List CodePoint) : Type 0 where
      items : List Member
      are : ms ≡ members items
      row : ItemRow items us more
      ends : p ≡ fresh

    items_found : (ms : Members) → ArePlain ms → (us : List CodePoint) (p : Place) (more : List CodePoint) → ClassTokenRow e (further_tokens [] ms) fresh us p more → Items ms us p more
    items_found no_member plain us p more row = record { items = []; are = refl; row = (refl, row.1); ends = sym row.0 }
    items_found (member m ms) plain us p more row =
        let parts = plain_parts m ms plain in
        let s = class_row_split e (operand_tokens m) (further_tokens [] ms) fresh us p more row in
        let first = item_stands e sets m parts.0 us s.0 s.1 s.2 in
        let others = items_found ms parts.1 s.1 p more (subst (λ q. ClassTokenRow e (further_tokens [] ms) q s.1 p more) first.3 s.3) in
        record { items = m ∷ others.items; are = ap (member m) others.are; row = (first.0, s.1, first.1, first.2, others.row); ends = others.ends }

    record Others (o : SetOperator) (ms : Members) (us : List CodePoint) (p : Place) (more : List CodePoint) : Type 0 where
      operands : List Member
      are : ms ≡ members operands
      row : FurtherRow o operands us more
      ends : p ≡ fresh

    others_found : (o : SetOperator) (ms : Members) → ArePlain ms → AreOperands ms → (us : List CodePoint) (p : Place) (more : List CodePoint) → ClassTokenRow e (further_tokens (operator o ∷ []) ms) fresh us p more → Others o ms us p more
    others_found o no_member plain os us p more row = record { operands = []; are = refl; row = (refl, row.1); ends = sym row.0 }
    others_found o (member m ms) plain os us p more row =
        let parts = plain_parts m ms plain in
        let s = class_row_split e (operator o ∷ operand_tokens m) (further_tokens (operator o ∷ []) ms) fresh us p more row in
        let first = further_stands e sets o m parts.0 os.0 us s.0 s.1 s.2 in
        let others = others_found o ms parts.1 os.1 s.1 p more (subst (λ q. ClassTokenRow e (further_tokens (operator o ∷ []) ms) q s.1 p more) first.3 s.3) in
        record { operands = m ∷ others.operands; are = ap (member m) others.are; row = (first.0, s.1, first.1, first.2, others.row); ends = others.ends }

    closes : (p : Place) (us rest : List CodePoint) → p ≡ fresh → ClassTokenRow e (closer ∷ []) p us fresh rest → (u : CodePoint) × (us ≡ u ∷ rest) × (u.value ≡ 93)
    closes p us rest is row = at_fresh (subst (λ p. ClassTokenRow e (closer ∷ []) p us fresh rest) is row)
      where
        at_fresh : ClassTokenRow e (closer ∷ []) fresh us fresh rest → (u : CodePoint) × (us ≡ u ∷ rest) × (u.value ≡ 93)
        at_fresh row = let u = single row.0 93 row.3 in (u.0, row.2 ∙ ap₂ (λ w more. w ++ more) u.1 row.4.1, u.2)

    -- the contents of a class, in its brackets
    record Inside (negative : Bool) (contents : List ClassToken) (w rest : List CodePoint) : Type 0 where
      bracket : List CodePoint
      inside : List CodePoint
      whole : w ++ rest ≡ bracket ++ inside
      bracket_is : SpellsBracket negative bracket inside
      place : Place
      back : List CodePoint
      row : ClassTokenRow e contents fresh inside place back
      end : ClassTokenRow e (closer ∷ []) place back fresh rest

    inside_of : (s : Span) (negative may : Bool) (kind : CharacterClassContentsKind) (ms : Members) (w rest : List CodePoint) → IsClass e (class s negative may kind ms) w rest →
        Inside negative (contents_tokens (between_by kind) ms) w rest
    inside_of s negative may kind ms w rest is =
        let contents = contents_tokens (between_by kind) ms in
        let row : ClassTokenRow e (bracket negative ∷ (contents ++ (closer ∷ []))) outside (w ++ rest) fresh rest =
        subst (λ ts. ClassTokenRow e ts outside (w ++ rest) fresh rest) (class_tokens_by s negative may kind ms) is.row in
        let s = class_row_split e contents (closer ∷ []) fresh row.1 fresh rest row.4 in
        record { bracket = row.0; inside = row.1; whole = row.2; bracket_is = row.3; place = s.0; back = s.1; row = s.2; end = s.3 }

    members_plain : (s : Span) (negative may : Bool) (kind : CharacterClassContentsKind) (ms : Members) (w rest : List CodePoint) → IsClass e (class s negative may kind ms) w rest → ArePlain ms
    members_plain s negative may kind ms w rest is =
        let plain = is.no_spans in record { fitting = is.shape.0.1; flagged = is.shape.1.1; plain = (let same : forget_members same_kind ms ≡ ms = cc plain in same) }

    union_made : (s : Span) (negative may : Bool) (ms : Members) (w rest : List CodePoint) → IsClass e (class s negative may Union ms) w rest → IsClassOfUnion e (class s negative may Union ms) w rest
    union_made s negative may ms w rest is =
        let i = inside_of s negative may Union ms w rest is in
        let f = items_found ms (members_plain s negative may Union ms w rest is) i.inside i.place i.back (subst (λ ts. ClassTokenRow e ts fresh i.inside i.place i.back) (union_tokens ms) i.row) in
        let z = closes i.place i.back rest f.ends i.end in
        record {
          negative = negative;
          brackets = record { bracket = i.bracket; inside = i.inside; closer = z.0; whole = i.whole; bracket_is = i.bracket_is; closer_is = z.2 };
          items = f.items;
          row = subst (ItemRow f.items i.inside) z.1 f.row;
          class_is = class_by_members s negative may Union ms f.items is.no_spans is.shape.1.0 f.are;
        }

    operands_made : (o : SetOperator) (s : Span) (negative may : Bool) (ms : Members) → AreTwo ms → AreOperands ms → (w rest : List CodePoint) → IsClass e (class s negative may (contents_kind o) ms) w rest →
        IsClassOfOperands e o (class s negative may (contents_kind o) ms) w rest
    operands_made o s negative may no_member two os w rest is = absurd two
    operands_made o s negative may (member m ms) two os w rest is =
        let kind = contents_kind o in
        let i = inside_of s negative may kind (member m ms) w rest is in
        let parts = plain_parts m ms (members_plain s negative may kind (member m ms) w rest is) in
        let ts = further_tokens (operator o ∷ []) ms in
        let r = class_row_split e (operand_tokens m) ts fresh i.inside i.place i.back (subst (λ between. ClassTokenRow e (contents_tokens between (member m ms)) fresh i.inside i.place i.back) (between_is o) i.row) in
        let first = operand_stands e sets fresh tt m parts.0 os.0 i.inside r.0 r.1 r.2 in
        let f = others_found o ms parts.1 os.1 r.1 i.place i.back (subst (λ q. ClassTokenRow e ts q r.1 i.place i.back) first.3 r.3) in
        let z = closes i.place i.back rest f.ends i.end in
        record {
          negative = negative;
          brackets = record { bracket = i.bracket; inside = i.inside; closer = z.0; whole = i.whole; bracket_is = i.bracket_is; closer_is = z.2 };
          first = m;
          front = first.0;
          further = r.1;
          whole = first.1;
          first_is = first.2;
          more = f.operands;
          some_more = λ none. subst (λ ms. AreTwo (member m ms)) (f.are ∙ ap members none) two;
          row = subst (FurtherRow o f.operands r.1) z.1 f.row;
          class_is = class_by_members s negative may kind (member m ms) (m ∷ f.operands) is.no_spans is.shape.1.0 (ap (member m) f.are);
        }

    pub is_made : (c : Class) (w rest : List CodePoint) → IsClass e c w rest → IsClassOfUnion e c w rest ⊎ ((o : SetOperator) × IsClassOfOperands e o c w rest)
    is_made (class s negative may Union ms) w rest is = inl (union_made s negative may ms w rest is)
    is_made (class s negative may Intersection ms) w rest is = inr (set.Intersection, operands_made set.Intersection s negative may ms is.shape.0.0.0 is.shape.0.0.1 w rest is)
    is_made (class s negative may Subtraction ms) w rest is = inr (set.Subtraction, operands_made set.Subtraction s negative may ms is.shape.0.0.0 is.shape.0.0.1 w rest is)

    pub made_is : (c : Class) (w rest : List CodePoint) → IsClassOfUnion e c w rest ⊎ ((o : SetOperator) × IsClassOfOperands e o c w rest) → IsClass e c w rest
    made_is c w rest (inl of) = union_is_class c w rest of
    made_is c w rest (inr (o, of)) = operands_are_class o c w rest of
