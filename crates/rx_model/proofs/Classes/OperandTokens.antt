-- What stands in a class with `v` is spelled exactly as its tokens are: operands, the items of a union, and operands with the operator before each.
use Rattle.std.proofs.Common.{◌≡◌, refl, sym, ap, ◌∙◌, subst, ◌&&◌, true, false, List, [], ◌∷◌, ◌++◌, append_assoc, inl, inr}
use Rattle.std.specs.Prelude.{map}
use Rattle.std.proofs.Math.Bool.{and-false}
use Rattle.std.specs.List.{list_any}
use Rattle.rx_base.specs.declared.diagnostic.kinds.SetOperator.{SetOperator}
use Rattle.rx_ast.specs.declared.class.ClassString.{ClassString}
use Rattle.rx_ast.specs.declared.class.ClassStringDisjunction.{ClassStringDisjunction}
use Rattle.rx_ast.specs.ClassTree.{Class, Member, class}
use Rattle.rx_ast.specs.ClassTree as tree
use Rattle.rx_ast.specs.Forget.{forget_class, forget_string, nowhere, same_kind}
use Rattle.rx_units.specs.declared.code_point.CodePoint.{CodePoint}
use Rattle.rx_units.specs.Units.{values}
use Rattle.rx_model.specs.Classes.ClassFromTokens.{atom_member, range_member, strings_member, string_of}
use Rattle.rx_model.specs.Classes.ClassOperands.{IsCharacter, SpellsFurtherOperand, SpellsUnionItem, SpellsWholeOperand, of_atom, of_class, of_operand, of_operator, of_range, of_strings}
use Rattle.rx_model.specs.Classes.ClassPieces as pieces
use Rattle.rx_model.specs.Classes.ClassRows.{BeforeHigh, ClassTokenRow, IsClass, Place, SpellsAtom, SpellsClassCharacter, SpellsInClass, SpellsOperand, StandsBefore, next_place, following_item, after_operator, fresh, has_threes, is_dashed, may_follow_operator, outside}
use Rattle.rx_model.specs.Classes.ClassShapes.{IsOperand}
use Rattle.rx_model.specs.Classes.ClassTokens.{Atom, ClassToken, bracket, character, closer, dash, escape, high, is_character, item, low, operator, property, strings}
use Rattle.rx_model.specs.Inputs.Environment.{Environment, is_sets}
use Rattle.rx_model.proofs.Classes.ClassFromTokens.{strings_member_is}
use Rattle.rx_model.proofs.Classes.TokensOfBuilt.{IsPlainMember, atom_tokens}
use Rattle.rx_model.proofs.Classes.ClassEnds.{class_row_split, row_units}
use Rattle.rx_model.proofs.Classes.ClassFronts.{follows_front, operand_some, sets_is, single}
use Rattle.rx_model.proofs.Classes.ClassOperands.{one_operand}
use Rattle.rx_model.proofs.Classes.ClassShapes.{between_by, class_tokens_by, contents_tokens, operand_tokens}
use Rattle.rx_model.proofs.Classes.OneAtom.{dashed}
use Rattle.rx_model.proofs.Classes.PieceClasses.{piece_row}
use Rattle.rx_model.proofs.Classes.StringTokens.{inside_row, is_spelled_from, tokens_are}

-- a place where an operand may stand
abbrev pub TakesOperand : Place → Type 0
TakesOperand fresh = Unit {0}
TakesOperand (after_operator o) = Unit {0}
TakesOperand q = ⊥

-- the first token of an operand
abbrev IsOpening : ClassToken → Type 0
IsOpening (item a) = Unit {0}
IsOpening (bracket negative) = Unit {0}
IsOpening strings = Unit {0}
IsOpening t = ⊥

character_member : (a : Atom) → is_character a ≡ true → IsCharacter (atom_member a)
character_member (character k v) h = tt
character_member q h = let no : ⊥ = cc h in no

abbrev disjunction : List ClassString → ClassStringDisjunction
disjunction ss = record { span = nowhere; strings = list_any (λ s. s.strings) ss; body = ss }

module _ (e : Environment) (sets : is_sets e.mode ≡ true) where
  no_threes : has_threes e.mode ≡ false
  no_threes = ap has_threes (sets_is e.mode sets)

  after_item : (q : Place) → TakesOperand q → (a : Atom) (more : List CodePoint) → next_place e.mode q (item a) more ≡ fresh
  after_item fresh t a more = ap (λ b. following_item fresh (is_dashed (values more) && b)) no_threes ∙ ap (following_item fresh) (and-false (is_dashed (values more)))
  after_item (after_operator o) t a more = refl
  after_item q t a more = absurd t

  fresh_operand : (t : ClassToken) (w rest : List CodePoint) → IsOpening t → SpellsInClass e fresh t w rest → SpellsOperand e t w rest
  fresh_operand (item a) w rest o s = s.0
  fresh_operand (bracket negative) w rest o s = s.1
  fresh_operand strings w rest o s = s.1
  fresh_operand t w rest o s = absurd o

  opening_operand : (q : Place) (t : ClassToken) (w rest : List CodePoint) → TakesOperand q → IsOpening t → SpellsInClass e q t w rest → SpellsOperand e t w rest
  opening_operand fresh t w rest takes o s = fresh_operand t w rest o s
  opening_operand (after_operator x) t w rest takes o s = s.1
  opening_operand q t w rest takes o s = absurd takes

  -- An operand may begin at the front of these units, at this place.
  abbrev pub Enters : Place → List CodePoint → Type 0
  Enters q us = (t : ClassToken) (w rest : List CodePoint) → us ≡ w ++ rest → SpellsOperand e t w rest → SpellsInClass e q t w rest

  enters_after : (o : SetOperator) (us : List CodePoint) → may_follow_operator o (values us) ≡ true → Enters (after_operator o) us
  enters_after o us follows t w rest h s = (sets, s, sym (follows_front o w rest (operand_some e t w rest s)) ∙ ap (λ us. may_follow_operator o (values us)) (sym h) ∙ follows)

  pub enters_fresh : (m : Member) (v back : List CodePoint) → SpellsWholeOperand e m v back → (IsCharacter m → BeforeHigh e back → ⊥) → Enters fresh (v ++ back)
  enters_fresh m v back operand none (item a) w rest h s =
      let o = one_operand e (atom_member a) m w rest v back (sym h) (of_atom a s) operand in
      (s, inr (inr (record { sets = sets; none = λ c b. none (subst IsCharacter o.0 (character_member a c)) (subst (BeforeHigh e) o.1 b) })))
  enters_fresh m v back operand none (bracket negative) w rest h s = (sets, s)
  enters_fresh m v back operand none strings w rest h s = (sets, s)
  enters_fresh m v back operand none t w rest h s = absurd s

  -- spelled → tokens
  class_row : (q : Place) (c : Class) (w rest : List CodePoint) → IsClass e c w rest → Enters q (w ++ rest) → ClassTokenRow e (operand_tokens (tree.nested c)) q (w ++ rest) fresh rest
  class_row q (class s negative may kind ms) w rest is enters =
      let tokens = class_tokens_by s negative may kind ms in
      let row : ClassTokenRow e (bracket negative ∷ (contents_tokens (between_by kind) ms ++ (closer ∷ []))) outside (w ++ rest) fresh rest = subst (λ ts. ClassTokenRow e ts outside (w ++ rest) fresh rest) tokens is.row in
      subst (λ ts. ClassTokenRow e ts q (w ++ rest) fresh rest) (sym tokens) (row.0, row.1, row.2, enters (bracket negative) row.0 row.1 row.2 row.3, row.4)

  pub operand_row : (q : Place) → TakesOperand q → (m : Member) (w rest : List CodePoint) → SpellsWholeOperand e m w rest → Enters q (w ++ rest) → ClassTokenRow e (operand_tokens m) q (w ++ rest) fresh rest
  operand_row q takes _ w rest (of_atom a s) enters =
      subst (λ ts. ClassTokenRow e ts q (w ++ rest) fresh rest) (atom_tokens a) (w, rest, refl, enters (item a) w rest refl s, (after_item q takes a rest, refl))
  operand_row q takes _ w rest (of_class c m is) enters = class_row q c w rest is enters
  operand_row q takes _ w rest (of_strings ss s) enters =
      subst (λ ts. ClassTokenRow e ts q (w ++ rest) fresh rest) (sym (tokens_are (disjunction ss) (string_of s.first) s.more s.strings_are))
      (s.opener, s.inside, s.whole, enters strings s.opener s.inside s.whole s.opener_is, inside_row e ss w rest s)

  pub item_row : (m : Member) (w rest : List CodePoint) → SpellsUnionItem e m w rest → ClassTokenRow e (operand_tokens m) fresh (w ++ rest) fresh rest
  item_row _ _ rest (of_range {k} {j} {v} {x} first hyphen last s is t) = piece_row e (pieces.range k v j x) (first ++ (hyphen ∷ last)) rest (pieces.of_range first hyphen last s is t)
  item_row m w rest (of_operand s none) = operand_row fresh tt m w rest s (enters_fresh m w rest s none)

  pub further_row : (o : SetOperator) (m : Member) (w rest : List CodePoint) → SpellsFurtherOperand e o m w rest → ClassTokenRow e (operator o ∷ operand_tokens m) fresh (w ++ rest) fresh rest
  further_row o m _ rest (of_operator front w is s) = (front, w ++ rest, append_assoc front w rest, (sets, is.0), operand_row (after_operator o) tt m w rest s (enters_after o (w ++ rest) is.1))

  -- tokens → spelled
  -- A thing stands before these units, from which on others may stand.
  abbrev pub Stands : (List CodePoint → List CodePoint → Type 0) → List CodePoint → Place → List CodePoint → Type 0
  Stands spells us p more = (w : List CodePoint) × (us ≡ w ++ more) × spells w more × (p ≡ fresh)

  atom_stands : (q : Place) → TakesOperand q → (a : Atom) (us : List CodePoint) (p : Place) (more : List CodePoint) → ClassTokenRow e (item a ∷ []) q us p more → Stands (SpellsWholeOperand e (atom_member a)) us p more
  atom_stands q takes a us p more row = (
    row.0,
    row.2 ∙ ap (λ more. row.0 ++ more) row.4.1,
    of_atom a (subst (SpellsAtom e a row.0) row.4.1 (opening_operand q (item a) row.0 row.1 takes tt row.3)),
    sym row.4.0 ∙ after_item q takes a row.1,
  )

  class_stands : (q : Place) → TakesOperand q → (c : Class) → IsPlainMember (tree.nested c) → (us : List CodePoint) (p : Place) (more : List CodePoint) → ClassTokenRow e (operand_tokens (tree.nested c)) q us p more →
      Stands (SpellsWholeOperand e (tree.nested c)) us p more
  class_stands q takes (class s negative may kind ms) plain us p more tokens =
      let c = class s negative may kind ms in
      let contents = contents_tokens (between_by kind) ms in
      let tokens_are = class_tokens_by s negative may kind ms in
      let row : ClassTokenRow e (bracket negative ∷ (contents ++ (closer ∷ []))) q us p more = subst (λ ts. ClassTokenRow e ts q us p more) tokens_are tokens in
      let ends = sym (class_row_split e contents (closer ∷ []) fresh row.1 p more row.4).3.4.0 in
      let units = row_units e (bracket negative ∷ (contents ++ (closer ∷ []))) q us p more row in
      let no_spans = plain.plain in
      let spelled : ClassTokenRow e (bracket negative ∷ (contents ++ (closer ∷ []))) outside us fresh more =
      (row.0, row.1, row.2, opening_operand q (bracket negative) row.0 row.1 takes tt row.3, subst (λ p. ClassTokenRow e (contents ++ (closer ∷ [])) fresh row.1 p more) ends row.4) in (
        units.0,
        units.1,
        of_class c sets (record {
          no_spans = (let same : forget_class same_kind c ≡ c = cc no_spans in same);
          shape = (plain.fits, plain.flagged);
          row = subst (λ ts. ClassTokenRow e ts outside (units.0 ++ more) fresh more) (sym tokens_are) (subst (λ us. ClassTokenRow e (bracket negative ∷ (contents ++ (closer ∷ []))) outside us fresh more) units.1 spelled);
        }),
        ends,
      )

  abbrev body_of : Member → List ClassString
  body_of (tree.strings d) = d.body
  body_of m = []

  pub operand_stands : (q : Place) → TakesOperand q → (m : Member) → IsPlainMember m → IsOperand m → (us : List CodePoint) (p : Place) (more : List CodePoint) → ClassTokenRow e (operand_tokens m) q us p more →
      Stands (SpellsWholeOperand e m) us p more
  operand_stands q takes (tree.range r) plain o us p more row = absurd o
  operand_stands q takes (tree.escape x) plain o us p more row = subst (λ m. Stands (SpellsWholeOperand e m) us p more) plain.plain (atom_stands q takes (escape x.kind) us p more row)
  operand_stands q takes (tree.property x) plain o us p more row =
      subst (λ m. Stands (SpellsWholeOperand e m) us p more) plain.plain (atom_stands q takes (property x.negative x.strings x.name x.value) us p more row)
  operand_stands q takes (tree.character c) plain o us p more row = subst (λ m. Stands (SpellsWholeOperand e m) us p more) plain.plain (atom_stands q takes (character c.kind c.value) us p more row)
  operand_stands q takes (tree.nested c) plain o us p more row = class_stands q takes c plain us p more row
  operand_stands q takes (tree.strings d) plain o us p more row =
      let units = row_units e (operand_tokens (tree.strings d)) q us p more row in
      let s =
      is_spelled_from e d plain.fits plain.flagged plain.plain units.0 row.0 row.1 p more sets (sym units.1 ∙ row.2) (opening_operand q strings row.0 row.1 takes tt row.3) _ refl row.4 in
      let body : map (forget_string same_kind) d.body ≡ d.body = ap body_of plain.plain in
      (units.0, units.1, subst (λ m. SpellsWholeOperand e m units.0 more) (ap strings_member (sym body) ∙ strings_member_is d plain.flagged.0 ∙ plain.plain) (of_strings d.body s.0), s.1)

  -- A character of a class before a `-` and a character is no item.
  before_no_high : (a : Atom) (rest : List CodePoint) → is_character a ≡ true → StandsBefore e a rest → BeforeHigh e rest → ⊥
  before_no_high a rest c (inl d) b =
      let no : true ≡ false = sym (ap (λ us. is_dashed (values us)) b.whole ∙ dashed e b.hyphen b.hyphen_is (character b.kind b.value) b.w b.more b.spelled) ∙ d in let k : ⊥ = cc no in k
  before_no_high a rest c (inr (inl t)) b = let no : true ≡ false = sym t.threes ∙ no_threes in let k : ⊥ = cc no in k
  before_no_high a rest c (inr (inr n)) b = n.none c b

  by_operand : (m : Member) (us : List CodePoint) (p : Place) (more : List CodePoint) → Stands (SpellsWholeOperand e m) us p more → (IsCharacter m → BeforeHigh e more → ⊥) → Stands (SpellsUnionItem e m) us p more
  by_operand m us p more s none = (s.0, s.1, of_operand s.2 none, s.3)

  pub item_stands : (m : Member) → IsPlainMember m → (us : List CodePoint) (p : Place) (more : List CodePoint) → ClassTokenRow e (operand_tokens m) fresh us p more → Stands (SpellsUnionItem e m) us p more
  item_stands (tree.range r) plain us p more row = subst (λ m. Stands (SpellsUnionItem e m) us p more) plain.plain (range_stands row)
    where
      range_stands : ClassTokenRow e (low r.min.kind r.min.value ∷ dash ∷ high r.max.kind r.max.value ∷ []) fresh us p more → Stands (SpellsUnionItem e (range_member r.min.kind r.min.value r.max.kind r.max.value)) us p more
      range_stands row =
          let second = row.4 in
          let third = second.4 in
          let u = single second.0 45 second.3 in
          let last = third.2 ∙ ap (λ more. third.0 ++ more) third.4.1 in
          let after : row.1 ≡ u.0 ∷ (third.0 ++ more) = second.2 ∙ ap (λ w. w ++ second.1) u.1 ∙ ap (λ us. u.0 ∷ us) last in (
            row.0 ++ (u.0 ∷ third.0),
            row.2 ∙ ap (λ more. row.0 ++ more) after ∙ sym (append_assoc row.0 (u.0 ∷ third.0) more),
            of_range row.0 u.0 third.0 (subst (SpellsClassCharacter e r.min.kind r.min.value row.0) after row.3.0) u.2 (subst (SpellsClassCharacter e r.max.kind r.max.value third.0) third.4.1 third.3),
            sym third.4.0,
          )
  item_stands (tree.character c) plain us p more row =
      by_operand (tree.character c) us p more (operand_stands fresh tt (tree.character c) plain tt us p more row)
      (λ i. subst (λ more. BeforeHigh e more → ⊥) row.4.1 (before_no_high (character c.kind c.value) row.1 refl row.3.1))
  item_stands (tree.escape x) plain us p more row = by_operand (tree.escape x) us p more (operand_stands fresh tt (tree.escape x) plain tt us p more row) (λ i. absurd i)
  item_stands (tree.property x) plain us p more row = by_operand (tree.property x) us p more (operand_stands fresh tt (tree.property x) plain tt us p more row) (λ i. absurd i)
  item_stands (tree.nested c) plain us p more row = by_operand (tree.nested c) us p more (operand_stands fresh tt (tree.nested c) plain tt us p more row) (λ i. absurd i)
  item_stands (tree.strings d) plain us p more row = by_operand (tree.strings d) us p more (operand_stands fresh tt (tree.strings d) plain tt us p more row) (λ i. absurd i)

  abbrev IsSome : List ClassToken → Type 0
  IsSome [] = ⊥
  IsSome (t ∷ ts) = Unit {0}

  first_follows : (o : SetOperator) (ts : List ClassToken) → IsSome ts → (us : List CodePoint) (p : Place) (more : List CodePoint) → ClassTokenRow e ts (after_operator o) us p more → may_follow_operator o (values us) ≡ true
  first_follows o [] some us p more row = absurd some
  first_follows o (t ∷ ts) some us p more row = ap (λ us. may_follow_operator o (values us)) row.2 ∙ follows_front o row.0 row.1 (operand_some e t row.0 row.1 row.3.1) ∙ row.3.2

  some_tokens : (m : Member) → IsSome (operand_tokens m)
  some_tokens (tree.range r) = tt
  some_tokens (tree.escape x) = tt
  some_tokens (tree.property x) = tt
  some_tokens (tree.character c) = tt
  some_tokens (tree.nested (class s negative may kind ms)) = tt
  some_tokens (tree.strings d) = tt

  -- an operand with the operator before it
  pub further_stands : (o : SetOperator) (m : Member) → IsPlainMember m → IsOperand m → (us : List CodePoint) (p : Place) (more : List CodePoint) → ClassTokenRow e (operator o ∷ operand_tokens m) fresh us p more →
      Stands (SpellsFurtherOperand e o m) us p more
  further_stands o m plain is us p more row =
      let s = operand_stands (after_operator o) tt m plain is row.1 p more row.4 in (
        row.0 ++ s.0,
        row.2 ∙ ap (λ more. row.0 ++ more) s.1 ∙ sym (append_assoc row.0 s.0 more),
        of_operator row.0 s.0 (row.3.1, ap (λ us. may_follow_operator o (values us)) (sym s.1) ∙ first_follows o (operand_tokens m) (some_tokens m) row.1 p more row.4) s.2,
        s.3,
      )
