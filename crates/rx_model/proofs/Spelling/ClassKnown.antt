-- What is known of a class that some units spell.
use Rattle.std.proofs.Common.{◌≡◌, refl, subst, ℕ, ◌≤◌, arith, Bool, true, Option, List, [], ◌∷◌, ◌++◌, append_assoc}
use Rattle.rx_base.specs.declared.diagnostic.kinds.SetOperator.{SetOperator}
use Rattle.rx_base.specs.declared.diagnostic.kinds.SetOperator.TheVariants as set
use Rattle.rx_ast.specs.declared.leaf.CharacterKind.{CharacterKind}
use Rattle.rx_ast.specs.declared.leaf.CharacterKind.TheVariants as kinds
use Rattle.rx_ast.specs.declared.class.CharacterClassContentsKind.{CharacterClassContentsKind}
use Rattle.rx_ast.specs.declared.class.CharacterClassContentsKind.TheVariants.{Union, Intersection, Subtraction}
use Rattle.rx_ast.specs.ClassTree as tree
use Rattle.rx_ast.specs.ClassTree.{Member, Members, Class, no_member, member, class}
use Rattle.rx_ast.specs.Forget.{forget_class, same_kind}
use Rattle.rx_units.specs.declared.code_point.CodePoint.{CodePoint}
use Rattle.rx_model.specs.declared.mode.Mode.{Mode}
use Rattle.rx_model.specs.Classes.ClassRows.{ClassTokenRow, SpellsClassCharacter, SpellsInClass, IsClassShape, IsClass, Place, outside, fresh, at_second, at_third, after_operator, in_strings, next_place}
use Rattle.rx_model.specs.Classes.ClassShapes.{AreFitting, FitsKind, IsFitting, IsFittingMember}
use Rattle.rx_ast.specs.Texts.{property_body}
use Rattle.rx_model.specs.Classes.ClassTokens.{character, property, ClassToken, bracket, closer, item, low, dash, high, operator, strings, class_tokens}
use Rattle.rx_model.specs.Inputs.Environment.{Environment, is_sets, is_unicode}
use Rattle.rx_model.specs.Properties.PropertyEscapes.{SpellsProperty}
use Rattle.rx_model.specs.Spelling.ReadBack.{FitIn}
use Rattle.rx_model.proofs.Spelling.Bounds.{FitsIn, fit_front, fit_back, class_character_low}
use Rattle.rx_model.proofs.Classes.ClassShapes.{operand_tokens, further_tokens, contents_tokens, between_by, class_tokens_by}
use Rattle.rx_model.proofs.Properties.PropertyTexts.{property_again}
use Rattle.rx_model.proofs.Classes.ClassStates.{after_inside}

-- `&&` and `--` stand in classes with `v` alone
abbrev pub IsKnownKind : Mode → CharacterClassContentsKind → Type 0
IsKnownKind mode Union = Unit {0}
IsKnownKind mode kind = is_sets mode ≡ true

-- What units of this mode may spell in a class, and in the classes in it; where `bounded` is true, each character also has a value of the mode.
abbrev mutual
  pub IsKnownMember : Bool → Mode → Member → Type 0
  IsKnownMember bounded mode (tree.range r) = (bounded ≡ true → FitsIn mode r.min.value) × (bounded ≡ true → FitsIn mode r.max.value)
  IsKnownMember bounded mode (tree.escape e) = Unit {0}
  IsKnownMember bounded mode (tree.property p) = (is_unicode mode ≡ true) × SpellsProperty mode p.strings p.name p.value (property_body p.name p.value)
  IsKnownMember bounded mode (tree.character c) = bounded ≡ true → FitsIn mode c.value
  IsKnownMember bounded mode (tree.nested c) = (is_sets mode ≡ true) × IsKnownTree bounded mode c
  IsKnownMember bounded mode (tree.strings d) = is_sets mode ≡ true

  pub AreKnownMembers : Bool → Mode → Members → Type 0
  AreKnownMembers bounded mode no_member = Unit {0}
  AreKnownMembers bounded mode (member m ms) = IsKnownMember bounded mode m × AreKnownMembers bounded mode ms

  pub IsKnownTree : Bool → Mode → Class → Type 0
  IsKnownTree bounded mode (class s negative may kind ms) = IsKnownKind mode kind × AreKnownMembers bounded mode ms

-- The class has no spans and the shape of a class, and is one that units of this mode may spell.
pub record IsKnownClass (bounded : Bool) (mode : Mode) (c : Class) : Type 0 where
  pub no_spans : forget_class same_kind c ≡ c
  pub shape : IsClassShape c
  pub known : IsKnownTree bounded mode c

module _ (e : Environment) where
  -- what stands in a class
  abbrev IsWithin : Place → Type 0
  IsWithin q = q ≡ outside → ⊥

  -- the characters of a range
  low_there : (q : Place) (k : CharacterKind) (v : ℕ) (w more : List CodePoint) → SpellsInClass e q (low k v) w more → SpellsClassCharacter e k v w more
  low_there fresh k v w more s = s.0
  low_there (after_operator o) k v w more s = absurd s.1
  low_there in_strings k v w more s = absurd s.1
  low_there q k v w more s = absurd s

  -- a character and a property escape by themselves
  symbol_low : (k : CharacterKind) (v : ℕ) → character k v ≡ character kinds.Symbol 45 → v ≤ 0xFFFF
  symbol_low k v h = let same : v ≡ 45 = cc h in omega (arith, same)

  character_there : (q : Place) (k : CharacterKind) (v : ℕ) (w more : List CodePoint) → FitIn e.mode w → SpellsInClass e q (item (character k v)) w more → FitsIn e.mode v
  character_there fresh k v w more f s = class_character_low e k v w more s.0 f
  character_there at_third k v w more f s = class_character_low e k v w more s f
  character_there at_second k v w more f s = λ m. symbol_low k v s.0
  character_there (after_operator o) k v w more f s = class_character_low e k v w more s.1 f
  character_there in_strings k v w more f s = absurd s.1
  character_there q k v w more f s = absurd s

  property_there : (q : Place) (negative may : Bool) (name : List ℕ) (value : Option (List ℕ)) (w more : List CodePoint) → SpellsInClass e q (item (property negative may name value)) w more →
      (is_unicode e.mode ≡ true) × SpellsProperty e.mode may name value (property_body name value)
  property_there fresh negative may name value w more s = (s.0.unicode, property_again e.mode may name value s.0.text s.0.spelled)
  property_there at_third negative may name value w more s = (s.unicode, property_again e.mode may name value s.text s.spelled)
  property_there at_second negative may name value w more s = let f = s.0 in absurd (let no : ⊥ = cc f in no)
  property_there (after_operator o) negative may name value w more s = (s.1.unicode, property_again e.mode may name value s.1.text s.1.spelled)
  property_there in_strings negative may name value w more s = absurd s.1
  property_there q negative may name value w more s = absurd s

  -- what stands in classes with `v` alone
  bracket_sets : (q : Place) (negative : Bool) (w more : List CodePoint) → IsWithin q → SpellsInClass e q (bracket negative) w more → is_sets e.mode ≡ true
  bracket_sets outside negative w more n s = absurd (n refl)
  bracket_sets fresh negative w more n s = s.0
  bracket_sets (after_operator o) negative w more n s = s.0
  bracket_sets in_strings negative w more n s = s.0
  bracket_sets q negative w more n s = absurd s

  strings_sets : (q : Place) (w more : List CodePoint) → SpellsInClass e q strings w more → is_sets e.mode ≡ true
  strings_sets fresh w more s = s.0
  strings_sets (after_operator o) w more s = s.0
  strings_sets in_strings w more s = s.0
  strings_sets q w more s = absurd s

  operator_sets : (o : SetOperator) (q : Place) (w more : List CodePoint) → SpellsInClass e q (operator o) w more → is_sets e.mode ≡ true
  operator_sets o fresh w more s = s.0
  operator_sets o (after_operator p) w more s = s.0
  operator_sets o in_strings w more s = s.0
  operator_sets o q w more s = absurd s

  -- before what follows the class
  module _ (bounded : Bool) (rest : List CodePoint) where
    -- from some place in the class the tokens are a row to its end
    abbrev RowOn : List ClassToken → Type 0
    RowOn ts = (q : Place) × (us : List CodePoint) × IsWithin q × (bounded ≡ true → FitIn e.mode us) × ClassTokenRow e ts q us fresh rest

    token_on : (t : ClassToken) (ts : List ClassToken) → RowOn (t ∷ ts) → RowOn ts
    token_on t ts (q, us, n, f, (w, more, whole, s, row)) = (next_place e.mode q t more, more, after_inside e.mode q t more, (λ b. fit_back e.mode us w more whole (f b)), row)

    tokens_on : (own ts : List ClassToken) → RowOn (own ++ ts) → RowOn ts
    tokens_on [] ts r = r
    tokens_on (t ∷ own) ts r = tokens_on own ts (token_on t (own ++ ts) r)

    range_known : (k j : CharacterKind) (v u : ℕ) (ts : List ClassToken) → RowOn (low k v ∷ dash ∷ high j u ∷ ts) → (bounded ≡ true → FitsIn e.mode v) × (bounded ≡ true → FitsIn e.mode u)
    range_known k j v u ts (q, us, n, f, (w, more, e0, s, (x, tail, e1, d, (y, last, e2, t, row)))) = (
      λ b. class_character_low e k v w more (low_there q k v w more s) (fit_front e.mode us w more e0 (f b)),
      λ b. class_character_low e j u y last t (fit_front e.mode tail y last e2 (fit_back e.mode more x tail e1 (fit_back e.mode us w more e0 (f b)))),
    )

    character_known : (k : CharacterKind) (v : ℕ) (ts : List ClassToken) → RowOn (item (character k v) ∷ ts) → bounded ≡ true → FitsIn e.mode v
    character_known k v ts (q, us, n, f, (w, more, whole, s, row)) b = character_there q k v w more (fit_front e.mode us w more whole (f b)) s

    property_known : (negative may : Bool) (name : List ℕ) (value : Option (List ℕ)) (ts : List ClassToken) → RowOn (item (property negative may name value) ∷ ts) →
        (is_unicode e.mode ≡ true) × SpellsProperty e.mode may name value (property_body name value)
    property_known negative may name value ts (q, us, n, f, (w, more, whole, s, row)) = property_there q negative may name value w more s

    -- a member, and what stands after it
    member_apart : (m : Member) (own ts : List ClassToken) → RowOn ((operand_tokens m ++ own) ++ ts) → RowOn (operand_tokens m ++ (own ++ ts)) × RowOn (own ++ ts)
    member_apart m own ts r =
        let row = subst RowOn (append_assoc (operand_tokens m) own ts) r in (row, tokens_on (operand_tokens m) (own ++ ts) row)

    operands_known : (o : SetOperator) (m n : Member) (ms : Members) (ts : List ClassToken) → RowOn (contents_tokens (operator o ∷ []) (member m (member n ms)) ++ ts) → is_sets e.mode ≡ true
    operands_known o m n ms ts r = let on = (member_apart m (further_tokens (operator o ∷ []) (member n ms)) ts r).1 in operator_sets o on.0 on.4.0 on.4.1 on.4.3

    kind_known : (kind : CharacterClassContentsKind) (ms : Members) (ts : List ClassToken) → FitsKind kind ms → RowOn (contents_tokens (between_by kind) ms ++ ts) → IsKnownKind e.mode kind
    kind_known Union ms ts fits r = tt
    kind_known Intersection no_member ts fits r = absurd fits.0
    kind_known Intersection (member m no_member) ts fits r = absurd fits.0
    kind_known Intersection (member m (member n ms)) ts fits r = operands_known set.Intersection m n ms ts r
    kind_known Subtraction no_member ts fits r = absurd fits.0
    kind_known Subtraction (member m no_member) ts fits r = absurd fits.0
    kind_known Subtraction (member m (member n ms)) ts fits r = operands_known set.Subtraction m n ms ts r

    -- after its bracket
    contents_on : (negative : Bool) (own ts : List ClassToken) → RowOn ((bracket negative ∷ (own ++ (closer ∷ []))) ++ ts) → RowOn (own ++ (closer ∷ ts))
    contents_on negative own ts r = subst RowOn (append_assoc own (closer ∷ []) ts) (token_on (bracket negative) ((own ++ (closer ∷ [])) ++ ts) r)

    mutual
      member_known : (m : Member) (ts : List ClassToken) → IsFittingMember m → RowOn (operand_tokens m ++ ts) → IsKnownMember bounded e.mode m
      member_known (tree.range r) ts h row = range_known r.min.kind r.max.kind r.min.value r.max.value ts row
      member_known (tree.escape k) ts h row = tt
      member_known (tree.property p) ts h row = property_known p.negative p.strings p.name p.value ts row
      member_known (tree.character c) ts h row = character_known c.kind c.value ts row
      member_known (tree.nested c) ts h row = nested_known c ts h row
      member_known (tree.strings d) ts h row = strings_sets row.0 row.4.0 row.4.1 row.4.3

      nested_known : (c : Class) (ts : List ClassToken) → IsFitting c → RowOn (class_tokens c ++ ts) → (is_sets e.mode ≡ true) × IsKnownTree bounded e.mode c
      nested_known (class s negative may kind ms) ts h row =
          let r = subst (λ own. RowOn (own ++ ts)) (class_tokens_by s negative may kind ms) row in
          (bracket_sets r.0 negative r.4.0 r.4.1 r.2 r.4.3, contents_known kind ms (closer ∷ ts) h.0 h.1 (contents_on negative (contents_tokens (between_by kind) ms) ts r))

      contents_known : (kind : CharacterClassContentsKind) (ms : Members) (ts : List ClassToken) → FitsKind kind ms → AreFitting ms → RowOn (contents_tokens (between_by kind) ms ++ ts) →
          IsKnownKind e.mode kind × AreKnownMembers bounded e.mode ms
      contents_known kind no_member ts fits h row = (kind_known kind no_member ts fits row, tt)
      contents_known kind (member m ms) ts fits h row =
          let own = further_tokens (between_by kind) ms in
          let r = member_apart m own ts row in
          (kind_known kind (member m ms) ts fits row, (member_known m (own ++ ts) h.0 r.0, further_known (between_by kind) ms ts h.1 r.1))

      further_known : (between : List ClassToken) (ms : Members) (ts : List ClassToken) → AreFitting ms → RowOn (further_tokens between ms ++ ts) → AreKnownMembers bounded e.mode ms
      further_known between no_member ts h row = tt
      further_known between (member m ms) ts h row =
          let own = further_tokens between ms in
          let on = tokens_on between ((operand_tokens m ++ own) ++ ts) (subst RowOn (append_assoc between (operand_tokens m ++ own) ts) row) in
          let r = member_apart m own ts on in
          (member_known m (own ++ ts) h.0 r.0, further_known between ms ts h.1 r.1)

  -- the class
  tree_known : (bounded : Bool) (c : Class) (us rest : List CodePoint) → (bounded ≡ true → FitIn e.mode us) → IsFitting c → ClassTokenRow e (class_tokens c) outside us fresh rest →
      IsKnownTree bounded e.mode c
  tree_known bounded (class s negative may kind ms) us rest f h row =
      let r = subst (λ ts. ClassTokenRow e ts outside us fresh rest) (class_tokens_by s negative may kind ms) row in
      contents_known bounded rest kind ms (closer ∷ []) h.0 h.1 (fresh, r.1, (λ h. cc h), (λ b. fit_back e.mode us r.0 r.1 r.2 (f b)), r.4)

  pub class_known : (bounded : Bool) (c : Class) (w rest : List CodePoint) → (bounded ≡ true → FitIn e.mode (w ++ rest)) → IsClass e c w rest → IsKnownClass bounded e.mode c
  class_known bounded c w rest f h = record { no_spans = h.no_spans; shape = h.shape; known = tree_known bounded c (w ++ rest) rest f h.shape.0 h.row }
