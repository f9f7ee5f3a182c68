-- Atoms and tokens at the front of what is left of a class: what is spelled is read, and what is read is spelled.
use Rattle.std.proofs.Common.{◌≡◌, refl, sym, ap, ap₂, ◌∙◌, subst, ℕ, ◌+◌, ◌<◌, ◌==◌, Bool, true, false, not, ◌&&◌, ◌||◌, Option, Some, None, List, [], ◌∷◌, ◌++◌, length, drop, arith, inl, inr}
use Rattle.std.proofs.Math.Seq.{drop-append_seam}
use Rattle.std.proofs.lemmas.Bool.{cases_Bool, eqb-true, cond-true, cond-false, and_left, and_from}
use Rattle.std.proofs.lemmas.Bool.Decides.{nat_tests}
use Rattle.std.proofs.lemmas.List.{length-map, map-append}
use Rattle.std.proofs.Math.Bool.{and-false}
use Rattle.rx_base.specs.declared.diagnostic.kinds.SetOperator.{SetOperator}
use Rattle.rx_base.specs.declared.diagnostic.kinds.SetOperator.TheVariants.{Intersection, Subtraction}
use Rattle.rx_tables.specs.Characters.{is_reserved_punctuator}
use Rattle.rx_ast.specs.declared.leaf.CharacterClassEscapeKind.{CharacterClassEscapeKind}
use Rattle.rx_ast.specs.declared.leaf.CharacterClassEscapeKind.TheVariants as classes
use Rattle.rx_ast.specs.declared.leaf.CharacterKind.{CharacterKind}
use Rattle.rx_ast.specs.declared.leaf.CharacterKind.TheVariants as kinds
use Rattle.rx_units.specs.declared.code_point.CodePoint.{CodePoint}
use Rattle.rx_units.specs.Units.{values}
use Rattle.rx_units.proofs.Choices.{chosen, both, Some-inj}
use Rattle.rx_model.specs.declared.mode.Mode.{Mode}
use Rattle.rx_model.specs.declared.mode.Mode.TheVariants.{Legacy, Unicode, Sets}
use Rattle.rx_model.specs.Classes.ClassFronts.{AtomRead, atom_read, no_atom, property_atom, character_atom, escape_atom, escape_in_class, atom_at, TokenRead, item_where, item_of, low_of, high_of, before_dash, item_before, bracket_at, are_next, begins_strings, operand_token, set_token, fresh_token, operand_of, string_token, token_where, class_token_at}
use Rattle.rx_model.specs.Classes.ClassRows.{stands_raw_in_class, SpellsInClassAlone, backspace, SpellsClassCharacter, raw, escaped_in_class, escaped_in_legacy, SpellsAtom, has_hyphen, has_threes, is_dashed, BeforeHigh, BeforeThird, BeginsNoRange, StandsBefore, Place, outside, fresh, at_dash, at_high, at_second, at_third, after_operator, in_strings, next_place, following_item, may_follow_operator, SpellsBracket, SpellsOperand, SpellsOfStrings, SpellsInClass}
use Rattle.rx_model.specs.Classes.ClassRows as row
use Rattle.rx_ast.specs.Texts.{class_escape_text}
use Rattle.rx_model.specs.Classes.ClassTokens.{Atom, ClassToken, is_character, character, escape, property, bracket, closer, item, low, dash, high, operator, strings, letter, string_bar, strings_end}
use Rattle.rx_model.specs.Inputs.Environment.{Environment, is_sets, is_unicode}
use Rattle.rx_model.specs.Characters.EscapeFronts.{EscapeRead, escaped, any_escape_at, class_escape_at, escape_at}
use Rattle.rx_model.specs.Characters.Escapes.{SpellsEscape}
use Rattle.rx_model.specs.Characters.LegacyEscapes.{SpellsLegacy}
use Rattle.rx_model.specs.FirstPass.Marks.{starts}
use Rattle.rx_model.specs.Properties.PropertyEscapes.{IsProperty}
use Rattle.rx_model.specs.Properties.PropertyFronts.{PropertyRead, property_read, no_property, property_front}
use Rattle.rx_model.specs.Refusals.Stops.{is_hyphen_escaped}
use Rattle.rx_model.specs.Characters.UnitKinds.{unit_kind}
use Rattle.rx_model.specs.Properties.PropertyForms.{begins_property}
use Rattle.rx_model.proofs.Characters.Backslashes.{begins, class_found}
use Rattle.rx_model.proofs.Characters.LegacyEscapes.{AnyFront, any_in_unicode, any_read, any_legacy_read, any_spelled, legacy_begins}
use Rattle.rx_model.proofs.Properties.PropertyFronts.{property_row, property_text}
use Rattle.rx_model.proofs.Reading.Splits.{split_values, starts_there, one_value, starts_front}

backslash_not_raw : (mode : Mode) (w : List ℕ) → stands_raw_in_class mode 92 w ≡ false
backslash_not_raw Legacy w = refl
backslash_not_raw Unicode w = refl
backslash_not_raw Sets w = refl

closer_not_raw : (mode : Mode) (w : List ℕ) → stands_raw_in_class mode 93 w ≡ false
closer_not_raw Legacy w = refl
closer_not_raw Unicode w = refl
closer_not_raw Sets w = refl

no_hyphen : (mode : Mode) (c : ℕ) → (c == 45) ≡ false → (has_hyphen mode && c == 45) ≡ false
no_hyphen Legacy c h = h
no_hyphen Unicode c h = h
no_hyphen Sets c h = refl

no_hyphen_escape : (mode : Mode) (c : ℕ) → (c == 45) ≡ false → (is_hyphen_escaped mode && c == 45) ≡ false
no_hyphen_escape Legacy c h = refl
no_hyphen_escape Unicode c h = h
no_hyphen_escape Sets c h = refl

only_escapes : (mode : Mode) → is_hyphen_escaped mode ≡ true → mode ≡ Unicode
only_escapes Legacy h = absurd (let no : ⊥ = cc h in no)
only_escapes Unicode h = refl
only_escapes Sets h = absurd (let no : ⊥ = cc h in no)

pub no_legacy_hyphen : (mode : Mode) (c : ℕ) → is_unicode mode ≡ false → (is_hyphen_escaped mode && c == 45) ≡ false
no_legacy_hyphen Legacy c m = refl
no_legacy_hyphen Unicode c m = absurd (let no : ⊥ = cc m in no)
no_legacy_hyphen Sets c m = refl

no_punctuator : (mode : Mode) (c : ℕ) → is_reserved_punctuator c ≡ false → (is_sets mode && is_reserved_punctuator c) ≡ false
no_punctuator Legacy c h = refl
no_punctuator Unicode c h = refl
no_punctuator Sets c h = h

pub no_legacy_punctuator : (mode : Mode) (c : ℕ) → is_unicode mode ≡ false → (is_sets mode && is_reserved_punctuator c) ≡ false
no_legacy_punctuator Legacy c m = refl
no_legacy_punctuator Unicode c m = refl
no_legacy_punctuator Sets c m = absurd (let no : ⊥ = cc m in no)

pub sets_is : (mode : Mode) → is_sets mode ≡ true → mode ≡ Sets
sets_is Legacy h = absurd (let no : ⊥ = cc h in no)
sets_is Unicode h = absurd (let no : ⊥ = cc h in no)
sets_is Sets h = refl

-- a `-` does not stand for itself as other characters do
hyphen_not_raw : (mode : Mode) (w : List ℕ) → stands_raw_in_class mode 45 w ≡ false
hyphen_not_raw Legacy w = refl
hyphen_not_raw Unicode w = refl
hyphen_not_raw Sets w = refl

pub letter_no_b : (c : ℕ) → begins_property c ≡ true → (c == 98) ≡ false
letter_no_b c h = grind (arith, nat_tests)

pub letter_no_punctuator : (c : ℕ) → begins_property c ≡ true → is_reserved_punctuator c ≡ false
letter_no_punctuator c h = grind (arith, nat_tests)

pub punctuator_no_b : (c : ℕ) → is_reserved_punctuator c ≡ true → (c == 98) ≡ false
punctuator_no_b c h = grind (arith, nat_tests)

pub letter_no_hyphen : (c : ℕ) → begins_property c ≡ true → (c == 45) ≡ false
letter_no_hyphen c h = grind (arith, nat_tests)

-- as many units as values
pub units : (w : List CodePoint) (v : List ℕ) → values w ≡ v → length v ≡ length w
units w v h = sym (ap length h) ∙ length-map w (λ u. u.value)

-- what a text begins with
pub text_of : (w rest : List CodePoint) (v : List ℕ) → values w ≡ v → values (w ++ rest) ≡ v ++ values rest
text_of w rest v h = map-append (λ (u : CodePoint). u.value) w rest ∙ ap (λ v. v ++ values rest) h

pub single : (w : List CodePoint) (c : ℕ) → values w ≡ c ∷ [] → (u : CodePoint) × (w ≡ u ∷ []) × (u.value ≡ c)
single [] c h = absurd (let no : ⊥ = cc h in no)
single (u ∷ []) c h = (u, refl, cc h)
single (u ∷ v ∷ w) c h = absurd (let no : ⊥ = cc h in no)

-- the letter of a class escape
pub record ClassLetter (k : CharacterClassEscapeKind) : Type 0 where
  pub letter : ℕ
  pub text : class_escape_text k ≡ 92 ∷ letter ∷ []
  no_b : (letter == 98) ≡ false
  not_hyphen : (letter == 45) ≡ false
  no_punctuator : is_reserved_punctuator letter ≡ false
  no_letter : begins_property letter ≡ false
  pub found : class_escape_at letter ≡ Some k

pub class_letter : (k : CharacterClassEscapeKind) → ClassLetter k
class_letter classes.D = record { letter = 100; text = refl; no_b = refl; not_hyphen = refl; no_punctuator = refl; no_letter = refl; found = refl }
class_letter classes.NegativeD = record { letter = 68; text = refl; no_b = refl; not_hyphen = refl; no_punctuator = refl; no_letter = refl; found = refl }
class_letter classes.S = record { letter = 115; text = refl; no_b = refl; not_hyphen = refl; no_punctuator = refl; no_letter = refl; found = refl }
class_letter classes.NegativeS = record { letter = 83; text = refl; no_b = refl; not_hyphen = refl; no_punctuator = refl; no_letter = refl; found = refl }
class_letter classes.W = record { letter = 119; text = refl; no_b = refl; not_hyphen = refl; no_punctuator = refl; no_letter = refl; found = refl }
class_letter classes.NegativeW = record { letter = 87; text = refl; no_b = refl; not_hyphen = refl; no_punctuator = refl; no_letter = refl; found = refl }

-- what is asked of the units after an operator is asked of the first alone
pub follows_front : (o : SetOperator) (w rest : List CodePoint) → 0 < length w → may_follow_operator o (values (w ++ rest)) ≡ may_follow_operator o (values w)
follows_front Intersection w rest some = ap not (starts_front 38 w rest some)
follows_front Subtraction w rest some = refl

-- nothing but a `&` is refused there
pub other_follows : (o : SetOperator) (w : List ℕ) → starts 38 w ≡ false → may_follow_operator o w ≡ true
other_follows Intersection w other = ap not other
other_follows Subtraction w other = refl

pub bracket_follows : (o : SetOperator) (negative : Bool) (w rest : List CodePoint) → SpellsBracket negative w rest → may_follow_operator o (values w) ≡ true
bracket_follows o true w rest s = ap (may_follow_operator o) s ∙ other_follows o (91 ∷ 94 ∷ []) refl
bracket_follows o false w rest s = ap (may_follow_operator o) s.0 ∙ other_follows o (91 ∷ []) refl

module _ (e : Environment) where
  -- after a backslash
  pub at_backslash : (u : CodePoint) (us : List CodePoint) → u.value ≡ 92 → atom_at e (u ∷ us) ≡ escape_in_class e (values us)
  unfolding atom_at
  at_backslash u us h =
      cond-false (stands_raw_in_class e.mode u.value (values us)) _ _ (ap (λ c. stands_raw_in_class e.mode c (values us)) h ∙ backslash_not_raw e.mode (values us))
      ∙ cond-false (has_hyphen e.mode && u.value == 45) _ _ (no_hyphen e.mode u.value (ap (λ c. c == 45) h))
      ∙ cond-true (u.value == 92) _ _ (ap (λ c. c == 92) h)

  atom_by_values : (w rest : List CodePoint) (following : List ℕ) → values w ≡ 92 ∷ following → atom_at e (w ++ rest) ≡ escape_in_class e (following ++ values rest)
  atom_by_values [] rest following h = absurd (let no : ⊥ = cc h in no)
  atom_by_values (u ∷ w) rest following h =
      let equal : values w ≡ following = cc h in
      at_backslash u (w ++ rest) (let same : u.value ≡ 92 = cc h in same)
      ∙ ap (escape_in_class e) (map-append (λ u. u.value) w rest ∙ ap (λ v. v ++ values rest) equal)

  escaped_read : (k : CharacterKind) (v : ℕ) (w rest : List ℕ) → SpellsEscape e k v w rest → escape_in_class e (w ++ rest) ≡ atom_read (character k v) (length w + 1)
  escaped_read k v w rest s =
      let b = begins e k v w rest s in
      ap (λ w. escape_in_class e (w ++ rest)) b.whole
      ∙ cond-false (b.first == 98) _ _ b.no_b
      ∙ cond-false (is_hyphen_escaped e.mode && b.first == 45) _ _ (no_hyphen_escape e.mode b.first b.no_hyphen)
      ∙ cond-false (is_sets e.mode && is_reserved_punctuator b.first) _ _ (no_punctuator e.mode b.first b.no_reserved)
      ∙ cond-false (begins_property b.first && is_unicode e.mode) _ _ (and_left _ (is_unicode e.mode) b.no_property)
      ∙ ap (λ o. escape_atom o (any_escape_at true e (b.first ∷ b.following ++ rest))) b.no_class
      ∙ ap (λ w. character_atom (any_escape_at true e (w ++ rest))) (sym b.whole)
      ∙ ap character_atom (any_read true e k v w rest s)

  legacy_read : (k : CharacterKind) (v : ℕ) (w rest : List ℕ) → is_unicode e.mode ≡ false → SpellsLegacy true e k v w rest → escape_in_class e (w ++ rest) ≡ atom_read (character k v) (length w + 1)
  legacy_read k v w rest m s =
      let b = legacy_begins true e k v w rest s in
      ap (escape_in_class e) b.whole
      ∙ cond-false (b.first == 98) _ _ b.no_b
      ∙ cond-false (is_hyphen_escaped e.mode && b.first == 45) _ _ (no_legacy_hyphen e.mode b.first m)
      ∙ cond-false (is_sets e.mode && is_reserved_punctuator b.first) _ _ (no_legacy_punctuator e.mode b.first m)
      ∙ cond-false (begins_property b.first && is_unicode e.mode) _ _ (ap (λ u. begins_property b.first && u) m ∙ and-false (begins_property b.first))
      ∙ ap (λ o. escape_atom o (any_escape_at true e (b.first ∷ b.following))) b.no_class
      ∙ ap (λ w. character_atom (any_escape_at true e w)) (sym b.whole)
      ∙ ap character_atom (any_legacy_read true e k v w rest m s)

  alone_read : (k : CharacterKind) (v : ℕ) (w rest : List ℕ) → SpellsInClassAlone e.mode k v w → escape_in_class e (w ++ rest) ≡ atom_read (character k v) (length w + 1)
  alone_read _ _ _ rest backspace = ap (atom_read (character kinds.SingleEscape 8)) (omega arith)
  alone_read _ _ _ rest (row.hyphen m) =
      cond-true (is_hyphen_escaped e.mode && (45 == 45)) _ _ (ap (λ mode. is_hyphen_escaped mode && (45 == 45)) m)
      ∙ ap (atom_read (character kinds.SingleEscape 45)) (omega arith)
  alone_read _ _ _ rest (row.reserved c m h) =
      cond-false (c == 98) _ _ (punctuator_no_b c h)
      ∙ cond-false (is_hyphen_escaped e.mode && c == 45) _ _ (ap (λ mode. is_hyphen_escaped mode && c == 45) m)
      ∙ cond-true (is_sets e.mode && is_reserved_punctuator c) _ _ (and_from (is_sets e.mode) (is_reserved_punctuator c) (ap is_sets m) h)
      ∙ ap (atom_read (character kinds.Identifier c)) (omega arith)

  character_read : (k : CharacterKind) (v : ℕ) (w rest : List CodePoint) → SpellsClassCharacter e k v w rest → atom_at e (w ++ rest) ≡ atom_read (character k v) (length w)
  unfolding atom_at
  character_read _ _ _ rest (raw unit h) = cond-true (stands_raw_in_class e.mode unit.value (values rest)) _ _ h
  character_read _ _ _ rest (row.hyphen unit m h) =
      cond-false (stands_raw_in_class e.mode unit.value (values rest)) _ _ (ap (λ c. stands_raw_in_class e.mode c (values rest)) h ∙ hyphen_not_raw e.mode (values rest))
      ∙ cond-true (has_hyphen e.mode && unit.value == 45) _ _ (and_from (has_hyphen e.mode) (unit.value == 45) m (ap (λ c. c == 45) h))
  character_read k v _ rest (row.escaped backslash following h s) =
      atom_by_values (backslash ∷ following) rest (values following) (ap (λ c. c ∷ values following) h)
      ∙ escaped_read k v (values following) (values rest) s
      ∙ ap (atom_read (character k v)) (omega (arith, length-map following (λ (u : CodePoint). u.value)))
  character_read k v _ rest (escaped_in_class backslash following h s) =
      atom_by_values (backslash ∷ following) rest (values following) (ap (λ c. c ∷ values following) h)
      ∙ alone_read k v (values following) (values rest) s
      ∙ ap (atom_read (character k v)) (omega (arith, length-map following (λ (u : CodePoint). u.value)))
  character_read k v _ rest (escaped_in_legacy backslash following h m s) =
      atom_by_values (backslash ∷ following) rest (values following) (ap (λ c. c ∷ values following) h)
      ∙ legacy_read k v (values following) (values rest) m s
      ∙ ap (atom_read (character k v)) (omega (arith, length-map following (λ (u : CodePoint). u.value)))

  class_escape_read : (k : CharacterClassEscapeKind) (w rest : List CodePoint) → values w ≡ class_escape_text k → atom_at e (w ++ rest) ≡ atom_read (escape k) (length w)
  class_escape_read k w rest s =
      let c = class_letter k in
      atom_by_values w rest (c.letter ∷ []) (s ∙ c.text)
      ∙ cond-false (c.letter == 98) _ _ c.no_b
      ∙ cond-false (is_hyphen_escaped e.mode && c.letter == 45) _ _ (no_hyphen_escape e.mode c.letter c.not_hyphen)
      ∙ cond-false (is_sets e.mode && is_reserved_punctuator c.letter) _ _ (no_punctuator e.mode c.letter c.no_punctuator)
      ∙ cond-false (begins_property c.letter && is_unicode e.mode) _ _ (and_left _ (is_unicode e.mode) c.no_letter)
      ∙ ap (λ o. escape_atom o (any_escape_at true e (c.letter ∷ values rest))) c.found
      ∙ ap (atom_read (escape k)) (units w (92 ∷ c.letter ∷ []) (s ∙ c.text))

  property_atom_read : (negative may : Bool) (name : List ℕ) (value : Option (List ℕ)) (w rest : List CodePoint) → IsProperty e negative may name value w →
      atom_at e (w ++ rest) ≡ atom_read (property negative may name value) (length w)
  property_atom_read negative may name value w rest s =
      let r = property_row e negative may name value w rest s in
      atom_by_values w rest (r.letter ∷ r.more) r.whole
      ∙ cond-false (r.letter == 98) _ _ (letter_no_b r.letter r.is_letter)
      ∙ cond-false (is_hyphen_escaped e.mode && r.letter == 45) _ _ (no_hyphen_escape e.mode r.letter (letter_no_hyphen r.letter r.is_letter))
      ∙ cond-false (is_sets e.mode && is_reserved_punctuator r.letter) _ _ (no_punctuator e.mode r.letter (letter_no_punctuator r.letter r.is_letter))
      ∙ cond-true (begins_property r.letter && is_unicode e.mode) _ _ (and_from _ _ r.is_letter s.unicode)
      ∙ ap property_atom r.read
      ∙ ap (atom_read (property negative may name value)) (omega (arith, units w (92 ∷ r.letter ∷ r.more) r.whole))

  pub atom_is_read : (a : Atom) (w rest : List CodePoint) → SpellsAtom e a w rest → atom_at e (w ++ rest) ≡ atom_read a (length w)
  atom_is_read (character k v) w rest s = character_read k v w rest s
  atom_is_read (escape k) w rest s = class_escape_read k w rest s
  atom_is_read (property negative may name value) w rest s = property_atom_read negative may name value w rest s

  -- No atom is spelled by no units.
  character_some : (k : CharacterKind) (v : ℕ) (w rest : List CodePoint) → SpellsClassCharacter e k v w rest → 0 < length w
  character_some _ _ _ rest (raw unit h) = omega arith
  character_some _ _ _ rest (row.hyphen unit m h) = omega arith
  character_some k v _ rest (row.escaped backslash following h s) = omega arith
  character_some k v _ rest (escaped_in_class backslash following h s) = omega arith
  character_some k v _ rest (escaped_in_legacy backslash following h m s) = omega arith

  pub atom_some : (a : Atom) (w rest : List CodePoint) → SpellsAtom e a w rest → 0 < length w
  atom_some (character k v) w rest s = character_some k v w rest s
  atom_some (escape k) w rest s = let c = class_letter k in omega (arith, units w (92 ∷ c.letter ∷ []) (s ∙ c.text))
  atom_some (property negative may name value) w rest s =
      let r = property_row e negative may name value w rest s in omega (arith, units w (92 ∷ r.letter ∷ r.more) r.whole)

  -- an atom that stands at the front, read → spelled
  pub record AtomFront (a : Atom) (n : ℕ) (us : List CodePoint) : Type 0 where
    pub w : List CodePoint
    pub rest : List CodePoint
    pub whole : us ≡ w ++ rest
    pub count : length w ≡ n
    pub spelled : SpellsAtom e a w rest

  atom_of : {b : Atom} {n : ℕ} (a : Atom) (m : ℕ) (us w rest : List CodePoint) → us ≡ w ++ rest → length w ≡ m → SpellsAtom e a w rest → atom_read a m ≡ atom_read b n → AtomFront b n us
  atom_of {b} {n} a m us w rest whole l s h =
      let same : a ≡ b = cc h in
      let equal : m ≡ n = cc h in
      record { w = w; rest = rest; whole = whole; count = l ∙ equal; spelled = subst (λ a. SpellsAtom e a w rest) same s }

  property_there : (a : Atom) (n : ℕ) (u : CodePoint) (us : List CodePoint) → u.value ≡ 92 → is_unicode e.mode ≡ true → (r : PropertyRead) → property_front e.mode (values us) ≡ r →
      property_atom r ≡ atom_read a n → AtomFront a n (u ∷ us)
  property_there a n u us h m no_property f q = absurd (let no : ⊥ = cc q in no)
  property_there a n u us h m (property_read negative may name value k) f q =
      let t = property_text e negative may name value k (values us) m f in
      let s = split_values (u ∷ us) t.text t.back (ap (λ c. c ∷ values us) h ∙ t.whole) in
      atom_of (property negative may name value) (k + 1) (u ∷ us) s.front s.back s.whole (sym (length-map s.front (λ u. u.value)) ∙ ap length s.front_is ∙ t.count)
      (t.spells s.front s.back s.front_is s.back_is) q

  pub any_there : (a : Atom) (n : ℕ) (u : CodePoint) (us : List CodePoint) (k : CharacterKind) (v m : ℕ) → u.value ≡ 92 → AnyFront true e k v m (values us) → atom_read (character k v) (m + 1) ≡ atom_read a n → AtomFront a n (u ∷ us)
  any_there a n u us k v m h (inl r) q =
      let s = split_values us r.spelled r.rest r.whole in
      atom_of (character k v) (m + 1) (u ∷ us) (u ∷ s.front) s.back (ap (λ w. u ∷ w) s.whole) (omega (arith, r.count, ap length s.front_is, length-map s.front (λ (u : CodePoint). u.value)))
      (row.escaped u s.front h (subst (λ b. SpellsEscape e k v (values s.front) b) (sym s.back_is) (subst (λ a. SpellsEscape e k v a r.rest) (sym s.front_is) r.spells))) q
  any_there a n u us k v m h (inr (legacy, r)) q =
      let s = split_values us r.spelled r.rest r.whole in
      atom_of (character k v) (m + 1) (u ∷ us) (u ∷ s.front) s.back (ap (λ w. u ∷ w) s.whole) (omega (arith, r.count, ap length s.front_is, length-map s.front (λ (u : CodePoint). u.value)))
      (escaped_in_legacy u s.front h legacy (subst (λ b. SpellsLegacy true e k v (values s.front) b) (sym s.back_is) (subst (λ a. SpellsLegacy true e k v a r.rest) (sym s.front_is) r.spells))) q

  character_there : (a : Atom) (n : ℕ) (u : CodePoint) (us : List CodePoint) → u.value ≡ 92 → (r : EscapeRead) → any_escape_at true e (values us) ≡ r → character_atom r ≡ atom_read a n → AtomFront a n (u ∷ us)
  character_there a n u us h (escaped k v m) f q = any_there a n u us k v m h (any_spelled true e k v m (values us) f) q
  character_there a n u us h t f q = absurd (let no : ⊥ = cc q in no)

  class_escape_there : (a : Atom) (n : ℕ) (u v : CodePoint) (us : List CodePoint) → u.value ≡ 92 → (o : Option CharacterClassEscapeKind) → class_escape_at v.value ≡ o →
      escape_atom o (any_escape_at true e (values (v ∷ us))) ≡ atom_read a n → AtomFront a n (u ∷ v ∷ us)
  class_escape_there a n u v us h (Some k) f q =
      atom_of (escape k) 2 (u ∷ v ∷ us) (u ∷ v ∷ []) us refl refl (ap (λ c. c ∷ v.value ∷ []) h ∙ class_found k v.value f) q
  class_escape_there a n u v us h None f q = character_there a n u (v ∷ us) h (any_escape_at true e (values (v ∷ us))) refl q

  escape_there : (a : Atom) (n : ℕ) (u : CodePoint) (us : List CodePoint) → u.value ≡ 92 → escape_in_class e (values us) ≡ atom_read a n → AtomFront a n (u ∷ us)
  escape_there a n u [] h q = absurd (let no : ⊥ = cc q in no)
  escape_there a n u (v ∷ us) h q = elim (chosen (v.value == 98) q) [
    | inl p ↦ atom_of (character kinds.SingleEscape 8) 2 (u ∷ v ∷ us) (u ∷ v ∷ []) us refl refl
        (escaped_in_class u (v ∷ []) h (subst (SpellsInClassAlone e.mode kinds.SingleEscape 8) (sym (one_value v 98 p.0)) backspace)) p.1
    | inr p ↦ elim (chosen (is_hyphen_escaped e.mode && v.value == 45) p.1) [
      | inl r ↦
          let b = both (is_hyphen_escaped e.mode) (v.value == 45) r.0 in
          atom_of (character kinds.SingleEscape 45) 2 (u ∷ v ∷ us) (u ∷ v ∷ []) us refl refl
          (escaped_in_class u (v ∷ []) h (subst (SpellsInClassAlone e.mode kinds.SingleEscape 45) (sym (one_value v 45 b.1)) (row.hyphen (only_escapes e.mode b.0)))) r.1
      | inr r ↦ elim (chosen (is_sets e.mode && is_reserved_punctuator v.value) r.1) [
        | inl s ↦
            let b = both (is_sets e.mode) (is_reserved_punctuator v.value) s.0 in
            atom_of (character kinds.Identifier v.value) 2 (u ∷ v ∷ us) (u ∷ v ∷ []) us refl refl (escaped_in_class u (v ∷ []) h (row.reserved v.value (sets_is e.mode b.0) b.1)) s.1
        | inr s ↦ elim (chosen (begins_property v.value && is_unicode e.mode) s.1) [
          | inl t ↦ property_there a n u (v ∷ us) h (both (begins_property v.value) (is_unicode e.mode) t.0).1 (property_front e.mode (values (v ∷ us))) refl t.1
          | inr t ↦ class_escape_there a n u v us h (class_escape_at v.value) refl t.1
        ]
      ]
    ]
  ]

  pub atom_found : (a : Atom) (n : ℕ) (us : List CodePoint) → atom_at e us ≡ atom_read a n → AtomFront a n us
  unfolding atom_at
  atom_found a n [] h = absurd (let no : ⊥ = cc h in no)
  atom_found a n (u ∷ us) h = elim (chosen (stands_raw_in_class e.mode u.value (values us)) h) [
    | inl p ↦ atom_of (character (unit_kind u.escape_kind) u.value) 1 (u ∷ us) (u ∷ []) us refl refl (raw u p.0) p.1
    | inr p ↦ elim (chosen (has_hyphen e.mode && u.value == 45) p.1) [
      | inl q ↦
          let b = both (has_hyphen e.mode) (u.value == 45) q.0 in
          atom_of (character kinds.Symbol 45) 1 (u ∷ us) (u ∷ []) us refl refl (row.hyphen u b.0 (eqb-true u.value 45 b.1)) q.1
      | inr q ↦ elim (chosen (u.value == 92) q.1) [
        | inl r ↦ escape_there a n u us (eqb-true u.value 92 r.0) r.1
        | inr r ↦ absurd (let no : ⊥ = cc r.1 in no)
      ]
    ]
  ]

  -- Tokens at their places, spelled → read.
  -- no atom begins with a character that neither stands for itself nor is a `-` of its own nor a backslash
  no_atom_at : (u : CodePoint) (us : List CodePoint) → stands_raw_in_class e.mode u.value (values us) ≡ false → (has_hyphen e.mode && u.value == 45) ≡ false → (u.value == 92) ≡ false → atom_at e (u ∷ us) ≡ no_atom
  unfolding atom_at
  no_atom_at u us r h b = cond-false (stands_raw_in_class e.mode u.value (values us)) _ _ r ∙ cond-false (has_hyphen e.mode && u.value == 45) _ _ h ∙ cond-false (u.value == 92) _ _ b

  pub no_atom_at_closer : (u : CodePoint) (us : List CodePoint) → u.value ≡ 93 → atom_at e (u ∷ us) ≡ no_atom
  no_atom_at_closer u us h =
      no_atom_at u us (ap (λ c. stands_raw_in_class e.mode c (values us)) h ∙ closer_not_raw e.mode (values us)) (no_hyphen e.mode u.value (ap (λ c. c == 45) h)) (ap (λ c. c == 92) h)

  -- With `v` no atom stands where another token does.
  pub no_set_atom : (us : List CodePoint) (c : ℕ) (w : List ℕ) → is_sets e.mode ≡ true → values us ≡ c ∷ w → stands_raw_in_class Sets c w ≡ false → (c == 92) ≡ false → atom_at e us ≡ no_atom
  no_set_atom [] c w m h r b = absurd (let no : ⊥ = cc h in no)
  no_set_atom (u ∷ us) c w m h r b =
      let first : u.value ≡ c = cc h in
      let others : values us ≡ w = cc h in
      let is = sets_is e.mode m in
      no_atom_at u us (ap₂ (λ c w. stands_raw_in_class e.mode c w) first others ∙ ap (λ mode. stands_raw_in_class mode c w) is ∙ r) (ap (λ mode. has_hyphen mode && u.value == 45) is)
      (ap (λ c. c == 92) first ∙ b)

  pub no_strings_atom : (us : List CodePoint) (w : List ℕ) → is_sets e.mode ≡ true → values us ≡ 92 ∷ 113 ∷ w → atom_at e us ≡ no_atom
  unfolding escape_at
  no_strings_atom [] w m h = absurd (let no : ⊥ = cc h in no)
  no_strings_atom (u ∷ us) w m h =
      let is = sets_is e.mode m in
      let first : u.value ≡ 92 = cc h in
      let others : values us ≡ 113 ∷ w = cc h in
      at_backslash u us first ∙ ap (escape_in_class e) others
      ∙ cond-false (is_hyphen_escaped e.mode && 113 == 45) _ _ (ap (λ mode. is_hyphen_escaped mode && 113 == 45) is)
      ∙ cond-false (is_sets e.mode && is_reserved_punctuator 113) _ _ (ap (λ mode. is_sets mode && is_reserved_punctuator 113) is)
      ∙ ap character_atom (any_in_unicode true e (113 ∷ w) (ap is_unicode is) ∙ ap (λ unicode. escape_at unicode (113 ∷ w)) (ap is_unicode is))

  at_bracket : (negative : Bool) (w rest : List CodePoint) → SpellsBracket negative w rest → bracket_at (values (w ++ rest)) ≡ Some (bracket negative, length w)
  at_bracket true w rest s = ap bracket_at (text_of w rest (91 ∷ 94 ∷ []) s) ∙ ap (λ n. Some (bracket true, n)) (units w (91 ∷ 94 ∷ []) s)
  at_bracket false w rest s =
      ap bracket_at (text_of w rest (91 ∷ []) s.0) ∙ cond-false (starts 94 (values rest)) _ _ s.1 ∙ ap (λ n. Some (bracket false, n)) (units w (91 ∷ []) s.0)

  -- the units of a bracket
  bracket_begins : (negative : Bool) (w rest : List CodePoint) → SpellsBracket negative w rest → (v : List ℕ) × (values (w ++ rest) ≡ 91 ∷ v)
  bracket_begins true w rest s = (94 ∷ values rest, text_of w rest (91 ∷ 94 ∷ []) s)
  bracket_begins false w rest s = (values rest, text_of w rest (91 ∷ []) s.0)

  operand_bracket : (negative : Bool) (w rest : List CodePoint) → SpellsBracket negative w rest → operand_token (values (w ++ rest)) ≡ Some (bracket negative, length w)
  operand_bracket negative w rest s =
      let b = bracket_begins negative w rest s in
      ap operand_token b.1 ∙ ap bracket_at (sym b.1) ∙ at_bracket negative w rest s

  -- an operand that is no atom
  operand_read : (w rest : List CodePoint) (t : ClassToken) → is_sets e.mode ≡ true → SpellsOperand e t w rest → operand_of (atom_at e (w ++ rest)) (values (w ++ rest)) ≡ Some (t, length w)
  operand_read w rest (item a) m s = ap (λ r. operand_of r (values (w ++ rest))) (atom_is_read a w rest s)
  operand_read w rest (bracket negative) m s =
      let b = bracket_begins negative w rest s in
      ap (λ r. operand_of r (values (w ++ rest))) (no_set_atom (w ++ rest) 91 b.0 m b.1 refl refl) ∙ operand_bracket negative w rest s
  operand_read w rest strings m s =
      let text = text_of w rest (92 ∷ 113 ∷ 123 ∷ []) s in
      ap (λ r. operand_of r (values (w ++ rest))) (no_strings_atom (w ++ rest) (123 ∷ values rest) m text) ∙ ap operand_token text ∙ ap (λ n. Some (strings, n)) (units w (92 ∷ 113 ∷ 123 ∷ []) s)
  operand_read w rest t m s = absurd s

  -- With `v` an item stands before a `-` after which no end of a range is read.
  some_character : (a : Atom) → is_character a ≡ true → (k : CharacterKind) × (v : ℕ) × (a ≡ character k v)
  some_character (character k v) h = (k, v, refl)
  some_character q h = absurd (let no : ⊥ = cc h in no)

  in_sets : (threes : Bool) (a : Atom) (n : ℕ) → is_sets e.mode ≡ true → item_where (threes || is_sets e.mode) a n ≡ Some (item a, n)
  in_sets true a n h = refl
  in_sets false a n h = ap (λ set. item_where set a n) h

  set_item : (a : Atom) (n : ℕ) (hyphen : CodePoint) (more : List CodePoint) → hyphen.value ≡ 45 → BeginsNoRange e a (hyphen ∷ more) → (r : AtomRead) → atom_at e more ≡ r → before_dash e.mode a n r ≡ Some (item a, n)
  set_item a n hyphen more is b no_atom f = ap (λ set. item_where set a n) b.sets
  set_item a n hyphen more is b (atom_read c m) f = elim (cases_Bool (is_character a && is_character c)) [
    | inl h ↦
        let p = both (is_character a) (is_character c) h in
        let k = some_character c p.1 in
        let g = atom_found c m more f in
        absurd (b.none p.0 (record {
          hyphen = hyphen;
          kind = k.0;
          value = k.1;
          w = g.w;
          more = g.rest;
          whole = ap (λ us. hyphen ∷ us) g.whole;
          hyphen_is = is;
          spelled = subst (λ c. SpellsAtom e c g.w g.rest) k.2 g.spelled;
        }))
    | inr h ↦ cond-false (is_character a && is_character c) _ _ h ∙ in_sets (has_threes e.mode) a n b.sets
  ]

  hyphen_there : (us : List CodePoint) → is_dashed (values us) ≡ true → (u : CodePoint) × (more : List CodePoint) × (us ≡ u ∷ more) × (u.value ≡ 45)
  hyphen_there [] h = absurd (let no : ⊥ = cc h in no)
  hyphen_there (u ∷ []) h = absurd (let no : ⊥ = cc h in no)
  hyphen_there (u ∷ v ∷ us) h = (u, v ∷ us, refl, eqb-true u.value 45 (both (u.value == 45) (not (v.value == 93)) h).0)

  -- what a `-` and an atom after an atom make of it
  dashed_is : (a b : Atom) (n : ℕ) (us : List CodePoint) (hyphen : CodePoint) (w more : List CodePoint) → is_dashed (values us) ≡ true → us ≡ hyphen ∷ (w ++ more) → SpellsAtom e b w more →
      item_before e a n us ≡ before_dash e.mode a n (atom_read b (length w))
  dashed_is a b n us hyphen w more d h s =
      cond-true (is_dashed (values us)) _ _ d
      ∙ ap (λ us. before_dash e.mode a n (atom_at e (drop 1 us))) h
      ∙ ap (before_dash e.mode a n) (atom_is_read b w more s)

  item_is : (a : Atom) (n : ℕ) (rest : List CodePoint) → StandsBefore e a rest → item_before e a n rest ≡ Some (item a, n)
  item_is a n rest (inl d) = cond-false (is_dashed (values rest)) _ _ d
  item_is a n rest (inr (inl t)) =
      dashed_is a t.third n rest t.hyphen t.w t.more t.dashed t.whole t.spelled
      ∙ cond-false (is_character a && is_character t.third) _ _ t.apart
      ∙ ap (λ threes. item_where (threes || is_sets e.mode) a n) t.threes
  item_is a n rest (inr (inr b)) = elim (cases_Bool (is_dashed (values rest))) [
    | inl d ↦
        let h = hyphen_there rest d in
        cond-true (is_dashed (values rest)) _ _ d
        ∙ ap (λ us. before_dash e.mode a n (atom_at e (drop 1 us))) h.2
        ∙ set_item a n h.0 h.1 h.3 (subst (BeginsNoRange e a) h.2 b) (atom_at e h.1) refl
    | inr d ↦ cond-false (is_dashed (values rest)) _ _ d
  ]

  low_is : (k : CharacterKind) (v n : ℕ) (rest : List CodePoint) → is_dashed (values rest) ≡ true → BeforeHigh e rest → item_before e (character k v) n rest ≡ Some (low k v, n)
  low_is k v n rest d b = dashed_is (character k v) (character b.kind b.value) n rest b.hyphen b.w b.more d b.whole b.spelled

  -- an atom where an item may begin
  fresh_atom : (a : Atom) (w rest : List CodePoint) → SpellsAtom e a w rest → fresh_token e (atom_at e (w ++ rest)) (w ++ rest) ≡ item_before e a (length w) rest
  fresh_atom a w rest s = ap (λ r. fresh_token e r (w ++ rest)) (atom_is_read a w rest s) ∙ ap (item_before e a (length w)) (drop-append_seam w rest)

  -- With `v`, and where no atom begins, what stands there is neither an atom nor a closer.
  fresh_set : (us : List CodePoint) → is_sets e.mode ≡ true → atom_at e us ≡ no_atom → starts 93 (values us) ≡ false → fresh_token e (atom_at e us) us ≡ set_token (values us)
  fresh_set us m none c =
      ap (λ r. fresh_token e r us) none ∙ cond-false (starts 93 (values us)) _ _ c ∙ cond-true (is_sets e.mode) _ _ m

  starts_by : (c : ℕ) (us : List CodePoint) (d : ℕ) (v : List ℕ) → values us ≡ d ∷ v → (d == c) ≡ false → starts c (values us) ≡ false
  starts_by c us d v h n = ap (starts c) h ∙ n

  -- No operand is spelled by no units.
  pub operand_some : (t : ClassToken) (w rest : List CodePoint) → SpellsOperand e t w rest → 0 < length w
  operand_some (item a) w rest s = atom_some a w rest s
  operand_some (bracket true) w rest s = omega (arith, units w (91 ∷ 94 ∷ []) s)
  operand_some (bracket false) w rest s = omega (arith, units w (91 ∷ []) s.0)
  operand_some strings w rest s = omega (arith, units w (92 ∷ 113 ∷ 123 ∷ []) s)
  operand_some t w rest s = absurd s

  token_there : (b : Bool) (r : TokenRead) → b ≡ true → token_where b r ≡ r
  token_there b r h = ap (λ b. token_where b r) h

  one_unit : (w rest : List CodePoint) (c : ℕ) (t : ClassToken) → values w ≡ c ∷ [] → token_where (starts c (values (w ++ rest))) (Some (t, 1)) ≡ Some (t, length w)
  one_unit w rest c t h =
      let u = single w c h in
      token_there (starts c (values (w ++ rest))) (Some (t, 1)) (ap (λ v. starts c (values (v ++ rest))) u.1 ∙ ap (λ d. d == c) u.2 ∙ same_value c)
      ∙ ap (λ n. Some (t, n)) (units w (c ∷ []) h)
    where
      same_value : (c : ℕ) → (c == c) ≡ true
      same_value c = grind (arith, nat_tests)

  letter_read : (k : CharacterKind) (v : ℕ) (w rest : List CodePoint) → SpellsClassCharacter e k v w rest → string_token (atom_at e (w ++ rest)) (values (w ++ rest)) ≡ Some (letter k v, length w)
  letter_read k v w rest s = ap (λ r. string_token r (values (w ++ rest))) (character_read k v w rest s)

  of_strings_read : (t : ClassToken) (w rest : List CodePoint) → is_sets e.mode ≡ true → SpellsOfStrings e t w rest → string_token (atom_at e (w ++ rest)) (values (w ++ rest)) ≡ Some (t, length w)
  of_strings_read (letter k v) w rest m s = letter_read k v w rest s
  of_strings_read string_bar w rest m s =
      let text = text_of w rest (124 ∷ []) s in
      ap (λ r. string_token r (values (w ++ rest))) (no_set_atom (w ++ rest) 124 (values rest) m text refl refl) ∙ ap (string_token no_atom) text ∙ ap (λ n. Some (string_bar, n)) (units w (124 ∷ []) s)
  of_strings_read strings_end w rest m s =
      let text = text_of w rest (125 ∷ []) s in
      ap (λ r. string_token r (values (w ++ rest))) (no_set_atom (w ++ rest) 125 (values rest) m text refl refl) ∙ ap (string_token no_atom) text ∙ ap (λ n. Some (strings_end, n)) (units w (125 ∷ []) s)
  of_strings_read t w rest m s = absurd s

  -- What is spelled at a place of a class is read there.
  pub class_token_is : (q : Place) (t : ClassToken) (w rest : List CodePoint) → SpellsInClass e q t w rest → class_token_at e q (w ++ rest) ≡ Some (t, length w)
  unfolding class_token_at
  class_token_is outside (bracket negative) w rest s = at_bracket negative w rest s
  class_token_is fresh closer w rest s =
      let u = single w 93 s in
      ap (λ v. fresh_token e (atom_at e (v ++ rest)) (v ++ rest)) u.1
      ∙ ap (λ r. fresh_token e r (u.0 ∷ rest)) (no_atom_at_closer u.0 rest u.2)
      ∙ cond-true (u.0.value == 93) _ _ (ap (λ c. c == 93) u.2)
      ∙ ap (λ n. Some (closer, n)) (units w (93 ∷ []) s)
  class_token_is fresh (item a) w rest s = fresh_atom a w rest s.0 ∙ item_is a (length w) rest s.1
  class_token_is fresh (low k v) w rest s = fresh_atom (character k v) w rest s.0 ∙ low_is k v (length w) rest s.1 s.2
  class_token_is fresh (bracket negative) w rest s =
      let b = bracket_begins negative w rest s.1 in
      fresh_set (w ++ rest) s.0 (no_set_atom (w ++ rest) 91 b.0 s.0 b.1 refl refl) (starts_by 93 (w ++ rest) 91 b.0 b.1 refl)
      ∙ ap set_token b.1 ∙ ap bracket_at (sym b.1) ∙ at_bracket negative w rest s.1
  class_token_is fresh strings w rest s =
      let text = text_of w rest (92 ∷ 113 ∷ 123 ∷ []) s.1 in
      fresh_set (w ++ rest) s.0 (no_strings_atom (w ++ rest) (123 ∷ values rest) s.0 text) (starts_by 93 (w ++ rest) 92 (113 ∷ 123 ∷ values rest) text refl)
      ∙ ap set_token text ∙ ap (λ n. Some (strings, n)) (units w (92 ∷ 113 ∷ 123 ∷ []) s.1)
  class_token_is fresh (operator Intersection) w rest s =
      let text = text_of w rest (38 ∷ 38 ∷ []) s.1 in
      fresh_set (w ++ rest) s.0 (no_set_atom (w ++ rest) 38 (38 ∷ values rest) s.0 text refl refl) (starts_by 93 (w ++ rest) 38 (38 ∷ values rest) text refl)
      ∙ ap set_token text ∙ ap (λ n. Some (operator Intersection, n)) (units w (38 ∷ 38 ∷ []) s.1)
  class_token_is fresh (operator Subtraction) w rest s =
      let text = text_of w rest (45 ∷ 45 ∷ []) s.1 in
      fresh_set (w ++ rest) s.0 (no_set_atom (w ++ rest) 45 (45 ∷ values rest) s.0 text refl refl) (starts_by 93 (w ++ rest) 45 (45 ∷ values rest) text refl)
      ∙ ap set_token text ∙ ap (λ n. Some (operator Subtraction, n)) (units w (45 ∷ 45 ∷ []) s.1)
  class_token_is at_dash dash w rest s = one_unit w rest 45 dash s
  class_token_is at_high (high k v) w rest s = ap high_of (atom_is_read (character k v) w rest s)
  class_token_is at_second (item a) w rest s = one_unit w rest 45 (item (character kinds.Symbol 45)) s.1 ∙ ap (λ a. Some (item a, length w)) (sym s.0)
  class_token_is at_third (item a) w rest s = ap item_of (atom_is_read a w rest s)
  class_token_is (after_operator o) t w rest s =
      token_there (is_sets e.mode && may_follow_operator o (values (w ++ rest))) _
      (and_from (is_sets e.mode) (may_follow_operator o (values (w ++ rest))) s.0 (follows_front o w rest (operand_some t w rest s.1) ∙ s.2))
      ∙ operand_read w rest t s.0 s.1
  class_token_is in_strings t w rest s = token_there (is_sets e.mode) _ s.0 ∙ of_strings_read t w rest s.0 s.1
  class_token_is q t w rest s = absurd s

  -- a token that stands at the front, at a place of a class
  pub record TokenFront (q : Place) (t : ClassToken) (n : ℕ) (us : List CodePoint) : Type 0 where
    pub w : List CodePoint
    pub rest : List CodePoint
    pub whole : us ≡ w ++ rest
    pub count : length w ≡ n
    pub spelled : SpellsInClass e q t w rest

  -- What is read at a place is spelled there, by a token of what it may be.
  abbrev Front : (ClassToken → List CodePoint → List CodePoint → Type 0) → List CodePoint → ClassToken × ℕ → Type 0
  Front spells us read = (w : List CodePoint) × (rest : List CodePoint) × (us ≡ w ++ rest) × (length w ≡ read.1) × spells read.0 w rest

  abbrev Reading : Type 1
  Reading = ClassToken → List CodePoint → List CodePoint → Type 0

  front_by : (spells : Reading) (us : List CodePoint) (read : ClassToken × ℕ) (t : ClassToken) (w rest : List CodePoint) (n : ℕ) → us ≡ w ++ rest → length w ≡ n → spells t w rest → Some (t, n) ≡ Some read → Front spells us read
  front_by spells us read t w rest n h l s same = subst (Front spells us) (Some-inj same) (w, rest, h, l, s)

  -- the characters at the front, as units
  front_text : (spells : Reading) (us : List CodePoint) (read : ClassToken × ℕ) (t : ClassToken) (v more : List ℕ) → values us ≡ v ++ more → ((w rest : List CodePoint) → values w ≡ v → values rest ≡ more → spells t w rest) →
      Some (t, length v) ≡ Some read → Front spells us read
  front_text spells us read t v more h make same =
      let s = split_values us v more h in
      front_by spells us read t s.front s.back (length v) s.whole (sym (units s.front v s.front_is)) (make s.front s.back s.front_is s.back_is) same

  next_are : (c d : ℕ) (w : List ℕ) → are_next c d w ≡ true → (more : List ℕ) × (w ≡ c ∷ d ∷ more)
  next_are c d [] h = absurd (let no : ⊥ = cc h in no)
  next_are c d (x ∷ []) h = absurd (let no : ⊥ = grind (arith, h) in no)
  next_are c d (x ∷ y ∷ w) h = let b = both (x == c) (y == d) h in (w, ap₂ (λ a b. a ∷ b ∷ w) (eqb-true x c b.0) (eqb-true y d b.1))

  strings_are : (w : List ℕ) → begins_strings w ≡ true → (more : List ℕ) × (w ≡ 92 ∷ 113 ∷ 123 ∷ more)
  strings_are [] h = absurd (let no : ⊥ = cc h in no)
  strings_are (c ∷ w) h =
      let b = both (c == 92) (are_next 113 123 w) h in
      let n = next_are 113 123 w b.1 in
      (n.0, ap₂ (λ c w. c ∷ w) (eqb-true c 92 b.0) n.1)

  -- an operand that is no atom, or the beginning of one
  abbrev SpellsOpening : Reading
  SpellsOpening (bracket negative) w rest = SpellsBracket negative w rest
  SpellsOpening strings w rest = values w ≡ 92 ∷ 113 ∷ 123 ∷ []
  SpellsOpening t w rest = ⊥

  opening_operand : (t : ClassToken) (w rest : List CodePoint) → SpellsOpening t w rest → SpellsOperand e t w rest
  opening_operand (bracket negative) w rest s = s
  opening_operand strings w rest s = s
  opening_operand t w rest s = absurd s

  outside_opening : (t : ClassToken) (w rest : List CodePoint) → SpellsInClass e outside t w rest → SpellsOpening t w rest
  outside_opening (bracket negative) w rest s = s
  outside_opening t w rest s = absurd s

  opening_fresh : (t : ClassToken) (w rest : List CodePoint) → is_sets e.mode ≡ true → SpellsOpening t w rest → SpellsInClass e fresh t w rest
  opening_fresh (bracket negative) w rest m s = (m, s)
  opening_fresh strings w rest m s = (m, s)
  opening_fresh t w rest m s = absurd s

  bracket_found : (us : List CodePoint) (read : ClassToken × ℕ) (r : List ℕ) → values us ≡ r → bracket_at r ≡ Some read → Front (SpellsInClass e outside) us read
  bracket_found us read [] f h = absurd (let no : ⊥ = cc h in no)
  bracket_found us read (c ∷ r) f h = elim (chosen (c == 91) h) [
    | inl p ↦ elim (chosen (starts 94 r) p.1) [
      | inl q ↦
          let s = starts_there 94 r q.0 in
          front_text (SpellsInClass e outside) us read (bracket true) (91 ∷ 94 ∷ []) s.0 (f ∙ ap₂ (λ c r. c ∷ r) (eqb-true c 91 p.0) s.1) (λ w rest first others. first) q.1
      | inr q ↦
          front_text (SpellsInClass e outside) us read (bracket false) (91 ∷ []) r (f ∙ ap (λ c. c ∷ r) (eqb-true c 91 p.0)) (λ w rest first others. (first, ap (starts 94) others ∙ q.0)) q.1
    ]
    | inr p ↦ absurd (let q = p.1 in let no : ⊥ = cc q in no)
  ]

  operand_found : (us : List CodePoint) (read : ClassToken × ℕ) → operand_token (values us) ≡ Some read → Front SpellsOpening us read
  operand_found us read h = elim (chosen (begins_strings (values us)) h) [
    | inl p ↦
        let s = strings_are (values us) p.0 in
        front_text SpellsOpening us read strings (92 ∷ 113 ∷ 123 ∷ []) s.0 s.1 (λ w rest first others. first) p.1
    | inr p ↦ let o = bracket_found us read (values us) refl p.1 in (o.0, o.1, o.2, o.3, outside_opening read.0 o.0 o.1 o.4)
  ]

  any_operand_found : (us : List CodePoint) (read : ClassToken × ℕ) (r : AtomRead) → atom_at e us ≡ r → operand_of r (values us) ≡ Some read → Front (SpellsOperand e) us read
  any_operand_found us read no_atom f h = let o = operand_found us read h in (o.0, o.1, o.2, o.3, opening_operand read.0 o.0 o.1 o.4)
  any_operand_found us read (atom_read a n) f h = let g = atom_found a n us f in front_by (SpellsOperand e) us read (item a) g.w g.rest n g.whole g.count g.spelled h

  of_strings_found : (us : List CodePoint) (read : ClassToken × ℕ) (r : AtomRead) → atom_at e us ≡ r → string_token r (values us) ≡ Some read → Front (SpellsOfStrings e) us read
  of_strings_found us read (atom_read (character k v) n) f h =
      let g = atom_found (character k v) n us f in front_by (SpellsOfStrings e) us read (letter k v) g.w g.rest n g.whole g.count g.spelled h
  of_strings_found us read (atom_read (escape k) n) f h = absurd (let no : ⊥ = cc h in no)
  of_strings_found us read (atom_read (property negative may name value) n) f h = absurd (let no : ⊥ = cc h in no)
  of_strings_found us read no_atom f h = elim (chosen (starts 124 (values us)) h) [
    | inl p ↦ let s = starts_there 124 (values us) p.0 in front_text (SpellsOfStrings e) us read string_bar (124 ∷ []) s.0 s.1 (λ w rest first others. first) p.1
    | inr p ↦ elim (chosen (starts 125 (values us)) p.1) [
      | inl q ↦ let s = starts_there 125 (values us) q.0 in front_text (SpellsOfStrings e) us read strings_end (125 ∷ []) s.0 s.1 (λ w rest first others. first) q.1
      | inr q ↦ absurd (let k = q.1 in let no : ⊥ = cc k in no)
    ]
  ]

  where_true_is : (b : Bool) (r : TokenRead) (read : ClassToken × ℕ) → token_where b r ≡ Some read → (b ≡ true) × (r ≡ Some read)
  where_true_is true r read h = (refl, h)
  where_true_is false r read h = absurd (let no : ⊥ = cc h in no)

  item_where_is : (b : Bool) (a : Atom) (n : ℕ) (read : ClassToken × ℕ) → item_where b a n ≡ Some read → (b ≡ true) × (Some (item a, n) ≡ Some read)
  item_where_is true a n read h = (refl, h)
  item_where_is false a n read h = absurd (let no : ⊥ = cc h in no)

  abbrev FreshFront : List CodePoint → ClassToken × ℕ → Type 0
  FreshFront = Front (SpellsInClass e fresh)

  fresh_by : (us : List CodePoint) (read : ClassToken × ℕ) (t : ClassToken) (w rest : List CodePoint) (n : ℕ) → us ≡ w ++ rest → length w ≡ n → SpellsInClass e fresh t w rest → Some (t, n) ≡ Some read → FreshFront us read
  fresh_by us read t w rest n h l s same = front_by (SpellsInClass e fresh) us read t w rest n h l s same

  -- an atom of n units that stands at the front, before these
  module _ (us : List CodePoint) (read : ClassToken × ℕ) (w rest : List CodePoint) (whole : us ≡ w ++ rest) where
    item_there : (a : Atom) (n : ℕ) → length w ≡ n → SpellsAtom e a w rest → StandsBefore e a rest → Some (item a, n) ≡ Some read → FreshFront us read
    item_there a n l s b h = fresh_by us read (item a) w rest n whole l (s, b) h

    no_range : (a : Atom) (hyphen : CodePoint) (more : List CodePoint) → rest ≡ hyphen ∷ more → is_sets e.mode ≡ true → (is_character a ≡ true → (k : CharacterKind) (v m : ℕ) → atom_at e more ≡ atom_read (character k v) m → ⊥) → BeginsNoRange e a rest
    no_range a hyphen more is m none = record {
      sets = m;
      none = λ c b.
          let same = sym is ∙ b.whole in
          none c b.kind b.value (length b.w) (ap (atom_at e) (let k : more ≡ b.w ++ b.more = cc same in k) ∙ character_read b.kind b.value b.w b.more b.spelled);
    }

    pair_there : (a b : Atom) (n m : ℕ) (hyphen : CodePoint) (more : List CodePoint) → length w ≡ n → SpellsAtom e a w rest → is_dashed (values rest) ≡ true → rest ≡ hyphen ∷ more → hyphen.value ≡ 45 → AtomFront b m more →
        (is_character a && is_character b) ≡ true → low_of a n ≡ Some read → FreshFront us read
    pair_there (character k v) (character j x) n m hyphen more l s d is hyphen_is f c h =
        fresh_by us read (low k v) w rest n whole l (s, d, record { hyphen = hyphen; kind = j; value = x; w = f.w; more = f.rest; whole = is ∙ ap (λ us. hyphen ∷ us) f.whole; hyphen_is = hyphen_is; spelled = f.spelled }) h
    pair_there (character k v) (escape j) n m hyphen more l s d is hyphen_is f c h = absurd (let no : ⊥ = cc c in no)
    pair_there (character k v) (property negative may name value) n m hyphen more l s d is hyphen_is f c h = absurd (let no : ⊥ = cc c in no)
    pair_there (escape k) b n m hyphen more l s d is hyphen_is f c h = absurd (let no : ⊥ = cc h in no)
    pair_there (property negative may name value) b n m hyphen more l s d is hyphen_is f c h = absurd (let no : ⊥ = cc h in no)

    no_pair : (a b : Atom) (m : ℕ) (more : List CodePoint) → atom_at e more ≡ atom_read b m → (is_character a && is_character b) ≡ false → is_character a ≡ true → (k : CharacterKind) (v i : ℕ) → atom_at e more ≡ atom_read (character k v) i → ⊥
    no_pair a b m more f apart c k v i g =
        let same : b ≡ character k v = (let h = sym f ∙ g in let k : b ≡ character k v = cc h in k) in
        let no : true ≡ false = sym (and_from (is_character a) (is_character b) c (ap is_character same)) ∙ apart in
        let k : ⊥ = cc no in k

    apart_there : (a b : Atom) (n m : ℕ) (hyphen : CodePoint) (more : List CodePoint) → length w ≡ n → SpellsAtom e a w rest → is_dashed (values rest) ≡ true → rest ≡ hyphen ∷ more → hyphen.value ≡ 45 → atom_at e more ≡ atom_read b m →
        (is_character a && is_character b) ≡ false → item_where (has_threes e.mode || is_sets e.mode) a n ≡ Some read → FreshFront us read
    apart_there a b n m hyphen more l s d is hyphen_is f c h =
        let i = item_where_is (has_threes e.mode || is_sets e.mode) a n read h in
        let g = atom_found b m more f in
        item_there a n l s (elim (cases_Bool (has_threes e.mode)) [
          | inl t ↦ inr (inl (record { hyphen = hyphen; third = b; w = g.w; more = g.rest; whole = is ∙ ap (λ us. hyphen ∷ us) g.whole; hyphen_is = hyphen_is; dashed = d; spelled = g.spelled; apart = c; threes = t }))
          | inr t ↦ inr (inr (no_range a hyphen more is (ap (λ b. b || is_sets e.mode) (sym t) ∙ i.0) (no_pair a b m more f c)))
        ]) i.1

    dashed_there : (a : Atom) (n : ℕ) (hyphen : CodePoint) (more : List CodePoint) → length w ≡ n → SpellsAtom e a w rest → is_dashed (values rest) ≡ true → rest ≡ hyphen ∷ more → hyphen.value ≡ 45 →
        (r : AtomRead) → atom_at e more ≡ r → before_dash e.mode a n r ≡ Some read → FreshFront us read
    dashed_there a n hyphen more l s d is hyphen_is no_atom f h =
        let i = item_where_is (is_sets e.mode) a n read h in
        item_there a n l s (inr (inr (no_range a hyphen more is i.0 (λ c k v m g. let no = sym f ∙ g in let k : ⊥ = cc no in k)))) i.1
    dashed_there a n hyphen more l s d is hyphen_is (atom_read b m) f h = elim (chosen (is_character a && is_character b) h) [
      | inl p ↦ pair_there a b n m hyphen more l s d is hyphen_is (atom_found b m more f) p.0 p.1
      | inr p ↦ apart_there a b n m hyphen more l s d is hyphen_is f p.0 p.1
    ]

    before_there : (a : Atom) (n : ℕ) → length w ≡ n → SpellsAtom e a w rest → item_before e a n rest ≡ Some read → FreshFront us read
    before_there a n l s h = elim (chosen (is_dashed (values rest)) h) [
      | inl p ↦
          let t = hyphen_there rest p.0 in
          dashed_there a n t.0 t.1 l s p.0 t.2 t.3 (atom_at e t.1) refl (ap (λ us. before_dash e.mode a n (atom_at e (drop 1 us))) (sym t.2) ∙ p.1)
      | inr p ↦ item_there a n l s (inl p.0) p.1
    ]

  set_found : (us : List CodePoint) (read : ClassToken × ℕ) → is_sets e.mode ≡ true → set_token (values us) ≡ Some read → FreshFront us read
  set_found us read m h = elim (chosen (are_next 38 38 (values us)) h) [
    | inl p ↦ let s = next_are 38 38 (values us) p.0 in front_text (SpellsInClass e fresh) us read (operator Intersection) (38 ∷ 38 ∷ []) s.0 s.1 (λ w rest first others. (m, first)) p.1
    | inr p ↦ elim (chosen (are_next 45 45 (values us)) p.1) [
      | inl q ↦ let s = next_are 45 45 (values us) q.0 in front_text (SpellsInClass e fresh) us read (operator Subtraction) (45 ∷ 45 ∷ []) s.0 s.1 (λ w rest first others. (m, first)) q.1
      | inr q ↦ let o = operand_found us read q.1 in (o.0, o.1, o.2, o.3, opening_fresh read.0 o.0 o.1 m o.4)
    ]
  ]

  closer_found : (us : List CodePoint) (read : ClassToken × ℕ) → starts 93 (values us) ≡ true → Some (closer, 1) ≡ Some read → FreshFront us read
  closer_found us read c h = let s = starts_there 93 (values us) c in front_text (SpellsInClass e fresh) us read closer (93 ∷ []) s.0 s.1 (λ w rest first others. first) h

  fresh_found : (us : List CodePoint) (read : ClassToken × ℕ) (r : AtomRead) → atom_at e us ≡ r → fresh_token e r us ≡ Some read → FreshFront us read
  fresh_found us read (atom_read a n) f h =
      let g = atom_found a n us f in
      let seam : drop n us ≡ g.rest = ap (drop n) g.whole ∙ ap (λ n. drop n (g.w ++ g.rest)) (sym g.count) ∙ drop-append_seam g.w g.rest in
      before_there us read g.w g.rest g.whole a n g.count g.spelled (ap (item_before e a n) (sym seam) ∙ h)
  fresh_found us read no_atom f h = elim (chosen (starts 93 (values us)) h) [
    | inl p ↦ closer_found us read p.0 p.1
    | inr p ↦ elim (chosen (is_sets e.mode) p.1) [
      | inl q ↦ set_found us read q.0 q.1
      | inr q ↦ absurd (let k = q.1 in let no : ⊥ = cc k in no)
    ]
  ]

  -- one unit
  unit_found : (q : Place) (us : List CodePoint) (read : ClassToken × ℕ) (c : ℕ) (t : ClassToken) → ((w rest : List CodePoint) → values w ≡ c ∷ [] → SpellsInClass e q t w rest) →
      token_where (starts c (values us)) (Some (t, 1)) ≡ Some read → Front (SpellsInClass e q) us read
  unit_found q us read c t make h =
      let p = where_true_is (starts c (values us)) (Some (t, 1)) read h in
      let s = starts_there c (values us) p.0 in
      front_text (SpellsInClass e q) us read t (c ∷ []) s.0 s.1 (λ w rest first others. make w rest first) p.1

  high_found : (us : List CodePoint) (read : ClassToken × ℕ) (r : AtomRead) → atom_at e us ≡ r → high_of r ≡ Some read → Front (SpellsInClass e at_high) us read
  high_found us read (atom_read (character k v) n) f h =
      let g = atom_found (character k v) n us f in front_by (SpellsInClass e at_high) us read (high k v) g.w g.rest n g.whole g.count g.spelled h
  high_found us read (atom_read (escape k) n) f h = absurd (let no : ⊥ = cc h in no)
  high_found us read (atom_read (property negative may name value) n) f h = absurd (let no : ⊥ = cc h in no)
  high_found us read no_atom f h = absurd (let no : ⊥ = cc h in no)

  third_found : (us : List CodePoint) (read : ClassToken × ℕ) (r : AtomRead) → atom_at e us ≡ r → item_of r ≡ Some read → Front (SpellsInClass e at_third) us read
  third_found us read (atom_read a n) f h = let g = atom_found a n us f in front_by (SpellsInClass e at_third) us read (item a) g.w g.rest n g.whole g.count g.spelled h
  third_found us read no_atom f h = absurd (let no : ⊥ = cc h in no)

  place_found : (q : Place) (us : List CodePoint) (read : ClassToken × ℕ) → class_token_at e q us ≡ Some read → Front (SpellsInClass e q) us read
  unfolding class_token_at
  place_found outside us read h = bracket_found us read (values us) refl h
  place_found fresh us read h = fresh_found us read (atom_at e us) refl h
  place_found at_dash us read h = unit_found at_dash us read 45 dash (λ w rest s. s) h
  place_found at_high us read h = high_found us read (atom_at e us) refl h
  place_found at_second us read h = unit_found at_second us read 45 (item (character kinds.Symbol 45)) (λ w rest s. (refl, s)) h
  place_found at_third us read h = third_found us read (atom_at e us) refl h
  place_found (after_operator o) us read h =
      let p = where_true_is (is_sets e.mode && may_follow_operator o (values us)) _ read h in
      let b = both (is_sets e.mode) (may_follow_operator o (values us)) p.0 in
      let f = any_operand_found us read (atom_at e us) refl p.1 in
      (f.0, f.1, f.2, f.3, (b.0, f.4, sym (follows_front o f.0 f.1 (operand_some read.0 f.0 f.1 f.4)) ∙ ap (λ us. may_follow_operator o (values us)) (sym f.2) ∙ b.1))
  place_found in_strings us read h =
      let p = where_true_is (is_sets e.mode) _ read h in
      let o = of_strings_found us read (atom_at e us) refl p.1 in
      (o.0, o.1, o.2, o.3, (p.0, o.4))

  -- What is read at a place of a class is spelled there.
  pub class_token_found : (q : Place) (us : List CodePoint) (t : ClassToken) (n : ℕ) → class_token_at e q us ≡ Some (t, n) → TokenFront q t n us
  class_token_found q us t n h = let o = place_found q us (t, n) h in record { w = o.0; rest = o.1; whole = o.2; count = o.3; spelled = o.4 }

  -- No token is spelled by no units.
  pub token_some : (q : Place) (t : ClassToken) (w rest : List CodePoint) → SpellsInClass e q t w rest → 0 < length w
  token_some outside (bracket true) w rest s = omega (arith, units w (91 ∷ 94 ∷ []) s)
  token_some outside (bracket false) w rest s = omega (arith, units w (91 ∷ []) s.0)
  token_some fresh closer w rest s = omega (arith, units w (93 ∷ []) s)
  token_some fresh (item a) w rest s = atom_some a w rest s.0
  token_some fresh (low k v) w rest s = atom_some (character k v) w rest s.0
  token_some fresh (bracket negative) w rest s = operand_some (bracket negative) w rest s.1
  token_some fresh strings w rest s = operand_some strings w rest s.1
  token_some fresh (operator Intersection) w rest s = omega (arith, units w (38 ∷ 38 ∷ []) s.1)
  token_some fresh (operator Subtraction) w rest s = omega (arith, units w (45 ∷ 45 ∷ []) s.1)
  token_some at_dash dash w rest s = omega (arith, units w (45 ∷ []) s)
  token_some at_high (high k v) w rest s = atom_some (character k v) w rest s
  token_some at_second (item a) w rest s = omega (arith, units w (45 ∷ []) s.1)
  token_some at_third (item a) w rest s = atom_some a w rest s
  token_some (after_operator o) t w rest s = operand_some t w rest s.1
  token_some in_strings (letter k v) w rest s = atom_some (character k v) w rest s.1
  token_some in_strings string_bar w rest s = omega (arith, units w (124 ∷ []) s.1)
  token_some in_strings strings_end w rest s = omega (arith, units w (125 ∷ []) s.1)
  token_some in_strings t w rest s = absurd s.1
  token_some q t w rest s = absurd s

  -- the place after an item that no `-` follows, and after the first of three
  pub after_one : (a : Atom) (more : List CodePoint) → is_dashed (values more) ≡ false → next_place e.mode fresh (item a) more ≡ fresh
  after_one a more d = ap (λ b. following_item fresh (b && has_threes e.mode)) d

  pub after_first : (a : Atom) (more : List CodePoint) → BeforeThird e a more → next_place e.mode fresh (item a) more ≡ at_second
  after_first a more t = ap₂ (λ b c. following_item fresh (b && c)) t.dashed t.threes
