-- The rows of tokens that one text begins with are prefixes of its whole row.
use Rattle.std.proofs.Common.{◌≡◌, ℕ, refl, ap, ap₂, sym, ◌∙◌, subst, Bool, true, false, nat_le, ◌&&◌, ◌||◌, Option, Some, None, List, [], ◌∷◌, ◌++◌, length, drop, inl, inr}
use Rattle.std.proofs.Math.Seq.{drop-append_seam}
use Rattle.std.proofs.lemmas.Bool.{cases_Bool}
use Rattle.rx_ast.specs.declared.leaf.BoundaryAssertionKind.{BoundaryAssertionKind}
use Rattle.rx_ast.specs.declared.leaf.BoundaryAssertionKind.TheVariants as boundaries
use Rattle.rx_ast.specs.declared.leaf.CharacterKind.{CharacterKind}
use Rattle.rx_units.specs.declared.code_point.CodePoint.{CodePoint}
use Rattle.rx_units.specs.Units.{values}
use Rattle.rx_model.specs.Reading.Boundaries.{has_buffers, has_boundary}
use Rattle.rx_ast.specs.ClassTree.{Class}
use Rattle.rx_units.proofs.Choices.{Some-inj}
use Rattle.rx_model.specs.Classes.ClassRows as in_class
use Rattle.rx_model.specs.Classes.ClassRows.{stands_raw_in_class, SpellsInClassAlone, SpellsClassCharacter, SpellsAtom, BeforeHigh, BeforeThird, BeginsNoRange, StandsBefore, Place, outside, fresh, at_dash, at_high, at_second, at_third, after_operator, in_strings, has_hyphen, has_threes, SpellsOperand, SpellsOfStrings, SpellsInClass, ClassTokenRow, IsClass}
use Rattle.rx_model.specs.Classes.ClassTokens as tokens
use Rattle.rx_model.specs.Classes.ClassTokens.{Atom, ClassToken, bracket, item, low, dash, high, operator, strings, letter, string_bar, strings_end, class_tokens}
use Rattle.rx_model.specs.Inputs.Environment.{Environment, for_classes, is_sets, is_unicode}
use Rattle.rx_model.specs.Characters.Escapes.{SpellsEscape, control, letter, null, hexadecimal, unicode, identity}
use Rattle.rx_model.specs.Reading.Fronts.{front}
use Rattle.rx_model.specs.Groups.GroupNames.{SpellsName}
use Rattle.rx_model.specs.Groups.Groups.{IsIndexed, IsNamed, IsNaming, SpellsOpener}
use Rattle.rx_model.specs.Characters.LegacyEscapes as legacy
use Rattle.rx_model.specs.Characters.LegacyEscapes.{IsIdentity, SpellsLegacy}
use Rattle.rx_model.specs.Properties.PropertyEscapes.{SpellsProperty, IsProperty}
use Rattle.rx_model.specs.Reading.Rows.{IsRaw, IsEscaped, IsLegacyEscaped, Spells, TokenRow}
use Rattle.rx_units.specs.Sequences.{ElementRow}
use Rattle.rx_model.specs.Trees.Token.{Token, Opener, capturing, ignoring, looking, boundary, character, dot, class_escape, property, class, indexed, named, opener, bar}
use Rattle.rx_model.specs.Characters.UnicodeEscapes.{SpellsUnicode}
use Rattle.rx_model.proofs.Reading.Fronts.{spelled_front}
use Rattle.rx_units.proofs.Sequences.{longest, one}

buffers_same : (e d : Environment) → e.mode ≡ d.mode → e.buffer_boundaries ≡ d.buffer_boundaries → has_buffers e ≡ has_buffers d
buffers_same e d m b = ap (λ mode. is_unicode mode && e.buffer_boundaries) m ∙ ap (λ buffers. is_unicode d.mode && buffers) b

boundary_same : (e d : Environment) (kind : BoundaryAssertionKind) → e.mode ≡ d.mode → e.buffer_boundaries ≡ d.buffer_boundaries → has_boundary e kind ≡ has_boundary d kind
boundary_same e d boundaries.Start m b = refl
boundary_same e d boundaries.End m b = refl
boundary_same e d boundaries.Boundary m b = refl
boundary_same e d boundaries.NegativeBoundary m b = refl
boundary_same e d q m b = buffers_same e d m b

escape_same : (e d : Environment) (kind : CharacterKind) (v : ℕ) (w rest : List ℕ) → e.mode ≡ d.mode → SpellsEscape e kind v w rest → SpellsEscape d kind v w rest
escape_same e d _ v _ rest m (control h) = control h
escape_same e d _ v _ rest m (letter h) = letter h
escape_same e d _ _ _ rest m (null h) = null h
escape_same e d _ v _ rest m (hexadecimal h) = hexadecimal h
escape_same e d _ v w rest m (unicode s) = unicode (subst (λ mode. SpellsUnicode (is_unicode mode) v w rest) m s)
escape_same e d _ _ _ rest m (identity u h) = identity (subst (λ mode. is_unicode mode ≡ true) m u) h

raw_same : (e d : Environment) (kind : CharacterKind) (value : ℕ) (w rest : List CodePoint) → e.mode ≡ d.mode → IsRaw e kind value w rest → IsRaw d kind value w rest
raw_same e d kind value w rest m s = record {
  unit = s.unit;
  alone = s.alone;
  kind_is = s.kind_is;
  value_is = s.value_is;
  allowed = rw m at s.allowed;
  no_quantifier = λ h. s.no_quantifier (ap is_unicode m ∙ h);
}

-- With neither `u` nor `v` the number of groups counts too.
abbrev pub AgreeOnGroups : Environment → Environment → Type 0
AgreeOnGroups e d = is_unicode e.mode ≡ false → e.groups ≡ d.groups

identity_same : (inside : Bool) (e d : Environment) (c : ℕ) (rest : List ℕ) → e.named ≡ d.named → e.groups ≡ d.groups → IsIdentity inside e c rest → IsIdentity inside d c rest
identity_same inside e d c rest n g s = record {
  no_letter = s.no_letter;
  no_octal = s.no_octal;
  no_k = rw n at s.no_k;
  no_boundary = s.no_boundary;
  no_reference = rw g at s.no_reference;
  no_x = s.no_x;
  no_u = s.no_u;
}

legacy_same : (inside : Bool) (e d : Environment) (kind : CharacterKind) (v : ℕ) (w rest : List ℕ) → e.named ≡ d.named → e.groups ≡ d.groups → SpellsLegacy inside e kind v w rest → SpellsLegacy inside d kind v w rest
legacy_same inside e d _ _ _ _ n g (legacy.lone h) = legacy.lone h
legacy_same inside e d _ _ _ rest n g (legacy.class_control h k) = legacy.class_control h k
legacy_same inside e d _ _ _ rest n g (legacy.legacy_octal s f) = legacy.legacy_octal s (rw g at f)
legacy_same inside e d _ _ _ rest n g (legacy.identity {c} h) = legacy.identity (identity_same inside e d c rest n g h)

legacy_escaped_same : (e d : Environment) (kind : CharacterKind) (value : ℕ) (w rest : List CodePoint) → e.mode ≡ d.mode → e.named ≡ d.named → AgreeOnGroups e d →
    IsLegacyEscaped e kind value w rest → IsLegacyEscaped d kind value w rest
legacy_escaped_same e d kind value w rest m n g s = record {
  backslash = s.backslash;
  following = s.following;
  whole = s.whole;
  backslash_is = s.backslash_is;
  legacy = ap is_unicode (sym m) ∙ s.legacy;
  spelled = legacy_same false e d kind value (values s.following) (values rest) n (g s.legacy) s.spelled;
}

escaped_same : (e d : Environment) (kind : CharacterKind) (value : ℕ) (w rest : List CodePoint) → e.mode ≡ d.mode → IsEscaped e kind value w rest → IsEscaped d kind value w rest
escaped_same e d kind value w rest m s = record {
  backslash = s.backslash;
  following = s.following;
  whole = s.whole;
  backslash_is = s.backslash_is;
  spelled = escape_same e d kind value (values s.following) (values rest) m s.spelled;
}

refers_same : (e d : Environment) (n : ℕ) → e.mode ≡ d.mode → AgreeOnGroups e d → (is_unicode e.mode || nat_le n e.groups) ≡ true → (is_unicode d.mode || nat_le n d.groups) ≡ true
refers_same e d n m g h = elim (cases_Bool (is_unicode e.mode)) [
  | inl u ↦ ap (λ u. u || nat_le n d.groups) (ap is_unicode (sym m) ∙ u)
  | inr u ↦ ap₂ (λ u groups. u || nat_le n groups) (ap is_unicode (sym m)) (sym (g u)) ∙ h
]

indexed_same : (e d : Environment) (n : ℕ) (w rest : List CodePoint) → e.mode ≡ d.mode → AgreeOnGroups e d → IsIndexed e n w rest → IsIndexed d n w rest
indexed_same e d n w rest m g s = record {
  digits = s.digits;
  whole = s.whole;
  number = s.number;
  not_zero = s.not_zero;
  all = s.all;
  refers = refers_same e d n m g s.refers;
}

name_same : (e d : Environment) (name w rest : List ℕ) → e.mode ≡ d.mode → SpellsName (is_unicode e.mode) name w rest → SpellsName (is_unicode d.mode) name w rest
name_same e d name w rest m s = subst (λ mode. SpellsName (is_unicode mode) name w rest) m s

named_same : (e d : Environment) (name : List ℕ) (w rest : List CodePoint) → e.mode ≡ d.mode → e.named ≡ d.named → IsNamed e name w rest → IsNamed d name w rest
named_same e d name w rest m n s = record {
  spelled = s.spelled;
  whole = s.whole;
  spells = name_same e d name s.spelled (62 ∷ values rest) m s.spells;
  there = sym n ∙ s.there;
}

naming_same : (e d : Environment) (name : List ℕ) (w rest : List CodePoint) → e.mode ≡ d.mode → IsNaming e name w rest → IsNaming d name w rest
naming_same e d name w rest m s = record {
  spelled = s.spelled;
  whole = s.whole;
  spells = name_same e d name s.spelled (62 ∷ values rest) m s.spells;
}

opener_same : (e d : Environment) (o : Opener) (w rest : List CodePoint) → e.mode ≡ d.mode → SpellsOpener e o w rest → SpellsOpener d o w rest
opener_same e d (capturing None) w rest m s = s
opener_same e d (capturing (Some name)) w rest m s = naming_same e d name w rest m s
opener_same e d (ignoring None) w rest m s = s
opener_same e d (ignoring (Some bits)) w rest m s = s
opener_same e d (looking kind) w rest m s = s

pub property_same : (e d : Environment) (negative may : Bool) (name : List ℕ) (value : Option (List ℕ)) (w : List CodePoint) → e.mode ≡ d.mode →
    IsProperty e negative may name value w → IsProperty d negative may name value w
property_same e d negative may name value w m s = record {
  unicode = ap is_unicode (sym m) ∙ s.unicode;
  text = s.text;
  spelled = subst (λ mode. SpellsProperty mode may name value s.text) m s.spelled;
  whole = s.whole;
}

class_character_same : (e d : Environment) (k : CharacterKind) (v : ℕ) (w rest : List CodePoint) → e.mode ≡ d.mode → e.named ≡ d.named → AgreeOnGroups e d → SpellsClassCharacter e k v w rest → SpellsClassCharacter d k v w rest
class_character_same e d _ _ _ rest m n g (in_class.raw unit h) = in_class.raw unit (ap (λ mode. stands_raw_in_class mode unit.value (values rest)) (sym m) ∙ h)
class_character_same e d _ _ _ rest m n g (in_class.hyphen unit u h) = in_class.hyphen unit (ap has_hyphen (sym m) ∙ u) h
class_character_same e d k v _ rest m n g (in_class.escaped backslash following h s) = in_class.escaped backslash following h (escape_same e d k v (values following) (values rest) m s)
class_character_same e d k v _ rest m n g (in_class.escaped_in_class backslash following h s) =
    in_class.escaped_in_class backslash following h (subst (λ mode. SpellsInClassAlone mode k v (values following)) m s)
class_character_same e d k v _ rest m n g (in_class.escaped_in_legacy backslash following h u s) =
    in_class.escaped_in_legacy backslash following h (ap is_unicode (sym m) ∙ u) (legacy_same true e d k v (values following) (values rest) n (g u) s)

atom_same : (e d : Environment) (a : Atom) (w rest : List CodePoint) → e.mode ≡ d.mode → e.named ≡ d.named → AgreeOnGroups e d → SpellsAtom e a w rest → SpellsAtom d a w rest
atom_same e d (tokens.character k v) w rest m n g s = class_character_same e d k v w rest m n g s
atom_same e d (tokens.escape k) w rest m n g s = s
atom_same e d (tokens.property negative may name value) w rest m n g s = property_same e d negative may name value w m s

before_high_same : (e d : Environment) (rest : List CodePoint) → e.mode ≡ d.mode → e.named ≡ d.named → AgreeOnGroups e d → BeforeHigh e rest → BeforeHigh d rest
before_high_same e d rest m n g s = record {
  hyphen = s.hyphen;
  kind = s.kind;
  value = s.value;
  w = s.w;
  more = s.more;
  whole = s.whole;
  hyphen_is = s.hyphen_is;
  spelled = class_character_same e d s.kind s.value s.w s.more m n g s.spelled;
}

before_third_same : (e d : Environment) (a : Atom) (rest : List CodePoint) → e.mode ≡ d.mode → e.named ≡ d.named → AgreeOnGroups e d → BeforeThird e a rest → BeforeThird d a rest
before_third_same e d a rest m n g s = record {
  hyphen = s.hyphen;
  third = s.third;
  w = s.w;
  more = s.more;
  whole = s.whole;
  hyphen_is = s.hyphen_is;
  dashed = s.dashed;
  spelled = atom_same e d s.third s.w s.more m n g s.spelled;
  apart = s.apart;
  threes = ap has_threes (sym m) ∙ s.threes;
}

-- The two agree the other way round.
agree_back : (e d : Environment) → e.mode ≡ d.mode → AgreeOnGroups e d → AgreeOnGroups d e
agree_back e d m g h = sym (g (ap is_unicode m ∙ h))

no_range_same : (e d : Environment) (a : Atom) (rest : List CodePoint) → e.mode ≡ d.mode → e.named ≡ d.named → AgreeOnGroups e d → BeginsNoRange e a rest → BeginsNoRange d a rest
no_range_same e d a rest m n g s = record {
  sets = ap is_sets (sym m) ∙ s.sets;
  none = λ c b. s.none c (before_high_same d e rest (sym m) (sym n) (agree_back e d m g) b);
}

stands_before_same : (e d : Environment) (a : Atom) (rest : List CodePoint) → e.mode ≡ d.mode → e.named ≡ d.named → AgreeOnGroups e d → StandsBefore e a rest → StandsBefore d a rest
stands_before_same e d a rest m n g (inl h) = inl h
stands_before_same e d a rest m n g (inr (inl h)) = inr (inl (before_third_same e d a rest m n g h))
stands_before_same e d a rest m n g (inr (inr h)) = inr (inr (no_range_same e d a rest m n g h))

operand_same : (e d : Environment) (t : ClassToken) (w rest : List CodePoint) → e.mode ≡ d.mode → e.named ≡ d.named → AgreeOnGroups e d → SpellsOperand e t w rest → SpellsOperand d t w rest
operand_same e d (item a) w rest m n g s = atom_same e d a w rest m n g s
operand_same e d (bracket negative) w rest m n g s = s
operand_same e d strings w rest m n g s = s
operand_same e d t w rest m n g s = absurd s

of_strings_same : (e d : Environment) (t : ClassToken) (w rest : List CodePoint) → e.mode ≡ d.mode → e.named ≡ d.named → AgreeOnGroups e d → SpellsOfStrings e t w rest → SpellsOfStrings d t w rest
of_strings_same e d (letter k v) w rest m n g s = class_character_same e d k v w rest m n g s
of_strings_same e d string_bar w rest m n g s = s
of_strings_same e d strings_end w rest m n g s = s
of_strings_same e d t w rest m n g s = absurd s

in_class_same : (e d : Environment) (q : Place) (t : ClassToken) (w rest : List CodePoint) → e.mode ≡ d.mode → e.named ≡ d.named → AgreeOnGroups e d → SpellsInClass e q t w rest → SpellsInClass d q t w rest
in_class_same e d outside (bracket negative) w rest m n g s = s
in_class_same e d fresh tokens.closer w rest m n g s = s
in_class_same e d fresh (item a) w rest m n g s = (atom_same e d a w rest m n g s.0, stands_before_same e d a rest m n g s.1)
in_class_same e d fresh (low k v) w rest m n g s = (class_character_same e d k v w rest m n g s.0, s.1, before_high_same e d rest m n g s.2)
in_class_same e d fresh (bracket negative) w rest m n g s = (ap is_sets (sym m) ∙ s.0, s.1)
in_class_same e d fresh strings w rest m n g s = (ap is_sets (sym m) ∙ s.0, s.1)
in_class_same e d fresh (operator o) w rest m n g s = (ap is_sets (sym m) ∙ s.0, s.1)
in_class_same e d at_dash dash w rest m n g s = s
in_class_same e d at_high (high k v) w rest m n g s = class_character_same e d k v w rest m n g s
in_class_same e d at_second (item a) w rest m n g s = s
in_class_same e d at_third (item a) w rest m n g s = atom_same e d a w rest m n g s
in_class_same e d (after_operator o) t w rest m n g s = (ap is_sets (sym m) ∙ s.0, operand_same e d t w rest m n g s.1, s.2)
in_class_same e d in_strings t w rest m n g s = (ap is_sets (sym m) ∙ s.0, of_strings_same e d t w rest m n g s.1)
in_class_same e d q t w rest m n g s = absurd s

class_row_same : (e d : Environment) (ts : List ClassToken) (q : Place) (us : List CodePoint) (r : Place) (rest : List CodePoint) → e.mode ≡ d.mode → e.named ≡ d.named → AgreeOnGroups e d → ClassTokenRow e ts q us r rest → ClassTokenRow d ts q us r rest
class_row_same e d [] q us r rest m n g s = s
class_row_same e d (t ∷ ts) q us r rest m n g s = (
  s.0,
  s.1,
  s.2,
  in_class_same e d q t s.0 s.1 m n g s.3,
  subst (λ mode. ClassTokenRow d ts (in_class.next_place mode q t s.1) s.1 r rest) m (class_row_same e d ts (in_class.next_place e.mode q t s.1) s.1 r rest m n g s.4),
)

pub class_same : (e d : Environment) (c : Class) (w rest : List CodePoint) → e.mode ≡ d.mode → e.named ≡ d.named → AgreeOnGroups e d → IsClass e c w rest → IsClass d c w rest
class_same e d c w rest m n g s = record {
  no_spans = s.no_spans;
  shape = s.shape;
  row = class_row_same e d (class_tokens c) outside (w ++ rest) fresh rest m n g s.row;
}

-- Of the environment a token's spelling depends on the mode, on whether there are buffer boundaries, on whether `\k` is a reference, and with neither `u`
-- nor `v` on the number of groups.
pub Spells-mode : (e d : Environment) (t : Token) (w rest : List CodePoint) → e.mode ≡ d.mode → e.buffer_boundaries ≡ d.buffer_boundaries → e.named ≡ d.named → AgreeOnGroups e d →
    Spells e t w rest → Spells d t w rest
Spells-mode e d (character kind value) w rest m b n g s = elim s [
  | inl r ↦ inl (raw_same e d kind value w rest m r)
  | inr s ↦ elim s [ inl r ↦ inr (inl (escaped_same e d kind value w rest m r)) | inr r ↦ inr (inr (legacy_escaped_same e d kind value w rest m n g r)) ]
]
Spells-mode e d dot w rest m b n g s = s
Spells-mode e d bar w rest m b n g s = s
Spells-mode e d (boundary kind) w rest m b n g s = record { text = s.text; there = sym (boundary_same e d kind m b) ∙ s.there }
Spells-mode e d (class_escape kind) w rest m b n g s = s
Spells-mode e d (property negative may name value) w rest m b n g s = property_same e d negative may name value w m s
Spells-mode e d (class c) w rest m b n g s = class_same (for_classes e) (for_classes d) c w rest m n g s
Spells-mode e d (indexed index) w rest m b n g s = indexed_same e d index w rest m g s
Spells-mode e d (named name) w rest m b n g s = named_same e d name w rest m n s
Spells-mode e d (opener o) w rest m b n g s = opener_same e d o w rest m s
Spells-mode e d q w rest m b n g s = s

pub TokenRow-mode : (e d : Environment) (ts : List Token) (us rest : List CodePoint) → e.mode ≡ d.mode → e.buffer_boundaries ≡ d.buffer_boundaries → e.named ≡ d.named → AgreeOnGroups e d →
    TokenRow e ts us rest → TokenRow d ts us rest
TokenRow-mode e d [] us rest m b n g r = r
TokenRow-mode e d (t ∷ ts) us rest m b n g r = (r.0, r.1, r.2, Spells-mode e d t r.0 r.1 m b n g r.3, TokenRow-mode e d ts r.1 rest m b n g r.4)

-- as elements tokens stand at one place alone
abbrev pub token_at : Environment → Unit {0} → Token → List CodePoint → List CodePoint → Type 0
token_at e q = Spells e

abbrev pub after_token : Unit {0} → Token → List CodePoint → Unit {0}
after_token q t rest = tt

abbrev pub is_end : Unit {0} → List CodePoint → Type 0
is_end q us = us ≡ []

module _ (e : Environment) where
  -- Two tokens that one text begins with are one.
  pub first_token : (q : Unit {0}) (t s : Token) (w more v rest : List CodePoint) → w ++ more ≡ v ++ rest → Spells e t w more → Spells e s v rest → (t ≡ s) × (more ≡ rest)
  first_token q t s w more v rest h a b =
      let k : (t, length w) ≡ (s, length v) = Some-inj (sym (spelled_front e t w more a) ∙ ap (front e) h ∙ spelled_front e s v rest b) in
      (ap (λ x. x.0) k, sym (drop-append_seam w more) ∙ ap₂ drop (ap (λ x. x.1) k) h ∙ drop-append_seam v rest)

  pub nothing_spelled : (t : Token) (ts : List Token) (rest : List CodePoint) → TokenRow e (t ∷ ts) [] rest → ⊥
  unfolding front
  nothing_spelled t ts rest r = let m : front e [] ≡ Some (t, length r.0) = ap (front e) r.2 ∙ spelled_front e t r.0 r.1 r.3 in cc

  pub none_at_end : (q : Unit {0}) (us : List CodePoint) → is_end q us → (t : Token) (w rest : List CodePoint) → us ≡ w ++ rest → Spells e t w rest → ⊥
  none_at_end q us h t w rest k s = nothing_spelled t [] rest (w, rest, sym h ∙ k, s, refl)

  -- Rows of tokens are rows of elements.
  pub elements : (ts : List Token) (us rest : List CodePoint) → TokenRow e ts us rest → ElementRow (token_at e) after_token ts tt us tt rest
  elements [] us rest r = (refl, r)
  elements (t ∷ ts) us rest r = (r.0, r.1, r.2, r.3, elements ts r.1 rest r.4)

  pub of_elements : (ts : List Token) (us rest : List CodePoint) → ElementRow (token_at e) after_token ts tt us tt rest → TokenRow e ts us rest
  of_elements [] us rest r = r.1
  of_elements (t ∷ ts) us rest r = (r.0, r.1, r.2, r.3, of_elements ts r.1 rest r.4)

  pub row_prefix : (ts ss : List Token) (us rest : List CodePoint) → TokenRow e ts us rest → TokenRow e ss us [] → (xs : List Token) × (ss ≡ ts ++ xs) × TokenRow e xs rest []
  row_prefix ts ss us rest r s =
      let l = longest (token_at e) after_token first_token is_end none_at_end ss ts tt us tt [] tt rest (elements ss us [] s) refl (elements ts us rest r) in
      (l.0, l.1, of_elements l.0 rest [] l.2)

  pub one_row : (ts ss : List Token) (us : List CodePoint) → TokenRow e ts us [] → TokenRow e ss us [] → ts ≡ ss
  one_row ts ss us r s = (one (token_at e) after_token first_token is_end none_at_end ts ss tt us tt [] tt [] (elements ts us [] r) refl (elements ss us [] s) refl).0

-- also in two environments of one mode that agree on buffer boundaries and on references, and with neither `u` nor `v` on the number of groups
pub one_row_by_mode : (e d : Environment) (ts ss : List Token) (us : List CodePoint) → e.mode ≡ d.mode → e.buffer_boundaries ≡ d.buffer_boundaries → e.named ≡ d.named → AgreeOnGroups e d →
    TokenRow e ts us [] → TokenRow d ss us [] → ts ≡ ss
one_row_by_mode e d ts ss us m b n g r s = one_row d ts ss us (TokenRow-mode e d ts us [] m b n g r) s
