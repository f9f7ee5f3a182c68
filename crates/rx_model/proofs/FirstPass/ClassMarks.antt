-- A class is one mark: what stands in it ends no class but its closer.
use Rattle.std.proofs.Common.{◌≡◌, refl, ap, sym, ◌∙◌, subst, ℕ, suc, ◌+◌, ◌*◌, ◌||◌, Bool, true, false, not, is_some, Option, Some, List, [], ◌∷◌, ◌++◌, length, length-append, append_assoc, arith}
use Rattle.std.specs.List.{list_all}
use Rattle.std.proofs.lemmas.Bool.Decides.{nat_tests}
use Rattle.std.proofs.lemmas.List.{map-append}
use Rattle.std.proofs.lemmas.Option.{option_and_then_some}
use Rattle.rx_tables.specs.Characters.{control_letter_value, hex_digit_value, is_class_set_reserved_double_punctuator, is_class_set_syntax_character, is_octal_digit}
use Rattle.rx_base.specs.declared.diagnostic.kinds.SetOperator.{SetOperator}
use Rattle.rx_base.specs.declared.diagnostic.kinds.SetOperator.TheVariants as set
use Rattle.rx_base.specs.declared.span.Span.{Span}
use Rattle.rx_ast.specs.declared.leaf.Character.{Character}
use Rattle.rx_ast.specs.declared.leaf.CharacterClassEscapeKind.{CharacterClassEscapeKind}
use Rattle.rx_ast.specs.declared.leaf.CharacterClassEscapeKind.TheVariants.{D, NegativeD, S, NegativeS, W, NegativeW}
use Rattle.rx_ast.specs.declared.leaf.CharacterKind.{CharacterKind}
use Rattle.rx_ast.specs.declared.class.CharacterClassContentsKind.{CharacterClassContentsKind}
use Rattle.rx_ast.specs.declared.class.CharacterClassRange.{CharacterClassRange}
use Rattle.rx_ast.specs.declared.class.ClassString.{ClassString}
use Rattle.rx_ast.specs.declared.class.CharacterClassContentsKind.TheVariants.{Union, Intersection, Subtraction}
use Rattle.rx_ast.specs.ClassTree as tree
use Rattle.rx_ast.specs.ClassTree.{Member, Members, Class, no_member, member, class}
use Rattle.rx_units.specs.declared.code_point.CodePoint.{CodePoint}
use Rattle.rx_units.specs.Units.{values}
use Rattle.rx_units.specs.Digits.{front_is, hex_after}
use Rattle.rx_units.proofs.Choices.{both}
use Rattle.rx_model.specs.declared.mode.Mode.{Mode}
use Rattle.rx_model.specs.declared.mode.Mode.TheVariants.{Legacy, Unicode, Sets}
use Rattle.rx_model.specs.Classes.ClassRows.{stands_raw_in_class, SpellsInClassAlone, SpellsClassCharacter, SpellsAtom, SpellsBracket, SpellsInClass, ClassTokenRow, IsClass, Place, outside, fresh, at_dash, at_high, at_second, at_third, after_operator, in_strings, next_place}
use Rattle.rx_model.specs.Classes.ClassRows as spelled
use Rattle.rx_ast.specs.Texts.{class_escape_text, property_opener}
use Rattle.rx_model.specs.Classes.ClassTokens.{Atom, character, escape, property, ClassToken, bracket, closer, item, low, dash, high, operator, strings, letter, string_bar, strings_end, ClassEvents, enter, leave, token, class_tokens, class_tokens_of, within, letters_events, string_events, barred_strings_events, strings_events, range_events, operator_events, member_events, class_events, members_events, more_members_events}
use Rattle.rx_model.specs.Inputs.Environment.{Environment, is_sets, is_unicode}
use Rattle.rx_model.specs.Characters.Escapes as escapes
use Rattle.rx_model.specs.Characters.Escapes.{SpellsEscape, control, null, hexadecimal, unicode, identity}
use Rattle.rx_units.specs.OctalEscapes as octals
use Rattle.rx_model.specs.Characters.LegacyEscapes as legacy
use Rattle.rx_model.specs.Characters.LegacyEscapes.{SpellsLegacy, is_class_control}
use Rattle.rx_model.specs.FirstPass.Marks.{other, class_rest, mark_front, marks, marks_following}
use Rattle.rx_model.specs.FirstPass.MarkTexts.{is_class_mark}
use Rattle.rx_model.specs.Properties.PropertyEscapes.{IsProperty}
use Rattle.rx_model.specs.Characters.UnicodeEscapes.{SpellsUnicode, code_unit, alone, pair, braced}
use Rattle.rx_model.proofs.FirstPass.ClassRest.{escaped_rest, inside_begins, inside_ends, unit_rest}
use Rattle.rx_model.proofs.FirstPass.OpenerMarks.{marks_after}
use Rattle.rx_model.proofs.Properties.PropertyWords.{is_property_unit, property_units}
use Rattle.rx_model.proofs.Classes.ClassStates.{after_inside}

module _ (mode : Mode) where
  -- These units end no class before the rest, however many are open in it.
  abbrev IsPassedBefore : List ℕ → List ℕ → Type 0
  IsPassedBefore w rest = (n : ℕ) → class_rest mode false n (w ++ rest) ≡ class_rest mode false n rest + length w

  -- the same whatever follows them
  abbrev IsPassed : List ℕ → Type 0
  IsPassed w = (rest : List ℕ) → IsPassedBefore w rest

  -- a set that holds neither a backslash nor a bracket
  passed_in : (set : ℕ → Bool) (u : ℕ) → (set 92 || set 93 || set 91) ≡ false → set u ≡ true → is_class_mark mode u ≡ false
  passed_in set u without within = grind (arith, nat_tests)

  -- units that end no class, one by one and one after the other
  nothing_passed : IsPassed []
  nothing_passed rest n = omega arith

  unit_passed : (u : ℕ) (w : List ℕ) → is_class_mark mode u ≡ false → IsPassed w → IsPassed (u ∷ w)
  unit_passed u w h p rest n = let e = p rest n in unit_rest mode n u (w ++ rest) h ∙ omega (arith, e)

  escape_passed : (u : ℕ) (w : List ℕ) → IsPassed w → IsPassed (92 ∷ u ∷ w)
  escape_passed u w p rest n = let e = p rest n in escaped_rest mode n u (w ++ rest) ∙ omega (arith, e)

  append_passed : (w v : List ℕ) → IsPassed w → IsPassed v → IsPassed (w ++ v)
  append_passed w v p q rest n =
      let a = p (v ++ rest) n in let b = q rest n in let l = length-append w v in ap (class_rest mode false n) (append_assoc w v rest) ∙ omega (arith, a, b, l)

  -- hexadecimal digits
  hex_passed : (n : ℕ) (ds : List ℕ) (v : ℕ) → hex_after n ds ≡ Some v → IsPassed ds
  hex_passed n [] v h = nothing_passed
  hex_passed n (c ∷ ds) v h =
      option_and_then_some (λ d. hex_after (16 * n + d) ds) (hex_digit_value c) v h (λ d digit more.
      unit_passed c ds (passed_in (λ c. is_some (hex_digit_value c)) c refl (ap is_some digit)) (hex_passed (16 * n + d) ds v more))

  -- a unicode escape with its backslash
  unicode_passed : (unicode_mode : Bool) (v : ℕ) (w rest : List ℕ) → SpellsUnicode unicode_mode v w rest → IsPassed (92 ∷ w)
  unicode_passed _ v _ rest (code_unit {a} {b} {c} {d} h) = escape_passed 117 (a ∷ b ∷ c ∷ d ∷ []) (hex_passed 0 (a ∷ b ∷ c ∷ d ∷ []) v h)
  unicode_passed _ v _ rest (alone {a} {b} {c} {d} h k) = escape_passed 117 (a ∷ b ∷ c ∷ d ∷ []) (hex_passed 0 (a ∷ b ∷ c ∷ d ∷ []) v h)
  unicode_passed _ _ _ rest (pair {a} {b} {c} {d} {e} {f} {g} {h} {lead} {trail} first second is_lead is_trail) =
      escape_passed 117 (a ∷ b ∷ c ∷ d ∷ 92 ∷ 117 ∷ e ∷ f ∷ g ∷ h ∷ [])
      (append_passed (a ∷ b ∷ c ∷ d ∷ []) (92 ∷ 117 ∷ e ∷ f ∷ g ∷ h ∷ []) (hex_passed 0 (a ∷ b ∷ c ∷ d ∷ []) lead first)
      (escape_passed 117 (e ∷ f ∷ g ∷ h ∷ []) (hex_passed 0 (e ∷ f ∷ g ∷ h ∷ []) trail second)))
  unicode_passed _ v _ rest (braced x xs h k) =
      escape_passed 117 (123 ∷ x ∷ (xs ++ 125 ∷ [])) (unit_passed 123 (x ∷ (xs ++ 125 ∷ [])) refl
      (append_passed (x ∷ xs) (125 ∷ []) (hex_passed 0 (x ∷ xs) v h) (unit_passed 125 [] refl nothing_passed)))

module _ (e : Environment) where
  -- after a backslash a character escape
  spelled_escape_passed : (kind : CharacterKind) (v : ℕ) (w rest : List ℕ) → SpellsEscape e kind v w rest → IsPassed e.mode (92 ∷ w)
  spelled_escape_passed _ v _ rest (control {c} h) = escape_passed e.mode c [] (nothing_passed e.mode)
  spelled_escape_passed _ v _ rest (escapes.letter {c} h) =
      escape_passed e.mode 99 (c ∷ []) (unit_passed e.mode c [] (passed_in e.mode (λ c. is_some (control_letter_value c)) c refl (ap is_some h)) (nothing_passed e.mode))
  spelled_escape_passed _ _ _ rest (null h) = escape_passed e.mode 48 [] (nothing_passed e.mode)
  spelled_escape_passed _ v _ rest (hexadecimal {a} {b} h) = escape_passed e.mode 120 (a ∷ b ∷ []) (hex_passed e.mode 0 (a ∷ b ∷ []) v h)
  spelled_escape_passed _ v w rest (unicode s) = unicode_passed e.mode (is_unicode e.mode) v w rest s
  spelled_escape_passed _ _ _ rest (identity {c} u h) = escape_passed e.mode c [] (nothing_passed e.mode)

-- a character of a class
left_of : (a b : Bool) → not (a || b) ≡ true → not a ≡ true
left_of true b h = h
left_of false b h = refl

raw_passed : (mode : Mode) (u : ℕ) (w : List ℕ) → stands_raw_in_class mode u w ≡ true → is_class_mark mode u ≡ false
raw_passed Legacy u w h = grind (arith, nat_tests)
raw_passed Unicode u w h = grind (arith, nat_tests)
raw_passed Sets u w h =
    passed_in Sets (λ c. not (is_class_set_syntax_character c)) u refl (left_of (is_class_set_syntax_character u) (front_is (is_class_set_reserved_double_punctuator u) w) h)

alone_passed : (mode : Mode) (kind : CharacterKind) (v : ℕ) (w : List ℕ) → SpellsInClassAlone mode kind v w → IsPassed mode (92 ∷ w)
alone_passed mode _ _ _ spelled.backspace = escape_passed mode 98 [] (nothing_passed mode)
alone_passed mode _ _ _ (spelled.hyphen m) = escape_passed mode 45 [] (nothing_passed mode)
alone_passed mode _ _ _ (spelled.reserved c m h) = escape_passed mode c [] (nothing_passed mode)

-- after a backslash a character escape with neither `u` nor `v`
lone_passed : (mode : Mode) (rest : List ℕ) → IsPassedBefore mode (92 ∷ []) (99 ∷ rest)
lone_passed mode rest n = let whole = escaped_rest mode n 99 rest in let one = unit_rest mode n 99 rest refl in omega (arith, whole, one)

octal_passed : (mode : Mode) (d : ℕ) → is_octal_digit d ≡ true → is_class_mark mode d ≡ false
octal_passed mode d h = passed_in mode is_octal_digit d refl h

legacy_passed : (e : Environment) (kind : CharacterKind) (v : ℕ) (w rest : List ℕ) → SpellsLegacy true e kind v w rest → IsPassedBefore e.mode (92 ∷ w) rest
legacy_passed e _ _ _ _ (legacy.lone {rest} h) = lone_passed e.mode rest
legacy_passed e _ _ _ rest (legacy.class_control {c} h k) = escape_passed e.mode 99 (c ∷ []) (unit_passed e.mode c [] (passed_in e.mode is_class_control c refl k) (nothing_passed e.mode)) rest
legacy_passed e _ _ _ rest (legacy.legacy_octal (octals.octal_zero h) f) = escape_passed e.mode 48 [] (nothing_passed e.mode) rest
legacy_passed e _ _ _ rest (legacy.legacy_octal (octals.octal1 {c} h k) f) = escape_passed e.mode c [] (nothing_passed e.mode) rest
legacy_passed e _ _ _ rest (legacy.legacy_octal (octals.octal2_low {c} {d} h k n) f) = escape_passed e.mode c (d ∷ []) (unit_passed e.mode d [] (octal_passed e.mode d k) (nothing_passed e.mode)) rest
legacy_passed e _ _ _ rest (legacy.legacy_octal (octals.octal2_high {c} {d} h k) f) = escape_passed e.mode c (d ∷ []) (unit_passed e.mode d [] (octal_passed e.mode d k) (nothing_passed e.mode)) rest
legacy_passed e _ _ _ rest (legacy.legacy_octal (octals.octal3 {c} {d} {f} h k l) x) =
    escape_passed e.mode c (d ∷ f ∷ []) (unit_passed e.mode d (f ∷ []) (octal_passed e.mode d k) (unit_passed e.mode f [] (octal_passed e.mode f l) (nothing_passed e.mode))) rest
legacy_passed e _ _ _ rest (legacy.identity {c} h) = escape_passed e.mode c [] (nothing_passed e.mode) rest

character_passed : (e : Environment) (kind : CharacterKind) (v : ℕ) (w rest : List CodePoint) → SpellsClassCharacter e kind v w rest → IsPassedBefore e.mode (values w) (values rest)
character_passed e _ _ _ rest (spelled.raw unit h) = unit_passed e.mode unit.value [] (raw_passed e.mode unit.value (values rest) h) (nothing_passed e.mode) (values rest)
character_passed e _ _ _ rest (spelled.hyphen unit m h) = subst (λ c. IsPassedBefore e.mode (c ∷ []) (values rest)) (sym h) (unit_passed e.mode 45 [] refl (nothing_passed e.mode) (values rest))
character_passed e kind v _ rest (spelled.escaped backslash following b s) =
    subst (λ c. IsPassedBefore e.mode (c ∷ values following) (values rest)) (sym b) (spelled_escape_passed e kind v (values following) (values rest) s (values rest))
character_passed e kind v _ rest (spelled.escaped_in_class backslash following b s) =
    subst (λ c. IsPassedBefore e.mode (c ∷ values following) (values rest)) (sym b) (alone_passed e.mode kind v (values following) s (values rest))
character_passed e kind v _ rest (spelled.escaped_in_legacy backslash following b m s) =
    subst (λ c. IsPassedBefore e.mode (c ∷ values following) (values rest)) (sym b) (legacy_passed e kind v (values following) (values rest) s)

-- a class escape and a property escape
class_escape_passed : (mode : Mode) (kind : CharacterClassEscapeKind) → IsPassed mode (class_escape_text kind)
class_escape_passed mode D = escape_passed mode 100 [] (nothing_passed mode)
class_escape_passed mode NegativeD = escape_passed mode 68 [] (nothing_passed mode)
class_escape_passed mode S = escape_passed mode 115 [] (nothing_passed mode)
class_escape_passed mode NegativeS = escape_passed mode 83 [] (nothing_passed mode)
class_escape_passed mode W = escape_passed mode 119 [] (nothing_passed mode)
class_escape_passed mode NegativeW = escape_passed mode 87 [] (nothing_passed mode)

property_units_passed : (mode : Mode) (text : List ℕ) → list_all is_property_unit text ≡ true → IsPassed mode text
property_units_passed mode [] h = nothing_passed mode
property_units_passed mode (u ∷ text) h =
    let p = both (is_property_unit u) (list_all is_property_unit text) h in unit_passed mode u text (passed_in mode is_property_unit u refl p.0) (property_units_passed mode text p.1)

property_opener_passed : (mode : Mode) (negative : Bool) (w : List ℕ) → IsPassed mode w → IsPassed mode (property_opener negative ++ w)
property_opener_passed mode true w p = escape_passed mode 80 (123 ∷ w) (unit_passed mode 123 w refl p)
property_opener_passed mode false w p = escape_passed mode 112 (123 ∷ w) (unit_passed mode 123 w refl p)

property_passed : (e : Environment) (negative of_strings : Bool) (name : List ℕ) (value : Option (List ℕ)) (w : List CodePoint) → IsProperty e negative of_strings name value w →
    IsPassed e.mode (values w)
property_passed e negative of_strings name value w s =
    subst (IsPassed e.mode) (sym s.whole) (property_opener_passed e.mode negative (s.text ++ (125 ∷ []))
    (append_passed e.mode s.text (125 ∷ []) (property_units_passed e.mode s.text (property_units e.mode of_strings name value s.text s.spelled)) (unit_passed e.mode 125 [] refl (nothing_passed e.mode))))

atom_passed : (e : Environment) (a : Atom) (w rest : List CodePoint) → SpellsAtom e a w rest → IsPassedBefore e.mode (values w) (values rest)
atom_passed e (character k v) w rest s = character_passed e k v w rest s
atom_passed e (escape k) w rest s = subst (λ v. IsPassedBefore e.mode v (values rest)) (sym s) (class_escape_passed e.mode k (values rest))
atom_passed e (property negative of_strings name value) w rest s = property_passed e negative of_strings name value w s (values rest)

-- A class in which n classes are open ends between these units and the rest.
record Ends (mode : Mode) (n : ℕ) (us rest : List CodePoint) : Type 0 where
  text : List ℕ
  whole : values us ≡ text ++ values rest
  ends : class_rest mode false n (values us) ≡ length text

-- with units in front after which m are open
units_end : (mode : Mode) (n m : ℕ) (us w more rest : List CodePoint) → us ≡ w ++ more →
    class_rest mode false n (values w ++ values more) ≡ class_rest mode false m (values more) + length (values w) → Ends mode m more rest → Ends mode n us rest
units_end mode n m us w more rest e step h =
    let whole : values us ≡ values w ++ values more = ap values e ∙ map-append (λ u. u.value) w more in
    let l = length-append (values w) h.text in
    let k = h.ends in
    record {
      text = values w ++ h.text;
      whole = whole ∙ ap (λ v. values w ++ v) h.whole ∙ sym (append_assoc (values w) h.text (values rest));
      ends = ap (class_rest mode false n) whole ∙ omega (arith, step, l, k);
    }

-- the tokens of these events, before others
abbrev before : ClassEvents → List ClassToken → List ClassToken
before [] ts = ts
before ((enter n) ∷ es) ts = before es ts
before ((leave n) ∷ es) ts = before es ts
before ((token t) ∷ es) ts = t ∷ before es ts

before_append : (es fs : ClassEvents) (ts : List ClassToken) → before (es ++ fs) ts ≡ before es (before fs ts)
before_append [] fs ts = refl
before_append ((enter n) ∷ es) fs ts = before_append es fs ts
before_append ((leave n) ∷ es) fs ts = before_append es fs ts
before_append ((token t) ∷ es) fs ts = ap (λ ts. t ∷ ts) (before_append es fs ts)

before_none : (es : ClassEvents) → class_tokens_of es ≡ before es []
before_none [] = refl
before_none ((enter n) ∷ es) = before_none es
before_none ((leave n) ∷ es) = before_none es
before_none ((token t) ∷ es) = ap (λ ts. t ∷ ts) (before_none es)

before_within : (s : Span) (es : ClassEvents) (ts : List ClassToken) → before (within s es) ts ≡ before es ts
before_within s es ts = before_append es (leave s.end ∷ []) ts

module _ (e : Environment) where
  -- Where these tokens end, the class ends in which n classes are open before them.
  abbrev End : ℕ → List ClassToken → Type 0
  End n ts = (q : Place) → (q ≡ outside → ⊥) → (us rest : List CodePoint) → ClassTokenRow e ts q us fresh rest → Ends e.mode n us rest

  -- a token that opens and closes no class
  abbrev IsPassing : ClassToken → Type 0
  IsPassing t = (q : Place) (w more : List CodePoint) → SpellsInClass e q t w more → IsPassedBefore e.mode (values w) (values more)

  passing_ends : (t : ClassToken) (n : ℕ) (ts : List ClassToken) → IsPassing t → End n ts → End n (t ∷ ts)
  passing_ends t n ts p h q inside us rest r =
      units_end e.mode n n us r.0 r.1 rest r.2 (p q r.0 r.1 r.3 n) (h (next_place e.mode q t r.1) (after_inside e.mode q t r.1) r.1 rest r.4)

  -- these units
  text_passed : (text : List ℕ) (w more : List CodePoint) → IsPassed e.mode text → values w ≡ text → IsPassedBefore e.mode (values w) (values more)
  text_passed text w more p is = subst (λ v. IsPassedBefore e.mode v (values more)) (sym is) (p (values more))

  plain_passed : (u : ℕ) → is_class_mark e.mode u ≡ false → IsPassed e.mode (u ∷ [])
  plain_passed u h = unit_passed e.mode u [] h (nothing_passed e.mode)

  item_passing : (a : Atom) → IsPassing (item a)
  item_passing a fresh w more s = atom_passed e a w more s.0
  item_passing a at_second w more s = text_passed (45 ∷ []) w more (plain_passed 45 refl) s.1
  item_passing a at_third w more s = atom_passed e a w more s
  item_passing a (after_operator o) w more s = atom_passed e a w more s.1
  item_passing a q w more s = absurd (let no : ⊥ = assumption s in no)

  low_passing : (k : CharacterKind) (v : ℕ) → IsPassing (low k v)
  low_passing k v fresh w more s = character_passed e k v w more s.0
  low_passing k v q w more s = absurd (let no : ⊥ = assumption s in no)

  dash_passing : IsPassing dash
  dash_passing at_dash w more s = text_passed (45 ∷ []) w more (plain_passed 45 refl) s
  dash_passing q w more s = absurd (let no : ⊥ = assumption s in no)

  high_passing : (k : CharacterKind) (v : ℕ) → IsPassing (high k v)
  high_passing k v at_high w more s = character_passed e k v w more s
  high_passing k v q w more s = absurd (let no : ⊥ = assumption s in no)

  operator_passing : (o : SetOperator) → IsPassing (operator o)
  operator_passing set.Intersection fresh w more s = text_passed (38 ∷ 38 ∷ []) w more (unit_passed e.mode 38 (38 ∷ []) refl (plain_passed 38 refl)) s.1
  operator_passing set.Subtraction fresh w more s = text_passed (45 ∷ 45 ∷ []) w more (unit_passed e.mode 45 (45 ∷ []) refl (plain_passed 45 refl)) s.1
  operator_passing o q w more s = absurd (let no : ⊥ = assumption s in no)

  opener_passed : IsPassed e.mode (92 ∷ 113 ∷ 123 ∷ [])
  opener_passed = escape_passed e.mode 113 (123 ∷ []) (plain_passed 123 refl)

  strings_passing : IsPassing strings
  strings_passing fresh w more s = text_passed (92 ∷ 113 ∷ 123 ∷ []) w more opener_passed s.1
  strings_passing (after_operator o) w more s = text_passed (92 ∷ 113 ∷ 123 ∷ []) w more opener_passed s.1
  strings_passing q w more s = absurd (let no : ⊥ = assumption s in no)

  letter_passing : (k : CharacterKind) (v : ℕ) → IsPassing (letter k v)
  letter_passing k v in_strings w more s = character_passed e k v w more s.1
  letter_passing k v q w more s = absurd (let no : ⊥ = assumption s in no)

  bar_passing : IsPassing string_bar
  bar_passing in_strings w more s = text_passed (124 ∷ []) w more (plain_passed 124 refl) s.1
  bar_passing q w more s = absurd (let no : ⊥ = assumption s in no)

  brace_passing : IsPassing strings_end
  brace_passing in_strings w more s = text_passed (125 ∷ []) w more (plain_passed 125 refl) s.1
  brace_passing q w more s = absurd (let no : ⊥ = assumption s in no)

  -- the bracket of a class in it
  nested_bracket : (negative : Bool) (q : Place) (w more : List CodePoint) → (q ≡ outside → ⊥) → SpellsInClass e q (bracket negative) w more → (is_sets e.mode ≡ true) × SpellsBracket negative w more
  nested_bracket negative outside w more inside s = absurd (inside refl)
  nested_bracket negative fresh w more inside s = (s.0, s.1)
  nested_bracket negative at_dash w more inside s = absurd s
  nested_bracket negative at_high w more inside s = absurd s
  nested_bracket negative at_second w more inside s = absurd s
  nested_bracket negative at_third w more inside s = absurd s
  nested_bracket negative (after_operator o) w more inside s = (s.0, s.1)
  nested_bracket negative in_strings w more inside s = absurd s.1

  bracket_begins : (negative : Bool) (n : ℕ) (w more : List CodePoint) → is_sets e.mode ≡ true → SpellsBracket negative w more →
      class_rest e.mode false n (values w ++ values more) ≡ class_rest e.mode false (suc n) (values more) + length (values w)
  bracket_begins true n w more sets s =
      let begins = inside_begins e.mode n (94 ∷ values more) sets in
      let negation = unit_rest e.mode (suc n) 94 (values more) refl in
      rw s (omega (arith, begins, negation))
  bracket_begins false n w more sets s = let begins = inside_begins e.mode n (values more) sets in rw s.0 (omega (arith, begins))

  bracket_ends : (negative : Bool) (n : ℕ) (ts : List ClassToken) → End (suc n) ts → End n (bracket negative ∷ ts)
  bracket_ends negative n ts h q inside us rest r =
      let s = nested_bracket negative q r.0 r.1 inside r.3 in
      units_end e.mode n (suc n) us r.0 r.1 rest r.2 (bracket_begins negative n r.0 r.1 s.0 s.1) (h fresh (λ no. cc no) r.1 rest r.4)

  -- a closer, of a class in it or of the class itself
  closer_spelled : (q : Place) (w more : List CodePoint) → SpellsInClass e q closer w more → values w ≡ 93 ∷ []
  closer_spelled fresh w more s = s
  closer_spelled q w more s = absurd (let no : ⊥ = assumption s in no)

  nested_closer : (n : ℕ) (ts : List ClassToken) → End n ts → End (suc n) (closer ∷ ts)
  nested_closer n ts h q inside us rest r =
      let s = closer_spelled q r.0 r.1 r.3 in
      let step : class_rest e.mode false (suc n) (values r.0 ++ values r.1) ≡ class_rest e.mode false n (values r.1) + length (values r.0) = rw s (omega (arith, inside_ends e.mode n (values r.1))) in
      units_end e.mode (suc n) n us r.0 r.1 rest r.2 step (h fresh (λ no. cc no) r.1 rest r.4)

  own_closer : End 0 (closer ∷ [])
  own_closer q inside us rest r =
      let whole : values us ≡ 93 ∷ values rest =
      ap values r.2 ∙ map-append (λ u. u.value) r.0 r.1 ∙ ap (λ v. v ++ values r.1) (closer_spelled q r.0 r.1 r.3) ∙ ap (λ more. 93 ∷ values more) r.4.1 in
      record { text = 93 ∷ []; whole = whole; ends = ap (class_rest e.mode false 0) whole }

  -- what events do not end
  abbrev Keeps : ClassEvents → Type 0
  Keeps es = (n : ℕ) (ts : List ClassToken) → End n ts → End n (before es ts)

  append_keeps : (es fs : ClassEvents) → Keeps es → Keeps fs → Keeps (es ++ fs)
  append_keeps es fs k l n ts h = subst (End n) (sym (before_append es fs ts)) (k n (before fs ts) (l n ts h))

  within_keeps : (s : Span) (es : ClassEvents) → Keeps es → Keeps (within s es)
  within_keeps s es k n ts h = subst (End n) (sym (before_within s es ts)) (k n ts h)

  token_keeps : (t : ClassToken) → IsPassing t → Keeps (token t ∷ [])
  token_keeps t p n ts h = passing_ends t n ts p h

  operator_keeps : (kind : CharacterClassContentsKind) → Keeps (operator_events kind)
  operator_keeps Union n ts h = h
  operator_keeps Intersection n ts h = passing_ends (operator set.Intersection) n ts (operator_passing set.Intersection) h
  operator_keeps Subtraction n ts h = passing_ends (operator set.Subtraction) n ts (operator_passing set.Subtraction) h

  letters_keep : (cs : List Character) → Keeps (letters_events cs)
  letters_keep [] n ts h = h
  letters_keep (c ∷ cs) n ts h = passing_ends (letter c.kind c.value) n (before (letters_events cs) ts) (letter_passing c.kind c.value) (letters_keep cs n ts h)

  string_keeps : (s : ClassString) → Keeps (string_events s)
  string_keeps s = within_keeps s.span (letters_events s.body) (letters_keep s.body)

  barred_keep : (ss : List ClassString) → Keeps (barred_strings_events ss)
  barred_keep [] n ts h = h
  barred_keep (s ∷ ss) n ts h =
      passing_ends string_bar n (before (string_events s ++ barred_strings_events ss) ts) bar_passing
      (append_keeps (string_events s) (barred_strings_events ss) (string_keeps s) (barred_keep ss) n ts h)

  strings_keep : (ss : List ClassString) → Keeps (strings_events ss)
  strings_keep [] n ts h = h
  strings_keep (s ∷ ss) n ts h = append_keeps (string_events s) (barred_strings_events ss) (string_keeps s) (barred_keep ss) n ts h

  range_keeps : (r : CharacterClassRange) → Keeps (range_events r)
  range_keeps r n ts h =
      let high_ends = passing_ends (high r.max.kind r.max.value) n ts (high_passing r.max.kind r.max.value) h in
      let dash_ends = passing_ends dash n (high r.max.kind r.max.value ∷ ts) dash_passing high_ends in
      passing_ends (low r.min.kind r.min.value) n (dash ∷ high r.max.kind r.max.value ∷ ts) (low_passing r.min.kind r.min.value) dash_ends

  disjunction_keeps : (ss : List ClassString) → Keeps (token strings ∷ (strings_events ss ++ (token strings_end ∷ [])))
  disjunction_keeps ss n ts h =
      passing_ends strings n (before (strings_events ss ++ (token strings_end ∷ [])) ts) strings_passing
      (append_keeps (strings_events ss) (token strings_end ∷ []) (strings_keep ss) (token_keeps strings_end brace_passing) n ts h)

  -- A member of a class leaves it open, with as many classes open in it; so does a whole class in it.
  mutual
    member_keeps : (m : Member) → Keeps (member_events m)
    member_keeps (tree.range r) = within_keeps r.span (range_events r) (range_keeps r)
    member_keeps (tree.escape c) = within_keeps c.span (token (item (escape c.kind)) ∷ []) (token_keeps (item (escape c.kind)) (item_passing (escape c.kind)))
    member_keeps (tree.property p) =
        let a = property p.negative p.strings p.name p.value in within_keeps p.span (token (item a) ∷ []) (token_keeps (item a) (item_passing a))
    member_keeps (tree.character c) =
        let a = character c.kind c.value in within_keeps c.span (token (item a) ∷ []) (token_keeps (item a) (item_passing a))
    member_keeps (tree.nested c) = class_keeps c
    member_keeps (tree.strings d) = within_keeps d.span (token strings ∷ (strings_events d.body ++ (token strings_end ∷ []))) (disjunction_keeps d.body)

    class_keeps : (c : Class) → Keeps (class_events c)
    class_keeps (class s negative may kind ms) = within_keeps s (token (bracket negative) ∷ (members_events (operator_events kind) ms ++ (token closer ∷ []))) (λ n ts h.
        subst (λ more. End n (bracket negative ∷ more)) (sym (before_append (members_events (operator_events kind) ms) (token closer ∷ []) ts))
        (bracket_ends negative n (before (members_events (operator_events kind) ms) (closer ∷ ts)) (members_keep kind ms (suc n) (closer ∷ ts) (nested_closer n ts h))))

    members_keep : (kind : CharacterClassContentsKind) (ms : Members) → Keeps (members_events (operator_events kind) ms)
    members_keep kind no_member n ts h = h
    members_keep kind (member m ms) n ts h =
        append_keeps (member_events m) (more_members_events (operator_events kind) ms) (member_keeps m) (more_members_keep kind ms) n ts h

    more_members_keep : (kind : CharacterClassContentsKind) (ms : Members) → Keeps (more_members_events (operator_events kind) ms)
    more_members_keep kind no_member n ts h = h
    more_members_keep kind (member m ms) n ts h =
        append_keeps (operator_events kind) (member_events m ++ more_members_events (operator_events kind) ms) (operator_keeps kind)
        (append_keeps (member_events m) (more_members_events (operator_events kind) ms) (member_keeps m) (more_members_keep kind ms)) n ts h

-- the mark of a class
bracket_mark : (mode : Mode) (text rest : List ℕ) → class_rest mode false 0 (text ++ rest) ≡ length text → marks mode (91 ∷ (text ++ rest)) ≡ other ∷ marks mode rest
unfolding mark_front
bracket_mark mode text rest h = ap (λ n. other ∷ marks_following mode n (text ++ rest)) h ∙ ap (λ ms. other ∷ ms) (marks_after mode text rest)

ended_mark : (mode : Mode) (us rest : List CodePoint) → Ends mode 0 us rest → marks mode (91 ∷ values us) ≡ other ∷ marks mode (values rest)
ended_mark mode us rest h =
    ap (λ v. marks mode (91 ∷ v)) h.whole ∙ bracket_mark mode h.text (values rest) (ap (class_rest mode false 0) (sym h.whole) ∙ h.ends)

bracket_marks : (e : Environment) (negative : Bool) (w more rest : List CodePoint) → SpellsBracket negative w more → Ends e.mode 0 more rest →
    marks e.mode (values w ++ values more) ≡ other ∷ marks e.mode (values rest)
bracket_marks e true w more rest s h =
    let n : class_rest e.mode false 0 (94 ∷ values more) ≡ length (94 ∷ h.text) = let k = h.ends in let one = unit_rest e.mode 0 94 (values more) refl in omega (arith, k, one) in
    ap (λ v. marks e.mode (v ++ values more)) s ∙ ap (λ v. marks e.mode (91 ∷ 94 ∷ v)) h.whole
    ∙ bracket_mark e.mode (94 ∷ h.text) (values rest) (ap (λ v. class_rest e.mode false 0 (94 ∷ v)) (sym h.whole) ∙ n)
bracket_marks e false w more rest s h = ap (λ v. marks e.mode (v ++ values more)) s.0 ∙ ended_mark e.mode more rest h

row_marks : (e : Environment) (negative : Bool) (ts : List ClassToken) (us rest : List CodePoint) → End e 0 ts → ClassTokenRow e (bracket negative ∷ ts) outside us fresh rest →
    marks e.mode (values us) ≡ other ∷ marks e.mode (values rest)
row_marks e negative ts us rest h (w, more, whole, s, r) =
    ap (λ v. marks e.mode (values v)) whole ∙ ap (marks e.mode) (map-append (λ u. u.value) w more) ∙ bracket_marks e negative w more rest s (h fresh (λ no. cc no) more rest r)

-- the tokens of a class: its bracket, its members and its closer
class_tokens_are : (s : Span) (negative may : Bool) (kind : CharacterClassContentsKind) (ms : Members) →
    class_tokens (class s negative may kind ms) ≡ bracket negative ∷ before (members_events (operator_events kind) ms) (closer ∷ [])
class_tokens_are s negative may kind ms =
    before_none (class_events (class s negative may kind ms)) ∙ before_within s (token (bracket negative) ∷ (members_events (operator_events kind) ms ++ (token closer ∷ []))) []
    ∙ ap (λ ts. bracket negative ∷ ts) (before_append (members_events (operator_events kind) ms) (token closer ∷ []) [])

-- a class is one mark
pub class_marks : (e : Environment) (c : Class) (w rest : List CodePoint) → IsClass e c w rest → marks e.mode (values w ++ values rest) ≡ other ∷ marks e.mode (values rest)
class_marks e (class s negative may kind ms) w rest h =
    let ts = before (members_events (operator_events kind) ms) (closer ∷ []) in
    ap (marks e.mode) (sym (map-append (λ u. u.value) w rest))
    ∙ row_marks e negative ts (w ++ rest) rest (members_keep e kind ms 0 (closer ∷ []) (own_closer e))
    (subst (λ ts. ClassTokenRow e ts outside (w ++ rest) fresh rest) (class_tokens_are s negative may kind ms) h.row)
