-- The canonical text of a known class spells the class again, but for the kinds of characters.
use Rattle.std.proofs.Common.{◌≡◌, ◌≢◌, refl, ap, sym, ◌∙◌, subst, ℕ, ◌+◌, ◌/◌, ◌%◌, ◌≤◌, ◌<◌, ◌==◌, ◌||◌, ◌&&◌, Bool, true, false, not, cond, nat_lt, Option, List, [], ◌∷◌, ◌++◌, map, append_assoc, append-nil, arith, ◌⊎◌, inl, inr}
use Rattle.std.specs.Prelude.{All}
use Rattle.std.specs.Char.{len_utf8}
use Rattle.std.proofs.lemmas.Bool.{cases_Bool, cond_both, true≢false}
use Rattle.std.proofs.lemmas.Bool.Decides.{nat_tests}
use Rattle.std.proofs.lemmas.List.{map-append}
use Rattle.std.proofs.lemmas.List.Elements.{All-head, All-tail}
use Rattle.std.proofs.Math.Bool.{and-false}
use Rattle.rx_base.specs.Characters.{is_surrogate, is_within}
use Rattle.rx_base.specs.declared.diagnostic.kinds.SetOperator.TheVariants as set
use Rattle.rx_base.specs.declared.span.Span.{Span}
use Rattle.rx_ast.specs.declared.leaf.Character.{Character}
use Rattle.rx_ast.specs.declared.leaf.CharacterKind.{CharacterKind}
use Rattle.rx_ast.specs.declared.leaf.CharacterKind.TheVariants as kinds
use Rattle.rx_ast.specs.declared.class.CharacterClassContentsKind.{CharacterClassContentsKind}
use Rattle.rx_ast.specs.declared.class.CharacterClassContentsKind.TheVariants.{Union, Intersection, Subtraction}
use Rattle.rx_ast.specs.declared.class.ClassString.{ClassString}
use Rattle.rx_ast.specs.ClassTree as tree
use Rattle.rx_ast.specs.ClassTree.{Member, Members, Class, no_member, member, class}
use Rattle.rx_tables.specs.Characters.{is_class_set_syntax_character, is_reserved_punctuator, is_syntax_character, hex_digit}
use Rattle.rx_units.specs.declared.code_point.CodePoint.{CodePoint}
use Rattle.rx_units.specs.declared.code_point.EscapeKind.TheVariants as escape_kind
use Rattle.rx_units.specs.Units.{unit, literal_units, values}
use Rattle.rx_units.specs.Digits.{front_is}
use Rattle.rx_model.specs.declared.mode.Mode.{Mode}
use Rattle.rx_model.specs.declared.mode.Mode.TheVariants.{Legacy, Unicode, Sets}
use Rattle.rx_model.specs.Spelling.CharacterText.{control_letter, two_digits, four_digits, hex, in_braces_text, surrogate_text, greatest_raw, is_escaped, in_class, character_text}
use Rattle.rx_model.specs.Classes.ClassRows.{BeforeHigh, ClassTokenRow, IsClass, Place, SpellsAtom, SpellsBracket, SpellsClassCharacter, SpellsInClass, StandsBefore, next_place, following_item, after_operator, fresh, has_hyphen, has_threes, in_strings, is_dashed, may_follow_operator, outside, stands_raw_in_class}
use Rattle.rx_model.specs.Classes.ClassRows as spelled
use Rattle.rx_model.specs.Classes.ClassShapes.{AreFitting, AreOperands, FitsKind, IsFitting, IsFittingMember, IsOperand}
use Rattle.rx_ast.specs.Texts.{class_escape_text, class_opener, operator_text, property_body, property_text}
use Rattle.rx_model.specs.Spelling.ClassText.{barred_strings_text, characters_text, class_text, in_class_text, member_text, members_text, more_members_text, strings_text}
use Rattle.rx_model.specs.Classes.ClassTokens.{Atom, character, escape, property, ClassToken, bracket, closer, item, low, dash, high, operator, strings, letter, string_bar, strings_end, leave, token, class_tokens, class_tokens_of, strings_events}
use Rattle.rx_model.specs.Trees.Early.{AreCodePoints, AreEarlyMembers, IsCodePoint, IsEarlyClass, IsEarlyMember, IsEarlyString}
use Rattle.rx_model.specs.Inputs.Environment.{Environment, is_sets, is_unicode}
use Rattle.rx_model.specs.Characters.Escapes.{SpellsEscape, control, hexadecimal, unicode, identity}
use Rattle.rx_model.specs.Characters.LegacyEscapes as legacy
use Rattle.rx_model.specs.Characters.LegacyEscapes.{IsIdentity}
use Rattle.rx_model.specs.FirstPass.Marks.{starts}
use Rattle.rx_model.specs.Properties.PropertyEscapes.{IsProperty, SpellsProperty}
use Rattle.rx_model.specs.Characters.UnicodeEscapes.{SpellsUnicode, code_unit}
use Rattle.rx_model.proofs.Spelling.Backs.{too_great, syntax_identity, four_any, four_text, values_literal, units-append, braced_from, hex_read, two_read, two_small, control_read}
use Rattle.rx_model.proofs.Spelling.Bounds.{FitsIn}
use Rattle.rx_model.proofs.Characters.Choices.{choose_both}
use Rattle.rx_model.proofs.Spelling.ClassAgain.{kind_of_hyphen, class_kind, again_in_class, again_string, again_member, again_members, again_class, unspanned_class, shape_again}
use Rattle.rx_model.proofs.Spelling.ClassKnown.{AreKnownMembers, IsKnownClass, IsKnownKind, IsKnownMember, IsKnownTree}
use Rattle.rx_model.proofs.Spelling.ClassTexts.{BeginsOutside, class_escape_outside, dashed, in_class_outside, members_outside, no_raw_ampersand, no_raw_caret, no_raw_closer, no_raw_hyphen, property_outside, raw_in_class, some_character, starts_not, undashed}
use Rattle.rx_model.proofs.Classes.ClassShapes.{barred_tokens, between_by, class_tokens_by, contents_tokens, further_tokens, letters_tokens, operand_tokens, strings_are}
use Rattle.rx_model.proofs.Spelling.SomeTexts.{some_after}
use Rattle.rx_model.proofs.Classes.ClassFronts.{bracket_follows, other_follows, sets_is}

-- what is escaped in a class is a `-` or escaped everywhere; with `v` it is a reserved punctuator or escaped everywhere
not_hyphen : (c : ℕ) → (is_syntax_character c || c == 47 || c == 45) ≡ true → (c == 45) ≡ false → (is_syntax_character c || c == 47) ≡ true
not_hyphen c h k = grind (arith, nat_tests)

is_hyphen : (c : ℕ) → (c == 45) ≡ true → c ≡ 45
is_hyphen c h = grind (arith, nat_tests)

is_reserved : (c : ℕ) → (is_syntax_character c || c == 47 || is_reserved_punctuator c) ≡ true → (is_syntax_character c || c == 47) ≡ false → is_reserved_punctuator c ≡ true
is_reserved c h k = grind (arith, nat_tests)

sets_fit : (mode : Mode) (c : ℕ) → is_sets mode ≡ true → FitsIn mode c
sets_fit mode c h l = absurd (true≢false (sym h ∙ ap is_sets l))

-- the values of a text, before other units
values_before : (at : ℕ) (text : List ℕ) (rest : List CodePoint) → values (literal_units true at text ++ rest) ≡ text ++ values rest
values_before at text rest = map-append (λ u. u.value) (literal_units true at text) rest ∙ ap (λ v. v ++ values rest) (values_literal at text)

-- the units of two texts, before others
units_before : (at : ℕ) (u v : List ℕ) (rest : List CodePoint) →
    (between : ℕ) × (literal_units true at (u ++ v) ++ rest ≡ literal_units true at u ++ (literal_units true between v ++ rest))
units_before at u v rest =
    let h = units-append at u v in
    (h.0, ap (λ w. w ++ rest) h.1 ∙ append_assoc (literal_units true at u) (literal_units true h.0 v) rest)

-- With `v` no character begins with a `-`.
sets_raw : (c : ℕ) (b : Bool) → not (is_class_set_syntax_character c || b) ≡ true → (c == 45) ≡ false
sets_raw c b h = grind (arith, nat_tests)

module _ (e : Environment) (sets : is_sets e.mode ≡ true) where
  no_raw_dash : (unit : CodePoint) (rest : List CodePoint) → stands_raw_in_class e.mode unit.value (values rest) ≡ true → (unit.value == 45) ≡ false
  no_raw_dash unit rest h = sets_raw unit.value _ (ap (λ mode. stands_raw_in_class mode unit.value (values rest)) (sym (sets_is e.mode sets)) ∙ h)

  no_dash : (k : CharacterKind) (v : ℕ) (w rest more : List CodePoint) → SpellsClassCharacter e k v w rest → starts 45 (values (w ++ more)) ≡ false
  no_dash _ _ _ rest more (spelled.raw unit h) = no_raw_dash unit rest h
  no_dash _ _ _ rest more (spelled.hyphen unit h is) = absurd (true≢false (sym h ∙ ap has_hyphen (sets_is e.mode sets)))
  no_dash _ _ _ rest more (spelled.escaped backslash following is s) = ap (λ c. c == 45) is
  no_dash _ _ _ rest more (spelled.escaped_in_class backslash following is s) = ap (λ c. c == 45) is
  no_dash _ _ _ rest more (spelled.escaped_in_legacy backslash following is u s) = ap (λ c. c == 45) is

  -- so no range goes on at `--`
  no_high : (us : List CodePoint) (w : List ℕ) → values us ≡ 45 ∷ 45 ∷ w → BeforeHigh e us → ⊥
  no_high us w is b =
      let whole : b.hyphen.value ∷ values (b.w ++ b.more) ≡ 45 ∷ 45 ∷ w = ap values (sym b.whole) ∙ is in
      let second : values (b.w ++ b.more) ≡ 45 ∷ w = cc whole in
      true≢false (sym (ap (starts 45) second) ∙ no_dash b.kind b.value b.w b.more b.more b.spelled)

  no_threes : has_threes e.mode ≡ false
  no_threes = ap has_threes (sets_is e.mode sets)

module _ (e : Environment) (mode : Mode) (m : e.mode ≡ mode) where
  -- The text spells a character of this kind in a class, before anything.
  abbrev SpellsHere : ℕ → CharacterKind → List ℕ → Type 0
  SpellsHere c kind text = (at : ℕ) (rest : List CodePoint) → SpellsClassCharacter e kind c (literal_units true at text) rest

  backslash : (c : ℕ) (kind : CharacterKind) (text : List ℕ) → ((rest : List ℕ) → SpellsEscape e kind c text rest) → SpellsHere c kind (92 ∷ text)
  backslash c kind text s at rest =
      spelled.escaped (unit at (at + len_utf8 92) 92 escape_kind.None) (literal_units true (at + len_utf8 92) text) refl
      (subst (λ w. SpellsEscape e kind c w (values rest)) (sym (values_literal (at + len_utf8 92) text)) (s (values rest)))

  unicode_escape : (c : ℕ) (text : List ℕ) → ((rest : List ℕ) → SpellsUnicode (is_unicode mode) c text rest) → SpellsHere c kinds.UnicodeEscape (92 ∷ text)
  unicode_escape c text s = backslash c kinds.UnicodeEscape text (λ rest. unicode (subst (λ mode. SpellsUnicode (is_unicode mode) c text rest) (sym m) (s rest)))

  -- each way to write a character
  raw_spelled : (c : ℕ) → is_escaped mode in_class c ≡ false → SpellsHere c kinds.Symbol (c ∷ [])
  raw_spelled c h at rest =
      spelled.raw (unit at (at + len_utf8 c) c escape_kind.None) (ap (λ mode. stands_raw_in_class mode c (values rest)) m ∙ raw_in_class mode c (values rest) h)

  two_spelled : (c : ℕ) → c < 256 → SpellsHere c kinds.HexadecimalEscape (two_digits c)
  unfolding two_digits
  two_spelled c h = backslash c kinds.HexadecimalEscape (120 ∷ hex_digit (c / 16 % 16) ∷ hex_digit (c % 16) ∷ []) (λ rest. hexadecimal (two_read c h))

  four_spelled : (c : ℕ) → (c == 0x2028 || c == 0x2029) ≡ true → SpellsHere c kinds.UnicodeEscape (four_digits c)
  unfolding four_digits
  four_spelled c h =
      unicode_escape c (117 ∷ hex_digit (c / 4096 % 16) ∷ hex_digit (c / 256 % 16) ∷ hex_digit (c / 16 % 16) ∷ hex_digit (c % 16) ∷ []) (λ rest. four_text mode c rest h)

  braced_spelled : {md : Mode} → mode ≡ md → is_unicode md ≡ true → (c : ℕ) → c ≤ 0x10FFFF → SpellsHere c kinds.UnicodeEscape (in_braces_text c)
  unfolding in_braces_text
  braced_spelled l u c in_limit =
      unicode_escape c (117 ∷ 123 ∷ (hex 8 c ++ (125 ∷ [])))
      (λ rest. subst (λ b. SpellsUnicode b c (117 ∷ 123 ∷ (hex 8 c ++ (125 ∷ []))) rest) (sym (ap is_unicode l ∙ u))
      (braced_from c (hex 8 c) rest (some_after (cond (nat_lt c 16) [] (hex 7 (c / 16))) (hex_digit (c % 16)) []) (hex_read 8 c (omega (arith, in_limit))) in_limit))

  surrogate_spelled : (md : Mode) → mode ≡ md → (c : ℕ) → c ≤ 0x10FFFF → is_surrogate c ≡ true → SpellsHere c kinds.UnicodeEscape (surrogate_text md c)
  unfolding four_digits
  surrogate_spelled Legacy l c in_limit h =
      unicode_escape c (117 ∷ hex_digit (c / 4096 % 16) ∷ hex_digit (c / 256 % 16) ∷ hex_digit (c / 16 % 16) ∷ hex_digit (c % 16) ∷ [])
      (λ rest. subst (λ mode. SpellsUnicode (is_unicode mode) c (117 ∷ hex_digit (c / 4096 % 16) ∷ hex_digit (c / 256 % 16) ∷ hex_digit (c / 16 % 16) ∷ hex_digit (c % 16) ∷ []) rest) (sym l)
      (code_unit (four_any c (let k : c ≤ 0xFFFF = grind (arith, nat_tests) in k))))
  surrogate_spelled Unicode l c in_limit h = braced_spelled l refl c in_limit
  surrogate_spelled Sets l c in_limit h = braced_spelled l refl c in_limit

  -- an escape with a backslash alone
  hyphen_identity : (rest : List ℕ) → IsIdentity true e 45 rest
  hyphen_identity rest = record { no_letter = refl; no_octal = refl; no_k = and-false e.named; no_boundary = refl; no_reference = refl; no_x = refl; no_u = refl }

  identity_spelled : (md : Mode) → e.mode ≡ md → (c : ℕ) → (is_syntax_character c || c == 47) ≡ true → SpellsHere c kinds.Identifier (92 ∷ c ∷ [])
  identity_spelled Legacy l c h at rest =
      spelled.escaped_in_legacy (unit at (at + len_utf8 92) 92 escape_kind.None) (literal_units true (at + len_utf8 92) (c ∷ [])) refl (ap is_unicode l)
      (legacy.identity (syntax_identity true e c (values rest) h))
  identity_spelled Unicode l c h at rest = backslash c kinds.Identifier (c ∷ []) (λ rest. identity (ap is_unicode l) h) at rest
  identity_spelled Sets l c h at rest = backslash c kinds.Identifier (c ∷ []) (λ rest. identity (ap is_unicode l) h) at rest

  -- a `-`, or what is escaped everywhere
  hyphen_or_identity : (kind : CharacterKind) (c : ℕ) → ((at : ℕ) (rest : List CodePoint) → SpellsClassCharacter e kind 45 (literal_units true at (92 ∷ 45 ∷ [])) rest) →
      (is_syntax_character c || c == 47 || c == 45) ≡ true → SpellsHere c (cond (c == 45) kind kinds.Identifier) (92 ∷ c ∷ [])
  hyphen_or_identity kind c hyphen h =
      cond_both (c == 45) kind kinds.Identifier (λ kind. SpellsHere c kind (92 ∷ c ∷ []))
      (λ is at rest. subst (λ c. SpellsClassCharacter e kind c (literal_units true at (92 ∷ c ∷ [])) rest) (sym (is_hyphen c is)) (hyphen at rest))
      (λ other. identity_spelled e.mode refl c (not_hyphen c h other))

  reserved_or_identity : e.mode ≡ Sets → (c : ℕ) → (is_syntax_character c || c == 47 || is_reserved_punctuator c) ≡ true → SpellsHere c kinds.Identifier (92 ∷ c ∷ [])
  reserved_or_identity l c h = elim (cases_Bool (is_syntax_character c || c == 47)) [
    | inl syntax ↦ identity_spelled e.mode refl c syntax
    | inr other ↦ λ at rest.
        spelled.escaped_in_class (unit at (at + len_utf8 92) 92 escape_kind.None) (literal_units true (at + len_utf8 92) (c ∷ [])) refl (spelled.reserved c l (is_reserved c h other))
  ]

  escaped_spelled : (md : Mode) → e.mode ≡ md → (c : ℕ) → is_escaped md in_class c ≡ true → SpellsHere c (cond (c == 45) (kind_of_hyphen md) kinds.Identifier) (92 ∷ c ∷ [])
  escaped_spelled Legacy l c h = hyphen_or_identity kinds.Identifier c (λ at rest.
      spelled.escaped_in_legacy (unit at (at + len_utf8 92) 92 escape_kind.None) (literal_units true (at + len_utf8 92) (45 ∷ [])) refl (ap is_unicode l) (legacy.identity (hyphen_identity (values rest)))) h
  escaped_spelled Unicode l c h = hyphen_or_identity kinds.SingleEscape c (λ at rest.
      spelled.escaped_in_class (unit at (at + len_utf8 92) 92 escape_kind.None) (literal_units true (at + len_utf8 92) (45 ∷ [])) refl (spelled.hyphen l)) h
  escaped_spelled Sets l c h = cond_both (c == 45) kinds.Identifier kinds.Identifier (λ kind. SpellsHere c kind (92 ∷ c ∷ [])) (λ _. reserved_or_identity l c h) (λ _. reserved_or_identity l c h)

  -- a character's canonical text
  in_class_spelled : (c : ℕ) → c ≤ 0x10FFFF → FitsIn mode c → SpellsHere c (class_kind mode c) (character_text mode in_class c)
  unfolding class_kind character_text
  in_class_spelled c in_limit fits =
      let P : CharacterKind → List ℕ → Type 0 = SpellsHere c in
      choose_both P (is_within 9 13 c) _ _ _ _ (λ within. backslash c kinds.SingleEscape (control_letter c ∷ []) (λ rest. control (control_read c within)))
      (λ _. choose_both P (nat_lt c 32 || is_within 127 159 c) _ _ _ _ (λ small. two_spelled c (two_small c small))
      (λ _. choose_both P (c == 0x2028 || c == 0x2029) _ _ _ _ (λ separator. four_spelled c separator)
      (λ _. choose_both P (is_surrogate c) _ _ _ _ (λ surrogate. surrogate_spelled mode refl c in_limit surrogate)
      (λ _. choose_both P (nat_lt (greatest_raw mode) c) _ _ _ _ (λ great. absurd (too_great mode c in_limit fits great))
      (λ _. choose_both P (is_escaped mode in_class c) _ _ _ _ (λ escaped. escaped_spelled mode m c escaped)
      (λ raw. raw_spelled c raw))))))

  -- From a place in a class the units of the text, before anything, are a row of these tokens.
  abbrev AgainAt : Place → List ClassToken → List ℕ → Type 0
  AgainAt q ts text = (at : ℕ) (rest : List CodePoint) → ClassTokenRow e ts q (literal_units true at text ++ rest) fresh rest

  abbrev AgainHere : List ClassToken → List ℕ → Type 0
  AgainHere ts text = AgainAt fresh ts text

  -- one token more in front, with a text of its own
  one_again : (q r : Place) (t : ClassToken) (own : List ℕ) (ts : List ClassToken) (text : List ℕ) →
      ((at between : ℕ) (rest : List CodePoint) → SpellsInClass e q t (literal_units true at own) (literal_units true between text ++ rest) × (next_place e.mode q t (literal_units true between text ++ rest) ≡ r)) →
      AgainAt r ts text → AgainAt q (t ∷ ts) (own ++ text)
  one_again q r t own ts text s again at rest =
      let u = units_before at own text rest in
      let more = literal_units true u.0 text ++ rest in
      let here = s at u.0 rest in
      (literal_units true at own, more, u.1, here.0, subst (λ p. ClassTokenRow e ts p more fresh rest) (sym here.1) (again u.0 rest))

  closer_again : (ts : List ClassToken) (text : List ℕ) → AgainHere ts text → AgainHere (closer ∷ ts) (93 ∷ text)
  closer_again ts text again = one_again fresh fresh closer (93 ∷ []) ts text (λ at between rest. (refl, refl)) again

  -- An operand may stand at the place, with `v` after an operator too; a bracket also where the class begins.
  abbrev TakesOperand : Place → Type 0
  TakesOperand fresh = Unit {0}
  TakesOperand (after_operator o) = is_sets e.mode ≡ true
  TakesOperand q = ⊥

  abbrev TakesBracket : Place → Type 0
  TakesBracket outside = Unit {0}
  TakesBracket q = TakesOperand q × (is_sets e.mode ≡ true)

  -- After an item stands no `-`, or with `v` a `--`.
  abbrev EndsItem : List ℕ → Type 0
  EndsItem text = BeginsOutside (λ c. c == 45) text ⊎ ((is_sets e.mode ≡ true) × (more : List ℕ) × (text ≡ 45 ∷ 45 ∷ more))

  item_ends : (a : Atom) (text : List ℕ) → EndsItem text → (between : ℕ) (rest : List CodePoint) →
      StandsBefore e a (literal_units true between text ++ rest) × (next_place e.mode fresh (item a) (literal_units true between text ++ rest) ≡ fresh)
  item_ends a text (inl none) between rest =
      let after : is_dashed (values (literal_units true between text ++ rest)) ≡ false = ap is_dashed (values_before between text rest) ∙ undashed (text ++ values rest) (none (values rest)) in
      (inl after, ap (λ b. following_item fresh (b && has_threes e.mode)) after)
  item_ends a text (inr (sets, more, is)) between rest =
      let us = literal_units true between text ++ rest in
      let dashes : values us ≡ 45 ∷ 45 ∷ (more ++ values rest) = values_before between text rest ∙ ap (λ text. text ++ values rest) is in (
        inr (inr (record { sets = sets; none = λ _ high. no_high e sets us (more ++ values rest) dashes high })),
        ap (λ b. following_item fresh (is_dashed (values us) && b)) (no_threes e sets) ∙ ap (following_item fresh) (and-false (is_dashed (values us))),
      )

  item_there : (q : Place) → TakesOperand q → (a : Atom) (w more : List CodePoint) → SpellsAtom e a w more → (is_sets e.mode ≡ true → starts 38 (values w) ≡ false) →
      StandsBefore e a more × (next_place e.mode fresh (item a) more ≡ fresh) → SpellsInClass e q (item a) w more × (next_place e.mode q (item a) more ≡ fresh)
  item_there fresh takes a w more s no_meet ends = ((s, ends.0), ends.1)
  item_there (after_operator o) takes a w more s no_meet ends = ((takes, s, other_follows o (values w) (no_meet takes)), refl)
  item_there q takes a w more s no_meet ends = absurd takes

  -- no `&` begins the units of this text
  no_meet_there : (text : List ℕ) → BeginsOutside (λ c. c == 38) text → (at : ℕ) → starts 38 (values (literal_units true at text)) ≡ false
  no_meet_there text none at = starts_not 38 (values (literal_units true at text)) (ap (front_is (λ c. c == 38)) (values_literal at text ∙ sym (append-nil text)) ∙ none [])

  item_again : (q : Place) → TakesOperand q → (a : Atom) (own : List ℕ) (ts : List ClassToken) (text : List ℕ) → ((at : ℕ) (rest : List CodePoint) → SpellsAtom e a (literal_units true at own) rest) →
      (is_sets e.mode ≡ true → BeginsOutside (λ c. c == 38) own) → EndsItem text → AgainHere ts text → AgainAt q (item a ∷ ts) (own ++ text)
  item_again q takes a own ts text s no_meet ends again =
      one_again q fresh (item a) own ts text (λ at between rest.
      item_there q takes a (literal_units true at own) (literal_units true between text ++ rest) (s at (literal_units true between text ++ rest)) (λ sets. no_meet_there own (no_meet sets) at)
      (item_ends a text ends between rest)) again

  range_again : (k j : CharacterKind) (v u : ℕ) (first last : List ℕ) (ts : List ClassToken) (text : List ℕ) → SpellsHere v k first → SpellsHere u j last →
      last ≢ [] → BeginsOutside (λ c. c == 93) last → AgainHere ts text → AgainHere (low k v ∷ dash ∷ high j u ∷ ts) (first ++ (45 ∷ (last ++ text)))
  range_again k j v u first last ts text s t some closeless again at rest =
      let x = units_before at first (45 ∷ (last ++ text)) rest in
      let sign = unit x.0 (x.0 + len_utf8 45) 45 escape_kind.None in
      let following = literal_units true (x.0 + len_utf8 45) (last ++ text) ++ rest in
      let y = units_before (x.0 + len_utf8 45) last text rest in
      let more = literal_units true y.0 text ++ rest in
      let high_units = literal_units true (x.0 + len_utf8 45) last in
      let values_after : values following ≡ last ++ (text ++ values rest) =
      values_before (x.0 + len_utf8 45) (last ++ text) rest ∙ append_assoc last text (values rest) in
      let is_range : is_dashed (45 ∷ values following) ≡ true =
      ap (λ w. is_dashed (45 ∷ w)) values_after ∙ dashed last (text ++ values rest) some (closeless (text ++ values rest)) in
      let before : BeforeHigh e (sign ∷ following) = record {
        hyphen = sign;
        kind = j;
        value = u;
        w = high_units;
        more = more;
        whole = ap (λ w. sign ∷ w) y.1;
        hyphen_is = refl;
        spelled = t (x.0 + len_utf8 45) more;
      } in (
        literal_units true at first,
        sign ∷ following,
        x.1,
        (s at (sign ∷ following), is_range, before),
        (sign ∷ [], following, refl, refl, (high_units, more, y.1, t (x.0 + len_utf8 45) more, again y.0 rest)),
      )

  fits_here : (c : ℕ) → FitsIn e.mode c → FitsIn mode c
  fits_here c f l = f (m ∙ l)

  -- a property escape, in a unicode mode
  pub property_spelled : (negative may : Bool) (name : List ℕ) (value : Option (List ℕ)) → is_unicode e.mode ≡ true → SpellsProperty e.mode may name value (property_body name value) →
      (at : ℕ) → IsProperty e negative may name value (literal_units true at (property_text negative name value))
  property_spelled negative may name value u k at = record {
    unicode = u;
    text = property_body name value;
    spelled = k;
    whole = values_literal at (property_text negative name value);
  }

  -- class strings
  module _ (sets : is_sets e.mode ≡ true) where
    letters_again : (cs : List Character) (ts : List ClassToken) (text : List ℕ) → AreCodePoints cs → AgainAt in_strings ts text →
        AgainAt in_strings (letters_tokens (map (again_in_class mode) cs) ++ ts) (characters_text mode cs ++ text)
    letters_again [] ts text small again = again
    letters_again (c ∷ cs) ts text small again =
        let Small : Character → Type 0 = λ c. IsCodePoint c.value in
        let more = characters_text mode cs ++ text in
        subst (AgainAt in_strings (letters_tokens (map (again_in_class mode) (c ∷ cs)) ++ ts)) (sym (append_assoc (in_class_text mode c) (characters_text mode cs) text))
        (one_again in_strings in_strings (letter (class_kind mode c.value) c.value) (in_class_text mode c) (letters_tokens (map (again_in_class mode) cs) ++ ts) more
        (λ at between rest. ((sets, in_class_spelled c.value (All-head Small c cs small) (fits_here c.value (sets_fit e.mode c.value sets)) at (literal_units true between more ++ rest)), refl))
        (letters_again cs ts text (All-tail Small c cs small) again))

    barred_again : (ss : List ClassString) (ts : List ClassToken) (text : List ℕ) → All IsEarlyString ss → AgainAt in_strings ts text →
        AgainAt in_strings (barred_tokens (map (again_string mode) ss) ++ ts) (barred_strings_text mode ss ++ text)
    barred_again [] ts text early again = again
    barred_again (s ∷ ss) ts text early again =
        let own = letters_tokens (map (again_in_class mode) s.body) in
        let others = barred_tokens (map (again_string mode) ss) in
        let mine = characters_text mode s.body in
        let more = barred_strings_text mode ss in
        subst (λ ts. AgainAt in_strings (string_bar ∷ ts) (124 ∷ ((mine ++ more) ++ text))) (sym (append_assoc own others ts))
        (subst (λ text. AgainAt in_strings (string_bar ∷ (own ++ (others ++ ts))) (124 ∷ text)) (sym (append_assoc mine more text))
        (one_again in_strings in_strings string_bar (124 ∷ []) (own ++ (others ++ ts)) (mine ++ (more ++ text)) (λ at between rest. ((sets, refl), refl))
        (letters_again s.body (others ++ ts) (more ++ text) (All-head IsEarlyString s ss early).1 (barred_again ss ts text (All-tail IsEarlyString s ss early) again))))

    strings_there : (q : Place) → TakesOperand q → (w more : List CodePoint) → values w ≡ 92 ∷ 113 ∷ 123 ∷ [] → SpellsInClass e q strings w more
    strings_there fresh takes w more s = (sets, s)
    strings_there (after_operator o) takes w more s = (takes, s, ap (may_follow_operator o) s ∙ other_follows o (92 ∷ 113 ∷ 123 ∷ []) refl)
    strings_there q takes w more s = absurd takes

    strings_again : (q : Place) → TakesOperand q → (span : Span) (body : List ClassString) (ts : List ClassToken) (text : List ℕ) → body ≢ [] → All IsEarlyString body → AgainHere ts text →
        AgainAt q ((strings ∷ class_tokens_of ((strings_events (map (again_string mode) body) ++ (token strings_end ∷ [])) ++ (leave span.end ∷ []))) ++ ts)
        (92 ∷ 113 ∷ 123 ∷ ((strings_text mode body ++ (125 ∷ [])) ++ text))
    strings_again q takes span [] ts text some early again = absurd (some refl)
    strings_again q takes span (s ∷ ss) ts text some early again =
        let own = letters_tokens (map (again_in_class mode) s.body) in
        let others = barred_tokens (map (again_string mode) ss) in
        let mine = characters_text mode s.body in
        let more = barred_strings_text mode ss in
        let ends : AgainAt in_strings (strings_end ∷ ts) (125 ∷ text) = one_again in_strings fresh strings_end (125 ∷ []) ts text (λ at between rest. ((sets, refl), refl)) again in
        let inside : AgainAt in_strings (own ++ (others ++ (strings_end ∷ ts))) (mine ++ (more ++ (125 ∷ text))) =
        letters_again s.body (others ++ (strings_end ∷ ts)) (more ++ (125 ∷ text)) (All-head IsEarlyString s ss early).1
        (barred_again ss (strings_end ∷ ts) (125 ∷ text) (All-tail IsEarlyString s ss early) ends) in
        let tokens_are : class_tokens_of ((strings_events (map (again_string mode) (s ∷ ss)) ++ (token strings_end ∷ [])) ++ (leave span.end ∷ [])) ++ ts ≡ own ++ (others ++ (strings_end ∷ ts)) =
        ap (λ own. own ++ ts) (strings_are (again_string mode s) (map (again_string mode) ss) span) ∙ append_assoc own (others ++ (strings_end ∷ [])) ts ∙ ap (λ ts. own ++ ts) (append_assoc others (strings_end ∷ []) ts) in
        let text_is : (strings_text mode (s ∷ ss) ++ (125 ∷ [])) ++ text ≡ mine ++ (more ++ (125 ∷ text)) =
        append_assoc (mine ++ more) (125 ∷ []) text ∙ append_assoc mine more (125 ∷ text) in
        subst (λ ts. AgainAt q (strings ∷ ts) (92 ∷ 113 ∷ 123 ∷ ((strings_text mode (s ∷ ss) ++ (125 ∷ [])) ++ text))) (sym tokens_are)
        (subst (λ text. AgainAt q (strings ∷ (own ++ (others ++ (strings_end ∷ ts)))) (92 ∷ 113 ∷ 123 ∷ text)) (sym text_is)
        (one_again q in_strings strings (92 ∷ 113 ∷ 123 ∷ []) (own ++ (others ++ (strings_end ∷ ts))) (mine ++ (more ++ (125 ∷ text)))
        (λ at between rest. (strings_there q takes (literal_units true at (92 ∷ 113 ∷ 123 ∷ [])) (literal_units true between (mine ++ (more ++ (125 ∷ text))) ++ rest) refl, refl)) inside))

  -- a bracket
  bracket_there : (q : Place) → TakesBracket q → (negative : Bool) (w more : List CodePoint) → SpellsBracket negative w more → SpellsInClass e q (bracket negative) w more
  bracket_there outside takes negative w more s = s
  bracket_there fresh takes negative w more s = (takes.1, s)
  bracket_there (after_operator o) takes negative w more s = (takes.1, s, bracket_follows o negative w more s)
  bracket_there q takes negative w more s = absurd takes.0

  bracket_again : (q : Place) → TakesBracket q → (negative : Bool) (ts : List ClassToken) (text : List ℕ) → BeginsOutside (λ c. c == 94) text → AgainHere ts text →
      AgainAt q (bracket negative ∷ ts) (class_opener negative ++ text)
  bracket_again q takes true ts text caretless again =
      one_again q fresh (bracket true) (91 ∷ 94 ∷ []) ts text
      (λ at between rest. (bracket_there q takes true (literal_units true at (91 ∷ 94 ∷ [])) (literal_units true between text ++ rest) refl, refl)) again
  bracket_again q takes false ts text caretless again =
      one_again q fresh (bracket false) (91 ∷ []) ts text
      (λ at between rest.
      let first : starts 94 (values (literal_units true between text ++ rest)) ≡ false =
      ap (starts 94) (values_before between text rest) ∙ starts_not 94 (text ++ values rest) (caretless (values rest)) in
      (bracket_there q takes false (literal_units true at (91 ∷ [])) (literal_units true between text ++ rest) (refl, first), refl)) again

  nested_takes : (q : Place) → TakesOperand q → is_sets e.mode ≡ true → TakesBracket q
  nested_takes outside takes sets = tt
  nested_takes q takes sets = (takes, sets)

  -- what stands between operands
  abbrev place_after : CharacterClassContentsKind → Place
  place_after Union = fresh
  place_after Intersection = after_operator set.Intersection
  place_after Subtraction = after_operator set.Subtraction

  operator_again : (kind : CharacterClassContentsKind) → IsKnownKind e.mode kind → (ts : List ClassToken) (text : List ℕ) → AgainAt (place_after kind) ts text →
      AgainHere (between_by kind ++ ts) (operator_text kind ++ text)
  operator_again Union k ts text again = again
  operator_again Intersection k ts text again = one_again fresh (after_operator set.Intersection) (operator set.Intersection) (38 ∷ 38 ∷ []) ts text (λ at between rest. ((k, refl), refl)) again
  operator_again Subtraction k ts text again = one_again fresh (after_operator set.Subtraction) (operator set.Subtraction) (45 ∷ 45 ∷ []) ts text (λ at between rest. ((k, refl), refl)) again

  -- A range stands where an item of a union may.
  abbrev TakesMember : Place → Member → Type 0
  TakesMember q (tree.range r) = q ≡ fresh
  TakesMember q mb = TakesOperand q

  takes_first : (mb : Member) → TakesMember fresh mb
  takes_first (tree.range r) = refl
  takes_first m = tt

  takes_operand : (q : Place) → TakesOperand q → (mb : Member) → IsOperand mb → TakesMember q mb
  takes_operand q takes (tree.range r) i = absurd i
  takes_operand q takes m i = takes

  -- what the kind of a class asks of its further members
  abbrev AreTaken : CharacterClassContentsKind → Members → Type 0
  AreTaken kind no_member = Unit {0}
  AreTaken kind (member mb ms) = TakesMember (place_after kind) mb × AreTaken kind ms

  taken_union : (ms : Members) → AreTaken Union ms
  taken_union no_member = tt
  taken_union (member mb ms) = (takes_first mb, taken_union ms)

  taken_operands : (kind : CharacterClassContentsKind) → TakesOperand (place_after kind) → (ms : Members) → AreOperands ms → AreTaken kind ms
  taken_operands kind takes no_member h = tt
  taken_operands kind takes (member mb ms) h = (takes_operand (place_after kind) takes mb h.0, taken_operands kind takes ms h.1)

  taken : (kind : CharacterClassContentsKind) (mb : Member) (ms : Members) → IsKnownKind e.mode kind → FitsKind kind (member mb ms) → AreTaken kind ms
  taken Union mb ms k fits = taken_union ms
  taken Intersection mb ms k fits = taken_operands Intersection k ms fits.1.1
  taken Subtraction mb ms k fits = taken_operands Subtraction k ms fits.1.1

  -- after a member stand further ones and the closer
  further_ends : (kind : CharacterClassContentsKind) → IsKnownKind e.mode kind → (ms : Members) (text : List ℕ) → EndsItem (more_members_text mode (operator_text kind) ms ++ (93 ∷ text))
  further_ends kind k no_member text = inl (λ more. refl)
  further_ends Union k (member mb ms) text = inl (members_outside mode (λ c. c == 45) refl (no_raw_hyphen mode) refl refl [] (member mb ms) text)
  further_ends Intersection k (member mb ms) text = inl (λ more. refl)
  further_ends Subtraction k (member mb ms) text = inr (k, _, refl)

  no_meet : is_sets e.mode ≡ true → (c : ℕ) → BeginsOutside (λ c. c == 38) (character_text mode in_class c)
  no_meet sets c = in_class_outside mode (λ c. c == 38) refl (no_raw_ampersand mode (ap is_sets (sym m) ∙ sets)) c

  mutual
    member_again : (q : Place) (mb : Member) (ts : List ClassToken) (text : List ℕ) → TakesMember q mb → IsKnownMember true e.mode mb → IsEarlyMember mb → IsFittingMember mb → EndsItem text →
        AgainHere ts text → AgainAt q (operand_tokens (again_member mode mb) ++ ts) (member_text mode mb ++ text)
    member_again q (tree.range r) ts text takes k h f ends again =
        let first = in_class_text mode r.min in
        let last = in_class_text mode r.max in
        let own = low (class_kind mode r.min.value) r.min.value ∷ dash ∷ high (class_kind mode r.max.value) r.max.value ∷ ts in
        subst (λ q. AgainAt q own ((first ++ (45 ∷ last)) ++ text)) (sym takes)
        (subst (AgainHere own) (sym (append_assoc first (45 ∷ last) text))
        (range_again (class_kind mode r.min.value) (class_kind mode r.max.value) r.min.value r.max.value first last ts text
        (in_class_spelled r.min.value h.0 (fits_here r.min.value (k.0 refl))) (in_class_spelled r.max.value h.1 (fits_here r.max.value (k.1 refl))) (some_character mode in_class r.max.value)
        (in_class_outside mode (λ c. c == 93) refl (no_raw_closer mode) r.max.value) again))
    member_again q (tree.escape c) ts text takes k h f ends again =
        item_again q takes (escape c.kind) (class_escape_text c.kind) ts text (λ at rest. values_literal at (class_escape_text c.kind)) (λ _. class_escape_outside (λ c. c == 38) refl c.kind) ends again
    member_again q (tree.property p) ts text takes k h f ends again =
        item_again q takes (property p.negative p.strings p.name p.value) (property_text p.negative p.name p.value) ts text
        (λ at rest. property_spelled p.negative p.strings p.name p.value k.0 k.1 at) (λ _. property_outside (λ c. c == 38) refl p.negative p.name p.value) ends again
    member_again q (tree.character c) ts text takes k h f ends again =
        item_again q takes (character (class_kind mode c.value) c.value) (in_class_text mode c) ts text (in_class_spelled c.value h (fits_here c.value (k refl))) (λ sets. no_meet sets c.value) ends again
    member_again q (tree.nested c) ts text takes k h f ends again = class_again q (nested_takes q takes k.0) c ts text k.1 h f again
    member_again q (tree.strings d) ts text takes k h f ends again = strings_again k q takes d.span d.body ts text f h.1 again

    class_again : (q : Place) → TakesBracket q → (c : Class) (ts : List ClassToken) (text : List ℕ) → IsKnownTree true e.mode c → IsEarlyClass c → IsFitting c → AgainHere ts text →
        AgainAt q (class_tokens (again_class mode c) ++ ts) (class_text mode c ++ text)
    class_again q takes (class s negative may kind ms) ts text k h f again =
        let own = contents_tokens (between_by kind) (again_members mode ms) in
        let mine = members_text mode (operator_text kind) ms in
        let tokens_are : class_tokens (class s negative may kind (again_members mode ms)) ++ ts ≡ bracket negative ∷ (own ++ (closer ∷ ts)) =
        ap (λ own. own ++ ts) (class_tokens_by s negative may kind (again_members mode ms)) ∙ ap (λ ts. bracket negative ∷ ts) (append_assoc own (closer ∷ []) ts) in
        let text_is : (class_opener negative ++ (mine ++ (93 ∷ []))) ++ text ≡ class_opener negative ++ (mine ++ (93 ∷ text)) =
        append_assoc (class_opener negative) (mine ++ (93 ∷ [])) text ∙ ap (λ text. class_opener negative ++ text) (append_assoc mine (93 ∷ []) text) in
        subst (λ ts. AgainAt q ts ((class_opener negative ++ (mine ++ (93 ∷ []))) ++ text)) (sym tokens_are)
        (subst (AgainAt q (bracket negative ∷ (own ++ (closer ∷ ts)))) (sym text_is)
        (bracket_again q takes negative (own ++ (closer ∷ ts)) (mine ++ (93 ∷ text))
        (members_outside mode (λ c. c == 94) refl (no_raw_caret mode) refl refl (operator_text kind) ms text) (contents_again kind ms ts text k.0 k.1 h.2 f.0 f.1 again)))

    contents_again : (kind : CharacterClassContentsKind) (ms : Members) (ts : List ClassToken) (text : List ℕ) → IsKnownKind e.mode kind → AreKnownMembers true e.mode ms → AreEarlyMembers ms →
        FitsKind kind ms → AreFitting ms → AgainHere ts text →
        AgainHere (contents_tokens (between_by kind) (again_members mode ms) ++ (closer ∷ ts)) (members_text mode (operator_text kind) ms ++ (93 ∷ text))
    contents_again kind no_member ts text p k h fits f again = closer_again ts text again
    contents_again kind (member mb ms) ts text p k h fits f again =
        let own = operand_tokens (again_member mode mb) in
        let others = further_tokens (between_by kind) (again_members mode ms) in
        let mine = member_text mode mb in
        let more = more_members_text mode (operator_text kind) ms in
        subst (λ ts. AgainHere ts ((mine ++ more) ++ (93 ∷ text))) (sym (append_assoc own others (closer ∷ ts)))
        (subst (AgainHere (own ++ (others ++ (closer ∷ ts)))) (sym (append_assoc mine more (93 ∷ text)))
        (member_again fresh mb (others ++ (closer ∷ ts)) (more ++ (93 ∷ text)) (takes_first mb) k.0 h.0 f.0 (further_ends kind p ms text)
        (further_again kind ms ts text p k.1 h.1 (taken kind mb ms p fits) f.1 again)))

    -- each after the operator
    further_again : (kind : CharacterClassContentsKind) (ms : Members) (ts : List ClassToken) (text : List ℕ) → IsKnownKind e.mode kind → AreKnownMembers true e.mode ms → AreEarlyMembers ms →
        AreTaken kind ms → AreFitting ms → AgainHere ts text →
        AgainHere (further_tokens (between_by kind) (again_members mode ms) ++ (closer ∷ ts)) (more_members_text mode (operator_text kind) ms ++ (93 ∷ text))
    further_again kind no_member ts text p k h takes f again = closer_again ts text again
    further_again kind (member mb ms) ts text p k h takes f again =
        let own = operand_tokens (again_member mode mb) in
        let others = further_tokens (between_by kind) (again_members mode ms) in
        let mine = member_text mode mb in
        let more = more_members_text mode (operator_text kind) ms in
        let tokens_are : (between_by kind ++ (own ++ others)) ++ (closer ∷ ts) ≡ between_by kind ++ (own ++ (others ++ (closer ∷ ts))) =
        append_assoc (between_by kind) (own ++ others) (closer ∷ ts) ∙ ap (λ ts. between_by kind ++ ts) (append_assoc own others (closer ∷ ts)) in
        let text_is : (operator_text kind ++ (mine ++ more)) ++ (93 ∷ text) ≡ operator_text kind ++ (mine ++ (more ++ (93 ∷ text))) =
        append_assoc (operator_text kind) (mine ++ more) (93 ∷ text) ∙ ap (λ text. operator_text kind ++ text) (append_assoc mine more (93 ∷ text)) in
        subst (λ ts. AgainHere ts ((operator_text kind ++ (mine ++ more)) ++ (93 ∷ text))) (sym tokens_are)
        (subst (AgainHere (between_by kind ++ (own ++ (others ++ (closer ∷ ts))))) (sym text_is)
        (operator_again kind p (own ++ (others ++ (closer ∷ ts))) (mine ++ (more ++ (93 ∷ text)))
        (member_again (place_after kind) mb (others ++ (closer ∷ ts)) (more ++ (93 ∷ text)) takes.0 k.0 h.0 f.0 (further_ends kind p ms text)
        (further_again kind ms ts text p k.1 h.1 takes.1 f.1 again))))

  -- the class
  pub class_spelled_again : (c : Class) → IsKnownClass true e.mode c → IsEarlyClass c → (at : ℕ) (rest : List CodePoint) →
      IsClass e (again_class mode c) (literal_units true at (class_text mode c)) rest
  class_spelled_again c k h at rest = record {
    no_spans = unspanned_class mode c ∙ ap (again_class mode) k.no_spans;
    shape = shape_again mode c k.shape;
    row =
        subst (λ ts. ClassTokenRow e ts outside (literal_units true at (class_text mode c) ++ rest) fresh rest) (append-nil (class_tokens (again_class mode c)))
        (subst (λ text. ClassTokenRow e (class_tokens (again_class mode c) ++ []) outside (literal_units true at text ++ rest) fresh rest) (append-nil (class_text mode c))
        (class_again outside tt c [] [] k.known h k.shape.0 (λ at rest. (refl, refl)) at rest));
  }
