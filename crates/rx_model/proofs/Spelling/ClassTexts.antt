-- What the canonical texts in a class begin with: so that what is spelled after a text leaves it what it is.
use Rattle.std.proofs.Common.{◌≡◌, ◌≢◌, refl, ap, ◌∙◌, ℕ, ◌==◌, Bool, true, false, not, Option, List, [], ◌∷◌, ◌++◌, append_assoc, codes, arith}
use Rattle.std.proofs.Math.Bool.{and-false}
use Rattle.std.proofs.lemmas.Bool.Decides.{nat_tests}
use Rattle.rx_ast.specs.declared.leaf.CharacterClassEscapeKind.{CharacterClassEscapeKind}
use Rattle.rx_ast.specs.declared.leaf.CharacterClassEscapeKind.TheVariants.{D, NegativeD, S, NegativeS, W, NegativeW}
use Rattle.rx_ast.specs.ClassTree as tree
use Rattle.rx_ast.specs.ClassTree.{Member, Members, Class, no_member, member, class}
use Rattle.rx_tables.specs.Characters.{is_class_set_reserved_double_punctuator, is_class_set_syntax_character}
use Rattle.rx_units.specs.Digits.{front_is}
use Rattle.rx_model.specs.declared.mode.Mode.{Mode}
use Rattle.rx_model.specs.declared.mode.Mode.TheVariants.{Legacy, Unicode, Sets}
use Rattle.rx_model.specs.Spelling.CharacterText.{Place, two_digits, four_digits, in_braces_text, is_escaped, in_class, character_text}
use Rattle.rx_model.specs.Classes.ClassRows.{is_dashed, stands_raw_in_class}
use Rattle.rx_ast.specs.Texts.{class_escape_text, property_text}
use Rattle.rx_model.specs.Spelling.ClassText.{class_text, in_class_text, member_text, members_text, more_members_text}
use Rattle.rx_model.specs.Inputs.Environment.{is_sets}
use Rattle.rx_model.specs.FirstPass.Marks.{starts}
use Rattle.rx_base.specs.Characters.{is_one_of}
use Rattle.rx_model.proofs.Groups.GroupNames.{differs}
use Rattle.rx_model.proofs.Spelling.SomeTexts.{some}
use Rattle.rx_model.proofs.Spelling.CharacterText.{by_form}

-- Some set holds no character that this text begins with.
abbrev pub BeginsOutside : (ℕ → Bool) → List ℕ → Type 0
BeginsOutside set text = (more : List ℕ) → front_is set (text ++ more) ≡ false

-- what is escaped is none of what is not

unescaped_differs : (mode : Mode) (c d : ℕ) → is_escaped mode in_class d ≡ true → is_escaped mode in_class c ≡ false → (c == d) ≡ false
unescaped_differs mode c d within without = differs (λ c. not (is_escaped mode in_class c)) c d (ap not within) (ap not without)

hyphen_escaped : (mode : Mode) → is_escaped mode in_class 45 ≡ true
hyphen_escaped Legacy = refl
hyphen_escaped Unicode = refl
hyphen_escaped Sets = refl

ampersand_escaped : (mode : Mode) → is_sets mode ≡ true → is_escaped mode in_class 38 ≡ true
ampersand_escaped Legacy s = absurd (let no : ⊥ = cc s in no)
ampersand_escaped Unicode s = absurd (let no : ⊥ = cc s in no)
ampersand_escaped Sets s = refl

-- none of `-`, `]` and `^` stands for itself, and with `v` no `&`

pub no_raw_hyphen : (mode : Mode) (c : ℕ) → is_escaped mode in_class c ≡ false → (c == 45) ≡ false
no_raw_hyphen mode c h = unescaped_differs mode c 45 (hyphen_escaped mode) h

pub no_raw_closer : (mode : Mode) (c : ℕ) → is_escaped mode in_class c ≡ false → (c == 93) ≡ false
no_raw_closer mode c h = unescaped_differs mode c 93 refl h

pub no_raw_caret : (mode : Mode) (c : ℕ) → is_escaped mode in_class c ≡ false → (c == 94) ≡ false
no_raw_caret mode c h = unescaped_differs mode c 94 refl h

pub no_raw_ampersand : (mode : Mode) → is_sets mode ≡ true → (c : ℕ) → is_escaped mode in_class c ≡ false → (c == 38) ≡ false
no_raw_ampersand mode s c h = unescaped_differs mode c 38 (ampersand_escaped mode s) h

-- what is not escaped stands for itself, whatever follows

no_class_set_syntax : (c : ℕ) → is_escaped Sets in_class c ≡ false → is_class_set_syntax_character c ≡ false
no_class_set_syntax c h =
    let other : (d : ℕ) → is_escaped Sets in_class d ≡ true → (c == d) ≡ false = λ d is. unescaped_differs Sets c d is h in
    rw (other 40 refl, other 41 refl, other 91 refl, other 93 refl, other 123 refl, other 125 refl, other 47 refl, other 45 refl, other 92 refl, other 124 refl) refl

no_double : (c d : ℕ) → is_escaped Sets in_class c ≡ false → is_class_set_reserved_double_punctuator c d ≡ false
no_double c d h =
    let other : (d : ℕ) → is_escaped Sets in_class d ≡ true → (c == d) ≡ false = λ d is. unescaped_differs Sets c d is h in
    rw (other 38 refl, other 33 refl, other 35 refl, other 36 refl, other 37 refl, other 42 refl, other 43 refl, other 44 refl, other 46 refl, other 58 refl, other 59 refl, other 60 refl, other 61 refl, other 62 refl, other 63 refl, other 64 refl, other 94 refl, other 96 refl, other 126 refl)
    (and-false (c == d))

no_double_front : (c : ℕ) (w : List ℕ) → is_escaped Sets in_class c ≡ false → front_is (is_class_set_reserved_double_punctuator c) w ≡ false
no_double_front c [] h = refl
no_double_front c (d ∷ w) h = no_double c d h

raw_outside_sets : (c : ℕ) → (c == 45) ≡ false → (c == 93) ≡ false → (c == 92) ≡ false → not (is_one_of (codes "\\]-") c) ≡ true
raw_outside_sets c hyphen closer backslash = grind (arith, nat_tests)

pub raw_in_class : (mode : Mode) (c : ℕ) (w : List ℕ) → is_escaped mode in_class c ≡ false → stands_raw_in_class mode c w ≡ true
raw_in_class Legacy c w h = raw_outside_sets c (no_raw_hyphen Legacy c h) (no_raw_closer Legacy c h) (unescaped_differs Legacy c 92 refl h)
raw_in_class Unicode c w h = raw_outside_sets c (no_raw_hyphen Unicode c h) (no_raw_closer Unicode c h) (unescaped_differs Unicode c 92 refl h)
raw_in_class Sets c w h = rw (no_class_set_syntax c h, no_double_front c w h) refl

-- the set holds no backslash
module _ (set : ℕ → Bool) (backslash : set 92 ≡ false) where
  pub class_escape_outside : (kind : CharacterClassEscapeKind) → BeginsOutside set (class_escape_text kind)
  class_escape_outside D more = backslash
  class_escape_outside NegativeD more = backslash
  class_escape_outside S more = backslash
  class_escape_outside NegativeS more = backslash
  class_escape_outside W more = backslash
  class_escape_outside NegativeW more = backslash

  pub property_outside : (negative : Bool) (name : List ℕ) (value : Option (List ℕ)) → BeginsOutside set (property_text negative name value)
  property_outside true name value more = backslash
  property_outside false name value more = backslash

-- a class begins with its bracket
pub class_outside : (mode : Mode) (set : ℕ → Bool) → set 91 ≡ false → (c : Class) → BeginsOutside set (class_text mode c)
class_outside mode set h (class s true may kind ms) more = h
class_outside mode set h (class s false may kind ms) more = h

-- a set that holds no backslash, and nothing that is not escaped in classes
module _ (mode : Mode) (set : ℕ → Bool) (backslash : set 92 ≡ false) (raw : (c : ℕ) → is_escaped mode in_class c ≡ false → set c ≡ false) where
  pub in_class_outside : (c : ℕ) → BeginsOutside set (character_text mode in_class c)
  unfolding two_digits four_digits in_braces_text
  in_class_outside c more =
      by_form (λ text. front_is set (text ++ more) ≡ false) mode in_class c backslash backslash backslash backslash (λ _. backslash) (λ _. backslash) (λ r. raw c r.unescaped)

  -- nor a bracket
  pub member_outside : set 91 ≡ false → (m : Member) → BeginsOutside set (member_text mode m)
  member_outside bracket (tree.range r) more =
      let rest = 45 ∷ in_class_text mode r.max in
      ap (front_is set) (append_assoc (in_class_text mode r.min) rest more) ∙ in_class_outside r.min.value (rest ++ more)
  member_outside bracket (tree.escape c) more = class_escape_outside set backslash c.kind more
  member_outside bracket (tree.property p) more = property_outside set backslash p.negative p.name p.value more
  member_outside bracket (tree.character c) more = in_class_outside c.value more
  member_outside bracket (tree.nested c) more = class_outside mode set bracket c more
  member_outside bracket (tree.strings d) more = backslash

  member_before : set 91 ≡ false → (m : Member) (own text : List ℕ) → BeginsOutside set ((member_text mode m ++ own) ++ text)
  member_before bracket m own text more =
      ap (front_is set) (ap (λ v. v ++ more) (append_assoc (member_text mode m) own text) ∙ append_assoc (member_text mode m) (own ++ text) more)
      ∙ member_outside bracket m ((own ++ text) ++ more)

  -- nor a closer
  pub members_outside : set 91 ≡ false → set 93 ≡ false → (operator : List ℕ) (ms : Members) (text : List ℕ) → BeginsOutside set (members_text mode operator ms ++ (93 ∷ text))
  members_outside bracket closer operator no_member text more = closer
  members_outside bracket closer operator (member m ms) text more = member_before bracket m (more_members_text mode operator ms) (93 ∷ text) more

-- a front in no set of one
pub starts_not : (c : ℕ) (w : List ℕ) → front_is (λ d. d == c) w ≡ false → starts c w ≡ false
starts_not c [] h = refl
starts_not c (u ∷ w) h = h

-- nothing stands between the members of a union
pub union_text : (mode : Mode) (ms : Members) → members_text mode [] ms ≡ more_members_text mode [] ms
union_text mode no_member = refl
union_text mode (member m ms) = refl

-- what begins with no `-` is no dash of a range
pub undashed : (w : List ℕ) → front_is (λ c. c == 45) w ≡ false → is_dashed w ≡ false
undashed [] h = refl
undashed (c ∷ []) h = refl
undashed (c ∷ d ∷ w) h = rw h refl

-- a `-` before a text that is not empty and begins with no closer is one
pub dashed : (text more : List ℕ) → text ≢ [] → front_is (λ c. c == 93) (text ++ more) ≡ false → is_dashed (45 ∷ (text ++ more)) ≡ true
dashed [] more some h = absurd (some refl)
dashed (c ∷ text) more some h = rw h refl

-- a character has some text
pub some_character : (mode : Mode) (place : Place) (c : ℕ) → character_text mode place c ≢ []
unfolding two_digits four_digits in_braces_text
some_character mode place c = by_form (λ text. text ≢ []) mode place c (some 92 _) (some 92 _) (some 92 _) (some 92 _) (λ _. some 92 _) (λ _. some 92 _) (λ _. some c [])
