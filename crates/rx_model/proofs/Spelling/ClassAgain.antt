-- The class that a canonical text is read as: each character has the kind that the text gives it, and all else is kept.
use Rattle.std.proofs.Common.{◌≡◌, ◌≢◌, refl, ap, ap₂, sym, ◌∙◌, ℕ, not, ◌==◌, ◌||◌, cond, nat_lt, List, [], ◌∷◌, map}
use Rattle.std.specs.Prelude.{All}
use Rattle.std.specs.List.{list_any}
use Rattle.std.proofs.lemmas.List.{length-map}
use Rattle.std.proofs.lemmas.List.Elements.{All-cons, All-head, All-map, All-nil, All-tail}
use Rattle.rx_base.specs.Characters.{is_surrogate, is_within}
use Rattle.rx_ast.specs.declared.leaf.Character.{Character}
use Rattle.rx_ast.specs.declared.leaf.CharacterKind.{CharacterKind}
use Rattle.rx_ast.specs.declared.leaf.CharacterKind.TheVariants as kinds
use Rattle.rx_ast.specs.declared.class.CharacterClassRange.{CharacterClassRange}
use Rattle.rx_ast.specs.declared.class.CharacterClassContentsKind.{CharacterClassContentsKind}
use Rattle.rx_ast.specs.declared.class.CharacterClassContentsKind.TheVariants.{Union, Intersection, Subtraction}
use Rattle.rx_ast.specs.declared.class.ClassString.{ClassString}
use Rattle.rx_ast.specs.declared.class.ClassStringDisjunction.{ClassStringDisjunction}
use Rattle.rx_ast.specs.ClassTree.{Member, Members, Class, range, escape, property, character, nested, strings, no_member, member, class}
use Rattle.rx_ast.specs.Forget.{nowhere, forget_character, forget_string, forget_member, forget_members, forget_class, same_kind, no_kind}
use Rattle.rx_tables.specs.Characters.{is_syntax_character}
use Rattle.rx_model.specs.declared.mode.Mode.{Mode}
use Rattle.rx_model.specs.Classes.ClassRows.{IsClassShape}
use Rattle.rx_model.specs.Classes.ClassShapes.{AreFitting, AreFlagged, AreOperands, AreTwo, FitsKind, IsFitting, IsFittingMember, IsFlagged, IsFlaggedMember, IsOperand}
use Rattle.rx_model.specs.Spelling.CharacterText.{greatest_raw, is_reserved_in_class}
use Rattle.rx_model.specs.Trees.Early.{AreCodePoints, AreEarlyMembers, IsCodePoint, IsEarlyClass, IsEarlyMember, IsEarlyString, IsFlaggedString, all_strings, any_strings, class_strings, first_strings, may_contain_strings, member_strings}
use Rattle.rx_model.specs.declared.mode.Mode.TheVariants.{Legacy, Unicode, Sets}

-- the kind of an escaped `-`: with `u` it is a ClassEscape of its own, with `v` a ClassSetReservedPunctuator, with neither an IdentityEscape
abbrev pub kind_of_hyphen : Mode → CharacterKind
kind_of_hyphen Legacy = kinds.Identifier
kind_of_hyphen Unicode = kinds.SingleEscape
kind_of_hyphen Sets = kinds.Identifier

-- in a mode
module _ (mode : Mode) where
  -- the kind of an escaped `-`
  abbrev hyphen_kind : CharacterKind
  hyphen_kind = kind_of_hyphen mode

  -- the kind that the canonical spelling gives a character in a class, by its value
  unfoldable pub class_kind : ℕ → CharacterKind
  class_kind c =
      cond (is_within 9 13 c) kinds.SingleEscape
      (cond (nat_lt c 32 || is_within 127 159 c) kinds.HexadecimalEscape
      (cond (c == 0x2028 || c == 0x2029) kinds.UnicodeEscape
      (cond (is_surrogate c) kinds.UnicodeEscape
      (cond (nat_lt (greatest_raw mode) c) kinds.UnicodeEscape
      (cond (is_syntax_character c || c == 47 || is_reserved_in_class mode c) (cond (c == 45) hyphen_kind kinds.Identifier) kinds.Symbol)))))

  abbrev pub again_in_class : Character → Character
  again_in_class c = record { span = c.span; kind = class_kind c.value; value = c.value }

  abbrev pub again_range : CharacterClassRange → CharacterClassRange
  again_range r = record { span = r.span; min = again_in_class r.min; max = again_in_class r.max }

  abbrev pub again_string : ClassString → ClassString
  again_string s = record { span = s.span; strings = s.strings; body = map again_in_class s.body }

  abbrev pub again_strings : ClassStringDisjunction → ClassStringDisjunction
  again_strings d = record { span = d.span; strings = d.strings; body = map again_string d.body }

  abbrev mutual
    pub again_member : Member → Member
    again_member (range r) = range (again_range r)
    again_member (escape e) = escape e
    again_member (property p) = property p
    again_member (character c) = character (again_in_class c)
    again_member (nested c) = nested (again_class c)
    again_member (strings d) = strings (again_strings d)

    pub again_members : Members → Members
    again_members no_member = no_member
    again_members (member m ms) = member (again_member m) (again_members ms)

    pub again_class : Class → Class
    again_class (class s negative may kind ms) = class s negative may kind (again_members ms)

  -- but for spans and kinds it is the same

  bare_characters : (cs : List Character) → map (forget_character no_kind) (map again_in_class cs) ≡ map (forget_character no_kind) cs
  bare_characters [] = refl
  bare_characters (c ∷ cs) = ap (λ rest. forget_character no_kind c ∷ rest) (bare_characters cs)

  bare_string : (s : ClassString) → forget_string no_kind (again_string s) ≡ forget_string no_kind s
  bare_string s = ap (λ body. record { span = nowhere; strings = s.strings; body = body }) (bare_characters s.body)

  bare_strings : (ss : List ClassString) → map (forget_string no_kind) (map again_string ss) ≡ map (forget_string no_kind) ss
  bare_strings [] = refl
  bare_strings (s ∷ ss) = ap₂ (λ t rest. t ∷ rest) (bare_string s) (bare_strings ss)

  mutual
    bare_member : (m : Member) → forget_member no_kind (again_member m) ≡ forget_member no_kind m
    bare_member (range r) = refl
    bare_member (escape e) = refl
    bare_member (property p) = refl
    bare_member (character c) = refl
    bare_member (nested c) = ap (λ c. nested c) (bare_class c)
    bare_member (strings d) = ap (λ body. strings (record { span = nowhere; strings = d.strings; body = body })) (bare_strings d.body)

    bare_members : (ms : Members) → forget_members no_kind (again_members ms) ≡ forget_members no_kind ms
    bare_members no_member = refl
    bare_members (member m ms) = ap (λ k. member k (forget_members no_kind (again_members ms))) (bare_member m) ∙ ap (member (forget_member no_kind m)) (bare_members ms)

    pub bare_class : (c : Class) → forget_class no_kind (again_class c) ≡ forget_class no_kind c
    bare_class (class s negative may kind ms) = ap (class nowhere negative may kind) (bare_members ms)

  -- without its spans it is the class without its spans, read again

  unspanned_characters : (cs : List Character) → map (forget_character same_kind) (map again_in_class cs) ≡ map again_in_class (map (forget_character same_kind) cs)
  unspanned_characters [] = refl
  unspanned_characters (c ∷ cs) = ap (λ rest. forget_character same_kind (again_in_class c) ∷ rest) (unspanned_characters cs)

  unspanned_string : (s : ClassString) → forget_string same_kind (again_string s) ≡ again_string (forget_string same_kind s)
  unspanned_string s = ap (λ body. record { span = nowhere; strings = s.strings; body = body }) (unspanned_characters s.body)

  unspanned_strings : (ss : List ClassString) → map (forget_string same_kind) (map again_string ss) ≡ map again_string (map (forget_string same_kind) ss)
  unspanned_strings [] = refl
  unspanned_strings (s ∷ ss) = ap₂ (λ t rest. t ∷ rest) (unspanned_string s) (unspanned_strings ss)

  mutual
    unspanned_member : (m : Member) → forget_member same_kind (again_member m) ≡ again_member (forget_member same_kind m)
    unspanned_member (range r) = refl
    unspanned_member (escape e) = refl
    unspanned_member (property p) = refl
    unspanned_member (character c) = refl
    unspanned_member (nested c) = ap (λ c. nested c) (unspanned_class c)
    unspanned_member (strings d) = ap (λ body. strings (record { span = nowhere; strings = d.strings; body = body })) (unspanned_strings d.body)

    unspanned_members : (ms : Members) → forget_members same_kind (again_members ms) ≡ again_members (forget_members same_kind ms)
    unspanned_members no_member = refl
    unspanned_members (member m ms) =
        ap (λ k. member k (forget_members same_kind (again_members ms))) (unspanned_member m) ∙ ap (member (again_member (forget_member same_kind m))) (unspanned_members ms)

    pub unspanned_class : (c : Class) → forget_class same_kind (again_class c) ≡ again_class (forget_class same_kind c)
    unspanned_class (class s negative may kind ms) = ap (class nowhere negative may kind) (unspanned_members ms)

  -- it may contain strings where the class may

  same_class_strings : (c : Class) → class_strings (again_class c) ≡ class_strings c
  same_class_strings (class s negative may kind ms) = refl

  same_strings : (m : Member) → member_strings (again_member m) ≡ member_strings m
  same_strings (range r) = refl
  same_strings (escape e) = refl
  same_strings (property p) = refl
  same_strings (character c) = refl
  same_strings (nested c) = same_class_strings c
  same_strings (strings d) = refl

  again_any : (ms : Members) → any_strings (again_members ms) ≡ any_strings ms
  again_any no_member = refl
  again_any (member m ms) = rw (same_strings m, again_any ms) refl

  again_all : (ms : Members) → all_strings (again_members ms) ≡ all_strings ms
  again_all no_member = refl
  again_all (member m ms) = rw (same_strings m, again_all ms) refl

  again_first : (ms : Members) → first_strings (again_members ms) ≡ first_strings ms
  again_first no_member = refl
  again_first (member m ms) = same_strings m

  again_may : (kind : CharacterClassContentsKind) (ms : Members) → may_contain_strings kind (again_members ms) ≡ may_contain_strings kind ms
  again_may Union ms = again_any ms
  again_may Intersection ms = again_all ms
  again_may Subtraction ms = again_first ms

  flagged_string : (s : ClassString) → IsFlaggedString s → IsFlaggedString (again_string s)
  flagged_string s h = h ∙ ap (λ n. not (n == 1)) (sym (length-map s.body again_in_class))

  flagged_strings : (ss : List ClassString) → All IsFlaggedString ss → All IsFlaggedString (map again_string ss)
  flagged_strings [] h = All-nil IsFlaggedString
  flagged_strings (s ∷ ss) h =
      All-cons IsFlaggedString (again_string s) (map again_string ss) (flagged_string s (All-head IsFlaggedString s ss h)) (flagged_strings ss (All-tail IsFlaggedString s ss h))

  some_flagged : (ss : List ClassString) → list_any (λ s. s.strings) (map again_string ss) ≡ list_any (λ s. s.strings) ss
  some_flagged [] = refl
  some_flagged (s ∷ ss) = ap (λ b. s.strings || b) (some_flagged ss)

  -- it has the shape of the class

  some_again : (ss : List ClassString) → ss ≢ [] → map again_string ss ≢ []
  some_again [] h = absurd (h refl)
  some_again (s ∷ ss) h = λ k. cc

  operand_again : (m : Member) → IsOperand m → IsOperand (again_member m)
  operand_again (range r) h = h
  operand_again (escape e) h = h
  operand_again (property p) h = h
  operand_again (character c) h = h
  operand_again (nested c) h = h
  operand_again (strings d) h = h

  operands_again : (ms : Members) → AreOperands ms → AreOperands (again_members ms)
  operands_again no_member h = h
  operands_again (member m ms) h = (operand_again m h.0, operands_again ms h.1)

  two_again : (ms : Members) → AreTwo ms → AreTwo (again_members ms)
  two_again no_member h = h
  two_again (member m no_member) h = h
  two_again (member m (member n ms)) h = h

  kind_again : (kind : CharacterClassContentsKind) (ms : Members) → FitsKind kind ms → FitsKind kind (again_members ms)
  kind_again Union ms h = h
  kind_again kind ms h = (two_again ms h.0, operands_again ms h.1)

  mutual
    member_fits : (m : Member) → IsFittingMember m → IsFittingMember (again_member m)
    member_fits (range r) h = h
    member_fits (escape e) h = h
    member_fits (property p) h = h
    member_fits (character c) h = h
    member_fits (nested c) h = class_fits c h
    member_fits (strings d) h = some_again d.body h

    members_fit : (ms : Members) → AreFitting ms → AreFitting (again_members ms)
    members_fit no_member h = h
    members_fit (member m ms) h = (member_fits m h.0, members_fit ms h.1)

    class_fits : (c : Class) → IsFitting c → IsFitting (again_class c)
    class_fits (class s negative may kind ms) h = (kind_again kind ms h.0, members_fit ms h.1)

  mutual
    flagged_member : (m : Member) → IsFlaggedMember m → IsFlaggedMember (again_member m)
    flagged_member (range r) h = h
    flagged_member (escape e) h = h
    flagged_member (property p) h = h
    flagged_member (character c) h = h
    flagged_member (nested c) h = flagged_class c h
    flagged_member (strings d) h = (h.0 ∙ sym (some_flagged d.body), flagged_strings d.body h.1)

    flagged_members : (ms : Members) → AreFlagged ms → AreFlagged (again_members ms)
    flagged_members no_member h = h
    flagged_members (member m ms) h = (flagged_member m h.0, flagged_members ms h.1)

    flagged_class : (c : Class) → IsFlagged c → IsFlagged (again_class c)
    flagged_class (class s negative may kind ms) h = (h.0 ∙ sym (again_may kind ms), flagged_members ms h.1)

  pub shape_again : (c : Class) → IsClassShape c → IsClassShape (again_class c)
  shape_again c h = (class_fits c h.0, flagged_class c h.1)

  -- it is as free of early errors

  small_characters : (cs : List Character) → AreCodePoints cs → AreCodePoints (map again_in_class cs)
  small_characters cs h = All-map (λ (c : Character). IsCodePoint c.value) again_in_class cs h

  early_string : (s : ClassString) → IsEarlyString s → IsEarlyString (again_string s)
  early_string s h = (flagged_string s h.0, small_characters s.body h.1)

  early_strings : (ss : List ClassString) → All IsEarlyString ss → All IsEarlyString (map again_string ss)
  early_strings [] h = All-nil IsEarlyString
  early_strings (s ∷ ss) h =
      All-cons IsEarlyString (again_string s) (map again_string ss) (early_string s (All-head IsEarlyString s ss h)) (early_strings ss (All-tail IsEarlyString s ss h))

  mutual
    early_member : (m : Member) → IsEarlyMember m → IsEarlyMember (again_member m)
    early_member (range r) h = h
    early_member (escape e) h = h
    early_member (property p) h = h
    early_member (character c) h = h
    early_member (nested c) h = early_class c h
    early_member (strings d) h = (h.0 ∙ sym (some_flagged d.body), early_strings d.body h.1)

    early_members : (ms : Members) → AreEarlyMembers ms → AreEarlyMembers (again_members ms)
    early_members no_member h = tt
    early_members (member m ms) h = (early_member m h.0, early_members ms h.1)

    pub early_class : (c : Class) → IsEarlyClass c → IsEarlyClass (again_class c)
    early_class (class s negative may kind ms) h = (h.0 ∙ sym (again_may kind ms), h.1, early_members ms h.2)
