-- The early errors (22.2.1.1) that a pattern is free of.
use Rattle.std.specs.Prelude.{◌≡◌, ◌≢◌, ◌↔◌, ℕ, ◌+◌, ◌-◌, ◌^◌, ◌≤◌, Bool, true, false, not, ◌&&◌, ◌||◌, ◌==◌, Option, Some, None, List, length, All, Contains}
use Rattle.std.specs.Int.RustNames.{bit_and}
use Rattle.std.specs.List.{list_any}
use Rattle.rx_ast.specs.declared.leaf.Character.{Character}
use Rattle.rx_ast.specs.declared.class.CharacterClassContentsKind.{CharacterClassContentsKind}
use Rattle.rx_ast.specs.declared.class.CharacterClassContentsKind.TheVariants.{Union, Intersection, Subtraction}
use Rattle.rx_ast.specs.declared.class.CharacterClassRange.{CharacterClassRange}
use Rattle.rx_ast.specs.declared.class.ClassString.{ClassString}
use Rattle.rx_ast.specs.declared.class.ClassStringDisjunction.{ClassStringDisjunction}
use Rattle.rx_ast.specs.declared.term.Pattern.{Pattern}
use Rattle.rx_ast.specs.ClassTree.{Member, Members, Class, range, escape, property, character, nested, strings, no_member, member, class}
use Rattle.rx_ast.specs.Tree.{mirror_disjunction}
use Rattle.rx_tables.specs.Properties.{properties_of_strings}
use Rattle.rx_model.specs.declared.rules.Rules.{Rules}
use Rattle.rx_model.specs.Trees.Token.{Token, Opener, opener, closer, bar, quantifier, capturing, ignoring, looking}
use Rattle.rx_model.specs.Trees.Token as token
use Rattle.rx_model.specs.Trees.Events.{tokens}
use Rattle.rx_model.specs.Trees.Names.{groups, names, AreNamesEarly}

-- the greatest number of a braced quantifier: a limit of this project, and none of the standard
-- Why: docs/DECISIONS.md, 18.
abbrev pub greatest_count : ℕ
greatest_count = 2 ^ 53 - 1

abbrev pub IsCodePoint : ℕ → Type 0
IsCodePoint value = value ≤ 0x10FFFF

abbrev pub AreCodePoints : List Character → Type 0
AreCodePoints cs = All (λ c. IsCodePoint c.value) cs

abbrev pub IsEarlyRange : CharacterClassRange → Type 0
IsEarlyRange r = IsCodePoint r.min.value × IsCodePoint r.max.value × (r.min.value ≤ r.max.value)

-- MayContainStrings (22.2.1.8) of the expression of a property escape: where its name is a binary property of strings. No property with a value has such a name.
-- Why: docs/DECISIONS.md, 95.
abbrev pub IsFlaggedProperty : Bool → List ℕ → Type 0
IsFlaggedProperty may name = (may ≡ true) ↔ Contains properties_of_strings name

-- and no negative one has it (CharacterClassEscape, 22.2.1.1)
abbrev pub IsEarlyProperty : Bool → Bool → List ℕ → Type 0
IsEarlyProperty negative may name = IsFlaggedProperty may name × ((negative && may) ≡ false)

-- MayContainStrings (22.2.1.8) of a class string, by how many characters it has: unless it is one
abbrev pub string_strings : ℕ → Bool
string_strings count = not (count == 1)

-- and of a disjunction of class strings: where some of them has it
abbrev pub disjunction_strings : List ClassString → Bool
disjunction_strings ss = list_any (λ s. s.strings) ss

abbrev pub IsFlaggedString : ClassString → Type 0
IsFlaggedString s = s.strings ≡ string_strings (length s.body)

abbrev pub IsFlaggedDisjunction : ClassStringDisjunction → Type 0
IsFlaggedDisjunction d = d.strings ≡ disjunction_strings d.body

abbrev pub IsEarlyString : ClassString → Type 0
IsEarlyString s = IsFlaggedString s × AreCodePoints s.body

abbrev pub IsEarlyStrings : ClassStringDisjunction → Type 0
IsEarlyStrings d = IsFlaggedDisjunction d × All IsEarlyString d.body

abbrev pub class_strings : Class → Bool
class_strings (class s negative may kind ms) = may

abbrev pub member_strings : Member → Bool
member_strings (range r) = false
member_strings (escape e) = false
member_strings (property p) = p.strings
member_strings (character c) = false
member_strings (nested c) = class_strings c
member_strings (strings d) = d.strings

abbrev pub any_strings : Members → Bool
any_strings no_member = false
any_strings (member m ms) = member_strings m || any_strings ms

abbrev pub all_strings : Members → Bool
all_strings no_member = true
all_strings (member m ms) = member_strings m && all_strings ms

abbrev pub first_strings : Members → Bool
first_strings no_member = false
first_strings (member m ms) = member_strings m

-- MayContainStrings (22.2.1.8) of a class: where any operand of a union has it, all of an intersection, the first of a subtraction
abbrev pub may_contain_strings : CharacterClassContentsKind → Members → Bool
may_contain_strings Union ms = any_strings ms
may_contain_strings Intersection ms = all_strings ms
may_contain_strings Subtraction ms = first_strings ms

-- Ranges are in order, each flag on strings is MayContainStrings, and nothing negative has it.
abbrev mutual
  pub IsEarlyMember : Member → Type 0
  IsEarlyMember (range r) = IsEarlyRange r
  IsEarlyMember (escape e) = Unit {0}
  IsEarlyMember (property p) = IsEarlyProperty p.negative p.strings p.name
  IsEarlyMember (character c) = IsCodePoint c.value
  IsEarlyMember (nested c) = IsEarlyClass c
  IsEarlyMember (strings d) = IsEarlyStrings d

  pub AreEarlyMembers : Members → Type 0
  AreEarlyMembers no_member = Unit {0}
  AreEarlyMembers (member m ms) = IsEarlyMember m × AreEarlyMembers ms

  pub IsEarlyClass : Class → Type 0
  IsEarlyClass (class s negative may kind ms) =
      (may ≡ may_contain_strings kind ms) × ((negative && may) ≡ false) × AreEarlyMembers ms

abbrev pub IsGreatest : ℕ → Option ℕ → Type 0
IsGreatest min None = Unit {0}
IsGreatest min (Some max) = (min ≤ max) × (max ≤ greatest_count)

-- no letter on both sides, and some letter
abbrev pub AreModifiers : Option (ℕ × ℕ) → Type 0
AreModifiers None = Unit {0}
AreModifiers (Some m) = (bit_and m.0 m.1 ≡ 0) × (m.0 + m.1 ≢ 0)

abbrev pub IsEarlyOpener : Opener → Type 0
IsEarlyOpener (capturing name) = Unit {0}
IsEarlyOpener (ignoring modifiers) = AreModifiers modifiers
IsEarlyOpener (looking kind) = Unit {0}

-- What a token owes by itself, in a pattern with n groups and with these names.
abbrev pub Obeys : ℕ → List (List ℕ) → Token → Type 0
Obeys count names (token.boundary kind) = Unit {0}
Obeys count names (token.character kind value) = IsCodePoint value
Obeys count names token.dot = Unit {0}
Obeys count names (token.class_escape kind) = Unit {0}
Obeys count names (token.property negative may name value) = IsEarlyProperty negative may name
Obeys count names (token.class c) = IsEarlyClass c
Obeys count names (token.indexed n) = (1 ≤ n) × (n ≤ count)
Obeys count names (token.named name) = Contains names name
Obeys count names (opener o) = IsEarlyOpener o
Obeys count names closer = Unit {0}
Obeys count names bar = Unit {0}
Obeys count names (quantifier min max greedy) = (min ≤ greatest_count) × IsGreatest min max

-- The most groups that capture: from 2^32 - 1 on they are an early error (Pattern, 22.2.1.1).
abbrev pub most_groups : ℕ
most_groups = 2 ^ 32 - 2

-- The pattern is free of early errors, under the rules.
pub record IsEarly (rules : Rules) (p : Pattern) : Type 0 where
  pub tokens_obey : All (Obeys (groups p) (names p)) (tokens p)
  pub apart : AreNamesEarly rules.duplicate_names (mirror_disjunction p.body).1
  pub in_limit : groups p ≤ most_groups
