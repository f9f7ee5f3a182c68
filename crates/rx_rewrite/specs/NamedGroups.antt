-- The groups of a tree by their names.
use Rattle.std.specs.Prelude.{◌≡◌, ℕ, ◌+◌, if◌then◌else◌, None, Some, Result, Ok, Err, List, [], ◌∷◌, ◌++◌, length, Option, String}
use Rattle.std.specs.BTreeMap.{BTreeMap, get_by_text}
use Rattle.std.specs.List.{flat_map}
use Rattle.std.specs.Option.{option_map, option_map_or}
use Rattle.std.specs.Str.{IsUtf8, bytes_eq, chars}
use Rattle.rx_base.specs.declared.span.Span.{Span}
use Rattle.rx_ast.specs.Kinds.{Kind, capturing_group}
use Rattle.rx_trace.specs.Groups.{Names}
use Rattle.rx_rewrite.specs.declared.fault.RewriteFault.{RewriteFault}
use Rattle.rx_rewrite.specs.declared.fault.RewriteFault.TheVariants as fault
use Rattle.rx_rewrite.specs.declared.numbers.GroupNumbers.{GroupNumbers}
use Rattle.rx_rewrite.specs.declared.numbers.NumberedGroup.{NumberedGroup}
use Rattle.rx_rewrite.specs.Answers.{NamedGroup, named_group, first_named, second_use}
use Rattle.rx_rewrite.specs.Rewriting.{number_of}

-- the number that a map has for a text, or 0
abbrev pub number_at : {A : Type 0} → BTreeMap (String A) NumberedGroup → List ℕ → ℕ
number_at groups bytes = option_map_or (λ it. it.number) (get_by_text groups bytes) 0

abbrev pub span_at : {A : Type 0} → BTreeMap (String A) NumberedGroup → List ℕ → Option Span
span_at groups bytes = option_map (λ it. it.span) (get_by_text groups bytes)

-- the name of a node that is a capturing group, or that it has none; nothing for other nodes
abbrev pub group_name : Kind → Names
group_name (capturing_group s name d) = name ∷ []
group_name _ = []

abbrev pub group_names : List Kind → Names
group_names ks = flat_map group_name ks

-- Groups with these names have opened (`named` are those that have one, with their spans), and for each name the numbers have its first group.
pub record Tells (names : Names) (named : List NamedGroup) (numbers : GroupNumbers) : Type 0 where
  pub count : numbers.count ≡ length names
  pub spans : (bytes : List ℕ) → IsUtf8 bytes → span_at numbers.groups bytes ≡ first_named (chars bytes) named
  pub firsts : (bytes : List ℕ) → IsUtf8 bytes → number_at numbers.groups bytes ≡ number_of (chars bytes) names

-- The next group, which has this name, is numbered.
pub record Inserts (numbers : GroupNumbers) (name : List ℕ) (span : Span) (after : GroupNumbers) : Type 0 where
  pub count : after.count ≡ numbers.count + 1
  pub groups : (bytes : List ℕ) → get_by_text after.groups bytes ≡ (if bytes_eq name bytes then Some (record { number = numbers.count + 1; span = span }) else get_by_text numbers.groups bytes)

-- Groups with these names open next (`next_named` are those that have one, with their spans): the numbers have them too, or the first of them whose name stood before is
-- found.
abbrev pub Numbers : {A : Type 0} → GroupNumbers → Names → List NamedGroup → GroupNumbers → Result A RewriteFault → Type 0
Numbers numbers next next_named after (Ok it) = (names : Names) (named : List NamedGroup) → Tells names named numbers
    → Tells (names ++ next) (named ++ next_named) after × ((rest : List NamedGroup) → second_use named (next_named ++ rest) ≡ second_use (named ++ next_named) rest)
Numbers numbers next next_named after (Err (fault.NameUsedTwice first second)) = (names : Names) (named : List NamedGroup) → Tells names named numbers
    → (rest : List NamedGroup) → second_use named (next_named ++ rest) ≡ Some (first, second)
Numbers numbers next next_named after (Err fault.OutOfMemory) = Unit {0}

-- The numbers are those of the groups among these nodes, or two groups have one name.
abbrev pub IsNumbering : List Kind → Result GroupNumbers RewriteFault → Type 0
IsNumbering ks (Ok numbers) = Tells (group_names ks) (flat_map named_group ks) numbers × (second_use [] (flat_map named_group ks) ≡ None)
IsNumbering ks (Err (fault.NameUsedTwice first second)) = second_use [] (flat_map named_group ks) ≡ Some (first, second)
IsNumbering ks (Err fault.OutOfMemory) = Unit {0}

abbrev pub group_of_name : Option (List ℕ) → Span → List NamedGroup
group_of_name None s = []
group_of_name (Some name) s = (name, s) ∷ []
