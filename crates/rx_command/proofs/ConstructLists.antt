-- Lists of constructs.
use Rattle.std.proofs.Common.{◌≡◌, ◌∙◌, refl, sym, ap, ℕ, Bool, true, not, eqb, nat_lt, cond, Option, Some, None, List, length}
use Rattle.std.specs.List.{list_all}
use Rattle.rx_rewrite.specs.declared.rewrites.Rewrites.{Rewrites}
use Rattle.rx_command.specs.declared.constructs.Construct.{Construct}
use Rattle.rx_command.specs.declared.constructs.Construct.TheVariants.{NamedCaptureGroups, DotAll, Multiline, PatternModifiers}
use Rattle.rx_command.specs.Constructs.{IsConstructList, construct_name, has_construct}
use Rattle.rx_command.proofs.NameLists.{IsNaming, same_items}

-- the lengths tell names from one another
at_length : ℕ → Option Construct
at_length n = cond (eqb n 20) (Some NamedCaptureGroups) (cond (eqb n 7) (Some DotAll) (cond (eqb n 9) (Some Multiline) (cond (eqb n 17) (Some PatternModifiers) None)))

named : (construct : Construct) → at_length (length (construct_name construct)) ≡ Some construct
unfolding at_length
named NamedCaptureGroups = refl
named DotAll = refl
named Multiline = refl
named PatternModifiers = refl

one_name : (one other : Construct) → construct_name one ≡ construct_name other → one ≡ other
one_name one other same =
    let both : Some one ≡ Some other = sym (named one) ∙ ap (λ (name : List ℕ). at_length (length name)) same ∙ named other in cc

no_comma : (construct : Construct) → list_all (λ x. not (eqb x 44)) (construct_name construct) ≡ true
no_comma NamedCaptureGroups = refl
no_comma DotAll = refl
no_comma Multiline = refl
no_comma PatternModifiers = refl

plain : (construct : Construct) → list_all (λ b. nat_lt b 128) (construct_name construct) ≡ true
plain NamedCaptureGroups = refl
plain DotAll = refl
plain Multiline = refl
plain PatternModifiers = refl

pub construct_naming : IsNaming construct_name
construct_naming = record { one_name = one_name; no_comma = no_comma; plain = plain }

-- ---- a list has one meaning

fields : (names dots lines modifiers : Bool) → Rewrites
fields names dots lines modifiers = record { named_capture_groups = names; dot_all = dots; multiline = lines; pattern_modifiers = modifiers }

-- constructs, from their fields
abbrev from_fields : Rewrites → Rewrites
from_fields what = fields (has_construct what NamedCaptureGroups) (has_construct what DotAll) (has_construct what Multiline) (has_construct what PatternModifiers)

fields_are : (what : Rewrites) → from_fields what ≡ what
unfolding fields
fields_are what = refl

same_constructs : (one other : Rewrites) → ((construct : Construct) → has_construct one construct ≡ has_construct other construct) → one ≡ other
same_constructs one other same =
    let names = same NamedCaptureGroups in
    let dots = same DotAll in
    let lines = same Multiline in
    let modifiers = same PatternModifiers in
    let both : from_fields one ≡ from_fields other = cc in
    sym (fields_are one) ∙ both ∙ fields_are other

pub constructs_once : (word : List ℕ) (one other : Rewrites) → IsConstructList word one → IsConstructList word other → one ≡ other
constructs_once word one other is is' = same_constructs one other (same_items construct_name has_construct construct_naming word one other is is')
