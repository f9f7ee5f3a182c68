-- What the code holds of the items of a class.
use Rattle.std.specs.Prelude.{◌≡◌, ℕ, Bool, false, nat_eq, nat_le, if◌then◌else◌, List, [], ◌∷◌}
use Rattle.std.specs.BTreeMap.{get}
use Rattle.std.specs.BTreeSet.{contains}
use Rattle.std.specs.List.{flat_map, list_any}
use Rattle.std.specs.Ordering.{nat_cmp}
use Rattle.rx_ast.specs.ClassTree.{Member, range, escape, character}
use Rattle.rx_lint.specs.declared.items.Items.{Items}
use Rattle.rx_kinds.specs.Codes.{class_escape_code}
use Rattle.rx_lint.specs.Coverage.{Range, IsStair}
use Rattle.rx_lint.specs.Rules.{makes_useless}

-- whether one of the items before makes an item useless
abbrev pub is_useless : Member → List Member → Bool
is_useless later before = list_any (λ earlier. makes_useless earlier later) before

-- a character of this value
abbrev pub is_character_of : ℕ → Member → Bool
is_character_of v (character c) = nat_eq c.value v
is_character_of v _ = false

-- a class escape of the kind with this number
abbrev pub is_escape_of : ℕ → Member → Bool
is_escape_of n (escape e) = nat_eq (class_escape_code e.kind) n
is_escape_of n _ = false

-- the range that an item is, where its min is at most its max
abbrev pub range_of : Member → List Range
range_of (range r) = if nat_le r.min.value r.max.value then (r.min.value, r.max.value) ∷ [] else []
range_of _ = []

-- They are some items: the values of the characters, the ranges, and the kinds of the class escapes.
pub record AreItems (items : Items) (ms : List Member) : Type 0 where
  pub characters : (v : ℕ) → contains nat_cmp items.characters v ≡ list_any (is_character_of v) ms
  pub ranges : IsStair (get nat_cmp items.ranges.ends) (flat_map range_of ms)
  pub escapes : (n : ℕ) → contains nat_cmp items.escapes n ≡ list_any (is_escape_of n) ms
