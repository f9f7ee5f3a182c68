-- The groups of a name, by their numbers from 0 in order of opening.
use Rattle.std.specs.Prelude.{◌≡◌, ℕ, suc, if◌then◌else◌, List, [], ◌∷◌, get_or, Vec, String}
use Rattle.std.specs.BTreeMap.{BTreeMap, get_by_text}
use Rattle.std.specs.Option.{option_map_or}
use Rattle.std.specs.Str.{IsUtf8, chars}
use Rattle.rx_trace.specs.declared.answer.Slot.{Slot}
use Rattle.rx_trace.specs.declared.answer.Slot.TheVariants.{Unset}
use Rattle.rx_trace.specs.Groups.{Names, is_named, is_set}

-- the numbers of the groups of a name, where the first of these names is that of the group with this number
abbrev pub numbers_named : List ℕ → Names → ℕ → List ℕ
numbers_named name [] i = []
numbers_named name (n ∷ ns) i = if is_named name n then i ∷ numbers_named name ns (suc i) else numbers_named name ns (suc i)

-- the slot of the first of these groups that is set
abbrev pub slot_among : List ℕ → List Slot → Slot
slot_among [] slots = Unset
slot_among (i ∷ is) slots = if is_set (get_or slots i Unset) then get_or slots i Unset else slot_among is slots

-- the numbers that a map has for a text
abbrev pub numbers_at : {A B : Type 0} → BTreeMap (String A) (Vec ℕ B) → List ℕ → List ℕ
numbers_at numbers bytes = option_map_or (λ it. it.items) (get_by_text numbers bytes) []

-- The map has the numbers of each name.
abbrev pub AreNumbered : {A B : Type 0} → Names → BTreeMap (String A) (Vec ℕ B) → Type 0
AreNumbered names numbers = (bytes : List ℕ) → IsUtf8 bytes → numbers_at numbers bytes ≡ numbers_named (chars bytes) names 0
