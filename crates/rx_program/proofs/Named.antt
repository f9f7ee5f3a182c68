-- The slot of a name, by the numbers of its groups.
use mathlib.Core.Path.{fun_ext}
use Rattle.std.proofs.Common.{◌≡◌, refl, ap, sym, ◌∙◌, ℕ, zero, suc, ◌+◌, Bool, true, false, if◌then◌else◌, Option, Some, List, [], ◌∷◌, ◌++◌, drop, get_or, String, Vec}
use Rattle.std.specs.BTreeMap.{BTreeMap}
use Rattle.std.specs.Str.{IsUtf8, bytes_eq, chars, encode_utf8_all}
use Rattle.std.proofs.lemmas.Slice.Eq.{bytes_eq-Decides}
use Rattle.std.proofs.lemmas.Str.{encodes-chars}
use Rattle.rx_trace.specs.declared.answer.Slot.{Slot}
use Rattle.rx_trace.specs.declared.answer.Slot.TheVariants.{Unset}
use Rattle.rx_trace.specs.Groups.{Names, is_named, is_set, slot_named}
use Rattle.rx_program.specs.Named.{numbers_at, numbers_named, slot_among}
use Rattle.rx_trace.proofs.EqualUnits.{same_is}

no_slots : (name : List ℕ) (names : Names) → slot_named name names [] ≡ Unset
no_slots name [] = refl
no_slots name (n ∷ ns) = refl

-- past the last slot none is left
none_left : (slots : List Slot) (i : ℕ) → drop i slots ≡ [] → (get_or slots i Unset ≡ Unset) × (drop (suc i) slots ≡ [])
none_left [] zero e = (refl, refl)
none_left [] (suc i) e = (refl, refl)
none_left (s ∷ ss) zero e = absurd (cc)
none_left (s ∷ ss) (suc i) e = none_left ss i e

some_left : (slots : List Slot) (i : ℕ) (s : Slot) (more : List Slot) → drop i slots ≡ s ∷ more → (get_or slots i Unset ≡ s) × (drop (suc i) slots ≡ more)
some_left [] zero s more e = absurd (cc)
some_left [] (suc i) s more e = absurd (cc)
some_left (x ∷ xs) zero s more e = (cc, cc)
some_left (x ∷ xs) (suc i) s more e = some_left xs i s more e

module _ (name : List ℕ) (n : Option (List ℕ)) (ns : Names) (i : ℕ) (slots : List Slot) (rest : slot_among (numbers_named name ns (suc i)) slots ≡ slot_named name ns (drop (suc i) slots)) where
  from_none : drop i slots ≡ [] → (b : Bool) → slot_among (if b then i ∷ numbers_named name ns (suc i) else numbers_named name ns (suc i)) slots ≡ Unset
  from_none e false = rest ∙ ap (slot_named name ns) (none_left slots i e).1 ∙ no_slots name ns
  from_none e true =
      ap (λ s. if is_set s then s else slot_among (numbers_named name ns (suc i)) slots) (none_left slots i e).0
      ∙ rest ∙ ap (slot_named name ns) (none_left slots i e).1 ∙ no_slots name ns

  from_some : (s : Slot) (more : List Slot) → drop i slots ≡ s ∷ more → (b : Bool)
      → slot_among (if b then i ∷ numbers_named name ns (suc i) else numbers_named name ns (suc i)) slots ≡ (if b then (if is_set s then s else slot_named name ns more) else slot_named name ns more)
  from_some s more e false = rest ∙ ap (slot_named name ns) (some_left slots i s more e).1
  from_some s more e true =
      ap (λ x. if is_set x then x else slot_among (numbers_named name ns (suc i)) slots) (some_left slots i s more e).0
      ∙ ap (λ x. if is_set s then s else x) (rest ∙ ap (slot_named name ns) (some_left slots i s more e).1)

  from_here : (left : List Slot) → drop i slots ≡ left → slot_among (numbers_named name (n ∷ ns) i) slots ≡ slot_named name (n ∷ ns) left
  from_here [] e = from_none e (is_named name n)
  from_here (s ∷ more) e = from_some s more e (is_named name n)

-- the first group of a name, from a number on, whose slot is set
among_named : (name : List ℕ) (names : Names) (i : ℕ) (slots : List Slot) → slot_among (numbers_named name names i) slots ≡ slot_named name names (drop i slots)
among_named name [] i slots = refl
among_named name (n ∷ ns) i slots = from_here name n ns i slots (among_named name ns (suc i) slots) (drop i slots) refl

pub named_numbers : (name : List ℕ) (names : Names) (numbers : List ℕ) → numbers ≡ numbers_named name names 0 → slot_named name names ≡ slot_among numbers
named_numbers name names numbers is = fun_ext (λ slots. sym (among_named name names 0 slots)) ∙ ap slot_among (sym is)

-- the bytes of a text are those of a name where its characters are
pub same_name : (key bytes name : List ℕ) → IsUtf8 key → IsUtf8 bytes → chars key ≡ name → bytes_eq key bytes ≡ is_named (chars bytes) (Some name)
same_name key bytes name key_text text is =
    let d = bytes_eq-Decides key bytes in
    same_is (bytes_eq key bytes) (chars bytes) name (λ same. ap chars (sym (d.0 same)) ∙ is)
    (λ same. d.1 (sym (encodes-chars key key_text) ∙ ap encode_utf8_all (is ∙ sym same) ∙ encodes-chars bytes text))

-- So far the map has the numbers of the first names, and those of the others are still to come.
abbrev pub AreNumberedTo : {A B : Type 0} → ℕ → Names → BTreeMap (String A) (Vec ℕ B) → Type 0
AreNumberedTo i names numbers = (bytes : List ℕ) → IsUtf8 bytes → numbers_at numbers bytes ++ numbers_named (chars bytes) (drop i names) i ≡ numbers_named (chars bytes) names 0
