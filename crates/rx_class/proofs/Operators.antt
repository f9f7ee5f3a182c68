-- The operators of a class with `v`: what is held before and after one, where it leads, and what may be spelled there.
use Rattle.std.proofs.Common.{◌≡◌, refl, ◌<◌, false, true, None, Some, List, length, arith, ap, ℕ, not, ◌⊎◌}
use Rattle.rx_class.proofs.Common.{SetOperator, Intersection, Subtraction, CodePoint, values, Mode, is_union, is_whole, operand, operator_of, with_range, joined, pending, with_operator, Atom}
use Rattle.rx_class.proofs.Common.{ClassToken, item, operator, operator_text, starts, Environment, is_sets, begins_item, last_operator, place_of}
use Rattle.rx_model.specs.Classes.ClassRows.{Place, SpellsInClass, SpellsOperand, fresh, may_follow_operator, next_place, after_operator}
use Rattle.rx_model.specs.Classes.ClassRuns.{Held, several, single}
use Rattle.rx_model.specs.Classes.ClassTokens.{is_character}

-- An item may begin at the place that a bracket is at.
pub begins_place : (held : Held) → begins_item (place_of held) ≡ true
begins_place held = grind arith

pub whole_end : (held : Held) → is_whole held ≡ true → last_operator held ≡ None
whole_end held whole = grind arith

pub whole_fresh : (held : Held) → is_whole held ≡ true → place_of held ≡ fresh
whole_fresh held whole = grind arith

-- A union is whole, and takes an operand or a range more.
pub union_whole : (held : Held) → is_union held ≡ true → is_whole held ≡ true
union_whole held union = grind arith

pub union_range : (held : Held) → is_union held ≡ true → with_range held ≡ Some several
union_range held union = grind arith

-- after an operand
pub operand_fresh : (held after : Held) → operand held ≡ Some after → place_of after ≡ fresh
operand_fresh held after h = grind arith

-- before and after a range
pub ranged_fresh : (held after : Held) → with_range held ≡ Some after → (place_of held ≡ fresh) × (place_of after ≡ fresh)
ranged_fresh held after h = grind arith

-- An operand after which no union is stands where no range may.
pub no_range_no_union : (held after : Held) → operand held ≡ Some after → with_range held ≡ None → is_union after ≡ false
no_range_no_union held after h none = grind arith

-- Where no range may stand an operand stands after an operator.
pub no_range_after : (held after : Held) → operand held ≡ Some after → with_range held ≡ None → place_of held ≡ fresh → ⊥
no_range_after held after h none at = grind arith

-- What does not take an operator is a union.
pub no_operator_union : (held : Held) → operator_of held ≡ None → is_union held ≡ true
no_operator_union held none = grind arith

-- before and after an operator
pub operator_places : (o : SetOperator) (held after : Held) → with_operator o held ≡ Some after → (place_of held ≡ fresh) × (place_of after ≡ after_operator o)
operator_places o held after h = grind arith

pub operator_before : (o : SetOperator) (held after : Held) → with_operator o held ≡ Some after → ((held ≡ single) ⊎ (held ≡ joined o)) × (after ≡ pending o)
operator_before o held after h = grind arith

-- Where an operand after `&&` may stand, a `&&` is held at the end.
pub pending_there : (held : Held) → place_of held ≡ after_operator Intersection → held ≡ pending Intersection
pending_there held at = grind arith

-- An item begins where one may stand in a union, or after an operator.
pub begins_cases : (P : Place → Type 0) → P fresh → ((o : SetOperator) → P (after_operator o)) → (q : Place) → begins_item q ≡ true → P q
begins_cases P at_fresh after fresh b = at_fresh
begins_cases P at_fresh after (after_operator o) b = after o
begins_cases P at_fresh after q b = absurd (let no : ⊥ = cc b in no)

-- Where no `&` stands right after `&&` what stands there may follow the operator.
pub may_follow_here : (o : SetOperator) (q : Place) (w : List ℕ) → (q ≡ after_operator Intersection → starts 38 w ≡ false) → q ≡ after_operator o → may_follow_operator o w ≡ true
may_follow_here Intersection q w none at = ap not (none at)
may_follow_here Subtraction q w none at = refl

-- An operand stands after an operator, but for a `&` after `&&`.
pub operand_after : (o : SetOperator) (e : Environment) (t : ClassToken) (w more : List CodePoint) → is_sets e.mode ≡ true → SpellsOperand e t w more → (o ≡ Intersection → starts 38 (values w) ≡ false) → SpellsInClass e (after_operator o) t w more
operand_after Intersection e t w more sets s no_third = (sets, s, ap not (no_third refl))
operand_after Subtraction e t w more sets s no_third = (sets, s, refl)

pub operator_spelled : (o : SetOperator) (e : Environment) (w more : List CodePoint) → is_sets e.mode ≡ true → values w ≡ operator_text o → SpellsInClass e fresh (operator o) w more
operator_spelled o e w more sets text = (sets, text)

pub operator_leads : (o : SetOperator) (mode : Mode) (q : Place) (more : List CodePoint) → next_place mode q (operator o) more ≡ after_operator o
operator_leads o mode q more = refl

pub some_operator : (o : SetOperator) → 0 < length (operator_text o)
some_operator Intersection = omega arith
some_operator Subtraction = omega arith

pub operator_no_item : (o : SetOperator) (a : Atom) → operator o ≡ item a → is_character a ≡ true → ⊥
operator_no_item o a same is = cc same
