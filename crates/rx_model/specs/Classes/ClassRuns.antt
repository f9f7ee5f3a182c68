-- Which rows of class tokens are front parts of a class that is free of early errors (22.2.1.1): the brackets that are open after them, and what each holds.
use Rattle.std.specs.Prelude.{ℕ, ◌+◌, Bool, true, false, not, is_some, ◌||◌, ◌&&◌, nat_le, Option, Some, None, List, [], ◌∷◌}
use Rattle.rx_base.specs.declared.diagnostic.kinds.SetOperator.{SetOperator}
use Rattle.rx_base.specs.declared.diagnostic.kinds.SetOperator.TheVariants.{Intersection, Subtraction}
use Rattle.rx_model.specs.Classes.ClassTokens.{Atom, character, escape, property, ClassToken, bracket, closer, item, low, dash, high, operator, strings, letter, string_bar, strings_end}
use Rattle.rx_model.specs.Trees.Early.{string_strings}

-- What a bracket holds so far: nothing, one operand, more of a union; operands with an operator between them, and it at the end; two operands or more with it
-- between them.
pub data Held : Type 0 where
  empty : Held
  single : Held
  several : Held
  pending : SetOperator → Held
  joined : SetOperator → Held

-- with one operand more
abbrev pub operand : Held → Option Held
operand empty = Some single
operand single = Some several
operand several = Some several
operand (pending o) = Some (joined o)
operand (joined o) = None

-- with one range more
abbrev pub with_range : Held → Option Held
with_range empty = Some several
with_range single = Some several
with_range several = Some several
with_range (pending o) = None
with_range (joined o) = None

-- with an operator: it may follow one operand, or operands that it joins
abbrev pub with_operator : SetOperator → Held → Option Held
with_operator o empty = None
with_operator o single = Some (pending o)
with_operator o several = None
with_operator o (pending p) = None
with_operator Intersection (joined Intersection) = Some (pending Intersection)
with_operator Subtraction (joined Subtraction) = Some (pending Subtraction)
with_operator o (joined p) = None

-- whether `]` may follow
abbrev pub is_whole : Held → Bool
is_whole empty = true
is_whole single = true
is_whole several = true
is_whole (pending o) = false
is_whole (joined o) = true

-- whether it is a union (ClassUnion), or may become one
abbrev pub is_union : Held → Bool
is_union empty = true
is_union single = true
is_union several = true
is_union (pending o) = false
is_union (joined o) = false

-- the operator of an intersection or a subtraction
abbrev pub operator_of : Held → Option SetOperator
operator_of empty = None
operator_of single = None
operator_of several = None
operator_of (pending o) = Some o
operator_of (joined o) = Some o

-- whether an operand may stand next
abbrev pub takes_operand : Held → Bool
takes_operand held = is_some (operand held)

-- whether the token is one that may stand next, as far as what is held tells
abbrev pub may_follow : Held → ClassToken → Bool
may_follow held (bracket negative) = takes_operand held
may_follow held closer = is_whole held
may_follow held (item a) = takes_operand held
may_follow held (low k v) = is_some (with_range held)
may_follow held dash = true
may_follow held (high k v) = is_some (with_range held)
may_follow held (operator o) = is_some (with_operator o held)
may_follow held strings = takes_operand held
may_follow held (letter k v) = true
may_follow held string_bar = true
may_follow held strings_end = takes_operand held

-- MayContainStrings (may_contain_strings of Trees.Early) with one operand more, by that of what is held and that of the operand
abbrev pub with_strings : Held → Bool → Bool → Bool
with_strings empty old new = new
with_strings single old new = old || new
with_strings several old new = old || new
with_strings (pending Intersection) old new = old && new
with_strings (pending Subtraction) old new = old
with_strings (joined o) old new = old

-- An open bracket: whether it is negative, what it holds, whether that may contain strings; and of a range that has begun its low end, of class strings that
-- have begun how many characters the last has, and whether one before it has MayContainStrings.
pub record Bracket : Type 0 where
  pub negative : Bool
  pub held : Held
  pub may : Bool
  pub low_end : ℕ
  pub count : ℕ
  pub any : Bool

abbrev pub bracket_of : Bool → Held → Bool → Bracket
bracket_of negative held may = record { negative = negative; held = held; may = may; low_end = 0; count = 0; any = false }

-- the innermost first
abbrev pub Brackets : Type 0
Brackets = List Bracket

-- the bracket with one thing more, if it may
abbrev pub add_thing : Bracket → Brackets → Bool → Option Held → Option Brackets
add_thing r outer may None = None
add_thing r outer may (Some held) = Some (bracket_of r.negative held (with_strings r.held r.may may) ∷ outer)

abbrev pub add_operator : Bracket → Brackets → Option Held → Option Brackets
add_operator r outer None = None
add_operator r outer (Some held) = Some (bracket_of r.negative held r.may ∷ outer)

-- these, where one thing more may stand
abbrev pub where_may : Option Held → Brackets → Option Brackets
where_may None brackets = None
where_may (Some held) brackets = Some brackets

-- after a closer: a closed bracket is an operand of the one around it
abbrev pub after_closer : Bool → Bool → Brackets → Option Brackets
after_closer may false outer = None
after_closer may true [] = Some []
after_closer may true (r ∷ outer) = add_thing r outer may (operand r.held)

-- A bracket that is whole may close, but a negative one with strings (22.2.1.1).
abbrev pub may_close : Bracket → Bool
may_close r = is_whole r.held && not (r.negative && r.may)

-- whether some class string has MayContainStrings, the last with them
abbrev pub any_string : Bracket → Bool
any_string r = r.any || string_strings r.count

abbrev pub where_true : Bool → Option Brackets → Option Brackets
where_true true brackets = brackets
where_true false brackets = None

-- whether an atom may contain strings
abbrev pub atom_may : Atom → Bool
atom_may (character k v) = false
atom_may (escape k) = false
atom_may (property negative may name value) = may

-- whether an atom obeys by itself: a negative property is none of strings
abbrev pub atom_obeys : Atom → Bool
atom_obeys (character k v) = nat_le v 0x10FFFF
atom_obeys (escape k) = true
atom_obeys (property negative may name value) = not (negative && may)

-- one token more in the innermost bracket
abbrev pub in_bracket : ClassToken → Bracket → Brackets → Option Brackets
in_bracket (bracket negative) r outer = where_may (operand r.held) (bracket_of negative empty false ∷ r ∷ outer)
in_bracket closer r outer = after_closer r.may (may_close r) outer
in_bracket (item a) r outer = where_true (atom_obeys a) (add_thing r outer (atom_may a) (operand r.held))
in_bracket (low k v) r outer = where_may (with_range r.held) (record r { low_end = v } ∷ outer)
in_bracket dash r outer = Some (r ∷ outer)
in_bracket (high k v) r outer = where_true (nat_le r.low_end v && nat_le v 0x10FFFF) (add_thing r outer false (with_range r.held))
in_bracket (operator o) r outer = add_operator r outer (with_operator o r.held)
in_bracket strings r outer = where_may (operand r.held) (record r { count = 0; any = false } ∷ outer)
in_bracket (letter k v) r outer = where_true (nat_le v 0x10FFFF) (Some (record r { count = r.count + 1 } ∷ outer))
in_bracket string_bar r outer = Some (record r { count = 0; any = any_string r } ∷ outer)
in_bracket strings_end r outer = add_thing r outer (any_string r) (operand r.held)

-- one token more; with no open bracket the class has ended
abbrev pub class_step : ClassToken → Brackets → Option Brackets
class_step t [] = None
class_step t (r ∷ outer) = in_bracket t r outer

abbrev pub after_step : Option Brackets → (Brackets → Option Brackets) → Option Brackets
after_step None more = None
after_step (Some brackets) more = more brackets

-- the brackets that are open after some tokens, from those that were open; or none, where one may not stand where it does
abbrev pub class_run : List ClassToken → Brackets → Option Brackets
class_run [] brackets = Some brackets
class_run (t ∷ ts) brackets = after_step (class_step t brackets) (λ after. class_run ts after)

-- the same from before the class's own bracket
abbrev pub class_run_from_start : List ClassToken → Option Brackets
class_run_from_start [] = None
class_run_from_start ((bracket negative) ∷ ts) = class_run ts (bracket_of negative empty false ∷ [])
class_run_from_start (t ∷ ts) = None
