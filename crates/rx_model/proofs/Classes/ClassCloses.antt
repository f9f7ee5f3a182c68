-- Tokens that are spelled, and accepted as a whole class, are those of a class that is free of early errors.
use Rattle.std.proofs.Common.{◌≡◌, refl, sym, ap, ◌∙◌, subst, ◌+◌, Bool, true, false, cond, not, ◌&&◌, Option, Some, None, List, [], ◌∷◌, ◌++◌}
use Rattle.std.proofs.lemmas.Bool.{and_parts}
use Rattle.rx_base.specs.declared.diagnostic.kinds.SetOperator.{SetOperator}
use Rattle.rx_ast.specs.ClassTree.{Class, Member, no_member}
use Rattle.rx_units.specs.declared.code_point.CodePoint.{CodePoint}
use Rattle.rx_units.proofs.Choices.{Some-inj}
use Rattle.rx_model.specs.Classes.ClassFromTokens.{Level, level_of, Begun, nothing_begun, after_low, after_dash, inside_strings, Building, before_class, inside_class, whole_class, no_class, add_member, close_class, building_with_operator, build_in, build_class, finished_class}
use Rattle.rx_model.specs.Classes.ClassRows.{Place, outside, fresh, at_dash, at_high, at_second, at_third, after_operator, in_strings, following_item, next_place, SpellsInClass, SpellsOperand, ClassTokenRow, IsClass}
use Rattle.rx_model.specs.Classes.ClassRuns.{Held, empty, Bracket, Brackets, atom_may, atom_obeys, any_string, after_step, bracket_of, class_run_from_start, class_run, after_closer, add_operator, add_thing, in_bracket, is_whole, with_operator, may_close, operand, with_range}
use Rattle.rx_model.specs.Classes.ClassTokens.{ClassToken, bracket, closer, item, low, dash, high, operator, strings, letter, string_bar, strings_end, class_tokens}
use Rattle.rx_model.specs.Inputs.Environment.{Environment}
use Rattle.rx_model.specs.Trees.Early.{IsEarlyClass}
use Rattle.rx_model.proofs.Classes.TokensOfBuilt.{built_has_tokens}
use Rattle.rx_model.proofs.Classes.ClassEnds.{row_units}
use Rattle.rx_model.proofs.Classes.ClassFlags.{row_flagged}
use Rattle.rx_model.proofs.Classes.ClassShapes.{closes_early}
use Rattle.rx_model.proofs.Classes.ClassStates.{where_true_both, where_may_is}

-- what may have begun at a place
abbrev BegunAt : Place → Begun → Type 0
BegunAt outside b = ⊥
BegunAt at_dash (after_low k v) = Unit {0}
BegunAt at_dash b = ⊥
BegunAt at_high (after_dash k v) = Unit {0}
BegunAt at_high b = ⊥
BegunAt in_strings (inside_strings ss cs) = Unit {0}
BegunAt in_strings b = ⊥
BegunAt q nothing_begun = Unit {0}
BegunAt q b = ⊥

-- what a token goes on with
abbrev Wants : ClassToken → Begun → Type 0
Wants dash (after_low k v) = Unit {0}
Wants dash b = ⊥
Wants (high k v) (after_dash j x) = Unit {0}
Wants (high k v) b = ⊥
Wants (letter k v) (inside_strings ss cs) = Unit {0}
Wants (letter k v) b = ⊥
Wants string_bar (inside_strings ss cs) = Unit {0}
Wants string_bar b = ⊥
Wants strings_end (inside_strings ss cs) = Unit {0}
Wants strings_end b = ⊥
Wants t nothing_begun = Unit {0}
Wants t b = ⊥

item_begins : (q : Place) (first : Bool) → BegunAt (following_item q first) nothing_begun
item_begins outside first = tt
item_begins fresh true = tt
item_begins fresh false = tt
item_begins q first = tt

-- What is open as brackets is open as levels, and holds the same.
abbrev AreSame : Brackets → List Level → Type 0
AreSame [] [] = Unit {0}
AreSame [] (l ∷ levels) = ⊥
AreSame (r ∷ outer) [] = ⊥
AreSame (r ∷ outer) (l ∷ levels) = (r.held ≡ l.held) × AreSame outer levels

abbrev Agrees : Brackets → Place → Building → Type 0
Agrees [] q (whole_class c) = Unit {0}
Agrees [] q s = ⊥
Agrees (r ∷ outer) q (inside_class l levels b) = (r.held ≡ l.held) × AreSame outer levels × BegunAt q b
Agrees (r ∷ outer) q s = ⊥

now : (brackets after : Brackets) (q : Place) (s : Building) → brackets ≡ after → Agrees brackets q s → Agrees after q s
now brackets after q s e a = subst (λ after. Agrees after q s) e a

-- With a member more.
member_agrees : (r : Bracket) (outer : Brackets) (may : Bool) (o : Option Held) (after : Brackets) (q : Place) (l : Level) (levels : List Level) (m : Member) (p : Option Held) → add_thing r outer may o ≡ Some after → o ≡ p → AreSame outer levels →
    BegunAt q nothing_begun → Agrees after q (add_member l levels m p)
member_agrees r outer may None after q l levels m p h e s b = absurd (let no : ⊥ = cc h in no)
member_agrees r outer may (Some held) after q l levels m None h e s b = absurd (let no : ⊥ = cc e in no)
member_agrees r outer may (Some held) after q l levels m (Some more) h e s b =
    subst (λ after. Agrees after q (add_member l levels m (Some more))) (Some-inj h) ((let same : held ≡ more = cc e in same), s, b)

operator_agrees : (r : Bracket) (outer : Brackets) (o : Option Held) (after : Brackets) (q : Place) (l : Level) (levels : List Level) (p : Option Held) → add_operator r outer o ≡ Some after → o ≡ p → AreSame outer levels →
    BegunAt q nothing_begun → Agrees after q (building_with_operator l levels p)
operator_agrees r outer None after q l levels p h e s b = absurd (let no : ⊥ = cc h in no)
operator_agrees r outer (Some held) after q l levels None h e s b = absurd (let no : ⊥ = cc e in no)
operator_agrees r outer (Some held) after q l levels (Some more) h e s b =
    subst (λ after. Agrees after q (building_with_operator l levels (Some more))) (Some-inj h) ((let same : held ≡ more = cc e in same), s, b)

-- Where a bracket closes the level does.
closer_agrees : (r : Bracket) (outer : Brackets) (after : Brackets) (l : Level) (levels : List Level) (b : Bool) → b ≡ may_close r → after_closer r.may b outer ≡ Some after → r.held ≡ l.held → AreSame outer levels →
    Agrees after fresh (cond (is_whole l.held) (close_class l levels) no_class)
closer_agrees r outer after l levels false e h k s = absurd (let no : ⊥ = cc h in no)
closer_agrees r outer after l levels true e h k s =
    subst (λ b. Agrees after fresh (cond b (close_class l levels) no_class)) (sym (and_parts (is_whole r.held) (not (r.negative && r.may)) (sym e)).0 ∙ ap is_whole k) (by outer levels h s)
  where
    by : (outer : Brackets) (levels : List Level) → after_closer r.may true outer ≡ Some after → AreSame outer levels → Agrees after fresh (close_class l levels)
    by [] [] h s = subst (λ after. Agrees after fresh (close_class l [])) (Some-inj h) tt
    by [] (around ∷ levels) h s = absurd s
    by (around ∷ outer) [] h s = absurd s
    by (r' ∷ outer) (l' ∷ levels) h s = member_agrees r' outer r.may (operand r'.held) after fresh l' levels _ (operand l'.held) h (ap operand s.0) s.1 tt

module _ (e : Environment) where
  operand_wants : (o : SetOperator) (t : ClassToken) (w more : List CodePoint) (b : Begun) → SpellsOperand e t w more → BegunAt (after_operator o) b → Wants t b
  operand_wants o (item x) w more nothing_begun s a = tt
  operand_wants o (bracket negative) w more nothing_begun s a = tt
  operand_wants o strings w more nothing_begun s a = tt
  operand_wants o t w more nothing_begun s a = absurd s
  operand_wants o t w more b s a = absurd a

  -- A token that is spelled at a place goes on with what may have begun there.
  wants : (q : Place) (t : ClassToken) (w more : List CodePoint) (b : Begun) → SpellsInClass e q t w more → BegunAt q b → Wants t b
  wants outside t w more b s a = absurd a
  wants fresh closer w more nothing_begun s a = tt
  wants fresh (item x) w more nothing_begun s a = tt
  wants fresh (low k v) w more nothing_begun s a = tt
  wants fresh (bracket negative) w more nothing_begun s a = tt
  wants fresh strings w more nothing_begun s a = tt
  wants fresh (operator o) w more nothing_begun s a = tt
  wants fresh t w more nothing_begun s a = absurd s
  wants fresh t w more b s a = absurd a
  wants at_dash dash w more (after_low k v) s a = tt
  wants at_dash dash w more b s a = absurd a
  wants at_dash t w more b s a = absurd s
  wants at_high (high j x) w more (after_dash k v) s a = tt
  wants at_high (high j x) w more b s a = absurd a
  wants at_high t w more b s a = absurd s
  wants at_second (item x) w more nothing_begun s a = tt
  wants at_second (item x) w more b s a = absurd a
  wants at_second t w more b s a = absurd s
  wants at_third (item x) w more nothing_begun s a = tt
  wants at_third (item x) w more b s a = absurd a
  wants at_third t w more b s a = absurd s
  wants (after_operator o) t w more b s a = operand_wants o t w more b s.1 a
  wants in_strings (letter k v) w more (inside_strings ss cs) s a = tt
  wants in_strings string_bar w more (inside_strings ss cs) s a = tt
  wants in_strings strings_end w more (inside_strings ss cs) s a = tt
  wants in_strings t w more (inside_strings ss cs) s a = absurd s.1
  wants in_strings t w more b s a = absurd a

  step_agrees : (q : Place) (t : ClassToken) (w more : List CodePoint) (r : Bracket) (outer after : Brackets) (l : Level) (levels : List Level) (b : Begun) → in_bracket t r outer ≡ Some after → r.held ≡ l.held → AreSame outer levels → Wants t b →
      Agrees after (next_place e.mode q t more) (build_in t b l levels)
  step_agrees q (bracket negative) w more r outer after l levels nothing_begun h k s b = now (bracket_of negative empty false ∷ r ∷ outer) after fresh (inside_class (level_of negative empty no_member) (l ∷ levels) nothing_begun) (where_may_is (operand r.held) _ after h) (refl, (k, s), tt)
  step_agrees q closer w more r outer after l levels nothing_begun h k s b = closer_agrees r outer after l levels (may_close r) refl h k s
  step_agrees q (item a) w more r outer after l levels nothing_begun h k s b =
      member_agrees r outer (atom_may a) (operand r.held) after (next_place e.mode q (item a) more) l levels _ (operand l.held) (where_true_both (atom_obeys a) _ after h).1 (ap operand k) s (item_begins q _)
  step_agrees q (low k v) w more r outer after l levels nothing_begun h same s b = now (record r { low_end = v } ∷ outer) after at_dash (inside_class l levels (after_low k v)) (where_may_is (with_range r.held) _ after h) (same, s, tt)
  step_agrees q dash w more r outer after l levels (after_low k v) h same s b = now (r ∷ outer) after at_high (inside_class l levels (after_dash k v)) (Some-inj h) (same, s, tt)
  step_agrees q (high j x) w more r outer after l levels (after_dash k v) h same s b =
      member_agrees r outer false (with_range r.held) after fresh l levels _ (with_range l.held) (where_true_both _ _ after h).1 (ap with_range same) s tt
  step_agrees q (operator o) w more r outer after l levels nothing_begun h k s b = operator_agrees r outer (with_operator o r.held) after (after_operator o) l levels (with_operator o l.held) h (ap (with_operator o) k) s tt
  step_agrees q strings w more r outer after l levels nothing_begun h k s b = now (record r { count = 0; any = false } ∷ outer) after in_strings (inside_class l levels (inside_strings [] [])) (where_may_is (operand r.held) _ after h) (k, s, tt)
  step_agrees q (letter k v) w more r outer after l levels (inside_strings ss cs) h same s b = now (record r { count = r.count + 1 } ∷ outer) after in_strings (build_in (letter k v) (inside_strings ss cs) l levels) (Some-inj (where_true_both _ _ after h).1) (same, s, tt)
  step_agrees q string_bar w more r outer after l levels (inside_strings ss cs) h same s b = now (record r { count = 0; any = any_string r } ∷ outer) after in_strings (build_in string_bar (inside_strings ss cs) l levels) (Some-inj h) (same, s, tt)
  step_agrees q strings_end w more r outer after l levels (inside_strings ss cs) h same s b =
      member_agrees r outer (any_string r) (operand r.held) after fresh l levels _ (operand l.held) h (ap operand same) s tt
  step_agrees q t w more r outer after l levels begun h k s b = absurd b

  ended : (q : Place) (s : Building) → Agrees [] q s → (c : Class) × (s ≡ whole_class c)
  ended q (whole_class c) a = (c, refl)
  ended q t a = absurd a

  -- Tokens that lead from open brackets to the end of the class build one.
  builds_class : (ts : List ClassToken) (brackets : Brackets) (q : Place) (s : Building) (us rest : List CodePoint) → ClassTokenRow e ts q us fresh rest → class_run ts brackets ≡ Some [] → Agrees brackets q s →
      (c : Class) × (build_class ts s ≡ whole_class c)
  builds_class [] brackets q s us rest row h a = ended q s (now brackets [] q s (let same : brackets ≡ [] = cc h in same) a)
  builds_class (t ∷ ts) [] q s us rest row h a = absurd (let no : ⊥ = cc h in no)
  builds_class (t ∷ ts) (r ∷ outer) q before_class us rest row h a = absurd a
  builds_class (t ∷ ts) (r ∷ outer) q (whole_class c) us rest row h a = absurd a
  builds_class (t ∷ ts) (r ∷ outer) q no_class us rest row h a = absurd a
  builds_class (t ∷ ts) (r ∷ outer) q (inside_class l levels b) us rest row h a =
      go (in_bracket t r outer) refl h (λ after run agrees. builds_class ts after (next_place e.mode q t row.1) (build_in t b l levels) row.1 rest row.4 run agrees)
    where
      go : (o : Option Brackets) → in_bracket t r outer ≡ o → after_step o (λ after. class_run ts after) ≡ Some [] →
          ((after : Brackets) → class_run ts after ≡ Some [] → Agrees after (next_place e.mode q t row.1) (build_in t b l levels) → (c : Class) × (build_class ts (build_in t b l levels) ≡ whole_class c)) →
          (c : Class) × (build_class ts (build_in t b l levels) ≡ whole_class c)
      go None f k again = absurd (let no : ⊥ = cc k in no)
      go (Some after) f k again = again after k (step_agrees q t row.0 row.1 r outer after l levels b f a.0 a.1 (wants q t row.0 row.1 b row.3 a.2))

  -- a class free of early errors that stands at the front, of which these are the tokens
  pub record ClosedClass (ts : List ClassToken) (us rest : List CodePoint) : Type 0 where
    pub it : Class
    pub w : List CodePoint
    pub whole : us ≡ w ++ rest
    pub spelled : IsClass e it w rest
    pub early : IsEarlyClass it
    pub tokens : class_tokens it ≡ ts

  -- Tokens that lead from before a bracket to where all brackets have closed are those of a class.
  pub closed_class : (ts : List ClassToken) (us rest : List CodePoint) → ClassTokenRow e ts outside us fresh rest → class_run_from_start ts ≡ Some [] → ClosedClass ts us rest
  closed_class [] us rest row h = absurd (let no : ⊥ = cc h in no)
  closed_class ((bracket negative) ∷ ts) us rest row h =
      let b = builds_class ts (bracket_of negative empty false ∷ []) fresh (inside_class (level_of negative empty no_member) [] nothing_begun) row.1 rest row.4 h (refl, tt, tt) in
      let t = built_has_tokens (bracket negative ∷ ts) b.0 (row_flagged e (bracket negative ∷ ts) outside us fresh rest row) (ap finished_class b.1) in
      let f = row_units e (bracket negative ∷ ts) outside us fresh rest row in
      record {
        it = b.0;
        w = f.0;
        whole = f.1;
        spelled = record {
          no_spans = t.plain;
          shape = (t.fitting, t.flagged);
          row = subst (λ ts. ClassTokenRow e ts outside (f.0 ++ rest) fresh rest) (sym t.tokens) (subst (λ us. ClassTokenRow e (bracket negative ∷ ts) outside us fresh rest) f.1 row);
        };
        early = closes_early b.0 t.fitting t.flagged (ap class_run_from_start t.tokens ∙ h);
        tokens = t.tokens;
      }
  closed_class (t ∷ ts) us rest row h = absurd (let no : ⊥ = cc h in no)
