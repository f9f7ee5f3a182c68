-- Where the innermost bracket began that is open at a place of a class; and that each bracket around it takes an operand more.
use Rattle.std.proofs.Common.{◌≡◌, refl, ap, sym, ◌∙◌, subst, ℕ, ◌+◌, ◌-◌, ◌&&◌, Bool, true, false, is_some, Option, Some, None, List, [], ◌∷◌, ◌++◌, length, nat_le, arith, append_assoc}
use Rattle.std.proofs.lemmas.Bool.{true≢false}
use Rattle.rx_units.specs.declared.code_point.CodePoint.{CodePoint}
use Rattle.rx_units.proofs.Choices.{Some-inj}
use Rattle.rx_model.specs.Refusals.ClassPlaces.{IsInBracket, IsItemPlace, begins_item, nested, of_class}
use Rattle.rx_model.specs.Classes.ClassRows.{ClassTokenRow, Place, SpellsBracket, SpellsInClass, next_place, after_operator, fresh, in_strings, outside}
use Rattle.rx_model.specs.Classes.ClassRuns.{Bracket, Brackets, Held, empty, any_string, atom_may, atom_obeys, after_step, bracket_of, class_run_from_start, class_run, class_step, after_closer, add_operator, add_thing, with_operator, may_close, operand, with_range, takes_operand, where_may, where_true, with_strings}
use Rattle.rx_model.specs.Classes.ClassTokens.{ClassToken, bracket, closer, item, low, dash, high, operator, strings, letter, string_bar, strings_end}
use Rattle.rx_model.specs.Inputs.Environment.{Environment, is_sets}
use Rattle.rx_model.proofs.Classes.ClassEnds.{class_row_split}
use Rattle.rx_model.proofs.Classes.ClassStates.{after_inside, row_shorter, run_in, steps, where_true_both}
use Rattle.rx_model.proofs.Classes.ClassWholes.{class_opened-append, class_run-append}

-- The innermost bracket that is open after some tokens is the class's own, or began where the bracket around it takes an operand.
data Opened : List ClassToken → Brackets → Type 0 where
  own : (inside : List ClassToken) (c : Bracket) → class_run_from_start inside ≡ Some (c ∷ []) → Opened inside (c ∷ [])
  within : (before inside : List ClassToken) (c d : Bracket) (ds : Brackets) → Opened before (d ∷ ds) → class_run_from_start before ≡ Some (d ∷ ds) → takes_operand d.held ≡ true → class_run_from_start inside ≡ Some (c ∷ [])
      → Opened (before ++ inside) (c ∷ d ∷ ds)

further : (ts ss : List ClassToken) (c m : Bracket) (cs : Brackets) → Opened ts (c ∷ cs) → class_run ss (c ∷ []) ≡ Some (m ∷ []) → Opened (ts ++ ss) (m ∷ cs)
further _ ss _ m _ (own inside c h) run = own (inside ++ ss) m (class_opened-append inside ss (c ∷ []) h ∙ run)
further _ ss _ m _ (within before inside c d ds o there takes h) run =
    subst (λ ts. Opened ts (m ∷ d ∷ ds)) (sym (append_assoc before inside ss)) (within before (inside ++ ss) m d ds o there takes (class_opened-append inside ss (c ∷ []) h ∙ run))

-- A nested class is an operand.
pub nested_run : (ts : List ClassToken) (d c : Bracket) (ds : Brackets) → takes_operand d.held ≡ true → class_run_from_start ts ≡ Some (c ∷ []) → class_run ts (d ∷ ds) ≡ Some (c ∷ d ∷ ds)
nested_run [] d c ds takes h = absurd (let no : ⊥ = cc h in no)
nested_run ((bracket negative) ∷ ts) d c ds takes h =
    let first = bracket_of negative empty false in
    ap (λ o. after_step o (λ bs. class_run ts bs)) (may (operand d.held) takes (first ∷ d ∷ ds)) ∙ run_in ts first [] (d ∷ ds) c [] h
  where
    may : (o : Option Held) → is_some o ≡ true → (bs : Brackets) → where_may o bs ≡ Some bs
    may None h bs = absurd (true≢false (sym h))
    may (Some held) h bs = refl
nested_run (t ∷ ts) d c ds takes h = absurd (let no : ⊥ = cc h in no)

-- one token more, which is neither a bracket nor a closer
record InnermostOnly (t : ClassToken) (c : Bracket) (cs : Brackets) (m : Bracket) (ms : Brackets) : Type 0 where
  around : ms ≡ cs
  alone : class_step t (c ∷ []) ≡ Some (m ∷ [])

only_by : (t : ClassToken) (c : Bracket) (cs : Brackets) (n m : Bracket) (ms : Brackets) → class_step t (c ∷ []) ≡ Some (n ∷ []) → n ∷ cs ≡ m ∷ ms → InnermostOnly t c cs m ms
only_by t c cs n m ms h same = record { around = sym (let k : cs ≡ ms = cc same in k); alone = h ∙ ap (λ b. Some (b ∷ [])) (let k : n ≡ m = cc same in k) }

holding_only : (t : ClassToken) (c : Bracket) (cs : Brackets) (may : Bool) (o : Option Held) (m : Bracket) (ms : Brackets) → class_step t (c ∷ []) ≡ add_thing c [] may o → add_thing c cs may o ≡ Some (m ∷ ms) → InnermostOnly t c cs m ms
holding_only t c cs may None m ms step h = absurd (let no : ⊥ = cc h in no)
holding_only t c cs may (Some held) m ms step h = only_by t c cs (bracket_of c.negative held (with_strings c.held c.may may)) m ms step (Some-inj h)

operator_only : (t : ClassToken) (c : Bracket) (cs : Brackets) (o : Option Held) (m : Bracket) (ms : Brackets) → class_step t (c ∷ []) ≡ add_operator c [] o → add_operator c cs o ≡ Some (m ∷ ms) → InnermostOnly t c cs m ms
operator_only t c cs None m ms step h = absurd (let no : ⊥ = cc h in no)
operator_only t c cs (Some held) m ms step h = only_by t c cs (bracket_of c.negative held c.may) m ms step (Some-inj h)

may_only : (t : ClassToken) (c n : Bracket) (cs : Brackets) (o : Option Held) (m : Bracket) (ms : Brackets) → class_step t (c ∷ []) ≡ where_may o (n ∷ []) → where_may o (n ∷ cs) ≡ Some (m ∷ ms) → InnermostOnly t c cs m ms
may_only t c n cs None m ms step h = absurd (let no : ⊥ = cc h in no)
may_only t c n cs (Some held) m ms step h = only_by t c cs n m ms step (Some-inj h)

abbrev IsBracketOrCloser : ClassToken → Type 0
IsBracketOrCloser (bracket negative) = Unit {0}
IsBracketOrCloser closer = Unit {0}
IsBracketOrCloser t = ⊥

innermost_only : (t : ClassToken) (c : Bracket) (cs : Brackets) (m : Bracket) (ms : Brackets) → (IsBracketOrCloser t → ⊥) → class_step t (c ∷ cs) ≡ Some (m ∷ ms) → InnermostOnly t c cs m ms
innermost_only (bracket negative) c cs m ms other h = absurd (other tt)
innermost_only closer c cs m ms other h = absurd (other tt)
innermost_only (item a) c cs m ms other h =
    let p = where_true_both (atom_obeys a) (add_thing c cs (atom_may a) (operand c.held)) (m ∷ ms) h in
    holding_only (item a) c cs (atom_may a) (operand c.held) m ms (ap (λ b. where_true b (add_thing c [] (atom_may a) (operand c.held))) p.0) p.1
innermost_only (low k v) c cs m ms other h = may_only (low k v) c (record c { low_end = v }) cs (with_range c.held) m ms refl h
innermost_only dash c cs m ms other h = only_by dash c cs c m ms refl (Some-inj h)
innermost_only (high k v) c cs m ms other h =
    let p = where_true_both (nat_le c.low_end v && nat_le v 0x10FFFF) (add_thing c cs false (with_range c.held)) (m ∷ ms) h in
    holding_only (high k v) c cs false (with_range c.held) m ms (ap (λ b. where_true b (add_thing c [] false (with_range c.held))) p.0) p.1
innermost_only (operator o) c cs m ms other h = operator_only (operator o) c cs (with_operator o c.held) m ms refl h
innermost_only strings c cs m ms other h = may_only strings c (record c { count = 0; any = false }) cs (operand c.held) m ms refl h
innermost_only (letter k v) c cs m ms other h =
    let p = where_true_both (nat_le v 0x10FFFF) (Some (record c { count = c.count + 1 } ∷ cs)) (m ∷ ms) h in
    only_by (letter k v) c cs (record c { count = c.count + 1 }) m ms (ap (λ b. where_true b (Some (record c { count = c.count + 1 } ∷ []))) p.0) (Some-inj p.1)
innermost_only string_bar c cs m ms other h = only_by string_bar c cs (record c { count = 0; any = any_string c }) m ms refl (Some-inj h)
innermost_only strings_end c cs m ms other h = holding_only strings_end c cs (any_string c) (operand c.held) m ms refl h

-- a bracket
bracket_opens : (ts : List ClassToken) (negative : Bool) (c : Bracket) (cs : Brackets) (m : Bracket) (ms : Brackets) → Opened ts (c ∷ cs) → class_run_from_start ts ≡ Some (c ∷ cs) → (o : Option Held) → operand c.held ≡ o →
    where_may o (bracket_of negative empty false ∷ c ∷ cs) ≡ Some (m ∷ ms) → Opened (ts ++ (bracket negative ∷ [])) (m ∷ ms)
bracket_opens ts negative c cs m ms opened there None e h = absurd (let no : ⊥ = cc h in no)
bracket_opens ts negative c cs m ms opened there (Some held) e h =
    subst (Opened (ts ++ (bracket negative ∷ []))) (Some-inj h) (within ts (bracket negative ∷ []) (bracket_of negative empty false) c cs opened there (ap is_some e) refl)

-- a closer
closer_of : (c : Bracket) (close : Bool) (d : Bracket) (ds : Brackets) (m : Bracket) (ms : Brackets) → after_closer c.may close (d ∷ ds) ≡ Some (m ∷ ms) → (after_closer c.may close (d ∷ []) ≡ Some (m ∷ [])) × (ds ≡ ms)
closer_of c false d ds m ms h = absurd (let no : ⊥ = cc h in no)
closer_of c true d ds m ms h = go (operand d.held) h
  where
    go : (o : Option Held) → add_thing d ds c.may o ≡ Some (m ∷ ms) → (add_thing d [] c.may o ≡ Some (m ∷ [])) × (ds ≡ ms)
    go None h = absurd (let no : ⊥ = cc h in no)
    go (Some held) h =
        let same = Some-inj h in
        (ap (λ b. Some (b ∷ [])) (let k : bracket_of d.negative held (with_strings d.held d.may c.may) ≡ m = cc same in k), (let k : ds ≡ ms = cc same in k))

closer_closes : (ts : List ClassToken) (c : Bracket) (cs : Brackets) (m : Bracket) (ms : Brackets) → Opened ts (c ∷ cs) → class_step closer (c ∷ cs) ≡ Some (m ∷ ms) → Opened (ts ++ (closer ∷ [])) (m ∷ ms)
closer_closes _ _ _ m ms (own inside c h) step = absurd (none (may_close c) step)
  where
    none : (close : Bool) → after_closer c.may close [] ≡ Some (m ∷ ms) → ⊥
    none true k = cc k
    none false k = cc k
closer_closes _ _ _ m ms (within before inside c d ds opened there takes h) step =
    let p = closer_of c (may_close c) d ds m ms step in
    let run : class_run (inside ++ (closer ∷ [])) (d ∷ []) ≡ Some (m ∷ []) =
    class_run-append inside (closer ∷ []) (d ∷ []) (c ∷ d ∷ []) (nested_run inside d c [] takes h) ∙ ap (λ o. after_step o (λ bs. class_run [] bs)) p.0 in
    subst (λ ts. Opened ts (m ∷ ms)) (sym (append_assoc before inside (closer ∷ [])))
    (subst (λ ms. Opened (before ++ (inside ++ (closer ∷ []))) (m ∷ ms)) p.1 (further before (inside ++ (closer ∷ [])) d m ds opened run))

token_opens : (ts : List ClassToken) (t : ClassToken) (c : Bracket) (cs : Brackets) (m : Bracket) (ms : Brackets) → Opened ts (c ∷ cs) → class_run_from_start ts ≡ Some (c ∷ cs) → class_step t (c ∷ cs) ≡ Some (m ∷ ms) →
    Opened (ts ++ (t ∷ [])) (m ∷ ms)
token_opens ts (bracket negative) c cs m ms opened there h = bracket_opens ts negative c cs m ms opened there (operand c.held) refl h
token_opens ts closer c cs m ms opened there h = closer_closes ts c cs m ms opened h
token_opens ts t c cs m ms opened there h =
    let i = innermost_only t c cs m ms (λ no. no) h in
    subst (λ ms. Opened (ts ++ (t ∷ [])) (m ∷ ms)) (sym i.around) (further ts (t ∷ []) c m cs opened (ap (λ o. after_step o (λ bs. class_run [] bs)) i.alone))

tokens_open : (ss ts : List ClassToken) (c : Bracket) (cs : Brackets) (m : Bracket) (ms : Brackets) → Opened ts (c ∷ cs) → class_run_from_start ts ≡ Some (c ∷ cs) → class_run ss (c ∷ cs) ≡ Some (m ∷ ms) → Opened (ts ++ ss) (m ∷ ms)
tokens_open [] ts c cs m ms opened there run = subst (Opened (ts ++ [])) (Some-inj run) (further ts [] c c cs opened refl)
tokens_open (t ∷ ss) ts c cs m ms opened there run =
    let s = steps t ss (c ∷ cs) m ms run in
    let next = token_opens ts t c cs s.inner s.outer opened there s.first in
    let here = class_opened-append ts (t ∷ []) (c ∷ cs) there ∙ ap (λ o. after_step o (λ bs. class_run [] bs)) s.first in
    subst (λ ts. Opened ts (m ∷ ms)) (append_assoc ts (t ∷ []) ss) (tokens_open ss (ts ++ (t ∷ [])) s.inner s.outer m ms next here s.others)

opened : (ts : List ClassToken) (c : Bracket) (cs : Brackets) → class_run_from_start ts ≡ Some (c ∷ cs) → Opened ts (c ∷ cs)
opened [] c cs h = absurd (let no : ⊥ = cc h in no)
opened ((bracket negative) ∷ ts) c cs h =
    let first = bracket_of negative empty false in
    tokens_open ts (bracket negative ∷ []) first [] c cs (own (bracket negative ∷ []) first refl) refl h
opened (t ∷ ts) c cs h = absurd (let no : ⊥ = cc h in no)

-- The bracket around the innermost takes an operand more.
pub around_takes : (ts : List ClassToken) (c d : Bracket) (ds : Brackets) → class_run_from_start ts ≡ Some (c ∷ d ∷ ds) → takes_operand d.held ≡ true
around_takes ts c d ds h = go ts (c ∷ d ∷ ds) (opened ts c (d ∷ ds) h) refl
  where
    go : (ts : List ClassToken) (bs : Brackets) → Opened ts bs → bs ≡ c ∷ d ∷ ds → takes_operand d.held ≡ true
    go _ _ (own inside x there) same = absurd (let no : ⊥ = cc same in no)
    go _ _ (within before inside x y ys o there takes alone) same = let k : y ≡ d = cc same in ap (λ b. takes_operand b.held) (sym k) ∙ takes

module _ (e : Environment) where
  -- After some tokens a place is in the class.
  row_inside : (t : ClassToken) (ts : List ClassToken) (q : Place) (us : List CodePoint) (r : Place) (rest : List CodePoint) → ClassTokenRow e (t ∷ ts) q us r rest → r ≡ outside → ⊥
  row_inside t [] q us r rest row h = after_inside e.mode q t row.1 (row.4.0 ∙ h)
  row_inside t (s ∷ ts) q us r rest row h = row_inside s ts (next_place e.mode q t row.1) row.1 r rest row.4 h

  -- A row from a bracket inside a class is one of a class.
  bracket_alone : (q : Place) (negative : Bool) (w more : List CodePoint) → (q ≡ outside → ⊥) → SpellsInClass e q (bracket negative) w more → (is_sets e.mode ≡ true) × (begins_item q ≡ true) × SpellsBracket negative w more
  bracket_alone outside negative w more inside s = absurd (inside refl)
  bracket_alone fresh negative w more inside s = (s.0, refl, s.1)
  bracket_alone (after_operator o) negative w more inside s = (s.0, refl, s.1)
  bracket_alone in_strings negative w more inside s = absurd s.1
  bracket_alone q negative w more inside s = absurd s

  pub row_alone : (ts : List ClassToken) (cs : Brackets) (q : Place) (us : List CodePoint) (r : Place) (rest : List CodePoint) → class_run_from_start ts ≡ Some cs → (q ≡ outside → ⊥) → ClassTokenRow e ts q us r rest →
      (is_sets e.mode ≡ true) × (begins_item q ≡ true) × ClassTokenRow e ts outside us r rest
  row_alone [] cs q us r rest h inside row = absurd (let no : ⊥ = cc h in no)
  row_alone ((bracket negative) ∷ ts) cs q us r rest h inside row =
      let b = bracket_alone q negative row.0 row.1 inside row.3 in
      (b.0, b.1, (row.0, row.1, row.2, b.2, row.4))
  row_alone (t ∷ ts) cs q us r rest h inside row = absurd (let no : ⊥ = cc h in no)

  pub after_opened : (ts : List ClassToken) (cs : Brackets) (us : List CodePoint) (r : Place) (rest : List CodePoint) → class_run_from_start ts ≡ Some cs → ClassTokenRow e ts outside us r rest → r ≡ outside → ⊥
  after_opened [] cs us r rest h row same = let no : ⊥ = cc h in no
  after_opened (t ∷ ts) cs us r rest h row same = row_inside t ts outside us r rest row same

  module _ (from : ℕ) (at_class : List CodePoint) (place : ℕ) (rest : List CodePoint) where
    -- The innermost bracket that is open at a place, and where it began.
    pub record Innermost (at : Place) (inner : Bracket) : Type 0 where
      pub is_nested : Bool
      pub begin : ℕ
      pub in_bracket : IsInBracket e from at_class is_nested begin place rest
      pub at_is : in_bracket.item_place.at ≡ at
      pub inner_is : in_bracket.item_place.inner ≡ inner

    began : (ts : List ClassToken) (bs : Brackets) → Opened ts bs → (at : Place) (inner : Bracket) (outer : Brackets) → bs ≡ inner ∷ outer → begins_item at ≡ true → ClassTokenRow e ts outside at_class at rest →
        from + length at_class ≡ place + length rest → Innermost at inner
    began _ _ (own inside c there) at inner outer same begins row place_is = record {
      is_nested = false;
      begin = from;
      in_bracket = record {
        at_bracket = at_class;
        begins = of_class;
        item_place = record { tokens = inside; at = at; inner = c; outer = []; begins = begins; row = row; accepted = there; place_is = place_is };
        innermost = refl;
      };
      at_is = refl;
      inner_is = cc same;
    }
    began _ _ (within before inside c d ds o there takes alone) at inner outer same begins row place_is =
        let s = class_row_split e before inside outside at_class at rest row in
        let a = row_alone inside (c ∷ []) s.0 s.1 at rest alone (after_opened before (d ∷ ds) at_class s.0 s.1 there s.2) s.3 in
        let l = row_shorter e before outside at_class s.0 s.1 s.2 in
        let begin = from + length at_class - length s.1 in
        let begin_is : from + length at_class ≡ begin + length s.1 = omega (arith, l) in
        record {
          is_nested = true;
          begin = begin;
          in_bracket = record {
            at_bracket = s.1;
            begins = nested a.0 (record { item_place = record { tokens = before; at = s.0; inner = d; outer = ds; begins = a.1; row = s.2; accepted = there; place_is = begin_is }; takes = takes });
            item_place = record { tokens = inside; at = at; inner = c; outer = []; begins = begins; row = a.2; accepted = alone; place_is = sym begin_is ∙ place_is };
            innermost = refl;
          };
          at_is = refl;
          inner_is = cc same;
        }

    pub innermost : (i : IsItemPlace e from at_class place rest) → Innermost i.at i.inner
    innermost i = began i.tokens (i.inner ∷ i.outer) (opened i.tokens i.inner i.outer i.accepted) i.at i.inner i.outer refl i.begins i.row i.place_is
