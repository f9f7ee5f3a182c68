-- Which brackets are open where rows of a class's tokens lead: rows of one class, and rows of a class that is nested in one.
use Rattle.std.proofs.Common.{◌≡◌, refl, ap, sym, ◌∙◌, subst, ◌+◌, ◌≤◌, ◌&&◌, Bool, true, false, not, Option, Some, None, List, [], ◌∷◌, ◌++◌, length, nat_le, arith, length-append}
use Rattle.std.proofs.lemmas.Bool.{true≢false}
use Rattle.rx_base.specs.declared.diagnostic.kinds.SetOperator.{SetOperator}
use Rattle.rx_base.specs.declared.diagnostic.kinds.SetOperator.TheVariants.{Intersection, Subtraction}
use Rattle.rx_units.specs.declared.code_point.CodePoint.{CodePoint}
use Rattle.rx_units.specs.Units.{values}
use Rattle.rx_units.proofs.Choices.{Some-inj, is_none}
use Rattle.rx_model.specs.declared.mode.Mode.{Mode}
use Rattle.rx_model.specs.Classes.ClassRows.{ClassTokenRow, Place, SpellsInClass, outside, fresh, at_dash, at_high, at_second, at_third, after_operator, in_strings, next_place, following_item, has_threes, is_dashed}
use Rattle.rx_model.specs.Classes.ClassRuns.{Held, empty, single, several, pending, joined, Bracket, Brackets, any_string, atom_may, atom_obeys, after_step, bracket_of, class_run_from_start, class_run, class_step, after_closer, add_operator, add_thing, is_union, is_whole, may_close, may_follow, operand, with_range, takes_operand, where_may, where_true, with_operator, with_strings}
use Rattle.rx_model.specs.Classes.ClassTokens.{ClassToken, bracket, closer, item, low, dash, high, operator, strings, letter, string_bar, strings_end}
use Rattle.rx_model.specs.Inputs.Environment.{Environment, is_sets}

-- After the class no token stands.
pub none_after_class : (ts : List ClassToken) (b : Bracket) (bs : Brackets) → class_run ts [] ≡ Some (b ∷ bs) → ⊥
none_after_class [] b bs h = cc h
none_after_class (t ∷ ts) b bs h = cc h

-- One token, after which a bracket is open still, and more.
pub record Steps (t : ClassToken) (ts : List ClassToken) (bs : Brackets) (c : Bracket) (cs : Brackets) : Type 0 where
  pub inner : Bracket
  pub outer : Brackets
  pub first : class_step t bs ≡ Some (inner ∷ outer)
  pub others : class_run ts (inner ∷ outer) ≡ Some (c ∷ cs)

pub steps : (t : ClassToken) (ts : List ClassToken) (bs : Brackets) (c : Bracket) (cs : Brackets) → class_run (t ∷ ts) bs ≡ Some (c ∷ cs) → Steps t ts bs c cs
steps t ts bs c cs h = go (class_step t bs) refl
  where
    go : (o : Option Brackets) → class_step t bs ≡ o → Steps t ts bs c cs
    go None e = absurd (let no : None ≡ Some (c ∷ cs) = ap (λ o. after_step o (λ bs. class_run ts bs)) (sym e) ∙ h in let k : ⊥ = cc no in k)
    go (Some []) e = absurd (none_after_class ts c cs (ap (λ o. after_step o (λ bs. class_run ts bs)) (sym e) ∙ h))
    go (Some (m ∷ ms)) e = record { inner = m; outer = ms; first = e; others = ap (λ o. after_step o (λ bs. class_run ts bs)) (sym e) ∙ h }

-- What a token makes of the innermost bracket, with those around it.
pub where_may_is : (o : Option Held) (bs cs : Brackets) → where_may o bs ≡ Some cs → bs ≡ cs
where_may_is None bs cs h = absurd (let no : ⊥ = cc h in no)
where_may_is (Some held) bs cs h = Some-inj h

pub where_true_both : (b : Bool) (o : Option Brackets) (cs : Brackets) → where_true b o ≡ Some cs → (b ≡ true) × (o ≡ Some cs)
where_true_both true o cs h = (refl, h)
where_true_both false o cs h = absurd (let no : ⊥ = cc h in no)

where_true_is : (b : Bool) (o : Option Brackets) (cs : Brackets) → where_true b o ≡ Some cs → o ≡ Some cs
where_true_is b o cs h = (where_true_both b o cs h).1

-- a bracket that holds this, and those around it
record Holds (held : Held) (outer : Brackets) (cs : Brackets) : Type 0 where
  it : Bracket
  held_is : it.held ≡ held
  are : it ∷ outer ≡ cs

record Grown (o : Option Held) (outer : Brackets) (cs : Brackets) : Type 0 where
  held : Held
  is : o ≡ Some held
  holds : Holds held outer cs

holding_is : (r : Bracket) (outer : Brackets) (may : Bool) (o : Option Held) (cs : Brackets) → add_thing r outer may o ≡ Some cs → Grown o outer cs
holding_is r outer may None cs h = absurd (let no : ⊥ = cc h in no)
holding_is r outer may (Some held) cs h = record { held = held; is = refl; holds = record { it = bracket_of r.negative held (with_strings r.held r.may may); held_is = refl; are = Some-inj h } }

held_on_is : (r : Bracket) (outer : Brackets) (o : Option Held) (cs : Brackets) → add_operator r outer o ≡ Some cs → Grown o outer cs
held_on_is r outer None cs h = absurd (let no : ⊥ = cc h in no)
held_on_is r outer (Some held) cs h = record { held = held; is = refl; holds = record { it = bracket_of r.negative held r.may; held_is = refl; are = Some-inj h } }

inner_is : (held : Held) (outer : Brackets) (c : Bracket) (cs : Brackets) → Holds held outer (c ∷ cs) → c.held ≡ held
inner_is held outer c cs h = let same = h.are in let it : h.it ≡ c = cc same in ap (λ b. b.held) (sym it) ∙ h.held_is

outer_is : (held : Held) (outer : Brackets) (c : Bracket) (cs : Brackets) → Holds held outer (c ∷ cs) → outer ≡ cs
outer_is held outer c cs h = let same = h.are in cc same

operand_whole : (h k : Held) → operand h ≡ Some k → is_whole k ≡ true
operand_whole empty k e = let s : single ≡ k = Some-inj e in ap is_whole (sym s)
operand_whole single k e = let s : several ≡ k = Some-inj e in ap is_whole (sym s)
operand_whole several k e = let s : several ≡ k = Some-inj e in ap is_whole (sym s)
operand_whole (pending o) k e = let s : joined o ≡ k = Some-inj e in ap is_whole (sym s)
operand_whole (joined o) k e = absurd (let no : ⊥ = cc e in no)

pub operand_union : (h k : Held) → is_union h ≡ true → operand h ≡ Some k → is_union k ≡ true
operand_union empty k u e = let s : single ≡ k = Some-inj e in ap is_union (sym s)
operand_union single k u e = let s : several ≡ k = Some-inj e in ap is_union (sym s)
operand_union several k u e = let s : several ≡ k = Some-inj e in ap is_union (sym s)
operand_union held k u e = absurd (let no : ⊥ = cc u in no)

ranged_several : (h k : Held) → with_range h ≡ Some k → k ≡ several
ranged_several empty k e = sym (Some-inj e)
ranged_several single k e = sym (Some-inj e)
ranged_several several k e = sym (Some-inj e)
ranged_several held k e = absurd (let no : ⊥ = cc e in no)

operator_pending : (o : SetOperator) (h k : Held) → with_operator o h ≡ Some k → k ≡ pending o
operator_pending o single k e = sym (Some-inj e)
operator_pending Intersection (joined Intersection) k e = sym (Some-inj e)
operator_pending Subtraction (joined Subtraction) k e = sym (Some-inj e)
operator_pending o held k e = absurd (let no : ⊥ = cc e in no)

-- Some thing more may be held.
pub union_more : (h : Held) → is_union h ≡ true → (takes_operand h ≡ true) × ((k : Held) × (with_range h ≡ Some k))
union_more empty u = (refl, (several, refl))
union_more single u = (refl, (several, refl))
union_more several u = (refl, (several, refl))
union_more held u = absurd (let no : ⊥ = cc u in no)

-- What the innermost bracket holds at a place, by the token that leads there.
abbrev pub Fits : Place → Held → Type 0
Fits outside held = Unit {0}
Fits fresh held = is_whole held ≡ true
Fits at_dash held = Unit {0}
Fits at_high held = Unit {0}
Fits at_second held = Unit {0}
Fits at_third held = Unit {0}
Fits (after_operator o) held = held ≡ pending o
Fits in_strings held = Unit {0}

fits_after_item : (q : Place) (first : Bool) (held : Held) → is_whole held ≡ true → Fits (following_item q first) held
fits_after_item fresh true held h = tt
fits_after_item fresh false held h = h
fits_after_item at_second first held h = tt
fits_after_item q first held h = h

grown_whole : (h : Held) (outer : Brackets) (c : Bracket) (cs : Brackets) → Grown (operand h) outer (c ∷ cs) → is_whole c.held ≡ true
grown_whole h outer c cs g = ap is_whole (inner_is g.held outer c cs g.holds) ∙ operand_whole h g.held g.is

closer_whole : (may close : Bool) (outer : Brackets) (c : Bracket) (cs : Brackets) → after_closer may close outer ≡ Some (c ∷ cs) → is_whole c.held ≡ true
closer_whole may false outer c cs h = absurd (let no : ⊥ = cc h in no)
closer_whole may true [] c cs h = absurd (let no : ⊥ = cc h in no)
closer_whole may true (r ∷ outer) c cs h = grown_whole r.held outer c cs (holding_is r outer may (operand r.held) (c ∷ cs) h)

step_fits : (mode : Mode) (q : Place) (t : ClassToken) (rest : List CodePoint) (b : Bracket) (bs : Brackets) (c : Bracket) (cs : Brackets) → class_step t (b ∷ bs) ≡ Some (c ∷ cs) → Fits (next_place mode q t rest) c.held
step_fits mode q (bracket negative) rest b bs c cs h =
    let same = where_may_is (operand b.held) (bracket_of negative empty false ∷ b ∷ bs) (c ∷ cs) h in
    let it : bracket_of negative empty false ≡ c = cc same in
    ap (λ b. is_whole b.held) (sym it)
step_fits mode q closer rest b bs c cs h = closer_whole b.may (may_close b) bs c cs h
step_fits mode q (item a) rest b bs c cs h =
    fits_after_item q (is_dashed (values rest) && has_threes mode) c.held
    (grown_whole b.held bs c cs (holding_is b bs (atom_may a) (operand b.held) (c ∷ cs) (where_true_is (atom_obeys a) (add_thing b bs (atom_may a) (operand b.held)) (c ∷ cs) h)))
step_fits mode q (low k v) rest b bs c cs h = tt
step_fits mode q dash rest b bs c cs h = tt
step_fits mode q (high k v) rest b bs c cs h =
    let g = holding_is b bs false (with_range b.held) (c ∷ cs) (where_true_is (nat_le b.low_end v && nat_le v 0x10FFFF) (add_thing b bs false (with_range b.held)) (c ∷ cs) h) in
    ap is_whole (inner_is g.held bs c cs g.holds ∙ ranged_several b.held g.held g.is)
step_fits mode q (operator o) rest b bs c cs h =
    let g = held_on_is b bs (with_operator o b.held) (c ∷ cs) h in inner_is g.held bs c cs g.holds ∙ operator_pending o b.held g.held g.is
step_fits mode q strings rest b bs c cs h = tt
step_fits mode q (letter k v) rest b bs c cs h = tt
step_fits mode q string_bar rest b bs c cs h = tt
step_fits mode q strings_end rest b bs c cs h = grown_whole b.held bs c cs (holding_is b bs (any_string b) (operand b.held) (c ∷ cs) h)

row_fits : (e : Environment) (ts : List ClassToken) (q : Place) (us : List CodePoint) (r : Place) (rest : List CodePoint) (b : Bracket) (bs : Brackets) (c : Bracket) (cs : Brackets) → ClassTokenRow e ts q us r rest →
    class_run ts (b ∷ bs) ≡ Some (c ∷ cs) → Fits q b.held → Fits r c.held
row_fits e [] q us r rest b bs c cs row run f =
    let same = Some-inj run in
    let it : b ≡ c = cc same in
    subst (λ r. Fits r c.held) row.0 (subst (λ b. Fits q b.held) it f)
row_fits e (t ∷ ts) q us r rest b bs c cs row run f =
    let s = steps t ts (b ∷ bs) c cs run in
    row_fits e ts (next_place e.mode q t row.1) row.1 r rest s.inner s.outer c cs row.4 s.others (step_fits e.mode q t row.1 b bs s.inner s.outer s.first)

pub opened_fits : (e : Environment) (ts : List ClassToken) (us : List CodePoint) (r : Place) (rest : List CodePoint) (c : Bracket) (cs : Brackets) → ClassTokenRow e ts outside us r rest → class_run_from_start ts ≡ Some (c ∷ cs) → Fits r c.held
opened_fits e [] us r rest c cs row h = absurd (let no : ⊥ = cc h in no)
opened_fits e ((bracket negative) ∷ ts) us r rest c cs row h = row_fits e ts fresh row.1 r rest (bracket_of negative empty false) [] c cs row.4 h refl
opened_fits e (t ∷ ts) us r rest c cs row h = absurd (let no : ⊥ = cc h in no)

-- Without `v` no brackets are nested, and what is in one is a union.
record IsAlone (c : Bracket) (cs : Brackets) : Type 0 where
  pub union : is_union c.held ≡ true
  pub alone : cs ≡ []

-- after no token stands the class's own bracket
pub after_inside : (mode : Mode) (q : Place) (t : ClassToken) (rest : List CodePoint) → next_place mode q t rest ≡ outside → ⊥
after_inside mode q (item a) rest h = after_item_inside q (is_dashed (values rest) && has_threes mode) h
  where
    after_item_inside : (q : Place) (first : Bool) → following_item q first ≡ outside → ⊥
    after_item_inside fresh true h = cc h
    after_item_inside fresh false h = cc h
    after_item_inside q first h = cc h
after_inside mode q t rest h = cc h

alone_by : (held : Held) (outer : Brackets) (c : Bracket) (cs : Brackets) → outer ≡ [] → is_union held ≡ true → Holds held outer (c ∷ cs) → IsAlone c cs
alone_by held outer c cs none u h = record { union = ap is_union (inner_is held outer c cs h) ∙ u; alone = sym (outer_is held outer c cs h) ∙ none }

alone_operand : (b c : Bracket) (cs : Brackets) → is_union b.held ≡ true → Grown (operand b.held) [] (c ∷ cs) → IsAlone c cs
alone_operand b c cs u g = alone_by g.held [] c cs refl (operand_union b.held g.held u g.is) g.holds

step_alone : (e : Environment) → is_sets e.mode ≡ false → (q : Place) → (q ≡ outside → ⊥) → (t : ClassToken) (w rest : List CodePoint) (b c : Bracket) (cs : Brackets) → SpellsInClass e q t w rest →
    class_step t (b ∷ []) ≡ Some (c ∷ cs) → is_union b.held ≡ true → IsAlone c cs
step_alone e n outside inside t w rest b c cs s h u = absurd (inside refl)
step_alone e n fresh inside closer w rest b c cs s h u = absurd (none (may_close b) h)
  where
    none : (close : Bool) → after_closer b.may close [] ≡ Some (c ∷ cs) → ⊥
    none true k = cc k
    none false k = cc k
step_alone e n fresh inside (item a) w rest b c cs s h u =
    alone_operand b c cs u (holding_is b [] (atom_may a) (operand b.held) (c ∷ cs) (where_true_is (atom_obeys a) (add_thing b [] (atom_may a) (operand b.held)) (c ∷ cs) h))
step_alone e n fresh inside (low k v) w rest b c cs s h u =
    let same = where_may_is (with_range b.held) (record b { low_end = v } ∷ []) (c ∷ cs) h in
    alone_by b.held [] c cs refl u (record { it = record b { low_end = v }; held_is = refl; are = same })
step_alone e n fresh inside (bracket negative) w rest b c cs s h u = absurd (true≢false (sym s.0 ∙ n))
step_alone e n fresh inside strings w rest b c cs s h u = absurd (true≢false (sym s.0 ∙ n))
step_alone e n fresh inside (operator o) w rest b c cs s h u = absurd (true≢false (sym s.0 ∙ n))
step_alone e n at_dash inside dash w rest b c cs s h u = alone_by b.held [] c cs refl u (record { it = b; held_is = refl; are = Some-inj h })
step_alone e n at_high inside (high k v) w rest b c cs s h u =
    let g = holding_is b [] false (with_range b.held) (c ∷ cs) (where_true_is (nat_le b.low_end v && nat_le v 0x10FFFF) (add_thing b [] false (with_range b.held)) (c ∷ cs) h) in
    alone_by g.held [] c cs refl (ap is_union (ranged_several b.held g.held g.is)) g.holds
step_alone e n at_second inside (item a) w rest b c cs s h u =
    alone_operand b c cs u (holding_is b [] (atom_may a) (operand b.held) (c ∷ cs) (where_true_is (atom_obeys a) (add_thing b [] (atom_may a) (operand b.held)) (c ∷ cs) h))
step_alone e n at_third inside (item a) w rest b c cs s h u =
    alone_operand b c cs u (holding_is b [] (atom_may a) (operand b.held) (c ∷ cs) (where_true_is (atom_obeys a) (add_thing b [] (atom_may a) (operand b.held)) (c ∷ cs) h))
step_alone e n (after_operator o) inside t w rest b c cs s h u = absurd (true≢false (sym s.0 ∙ n))
step_alone e n in_strings inside t w rest b c cs s h u = absurd (true≢false (sym s.0 ∙ n))
step_alone e n q inside t w rest b c cs s h u = absurd s

row_alone : (e : Environment) → is_sets e.mode ≡ false → (ts : List ClassToken) (q : Place) → (q ≡ outside → ⊥) → (us : List CodePoint) (r : Place) (rest : List CodePoint) (b c : Bracket) (cs : Brackets) → ClassTokenRow e ts q us r rest →
    class_run ts (b ∷ []) ≡ Some (c ∷ cs) → is_union b.held ≡ true → IsAlone c cs
row_alone e n [] q inside us r rest b c cs row run u = alone_by b.held [] c cs refl u (record { it = b; held_is = refl; are = Some-inj run })
row_alone e n (t ∷ ts) q inside us r rest b c cs row run u =
    let s = steps t ts (b ∷ []) c cs run in
    let a = step_alone e n q inside t row.0 row.1 b s.inner s.outer row.3 s.first u in
    row_alone e n ts (next_place e.mode q t row.1) (after_inside e.mode q t row.1) row.1 r rest s.inner c cs row.4 (ap (λ outer. class_run ts (s.inner ∷ outer)) (sym a.alone) ∙ s.others) a.union

pub opened_union : (e : Environment) → is_sets e.mode ≡ false → (ts : List ClassToken) (us : List CodePoint) (r : Place) (rest : List CodePoint) (c : Bracket) (cs : Brackets) → ClassTokenRow e ts outside us r rest →
    class_run_from_start ts ≡ Some (c ∷ cs) → is_union c.held ≡ true
opened_union e n [] us r rest c cs row h = absurd (let no : ⊥ = cc h in no)
opened_union e n ((bracket negative) ∷ ts) us r rest c cs row h = (row_alone e n ts fresh (λ no. cc no) row.1 r rest (bracket_of negative empty false) c cs row.4 h refl).union
opened_union e n (t ∷ ts) us r rest c cs row h = absurd (let no : ⊥ = cc h in no)

-- Nor do class strings stand in it.
not_in_strings : (q : Place) (first : Bool) → following_item q first ≡ in_strings → ⊥
not_in_strings fresh true h = cc h
not_in_strings fresh false h = cc h
not_in_strings q first h = cc h

no_strings_after : (e : Environment) → is_sets e.mode ≡ false → (q : Place) (t : ClassToken) (w rest : List CodePoint) → SpellsInClass e q t w rest → next_place e.mode q t rest ≡ in_strings → ⊥
no_strings_after e n q (bracket negative) w rest s h = cc h
no_strings_after e n q closer w rest s h = cc h
no_strings_after e n q (item a) w rest s h = not_in_strings q (is_dashed (values rest) && has_threes e.mode) h
no_strings_after e n q (low k v) w rest s h = cc h
no_strings_after e n q dash w rest s h = cc h
no_strings_after e n q (high k v) w rest s h = cc h
no_strings_after e n q (operator o) w rest s h = cc h
no_strings_after e n fresh strings w rest s h = true≢false (sym s.0 ∙ n)
no_strings_after e n (after_operator o) strings w rest s h = true≢false (sym s.0 ∙ n)
no_strings_after e n in_strings strings w rest s h = true≢false (sym s.0 ∙ n)
no_strings_after e n q strings w rest s h = absurd s
no_strings_after e n (after_operator o) (letter k v) w rest s h = true≢false (sym s.0 ∙ n)
no_strings_after e n in_strings (letter k v) w rest s h = true≢false (sym s.0 ∙ n)
no_strings_after e n q (letter k v) w rest s h = absurd s
no_strings_after e n (after_operator o) string_bar w rest s h = true≢false (sym s.0 ∙ n)
no_strings_after e n in_strings string_bar w rest s h = true≢false (sym s.0 ∙ n)
no_strings_after e n q string_bar w rest s h = absurd s
no_strings_after e n q strings_end w rest s h = cc h

row_no_strings : (e : Environment) → is_sets e.mode ≡ false → (ts : List ClassToken) (q : Place) (us : List CodePoint) (r : Place) (rest : List CodePoint) → (q ≡ in_strings → ⊥) → ClassTokenRow e ts q us r rest → r ≡ in_strings → ⊥
row_no_strings e n [] q us r rest other row h = other (row.0 ∙ h)
row_no_strings e n (t ∷ ts) q us r rest other row h = row_no_strings e n ts (next_place e.mode q t row.1) row.1 r rest (no_strings_after e n q t row.0 row.1 row.3) row.4 h

pub none_in_strings : (e : Environment) → is_sets e.mode ≡ false → (ts : List ClassToken) (us : List CodePoint) (r : Place) (rest : List CodePoint) → ClassTokenRow e ts outside us r rest → r ≡ in_strings → ⊥
none_in_strings e n ts us r rest row h = row_no_strings e n ts outside us r rest (λ no. cc no) row h

-- Brackets around those of a class change nothing of it.
where_may_in : (o : Option Held) (bs cs : Brackets) → where_may o bs ≡ Some cs → (ds : Brackets) → where_may o ds ≡ Some ds
where_may_in None bs cs h ds = absurd (let no : ⊥ = cc h in no)
where_may_in (Some held) bs cs h ds = refl

where_true_in : (b : Bool) (o : Option Brackets) (cs : Brackets) → where_true b o ≡ Some cs → (p : Option Brackets) → where_true b p ≡ p
where_true_in true o cs h p = refl
where_true_in false o cs h p = absurd (let no : ⊥ = cc h in no)

abbrev around : Brackets → Brackets → Option Brackets
around bs outer = Some (bs ++ outer)

holding_in : (r : Bracket) (bs outer : Brackets) (may : Bool) (o : Option Held) (cs : Brackets) → add_thing r bs may o ≡ Some cs → add_thing r (bs ++ outer) may o ≡ around cs outer
holding_in r bs outer may None cs h = absurd (let no : ⊥ = cc h in no)
holding_in r bs outer may (Some held) cs h = ap (λ cs. around cs outer) (Some-inj h)

held_on_in : (r : Bracket) (bs outer : Brackets) (o : Option Held) (cs : Brackets) → add_operator r bs o ≡ Some cs → add_operator r (bs ++ outer) o ≡ around cs outer
held_on_in r bs outer None cs h = absurd (let no : ⊥ = cc h in no)
held_on_in r bs outer (Some held) cs h = ap (λ cs. around cs outer) (Some-inj h)

closed_in : (may close : Bool) (bs outer : Brackets) (m : Bracket) (ms : Brackets) → after_closer may close bs ≡ Some (m ∷ ms) → after_closer may close (bs ++ outer) ≡ around (m ∷ ms) outer
closed_in may false bs outer m ms h = absurd (let no : ⊥ = cc h in no)
closed_in may true [] outer m ms h = absurd (let no : ⊥ = cc h in no)
closed_in may true (r ∷ bs) outer m ms h = holding_in r bs outer may (operand r.held) (m ∷ ms) h

step_in : (t : ClassToken) (b : Bracket) (bs outer : Brackets) (m : Bracket) (ms : Brackets) → class_step t (b ∷ bs) ≡ Some (m ∷ ms) → class_step t (b ∷ (bs ++ outer)) ≡ around (m ∷ ms) outer
step_in (bracket negative) b bs outer m ms h =
    let inner = bracket_of negative empty false in
    where_may_in (operand b.held) (inner ∷ b ∷ bs) (m ∷ ms) h (inner ∷ b ∷ (bs ++ outer)) ∙ ap (λ cs. around cs outer) (where_may_is (operand b.held) (inner ∷ b ∷ bs) (m ∷ ms) h)
step_in closer b bs outer m ms h = closed_in b.may (may_close b) bs outer m ms h
step_in (item a) b bs outer m ms h =
    where_true_in (atom_obeys a) (add_thing b bs (atom_may a) (operand b.held)) (m ∷ ms) h (add_thing b (bs ++ outer) (atom_may a) (operand b.held))
    ∙ holding_in b bs outer (atom_may a) (operand b.held) (m ∷ ms) (where_true_is (atom_obeys a) (add_thing b bs (atom_may a) (operand b.held)) (m ∷ ms) h)
step_in (low k v) b bs outer m ms h =
    where_may_in (with_range b.held) (record b { low_end = v } ∷ bs) (m ∷ ms) h (record b { low_end = v } ∷ (bs ++ outer))
    ∙ ap (λ cs. around cs outer) (where_may_is (with_range b.held) (record b { low_end = v } ∷ bs) (m ∷ ms) h)
step_in dash b bs outer m ms h = ap (λ cs. around cs outer) (Some-inj h)
step_in (high k v) b bs outer m ms h =
    where_true_in (nat_le b.low_end v && nat_le v 0x10FFFF) (add_thing b bs false (with_range b.held)) (m ∷ ms) h (add_thing b (bs ++ outer) false (with_range b.held))
    ∙ holding_in b bs outer false (with_range b.held) (m ∷ ms) (where_true_is (nat_le b.low_end v && nat_le v 0x10FFFF) (add_thing b bs false (with_range b.held)) (m ∷ ms) h)
step_in (operator o) b bs outer m ms h = held_on_in b bs outer (with_operator o b.held) (m ∷ ms) h
step_in strings b bs outer m ms h =
    where_may_in (operand b.held) (record b { count = 0; any = false } ∷ bs) (m ∷ ms) h (record b { count = 0; any = false } ∷ (bs ++ outer))
    ∙ ap (λ cs. around cs outer) (where_may_is (operand b.held) (record b { count = 0; any = false } ∷ bs) (m ∷ ms) h)
step_in (letter k v) b bs outer m ms h =
    where_true_in (nat_le v 0x10FFFF) (Some (record b { count = b.count + 1 } ∷ bs)) (m ∷ ms) h (Some (record b { count = b.count + 1 } ∷ (bs ++ outer)))
    ∙ ap (λ cs. around cs outer) (Some-inj (where_true_is (nat_le v 0x10FFFF) (Some (record b { count = b.count + 1 } ∷ bs)) (m ∷ ms) h))
step_in string_bar b bs outer m ms h = ap (λ cs. around cs outer) (Some-inj h)
step_in strings_end b bs outer m ms h = holding_in b bs outer (any_string b) (operand b.held) (m ∷ ms) h

pub run_in : (ts : List ClassToken) (b : Bracket) (bs outer : Brackets) (c : Bracket) (cs : Brackets) → class_run ts (b ∷ bs) ≡ Some (c ∷ cs) → class_run ts (b ∷ (bs ++ outer)) ≡ Some (c ∷ (cs ++ outer))
run_in [] b bs outer c cs h = ap (λ cs. around cs outer) (Some-inj h)
run_in (t ∷ ts) b bs outer c cs h =
    let s = steps t ts (b ∷ bs) c cs h in
    ap (λ o. after_step o (λ bs. class_run ts bs)) (step_in t b bs outer s.inner s.outer s.first) ∙ run_in ts s.inner s.outer outer c cs s.others

not_whole : (r : Bracket) → is_whole r.held ≡ false → may_close r ≡ false
not_whole r h = ap (λ b. b && not (r.negative && r.may)) h

none_true : (b : Bool) → where_true b None ≡ None
none_true true = refl
none_true false = refl

pub none_follows : (t : ClassToken) (r : Bracket) (outer : Brackets) → may_follow r.held t ≡ false → class_step t (r ∷ outer) ≡ None
none_follows (bracket negative) r outer h = ap (λ o. where_may o (bracket_of negative empty false ∷ r ∷ outer)) (is_none (operand r.held) h)
none_follows closer r outer h = ap (λ b. after_closer r.may b outer) (not_whole r h)
none_follows (item a) r outer h = ap (λ o. where_true (atom_obeys a) (add_thing r outer (atom_may a) o)) (is_none (operand r.held) h) ∙ none_true (atom_obeys a)
none_follows (low k v) r outer h = ap (λ o. where_may o (record r { low_end = v } ∷ outer)) (is_none (with_range r.held) h)
none_follows dash r outer h = absurd (true≢false h)
none_follows (high k v) r outer h = ap (λ o. where_true (nat_le r.low_end v && nat_le v 0x10FFFF) (add_thing r outer false o)) (is_none (with_range r.held) h) ∙ none_true (nat_le r.low_end v && nat_le v 0x10FFFF)
none_follows (operator o) r outer h = ap (add_operator r outer) (is_none (with_operator o r.held) h)
none_follows strings r outer h = ap (λ o. where_may o (record r { count = 0; any = false } ∷ outer)) (is_none (operand r.held) h)
none_follows (letter k v) r outer h = absurd (true≢false h)
none_follows string_bar r outer h = absurd (true≢false h)
none_follows strings_end r outer h = ap (add_thing r outer (any_string r)) (is_none (operand r.held) h)

pub row_shorter : (e : Environment) (ts : List ClassToken) (q : Place) (us : List CodePoint) (r : Place) (rest : List CodePoint) → ClassTokenRow e ts q us r rest → length rest ≤ length us
row_shorter e [] q us r rest h = omega (arith, ap length h.1)
row_shorter e (t ∷ ts) q us r rest h = omega (arith, row_shorter e ts (next_place e.mode q t h.1) h.1 r rest h.4, ap length h.2, length-append h.0 h.1)
