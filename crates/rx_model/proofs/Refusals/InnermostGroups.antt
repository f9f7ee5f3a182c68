-- Where a group is open at a place that is reached, the innermost began at such a place, and what stands in it opens and closes groups of its own alone.
use Rattle.std.proofs.Common.{◌≡◌, refl, ap, sym, ◌∙◌, subst, ℕ, ◌-◌, Bool, true, false, Option, Some, None, List, [], ◌∷◌, ◌++◌, length, arith}
use Rattle.std.specs.Prelude.{All}
use Rattle.std.proofs.lemmas.List.Elements.{All-cons, All-head, All-nil, All-tail}
use Rattle.rx_units.specs.declared.code_point.CodePoint.{CodePoint}
use Rattle.rx_model.specs.declared.mode.Mode.{Mode}
use Rattle.rx_model.specs.Inputs.Environment.{Environment}
use Rattle.rx_model.specs.Refusals.Reached.{IsInside, IsReached, text_environment, text_groups, text_names}
use Rattle.rx_model.specs.Reading.Rows.{TokenRow}
use Rattle.rx_model.specs.Trees.Early.{Obeys}
use Rattle.rx_model.specs.Trees.OpenGroups.{AreClosed, further, group, none}
use Rattle.rx_model.specs.Trees.Shapes.{group_takes, run}
use Rattle.rx_model.specs.Trees.Token.{Token, Opener, boundary, character, dot, class_escape, property, class, indexed, named, opener, closer, bar, quantifier}
use Rattle.rx_model.specs.declared.rules.Rules.{Rules}
use Rattle.rx_model.proofs.Refusals.Beyond.{run_in}
use Rattle.rx_model.proofs.Refusals.BlockedPlaces.{last_all}
use Rattle.rx_model.proofs.Refusals.OneStop.{run_none}
use Rattle.rx_model.proofs.Refusals.Places.{row_shorter}
use Rattle.rx_model.proofs.Trees.OpenGroups.{accepted_whole}
use Rattle.rx_model.proofs.Trees.Runs.{run-append}

-- what holds of all holds of the first
pub first_all : {A : Type 0} (P : A → Type 0) (xs ys : List A) → All P (xs ++ ys) → All P xs
first_all P [] ys h = All-nil P
first_all P (x ∷ xs) ys h = All-cons P x xs (All-head P x (xs ++ ys) h) (first_all P xs ys (All-tail P x (xs ++ ys) h))

row_split : (e : Environment) (ts ss : List Token) (us rest : List CodePoint) → TokenRow e (ts ++ ss) us rest → (mid : List CodePoint) × TokenRow e ts us mid × TokenRow e ss mid rest
row_split e [] ss us rest r = (us, refl, r)
row_split e (t ∷ ts) ss us rest r = let s = row_split e ts ss r.1 rest r.4 in (s.0, (r.0, r.1, r.2, r.3, s.1), s.2)

module _ (mode : Mode) (rules : Rules) where
  abbrev state : List Opener → Bool → Option (List Opener × Bool)
  state os ready = Some (os, ready)

  -- the groups and the readiness between two rows of tokens
  record Between (ts ss : List Token) (os : List Opener) (ready : Bool) (end : Option (List Opener × Bool)) : Type 0 where
    groups : List Opener
    between : Bool
    first : run mode ts os ready ≡ state groups between
    second : run mode ss groups between ≡ end

  run_split : (ts ss : List Token) (os : List Opener) (ready : Bool) (after : List Opener) (ready_after : Bool) → run mode (ts ++ ss) os ready ≡ state after ready_after → Between ts ss os ready (state after ready_after)
  run_split ts ss os ready after ready_after h = by (run mode ts os ready) refl
    where
      by : (r : Option (List Opener × Bool)) → run mode ts os ready ≡ r → Between ts ss os ready (state after ready_after)
      by None e = absurd (let no : None ≡ state after ready_after = sym (run_none mode rules ts ss os ready e) ∙ h in let f : ⊥ = cc no in f)
      by (Some r) e = record { groups = r.0; between = r.1; first = e; second = sym (run-append mode ts ss os ready r.0 r.1 e) ∙ h }

  -- Tokens that open and close groups of their own alone leave the same groups open, and are accepted in none.
  record RunsAlone (ts : List Token) (os : List Opener) (ready : Bool) (after : List Opener) (ready_after : Bool) : Type 0 where
    same : after ≡ os
    alone : run mode ts [] ready ≡ state [] ready_after

  told : (os : List Opener) (ready : Bool) (after : List Opener) (ready_after : Bool) → state os ready ≡ state after ready_after → RunsAlone [] os ready after ready_after
  told os ready after ready_after h =
      let here : List Opener × Bool = (os, ready) in
      let there : List Opener × Bool = (after, ready_after) in
      let same : here ≡ there = cc h in
      record { same = sym (ap (λ x. x.0) same); alone = ap (λ (x : List Opener × Bool). state [] x.1) same }

  passes_to : (t : Token) (ts : List Token) (os : List Opener) (ready next : Bool) (after : List Opener) (ready_after : Bool) → run mode (t ∷ ts) [] ready ≡ run mode ts [] next → RunsAlone ts os next after ready_after →
      RunsAlone (t ∷ ts) os ready after ready_after
  passes_to t ts os ready next after ready_after h r = record { same = r.same; alone = h ∙ r.alone }

  closed_alone : (ts : List Token) → AreClosed ts → (os : List Opener) (ready : Bool) (after : List Opener) (ready_after : Bool) → run mode ts os ready ≡ state after ready_after → RunsAlone ts os ready after ready_after
  closed_alone _ none os ready after ready_after h = told os ready after ready_after h
  closed_alone _ (further (opener o) ts i m) os ready after ready_after h = absurd i
  closed_alone _ (further closer ts i m) os ready after ready_after h = absurd i
  closed_alone _ (further bar ts i m) os ready after ready_after h = passes_to bar ts os ready false after ready_after refl (closed_alone ts m os false after ready_after h)
  closed_alone _ (further (quantifier min max greedy) ts i m) os true after ready_after h = passes_to (quantifier min max greedy) ts os true false after ready_after refl (closed_alone ts m os false after ready_after h)
  closed_alone _ (further (quantifier min max greedy) ts i m) os false after ready_after h = absurd (let f : ⊥ = cc h in f)
  closed_alone _ (further (boundary kind) ts i m) os ready after ready_after h = passes_to (boundary kind) ts os ready false after ready_after refl (closed_alone ts m os false after ready_after h)
  closed_alone _ (further dot ts i m) os ready after ready_after h = passes_to dot ts os ready true after ready_after refl (closed_alone ts m os true after ready_after h)
  closed_alone _ (further (character kind value) ts i m) os ready after ready_after h = passes_to (character kind value) ts os ready true after ready_after refl (closed_alone ts m os true after ready_after h)
  closed_alone _ (further (class_escape kind) ts i m) os ready after ready_after h = passes_to (class_escape kind) ts os ready true after ready_after refl (closed_alone ts m os true after ready_after h)
  closed_alone _ (further (property negative strings name value) ts i m) os ready after ready_after h =
      passes_to (property negative strings name value) ts os ready true after ready_after refl (closed_alone ts m os true after ready_after h)
  closed_alone _ (further (class c) ts i m) os ready after ready_after h = passes_to (class c) ts os ready true after ready_after refl (closed_alone ts m os true after ready_after h)
  closed_alone _ (further (indexed n) ts i m) os ready after ready_after h = passes_to (indexed n) ts os ready true after ready_after refl (closed_alone ts m os true after ready_after h)
  closed_alone _ (further (named name) ts i m) os ready after ready_after h = passes_to (named name) ts os ready true after ready_after refl (closed_alone ts m os true after ready_after h)
  closed_alone _ (group o inside more i m) os ready after ready_after h =
      let s = run_split inside (closer ∷ more) (o ∷ os) false after ready_after h in
      let within = closed_alone inside i (o ∷ os) false s.groups s.between s.first in
      let rest : run mode more os (group_takes mode o) ≡ state after ready_after = ap (λ os. run mode (closer ∷ more) os s.between) (sym within.same) ∙ s.second in
      let following = closed_alone more m os (group_takes mode o) after ready_after rest in
      record {
        same = following.same;
        alone = run-append mode inside (closer ∷ more) (o ∷ []) false (o ∷ []) s.between (run_in mode rules inside [] (o ∷ []) false [] s.between within.alone) ∙ following.alone;
      }

  pub innermost : (us : List CodePoint) (place : ℕ) (o : Opener) (os : List Opener) (ready : Bool) (rest : List CodePoint) → IsReached mode rules us place (o ∷ os) ready rest → (from : ℕ) × IsInside mode rules us from o place rest
  innermost us place o os ready rest r =
      let here = text_environment mode rules us in
      let owed = Obeys (text_groups mode us) (text_names mode us) in
      let opens = (accepted_whole mode r.tokens (o ∷ os) ready r.accepted).openers in
      let before = opens.0 in
      let inside = opens.1 in
      let rows = row_split here before (opener o ∷ inside) us rest (subst (λ ts. TokenRow here ts us rest) opens.2 r.row) in
      let runs = run_split before (opener o ∷ inside) [] false (o ∷ os) ready (ap (λ ts. run mode ts [] false) (sym opens.2) ∙ r.accepted) in
      let alone = closed_alone inside opens.4 (o ∷ runs.groups) false (o ∷ os) ready runs.second in
      let obeying = subst (All owed) opens.2 r.obey in
      let short = row_shorter here before us rows.0 rows.1 in (
        length us - length rows.0,
        record {
          open_groups = runs.groups;
          ready = runs.between;
          at_group = rows.0;
          reached = record { tokens = before; row = rows.1; place_is = omega (arith, short); accepted = runs.first; obey = first_all owed before (opener o ∷ inside) obeying };
          inside = inside;
          row = rows.2;
          place_is = r.place_is;
          ready_inside = ready;
          accepted = alone.alone;
          obey = last_all owed before (opener o ∷ inside) obeying;
        },
      )
