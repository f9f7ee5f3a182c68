-- Of the refusals of what does not end at most one holds at a place: the innermost open group is determined.
use Rattle.std.proofs.Common.{◌≡◌, refl, ap, sym, ◌∙◌, subst, ℕ, ◌+◌, Bool, true, false, Option, Some, None, List, [], ◌∷◌, ◌++◌, length, arith, inl, inr, length-append}
use Rattle.rx_base.specs.declared.diagnostic.Diagnostic.{Diagnostic}
use Rattle.rx_base.specs.declared.diagnostic.Diagnostic.TheVariants.{ParsePatternIncomplete, UnterminatedPattern}
use Rattle.rx_units.specs.declared.code_point.CodePoint.{CodePoint}
use Rattle.rx_units.proofs.Choices.{Some-inj}
use Rattle.rx_model.specs.declared.mode.Mode.{Mode}
use Rattle.rx_model.specs.Refusals.Causes.{unterminated}
use Rattle.rx_model.specs.Inputs.Environment.{Environment}
use Rattle.rx_model.specs.Refusals.Reached.{IsInside, IsReached, span_between, text_environment}
use Rattle.rx_model.specs.Reading.Rows.{TokenRow}
use Rattle.rx_model.specs.Trees.Shapes.{run, group_takes}
use Rattle.rx_model.specs.Refusals.Stops.{IsStop}
use Rattle.rx_model.specs.Trees.Token.{Token, Opener, boundary, character, dot, class_escape, property, class, indexed, named, opener, closer, bar, quantifier}
use Rattle.rx_model.specs.declared.rules.Rules.{Rules}
use Rattle.rx_model.proofs.Refusals.Beyond.{inside_reached, run_in}
use Rattle.rx_model.proofs.Refusals.Faults.{stop_units}
use Rattle.rx_model.proofs.Refusals.Places.{same_place}
use Rattle.rx_model.proofs.Reading.Prefixes.{prefixes}
use Rattle.rx_model.proofs.Trees.Runs.{run-append}

-- The same tokens leave the same.
nothing_more : (ts xs : List Token) → ts ≡ ts ++ xs → xs ≡ []
nothing_more ts [] e = refl
nothing_more ts (x ∷ xs) e = absurd (omega (arith, ap length e, length-append ts (x ∷ xs)))

same_rest : (e : Environment) (ts : List Token) (us a b : List CodePoint) → TokenRow e ts us a → TokenRow e ts us b → a ≡ b
same_rest e ts us a b r s = elim (prefixes e ts ts us a b r s) [
  | inl p ↦ subst (λ xs. TokenRow e xs a b) (nothing_more ts p.0 p.1) p.2
  | inr p ↦ sym (subst (λ xs. TokenRow e xs b a) (nothing_more ts p.0 p.1) p.2)
]

module _ (mode : Mode) (rules : Rules) where
  pub run_none : (ts ss : List Token) (os : List Opener) (ready : Bool) → run mode ts os ready ≡ None → run mode (ts ++ ss) os ready ≡ None
  run_none [] ss os ready h = absurd (let no : ⊥ = cc h in no)
  run_none (closer ∷ ts) ss [] ready h = refl
  run_none (closer ∷ ts) ss (o ∷ os) ready h = run_none ts ss os (group_takes mode o) h
  run_none ((opener o) ∷ ts) ss os ready h = run_none ts ss (o ∷ os) false h
  run_none (bar ∷ ts) ss os ready h = run_none ts ss os false h
  run_none ((quantifier min max greedy) ∷ ts) ss os true h = run_none ts ss os false h
  run_none ((quantifier min max greedy) ∷ ts) ss os false h = refl
  run_none ((boundary kind) ∷ ts) ss os ready h = run_none ts ss os false h
  run_none (dot ∷ ts) ss os ready h = run_none ts ss os true h
  run_none ((character kind value) ∷ ts) ss os ready h = run_none ts ss os true h
  run_none ((class_escape kind) ∷ ts) ss os ready h = run_none ts ss os true h
  run_none ((property negative strings name value) ∷ ts) ss os ready h = run_none ts ss os true h
  run_none ((class c) ∷ ts) ss os ready h = run_none ts ss os true h
  run_none ((indexed n) ∷ ts) ss os ready h = run_none ts ss os true h
  run_none ((named name) ∷ ts) ss os ready h = run_none ts ss os true h

  abbrev state : List Opener → Bool → Option (List Opener × Bool)
  state os ready = Some (os, ready)

  -- Tokens that open a group which nothing closes leave a group open.
  still_open : (ts : List Token) (o : Opener) (ss : List Token) (os : List Opener) (ready after ended : Bool) → run mode (ts ++ (opener o ∷ ss)) os ready ≡ state [] after → run mode ss [] false ≡ state [] ended → ⊥
  still_open ts o ss os ready after ended h k = go (run mode ts os ready) refl
    where
      go : (r : Option (List Opener × Bool)) → run mode ts os ready ≡ r → ⊥
      go None e = let no : None ≡ state [] after = sym (run_none ts (opener o ∷ ss) os ready e) ∙ h in cc no
      go (Some r) e =
          let no : state (o ∷ r.0) ended ≡ state [] after = sym (run_in mode rules ss [] (o ∷ r.0) false [] ended k) ∙ sym (run-append mode ts (opener o ∷ ss) os ready r.0 r.1 e) ∙ h in
          let none : o ∷ r.0 ≡ [] = ap (λ x. x.0) (Some-inj no) in
          cc none

  -- The last opener that nothing closes is determined.
  record IsOneOpener (ts ss : List Token) (o p : Opener) : Type 0 where
    before : ts ≡ ss
    openers : o ≡ p

  one_opener : (ts us ss vs : List Token) (o p : Opener) (after ended : Bool) → ts ++ (opener o ∷ us) ≡ ss ++ (opener p ∷ vs) → run mode us [] false ≡ state [] after → run mode vs [] false ≡ state [] ended → IsOneOpener ts ss o p
  one_opener [] us [] vs o p after ended e h k = record { before = refl; openers = cc e }
  one_opener [] us (s ∷ ss) vs o p after ended e h k =
      let there : us ≡ ss ++ (opener p ∷ vs) = cc e in
      absurd (still_open ss p vs [] false after ended (ap (λ ts. run mode ts [] false) (sym there) ∙ h) k)
  one_opener (t ∷ ts) us [] vs o p after ended e h k =
      let there : ts ++ (opener o ∷ us) ≡ vs = cc e in
      absurd (still_open ts o us [] false ended after (ap (λ ts. run mode ts [] false) there ∙ k) h)
  one_opener (t ∷ ts) us (s ∷ ss) vs o p after ended e h k =
      let first : t ≡ s = cc e in
      let i = one_opener ts us ss vs o p after ended (cc e) h k in
      record { before = ap (λ t. t ∷ ts) first ∙ ap (λ ts. s ∷ ts) i.before; openers = i.openers }

module _ (mode : Mode) (rules : Rules) (us : List CodePoint) (start added : ℕ) where
  abbrev here : Environment
  here = text_environment mode rules us

  -- the refusals of what does not end, at a place that is reached
  pub data StopRow (f : ℕ) (rest : List CodePoint) : Diagnostic → Type 0 where
    outside : (i : ℕ) (ready : Bool) → IsReached mode rules us f [] ready rest → IsStop here rest i → StopRow f rest (ParsePatternIncomplete (span_between us start added (f + i) (f + i)))
    inside : (from i : ℕ) (group : Opener) → IsInside mode rules us from group f rest → IsStop here rest i → StopRow f rest (UnterminatedPattern (span_between us start added from (f + i)) (unterminated group))

  record IsSameGroup (from other : ℕ) (group also : Opener) : Type 0 where
    places : from ≡ other
    groups : group ≡ also

  same_group : (from other f : ℕ) (group also : Opener) (rest : List CodePoint) → IsInside mode rules us from group f rest → IsInside mode rules us other also f rest → IsSameGroup from other group also
  same_group from other f group also rest i j =
      let s = same_place mode rules us (inside_reached mode rules us from group f rest i) (inside_reached mode rules us other also f rest j) refl in
      let o = one_opener mode rules i.reached.tokens i.inside j.reached.tokens j.inside group also i.ready_inside j.ready_inside s.tokens_are i.accepted j.accepted in
      let back = same_rest here j.reached.tokens us i.at_group j.at_group (subst (λ ts. TokenRow here ts us i.at_group) o.before i.reached.row) j.reached.row in
      record { places = omega (arith, ap length back, i.reached.place_is, j.reached.place_is); groups = o.openers }

  pub stops_at : {f : ℕ} {rest : List CodePoint} {d : Diagnostic} → StopRow f rest d → (i : ℕ) × IsStop here rest i
  stops_at (outside i ready r s) = (i, s)
  stops_at (inside from i group g s) = (i, s)

  same_units : (i j : ℕ) (rest : List CodePoint) → IsStop here rest i → IsStop here rest j → i ≡ j
  same_units i j rest s t = stop_units mode rules us start added i rest s ∙ sym (stop_units mode rules us start added j rest t)

  pub one_stop : (f : ℕ) (rest : List CodePoint) (d e : Diagnostic) → StopRow f rest d → StopRow f rest e → d ≡ e
  one_stop f rest _ _ (outside i ready r s) (outside j also q t) = ap (λ i. ParsePatternIncomplete (span_between us start added (f + i) (f + i))) (same_units i j rest s t)
  one_stop f rest _ _ (outside i ready r s) (inside from j group g t) =
      let o = (same_place mode rules us r (inside_reached mode rules us from group f rest g) refl).open_is in absurd (let no : ⊥ = cc o in no)
  one_stop f rest _ _ (inside from j group g t) (outside i ready r s) =
      let o = (same_place mode rules us r (inside_reached mode rules us from group f rest g) refl).open_is in absurd (let no : ⊥ = cc o in no)
  one_stop f rest _ _ (inside from i group g s) (inside other j also h t) =
      let k = same_group from other f group also rest g h in
      ap (λ i. UnterminatedPattern (span_between us start added from (f + i)) (unterminated group)) (same_units i j rest s t)
      ∙ ap (λ from. UnterminatedPattern (span_between us start added from (f + j)) (unterminated group)) k.places
      ∙ ap (λ group. UnterminatedPattern (span_between us start added other (f + j)) (unterminated group)) k.groups
