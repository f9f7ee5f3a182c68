-- Places that are reached, one before another.
use Rattle.std.proofs.Common.{◌≡◌, refl, ap, sym, ◌∙◌, subst, ℕ, ◌<◌, ◌≤◌, Bool, false, Option, Some, List, [], ◌∷◌, ◌++◌, length, arith, inl, inr, length-append, append-nil}
use Rattle.rx_ast.specs.declared.term.Pattern.{Pattern}
use Rattle.rx_units.specs.declared.code_point.CodePoint.{CodePoint}
use Rattle.rx_units.proofs.Choices.{Some-inj}
use Rattle.rx_model.specs.declared.mode.Mode.{Mode}
use Rattle.rx_model.specs.Trees.Early.{Obeys}
use Rattle.rx_model.specs.Inputs.Environment.{Environment}
use Rattle.rx_model.specs.Trees.Events.{tokens}
use Rattle.rx_model.specs.Refusals.Reached.{AreObeying, IsReached, text_environment, text_groups, text_names}
use Rattle.rx_model.specs.Reading.Reading.{Reads}
use Rattle.rx_model.specs.Reading.Rows.{TokenRow}
use Rattle.rx_model.specs.Trees.Shapes.{run}
use Rattle.rx_model.specs.Trees.Token.{Token, Opener}
use Rattle.rx_model.specs.declared.rules.Rules.{Rules}
use Rattle.rx_model.proofs.Refusals.BlockedPlaces.{last_all, tree_obeys}
use Rattle.rx_model.proofs.Reading.Fronts.{spelled_some}
use Rattle.rx_model.proofs.FirstPass.OwnGroups.{own_environment}
use Rattle.rx_model.proofs.Reading.Prefixes.{prefixes}
use Rattle.rx_model.proofs.Trees.Runs.{pattern_runs, run-append}

module _ (e : Environment) where
  pub row_shorter : (ts : List Token) (us rest : List CodePoint) → TokenRow e ts us rest → length rest ≤ length us
  row_shorter [] us rest r = omega (arith, ap length r)
  row_shorter (t ∷ ts) us rest r = omega (arith, row_shorter ts r.1 rest r.4, ap length r.2, length-append r.0 r.1)

  -- A row that leaves all units has no token.
  pub row_same : (ts : List Token) (us rest : List CodePoint) → TokenRow e ts us rest → length us ≡ length rest → (ts ≡ []) × (us ≡ rest)
  row_same [] us rest r l = (refl, r)
  row_same (t ∷ ts) us rest r l = absurd (omega (arith, spelled_some e t r.0 r.1 r.3, row_shorter ts r.1 rest r.4, ap length r.2, length-append r.0 r.1, l))

-- Tokens, one at least, lead from one place to another.
pub record GoesAhead (mode : Mode) (rules : Rules) (us : List CodePoint) (open_groups : List Opener) (ready : Bool) (rest : List CodePoint) (open_after : List Opener) (ready_after : Bool) (back : List CodePoint) : Type 0 where
  pub t : Token
  pub more : List Token
  pub row : TokenRow (text_environment mode rules us) (t ∷ more) rest back
  pub accepted : run mode (t ∷ more) open_groups ready ≡ Some (open_after, ready_after)
  pub obey : AreObeying mode us (t ∷ more)

module _ (mode : Mode) (rules : Rules) (us : List CodePoint) where
  abbrev here : Environment
  here = text_environment mode rules us

  -- from a place that is reached to one beyond it
  pub ahead : {f g : ℕ} {open_groups open_after : List Opener} {ready ready_after : Bool} {rest back : List CodePoint} → IsReached mode rules us f open_groups ready rest → IsReached mode rules us g open_after ready_after back →
      f < g → GoesAhead mode rules us open_groups ready rest open_after ready_after back
  ahead {f} {g} {open_groups} {open_after} {ready} {ready_after} {rest} {back} a b l = elim (prefixes here a.tokens b.tokens us rest back a.row b.row) [
    | inl p ↦ go p.0 p.1 p.2
    | inr p ↦ absurd (omega (arith, row_shorter here p.0 back rest p.2, a.place_is, b.place_is, l))
  ]
    where
      go : (xs : List Token) → b.tokens ≡ a.tokens ++ xs → TokenRow here xs rest back → GoesAhead mode rules us open_groups ready rest open_after ready_after back
      go [] e r = absurd (omega (arith, ap length r, a.place_is, b.place_is, l))
      go (t ∷ more) e r = record {
        t = t;
        more = more;
        row = r;
        accepted = sym (run-append mode a.tokens (t ∷ more) [] false open_groups ready a.accepted) ∙ ap (λ ts. run mode ts [] false) (sym e) ∙ b.accepted;
        obey = last_all (Obeys (text_groups mode us) (text_names mode us)) a.tokens (t ∷ more) (subst (AreObeying mode us) e b.obey);
      }

  -- What holds at one place.
  pub record IsSamePlace (open_groups : List Opener) (ready : Bool) (rest : List CodePoint) (open_after : List Opener) (ready_after : Bool) (back : List CodePoint) (ts ss : List Token) : Type 0 where
    pub open_is : open_groups ≡ open_after
    pub ready_is : ready ≡ ready_after
    pub rest_is : rest ≡ back
    pub tokens_are : ts ≡ ss

  abbrev state : List Opener → Bool → Option (List Opener × Bool)
  state open_groups ready = Some (open_groups, ready)

  same_state : (os ps : List Opener) (q r : Bool) → state os q ≡ state ps r → (os ≡ ps) × (q ≡ r)
  same_state os ps q r h =
      let here : List Opener × Bool = (os, q) in
      let there : List Opener × Bool = (ps, r) in
      let k : here ≡ there = Some-inj h in
      (ap (λ x. x.0) k, ap (λ x. x.1) k)

  pub same_place : {f g : ℕ} {open_groups open_after : List Opener} {ready ready_after : Bool} {rest back : List CodePoint} → (a : IsReached mode rules us f open_groups ready rest) → (b : IsReached mode rules us g open_after ready_after back) →
      f ≡ g → IsSamePlace open_groups ready rest open_after ready_after back a.tokens b.tokens
  same_place {f} {g} {open_groups} {open_after} {ready} {ready_after} {rest} {back} a b l = elim (prefixes here a.tokens b.tokens us rest back a.row b.row) [
    | inl p ↦
        let s = row_same here p.0 rest back p.2 (omega (arith, a.place_is, b.place_is, l)) in
        let same : b.tokens ≡ a.tokens = p.1 ∙ ap (λ xs. a.tokens ++ xs) s.0 ∙ append-nil a.tokens in
        by (sym same) s.1
    | inr p ↦
        let s = row_same here p.0 back rest p.2 (omega (arith, a.place_is, b.place_is, l)) in
        let same : a.tokens ≡ b.tokens = p.1 ∙ ap (λ xs. b.tokens ++ xs) s.0 ∙ append-nil b.tokens in
        by same (sym s.1)
  ]
    where
      by : a.tokens ≡ b.tokens → rest ≡ back → IsSamePlace open_groups ready rest open_after ready_after back a.tokens b.tokens
      by e r =
          let s = same_state open_groups open_after ready ready_after (sym a.accepted ∙ ap (λ ts. run mode ts [] false) e ∙ b.accepted) in
          record { open_is = s.0; ready_is = s.1; rest_is = r; tokens_are = e }

  -- Where a text reads as a tree its end is reached, with no group open.
  pub read_to_end : (p : Pattern) → Reads mode rules p us → (ready : Bool) × IsReached mode rules us (length us) [] ready []
  read_to_end p r =
      let runs = pattern_runs mode p r.spelled.shape in (
        runs.0,
        record {
          tokens = tokens p;
          row = subst (λ e. TokenRow e (tokens p) us []) (sym (own_environment mode rules p us r.spelled)) r.spelled.row;
          place_is = omega arith;
          accepted = runs.1;
          obey = tree_obeys mode rules us p r;
        },
      )
