-- The units of a quantifier are spelled by that quantifier alone.
use Rattle.std.proofs.Common.{◌≡◌, refl, ap, sym, ◌∙◌, subst, ℕ, ◌==◌, Bool, true, false, Option, Some, None, List, [], ◌∷◌, ◌++◌, append_assoc, append-nil, length, drop}
use Rattle.std.proofs.Math.Seq.{drop-append_seam}
use Rattle.std.proofs.lemmas.Bool.{eqb-true}
use Rattle.rx_ast.specs.declared.term.Pattern.{Pattern}
use Rattle.rx_units.specs.declared.code_point.CodePoint.{CodePoint}
use Rattle.rx_units.specs.Units.{values}
use Rattle.rx_units.specs.Digits.{front_is}
use Rattle.rx_model.specs.declared.mode.Mode.{Mode}
use Rattle.rx_model.specs.Trees.Bodies.{BeginsWithQuantifier, BeginsWithoutQuantifier, AreQuantified}
use Rattle.rx_model.specs.Inputs.Environment.{Environment, environment}
use Rattle.rx_model.specs.Trees.Events.{tokens}
use Rattle.rx_model.specs.Trees.OpenGroups.{EndsQuantifiable}
use Rattle.rx_model.specs.Quantifiers.Quantifiers.{SpellsCounts, IsQuantifier, is_question, lazy_mark}
use Rattle.rx_model.specs.Reading.Reading.{IsSpelled}
use Rattle.rx_model.specs.Reading.Rows.{Spells, TokenRow}
use Rattle.rx_model.specs.Trees.Shapes.{run}
use Rattle.rx_model.specs.Trees.Token.{Token, Opener, quantifier}
use Rattle.rx_model.specs.declared.rules.Rules.{Rules}
use Rattle.rx_model.proofs.Reading.OneRow.{first_token, none_at_end, row_prefix}
use Rattle.rx_model.proofs.Refusals.OneStop.{run_none}
use Rattle.rx_model.proofs.Trees.OpenGroups.{accepted_whole}
use Rattle.rx_model.proofs.Trees.Runs.{pattern_runs, run-append}
use Rattle.rx_model.proofs.Reading.Splits.{split_values}

-- a whole quantifier at the front, with the `?` after it where one stands there
record WholeQuantifier (us : List CodePoint) (min : ℕ) (max : Option ℕ) : Type 0 where
  greedy : Bool
  w : List CodePoint
  rest : List CodePoint
  whole : us ≡ w ++ rest
  spelled : IsQuantifier min max greedy w rest

whole_by : (us : List CodePoint) (min : ℕ) (max : Option ℕ) (prefix rest : List ℕ) (greedy : Bool) → SpellsCounts min max prefix → values us ≡ (prefix ++ lazy_mark greedy) ++ rest →
    (greedy ≡ true → front_is is_question rest ≡ false) → WholeQuantifier us min max
whole_by us min max prefix rest greedy s e alone =
    let p = split_values us (prefix ++ lazy_mark greedy) rest e in
    record {
      greedy = greedy;
      w = p.front;
      rest = p.back;
      whole = p.whole;
      spelled = record { prefix = prefix; counts = s; whole = p.front_is; alone = λ g. ap (front_is is_question) p.back_is ∙ alone g };
    }

whole_of : (us : List CodePoint) (min : ℕ) (max : Option ℕ) (prefix rest : List ℕ) → SpellsCounts min max prefix → values us ≡ prefix ++ rest → WholeQuantifier us min max
whole_of us min max prefix [] s e = whole_by us min max prefix [] true s (e ∙ ap (λ v. v ++ []) (sym (append-nil prefix))) (λ g. refl)
whole_of us min max prefix (c ∷ rest) s e = go (c == 63) refl
  where
    go : (b : Bool) → (c == 63) ≡ b → WholeQuantifier us min max
    go true h = whole_by us min max prefix rest false s (e ∙ ap (λ c. prefix ++ (c ∷ rest)) (eqb-true c 63 h) ∙ sym (append_assoc prefix (63 ∷ []) rest)) (λ g. let no : ⊥ = cc g in absurd no)
    go false h = whole_by us min max prefix (c ∷ rest) true s (e ∙ ap (λ v. v ++ (c ∷ rest)) (sym (append-nil prefix))) (λ g. h)

module _ (e : Environment) where
  same_token : (t : Token) (w rest : List CodePoint) (min : ℕ) (max : Option ℕ) → Spells e t w rest → (q : WholeQuantifier (w ++ rest) min max) → t ≡ quantifier min max q.greedy
  same_token t w rest min max s q = (first_token e tt t (quantifier min max q.greedy) w rest q.w q.rest q.whole s q.spelled).0

  -- A token that begins with the units of a quantifier is one.
  pub only_quantifier : (t : Token) (w rest : List CodePoint) (min : ℕ) (max : Option ℕ) → Spells e t w rest → BeginsWithQuantifier (w ++ rest) min max →
      (greedy : Bool) × (t ≡ quantifier min max greedy)
  only_quantifier t w rest min max s b =
      let q = whole_of (w ++ rest) min max b.prefix b.rest b.spelled b.whole in (q.greedy, same_token t w rest min max s q)

  -- of the tokens that a text is the first is that quantifier
  first_quantifier : (ts : List Token) (us : List CodePoint) (min : ℕ) (max : Option ℕ) → TokenRow e ts us [] → BeginsWithQuantifier us min max →
      (greedy : Bool) × (more : List Token) × (ts ≡ quantifier min max greedy ∷ more)
  first_quantifier [] us min max r b =
      let q = whole_of us min max b.prefix b.rest b.spelled b.whole in absurd (none_at_end e tt us r (quantifier min max q.greedy) q.w q.rest q.whole q.spelled)
  first_quantifier (t ∷ ts) us min max r b =
      let o = only_quantifier t r.0 r.1 min max r.3 (subst (λ us. BeginsWithQuantifier us min max) r.2 b) in (o.0, ts, ap (λ t. t ∷ ts) o.1)

same_after : (before after more : List Token) → before ++ after ≡ before ++ more → after ≡ more
same_after before after more h = sym (drop-append_seam before after) ∙ ap (drop (length before)) h ∙ drop-append_seam before more

module _ (mode : Mode) (rules : Rules) where
  -- Before a quantifier stands what it may follow.
  ready_before : (before more : List Token) (min : ℕ) (max : Option ℕ) (greedy : Bool) (end : List Opener × Bool) → run mode (before ++ (quantifier min max greedy ∷ more)) [] false ≡ Some end →
      EndsQuantifiable mode before
  ready_before before more min max greedy end h = go (run mode before [] false) refl
    where
      following : (os : List Opener) (ready : Bool) → run mode before [] false ≡ Some (os, ready) → run mode (quantifier min max greedy ∷ more) os ready ≡ Some end → EndsQuantifiable mode before
      following os true e r = (accepted_whole mode before os true e).ends refl
      following os false e r = absurd (let no : ⊥ = cc r in no)

      go : (o : Option (List Opener × Bool)) → run mode before [] false ≡ o → EndsQuantifiable mode before
      go None e = absurd (let none = run_none mode rules before (quantifier min max greedy ∷ more) [] false e in let no : ⊥ = cc (none, h) in no)
      go (Some (os, ready)) e = following os ready e (sym (run-append mode before (quantifier min max greedy ∷ more) [] false os ready e) ∙ h)

  pub quantified_next : (p : Pattern) (us : List CodePoint) → IsSpelled mode rules p us → (before after : List Token) (rest : List CodePoint) (min : ℕ) (max : Option ℕ) → tokens p ≡ before ++ after →
      TokenRow (environment mode rules p) before us rest → BeginsWithQuantifier rest min max → AreQuantified mode before after min max
  quantified_next p us s before after rest min max whole r b =
      let x = row_prefix (environment mode rules p) before (tokens p) us rest r s.row in
      let q = first_quantifier (environment mode rules p) x.0 rest min max x.2 b in
      let next = same_after before after x.0 (sym whole ∙ x.1) ∙ q.2 in
      let ran = pattern_runs mode p s.shape in
      record {
        greedy = q.0;
        more = q.1;
        next = next;
        body = ready_before before q.1 min max q.0 ([], ran.0) (ap (λ ts. run mode ts [] false) (ap (λ ts. before ++ ts) (sym next) ∙ sym whole) ∙ ran.1);
      }

  pub no_quantifier_next : (p : Pattern) (us : List CodePoint) → IsSpelled mode rules p us → (before after : List Token) (rest : List CodePoint) → tokens p ≡ before ++ after →
      TokenRow (environment mode rules p) before us rest → BeginsWithoutQuantifier after → (min : ℕ) (max : Option ℕ) → BeginsWithQuantifier rest min max → ⊥
  no_quantifier_next p us s before after rest whole r without min max b =
      let q = quantified_next p us s before after rest min max whole r b in subst BeginsWithoutQuantifier q.next without
