-- A class is read as it is spelled: its tokens up to its closer, and the class from them.
use Rattle.std.proofs.Common.{◌≡◌, refl, sym, ap, ap₂, ◌∙◌, subst, ℕ, zero, suc, ◌+◌, ◌-◌, ◌<◌, Bool, true, false, Option, Some, None, List, [], ◌∷◌, ◌++◌, length, drop, arith, append_assoc, length-append}
use Rattle.std.proofs.Math.Seq.{drop-append_seam}
use Rattle.rx_ast.specs.ClassTree.{Class, class}
use Rattle.rx_units.specs.declared.code_point.CodePoint.{CodePoint}
use Rattle.rx_units.proofs.Choices.{Some-inj}
use Rattle.rx_model.specs.Classes.ClassFromTokens.{class_of_tokens}
use Rattle.rx_model.specs.Classes.ClassFronts.{TokenRead, TokensRead, class_token_at, with_token, tokens_on, tokens_from, class_tokens_at, class_in, class_of, class_front}
use Rattle.rx_model.specs.Classes.ClassRows.{outside, fresh, SpellsBracket, SpellsInClass, ClassTokenRow, IsClass}
use Rattle.rx_model.specs.Classes.ClassTokens.{ClassToken, class_tokens}
use Rattle.rx_model.specs.Reading.ElementKinds.{NestedPlace, after_of_class}
use Rattle.rx_model.specs.Inputs.Environment.{Environment}
use Rattle.rx_model.proofs.Classes.ClassFromTokens.{class_is_built}
use Rattle.rx_model.proofs.Classes.TokensOfBuilt.{built_has_tokens}
use Rattle.rx_model.proofs.Classes.ClassEnds.{OfClass, class_ends, none_after_end, row_of_elements}
use Rattle.rx_model.proofs.Classes.ClassFlags.{row_flagged}
use Rattle.rx_model.proofs.Classes.ClassShapes.{class_tokens_by}
use Rattle.rx_model.proofs.Classes.ClassFronts.{class_token_found, class_token_is, token_some}

module _ (e : Environment) where
  after_skipped : (p : NestedPlace) (n : ℕ) (us : List CodePoint) → class_tokens_at e p n us ≡ class_tokens_at e p 0 (drop n us)
  after_skipped p zero us = refl
  after_skipped p (suc n) [] = refl
  after_skipped p (suc n) (u ∷ us) = after_skipped p n us

  -- the tokens from a place on, if there is one
  abbrev tokens_after : Option NestedPlace → List CodePoint → TokensRead
  tokens_after None us = Some ([], 0)
  tokens_after (Some p) us = class_tokens_at e p 0 us

  goes_on : (o : Option NestedPlace) (w rest : List CodePoint) → tokens_on (suc (length w)) o (λ q n. class_tokens_at e q n (w ++ rest)) ≡ tokens_after o rest
  goes_on None w rest = refl
  goes_on (Some p) w rest =
      let less : suc (length w) - 1 ≡ length w = omega arith in
      ap (λ n. class_tokens_at e p n (w ++ rest)) less ∙ after_skipped p (length w) (w ++ rest) ∙ ap (class_tokens_at e p 0) (drop-append_seam w rest)

  -- A token that is spelled is read before the others.
  token_first : (p : NestedPlace) (t : ClassToken) (w rest : List CodePoint) → SpellsInClass e p.1 t w rest →
      class_tokens_at e p 0 (w ++ rest) ≡ with_token t (length w) (tokens_after (after_of_class e (Some p) t rest) rest)
  token_first p t [] rest s = absurd (omega (arith, token_some e p.1 t [] rest s))
  token_first p t (u ∷ w) rest s =
      let n = suc (length w) in
      ap (λ r. tokens_from e p (u ∷ (w ++ rest)) r (λ q n. class_tokens_at e q n (w ++ rest))) (class_token_is e p.1 t (u ∷ w) rest s)
      ∙ ap (λ back. with_token t n (tokens_on n (after_of_class e (Some p) t back) (λ q n. class_tokens_at e q n (w ++ rest)))) (drop-append_seam (u ∷ w) rest)
      ∙ ap (with_token t n) (goes_on (after_of_class e (Some p) t rest) w rest)

  -- tokens that lead to after the closer, spelled → read
  record TokensFront (ts : List ClassToken) (p : NestedPlace) (us rest : List CodePoint) : Type 0 where
    front : List CodePoint
    whole : us ≡ front ++ rest
    some : 0 < length front
    read : class_tokens_at e p 0 us ≡ Some (ts, length front)

  tokens_read : (ts : List ClassToken) (p : NestedPlace) (us rest : List CodePoint) → OfClass e ts (Some p) us None rest → TokensFront ts p us rest
  tokens_read [] p us rest row = absurd (let same = row.0 in let no : ⊥ = cc same in no)
  tokens_read (t ∷ ts) p us rest row = go (after_of_class e (Some p) t row.1) refl row.4 (λ q more. tokens_read ts q row.1 rest more)
    where
      first : class_tokens_at e p 0 us ≡ with_token t (length row.0) (tokens_after (after_of_class e (Some p) t row.1) row.1)
      first = ap (class_tokens_at e p 0) row.2 ∙ token_first p t row.0 row.1 row.3

      go : (o : Option NestedPlace) → after_of_class e (Some p) t row.1 ≡ o → OfClass e ts o row.1 None rest → ((q : NestedPlace) → OfClass e ts (Some q) row.1 None rest → TokensFront ts q row.1 rest) →
          TokensFront (t ∷ ts) p us rest
      go None h more again =
          let n = none_after_end e ts row.1 None rest more in
          record {
            front = row.0;
            whole = row.2 ∙ ap (λ rest. row.0 ++ rest) n.1;
            some = token_some e p.1 t row.0 row.1 row.3;
            read =
                first ∙ ap (λ o. with_token t (length row.0) (tokens_after o row.1)) h
                ∙ ap₂ (λ ts n. Some (t ∷ ts, n)) (sym n.0) (let k : length row.0 + 0 ≡ length row.0 = omega arith in k);
          }
      go (Some q) h more again =
          let f = again q more in
          record {
            front = row.0 ++ f.front;
            whole = row.2 ∙ ap (λ rest. row.0 ++ rest) f.whole ∙ sym (append_assoc row.0 f.front rest);
            some = omega (arith, length-append row.0 f.front, f.some);
            read =
                first ∙ ap (λ o. with_token t (length row.0) (tokens_after o row.1)) h
                ∙ ap (with_token t (length row.0)) f.read
                ∙ ap (λ n. Some (t ∷ ts, n)) (sym (length-append row.0 f.front));
          }

  -- a class, spelled → read
  same_front : (w v rest : List CodePoint) → w ++ rest ≡ v ++ rest → w ≡ v
  same_front [] [] rest h = refl
  same_front [] (x ∷ v) rest h = absurd (omega (arith, ap length h, length-append v rest))
  same_front (u ∷ w) [] rest h = absurd (omega (arith, ap length h, length-append w rest))
  same_front (u ∷ w) (x ∷ v) rest h = ap₂ (λ u w. u ∷ w) (let same : u ≡ x = cc h in same) (same_front w v rest (let k : w ++ rest ≡ v ++ rest = cc h in k))

  pub class_read : (c : Class) (w rest : List CodePoint) → IsClass e c w rest → class_front e (w ++ rest) ≡ Some (c, length w)
  unfolding class_front
  class_read c w rest is =
      let f = tokens_read (class_tokens c) (0, outside) (w ++ rest) rest (class_ends e c w rest is) in
      ap class_of f.read
      ∙ ap (class_in (length f.front)) (class_is_built c is.shape.0 is.shape.1)
      ∙ ap₂ (λ c n. Some (c, n)) is.no_spans (ap length (sym (same_front w f.front rest f.whole)))

  -- No class is spelled by no units.
  pub class_takes_some : (c : Class) (w rest : List CodePoint) → IsClass e c w rest → 0 < length w
  class_takes_some c w rest is =
      let f = tokens_read (class_tokens c) (0, outside) (w ++ rest) rest (class_ends e c w rest is) in
      omega (arith, f.some, ap length f.whole, length-append w rest, length-append f.front rest)

  -- the `[` of a class
  bracket_begins : (negative : Bool) (w rest : List CodePoint) → SpellsBracket negative w rest → (u : CodePoint) × (v : List CodePoint) × (w ≡ u ∷ v) × (u.value ≡ 91)
  bracket_begins true [] rest s = absurd (let no : ⊥ = cc s in no)
  bracket_begins false [] rest s = absurd (let h = s.0 in let no : ⊥ = cc h in no)
  bracket_begins true (u ∷ w) rest s = (u, w, refl, cc s)
  bracket_begins false (u ∷ w) rest s = (u, w, refl, let h = s.0 in cc h)

  pub class_opens : (c : Class) (w rest : List CodePoint) → IsClass e c w rest → (u : CodePoint) × (us : List CodePoint) × (w ++ rest ≡ u ∷ us) × (u.value ≡ 91)
  class_opens (class s negative may kind ms) w rest is =
      let row = subst (λ ts. ClassTokenRow e ts outside (w ++ rest) fresh rest) (class_tokens_by s negative may kind ms) is.row in
      let b = bracket_begins negative row.0 row.1 row.3 in
      (b.0, b.1 ++ row.1, row.2 ∙ ap (λ v. v ++ row.1) b.2, b.3)

  -- tokens that lead to after the closer, read → spelled
  record TokensSpelled (ts : List ClassToken) (p : NestedPlace) (n : ℕ) (us : List CodePoint) : Type 0 where
    front : List CodePoint
    rest : List CodePoint
    whole : us ≡ front ++ rest
    count : length front ≡ n
    row : OfClass e ts (Some p) us None rest

  abbrev Again : List CodePoint → Type 0
  Again us = (p : NestedPlace) (n : ℕ) (ts : List ClassToken) (m : ℕ) → class_tokens_at e p n us ≡ Some (ts, m) → TokensSpelled ts p m (drop n us)

  with_token_is : (t : ClassToken) (n : ℕ) (r : TokensRead) (ts : List ClassToken) (m : ℕ) → with_token t n r ≡ Some (ts, m) → (more : List ClassToken) × (k : ℕ) × (r ≡ Some (more, k)) × (t ∷ more ≡ ts) × (n + k ≡ m)
  with_token_is t n None ts m h = absurd (let no : ⊥ = cc h in no)
  with_token_is t n (Some r) ts m h =
      let same : (t ∷ r.0, n + r.1) ≡ (ts, m) = Some-inj h in (r.0, r.1, refl, ap (λ x. x.0) same, ap (λ x. x.1) same)

  drop_front : (u : CodePoint) (us w rest : List CodePoint) → u ∷ us ≡ w ++ rest → 0 < length w → drop (length w - 1) us ≡ rest
  drop_front u us [] rest h some = absurd (omega (arith, some))
  drop_front u us (x ∷ w) rest h some =
      let same : us ≡ w ++ rest = cc h in
      let less : suc (length w) - 1 ≡ length w = omega arith in
      ap (λ n. drop n us) less ∙ ap (drop (length w)) same ∙ drop-append_seam w rest

  none_read : (ts : List ClassToken) (k : ℕ) → ◌≡◌ {A = TokensRead} (Some ([], 0)) (Some (ts, k)) → ([] ≡ ts) × (0 ≡ k)
  none_read ts k h = (ap (λ (x : List ClassToken × ℕ). x.0) (Some-inj h), ap (λ (x : List ClassToken × ℕ). x.1) (Some-inj h))

  on_found : (u : CodePoint) (us : List CodePoint) (p : NestedPlace) (t : ClassToken) (w rest : List CodePoint) → Again us → u ∷ us ≡ w ++ rest → SpellsInClass e p.1 t w rest →
      (o : Option NestedPlace) → after_of_class e (Some p) t rest ≡ o → (ts : List ClassToken) (k : ℕ) → tokens_on (length w) o (λ q n. class_tokens_at e q n us) ≡ Some (ts, k) → TokensSpelled (t ∷ ts) p (length w + k) (u ∷ us)
  on_found u us p t w rest again whole s None b ts k h =
      let none = none_read ts k h in
      record {
        front = w;
        rest = rest;
        whole = whole;
        count = omega (arith, none.1);
        row = (w, rest, whole, s, subst (λ o. OfClass e ts o rest None rest) (sym b) (subst (λ ts. OfClass e ts None rest None rest) none.0 (refl, refl)));
      }
  on_found u us p t w rest again whole s (Some q) b ts k h =
      let f = again q (length w - 1) ts k h in
      let back : drop (length w - 1) us ≡ rest = drop_front u us w rest whole (token_some e p.1 t w rest s) in
      let tail : rest ≡ f.front ++ f.rest = sym back ∙ f.whole in
      record {
        front = w ++ f.front;
        rest = f.rest;
        whole = whole ∙ ap (λ rest. w ++ rest) tail ∙ sym (append_assoc w f.front f.rest);
        count = omega (arith, length-append w f.front, f.count);
        row = (w, rest, whole, s, subst (λ o. OfClass e ts o rest None f.rest) (sym b) (subst (λ us. OfClass e ts (Some q) us None f.rest) back f.row));
      }

  from_found : (u : CodePoint) (us : List CodePoint) (p : NestedPlace) (ts : List ClassToken) (m : ℕ) → Again us → (r : TokenRead) → class_token_at e p.1 (u ∷ us) ≡ r →
      tokens_from e p (u ∷ us) r (λ q n. class_tokens_at e q n us) ≡ Some (ts, m) → TokensSpelled ts p m (u ∷ us)
  from_found u us p ts m again None f h = absurd (let no : ⊥ = cc h in no)
  from_found u us p ts m again (Some r) f h =
      let g = class_token_found e p.1 (u ∷ us) r.0 r.1 f in
      let k = with_token_is r.0 r.1 (tokens_on r.1 (after_of_class e (Some p) r.0 (drop r.1 (u ∷ us))) (λ q n. class_tokens_at e q n us)) ts m h in
      let seam : drop r.1 (u ∷ us) ≡ g.rest = ap (drop r.1) g.whole ∙ ap (λ n. drop n (g.w ++ g.rest)) (sym g.count) ∙ drop-append_seam g.w g.rest in
      let there = ap₂ (λ n rest. tokens_on n (after_of_class e (Some p) r.0 rest) (λ q n. class_tokens_at e q n us)) g.count (sym seam) ∙ k.2 in
      subst (λ m. TokensSpelled ts p m (u ∷ us)) (ap (λ n. n + k.1) g.count ∙ k.4)
      (subst (λ ts. TokensSpelled ts p (length g.w + k.1) (u ∷ us)) k.3 (on_found u us p r.0 g.w g.rest again g.whole g.spelled (after_of_class e (Some p) r.0 g.rest) refl k.0 k.1 there))

  tokens_found : (us : List CodePoint) → Again us
  tokens_found [] p zero ts m h = absurd (let no : ⊥ = cc h in no)
  tokens_found [] p (suc n) ts m h = absurd (let no : ⊥ = cc h in no)
  tokens_found (u ∷ us) p (suc n) ts m h = tokens_found us p n ts m h
  tokens_found (u ∷ us) p zero ts m h = from_found u us p ts m (λ q n ts m h. tokens_found us q n ts m h) (class_token_at e p.1 (u ∷ us)) refl h

  -- a class that stands at the front, read → spelled
  pub record ClassSpelled (c : Class) (n : ℕ) (us : List CodePoint) : Type 0 where
    pub w : List CodePoint
    pub rest : List CodePoint
    pub whole : us ≡ w ++ rest
    pub count : length w ≡ n
    pub spelled : IsClass e c w rest

  of_tokens : (us : List CodePoint) (r : TokensRead) → class_tokens_at e (0, outside) 0 us ≡ r → (c : Class) (n : ℕ) → class_of r ≡ Some (c, n) → ClassSpelled c n us
  of_tokens us None f c n h = absurd (let no : ⊥ = cc h in no)
  of_tokens us (Some r) f c n h = go (class_of_tokens r.0) refl h
    where
      go : (o : Option Class) → class_of_tokens r.0 ≡ o → class_in r.1 o ≡ Some (c, n) → ClassSpelled c n us
      go None k h = absurd (let no : ⊥ = cc h in no)
      go (Some d) k h =
          let same : (d, r.1) ≡ (c, n) = Some-inj h in
          let g = tokens_found us (0, outside) 0 r.0 r.1 f in
          let row = row_of_elements e r.0 0 outside us g.rest g.row in
          let b = built_has_tokens r.0 c (row_flagged e r.0 outside us fresh g.rest row) (k ∙ ap (λ x. Some x.0) same) in
          record {
            w = g.front;
            rest = g.rest;
            whole = g.whole;
            count = g.count ∙ ap (λ x. x.1) same;
            spelled = record {
              no_spans = b.plain;
              shape = (b.fitting, b.flagged);
              row = subst (λ ts. ClassTokenRow e ts outside (g.front ++ g.rest) fresh g.rest) (sym b.tokens) (subst (λ us. ClassTokenRow e r.0 outside us fresh g.rest) g.whole row);
            };
          }

  pub class_spelled : (us : List CodePoint) (c : Class) (n : ℕ) → class_front e us ≡ Some (c, n) → ClassSpelled c n us
  unfolding class_front
  class_spelled us c n h = of_tokens us (class_tokens_at e (0, outside) 0 us) refl c n h
