-- What is built stays well made.
use Rattle.std.proofs.Common.{◌≡◌, ap, sym, ◌∙◌, subst, true, List, [], ◌∷◌, ◌++◌, map}
use Rattle.rx_parser.proofs.Common.{Span, Term, Alternative, Disjunction, out-Disjunction, Quantifier, nodes, alternatives, mirror_term, mirror_alternative, mirror_disjunction, Mode, takes, IsNode, AreNodes, HasAlternatives, AreAlternatives, Level, Frame, Builder, IsGoodTerm, IsGoodAlternative}
use Rattle.rx_parser.proofs.Common.{IsGoodDisjunction, IsGoodFrame, AreGoodTerms, AreGoodAlternatives, IsGoodLevel, AreGoodFrames, IsGood}
use Rattle.std.specs.declared.boxed.Box.{Box}
use Rattle.std.specs.declared.alloc.Global.{Global}
use Rattle.std.specs.List.{AllByRecursion}
use Rattle.rx_ast.specs.declared.term.Term.TheVariants as variant
use Rattle.rx_ast.specs.Tree as tree
use Rattle.rx_ast.proofs.Equations as mirror

-- one more of which it holds, and the last
push : {X : Type 0} (P : X → Type 0) (xs : List X) (x : X) → AllByRecursion P xs → P x → AllByRecursion P (xs ++ (x ∷ []))
push P [] x h g = (g, tt)
push P (y ∷ xs) x h g = (h.0, push P xs x h.1 g)

pub split : {X : Type 0} (P : X → Type 0) (xs : List X) (x : X) → AllByRecursion P (xs ++ (x ∷ [])) → AllByRecursion P xs × P x
split P [] x h = (tt, h.0)
split P (y ∷ xs) x h = let s = split P xs x h.1 in ((h.0, s.0), s.1)

module _ (mode : Mode) where
  terms_nodes : (ts : List Term) → AreGoodTerms mode ts → AreNodes mode (nodes (map mirror_term ts))
  terms_nodes [] h = tt
  terms_nodes (t ∷ ts) h = (h.0, terms_nodes ts h.1)

  alternative_good : (a : Alternative) → AreGoodTerms mode a.body → AreNodes mode (mirror_alternative a).1
  alternative_good a h = subst (λ l. AreNodes mode l.1) (sym (mirror.alternative_is a)) (terms_nodes a.body h)

  more_good : (all : List Alternative) → AreGoodAlternatives mode all → AreAlternatives mode (alternatives (map mirror_alternative all))
  more_good [] h = tt
  more_good (a ∷ all) h = (h.0, more_good all h.1)

  alternatives_good : (all : List Alternative) (a : Alternative) → AreGoodAlternatives mode (all ++ (a ∷ [])) → HasAlternatives mode (alternatives (map mirror_alternative (all ++ (a ∷ []))))
  alternatives_good [] a h = (h.0, tt)
  alternatives_good (b ∷ all) a h = (h.0, more_good (all ++ (a ∷ [])) h.1)

  pub good_new : (l : Level) → l.alternatives ≡ [] → l.terms ≡ [] → IsGoodLevel mode l
  unfolding IsGoodLevel
  good_new l a t = (subst (AreGoodAlternatives mode) (sym a) tt, subst (AreGoodTerms mode) (sym t) tt)

  pub good_push : (l : Level) (ts : List Term) (t : Term) → ts ≡ l.terms ++ (t ∷ []) → IsGoodLevel mode l → IsGoodTerm mode t → IsGoodLevel mode (record l { terms = ts })
  unfolding IsGoodLevel
  good_push l ts t e h g = (h.0, subst (AreGoodTerms mode) (sym e) (push (IsGoodTerm mode) l.terms t h.1 g))

  pub good_bar : (l m : Level) (a : Alternative) → m.alternatives ≡ l.alternatives ++ (a ∷ []) → m.terms ≡ [] → a.body ≡ l.terms → IsGoodLevel mode l → IsGoodLevel mode m
  unfolding IsGoodLevel
  good_bar l m a e f b h =
      (subst (AreGoodAlternatives mode) (sym e) (push (IsGoodAlternative mode) l.alternatives a h.0 (alternative_good a (subst (AreGoodTerms mode) (sym b) h.1))), subst (AreGoodTerms mode) (sym f) tt)

  pub good_finish : (l : Level) (d : Disjunction) (a : Alternative) → (out-Disjunction d).body ≡ l.alternatives ++ (a ∷ []) → a.body ≡ l.terms → IsGoodLevel mode l → IsGoodDisjunction mode d
  unfolding IsGoodLevel
  good_finish l d a e b h =
      subst (λ c. HasAlternatives mode c.1) (sym (mirror.disjunction_is d))
      (subst (λ z. HasAlternatives mode (alternatives (map mirror_alternative z))) (sym e)
      (alternatives_good l.alternatives a (push (IsGoodAlternative mode) l.alternatives a h.0 (alternative_good a (subst (AreGoodTerms mode) (sym b) h.1)))))

  pub good_repeat : (l : Level) (ts us : List Term) (t : Term) (q : Box Quantifier Global) → l.terms ≡ ts ++ (t ∷ []) → us ≡ ts ++ (variant.Quantifier q ∷ []) → q.value.body ≡ t
      → takes mode (mirror_term t) ≡ true → IsGoodLevel mode l → IsGoodLevel mode (record l { terms = us })
  unfolding IsGoodLevel
  good_repeat l ts us t q e f b k h =
      let s = split (IsGoodTerm mode) ts t (subst (AreGoodTerms mode) e h.1) in
      let body : IsGoodTerm mode (variant.Quantifier q) =
      subst (IsNode mode) (sym (mirror.tree_of_quantifier q)) (ap (λ z. takes mode (mirror_term z)) b ∙ k, subst (IsGoodTerm mode) (sym b) s.1) in
      (h.0, subst (AreGoodTerms mode) (sym f) (push (IsGoodTerm mode) ts (variant.Quantifier q) s.0 body))

  pub good_group : (t : Term) (s : Span) (o : tree.Opener) (d : Disjunction) → mirror_term t ≡ tree.group s o (mirror_disjunction d).0 (mirror_disjunction d).1 → IsGoodDisjunction mode d → IsGoodTerm mode t
  good_group t s o d e h = subst (IsNode mode) (sym e) h

pub good_start : (b : Builder) → b.frames ≡ [] → IsGoodLevel b.mode b.level → IsGood b
unfolding IsGood
good_start b e h = (subst (AreGoodFrames b.mode) (sym e) tt, h)

pub good_level : (b : Builder) (l : Level) → (IsGoodLevel b.mode b.level → IsGoodLevel b.mode l) → IsGood b → IsGood (record b { level = l })
unfolding IsGood
good_level b l f h = (h.0, f h.1)

pub good_open : (b : Builder) (fs : List Frame) (f : Frame) (l : Level) → fs ≡ b.frames ++ (f ∷ []) → f.outer ≡ b.level → IsGoodLevel b.mode l → IsGood b → IsGood (record b { frames = fs; level = l })
unfolding IsGood
good_open b fs f l e o g h = (subst (AreGoodFrames b.mode) (sym e) (push (IsGoodFrame b.mode) b.frames f h.0 (subst (IsGoodLevel b.mode) (sym o) h.1)), g)

pub good_close : (b : Builder) (fs : List Frame) (f : Frame) (l : Level) → b.frames ≡ fs ++ (f ∷ []) → (IsGoodLevel b.mode b.level → IsGoodLevel b.mode f.outer → IsGoodLevel b.mode l)
    → IsGood b → IsGood (record b { frames = fs; level = l })
unfolding IsGood
good_close b fs f l e k h = let s = split (IsGoodFrame b.mode) fs f (subst (AreGoodFrames b.mode) e h.0) in (s.0, k h.1 s.1)

pub good_whole : (b : Builder) → IsGood b → IsGoodLevel b.mode b.level
unfolding IsGood
good_whole b h = h.1
