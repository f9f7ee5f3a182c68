-- What `run` accepts: which groups are open after some tokens, and what a quantifier may stand after.
use Rattle.std.proofs.Common.{◌≡◌, refl, sym, ap, ◌∙◌, subst, Bool, true, false, Option, Some, List, [], ◌∷◌, ◌++◌, append_assoc, append-nil}
use Rattle.rx_ast.specs.declared.leaf.LookAroundAssertionKind.{LookAroundAssertionKind}
use Rattle.rx_ast.specs.declared.leaf.LookAroundAssertionKind.TheVariants.{Lookahead, NegativeLookahead}
use Rattle.rx_model.specs.declared.mode.Mode.{Mode}
use Rattle.rx_model.specs.declared.mode.Mode.TheVariants.{Legacy, Unicode, Sets}
use Rattle.rx_model.specs.Trees.OpenGroups.{AreClosed, none, further, group, AreOpen, IsAtom, IsBetween, IsQuantifiable, atom, of_group, EndsQuantifiable, TakesQuantifier, of_capturing, of_ignoring, of_lookahead, of_negative_lookahead}
use Rattle.rx_model.specs.Trees.Shapes.{group_takes, look_takes, run}
use Rattle.rx_model.specs.Trees.Token.{Token, Opener, boundary, character, dot, class_escape, property, class, indexed, named, opener, closer, bar, quantifier, capturing, ignoring, looking}

closed-append : {ts : List Token} (bs : List Token) → AreClosed ts → AreClosed bs → AreClosed (ts ++ bs)
closed-append bs none b = b
closed-append bs (further t more i m) b = further t (more ++ bs) i (closed-append bs m b)
closed-append bs (group o inside more i m) b =
    subst (λ ts. AreClosed (opener o ∷ ts)) (sym (append_assoc inside (closer ∷ more) bs)) (group o inside (more ++ bs) i (closed-append bs m b))

-- What closes after it leaves the same groups open.
open-append : (os : List Opener) (ts bs : List Token) → AreOpen os ts → AreClosed bs → AreOpen os (ts ++ bs)
open-append [] ts bs h b = closed-append bs h b
open-append (o ∷ os) ts bs h b =
    (h.0, h.1 ++ bs, ap (λ x. x ++ bs) h.2 ∙ append_assoc h.0 (opener o ∷ h.1) bs, h.3, closed-append bs h.4 b)

open_between : (os : List Opener) (ts : List Token) (t : Token) → IsBetween t → AreOpen os ts → AreOpen os (ts ++ (t ∷ []))
open_between os ts t i h = open-append os ts (t ∷ []) h (further t [] i none)

open_closed : (o : Opener) (os : List Opener) (ts : List Token) → AreOpen (o ∷ os) ts → AreOpen os (ts ++ (closer ∷ []))
open_closed o os ts h =
    subst (AreOpen os) (sym (ap (λ x. x ++ (closer ∷ [])) h.2 ∙ append_assoc h.0 (opener o ∷ h.1) (closer ∷ [])))
    (open-append os h.0 (opener o ∷ (h.1 ++ (closer ∷ []))) h.3 (group o h.1 [] h.4 none))

told : (os : List Opener) (ready : Bool) (after : List Opener) (ready_after : Bool) → ◌≡◌ {A = Option (List Opener × Bool)} (Some (os, ready)) (Some (after, ready_after)) → ready_after ≡ ready
told os ready after ready_after e =
    let here : List Opener × Bool = (os, ready) in
    let there : List Opener × Bool = (after, ready_after) in
    let p : here ≡ there = cc e in ap (λ x. x.1) (sym p)

module _ (mode : Mode) where
  look_is : (m : Mode) (kind : LookAroundAssertionKind) → look_takes m kind ≡ true → TakesQuantifier m (looking kind)
  look_is Unicode kind e = absurd (let no : ⊥ = cc e in no)
  look_is Sets kind e = absurd (let no : ⊥ = cc e in no)
  look_is Legacy Lookahead e = of_lookahead refl
  look_is Legacy NegativeLookahead e = of_negative_lookahead refl
  look_is Legacy q e = absurd (let no : ⊥ = cc e in no)

  opener_is : (o : Opener) → group_takes mode o ≡ true → TakesQuantifier mode o
  opener_is (capturing name) e = of_capturing name
  opener_is (ignoring bits) e = of_ignoring bits
  opener_is (looking kind) e = look_is mode kind e

  opener_takes : (o : Opener) → TakesQuantifier mode o → group_takes mode o ≡ true
  opener_takes _ (of_capturing name) = refl
  opener_takes _ (of_ignoring bits) = refl
  opener_takes _ (of_lookahead e) = ap (λ m. look_takes m Lookahead) e
  opener_takes _ (of_negative_lookahead e) = ap (λ m. look_takes m NegativeLookahead) e

  -- what is so after some tokens
  pub record Stands (ts : List Token) (os : List Opener) (ready : Bool) : Type 0 where
    pub openers : AreOpen os ts
    pub ends : ready ≡ true → EndsQuantifiable mode ts

  not_ready : (ts : List Token) → false ≡ true → EndsQuantifiable mode ts
  not_ready ts e = absurd (let no : ⊥ = cc e in no)

  by_atom : (ts : List Token) (t : Token) → IsAtom t → EndsQuantifiable mode (ts ++ (t ∷ []))
  by_atom ts t i = record { before = ts; last = t ∷ []; whole = refl; quantifiable = atom t i }

  by_group : (ts : List Token) (o : Opener) (os : List Opener) → AreOpen (o ∷ os) ts → group_takes mode o ≡ true → EndsQuantifiable mode (ts ++ (closer ∷ []))
  by_group ts o os h e = record {
    before = h.0;
    last = opener o ∷ (h.1 ++ (closer ∷ []));
    whole = ap (λ x. x ++ (closer ∷ [])) h.2 ∙ append_assoc h.0 (opener o ∷ h.1) (closer ∷ []);
    quantifiable = of_group o h.1 (opener_is o e) h.4;
  }

  -- The first of the tokens left is read, and the others go on.
  abbrev Steps : List Token → Token → List Token → List Opener × Bool → Type 0
  Steps front t ts end = (os : List Opener) × (ready : Bool) × Stands (front ++ (t ∷ [])) os ready × (run mode ts os ready ≡ Some end)

  between_steps : (front : List Token) (os : List Opener) (ready : Bool) (t : Token) (ts : List Token) (end : List Opener × Bool) → IsBetween t → Stands front os ready →
      run mode ts os false ≡ Some end → Steps front t ts end
  between_steps front os ready t ts end i h e = (os, false, record { openers = open_between os front t i h.openers; ends = not_ready (front ++ (t ∷ [])) }, e)

  atom_steps : (front : List Token) (os : List Opener) (ready : Bool) (t : Token) (ts : List Token) (end : List Opener × Bool) → IsBetween t → IsAtom t → Stands front os ready →
      run mode ts os true ≡ Some end → Steps front t ts end
  atom_steps front os ready t ts end i a h e = (os, true, record { openers = open_between os front t i h.openers; ends = λ r. by_atom front t a }, e)

  steps : (front : List Token) (os : List Opener) (ready : Bool) (t : Token) (ts : List Token) (end : List Opener × Bool) → Stands front os ready →
      run mode (t ∷ ts) os ready ≡ Some end → Steps front t ts end
  steps front [] ready closer ts end h e = absurd (let no : ⊥ = cc e in no)
  steps front (o ∷ os) ready closer ts end h e =
      (os, group_takes mode o, record { openers = open_closed o os front h.openers; ends = λ r. by_group front o os h.openers r }, e)
  steps front os ready (opener o) ts end h e =
      (o ∷ os, false, record { openers = (front, [], refl, h.openers, none); ends = not_ready (front ++ (opener o ∷ [])) }, e)
  steps front os ready bar ts end h e = between_steps front os ready bar ts end tt h e
  steps front os true (quantifier min max greedy) ts end h e = between_steps front os true (quantifier min max greedy) ts end tt h e
  steps front os false (quantifier min max greedy) ts end h e = absurd (let no : ⊥ = cc e in no)
  steps front os ready (boundary kind) ts end h e = between_steps front os ready (boundary kind) ts end tt h e
  steps front os ready dot ts end h e = atom_steps front os ready dot ts end tt tt h e
  steps front os ready (character kind value) ts end h e = atom_steps front os ready (character kind value) ts end tt tt h e
  steps front os ready (class_escape kind) ts end h e = atom_steps front os ready (class_escape kind) ts end tt tt h e
  steps front os ready (property negative strings name value) ts end h e = atom_steps front os ready (property negative strings name value) ts end tt tt h e
  steps front os ready (class c) ts end h e = atom_steps front os ready (class c) ts end tt tt h e
  steps front os ready (indexed n) ts end h e = atom_steps front os ready (indexed n) ts end tt tt h e
  steps front os ready (named name) ts end h e = atom_steps front os ready (named name) ts end tt tt h e

  pub accepted : (ts front : List Token) (os : List Opener) (ready : Bool) (end : List Opener × Bool) → Stands front os ready → run mode ts os ready ≡ Some end → Stands (front ++ ts) end.0 end.1
  accepted [] front os ready end h e =
      let here : List Opener × Bool = (os, ready) in
      let p : here ≡ end = cc e in subst (λ x. Stands x end.0 end.1) (sym (append-nil front)) (subst (λ x. Stands front x.0 x.1) p h)
  accepted (t ∷ ts) front os ready end h e =
      let s = steps front os ready t ts end h e in
      subst (λ x. Stands x end.0 end.1) (append_assoc front (t ∷ []) ts) (accepted ts (front ++ (t ∷ [])) s.0 s.1 end s.2 s.3)

  pub accepted_whole : (ts : List Token) (os : List Opener) (ready : Bool) → run mode ts [] false ≡ Some (os, ready) → Stands ts os ready
  accepted_whole ts os ready e = accepted ts [] [] false (os, ready) (record { openers = none; ends = not_ready [] }) e

  -- What closes is passed, with the same groups open.
  abbrev Passes : List Token → List Token → List Opener → List Opener × Bool → Type 0
  Passes ts more os end = (ready : Bool) → run mode (ts ++ more) os ready ≡ Some end → (after : Bool) × (run mode more os after ≡ Some end)

  between_passes : (t : Token) → IsBetween t → (ts : List Token) (os : List Opener) (ready : Bool) (end : List Opener × Bool) → run mode (t ∷ ts) os ready ≡ Some end →
      (after : Bool) × (run mode ts os after ≡ Some end)
  between_passes closer i ts os ready end e = absurd i
  between_passes (opener o) i ts os ready end e = absurd i
  between_passes bar i ts os ready end e = (false, e)
  between_passes (quantifier min max greedy) i ts os true end e = (false, e)
  between_passes (quantifier min max greedy) i ts os false end e = absurd (let no : ⊥ = cc e in no)
  between_passes (boundary kind) i ts os ready end e = (false, e)
  between_passes q i ts os ready end e = (true, e)

  closed_passes : (ts : List Token) → AreClosed ts → (more : List Token) (os : List Opener) (end : List Opener × Bool) → Passes ts more os end
  closed_passes _ none more os end ready e = (ready, e)
  closed_passes _ (further t ts i c) more os end ready e =
      let s = between_passes t i (ts ++ more) os ready end e in closed_passes ts c more os end s.0 s.1
  closed_passes _ (group o inside ts i c) more os end ready e =
      let s = closed_passes inside i (closer ∷ (ts ++ more)) (o ∷ os) end false (ap (λ x. run mode x (o ∷ os) false) (sym (append_assoc inside (closer ∷ ts) more)) ∙ e) in
      closed_passes ts c more os end (group_takes mode o) s.1

  ends_ready : (ts : List Token) (os : List Opener) (ready : Bool) → IsQuantifiable mode ts → (after : List Opener) (ready_after : Bool) → run mode ts os ready ≡ Some (after, ready_after) → ready_after ≡ true
  ends_ready _ os ready (atom t i) after ready_after e = atom_ready t i os ready after ready_after e
    where
      atom_ready : (t : Token) → IsAtom t → (os : List Opener) (ready : Bool) (after : List Opener) (ready_after : Bool) → run mode (t ∷ []) os ready ≡ Some (after, ready_after) → ready_after ≡ true
      atom_ready closer i os ready after ready_after e = absurd i
      atom_ready (opener o) i os ready after ready_after e = absurd i
      atom_ready bar i os ready after ready_after e = absurd i
      atom_ready (quantifier min max greedy) i os ready after ready_after e = absurd i
      atom_ready (boundary kind) i os ready after ready_after e = absurd i
      atom_ready q i os ready after ready_after e = told os true after ready_after e
  ends_ready _ os ready (of_group o inside takes c) after ready_after e =
      let s = closed_passes inside c (closer ∷ []) (o ∷ os) (after, ready_after) false e in
      told os (group_takes mode o) after ready_after s.1 ∙ opener_takes o takes

  -- What some tokens lead to, the first of them lead on from.
  split : (ts more : List Token) (os : List Opener) (ready : Bool) (end : List Opener × Bool) → run mode (ts ++ more) os ready ≡ Some end →
      (between : List Opener) × (ready_between : Bool) × (run mode more between ready_between ≡ Some end)
  split [] more os ready end e = (os, ready, e)
  split (closer ∷ ts) more [] ready end e = absurd (let no : ⊥ = cc e in no)
  split (closer ∷ ts) more (o ∷ os) ready end e = split ts more os (group_takes mode o) end e
  split ((opener o) ∷ ts) more os ready end e = split ts more (o ∷ os) false end e
  split (bar ∷ ts) more os ready end e = split ts more os false end e
  split ((quantifier min max greedy) ∷ ts) more os true end e = split ts more os false end e
  split ((quantifier min max greedy) ∷ ts) more os false end e = absurd (let no : ⊥ = cc e in no)
  split ((boundary kind) ∷ ts) more os ready end e = split ts more os false end e
  split (dot ∷ ts) more os ready end e = split ts more os true end e
  split ((character kind value) ∷ ts) more os ready end e = split ts more os true end e
  split ((class_escape kind) ∷ ts) more os ready end e = split ts more os true end e
  split ((property negative strings name value) ∷ ts) more os ready end e = split ts more os true end e
  split ((class c) ∷ ts) more os ready end e = split ts more os true end e
  split ((indexed n) ∷ ts) more os ready end e = split ts more os true end e
  split ((named name) ∷ ts) more os ready end e = split ts more os true end e

  pub ready_following : (ts : List Token) (os : List Opener) (ready : Bool) → run mode ts [] false ≡ Some (os, ready) → EndsQuantifiable mode ts → ready ≡ true
  ready_following ts os ready e q =
      let s = split q.before q.last [] false (os, ready) (ap (λ x. run mode x [] false) (sym q.whole) ∙ e) in
      ends_ready q.last s.0 s.1 q.quantifiable os ready s.2
