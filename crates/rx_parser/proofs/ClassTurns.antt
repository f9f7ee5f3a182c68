-- What the readers of classes and of property escapes answer moves a parse on, or refuses the text.
use Rattle.std.proofs.Common.{true, ◌≡◌, refl, ap, sym, ◌∙◌, subst, ℕ, suc, ◌+◌, ◌-◌, inl, inr, Option, Some, None, Result, Ok, Err, List, [], ◌∷◌, length, drop, arith, min}
use Rattle.std.proofs.lemmas.Bool.{and_parts, true≢false}
use Rattle.std.proofs.lemmas.List.{drop-drop}
use Rattle.rx_parser.proofs.Common.{Fault, Term, leaf, mirror_term, CodePoint, Cursor, move_on, offset_of, rest, offset_at, values, front_is, of_property, Environment, IsPlace, text_environment, term_events, takes, property, State, Builder, IsFound, openers, ready, HoldsPass, IsRefused, IsLeafOf}
use Rattle.rx_parser.proofs.Common.{IsBefore, IsTurned, class_environment, UnicodePropertyEscape, mirror_class, IsPropertyCause, begins_property, property_same}
use Rattle.rx_ast.specs.declared.class.CharacterClass.{CharacterClass}
use Rattle.rx_ast.specs.Tree as tree
use Rattle.rx_model.proofs.Classes.ClassWithoutSpans.{class_unspanned, early_forget}
use Rattle.rx_model.proofs.Refusals.OneEscape.{property_says}
use Rattle.rx_class.specs.EscapeReading.Answers.{environment_of, from_backslash}
use Rattle.rx_class.specs.ClassReading.Answers.{GivesClass}
use Rattle.rx_class.specs.ClassReading.Answers as class_answer
use Rattle.rx_class.specs.PropertyReading.Answers.{GivesProperty}
use Rattle.rx_class.specs.PropertyReading.Answers as property_answer
use Rattle.rx_parser.specs.declared.found.Found.TheVariants as found
use Rattle.rx_parser.proofs.Places.{pass_environment, reached}
use Rattle.rx_parser.proofs.Refused.{cause_refused, class_refused}
use Rattle.rx_parser.proofs.Steps.{Grows}
use Rattle.rx_parser.proofs.Turns.{class_turned, leaf_turned}
use Rattle.rx_model.proofs.Properties.PropertyFlags.{strings_by_name}

-- after the first of two values
second_values : (us : List CodePoint) (c d : ℕ) (w : List ℕ) → values us ≡ c ∷ d ∷ w → values (drop 1 us) ≡ d ∷ w
second_values [] c d w h = absurd (let no : ⊥ = cc h in no)
second_values (u ∷ us) c d w h = cc h

module _ {added : ℕ} {b : Builder} {r : Cursor} {state : State} (h : IsBefore added b r) (pass : HoldsPass b.mode b.rules r.units state) where
  -- the environment of the text and that of its classes, and what the state says of it
  abbrev text : Environment
  text = text_environment b.mode b.rules r.units

  abbrev class_text : Environment
  class_text = class_environment b.mode r.units

  environment_is : environment_of state ≡ class_text
  environment_is = pass_environment pass true

  -- A parse has reached where the reader stands.
  at_here : IsPlace b.mode b.rules r.units r.place (rest r)
  at_here = record { open_groups = openers b; ready = ready b; reached = reached r.units r.first added b r.place h.parsing }

  -- Where a class is refused, the text is.
  pub class_answer_refused : (s : Cursor) (fault : Fault) → GivesClass (environment_of state) added r s (Err fault) → IsRefused b.mode b.rules r.units r.first added fault
  class_answer_refused s fault gives = cause fault (subst (λ e. GivesClass e added r s (Err fault)) environment_is gives)
    where
      cause : (fault : Fault) → GivesClass class_text added r s (Err fault) → IsRefused b.mode b.rules r.units r.first added fault
      cause _ (class_answer.refused first none keeps) = class_refused b.mode b.rules r.units r.first added pass.no_clash pass.in_limit r.place (rest r) _ at_here first
      cause _ (class_answer.no_memory keeps) = tt

  -- A class that is answered is read.
  pub class_taken : (c : Builder) (s : Cursor) (answer : Option CharacterClass) (it : CharacterClass) (term : Term) → answer ≡ Some it → GivesClass (environment_of state) added r s (Ok answer)
      → mirror_term term ≡ leaf (tree.class (mirror_class it)) → Grows b c (term_events term) (openers b) (takes b.mode (mirror_term term)) → IsTurned added b c r s
  class_taken c s answer it term is gives m g = taken (subst (λ x. GivesClass class_text added r s (Ok x)) is (subst (λ e. GivesClass e added r s (Ok answer)) environment_is gives))
    where
      taken : GivesClass class_text added r s (Ok (Some it)) → IsTurned added b c r s
      taken (class_answer.some w more whole spelled early new) =
          let its = class_unspanned class_text (λ i. offset_at r.first r.units i + added) r.place (mirror_class it) w more spelled in
          class_turned h c s (length w) (mirror_class it) term (record { w = w; rest = more; whole = whole; count = refl; spells = its }) (early_forget (mirror_class it) early) new m spelled g

  -- The reader of a property stands one place on, after the backslash.
  place_after : (move_on 1 r).place - 1 ≡ r.place
  place_after = let l = h.left in omega arith

  from_place : from_backslash (move_on 1 r) ≡ rest r
  from_place = ap (λ k. drop k r.units) place_after

  -- two moves are one
  moved_twice : (n : ℕ) → move_on n (move_on 1 r) ≡ move_on (suc n) r
  moved_twice n = ap (λ k. record r { place = k }) (let l = h.left in let same : min (min (r.place + 1) (length r.units) + n) (length r.units) ≡ min (r.place + suc n) (length r.units) = omega arith in same)

  module _ {start : ℕ} {old s : Cursor} (on : old ≡ move_on 1 r) where
    -- an answer under a state, by a reader that has moved over the backslash
    gives_here : (answer : Result (Option UnicodePropertyEscape) Fault) → GivesProperty (environment_of state) added start old s answer → GivesProperty class_text added start (move_on 1 r) s answer
    gives_here answer gives = subst (λ k. GivesProperty class_text added start k s answer) on (subst (λ e. GivesProperty e added start old s answer) environment_is gives)

    -- Where a property escape is refused, the text is.
    pub property_refused : (fault : Fault) → GivesProperty (environment_of state) added start old s (Err fault) → IsRefused b.mode b.rules r.units r.first added fault
    property_refused fault gives = cause fault (gives_here (Err fault) gives)
      where
        cause : (fault : Fault) → GivesProperty class_text added start (move_on 1 r) s (Err fault) → IsRefused b.mode b.rules r.units r.first added fault
        cause _ (property_answer.refused {diagnostic = it} holds first none keeps) =
            let here =
            subst (λ k. IsPropertyCause b.mode r.units r.first added k (rest r) it) place_after
            (subst (λ us. IsPropertyCause b.mode r.units r.first added ((move_on 1 r).place - 1) us it) from_place holds) in
            cause_refused b.mode b.rules r.units r.first added pass.no_clash pass.in_limit r.place it (property_says b.mode r.units r.first added r.place (rest r) it here) (of_property r.place (rest r) at_here here)
        cause _ (property_answer.no_memory keeps) = tt

    -- A property escape that is answered is read.
    pub property_taken : (c : Builder) (answer : Option UnicodePropertyEscape) (it : UnicodePropertyEscape) (term : Term) → start ≡ offset_of r → answer ≡ Some it
        → GivesProperty (environment_of state) added start old s (Ok answer) → IsLeafOf term (property it.negative it.strings it.name it.value) it.span.start it.span.end
        → Grows b c (term_events term) (openers b) (takes b.mode (mirror_term term)) → IsTurned added b c r s
    property_taken c answer it term begun is gives l g = taken (subst (λ x. GivesProperty class_text added start (move_on 1 r) s (Ok x)) is (gives_here (Ok answer) gives))
      where
        taken : GivesProperty class_text added start (move_on 1 r) s (Ok (Some it)) → IsTurned added b c r s
        taken (property_answer.some backslash w more whole spelled obeys span new) =
            leaf_turned h c s (property it.negative it.strings it.name it.value) (length (backslash ∷ w)) it.span.start it.span.end term
            (record {
              next = record {
                w = backslash ∷ w;
                rest = more;
                whole = sym from_place ∙ whole;
                count = refl;
                spells = property_same class_text text it.negative it.strings it.name it.value (backslash ∷ w) refl spelled;
              };
              start = ap (λ x. x.start) span ∙ ap (λ n. n + added) begun;
              end = ap (λ x. x.end) span;
              moved_on = new ∙ moved_twice (length w);
            })
            (strings_by_name class_text.mode it.strings it.name it.value spelled.text spelled.spelled, obeys) l g

    -- Where a property escape is to stand, one is answered or refused.
    pub property_never_none : (answer : Option UnicodePropertyEscape) → IsFound text (rest r) found.Property → answer ≡ None → GivesProperty (environment_of state) added start old s (Ok answer) → ⊥
    property_never_none answer f is gives = never (subst (λ x. GivesProperty class_text added start (move_on 1 r) s (Ok x)) is (gives_here (Ok answer) gives))
      where
        following : values (rest (move_on 1 r)) ≡ f.0 ∷ f.1
        following =
            let next : min (r.place + 1) (length r.units) ≡ r.place + 1 = let l = h.left in omega arith in
            ap (λ k. values (drop k r.units)) next ∙ ap values (sym (drop-drop 1 r.place r.units)) ∙ second_values (rest r) 92 f.0 f.1 f.2

        never : GivesProperty class_text added start (move_on 1 r) s (Ok None) → ⊥
        never (property_answer.none new why) = elim why [
          | inl legacy ↦ true≢false (sym (and_parts _ _ f.3).1 ∙ legacy)
          | inr other ↦ true≢false (sym (and_parts _ _ f.3).0 ∙ ap (front_is begins_property) (sym following) ∙ other)
        ]
