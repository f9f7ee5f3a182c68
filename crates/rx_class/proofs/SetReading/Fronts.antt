-- What stands next in a class with `v`: what is read is what stands there, no other token is spelled, and where it is no character no escape is refused.
use Rattle.std.proofs.Common.{◌≡◌, ◌≢◌, refl, sym, ap, ap₂, ◌∙◌, subst, ℕ, ◌==◌, ◌&&◌, Bool, true, false, Option, Some, None, List, [], ◌∷◌, ◌++◌, inl, inr, ◌≤◌, length, drop, arith}
use Rattle.rx_class.proofs.Common.{cond_both, cond-false, cond-true, eqb-true, false_from_ne_true, true≢false, Intersection, Subtraction, CharacterClassEscapeKind, CharacterKind}
use Rattle.rx_class.proofs.Common.{class_escape_text, CodePoint, front, values, front_is, both, Sets, ClassToken, character, property, bracket, closer, item, low, strings, operator, starts}
use Rattle.rx_class.proofs.Common.{Environment, is_sets, begins_property, begins_item, class_found, escape_first, differs, split_values, starts_there, class_escape_front}
use Rattle.std.proofs.lemmas.Bool.{and_left, eq-eqb}
use Rattle.rx_ast.specs.declared.leaf.CharacterClassEscapeKind.TheVariants as classes
use Rattle.rx_model.specs.Characters.EscapeFronts.{EscapeRead, nothing, escape_at}
use Rattle.rx_model.specs.Classes.ClassFronts.{are_next}
use Rattle.rx_model.specs.Classes.ClassRows.{Place, SpellsClassCharacter, SpellsInClass, SpellsOperand, fresh, stands_raw_in_class}
use Rattle.rx_model.specs.Classes.ClassTokens.{escape}
use Rattle.rx_model.proofs.Classes.ClassFronts.{text_of}
use Rattle.rx_model.proofs.Properties.PropertyRefusals.{property_first}
use Rattle.rx_class.specs.SetReading.Fronts.{Begins, BeginsBracket, BeginsProperty, FrontRead, IsOfCharacter, IsOfFront, IsSetFront, NoneRefused, StandsFront, after_backslash, character_front, escape_front, escaped_front, front_by, may_be_refused, property_next, set_character_at, set_escape_at, set_front_at}
use Rattle.rx_class.proofs.Operators.{begins_cases}
use Rattle.rx_class.proofs.SetReading.Characters.{set_character_after, spelled_set_character, u_is_read}

-- by the values of the units
pub next_is : (us : List CodePoint) (c : ℕ) (w : List ℕ) → values us ≡ c ∷ w → set_front_at us ≡ front_by c w (character_front (set_character_at us))
unfolding set_front_at
next_is [] c w h = absurd (let no : ⊥ = cc h in no)
next_is (u ∷ us) c w h =
    ap₂ (λ c w. front_by c w (character_front (set_character_at (u ∷ us)))) (let first : u.value ≡ c = cc h in first) (let others : values us ≡ w = cc h in others)

-- Where a character is read it stands next: no other token begins with a unit that stands for itself,
raw_front : (c : ℕ) (w : List ℕ) (read : FrontRead) → stands_raw_in_class Sets c w ≡ true → front_by c w read ≡ read
raw_front c w read raw = rw (other 93 refl, other 91 refl, no_third, other 45 refl, other 92 refl) refl
  where
    other : (d : ℕ) → stands_raw_in_class Sets d w ≡ false → (c == d) ≡ false
    other d out = differs (λ c. stands_raw_in_class Sets c w) c d out raw

    no_third : (c == 38 && starts 38 w) ≡ false
    no_third = false_from_ne_true _ (λ h. let b = both (c == 38) (starts 38 w) h in true≢false (sym raw ∙ ap₂ (stands_raw_in_class Sets) (eqb-true c 38 b.0) (starts_there 38 w b.1).1))

-- or after a backslash with what begins an escape of one.
escape_is : (c : ℕ) (w : List ℕ) → set_escape_at (c ∷ w) ≢ nothing → escaped_front (c ∷ w) ≡ character_front (after_backslash (set_escape_at (c ∷ w)))
unfolding escape_at
escape_is c w some = rw (other 113 refl, other 112 refl, other 80 refl, other 100 refl, other 68 refl, other 115 refl, other 83 refl, other 119 refl, other 87 refl) refl
  where
    other : (d : ℕ) → set_escape_at (d ∷ w) ≡ nothing → (c == d) ≡ false
    other d none = false_from_ne_true _ (λ h. some (ap (λ c. set_escape_at (c ∷ w)) (eqb-true c d h) ∙ none))

character_is : (us : List CodePoint) → set_character_at us ≢ nothing → set_front_at us ≡ character_front (set_character_at us)
unfolding set_character_at
character_is [] some = absurd (some refl)
character_is (u ∷ us) some =
    next_is (u ∷ us) u.value (values us) refl
    ∙ cond_both (u.value == 92) _ _ Stands (λ h. ap (λ c. front_by c (values us) (character_front (after_backslash (set_escape_at (values us))))) (eqb-true u.value 92 h) ∙ after (values us) (λ no. some (set_character_after (u ∷ us) (ap (λ c. c ∷ values us) (eqb-true u.value 92 h)) ∙ ap after_backslash no)))
    (λ other. cond_both (stands_raw_in_class Sets u.value (values us)) _ _ Stands (λ h. raw_front u.value (values us) _ h) (λ h. absurd (some (cond-false (u.value == 92) _ _ other ∙ cond-false (stands_raw_in_class Sets u.value (values us)) _ _ h))))
  where
    Stands : EscapeRead → Type 0
    Stands read = front_by u.value (values us) (character_front read) ≡ character_front read

    after : (w : List ℕ) → set_escape_at w ≢ nothing → escaped_front w ≡ character_front (after_backslash (set_escape_at w))
    after [] some = refl
    after (c ∷ w) some = escape_is c w some

property_is : (c : ℕ) (w : List ℕ) → begins_property c ≡ true → escaped_front (c ∷ w) ≡ property_next
property_is c w h = cond-false (c == 113 && starts 123 w) _ _ (and_left _ (starts 123 w) (differs begins_property c 113 refl h)) ∙ cond-true (begins_property c) _ _ h

-- Units whose values begin with a text begin with it.
begins_text : (us : List CodePoint) (text more : List ℕ) → values us ≡ text ++ more → Begins us text
begins_text us text more h = let s = split_values us text more h in record { w = s.front; rest = s.back; whole = s.whole; text_is = s.front_is }

two_next : (c d : ℕ) (w : List ℕ) → are_next c d w ≡ true → (rest : List ℕ) × (w ≡ c ∷ d ∷ rest)
two_next c d [] h = absurd (let no : ⊥ = cc h in no)
two_next c d (x ∷ w) h = let b = both (x == c) (starts d w) h in let s = starts_there d w b.1 in (s.0, ap₂ ◌∷◌ (eqb-true x c b.0) s.1)

module _ (u : CodePoint) (us : List CodePoint) where
  two_stand : (c : ℕ) → are_next c c (values (u ∷ us)) ≡ true → Begins (u ∷ us) (c ∷ c ∷ [])
  two_stand c h = let t = two_next c c (values (u ∷ us)) h in begins_text (u ∷ us) (c ∷ c ∷ []) t.0 t.1

  bracket_stands : u.value ≡ 91 → (negative : Bool) → starts 94 (values us) ≡ negative → BeginsBracket (u ∷ us) negative
  bracket_stands is true s =
      let t = starts_there 94 (values us) s in
      let b = begins_text (u ∷ us) (91 ∷ 94 ∷ []) t.0 (ap₂ ◌∷◌ is t.1) in record { w = b.w; rest = b.rest; whole = b.whole; spelled = b.text_is }
  bracket_stands is false s = record { w = u ∷ []; rest = us; whole = refl; spelled = (ap (λ c. c ∷ []) is, s) }

  character_stands : (read : EscapeRead) → set_character_at (u ∷ us) ≡ read → StandsFront (u ∷ us) (character_front read)
  character_stands nothing h = tt
  character_stands read h = (h, λ no. cc no)

  -- after a backslash
  module _ (is : u.value ≡ 92) where
    property_stands : (w : List ℕ) → values us ≡ w → front_is begins_property w ≡ true → BeginsProperty (u ∷ us)
    property_stands [] same h = absurd (let no : ⊥ = cc h in no)
    property_stands (c ∷ w) same h = record { letter = c; following = w; whole = ap₂ ◌∷◌ is same; letter_is = h }

    escape_stands : (w : List ℕ) (k : CharacterClassEscapeKind) → values us ≡ w → class_escape_front w ≡ Some k → Begins (u ∷ us) (class_escape_text k)
    escape_stands [] k same h = absurd (let no : ⊥ = cc h in no)
    escape_stands (c ∷ w) k same h = subst (Begins (u ∷ us)) (class_found k c h) (begins_text (u ∷ us) (92 ∷ c ∷ []) w (ap₂ ◌∷◌ is same))

    other_stands : (found : Option CharacterClassEscapeKind) → class_escape_front (values us) ≡ found → StandsFront (u ∷ us) (escape_front found (set_escape_at (values us)))
    other_stands (Some k) h = escape_stands (values us) k refl h
    other_stands None h = character_stands (after_backslash (set_escape_at (values us))) (set_character_after (u ∷ us) (ap (λ c. c ∷ values us) is))

    escaped_stands : StandsFront (u ∷ us) (escaped_front (values us))
    escaped_stands =
        cond_both (are_next 113 123 (values us)) _ _ (StandsFront (u ∷ us)) (λ h. let t = two_next 113 123 (values us) h in begins_text (u ∷ us) (92 ∷ 113 ∷ 123 ∷ []) t.0 (ap₂ ◌∷◌ is t.1))
        (λ _. cond_both (front_is begins_property (values us)) _ _ (StandsFront (u ∷ us)) (property_stands (values us) refl) (λ _. other_stands (class_escape_front (values us)) refl))

-- What is read stands there.
pub stands : (us : List CodePoint) → StandsFront us (set_front_at us)
unfolding set_front_at
stands [] = tt
stands (u ∷ us) =
    cond_both (u.value == 93) _ _ P (λ h. begins_text (u ∷ us) (93 ∷ []) (values us) (ap (λ c. c ∷ values us) (eqb-true u.value 93 h)))
    (λ _. cond_both (u.value == 91) _ _ P (λ h. bracket_stands u us (eqb-true u.value 91 h) (starts 94 (values us)) refl)
    (λ _. cond_both (are_next 38 38 (values (u ∷ us))) _ _ P (two_stand u us 38)
    (λ _. cond_both (are_next 45 45 (values (u ∷ us))) _ _ P (two_stand u us 45)
    (λ _. cond_both (u.value == 92) _ _ P (λ h. escaped_stands u us (eqb-true u.value 92 h)) (λ _. character_stands u us (set_character_at (u ∷ us)) refl)))))
  where
    P : FrontRead → Type 0
    P = StandsFront (u ∷ us)

-- a unit at the front, and a bracket there
pub starts_some : (c : ℕ) (us : List CodePoint) → starts c (values us) ≡ true → 1 ≤ length us
starts_some c [] h = absurd (true≢false (sym h))
starts_some c (u ∷ us) h = omega arith

pub front_starts : (c : ℕ) (us : List CodePoint) → front us ≡ Some c → starts c (values us) ≡ true
front_starts c [] h = absurd (let no : ⊥ = cc h in no)
front_starts c (u ∷ us) h = eq-eqb u.value c (let is : u.value ≡ c = cc h in is)

pub bracket_begins : (us : List CodePoint) (negative : Bool) → front us ≡ Some 91 → negative ≡ starts 94 (values (drop 1 us)) → BeginsBracket us negative
bracket_begins [] negative h s = absurd (let no : ⊥ = cc h in no)
bracket_begins (u ∷ us) negative h s = bracket_stands u us (let is : u.value ≡ 91 = cc h in is) negative (sym s)

-- A token is read by the values of its units,
read_by : (t : ClassToken) (w more : List CodePoint) (c : ℕ) (v : List ℕ) → values w ≡ c ∷ v → IsOfFront (front_by c (v ++ values more) (character_front (set_character_at (w ++ more)))) t → IsOfFront (set_front_at (w ++ more)) t
read_by t w more c v text of = subst (λ read. IsOfFront read t) (sym (next_is (w ++ more) c (v ++ values more) (text_of w more (c ∷ v) text))) of

escape_read : (k : CharacterClassEscapeKind) (w more : List CodePoint) → values w ≡ class_escape_text k → IsOfFront (set_front_at (w ++ more)) (item (escape k))
escape_read classes.D w more text = read_by _ w more 92 (100 ∷ []) text refl
escape_read classes.NegativeD w more text = read_by _ w more 92 (68 ∷ []) text refl
escape_read classes.S w more text = read_by _ w more 92 (115 ∷ []) text refl
escape_read classes.NegativeS w more text = read_by _ w more 92 (83 ∷ []) text refl
escape_read classes.W w more text = read_by _ w more 92 (119 ∷ []) text refl
escape_read classes.NegativeW w more text = read_by _ w more 92 (87 ∷ []) text refl

may_refuse : (read : EscapeRead) → read ≢ nothing → may_be_refused (character_front read) ≡ true
may_refuse nothing some = absurd (some refl)
may_refuse read some = refl

module _ (e : Environment) (sets : is_sets e.mode ≡ true) where
  -- or as a character.
  character_read : (k : CharacterKind) (v : ℕ) (w more : List CodePoint) (t : ClassToken) → IsOfCharacter t → SpellsClassCharacter e k v w more → IsOfFront (set_front_at (w ++ more)) t
  character_read k v w more t of spelled =
      let read = spelled_set_character e sets k v w more spelled in
      subst (λ read. IsOfFront read t) (sym (character_is (w ++ more) (λ no. let k : ⊥ = cc (sym read ∙ no) in k) ∙ ap character_front read)) of

  operand_read : (t : ClassToken) (w more : List CodePoint) → SpellsOperand e t w more → IsOfFront (set_front_at (w ++ more)) t
  operand_read (item (character k v)) w more s = character_read k v w more (item (character k v)) refl s
  operand_read (item (escape k)) w more s = escape_read k w more s
  operand_read (item (property true may name value)) w more s = read_by _ w more 92 (80 ∷ 123 ∷ (s.text ++ (125 ∷ []))) s.whole tt
  operand_read (item (property false may name value)) w more s = read_by _ w more 92 (112 ∷ 123 ∷ (s.text ++ (125 ∷ []))) s.whole tt
  operand_read (bracket true) w more s = read_by _ w more 91 (94 ∷ []) s refl
  operand_read (bracket false) w more s = read_by _ w more 91 [] s.0 (ap bracket (sym s.1))
  operand_read strings w more s = read_by _ w more 92 (113 ∷ 123 ∷ []) s refl
  operand_read t w more s = absurd s

  fresh_read : (t : ClassToken) (w more : List CodePoint) → SpellsInClass e fresh t w more → IsOfFront (set_front_at (w ++ more)) t
  fresh_read closer w more s = read_by _ w more 93 [] s refl
  fresh_read (item a) w more s = operand_read (item a) w more s.0
  fresh_read (low k v) w more s = character_read k v w more (low k v) tt s.0
  fresh_read (bracket negative) w more s = operand_read (bracket negative) w more s.1
  fresh_read strings w more s = operand_read strings w more s.1
  fresh_read (operator Intersection) w more s = read_by _ w more 38 (38 ∷ []) s.1 refl
  fresh_read (operator Subtraction) w more s = read_by _ w more 45 (45 ∷ []) s.1 refl
  fresh_read t w more s = absurd s

  token_read : (q : Place) (t : ClassToken) (w more : List CodePoint) → begins_item q ≡ true → SpellsInClass e q t w more → IsOfFront (set_front_at (w ++ more)) t
  token_read q t w more b s =
      begins_cases (λ q. SpellsInClass e q t w more → IsOfFront (set_front_at (w ++ more)) t) (fresh_read t w more) (λ o s. operand_read t w more s.1) q b s

  -- An escape is refused after `u` alone, where a character is read, and after the letter of a property.
  none_refused : (us : List CodePoint) → may_be_refused (set_front_at us) ≡ false → NoneRefused e us
  none_refused us h text first added place d (inl c) =
      let f = escape_first e text first added place us d c in
      let some = u_is_read us f.0 f.1 in
      true≢false (sym (may_refuse (set_character_at us) some) ∙ ap may_be_refused (sym (character_is us some)) ∙ h)
  none_refused us h text first added place d (inr c) =
      let f = property_first e.mode text first added place us d c in
      true≢false (sym (ap may_be_refused (next_is us 92 (f.0 ∷ f.1) f.2 ∙ property_is f.0 f.1 f.3)) ∙ h)

  front_says : (us : List CodePoint) → IsSetFront e us (set_front_at us)
  front_says us = record {
    stands = stands us;
    only = λ q t w more b whole s. subst (λ us. IsOfFront (set_front_at us) t) (sym whole) (token_read q t w more b s);
    none_refused = none_refused us;
  }

-- The same of what was read already.
pub set_front_is : (us : List CodePoint) (read : FrontRead) → read ≡ set_front_at us → (e : Environment) → is_sets e.mode ≡ true → IsSetFront e us read
set_front_is us read h e sets = subst (IsSetFront e us) (sym h) (front_says e sets us)
