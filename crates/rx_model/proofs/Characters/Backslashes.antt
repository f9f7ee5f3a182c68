-- What a backslash begins: a boundary, a class escape, a property escape or a character escape, read as it is spelled.
use Rattle.std.proofs.Common.{◌≡◌, ℕ, ◌+◌, ◌*◌, ◌-◌, ◌==◌, Bool, true, false, cond, nat_le, ◌&&◌, ◌||◌, List, [], ◌∷◌, ◌++◌, length, Some, None, refl, sym, ap, ◌∙◌, arith, inl, inr, subst, codes}
use Rattle.std.proofs.lemmas.Bool.{eqb-true, cond-true, cond-false, and_left, and_from, not-true}
use Rattle.std.proofs.lemmas.Bool.Decides.{nat_tests}
use Rattle.std.proofs.lemmas.Option.{option_and_then_some}
use Rattle.std.proofs.Math.Bool.{and-false}
use Rattle.rx_base.specs.Characters.{is_within, is_one_of}
use Rattle.rx_tables.specs.Characters.{is_decimal_digit, is_reserved_punctuator}
use Rattle.rx_ast.specs.declared.leaf.BoundaryAssertionKind.{BoundaryAssertionKind}
use Rattle.rx_ast.specs.declared.leaf.BoundaryAssertionKind.TheVariants as boundaries
use Rattle.rx_ast.specs.declared.leaf.CharacterClassEscapeKind.{CharacterClassEscapeKind}
use Rattle.rx_ast.specs.declared.leaf.CharacterClassEscapeKind.TheVariants as classes
use Rattle.rx_ast.specs.declared.leaf.CharacterKind.{CharacterKind}
use Rattle.rx_units.specs.Digits.{front_is}
use Rattle.rx_units.proofs.Choices.{chosen}
use Rattle.rx_ast.specs.Texts.{boundary_text, class_escape_text}
use Rattle.rx_model.specs.Reading.Boundaries.{has_buffers, has_boundary}
use Rattle.rx_model.specs.Inputs.Environment.{Environment, is_unicode}
use Rattle.rx_model.specs.Characters.Escapes.{SpellsEscape, control, letter, null, hexadecimal, unicode, identity}
use Rattle.rx_model.specs.Reading.Fronts.{any_escape_at, is_reference, buffer_at, boundary_at, class_escape_at, escaped_token, backslash_token, digits, digits_after, indexed_token, property_token, backslash_front}
use Rattle.rx_model.specs.Groups.Groups.{IsIndexed}
use Rattle.rx_model.specs.Characters.LegacyEscapes.{SpellsLegacy, is_free, refers, run_number}
use Rattle.rx_model.specs.Properties.PropertyFronts.{property_front}
use Rattle.rx_model.specs.FirstPass.Marks.{starts}
use Rattle.rx_model.specs.Quantifiers.Quantifiers.{decimal_digit_value, decimal_after, AreDigits}
use Rattle.rx_model.specs.Trees.Token.{character, class_escape, indexed}
use Rattle.rx_model.specs.Properties.PropertyForms.{begins_property}
use Rattle.rx_model.proofs.Characters.Escapes.{begins_with_u}
use Rattle.rx_model.proofs.Characters.LegacyEscapes.{any_read, any_legacy_read, legacy_begins}
use Rattle.rx_model.proofs.Quantifiers.Quantifiers.{digits_read, digits_found}
use Rattle.rx_model.proofs.Reading.Splits.{TextFront}
use Rattle.rx_model.proofs.Quantifiers.DecimalDigits.{digit_there}

-- the character begins neither a reference nor a boundary nor a class escape nor a property escape, and is no reserved punctuator, of which `-` is one
pub record BeginsEscape (e : Environment) (w : List ℕ) : Type 0 where
  pub first : ℕ
  pub following : List ℕ
  pub whole : w ≡ first ∷ following
  no_digit : is_within 49 57 first ≡ false
  no_k : (first == 107) ≡ false
  no_boundary : boundary_at e first ≡ None
  pub no_property : begins_property first ≡ false
  pub no_class : class_escape_at first ≡ None
  pub no_b : (first == 98) ≡ false
  pub no_hyphen : (first == 45) ≡ false
  pub no_reserved : is_reserved_punctuator first ≡ false

pub same_both : {A : Type 0} (b : Bool) (x : A) → cond b x x ≡ x
same_both true x = refl
same_both false x = refl

no_boundary_at : (e : Environment) (c : ℕ) → (c == 98) ≡ false → (c == 66) ≡ false → buffer_at c ≡ None → boundary_at e c ≡ None
no_boundary_at e c h k l = rw (h, k, l) (same_both (has_buffers e) None)

-- what is after a backslash where neither a reference nor a property escape begins
pub unreferred : (e : Environment) (c : ℕ) (w : List ℕ) → is_within 49 57 c ≡ false → (c == 107) ≡ false → begins_property c ≡ false →
    backslash_front e (c ∷ w) ≡ backslash_token (boundary_at e c) (class_escape_at c) (any_escape_at false e (c ∷ w))
unfolding backslash_front
unreferred e c w h k l =
    cond-false (is_reference e (c ∷ w)) _ _ (and_left _ (is_unicode e.mode || nat_le (run_number 0 (c ∷ w)) e.groups) h)
    ∙ cond-false (c == 107 && e.named) _ _ (and_left _ e.named k)
    ∙ cond-false (begins_property c && is_unicode e.mode) _ _ (and_left _ (is_unicode e.mode) l)

-- A character that begins no other escape begins a character escape, whatever follows it.
begins_with : (e : Environment) (c : ℕ) (following : List ℕ) → is_one_of (codes "kbBAzZpPdDsSwW") c ≡ false → is_within 49 57 c ≡ false → is_reserved_punctuator c ≡ false → BeginsEscape e (c ∷ following)
begins_with e c following no_letter no_digit no_punctuator = record {
  first = c;
  following = following;
  whole = refl;
  no_digit = no_digit;
  no_k = grind (arith, nat_tests);
  no_boundary = no_boundary_at e c (grind (arith, nat_tests)) (grind (arith, nat_tests)) (grind (arith, nat_tests));
  no_property = grind (arith, nat_tests);
  no_class = grind (arith, nat_tests);
  no_b = grind (arith, nat_tests);
  no_hyphen = grind (arith, nat_tests);
  no_reserved = no_punctuator;
}

pub begins : (e : Environment) (kind : CharacterKind) (v : ℕ) (w rest : List ℕ) → SpellsEscape e kind v w rest → BeginsEscape e w
begins e _ v _ rest (control {c} h) = begins_with e c [] (grind (arith, nat_tests)) (grind (arith, nat_tests)) (grind (arith, nat_tests))
begins e _ v _ rest (letter {c} h) = begins_with e 99 (c ∷ []) refl refl refl
begins e _ _ _ rest (null h) = begins_with e 48 [] refl refl refl
begins e _ v _ rest (hexadecimal {a} {b} h) = begins_with e 120 (a ∷ b ∷ []) refl refl refl
begins e _ v w rest (unicode s) = let u = begins_with_u s in subst (BeginsEscape e) (sym u.1) (begins_with e 117 u.0 refl refl refl)
begins e _ _ _ rest (identity {c} u h) = begins_with e c [] (grind (arith, nat_tests)) (grind (arith, nat_tests)) (grind (arith, nat_tests))

pub escape_token : (e : Environment) (kind : CharacterKind) (v : ℕ) (w rest : List ℕ) → SpellsEscape e kind v w rest → backslash_front e (w ++ rest) ≡ Some (character kind v, length w + 1)
escape_token e kind v w rest s =
    let b = begins e kind v w rest s in
    ap (λ w. backslash_front e (w ++ rest)) b.whole
    ∙ unreferred e b.first (b.following ++ rest) b.no_digit b.no_k b.no_property
    ∙ ap (λ x. backslash_token x (class_escape_at b.first) (any_escape_at false e (b.first ∷ b.following ++ rest))) b.no_boundary
    ∙ ap (λ x. backslash_token None x (any_escape_at false e (b.first ∷ b.following ++ rest))) b.no_class
    ∙ ap (λ w. escaped_token (any_escape_at false e (w ++ rest))) (sym b.whole)
    ∙ ap escaped_token (any_read false e kind v w rest s)

-- the boundary that is read is spelled by this character
pub record BoundaryFront (e : Environment) (kind : BoundaryAssertionKind) (c : ℕ) : Type 0 where
  pub text : 92 ∷ c ∷ [] ≡ boundary_text kind
  pub there : has_boundary e kind ≡ true

boundary_by : (e : Environment) (k kind : BoundaryAssertionKind) (c d : ℕ) → (c == d) ≡ true → Some k ≡ Some kind → 92 ∷ d ∷ [] ≡ boundary_text k → has_boundary e k ≡ true → BoundaryFront e kind c
boundary_by e k kind c d p h t b = let same : k ≡ kind = cc h in record {
  text = ap (λ c. 92 ∷ c ∷ []) (eqb-true c d p) ∙ t ∙ ap boundary_text same;
  there = ap (has_boundary e) (sym same) ∙ b;
}

buffer_found : (e : Environment) (kind : BoundaryAssertionKind) (c : ℕ) → has_buffers e ≡ true → buffer_at c ≡ Some kind → BoundaryFront e kind c
buffer_found e kind c b h = elim (chosen (c == 65) h) [
  | inl p ↦ boundary_by e boundaries.StartBuffer kind c 65 p.0 p.1 refl b
  | inr p ↦ elim (chosen (c == 122) p.1) [
    | inl q ↦ boundary_by e boundaries.EndBuffer kind c 122 q.0 q.1 refl b
    | inr q ↦ elim (chosen (c == 90) q.1) [
      | inl r ↦ boundary_by e boundaries.EndBufferOptionalNewline kind c 90 r.0 r.1 refl b
      | inr r ↦ absurd (let k : ⊥ = cc r.1 in k)
    ]
  ]
]

pub boundary_found : (e : Environment) (kind : BoundaryAssertionKind) (c : ℕ) → boundary_at e c ≡ Some kind → BoundaryFront e kind c
boundary_found e kind c h = elim (chosen (c == 98) h) [
  | inl p ↦ boundary_by e boundaries.Boundary kind c 98 p.0 p.1 refl refl
  | inr p ↦ elim (chosen (c == 66) p.1) [
    | inl q ↦ boundary_by e boundaries.NegativeBoundary kind c 66 q.0 q.1 refl refl
    | inr q ↦ elim (chosen (has_buffers e) q.1) [
      | inl r ↦ buffer_found e kind c r.0 r.1
      | inr r ↦ absurd (let k : ⊥ = cc r.1 in k)
    ]
  ]
]

class_by : (k kind : CharacterClassEscapeKind) (c d : ℕ) → (c == d) ≡ true → Some k ≡ Some kind → 92 ∷ d ∷ [] ≡ class_escape_text k → 92 ∷ c ∷ [] ≡ class_escape_text kind
class_by k kind c d p h t = let same : k ≡ kind = cc h in ap (λ c. 92 ∷ c ∷ []) (eqb-true c d p) ∙ t ∙ ap class_escape_text same

pub class_found : (kind : CharacterClassEscapeKind) (c : ℕ) → class_escape_at c ≡ Some kind → 92 ∷ c ∷ [] ≡ class_escape_text kind
class_found kind c h = elim (chosen (c == 100) h) [
  | inl p ↦ class_by classes.D kind c 100 p.0 p.1 refl
  | inr p ↦ elim (chosen (c == 68) p.1) [
    | inl p ↦ class_by classes.NegativeD kind c 68 p.0 p.1 refl
    | inr p ↦ elim (chosen (c == 115) p.1) [
      | inl p ↦ class_by classes.S kind c 115 p.0 p.1 refl
      | inr p ↦ elim (chosen (c == 83) p.1) [
        | inl p ↦ class_by classes.NegativeS kind c 83 p.0 p.1 refl
        | inr p ↦ elim (chosen (c == 119) p.1) [
          | inl p ↦ class_by classes.W kind c 119 p.0 p.1 refl
          | inr p ↦ elim (chosen (c == 87) p.1) [
            | inl p ↦ class_by classes.NegativeW kind c 87 p.0 p.1 refl
            | inr p ↦ absurd (let k : ⊥ = cc p.1 in k)
          ]
        ]
      ]
    ]
  ]
]

-- The boundaries of the buffer, as they are read.
pub buffer_token : (e : Environment) (c : ℕ) (rest : List ℕ) → has_buffers e ≡ true → is_within 49 57 c ≡ false → (c == 107) ≡ false → begins_property c ≡ false → (c == 98) ≡ false → (c == 66) ≡ false →
    backslash_front e (c ∷ rest) ≡ backslash_token (buffer_at c) (class_escape_at c) (any_escape_at false e (c ∷ rest))
buffer_token e c rest b d n p h k = unreferred e c rest d n p ∙ rw (h, k, b) refl

pub class_token : (e : Environment) (kind : CharacterClassEscapeKind) (c : ℕ) (rest : List ℕ) → is_within 49 57 c ≡ false → (c == 107) ≡ false → begins_property c ≡ false → (c == 98) ≡ false → (c == 66) ≡ false →
    buffer_at c ≡ None → class_escape_at c ≡ Some kind → backslash_front e (c ∷ rest) ≡ Some (class_escape kind, 2)
class_token e kind c rest d n p h k l f = unreferred e c rest d n p ∙ rw (no_boundary_at e c h k l, f) refl

-- a digit that is not 0
from_one : (c d : ℕ) → decimal_digit_value c ≡ Some d → (c == 48) ≡ false → is_within 49 57 c ≡ true
from_one c d h k = grind (arith, nat_tests)

digits_from_one : (n m : ℕ) (ds : List ℕ) → decimal_after m ds ≡ Some n → starts 48 ds ≡ false → (c : ℕ) (more : List ℕ) → ds ≡ c ∷ more → is_within 49 57 c ≡ true
digits_from_one n m [] h k c more e = absurd (let no : ⊥ = cc e in no)
digits_from_one n m (x ∷ ds) h k c more e =
    let same : x ≡ c = cc e in
    option_and_then_some (λ d. decimal_after (10 * m + d) ds) (decimal_digit_value x) n h (λ d at_x _. from_one c d (ap decimal_digit_value (sym same) ∙ at_x) (ap (λ c. c == 48) (sym same) ∙ k))

-- The number of digits that stand next.
pub run_read : (m : ℕ) (ds rest : List ℕ) (n : ℕ) → decimal_after m ds ≡ Some n → front_is is_decimal_digit rest ≡ false → run_number m (ds ++ rest) ≡ n
run_read m [] [] n h k = cc h
run_read m [] (c ∷ rest) n h k = let same : m ≡ n = cc h in cond-false (is_decimal_digit c) _ _ k ∙ same
run_read m (c ∷ ds) rest n h k =
    option_and_then_some (λ d. decimal_after (10 * m + d) ds) (decimal_digit_value c) n h (λ d e f.
    let t = digit_there c d e in
    cond-true (is_decimal_digit c) _ _ t.0 ∙ run_read (10 * m + (c - 48)) ds rest n (ap (λ d. decimal_after (10 * m + d) ds) t.1 ∙ f) k)

-- An indexed reference, as it is read.
pub indexed_front : (e : Environment) (n : ℕ) (ds rest : List ℕ) → (is_unicode e.mode || nat_le n e.groups) ≡ true → AreDigits n ds → starts 48 ds ≡ false → front_is is_decimal_digit rest ≡ false →
    backslash_front e (ds ++ rest) ≡ Some (indexed n, length ds + 1)
unfolding backslash_front
indexed_front e n ds rest u a h k =
    let number : run_number 0 (a.first ∷ (a.more ++ rest)) ≡ n = ap (λ ds. run_number 0 (ds ++ rest)) (sym a.some) ∙ run_read 0 ds rest n a.number k in
    ap (λ ds. backslash_front e (ds ++ rest)) a.some
    ∙ cond-true (is_reference e (a.first ∷ (a.more ++ rest))) _ _
    (and_from (is_within 49 57 a.first) _ (digits_from_one n 0 ds a.number h a.first a.more a.some) (ap (λ n. is_unicode e.mode || nat_le n e.groups) number ∙ u))
    ∙ ap (λ ds. indexed_token (digits_after 0 0 (ds ++ rest))) (sym a.some)
    ∙ ap indexed_token (digits_read 0 0 ds rest n a.number k)
    ∙ ap (λ k. Some (indexed n, k)) (omega arith)

-- A character escape with neither `u` nor `v`, as it is read.
no_reference : (e : Environment) (w : List ℕ) → is_unicode e.mode ≡ false → is_free false e.groups w ≡ true → is_reference e w ≡ false
no_reference e w m h = rw m (not-true (refers e.groups w) h)

no_assertion : (e : Environment) (c : ℕ) → is_unicode e.mode ≡ false → (c == 98) ≡ false → (c == 66) ≡ false → boundary_at e c ≡ None
no_assertion e c m h k = rw (h, k, m) refl

pub legacy_token : (e : Environment) (kind : CharacterKind) (v : ℕ) (w rest : List ℕ) → is_unicode e.mode ≡ false → SpellsLegacy false e kind v w rest →
    backslash_front e (w ++ rest) ≡ Some (character kind v, length w + 1)
unfolding backslash_front
legacy_token e kind v w rest m s =
    let b = legacy_begins false e kind v w rest s in
    ap (backslash_front e) b.whole
    ∙ cond-false (is_reference e (b.first ∷ b.following)) _ _ (no_reference e (b.first ∷ b.following) m b.free)
    ∙ cond-false (b.first == 107 && e.named) _ _ b.no_k
    ∙ cond-false (begins_property b.first && is_unicode e.mode) _ _ (ap (λ u. begins_property b.first && u) m ∙ and-false (begins_property b.first))
    ∙ ap (λ x. backslash_token x (class_escape_at b.first) (any_escape_at false e (b.first ∷ b.following))) (no_assertion e b.first m b.no_b b.no_boundary)
    ∙ ap (λ x. backslash_token None x (any_escape_at false e (b.first ∷ b.following))) b.no_class
    ∙ ap (λ w. escaped_token (any_escape_at false e w)) (sym b.whole)
    ∙ ap escaped_token (any_legacy_read false e kind v w rest m s)

not_zero : (c : ℕ) → is_within 49 57 c ≡ true → (c == 48) ≡ false
not_zero c h = grind (arith, nat_tests)

is_digit : (c : ℕ) → is_within 49 57 c ≡ true → is_decimal_digit c ≡ false → ⊥
is_digit c h k = grind (arith, nat_tests)

-- All digits at the front, the first of which is not 0.
run_found : (n c : ℕ) (w run rest : List ℕ) → is_within 49 57 c ≡ true → c ∷ w ≡ run ++ rest → decimal_after 0 run ≡ Some n → front_is is_decimal_digit rest ≡ false →
    AreDigits n run × (starts 48 run ≡ false)
run_found n c w [] rest h e f k = absurd (is_digit c h (ap (front_is is_decimal_digit) e ∙ k))
run_found n c w (x ∷ run) rest h e f k =
    let same : x ≡ c = cc e in
    (record { first = x; more = run; some = refl; number = f }, ap (λ c. c == 48) same ∙ not_zero c h)

-- An indexed reference that is read is spelled.
pub indexed_spelled : (e : Environment) (n count c : ℕ) (w rest : List ℕ) → is_within 49 57 c ≡ true → (is_unicode e.mode || nat_le (run_number 0 (c ∷ w)) e.groups) ≡ true → digits_after 0 0 (c ∷ w) ≡ digits n count rest →
    TextFront (IsIndexed e n) (count + 1) (92 ∷ c ∷ w)
indexed_spelled e n count c w rest h u f =
    let r = digits_found 0 0 (c ∷ w) n count rest f in
    let d = run_found n c w r.run rest h r.whole r.number r.ended in
    record {
      text = 92 ∷ r.run;
      back = rest;
      whole = ap (λ w. 92 ∷ w) r.whole;
      count = omega (arith, r.count_is);
      spells = λ v back a b. record {
        digits = r.run;
        whole = a;
        number = d.0;
        not_zero = d.1;
        all = ap (front_is is_decimal_digit) b ∙ r.ended;
        refers = ap (λ n. is_unicode e.mode || nat_le n e.groups) (sym (ap (run_number 0) r.whole ∙ run_read 0 r.run rest n r.number r.ended)) ∙ u;
      };
    }

letter_no_digit : (c : ℕ) → begins_property c ≡ true → is_within 49 57 c ≡ false
letter_no_digit c h = grind (arith, nat_tests)

letter_no_k : (c : ℕ) → begins_property c ≡ true → (c == 107) ≡ false
letter_no_k c h = grind (arith, nat_tests)

-- A property escape, as it is read.
pub property_front_token : (e : Environment) (c : ℕ) (w : List ℕ) → is_unicode e.mode ≡ true → begins_property c ≡ true →
    backslash_front e (c ∷ w) ≡ property_token (property_front e.mode (c ∷ w))
unfolding backslash_front
property_front_token e c w u h =
    cond-false (is_reference e (c ∷ w)) _ _ (and_left _ (is_unicode e.mode || nat_le (run_number 0 (c ∷ w)) e.groups) (letter_no_digit c h))
    ∙ cond-false (c == 107 && e.named) _ _ (and_left _ e.named (letter_no_k c h))
    ∙ cond-true (begins_property c && is_unicode e.mode) _ _ (and_from _ _ h u)
