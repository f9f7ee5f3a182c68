-- A row that is made from its end, over plain values.
use Rattle.std.proofs.Common.{◌≡◌, refl, ap, sym, ◌∙◌, subst, ℕ, ◌+◌, ◌*◌, ◌≤◌, ◌<◌, Bool, true, false, not, ◌&&◌, ◌||◌, if◌then◌else◌, List, [], ◌∷◌, ◌++◌, length, map, reverse, arith}
use Rattle.rx_ast.specs.declared.class.CharacterClassContents.{CharacterClassContents}
use Rattle.rx_base.specs.declared.span.Span.{Span}
use Rattle.rx_ast.specs.declared.class.CharacterClass.{CharacterClass}
use Rattle.rx_ast.specs.declared.class.CharacterClassContentsKind.{CharacterClassContentsKind}
use Rattle.rx_ast.specs.declared.class.CharacterClassContentsKind.TheVariants as joined
use Rattle.rx_ast.specs.ClassTree.{Member, Members, Class, class, members, mirror_contents, mirror_class}
use Rattle.rx_ast.specs.Forget.{nowhere}
use Rattle.rx_ast.proofs.ClassEquations.{class_is}
use Rattle.rx_program.specs.declared.checks.Check.{Check}
use Rattle.rx_program.specs.declared.checks.Target.{Target}
use Rattle.rx_program.specs.declared.checks.Target.TheVariants as target
use Rattle.rx_program.specs.declared.row_builder.Part.{Part}
use Rattle.rx_program.specs.declared.row_builder.Part.TheVariants as part
use Rattle.rx_program.specs.declared.row_builder.RowBuilder.{RowBuilder}
use Rattle.rx_program.specs.Checks.{item_holds, answer}
use Rattle.rx_trace.specs.Holding.{member_holds, any_holds, all_hold, first_holds, class_holds, negate_if}
use Rattle.rx_program.specs.RowParts.{part_answer, parts_answer, outcome, row_answer, IsTargetBelow, IsPartBelow, ArePartsBelow, IsRow, CanLead, with_part, with_target, with_check, part_weight, part_weights, LeadsOn, MakesPart}
use Rattle.rx_program.specs.SurveyState.{member_looks, members_looks, class_looks}
use Rattle.rx_trace.proofs.Lists.{reverse-last, length-last}
use Rattle.std.proofs.lemmas.List.{nil_from_length}
use Rattle.rx_program.proofs.Asking.{held-is, not_held-is, answer-more, answer-new}

-- targets below a number are below a greater one
target-below : (n m : ℕ) (t : Target) → n ≤ m → IsTargetBelow n t → IsTargetBelow m t
target-below n m (target.Check i) more below = omega arith
target-below n m target.Held more below = tt
target-below n m target.NotHeld more below = tt

part-below : (n m : ℕ) (p : Part) → n ≤ m → IsPartBelow n p → IsPartBelow m p
part-below n m (part.Any items held) more below = target-below n m held more below
part-below n m (part.All items not_held) more below = target-below n m not_held more below
part-below n m (part.Item item not_held) more below = target-below n m not_held more below

parts-below : (n m : ℕ) (ps : List Part) → n ≤ m → ArePartsBelow n ps → ArePartsBelow m ps
parts-below n m [] more below = tt
parts-below n m (p ∷ ps) more below = (part-below n m p more below.0, parts-below n m ps more below.1)

module _ (before checks : List Check) (x : Check) (c : ℕ) (is : before ≡ checks ++ (x ∷ [])) where
  part_answer-more : (p : Part) (made : Bool) → IsPartBelow (length checks) p → part_answer before c p made ≡ part_answer checks c p made
  part_answer-more (part.Any items held) made below = ap (λ a. if any_holds (members (map mirror_contents items.now)) c then a else made) (answer-more before checks x held c is below)
  part_answer-more (part.All items not_held) made below = ap (λ a. if all_hold (members (map mirror_contents items.now)) c then made else a) (answer-more before checks x not_held c is below)
  part_answer-more (part.Item item not_held) made below = ap (λ a. if member_holds (mirror_contents item.now) c then made else a) (answer-more before checks x not_held c is below)

  parts_answer-more : (ps : List Part) (made : Bool) → ArePartsBelow (length checks) ps → parts_answer before c ps made ≡ parts_answer checks c ps made
  parts_answer-more [] made below = refl
  parts_answer-more (p ∷ ps) made below =
      ap (parts_answer before c ps) (part_answer-more p made below.0) ∙ parts_answer-more ps (part_answer checks c p made) below.1

-- an item that is a check
pub led_check : (b after : RowBuilder) (x : Check) (holds : ℕ → Bool) (most : ℕ) → after ≡ with_check b x → ((c : ℕ) → item_holds x.test c ≡ holds c) → CanLead b x.held x.not_held → LeadsOn b holds most x.held x.not_held after
led_check b after x holds most pushed same can =
    let all = b.checks ++ (x ∷ []) in
    let more = length-last all b.checks x refl in
    subst (λ y. LeadsOn b holds most x.held x.not_held y) (sym pushed)
    (record {
      answers = λ c. parts_answer-more all b.checks x c refl (reverse b.parts) (answer all (target.Check (length b.checks)) c) can.parts
          ∙ ap (parts_answer b.checks c (reverse b.parts)) (answer-new all b.checks x c refl ∙ ap (λ h. if h then answer b.checks x.held c else answer b.checks x.not_held c) (same c));
      row = record { parts = parts-below (length b.checks) (length all) (reverse b.parts) (omega arith) can.parts; begins = omega arith };
      fewer = omega arith;
    })

-- an item that holds nothing
pub led_none : (b after : RowBuilder) (holds : ℕ → Bool) (most : ℕ) (held not_held : Target) → after ≡ with_target b not_held → ((c : ℕ) → holds c ≡ false) → CanLead b held not_held → LeadsOn b holds most held not_held after
led_none b after holds most held not_held pushed none can =
    subst (λ y. LeadsOn b holds most held not_held y) (sym pushed)
    (record {
      answers = λ c. ap (λ h. outcome b c (if h then answer b.checks held c else answer b.checks not_held c)) (sym (none c));
      row = record { parts = can.parts; begins = can.not_held_below };
      fewer = omega arith;
    })

-- the same of a test that holds the same
pub led_same : (b after : RowBuilder) (holds other : ℕ → Bool) (most fewest : ℕ) (held not_held : Target) → ((c : ℕ) → other c ≡ holds c) → fewest ≤ most → LeadsOn b other fewest held not_held after → LeadsOn b holds most held not_held after
led_same b after holds other most fewest held not_held same less led =
    let few = led.fewer in
    record {
      answers = λ c. led.answers c ∙ ap (λ h. outcome b c (if h then answer b.checks held c else answer b.checks not_held c)) (same c);
      row = led.row;
      fewer = omega arith;
    }

if-not : (h x y : Bool) → (if h then y else x) ≡ (if not h then x else y)
if-not true x y = refl
if-not false x y = refl

-- a negative class is the other way round
pub led_turned : (b after : RowBuilder) (holds other : ℕ → Bool) (most : ℕ) (held not_held : Target) → ((c : ℕ) → not (other c) ≡ holds c) → LeadsOn b other most not_held held after → LeadsOn b holds most held not_held after
led_turned b after holds other most held not_held same led = record {
  answers = λ c. led.answers c ∙ ap (outcome b c) (if-not (other c) (answer b.checks held c) (answer b.checks not_held c) ∙ ap (λ h. if h then answer b.checks held c else answer b.checks not_held c) (same c));
  row = led.row;
  fewer = led.fewer;
}

-- what a part makes, and how much work it is
pub record IsPart (p : Part) (makes : List Check → ℕ → Bool → Bool) (t : Target) (weight : ℕ) : Type 0 where
  pub answers : (checks : List Check) (c : ℕ) (made : Bool) → part_answer checks c p made ≡ makes checks c made
  pub below : (n : ℕ) → IsTargetBelow n t → IsPartBelow n p
  pub weighs : part_weight p ≡ weight

abbrev pub makes_any : Members → Target → List Check → ℕ → Bool → Bool
makes_any ms held checks c made = if any_holds ms c then answer checks held c else made

abbrev pub makes_all : Members → Target → List Check → ℕ → Bool → Bool
makes_all ms not_held checks c made = if all_hold ms c then made else answer checks not_held c

abbrev pub makes_item : Member → Target → List Check → ℕ → Bool → Bool
makes_item m not_held checks c made = if member_holds m c then made else answer checks not_held c

-- a test is made by leaving a part for later
led_part : (b after : RowBuilder) (holds : ℕ → Bool) (most : ℕ) (held not_held t u : Target) (p : Part) (makes : List Check → ℕ → Bool → Bool) (weight : ℕ) → IsPart p makes u weight → after ≡ with_part (with_target b t) p
    → ((c : ℕ) → makes b.checks c (answer b.checks t c) ≡ (if holds c then answer b.checks held c else answer b.checks not_held c)) → ArePartsBelow (length b.checks) (reverse b.parts) → IsTargetBelow (length b.checks) t → IsTargetBelow (length b.checks) u → weight ≤ most
    → LeadsOn b holds most held not_held after
led_part b after holds most held not_held t u p makes weight is pushed same parts below below' less =
    let rev = reverse-last (b.parts ++ (p ∷ [])) b.parts p refl in
    let sum = ap part_weights rev in
    let own = is.weighs in
    subst (λ y. LeadsOn b holds most held not_held y) (sym pushed)
    (record {
      answers = λ c. ap (λ ps. parts_answer b.checks c ps (answer b.checks t c)) rev ∙ ap (parts_answer b.checks c (reverse b.parts)) (is.answers b.checks c (answer b.checks t c) ∙ same c);
      row = record { parts = subst (ArePartsBelow (length b.checks)) (sym rev) (is.below (length b.checks) below', parts); begins = below };
      fewer = omega arith;
    })

pub led_union : (b after : RowBuilder) (ms : Members) (held not_held : Target) (p : Part) → IsPart p (makes_any ms held) held (1 + 2 * members_looks ms) → after ≡ with_part (with_target b not_held) p → CanLead b held not_held
    → LeadsOn b (any_holds ms) (1 + 2 * members_looks ms) held not_held after
led_union b after ms held not_held p is pushed can =
    led_part b after (any_holds ms) (1 + 2 * members_looks ms) held not_held not_held held p (makes_any ms held) (1 + 2 * members_looks ms) is pushed (λ c. refl) can.parts can.not_held_below can.held_below (omega arith)

pub led_intersection : (b after : RowBuilder) (ms : Members) (held not_held : Target) (p : Part) → IsPart p (makes_all ms not_held) not_held (1 + 2 * members_looks ms) → after ≡ with_part (with_target b held) p → CanLead b held not_held
    → LeadsOn b (all_hold ms) (1 + 2 * members_looks ms) held not_held after
led_intersection b after ms held not_held p is pushed can =
    led_part b after (all_hold ms) (1 + 2 * members_looks ms) held not_held held not_held p (makes_all ms not_held) (1 + 2 * members_looks ms) is pushed (λ c. refl) can.parts can.held_below can.not_held_below (omega arith)

-- the first item holds, and no later one
first-if : (m any x y : Bool) → (if m then (if any then y else x) else y) ≡ (if m && not any then x else y)
first-if true true x y = refl
first-if true false x y = refl
first-if false any x y = refl

pub led_subtraction : (b after : RowBuilder) (all more : List CharacterClassContents) (first : CharacterClassContents) (held not_held : Target) (p q : Part) → all ≡ first ∷ more
    → IsPart p (makes_item (mirror_contents first) not_held) not_held (1 + 2 * member_looks (mirror_contents first)) → IsPart q (makes_any (members (map mirror_contents more)) not_held) not_held (1 + 2 * members_looks (members (map mirror_contents more)))
    → after ≡ with_part (with_part (with_target b held) p) q → CanLead b held not_held
    → LeadsOn b (first_holds (members (map mirror_contents all))) (1 + 2 * members_looks (members (map mirror_contents all))) held not_held after
led_subtraction b after all more first held not_held p q cut is is' pushed can =
    let m = mirror_contents first in
    let ms = members (map mirror_contents more) in
    let ps = b.parts ++ (p ∷ []) in
    let rev : reverse (ps ++ (q ∷ [])) ≡ q ∷ p ∷ reverse b.parts = reverse-last (ps ++ (q ∷ [])) ps q refl ∙ ap (λ r. q ∷ r) (reverse-last ps b.parts p refl) in
    let sum = ap part_weights rev in
    let own = is.weighs in
    let own' = is'.weighs in
    let looks = ap (λ l. members_looks (members (map mirror_contents l))) cut in
    subst (λ y. LeadsOn b (first_holds (members (map mirror_contents all))) (1 + 2 * members_looks (members (map mirror_contents all))) held not_held y) (sym pushed)
    (record {
      answers = λ c. ap (λ rs. parts_answer b.checks c rs (answer b.checks held c)) rev
          ∙ ap (parts_answer b.checks c (reverse b.parts))
          (ap (part_answer b.checks c p) (is'.answers b.checks c (answer b.checks held c)) ∙ is.answers b.checks c (makes_any ms not_held b.checks c (answer b.checks held c))
          ∙ first-if (member_holds m c) (any_holds ms c) (answer b.checks held c) (answer b.checks not_held c)
          ∙ ap (λ l. if first_holds (members (map mirror_contents l)) c then answer b.checks held c else answer b.checks not_held c) (sym cut));
      row = record {
        parts = subst (ArePartsBelow (length b.checks)) (sym rev) (is'.below (length b.checks) can.not_held_below, (is.below (length b.checks) can.not_held_below, can.parts));
        begins = can.held_below;
      };
      fewer = omega arith;
    })

-- items with one more after them
any-last : (items : List CharacterClassContents) (last : CharacterClassContents) (c : ℕ)
    → any_holds (members (map mirror_contents (items ++ (last ∷ [])))) c ≡ (any_holds (members (map mirror_contents items)) c || member_holds (mirror_contents last) c)
any-last [] last c = or-false (member_holds (mirror_contents last) c)
  where
    or-false : (b : Bool) → (b || false) ≡ b
    or-false true = refl
    or-false false = refl
any-last (item ∷ items) last c = ap (λ b. member_holds (mirror_contents item) c || b) (any-last items last c) ∙ or-or (member_holds (mirror_contents item) c) _ _
  where
    or-or : (a b d : Bool) → (a || (b || d)) ≡ ((a || b) || d)
    or-or true b d = refl
    or-or false b d = refl

all-last : (items : List CharacterClassContents) (last : CharacterClassContents) (c : ℕ)
    → all_hold (members (map mirror_contents (items ++ (last ∷ [])))) c ≡ (all_hold (members (map mirror_contents items)) c && member_holds (mirror_contents last) c)
all-last [] last c = and-true (member_holds (mirror_contents last) c)
  where
    and-true : (b : Bool) → (b && true) ≡ b
    and-true true = refl
    and-true false = refl
all-last (item ∷ items) last c = ap (λ b. member_holds (mirror_contents item) c && b) (all-last items last c) ∙ and-and (member_holds (mirror_contents item) c) _ _
  where
    and-and : (a b d : Bool) → (a && (b && d)) ≡ ((a && b) && d)
    and-and true b d = refl
    and-and false b d = refl

looks-last : (items : List CharacterClassContents) (last : CharacterClassContents)
    → members_looks (members (map mirror_contents (items ++ (last ∷ [])))) ≡ 1 + member_looks (mirror_contents last) + members_looks (members (map mirror_contents items))
looks-last [] last = omega arith
looks-last (item ∷ items) last = let e = looks-last items last in omega arith

any-if : (any m x y : Bool) → (if any then x else (if m then x else y)) ≡ (if any || m then x else y)
any-if true m x y = refl
any-if false m x y = refl

all-if : (all m x y : Bool) → (if all then (if m then x else y) else y) ≡ (if all && m then x else y)
all-if true m x y = refl
all-if false m x y = refl

-- the last of some items is made, and the others are left for later
made_last : (b after : RowBuilder) (all items : List CharacterClassContents) (last : CharacterClassContents) (t held not_held : Target) (makes makes' : List Check → ℕ → Bool → Bool) (p q : Part) → all ≡ items ++ (last ∷ [])
    → IsPart p makes t (1 + 2 * members_looks (members (map mirror_contents items))) → IsPart q makes' t (1 + 2 * members_looks (members (map mirror_contents all)))
    → LeadsOn (with_part b p) (member_holds (mirror_contents last)) (2 * member_looks (mirror_contents last)) held not_held after
    → ((c : ℕ) → makes b.checks c (if member_holds (mirror_contents last) c then answer b.checks held c else answer b.checks not_held c) ≡ makes' b.checks c (answer b.checks b.target c)) → MakesPart b q after
made_last b after all items last t held not_held makes makes' p q cut is is' led same =
    let rev = reverse-last (b.parts ++ (p ∷ [])) b.parts p refl in
    let few = led.fewer in
    let sum = ap part_weights rev in
    let own = is.weighs in
    let own' = is'.weighs in
    let looks = ap (λ l. members_looks (members (map mirror_contents l))) cut ∙ looks-last items last in
    record {
      answers = λ c.
          let made = if member_holds (mirror_contents last) c then answer b.checks held c else answer b.checks not_held c in
          led.answers c ∙ ap (λ ps. parts_answer b.checks c ps made) rev
          ∙ ap (parts_answer b.checks c (reverse b.parts)) (is.answers b.checks c made ∙ same c ∙ sym (is'.answers b.checks c (answer b.checks b.target c)));
      row = led.row;
      fewer = omega arith;
    }

pub made_any : (b d after : RowBuilder) (all items : List CharacterClassContents) (last : CharacterClassContents) (held : Target) (p q : Part) → all ≡ items ++ (last ∷ [])
    → IsPart p (makes_any (members (map mirror_contents items)) held) held (1 + 2 * members_looks (members (map mirror_contents items))) → IsPart q (makes_any (members (map mirror_contents all)) held) held (1 + 2 * members_looks (members (map mirror_contents all)))
    → d ≡ with_part b p → LeadsOn d (member_holds (mirror_contents last)) (2 * member_looks (mirror_contents last)) held d.target after → MakesPart b q after
made_any b d after all items last held p q cut is is' pushed led =
    let m = mirror_contents last in
    let ms = members (map mirror_contents items) in
    made_last b after all items last held held b.target (makes_any ms held) (makes_any (members (map mirror_contents all)) held) p q cut is is'
    (subst (λ y. LeadsOn y (member_holds m) (2 * member_looks m) held y.target after) pushed led)
    (λ c. any-if (any_holds ms c) (member_holds m c) (answer b.checks held c) (answer b.checks b.target c)
    ∙ ap (λ h. if h then answer b.checks held c else answer b.checks b.target c) (sym (ap (λ l. any_holds (members (map mirror_contents l)) c) cut ∙ any-last items last c)))

pub made_all : (b d after : RowBuilder) (all items : List CharacterClassContents) (last : CharacterClassContents) (not_held : Target) (p q : Part) → all ≡ items ++ (last ∷ [])
    → IsPart p (makes_all (members (map mirror_contents items)) not_held) not_held (1 + 2 * members_looks (members (map mirror_contents items)))
    → IsPart q (makes_all (members (map mirror_contents all)) not_held) not_held (1 + 2 * members_looks (members (map mirror_contents all)))
    → d ≡ with_part b p → LeadsOn d (member_holds (mirror_contents last)) (2 * member_looks (mirror_contents last)) d.target not_held after → MakesPart b q after
made_all b d after all items last not_held p q cut is is' pushed led =
    let m = mirror_contents last in
    let ms = members (map mirror_contents items) in
    made_last b after all items last not_held b.target not_held (makes_all ms not_held) (makes_all (members (map mirror_contents all)) not_held) p q cut is is'
    (subst (λ y. LeadsOn y (member_holds m) (2 * member_looks m) y.target not_held after) pushed led)
    (λ c. all-if (all_hold ms c) (member_holds m c) (answer b.checks b.target c) (answer b.checks not_held c)
    ∙ ap (λ h. if h then answer b.checks b.target c else answer b.checks not_held c) (sym (ap (λ l. all_hold (members (map mirror_contents l)) c) cut ∙ all-last items last c)))

-- a part with nothing in it
made_empty : (b : RowBuilder) (q : Part) (makes : List Check → ℕ → Bool → Bool) (t : Target) (weight : ℕ) → IsPart q makes t (1 + weight) → ((c : ℕ) (made : Bool) → makes b.checks c made ≡ made) → ArePartsBelow (length b.checks) (reverse b.parts) → IsTargetBelow (length b.checks) b.target
    → MakesPart b q b
made_empty b q makes t weight is same parts below =
    let own = is.weighs in
    record {
      answers = λ c. ap (outcome b c) (sym (is.answers b.checks c (answer b.checks b.target c) ∙ same c (answer b.checks b.target c)));
      row = record { parts = parts; begins = below };
      fewer = omega arith;
    }

pub made_no_any : (b : RowBuilder) (all : List CharacterClassContents) (held : Target) (q : Part) → length all ≡ 0 → IsPart q (makes_any (members (map mirror_contents all)) held) held (1 + 2 * members_looks (members (map mirror_contents all)))
    → CanLead b held b.target → MakesPart b q b
made_no_any b all held q none is can =
    made_empty b q (makes_any (members (map mirror_contents all)) held) held (2 * members_looks (members (map mirror_contents all))) is
    (λ c made. ap (λ l. makes_any (members (map mirror_contents l)) held b.checks c made) (nil_from_length all none)) can.parts can.not_held_below

pub made_no_all : (b : RowBuilder) (all : List CharacterClassContents) (not_held : Target) (q : Part) → length all ≡ 0 → IsPart q (makes_all (members (map mirror_contents all)) not_held) not_held (1 + 2 * members_looks (members (map mirror_contents all)))
    → CanLead b b.target not_held → MakesPart b q b
made_no_all b all not_held q none is can =
    made_empty b q (makes_all (members (map mirror_contents all)) not_held) not_held (2 * members_looks (members (map mirror_contents all))) is
    (λ c made. ap (λ l. makes_all (members (map mirror_contents l)) not_held b.checks c made) (nil_from_length all none)) can.parts can.held_below

pub led_no_subtraction : (b after : RowBuilder) (all : List CharacterClassContents) (held not_held : Target) → length all ≡ 0 → after ≡ with_target b not_held → CanLead b held not_held
    → LeadsOn b (first_holds (members (map mirror_contents all))) (1 + 2 * members_looks (members (map mirror_contents all))) held not_held after
led_no_subtraction b after all held not_held none pushed can =
    led_none b after (first_holds (members (map mirror_contents all))) (1 + 2 * members_looks (members (map mirror_contents all))) held not_held pushed (λ c. ap (λ l. first_holds (members (map mirror_contents l)) c) (nil_from_length all none)) can

pub made_item : (b after : RowBuilder) (m : Member) (not_held : Target) (q : Part) → IsPart q (makes_item m not_held) not_held (1 + 2 * member_looks m) → LeadsOn b (member_holds m) (2 * member_looks m) b.target not_held after → MakesPart b q after
made_item b after m _ q is led =
    let few = led.fewer in
    let own = is.weighs in
    record {
      answers = λ c. led.answers c ∙ ap (outcome b c) (sym (is.answers b.checks c (answer b.checks b.target c)));
      row = led.row;
      fewer = omega arith;
    }

-- What is made and what is left make up the row of a class.
pub record MakesClass (b : RowBuilder) (k : Class) : Type 0 where
  pub answers : (c : ℕ) → row_answer b c ≡ class_holds k c
  pub row : IsRow b (reverse b.parts)

abbrev pub popped : RowBuilder → List Part → RowBuilder
popped b parts = record b { parts = parts }

pub class_first : (b after : RowBuilder) (k : Class) (most : ℕ) → b.checks ≡ [] → b.parts ≡ [] → LeadsOn b (class_holds k) most target.Held target.NotHeld after → MakesClass after k
class_first b after k most empty none led = record {
  answers = λ c. led.answers c ∙ ap (λ ps. parts_answer b.checks c (reverse ps) (if class_holds k c then answer b.checks target.Held c else answer b.checks target.NotHeld c)) none
      ∙ ap (λ y. if class_holds k c then y else answer b.checks target.NotHeld c) (held-is b.checks c (length b.checks))
      ∙ ap (λ y. if class_holds k c then true else y) (not_held-is b.checks c (length b.checks)) ∙ if-itself (class_holds k c);
  row = led.row;
}
  where
    if-itself : (b : Bool) → (if b then true else false) ≡ b
    if-itself true = refl
    if-itself false = refl

pub can_first : (b : RowBuilder) → b.parts ≡ [] → CanLead b target.Held target.NotHeld
can_first b none = record { parts = subst (λ ps. ArePartsBelow (length b.checks) (reverse ps)) (sym none) tt; held_below = tt; not_held_below = tt }

pub row_popped : (b : RowBuilder) (parts : List Part) (p : Part) (k : Class) → b.parts ≡ parts ++ (p ∷ []) → MakesClass b k → IsRow (popped b parts) (p ∷ reverse parts)
row_popped b parts p k is makes = record { parts = subst (ArePartsBelow (length b.checks)) (reverse-last b.parts parts p is) makes.row.parts; begins = makes.row.begins }

pub class_on : (b after : RowBuilder) (parts : List Part) (p : Part) (k : Class) → b.parts ≡ parts ++ (p ∷ []) → MakesClass b k → MakesPart (popped b parts) p after → MakesClass after k
class_on b after parts p k is makes done = record {
  answers = λ c. done.answers c ∙ ap (λ ps. parts_answer b.checks c ps (answer b.checks b.target c)) (sym (reverse-last b.parts parts p is)) ∙ makes.answers c;
  row = done.row;
}

pub class_fewer : (b after : RowBuilder) (parts : List Part) (p : Part) → b.parts ≡ parts ++ (p ∷ []) → MakesPart (popped b parts) p after → part_weights (reverse after.parts) < part_weights (reverse b.parts)
class_fewer b after parts p is done = let e = ap part_weights (reverse-last b.parts parts p is) in let f = done.fewer in omega arith

pub class_made : (b : RowBuilder) (k : Class) → b.parts ≡ [] → MakesClass b k → (c : ℕ) → answer b.checks b.target c ≡ class_holds k c
class_made b k none makes c = ap (λ ps. parts_answer b.checks c (reverse ps) (answer b.checks b.target c)) (sym none) ∙ makes.answers c

-- the targets of a part of a row
pub can_any : (b : RowBuilder) (p : Part) (t : Target) → IsRow b (p ∷ reverse b.parts) → ((n : ℕ) → IsPartBelow n p → IsTargetBelow n t) → CanLead b t b.target
can_any b p t row below = record { parts = row.parts.1; held_below = below (length b.checks) row.parts.0; not_held_below = row.begins }

pub can_all : (b : RowBuilder) (p : Part) (t : Target) → IsRow b (p ∷ reverse b.parts) → ((n : ℕ) → IsPartBelow n p → IsTargetBelow n t) → CanLead b b.target t
can_all b p t row below = record { parts = row.parts.1; held_below = row.begins; not_held_below = below (length b.checks) row.parts.0 }

-- with one part more the parts before it stay as they were
parts-with : (b : RowBuilder) (p : Part) → IsPartBelow (length b.checks) p → ArePartsBelow (length b.checks) (reverse b.parts) → ArePartsBelow (length b.checks) (reverse (b.parts ++ (p ∷ [])))
parts-with b p below parts = subst (ArePartsBelow (length b.checks)) (sym (reverse-last (b.parts ++ (p ∷ [])) b.parts p refl)) (below, parts)

pub can_any_with : (b d : RowBuilder) (p : Part) (t : Target) → d ≡ with_part b p → ((n : ℕ) → IsTargetBelow n t → IsPartBelow n p) → CanLead b t b.target → CanLead d t d.target
can_any_with b d p t pushed below can =
    subst (λ y. CanLead y t y.target) (sym pushed)
    (record { parts = parts-with b p (below (length b.checks) can.held_below) can.parts; held_below = can.held_below; not_held_below = can.not_held_below })

pub can_all_with : (b d : RowBuilder) (p : Part) (t : Target) → d ≡ with_part b p → ((n : ℕ) → IsTargetBelow n t → IsPartBelow n p) → CanLead b b.target t → CanLead d d.target t
can_all_with b d p t pushed below can =
    subst (λ y. CanLead y y.target t) (sym pushed)
    (record { parts = parts-with b p (below (length b.checks) can.not_held_below) can.parts; held_below = can.held_below; not_held_below = can.not_held_below })

kind-is : (s : Span) (negative strings : Bool) (kind : CharacterClassContentsKind) (ms : Members) (c : ℕ) → negate_if negative (class_holds (class nowhere false false kind ms) c) ≡ class_holds (class s negative strings kind ms) c
kind-is s negative strings joined.Union ms c = refl
kind-is s negative strings joined.Intersection ms c = refl
kind-is s negative strings joined.Subtraction ms c = refl

class-is : (k : CharacterClass) (items : List CharacterClassContents) (negative : Bool) (c : ℕ) → k.negative ≡ negative → items ≡ k.body
    → negate_if negative (class_holds (class nowhere false false k.kind (members (map mirror_contents items))) c) ≡ class_holds (mirror_class k) c
class-is k items negative c sign is =
    ap (λ l. negate_if negative (class_holds (class nowhere false false k.kind (members (map mirror_contents l))) c)) is
    ∙ kind-is k.span negative k.strings k.kind (members (map mirror_contents k.body)) c
    ∙ ap (λ n. class_holds (class k.span n k.strings k.kind (members (map mirror_contents k.body))) c) (sym sign)
    ∙ ap (λ x. class_holds x c) (sym (class_is k))

looks-is : (k : CharacterClass) (items : List CharacterClassContents) → items ≡ k.body → members_looks (members (map mirror_contents items)) ≡ class_looks (mirror_class k)
looks-is k items is = ap (λ l. members_looks (members (map mirror_contents l))) is ∙ ap class_looks (sym (class_is k))

-- a class by its contents
pub led_class : (b after : RowBuilder) (k : CharacterClass) (items : List CharacterClassContents) (held not_held : Target) → k.negative ≡ false → items ≡ k.body
    → LeadsOn b (class_holds (class nowhere false false k.kind (members (map mirror_contents items)))) (1 + 2 * members_looks (members (map mirror_contents items))) held not_held after
    → LeadsOn b (class_holds (mirror_class k)) (1 + 2 * class_looks (mirror_class k)) held not_held after
led_class b after k items held not_held sign is led =
    let looks = looks-is k items is in
    led_same b after (class_holds (mirror_class k)) (class_holds (class nowhere false false k.kind (members (map mirror_contents items)))) (1 + 2 * class_looks (mirror_class k)) (1 + 2 * members_looks (members (map mirror_contents items))) held not_held
    (λ c. class-is k items false c sign is) (omega arith) led

pub led_negative : (b after : RowBuilder) (k : CharacterClass) (items : List CharacterClassContents) (held not_held : Target) → k.negative ≡ true → items ≡ k.body
    → LeadsOn b (class_holds (class nowhere false false k.kind (members (map mirror_contents items)))) (1 + 2 * members_looks (members (map mirror_contents items))) not_held held after
    → LeadsOn b (class_holds (mirror_class k)) (1 + 2 * class_looks (mirror_class k)) held not_held after
led_negative b after k items held not_held sign is led =
    let looks = looks-is k items is in
    let other = class_holds (class nowhere false false k.kind (members (map mirror_contents items))) in
    led_same b after (class_holds (mirror_class k)) (class_holds (mirror_class k)) (1 + 2 * class_looks (mirror_class k)) (1 + 2 * members_looks (members (map mirror_contents items))) held not_held (λ c. refl) (omega arith)
    (led_turned b after (class_holds (mirror_class k)) other (1 + 2 * members_looks (members (map mirror_contents items))) held not_held (λ c. class-is k items true c sign is) led)
