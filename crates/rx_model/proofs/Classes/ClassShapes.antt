-- The tokens of a class, in any mode, are accepted as a whole class exactly where it is free of early errors.
use Rattle.std.proofs.Common.{◌≡◌, ◌≢◌, refl, sym, ap, ◌∙◌, subst, ℕ, ◌+◌, ◌≤◌, ◌==◌, Bool, true, false, not, ◌&&◌, ◌||◌, Option, Some, List, [], ◌∷◌, ◌++◌, length, append_assoc, append-nil, nat_le, arith, All}
use Rattle.std.proofs.lemmas.Bool.{le-leb, and_from, and_parts, not-true}
use Rattle.std.proofs.lemmas.List.Elements.{All-cons, All-head, All-nil, All-tail}
use Rattle.std.proofs.lemmas.Bool.Decides.{nat_tests}
use Rattle.std.proofs.Math.Bool.{and_assoc, or_assoc, or-false}
use Rattle.std.proofs.Math.Nat.{le_trans}
use Rattle.std.specs.List.{list_any}
use Rattle.rx_base.specs.declared.diagnostic.kinds.SetOperator.{SetOperator}
use Rattle.rx_base.specs.declared.diagnostic.kinds.SetOperator.TheVariants as set
use Rattle.rx_base.specs.declared.span.Span.{Span}
use Rattle.rx_ast.specs.declared.leaf.Character.{Character}
use Rattle.rx_ast.specs.declared.class.CharacterClassContentsKind.{CharacterClassContentsKind}
use Rattle.rx_ast.specs.declared.class.CharacterClassContentsKind.TheVariants.{Union, Intersection, Subtraction}
use Rattle.rx_ast.specs.declared.class.ClassString.{ClassString}
use Rattle.rx_ast.specs.ClassTree.{Class, Member, Members, no_member, member, class}
use Rattle.rx_ast.specs.ClassTree as tree
use Rattle.rx_model.specs.Classes.ClassRuns.{Held, empty, single, several, pending, joined, Bracket, Brackets, after_step, bracket_of, class_run_from_start, class_run, after_closer, add_operator, add_thing, is_whole, operand, with_range, where_may, where_true, with_operator, with_strings}
use Rattle.rx_model.specs.Classes.ClassShapes.{AreFitting, AreFlagged, AreOperands, FitsKind, IsFitting, IsFittingMember, IsFlagged, IsFlaggedMember, IsOperand}
use Rattle.rx_model.specs.Classes.ClassTokens.{ClassToken, bracket, closer, contents_kind, dash, high, operator, strings, letter, string_bar, strings_end, ClassEvents, leave, token, class_tokens, class_tokens_of, letters_events, string_events, strings_events, barred_strings_events, member_events, members_events, more_members_events, operator_events}
use Rattle.rx_model.specs.Trees.Early.{AreCodePoints, AreEarlyMembers, IsCodePoint, IsEarlyClass, IsEarlyMember, IsEarlyString, IsFlaggedString, all_strings, any_strings, class_strings, may_contain_strings, member_strings}
use Rattle.rx_model.proofs.Classes.ClassTokens.{tokens_append}

-- the tokens of what is in a class
abbrev pub operand_tokens : Member → List ClassToken
operand_tokens m = class_tokens_of (member_events m)

abbrev pub further_tokens : List ClassToken → Members → List ClassToken
further_tokens between no_member = []
further_tokens between (member m ms) = between ++ (operand_tokens m ++ further_tokens between ms)

abbrev pub contents_tokens : List ClassToken → Members → List ClassToken
contents_tokens between no_member = []
contents_tokens between (member m ms) = operand_tokens m ++ further_tokens between ms

further_are : (es : ClassEvents) (ms : Members) → class_tokens_of (more_members_events es ms) ≡ further_tokens (class_tokens_of es) ms
further_are es no_member = refl
further_are es (member m ms) =
    tokens_append es (member_events m ++ more_members_events es ms)
    ∙ ap (λ ts. class_tokens_of es ++ ts) (tokens_append (member_events m) (more_members_events es ms) ∙ ap (λ ts. operand_tokens m ++ ts) (further_are es ms))

pub contents_are : (es : ClassEvents) (ms : Members) → class_tokens_of (members_events es ms) ≡ contents_tokens (class_tokens_of es) ms
contents_are es no_member = refl
contents_are es (member m ms) = tokens_append (member_events m) (more_members_events es ms) ∙ ap (λ ts. operand_tokens m ++ ts) (further_are es ms)

abbrev pub between_by : CharacterClassContentsKind → List ClassToken
between_by kind = class_tokens_of (operator_events kind)

pub between_is : (o : SetOperator) → between_by (contents_kind o) ≡ operator o ∷ []
between_is set.Intersection = refl
between_is set.Subtraction = refl

pub class_tokens_by : (s : Span) (negative may : Bool) (kind : CharacterClassContentsKind) (ms : Members) →
    class_tokens (class s negative may kind ms) ≡ bracket negative ∷ (contents_tokens (between_by kind) ms ++ (closer ∷ []))
class_tokens_by s negative may kind ms =
    let es = members_events (operator_events kind) ms in
    ap (λ ts. bracket negative ∷ ts) (tokens_append (es ++ (token closer ∷ [])) (leave s.end ∷ []) ∙ append-nil _
    ∙ tokens_append es (token closer ∷ []) ∙ ap (λ ts. ts ++ (closer ∷ [])) (contents_are (operator_events kind) ms))

-- the tokens of class strings
abbrev pub letters_tokens : List Character → List ClassToken
letters_tokens [] = []
letters_tokens (c ∷ cs) = letter c.kind c.value ∷ letters_tokens cs

letters_are : (cs : List Character) → class_tokens_of (letters_events cs) ≡ letters_tokens cs
letters_are [] = refl
letters_are (c ∷ cs) = ap (λ ts. letter c.kind c.value ∷ ts) (letters_are cs)

string_are : (s : ClassString) → class_tokens_of (string_events s) ≡ letters_tokens s.body
string_are s = tokens_append (letters_events s.body) (leave s.span.end ∷ []) ∙ append-nil _ ∙ letters_are s.body

abbrev pub barred_tokens : List ClassString → List ClassToken
barred_tokens [] = []
barred_tokens (s ∷ ss) = string_bar ∷ (letters_tokens s.body ++ barred_tokens ss)

barred_are : (ss : List ClassString) → class_tokens_of (barred_strings_events ss) ≡ barred_tokens ss
barred_are [] = refl
barred_are (s ∷ ss) =
    ap (λ ts. string_bar ∷ ts) (tokens_append (string_events s) (barred_strings_events ss) ∙ ap (λ ts. ts ++ class_tokens_of (barred_strings_events ss)) (string_are s)
    ∙ ap (λ ts. letters_tokens s.body ++ ts) (barred_are ss))

pub strings_are : (s : ClassString) (ss : List ClassString) (span : Span) →
    class_tokens_of ((strings_events (s ∷ ss) ++ (token strings_end ∷ [])) ++ (leave span.end ∷ [])) ≡ letters_tokens s.body ++ (barred_tokens ss ++ (strings_end ∷ []))
strings_are s ss span =
    tokens_append (strings_events (s ∷ ss) ++ (token strings_end ∷ [])) (leave span.end ∷ []) ∙ append-nil _
    ∙ tokens_append (strings_events (s ∷ ss)) (token strings_end ∷ [])
    ∙ ap (λ ts. ts ++ (strings_end ∷ [])) (tokens_append (string_events s) (barred_strings_events ss) ∙ ap (λ ts. ts ++ class_tokens_of (barred_strings_events ss)) (string_are s)
    ∙ ap (λ ts. letters_tokens s.body ++ ts) (barred_are ss))
    ∙ append_assoc (letters_tokens s.body) (barred_tokens ss) (strings_end ∷ [])

le_true : (a b : ℕ) → nat_le a b ≡ true → a ≤ b
le_true a b h = grind (arith, nat_tests)

-- with this thing more
abbrev pub with_member : Member → Held → Option Held
with_member (tree.range r) held = with_range held
with_member m held = operand held

abbrev on : List ClassToken → Brackets → Option Brackets
on ts brackets = class_run ts brackets

-- an open bracket in the midst of class strings
abbrev in_strings : Bool → Held → Bool → ℕ → Bool → Bracket
in_strings negative held may count any = record { negative = negative; held = held; may = may; low_end = 0; count = count; any = any }

goes : (ts : List ClassToken) {step step_after : Option Brackets} → step ≡ step_after → after_step step (λ after. class_run ts after) ≡ after_step step_after (λ after. class_run ts after)
goes ts e = ap (λ o. after_step o (λ after. class_run ts after)) e

holds : (r : Bracket) (outer : Brackets) (may : Bool) (more : Option Held) (after : Held) → more ≡ Some after → add_thing r outer may more ≡ Some (bracket_of r.negative after (with_strings r.held r.may may) ∷ outer)
holds r outer may more after e = ap (add_thing r outer may) e

true_where : (b : Bool) (o : Option Brackets) → b ≡ true → where_true b o ≡ o
true_where b o e = ap (λ b. where_true b o) e

may_where : (o : Option Held) (after : Held) (bs : Brackets) → o ≡ Some after → where_may o bs ≡ Some bs
may_where o after bs e = ap (λ o. where_may o bs) e

-- What a member does to the bracket that it stands in, whose flag becomes this.
abbrev Out : List ClassToken → Bool → Held → Bool → Brackets → Held → Bool → Type 0
Out ts negative held may outer after new =
    (ss : List ClassToken) → class_run (ts ++ ss) (bracket_of negative held may ∷ outer) ≡ class_run ss (bracket_of negative after (with_strings held may new) ∷ outer)

abbrev Small : Character → Type 0
Small c = IsCodePoint c.value

letters_out : (negative : Bool) (held : Held) (may any : Bool) (outer : Brackets) (cs : List Character) (count : ℕ) (ss : List ClassToken) → AreCodePoints cs →
    class_run (letters_tokens cs ++ ss) (in_strings negative held may count any ∷ outer) ≡ class_run ss (in_strings negative held may (count + length cs) any ∷ outer)
letters_out negative held may any outer [] count ss all = ap (λ n. class_run ss (in_strings negative held may n any ∷ outer)) (omega arith)
letters_out negative held may any outer (c ∷ cs) count ss all =
    goes (letters_tokens cs ++ ss) (true_where (nat_le c.value 0x10FFFF) (Some (in_strings negative held may (count + 1) any ∷ outer)) (le-leb c.value 0x10FFFF (All-head Small c cs all)))
    ∙ letters_out negative held may any outer cs (count + 1) ss (All-tail Small c cs all)
    ∙ ap (λ n. class_run ss (in_strings negative held may n any ∷ outer)) (omega arith)

any_now : (any : Bool) (s : ClassString) (rest : Bool) → IsFlaggedString s → ((any || not ((0 + length s.body) == 1)) || rest) ≡ (any || (s.strings || rest))
any_now any s rest e = or_assoc any (not ((0 + length s.body) == 1)) rest ∙ ap (λ b. any || (b || rest)) (ap (λ n. not (n == 1)) (omega arith) ∙ sym e)

-- Class strings from the first on, after others of which some may be no single character.
pub strings_out : (negative : Bool) (held : Held) (may : Bool) (outer : Brackets) (after : Held) → operand held ≡ Some after → (s : ClassString) (ss : List ClassString) (any : Bool) (more : List ClassToken) →
    All IsEarlyString (s ∷ ss) →
    class_run (letters_tokens s.body ++ (barred_tokens ss ++ (strings_end ∷ more))) (in_strings negative held may 0 any ∷ outer)
    ≡ class_run more (bracket_of negative after (with_strings held may (any || list_any (λ s. s.strings) (s ∷ ss))) ∷ outer)
strings_out negative held may outer after e s [] any more all =
    letters_out negative held may any outer s.body 0 (strings_end ∷ more) (All-head IsEarlyString s [] all).1
    ∙ goes more (holds (in_strings negative held may (0 + length s.body) any) outer (any || not ((0 + length s.body) == 1)) (operand held) after e)
    ∙ ap (λ b. class_run more (bracket_of negative after (with_strings held may b) ∷ outer)) (ending (any || not ((0 + length s.body) == 1)) ∙ any_now any s false (All-head IsEarlyString s [] all).0)
  where
    ending : (b : Bool) → b ≡ (b || false)
    ending true = refl
    ending false = refl
strings_out negative held may outer after e s (t ∷ ss) any more all =
    letters_out negative held may any outer s.body 0 (barred_tokens (t ∷ ss) ++ (strings_end ∷ more)) (All-head IsEarlyString s (t ∷ ss) all).1
    ∙ ap (λ ts. class_run ts (in_strings negative held may 0 (any || not ((0 + length s.body) == 1)) ∷ outer)) (append_assoc (letters_tokens t.body) (barred_tokens ss) (strings_end ∷ more))
    ∙ strings_out negative held may outer after e t ss (any || not ((0 + length s.body) == 1)) more (All-tail IsEarlyString s (t ∷ ss) all)
    ∙ ap (λ b. class_run more (bracket_of negative after (with_strings held may b) ∷ outer)) (any_now any s (list_any (λ s. s.strings) (t ∷ ss)) (All-head IsEarlyString s (t ∷ ss) all).0)

pub some_strings : {A : Type 0} (ss : List ClassString) → ss ≢ [] → ((s : ClassString) (more : List ClassString) → ss ≡ s ∷ more → A) → A
some_strings [] none h = absurd (none refl)
some_strings (s ∷ more) none h = h s more refl

-- a bracket around operands that the operator may follow
abbrev pub IsJoining : SetOperator → Held → Type 0
IsJoining o single = Unit {0}
IsJoining o (joined p) = p ≡ o
IsJoining o held = ⊥

abbrev pub IsGrowing : Held → Type 0
IsGrowing single = Unit {0}
IsGrowing several = Unit {0}
IsGrowing held = ⊥

-- The tokens of contents lead on from such a bracket to one that may close, with this flag.
abbrev Contents : List ClassToken → Bool → Held → Bool → Brackets → Bool → Type 0
Contents ts negative held may outer flag =
    (after : Held) × (is_whole after ≡ true) × ((ss : List ClassToken) → class_run (ts ++ ss) (bracket_of negative held may ∷ outer) ≡ class_run ss (bracket_of negative after flag ∷ outer))

pub operand_of : (m : Member) → IsOperand m → (held : Held) → with_member m held ≡ operand held
operand_of (tree.range r) i held = absurd i
operand_of m i held = refl

pub first_after : (m : Member) → (after : Held) × (with_member m empty ≡ Some after) × IsGrowing after
first_after (tree.range r) = (several, refl, tt)
first_after m = (single, refl, tt)

pub more_after : (m : Member) (held : Held) → IsGrowing held → with_member m held ≡ Some several
more_after (tree.range r) single g = refl
more_after m single g = refl
more_after (tree.range r) several g = refl
more_after m several g = refl
more_after m held g = absurd g

growing_or : (held : Held) (may new : Bool) → IsGrowing held → with_strings held may new ≡ (may || new)
growing_or single may new g = refl
growing_or several may new g = refl
growing_or held may new g = absurd g

pub growing_whole : (held : Held) → IsGrowing held → is_whole held ≡ true
growing_whole single g = refl
growing_whole several g = refl
growing_whole held g = absurd g

pub operator_again : (o : SetOperator) → with_operator o (joined o) ≡ Some (pending o)
operator_again set.Intersection = refl
operator_again set.Subtraction = refl

pub takes_operator : (o : SetOperator) (held : Held) → IsJoining o held → (is_whole held ≡ true) × (with_operator o held ≡ Some (pending o))
takes_operator o single j = (refl, refl)
takes_operator o (joined p) j = (refl, ap (λ p. with_operator o (joined p)) j ∙ operator_again o)
takes_operator o held j = absurd j

and_all : (b : Bool) → (b && true) ≡ b
and_all true = refl
and_all false = refl

-- with an operator
held_by : (r : Bracket) (outer : Brackets) (o : Option Held) (after : Held) → o ≡ Some after → add_operator r outer o ≡ Some (bracket_of r.negative after r.may ∷ outer)
held_by r outer o after e = ap (add_operator r outer) e

abbrev mutual
  AllOut : Members → Type 0
  AllOut no_member = Unit {0}
  AllOut (member m ms) = ((negative : Bool) (held : Held) (may : Bool) (outer : Brackets) (after : Held) → with_member m held ≡ Some after → Out (operand_tokens m) negative held may outer after (member_strings m)) × AllOut ms

-- One member, and what follows it.
then_more : (m : Member) (ts ss : List ClassToken) (bs : Brackets) → class_run ((operand_tokens m ++ ts) ++ ss) bs ≡ class_run (operand_tokens m ++ (ts ++ ss)) bs
then_more m ts ss bs = ap (λ x. class_run x bs) (append_assoc (operand_tokens m) ts ss)

union_on : (ms : Members) → AllOut ms → (negative : Bool) (held : Held) (may : Bool) (outer : Brackets) → IsGrowing held → Contents (further_tokens [] ms) negative held may outer (may || any_strings ms)
union_on no_member all negative held may outer g =
    (held, growing_whole held g, λ ss. ap (λ b. class_run ss (bracket_of negative held b ∷ outer)) (sym (or-false may)))
union_on (member m ms) all negative held may outer g =
    let more = union_on ms all.1 negative several (with_strings held may (member_strings m)) outer tt in (
      more.0,
      more.1,
      λ ss. then_more m (further_tokens [] ms) ss (bracket_of negative held may ∷ outer)
          ∙ all.0 negative held may outer several (more_after m held g) (further_tokens [] ms ++ ss)
          ∙ more.2 ss
          ∙ ap (λ b. class_run ss (bracket_of negative more.0 b ∷ outer)) (ap (λ b. b || any_strings ms) (growing_or held may (member_strings m) g) ∙ or_assoc may (member_strings m) (any_strings ms)),
    )

-- the flag of operands, by that of those that stood before these
abbrev joined_strings : SetOperator → Bool → Members → Bool
joined_strings set.Intersection may ms = may && all_strings ms
joined_strings set.Subtraction may ms = may

none_joined : (o : SetOperator) (may : Bool) → may ≡ joined_strings o may no_member
none_joined set.Intersection may = sym (and_all may)
none_joined set.Subtraction may = refl

one_joined : (o : SetOperator) (may : Bool) (m : Member) (ms : Members) → joined_strings o (with_strings (pending o) may (member_strings m)) ms ≡ joined_strings o may (member m ms)
one_joined set.Intersection may m ms = and_assoc may (member_strings m) (all_strings ms)
one_joined set.Subtraction may m ms = refl

-- an operator, an operand, and what follows them
then_operand : (o : SetOperator) (m : Member) (ts ss : List ClassToken) (negative : Bool) (held : Held) (may : Bool) (outer : Brackets) → IsJoining o held →
    class_run ((operator o ∷ (operand_tokens m ++ ts)) ++ ss) (bracket_of negative held may ∷ outer) ≡ class_run (operand_tokens m ++ (ts ++ ss)) (bracket_of negative (pending o) may ∷ outer)
then_operand o m ts ss negative held may outer j =
    goes ((operand_tokens m ++ ts) ++ ss) (held_by (bracket_of negative held may) outer (with_operator o held) (pending o) (takes_operator o held j).1)
    ∙ then_more m ts ss (bracket_of negative (pending o) may ∷ outer)

joined_on : (o : SetOperator) (ms : Members) → AllOut ms → AreOperands ms → (negative : Bool) (held : Held) (may : Bool) (outer : Brackets) → IsJoining o held →
    Contents (further_tokens (operator o ∷ []) ms) negative held may outer (joined_strings o may ms)
joined_on o no_member all os negative held may outer j =
    (held, (takes_operator o held j).0, λ ss. ap (λ b. class_run ss (bracket_of negative held b ∷ outer)) (none_joined o may))
joined_on o (member m ms) all os negative held may outer j =
    let ts = further_tokens (operator o ∷ []) ms in
    let more = joined_on o ms all.1 os.1 negative (joined o) (with_strings (pending o) may (member_strings m)) outer refl in (
      more.0,
      more.1,
      λ ss. then_operand o m ts ss negative held may outer j
          ∙ all.0 negative (pending o) may outer (joined o) (operand_of m os.0 (pending o)) (ts ++ ss)
          ∙ more.2 ss
          ∙ ap (λ b. class_run ss (bracket_of negative more.0 b ∷ outer)) (one_joined o may m ms),
    )

operands_on : (o : SetOperator) (m : Member) (ms : Members) → AllOut (member m ms) → AreOperands (member m ms) → (negative : Bool) (outer : Brackets) →
    Contents (contents_tokens (operator o ∷ []) (member m ms)) negative empty false outer (joined_strings o (member_strings m) ms)
operands_on o m ms all os negative outer =
    let ts = further_tokens (operator o ∷ []) ms in
    let more = joined_on o ms all.1 os.1 negative single (member_strings m) outer tt in (
      more.0,
      more.1,
      λ ss. then_more m ts ss (bracket_of negative empty false ∷ outer) ∙ all.0 negative empty false outer single (operand_of m os.0 empty) (ts ++ ss) ∙ more.2 ss,
    )

contents_on : (kind : CharacterClassContentsKind) (ms : Members) → AllOut ms → FitsKind kind ms → (negative : Bool) (outer : Brackets) →
    Contents (contents_tokens (between_by kind) ms) negative empty false outer (may_contain_strings kind ms)
contents_on Union no_member all fits negative outer = (empty, refl, λ ss. refl)
contents_on Intersection no_member all fits negative outer = absurd fits.0
contents_on Subtraction no_member all fits negative outer = absurd fits.0
contents_on Union (member m ms) all fits negative outer =
    let f = first_after m in
    let more = union_on ms all.1 negative f.0 (member_strings m) outer f.2 in
    (more.0, more.1, λ ss. then_more m (further_tokens [] ms) ss (bracket_of negative empty false ∷ outer) ∙ all.0 negative empty false outer f.0 f.1 (further_tokens [] ms ++ ss) ∙ more.2 ss)
contents_on Intersection (member m ms) all fits negative outer = operands_on set.Intersection m ms all fits.1 negative outer
contents_on Subtraction (member m ms) all fits negative outer = operands_on set.Subtraction m ms all fits.1 negative outer

may_close_now : (held : Held) (negative may : Bool) → is_whole held ≡ true → (negative && may) ≡ false → (is_whole held && not (negative && may)) ≡ true
may_close_now held negative may w n = and_from (is_whole held) (not (negative && may)) w (ap not n)

-- the tokens of a class from after its bracket on
class_rest : (negative may : Bool) (kind : CharacterClassContentsKind) (ms : Members) (outer : Brackets) → AllOut ms → FitsKind kind ms → may ≡ may_contain_strings kind ms → (negative && may) ≡ false → (ss : List ClassToken) →
    class_run ((contents_tokens (between_by kind) ms ++ (closer ∷ [])) ++ ss) (bracket_of negative empty false ∷ outer) ≡ after_step (after_closer may true outer) (λ after. class_run ss after)
class_rest negative may kind ms outer all fits flag free ss =
    let c = contents_on kind ms all fits negative outer in
    ap (λ ts. class_run ts (bracket_of negative empty false ∷ outer)) (append_assoc (contents_tokens (between_by kind) ms) (closer ∷ []) ss)
    ∙ c.2 (closer ∷ ss)
    ∙ ap (λ b. after_step (after_closer b (is_whole c.0 && not (negative && b)) outer) (λ after. class_run ss after)) (sym flag)
    ∙ ap (λ b. after_step (after_closer may b outer) (λ after. class_run ss after)) (may_close_now c.0 negative may c.1 free)

mutual
  class_out : (c : Class) → IsFitting c → IsEarlyClass c → (negative : Bool) (held : Held) (may : Bool) (outer : Brackets) (after : Held) → operand held ≡ Some after →
      Out (class_tokens c) negative held may outer after (class_strings c)
  class_out (class s n flag kind ms) fits early negative held may outer after e ss =
      ap (λ ts. class_run (ts ++ ss) (bracket_of negative held may ∷ outer)) (class_tokens_by s n flag kind ms)
      ∙ goes ((contents_tokens (between_by kind) ms ++ (closer ∷ [])) ++ ss) (may_where (operand held) after (bracket_of n empty false ∷ bracket_of negative held may ∷ outer) e)
      ∙ class_rest n flag kind ms (bracket_of negative held may ∷ outer) (members_out ms fits.1 early.2) fits.0 early.0 early.1 ss
      ∙ goes ss (holds (bracket_of negative held may) outer flag (operand held) after e)

  pub member_out : (m : Member) → IsFittingMember m → IsEarlyMember m → (negative : Bool) (held : Held) (may : Bool) (outer : Brackets) (after : Held) → with_member m held ≡ Some after →
      Out (operand_tokens m) negative held may outer after (member_strings m)
  member_out (tree.range r) fits early negative held may outer after e ss =
      let b : Bracket = record (bracket_of negative held may) { low_end = r.min.value } in
      goes (dash ∷ high r.max.kind r.max.value ∷ ss) (may_where (with_range held) after (b ∷ outer) e)
      ∙ goes ss (true_where (nat_le r.min.value r.max.value && nat_le r.max.value 0x10FFFF) (add_thing b outer false (with_range held))
      (and_from (nat_le r.min.value r.max.value) (nat_le r.max.value 0x10FFFF) (le-leb r.min.value r.max.value early.2) (le-leb r.max.value 0x10FFFF early.1)) ∙ holds b outer false (with_range held) after e)
  member_out (tree.escape x) fits early negative held may outer after e ss = goes ss (holds (bracket_of negative held may) outer false (operand held) after e)
  member_out (tree.property p) fits early negative held may outer after e ss =
      goes ss (true_where (not (p.negative && p.strings)) (add_thing (bracket_of negative held may) outer p.strings (operand held)) (ap not early.1)
      ∙ holds (bracket_of negative held may) outer p.strings (operand held) after e)
  member_out (tree.character c) fits early negative held may outer after e ss =
      goes ss (true_where (nat_le c.value 0x10FFFF) (add_thing (bracket_of negative held may) outer false (operand held)) (le-leb c.value 0x10FFFF early)
      ∙ holds (bracket_of negative held may) outer false (operand held) after e)
  member_out (tree.nested c) fits early negative held may outer after e ss = class_out c fits early negative held may outer after e ss
  member_out (tree.strings d) fits early negative held may outer after e ss =
      some_strings d.body fits (λ s more is.
      ap (λ body. class_run ((strings ∷ class_tokens_of ((strings_events body ++ (token strings_end ∷ [])) ++ (leave d.span.end ∷ []))) ++ ss) (bracket_of negative held may ∷ outer)) is
      ∙ goes (class_tokens_of ((strings_events (s ∷ more) ++ (token strings_end ∷ [])) ++ (leave d.span.end ∷ [])) ++ ss) (may_where (operand held) after (bracket_of negative held may ∷ outer) e)
      ∙ ap (λ ts. class_run ts (bracket_of negative held may ∷ outer)) (ap (λ ts. ts ++ ss) (strings_are s more d.span)
      ∙ append_assoc (letters_tokens s.body) (barred_tokens more ++ (strings_end ∷ [])) ss ∙ ap (λ ts. letters_tokens s.body ++ ts) (append_assoc (barred_tokens more) (strings_end ∷ []) ss))
      ∙ strings_out negative held may outer after e s more false ss (subst (All IsEarlyString) is early.1)
      ∙ ap (λ b. class_run ss (bracket_of negative after (with_strings held may b) ∷ outer)) (ap (list_any (λ s. s.strings)) (sym is) ∙ sym early.0))

  members_out : (ms : Members) → AreFitting ms → AreEarlyMembers ms → AllOut ms
  members_out no_member fits early = tt
  members_out (member m ms) fits early = (λ negative held may outer after e. member_out m fits.0 early.0 negative held may outer after e, members_out ms fits.1 early.1)

pub early_closes : (c : Class) → IsFitting c → IsEarlyClass c → class_run_from_start (class_tokens c) ≡ Some []
early_closes (class s negative may kind ms) fits early =
    ap class_run_from_start (class_tokens_by s negative may kind ms)
    ∙ ap (λ ts. class_run ts (bracket_of negative empty false ∷ [])) (sym (append-nil (contents_tokens (between_by kind) ms ++ (closer ∷ []))))
    ∙ class_rest negative may kind ms [] (members_out ms fits.1 early.2) fits.0 early.0 early.1 []

-- What is accepted obeys.
true_first : (b : Bool) (o : Option Brackets) (more : Brackets → Option Brackets) (end : Brackets) → after_step (where_true b o) more ≡ Some end → b ≡ true
true_first true o more end h = refl
true_first false o more end h = absurd (let no : ⊥ = cc h in no)

closed_first : (b may : Bool) (outer : Brackets) (more : Brackets → Option Brackets) (end : Brackets) → after_step (after_closer may b outer) more ≡ Some end → b ≡ true
closed_first true may outer more end h = refl
closed_first false may outer more end h = absurd (let no : ⊥ = cc h in no)

letters_early : (negative : Bool) (held : Held) (may any : Bool) (outer : Brackets) (cs : List Character) (count : ℕ) (ss : List ClassToken) (end : Brackets) →
    class_run (letters_tokens cs ++ ss) (in_strings negative held may count any ∷ outer) ≡ Some end → AreCodePoints cs
letters_early negative held may any outer [] count ss end h = All-nil Small
letters_early negative held may any outer (c ∷ cs) count ss end h =
    let small = true_first (nat_le c.value 0x10FFFF) (Some (in_strings negative held may (count + 1) any ∷ outer)) (λ after. class_run (letters_tokens cs ++ ss) after) end h in
    All-cons Small c cs (le_true c.value 0x10FFFF small)
    (letters_early negative held may any outer cs (count + 1) ss end
    (sym (goes (letters_tokens cs ++ ss) (true_where (nat_le c.value 0x10FFFF) (Some (in_strings negative held may (count + 1) any ∷ outer)) small)) ∙ h))

strings_early : (negative : Bool) (held : Held) (may : Bool) (outer : Brackets) (s : ClassString) (ss : List ClassString) (any : Bool) (more : List ClassToken) (end : Brackets) →
    All IsFlaggedString (s ∷ ss) → class_run (letters_tokens s.body ++ (barred_tokens ss ++ (strings_end ∷ more))) (in_strings negative held may 0 any ∷ outer) ≡ Some end → All IsEarlyString (s ∷ ss)
strings_early negative held may outer s [] any more end flags h =
    All-cons IsEarlyString s [] (All-head IsFlaggedString s [] flags, letters_early negative held may any outer s.body 0 (strings_end ∷ more) end h) (All-nil IsEarlyString)
strings_early negative held may outer s (t ∷ ss) any more end flags h =
    let small = letters_early negative held may any outer s.body 0 (barred_tokens (t ∷ ss) ++ (strings_end ∷ more)) end h in
    let rest = strings_early negative held may outer t ss (any || not ((0 + length s.body) == 1)) more end (All-tail IsFlaggedString s (t ∷ ss) flags)
    (sym (letters_out negative held may any outer s.body 0 (barred_tokens (t ∷ ss) ++ (strings_end ∷ more)) small
    ∙ ap (λ ts. class_run ts (in_strings negative held may 0 (any || not ((0 + length s.body) == 1)) ∷ outer)) (append_assoc (letters_tokens t.body) (barred_tokens ss) (strings_end ∷ more))) ∙ h) in
    All-cons IsEarlyString s (t ∷ ss) (All-head IsFlaggedString s (t ∷ ss) flags, small) rest

-- Of each member: where it is accepted it is early.
abbrev mutual
  AllEarly : Members → Type 0
  AllEarly no_member = Unit {0}
  AllEarly (member m ms) =
      ((negative : Bool) (held : Held) (may : Bool) (outer : Brackets) (after : Held) → with_member m held ≡ Some after → (ss : List ClassToken) (end : Brackets) →
      class_run (operand_tokens m ++ ss) (bracket_of negative held may ∷ outer) ≡ Some end →
      IsEarlyMember m × (class_run ss (bracket_of negative after (with_strings held may (member_strings m)) ∷ outer) ≡ Some end)) × AllEarly ms

union_early : (ms : Members) → AllEarly ms → (negative : Bool) (held : Held) (may : Bool) (outer : Brackets) → IsGrowing held → (ss : List ClassToken) (end : Brackets) →
    class_run (further_tokens [] ms ++ ss) (bracket_of negative held may ∷ outer) ≡ Some end → AreEarlyMembers ms
union_early no_member all negative held may outer g ss end h = tt
union_early (member m ms) all negative held may outer g ss end h =
    let first = all.0 negative held may outer several (more_after m held g) (further_tokens [] ms ++ ss) end (sym (then_more m (further_tokens [] ms) ss (bracket_of negative held may ∷ outer)) ∙ h) in
    (first.0, union_early ms all.1 negative several (with_strings held may (member_strings m)) outer tt ss end first.1)

joined_early : (o : SetOperator) (ms : Members) → AllEarly ms → AreOperands ms → (negative : Bool) (held : Held) (may : Bool) (outer : Brackets) → IsJoining o held → (ss : List ClassToken) (end : Brackets) →
    class_run (further_tokens (operator o ∷ []) ms ++ ss) (bracket_of negative held may ∷ outer) ≡ Some end → AreEarlyMembers ms
joined_early o no_member all os negative held may outer j ss end h = tt
joined_early o (member m ms) all os negative held may outer j ss end h =
    let ts = further_tokens (operator o ∷ []) ms in
    let first = all.0 negative (pending o) may outer (joined o) (operand_of m os.0 (pending o)) (ts ++ ss) end (sym (then_operand o m ts ss negative held may outer j) ∙ h) in
    (first.0, joined_early o ms all.1 os.1 negative (joined o) (with_strings (pending o) may (member_strings m)) outer refl ss end first.1)

operands_early : (o : SetOperator) (m : Member) (ms : Members) → AllEarly (member m ms) → AreOperands (member m ms) → (negative : Bool) (outer : Brackets) (ss : List ClassToken) (end : Brackets) →
    class_run (contents_tokens (operator o ∷ []) (member m ms) ++ ss) (bracket_of negative empty false ∷ outer) ≡ Some end → AreEarlyMembers (member m ms)
operands_early o m ms all os negative outer ss end h =
    let ts = further_tokens (operator o ∷ []) ms in
    let first = all.0 negative empty false outer single (operand_of m os.0 empty) (ts ++ ss) end (sym (then_more m ts ss (bracket_of negative empty false ∷ outer)) ∙ h) in
    (first.0, joined_early o ms all.1 os.1 negative single (member_strings m) outer tt ss end first.1)

contents_early : (kind : CharacterClassContentsKind) (ms : Members) → AllEarly ms → FitsKind kind ms → (negative : Bool) (outer : Brackets) (ss : List ClassToken) (end : Brackets) →
    class_run (contents_tokens (between_by kind) ms ++ ss) (bracket_of negative empty false ∷ outer) ≡ Some end → AreEarlyMembers ms
contents_early Union no_member all fits negative outer ss end h = tt
contents_early Intersection no_member all fits negative outer ss end h = absurd fits.0
contents_early Subtraction no_member all fits negative outer ss end h = absurd fits.0
contents_early Union (member m ms) all fits negative outer ss end h =
    let f = first_after m in
    let first = all.0 negative empty false outer f.0 f.1 (further_tokens [] ms ++ ss) end (sym (then_more m (further_tokens [] ms) ss (bracket_of negative empty false ∷ outer)) ∙ h) in
    (first.0, union_early ms all.1 negative f.0 (member_strings m) outer f.2 ss end first.1)
contents_early Intersection (member m ms) all fits negative outer ss end h = operands_early set.Intersection m ms all fits.1 negative outer ss end h
contents_early Subtraction (member m ms) all fits negative outer ss end h = operands_early set.Subtraction m ms all fits.1 negative outer ss end h

rest_early : (negative may : Bool) (kind : CharacterClassContentsKind) (ms : Members) (outer : Brackets) → AllEarly ms → AreFitting ms → FitsKind kind ms → may ≡ may_contain_strings kind ms → (ss : List ClassToken) (end : Brackets) →
    class_run ((contents_tokens (between_by kind) ms ++ (closer ∷ [])) ++ ss) (bracket_of negative empty false ∷ outer) ≡ Some end → ((negative && may) ≡ false) × AreEarlyMembers ms
rest_early negative may kind ms outer all fitting fits flag ss end h =
    let apart = append_assoc (contents_tokens (between_by kind) ms) (closer ∷ []) ss in
    let there = ap (λ ts. class_run ts (bracket_of negative empty false ∷ outer)) (sym apart) ∙ h in
    let early = contents_early kind ms all fits negative outer (closer ∷ ss) end there in
    let c = contents_on kind ms (members_out ms fitting early) fits negative outer in
    let b = may_contain_strings kind ms in
    let true_is = closed_first (is_whole c.0 && not (negative && b)) b outer (λ after. class_run ss after) end (sym (c.2 (closer ∷ ss)) ∙ there) in
    (ap (λ m. negative && m) flag ∙ not-true (negative && b) (and_parts (is_whole c.0) (not (negative && b)) true_is).1, early)

mutual
  class_early : (c : Class) → IsFitting c → IsFlagged c → (negative : Bool) (held : Held) (may : Bool) (outer : Brackets) (after : Held) → operand held ≡ Some after → (ss : List ClassToken) (end : Brackets) →
      class_run (class_tokens c ++ ss) (bracket_of negative held may ∷ outer) ≡ Some end → IsEarlyClass c
  class_early (class s n flag kind ms) fits flags negative held may outer after e ss end h =
      let there = sym (goes ((contents_tokens (between_by kind) ms ++ (closer ∷ [])) ++ ss) (may_where (operand held) after (bracket_of n empty false ∷ bracket_of negative held may ∷ outer) e))
      ∙ ap (λ ts. class_run (ts ++ ss) (bracket_of negative held may ∷ outer)) (sym (class_tokens_by s n flag kind ms)) ∙ h in
      let r = rest_early n flag kind ms (bracket_of negative held may ∷ outer) (members_early ms fits.1 flags.1) fits.1 fits.0 flags.0 ss end there in
      (flags.0, r.0, r.1)

  member_early : (m : Member) → IsFittingMember m → IsFlaggedMember m → (negative : Bool) (held : Held) (may : Bool) (outer : Brackets) (after : Held) → with_member m held ≡ Some after →
      (ss : List ClassToken) (end : Brackets) → class_run (operand_tokens m ++ ss) (bracket_of negative held may ∷ outer) ≡ Some end → IsEarlyMember m
  member_early (tree.range r) fits flags negative held may outer after e ss end h =
      let b : Bracket = record (bracket_of negative held may) { low_end = r.min.value } in
      let there = sym (goes (dash ∷ high r.max.kind r.max.value ∷ ss) (may_where (with_range held) after (b ∷ outer) e)) ∙ h in
      let t = and_parts (nat_le r.min.value r.max.value) (nat_le r.max.value 0x10FFFF)
      (true_first (nat_le r.min.value r.max.value && nat_le r.max.value 0x10FFFF) (add_thing b outer false (with_range held)) (λ after. class_run ss after) end there) in
      let order = le_true r.min.value r.max.value t.0 in
      let small = le_true r.max.value 0x10FFFF t.1 in
      (le_trans order small, small, order)
  member_early (tree.escape x) fits flags negative held may outer after e ss end h = tt
  member_early (tree.property p) fits flags negative held may outer after e ss end h = (
    flags,
    not-true (p.negative && p.strings) (true_first (not (p.negative && p.strings)) (add_thing (bracket_of negative held may) outer p.strings (operand held)) (λ after. class_run ss after) end h),
  )
  member_early (tree.character c) fits flags negative held may outer after e ss end h =
      le_true c.value 0x10FFFF (true_first (nat_le c.value 0x10FFFF) (add_thing (bracket_of negative held may) outer false (operand held)) (λ after. class_run ss after) end h)
  member_early (tree.nested c) fits flags negative held may outer after e ss end h = class_early c fits flags negative held may outer after e ss end h
  member_early (tree.strings d) fits flags negative held may outer after e ss end h = (
    flags.0,
    some_strings d.body fits (λ s more is.
        subst (All IsEarlyString) (sym is) (strings_early negative held may outer s more false ss end (subst (All IsFlaggedString) is flags.1)
        (sym (ap (λ body. class_run ((strings ∷ class_tokens_of ((strings_events body ++ (token strings_end ∷ [])) ++ (leave d.span.end ∷ []))) ++ ss) (bracket_of negative held may ∷ outer)) is
        ∙ goes (class_tokens_of ((strings_events (s ∷ more) ++ (token strings_end ∷ [])) ++ (leave d.span.end ∷ [])) ++ ss) (may_where (operand held) after (bracket_of negative held may ∷ outer) e)
        ∙ ap (λ ts. class_run ts (bracket_of negative held may ∷ outer)) (ap (λ ts. ts ++ ss) (strings_are s more d.span)
        ∙ append_assoc (letters_tokens s.body) (barred_tokens more ++ (strings_end ∷ [])) ss ∙ ap (λ ts. letters_tokens s.body ++ ts) (append_assoc (barred_tokens more) (strings_end ∷ []) ss))) ∙ h))),
  )

  members_early : (ms : Members) → AreFitting ms → AreFlagged ms → AllEarly ms
  members_early no_member fits flags = tt
  members_early (member m ms) fits flags = (
    λ negative held may outer after e ss end h.
        let early = member_early m fits.0 flags.0 negative held may outer after e ss end h in
        (early, sym (member_out m fits.0 early negative held may outer after e ss) ∙ h),
    members_early ms fits.1 flags.1,
  )

pub closes_early : (c : Class) → IsFitting c → IsFlagged c → class_run_from_start (class_tokens c) ≡ Some [] → IsEarlyClass c
closes_early (class s negative may kind ms) fits flags h =
    let there = ap (λ ts. class_run ts (bracket_of negative empty false ∷ [])) (append-nil (contents_tokens (between_by kind) ms ++ (closer ∷ []))) ∙ ap class_run_from_start (sym (class_tokens_by s negative may kind ms)) ∙ h in
    let r = rest_early negative may kind ms [] (members_early ms fits.1 flags.1) fits.1 fits.0 flags.0 [] [] there in
    (flags.0, r.0, r.1)
