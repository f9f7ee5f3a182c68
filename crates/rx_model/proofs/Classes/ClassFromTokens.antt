-- The tokens of a class tell it but for spans: it is built from them; and a class that is built from tokens has these tokens.
use Rattle.std.proofs.Common.{◌≡◌, refl, sym, ap, ◌∙◌, subst, ◌==◌, Bool, true, cond, not, Option, Some, List, [], ◌∷◌, ◌++◌, map, append_assoc, append-nil}
use Rattle.std.specs.Prelude.{All}
use Rattle.std.specs.List.{list_any}
use Rattle.std.proofs.lemmas.List.{length-map}
use Rattle.std.proofs.lemmas.List.Elements.{All-head, All-tail}
use Rattle.rx_base.specs.declared.diagnostic.kinds.SetOperator.{SetOperator}
use Rattle.rx_base.specs.declared.diagnostic.kinds.SetOperator.TheVariants as set
use Rattle.rx_base.specs.declared.span.Span.{Span}
use Rattle.rx_ast.specs.declared.leaf.Character.{Character}
use Rattle.rx_ast.specs.declared.class.CharacterClassContentsKind.{CharacterClassContentsKind}
use Rattle.rx_ast.specs.declared.class.CharacterClassContentsKind.TheVariants.{Union, Intersection, Subtraction}
use Rattle.rx_ast.specs.declared.class.ClassString.{ClassString}
use Rattle.rx_ast.specs.declared.class.ClassStringDisjunction.{ClassStringDisjunction}
use Rattle.rx_ast.specs.ClassTree.{Class, Member, Members, no_member, member, class}
use Rattle.rx_ast.specs.ClassTree as tree
use Rattle.rx_ast.specs.Forget.{nowhere, forget_character, forget_string, forget_member, forget_members, forget_class, same_kind}
use Rattle.rx_units.proofs.Choices.{Some-inj}
use Rattle.rx_model.specs.Classes.ClassFromTokens.{string_of, strings_member, with_last, kind_of, Level, level_of, class_of_level, nothing_begun, inside_strings, Building, inside_class, no_class, add_member, close_class, building_with_operator, build_class, finished_class, class_of_tokens}
use Rattle.rx_model.specs.Classes.ClassRuns.{Held, empty, single, several, pending, joined, is_whole, operand, with_range, with_operator}
use Rattle.rx_model.specs.Classes.ClassShapes.{AreFitting, AreFlagged, AreOperands, FitsKind, IsFitting, IsFittingMember, IsFlagged, IsFlaggedMember, IsOperand}
use Rattle.rx_model.specs.Classes.ClassTokens.{ClassToken, closer, contents_kind, operator, strings, strings_end, token, leave, class_tokens, class_tokens_of, strings_events}
use Rattle.rx_model.specs.Trees.Early.{IsFlaggedString, may_contain_strings}
use Rattle.rx_model.proofs.Classes.ClassShapes.{IsGrowing, IsJoining, barred_tokens, between_by, class_tokens_by, contents_tokens, first_after, further_tokens, growing_whole, letters_tokens, more_after, operand_of, operand_tokens, some_strings, strings_are, takes_operator, with_member}
use Rattle.rx_model.proofs.Classes.ClassWithoutSpans as unspanned
use Rattle.rx_model.proofs.Classes.ClassWithoutSpans.{may_forget}

-- the first and then the second
abbrev both : Members → Members → Members
both no_member ms = ms
both (member n ns) ms = member n (both ns ms)

both_last : (ns : Members) (m : Member) (ms : Members) → both (with_last ns m) ms ≡ both ns (member m ms)
both_last no_member m ms = refl
both_last (member n ns) m ms = ap (member n) (both_last ns m ms)

both_none : (ns : Members) → both ns no_member ≡ ns
both_none no_member = refl
both_none (member n ns) = ap (member n) (both_none ns)

-- in a bracket in which nothing has begun
abbrev inside : Bool → Held → Members → List Level → Building
inside negative held ms outer = inside_class (level_of negative held ms) outer nothing_begun

abbrev plain_string : ClassString → ClassString
plain_string = forget_string same_kind

abbrev plain_character : Character → Character
plain_character = forget_character same_kind

-- Letters of class strings are the characters of the next.
letters_build : (l : Level) (outer : List Level) (whole : List ClassString) (cs ds : List Character) (ts : List ClassToken) →
    build_class (letters_tokens cs ++ ts) (inside_class l outer (inside_strings whole ds)) ≡ build_class ts (inside_class l outer (inside_strings whole (ds ++ map plain_character cs)))
letters_build l outer whole [] ds ts = ap (λ ds. build_class ts (inside_class l outer (inside_strings whole ds))) (sym (append-nil ds))
letters_build l outer whole (c ∷ cs) ds ts =
    letters_build l outer whole cs (ds ++ (plain_character c ∷ [])) ts
    ∙ ap (λ ds. build_class ts (inside_class l outer (inside_strings whole ds))) (append_assoc ds (plain_character c ∷ []) (map plain_character cs))

pub string_is : (s : ClassString) → IsFlaggedString s → string_of (map plain_character s.body) ≡ plain_string s
string_is s flag = ap (λ b. record { span = nowhere; strings = b; body = map plain_character s.body }) (ap (λ n. not (n == 1)) (length-map s.body plain_character) ∙ sym flag)

-- Class strings from the first on, after others.
strings_build : (l : Level) (outer : List Level) (whole : List ClassString) (s : ClassString) (ss : List ClassString) (more : List ClassToken) → All IsFlaggedString (s ∷ ss) →
    build_class (letters_tokens s.body ++ (barred_tokens ss ++ (strings_end ∷ more))) (inside_class l outer (inside_strings whole []))
    ≡ build_class more (add_member l outer (strings_member (whole ++ map plain_string (s ∷ ss))) (operand l.held))
strings_build l outer whole s [] more flags =
    letters_build l outer whole s.body [] (strings_end ∷ more)
    ∙ ap (λ s. build_class more (add_member l outer (strings_member (whole ++ (s ∷ []))) (operand l.held))) (string_is s (All-head IsFlaggedString s [] flags))
strings_build l outer whole s (t ∷ ss) more flags =
    letters_build l outer whole s.body [] (barred_tokens (t ∷ ss) ++ (strings_end ∷ more))
    ∙ ap (λ s. build_class ((letters_tokens t.body ++ barred_tokens ss) ++ (strings_end ∷ more)) (inside_class l outer (inside_strings (whole ++ (s ∷ [])) []))) (string_is s (All-head IsFlaggedString s (t ∷ ss) flags))
    ∙ ap (λ ts. build_class ts (inside_class l outer (inside_strings (whole ++ (plain_string s ∷ [])) []))) (append_assoc (letters_tokens t.body) (barred_tokens ss) (strings_end ∷ more))
    ∙ strings_build l outer (whole ++ (plain_string s ∷ [])) t ss more (All-tail IsFlaggedString s (t ∷ ss) flags)
    ∙ ap (λ ss. build_class more (add_member l outer (strings_member ss) (operand l.held))) (append_assoc whole (plain_string s ∷ []) (map plain_string (t ∷ ss)))

-- The tokens of a member add it to what the bracket holds.
abbrev Builds : Member → Type 0
Builds m =
    (negative : Bool) (held : Held) (ms : Members) (outer : List Level) (after : Held) → with_member m held ≡ Some after → (ss : List ClassToken) →
    build_class (operand_tokens m ++ ss) (inside negative held ms outer) ≡ build_class ss (inside negative after (with_last ms (forget_member same_kind m)) outer)

abbrev mutual
  AllBuild : Members → Type 0
  AllBuild no_member = Unit {0}
  AllBuild (member m ms) = Builds m × AllBuild ms

then_more : (m : Member) (ts ss : List ClassToken) (s : Building) → build_class ((operand_tokens m ++ ts) ++ ss) s ≡ build_class (operand_tokens m ++ (ts ++ ss)) s
then_more m ts ss s = ap (λ x. build_class x s) (append_assoc (operand_tokens m) ts ss)

holds_more : (l : Level) (outer : List Level) (m : Member) (o : Option Held) (after : Held) → o ≡ Some after → add_member l outer m o ≡ inside l.negative after (with_last l.members m) outer
holds_more l outer m o after e = ap (add_member l outer m) e

operates : (l : Level) (outer : List Level) (o : Option Held) (after : Held) → o ≡ Some after → building_with_operator l outer o ≡ inside l.negative after l.members outer
operates l outer o after e = ap (building_with_operator l outer) e

-- Contents lead from one state of a bracket to another that may close.
abbrev Leads : List ClassToken → Bool → Held → Members → List Level → CharacterClassContentsKind → Members → Type 0
Leads ts negative held old outer kind new =
    (after : Held) × (is_whole after ≡ true) × (kind_of after ≡ kind) × ((ss : List ClassToken) → build_class (ts ++ ss) (inside negative held old outer) ≡ build_class ss (inside negative after new outer))

growing_kind : (held : Held) → IsGrowing held → kind_of held ≡ Union
growing_kind single g = refl
growing_kind several g = refl
growing_kind held g = absurd g

union_on : (ms : Members) → AllBuild ms → (negative : Bool) (held : Held) (old : Members) (outer : List Level) → IsGrowing held →
    Leads (further_tokens [] ms) negative held old outer Union (both old (forget_members same_kind ms))
union_on no_member all negative held old outer g = (held, growing_whole held g, growing_kind held g, λ ss. ap (λ ms. build_class ss (inside negative held ms outer)) (sym (both_none old)))
union_on (member m ms) all negative held old outer g =
    let plain = forget_member same_kind m in
    let more = union_on ms all.1 negative several (with_last old plain) outer tt in (
      more.0,
      more.1,
      more.2,
      λ ss. then_more m (further_tokens [] ms) ss (inside negative held old outer)
          ∙ all.0 negative held old outer several (more_after m held g) (further_tokens [] ms ++ ss)
          ∙ more.3 ss
          ∙ ap (λ ms. build_class ss (inside negative more.0 ms outer)) (both_last old plain (forget_members same_kind ms)),
    )

-- an operator and one operand more
operand_on : (o : SetOperator) (m : Member) (ts ss : List ClassToken) → Builds m → IsOperand m → (negative : Bool) (held : Held) (old : Members) (outer : List Level) → IsJoining o held →
    build_class ((operator o ∷ (operand_tokens m ++ ts)) ++ ss) (inside negative held old outer) ≡ build_class (ts ++ ss) (inside negative (joined o) (with_last old (forget_member same_kind m)) outer)
operand_on o m ts ss builds is negative held old outer j =
    ap (build_class ((operand_tokens m ++ ts) ++ ss)) (operates (level_of negative held old) outer (with_operator o held) (pending o) (takes_operator o held j).1)
    ∙ then_more m ts ss (inside negative (pending o) old outer)
    ∙ builds negative (pending o) old outer (joined o) (operand_of m is (pending o)) (ts ++ ss)

joined_on : (o : SetOperator) (ms : Members) → AllBuild ms → AreOperands ms → (negative : Bool) (old : Members) (outer : List Level) →
    Leads (further_tokens (operator o ∷ []) ms) negative (joined o) old outer (contents_kind o) (both old (forget_members same_kind ms))
joined_on o no_member all os negative old outer = (joined o, refl, refl, λ ss. ap (λ ms. build_class ss (inside negative (joined o) ms outer)) (sym (both_none old)))
joined_on o (member m ms) all os negative old outer =
    let plain = forget_member same_kind m in
    let more = joined_on o ms all.1 os.1 negative (with_last old plain) outer in (
      more.0,
      more.1,
      more.2,
      λ ss. operand_on o m (further_tokens (operator o ∷ []) ms) ss all.0 os.0 negative (joined o) old outer refl
          ∙ more.3 ss
          ∙ ap (λ ms. build_class ss (inside negative more.0 ms outer)) (both_last old plain (forget_members same_kind ms)),
    )

operands_on : (o : SetOperator) (m n : Member) (ms : Members) → AllBuild (member m (member n ms)) → AreOperands (member m (member n ms)) → (negative : Bool) (outer : List Level) →
    Leads (contents_tokens (operator o ∷ []) (member m (member n ms))) negative empty no_member outer (contents_kind o) (forget_members same_kind (member m (member n ms)))
operands_on o m n ms all os negative outer =
    let builds = all.1 in
    let ts = further_tokens (operator o ∷ []) ms in
    let first = member (forget_member same_kind m) no_member in
    let more = joined_on o ms builds.1 os.1.1 negative (with_last first (forget_member same_kind n)) outer in (
      more.0,
      more.1,
      more.2,
      λ ss. then_more m (further_tokens (operator o ∷ []) (member n ms)) ss (inside negative empty no_member outer)
          ∙ all.0 negative empty no_member outer single (operand_of m os.0 empty) (further_tokens (operator o ∷ []) (member n ms) ++ ss)
          ∙ operand_on o n ts ss builds.0 os.1.0 negative single first outer tt
          ∙ more.3 ss,
    )

-- the contents of a bracket, from the first on
contents_on : (kind : CharacterClassContentsKind) (ms : Members) → AllBuild ms → FitsKind kind ms → (negative : Bool) (outer : List Level) →
    Leads (contents_tokens (between_by kind) ms) negative empty no_member outer kind (forget_members same_kind ms)
contents_on Union no_member all fits negative outer = (empty, refl, refl, λ ss. refl)
contents_on Union (member m ms) all fits negative outer =
    let f = first_after m in
    let more = union_on ms all.1 negative f.0 (member (forget_member same_kind m) no_member) outer f.2 in (
      more.0,
      more.1,
      more.2,
      λ ss. then_more m (further_tokens [] ms) ss (inside negative empty no_member outer) ∙ all.0 negative empty no_member outer f.0 f.1 (further_tokens [] ms ++ ss) ∙ more.3 ss,
    )
contents_on Intersection no_member all fits negative outer = absurd fits.0
contents_on Intersection (member m no_member) all fits negative outer = absurd fits.0
contents_on Intersection (member m (member n ms)) all fits negative outer = operands_on set.Intersection m n ms all fits.1 negative outer
contents_on Subtraction no_member all fits negative outer = absurd fits.0
contents_on Subtraction (member m no_member) all fits negative outer = absurd fits.0
contents_on Subtraction (member m (member n ms)) all fits negative outer = operands_on set.Subtraction m n ms all fits.1 negative outer

level_is : (s : Span) (negative may : Bool) (kind : CharacterClassContentsKind) (ms : Members) (held : Held) → kind_of held ≡ kind → may ≡ may_contain_strings kind ms →
    class_of_level (level_of negative held (forget_members same_kind ms)) ≡ forget_class same_kind (class s negative may kind ms)
level_is s negative may kind ms held k flag =
    let plain = forget_members same_kind ms in
    ap (λ kind. class nowhere negative (may_contain_strings kind plain) kind plain) k ∙ ap (λ may. class nowhere negative may kind plain) (may_forget same_kind kind ms ∙ sym flag)

-- the tokens of a class from after its bracket on
class_rest : (s : Span) (negative may : Bool) (kind : CharacterClassContentsKind) (ms : Members) (outer : List Level) → AllBuild ms → FitsKind kind ms → may ≡ may_contain_strings kind ms → (ss : List ClassToken) →
    (l : Level) × (class_of_level l ≡ forget_class same_kind (class s negative may kind ms)) ×
    (build_class ((contents_tokens (between_by kind) ms ++ (closer ∷ [])) ++ ss) (inside negative empty no_member outer) ≡ build_class ss (close_class l outer))
class_rest s negative may kind ms outer all fits flag ss =
    let c = contents_on kind ms all fits negative outer in
    let l = level_of negative c.0 (forget_members same_kind ms) in (
      l,
      level_is s negative may kind ms c.0 c.2 flag,
      ap (λ ts. build_class ts (inside negative empty no_member outer)) (append_assoc (contents_tokens (between_by kind) ms) (closer ∷ []) ss)
          ∙ c.3 (closer ∷ ss)
          ∙ ap (λ b. build_class ss (cond b (close_class l outer) no_class)) c.1,
    )

-- class strings as a member
pub strings_member_is : (d : ClassStringDisjunction) → d.strings ≡ list_any (λ s. s.strings) d.body → strings_member (map plain_string d.body) ≡ forget_member same_kind (tree.strings d)
strings_member_is d flag =
    ap (λ b. tree.strings (record { span = nowhere; strings = b; body = map plain_string d.body })) (unspanned.some_strings same_kind d.body ∙ sym flag)

strings_member_builds : (d : ClassStringDisjunction) (s : ClassString) (more : List ClassString) → d.body ≡ s ∷ more → IsFlaggedMember (tree.strings d) → Builds (tree.strings d)
strings_member_builds d s more is flags negative held old outer after e ss =
    let l = level_of negative held old in
    ap (λ body. build_class ((strings ∷ class_tokens_of ((strings_events body ++ (token strings_end ∷ [])) ++ (leave d.span.end ∷ []))) ++ ss) (inside negative held old outer)) is
    ∙ ap (λ ts. build_class ts (inside_class l outer (inside_strings [] []))) (ap (λ ts. ts ++ ss) (strings_are s more d.span)
    ∙ append_assoc (letters_tokens s.body) (barred_tokens more ++ (strings_end ∷ [])) ss ∙ ap (λ ts. letters_tokens s.body ++ ts) (append_assoc (barred_tokens more) (strings_end ∷ []) ss))
    ∙ strings_build l outer [] s more ss (subst (All IsFlaggedString) is flags.1)
    ∙ ap (λ body. build_class ss (add_member l outer (strings_member (map plain_string body)) (operand held))) (sym is)
    ∙ ap (λ m. build_class ss (add_member l outer m (operand held))) (strings_member_is d flags.0)
    ∙ ap (build_class ss) (holds_more l outer (forget_member same_kind (tree.strings d)) (operand held) after e)

mutual
  class_builds : (c : Class) → IsFitting c → IsFlagged c → Builds (tree.nested c)
  class_builds (class s n flag kind ms) fits flags negative held old outer after e ss =
      let r = class_rest s n flag kind ms (level_of negative held old ∷ outer) (members_build ms fits.1 flags.1) fits.0 flags.0 ss in
      ap (λ ts. build_class (ts ++ ss) (inside negative held old outer)) (class_tokens_by s n flag kind ms)
      ∙ r.2
      ∙ ap (λ c. build_class ss (add_member (level_of negative held old) outer (tree.nested c) (operand held))) r.1
      ∙ ap (build_class ss) (holds_more (level_of negative held old) outer (tree.nested (forget_class same_kind (class s n flag kind ms))) (operand held) after e)

  member_builds : (m : Member) → IsFittingMember m → IsFlaggedMember m → Builds m
  member_builds (tree.range r) fits flags negative held old outer after e ss = ap (build_class ss) (holds_more (level_of negative held old) outer (forget_member same_kind (tree.range r)) (with_range held) after e)
  member_builds (tree.escape x) fits flags negative held old outer after e ss = ap (build_class ss) (holds_more (level_of negative held old) outer (forget_member same_kind (tree.escape x)) (operand held) after e)
  member_builds (tree.property p) fits flags negative held old outer after e ss = ap (build_class ss) (holds_more (level_of negative held old) outer (forget_member same_kind (tree.property p)) (operand held) after e)
  member_builds (tree.character c) fits flags negative held old outer after e ss = ap (build_class ss) (holds_more (level_of negative held old) outer (forget_member same_kind (tree.character c)) (operand held) after e)
  member_builds (tree.nested c) fits flags negative held old outer after e ss = class_builds c fits flags negative held old outer after e ss
  member_builds (tree.strings d) fits flags negative held old outer after e ss =
      some_strings d.body fits (λ s more is. strings_member_builds d s more is flags negative held old outer after e ss)

  members_build : (ms : Members) → AreFitting ms → AreFlagged ms → AllBuild ms
  members_build no_member fits flags = tt
  members_build (member m ms) fits flags = (λ negative held old outer after e ss. member_builds m fits.0 flags.0 negative held old outer after e ss, members_build ms fits.1 flags.1)

-- A class is built from its tokens, but for spans.
pub class_is_built : (c : Class) → IsFitting c → IsFlagged c → class_of_tokens (class_tokens c) ≡ Some (forget_class same_kind c)
class_is_built (class s negative may kind ms) fits flags =
    let r = class_rest s negative may kind ms [] (members_build ms fits.1 flags.1) fits.0 flags.0 [] in
    ap class_of_tokens (class_tokens_by s negative may kind ms)
    ∙ ap (λ ts. finished_class (build_class ts (inside negative empty no_member []))) (sym (append-nil (contents_tokens (between_by kind) ms ++ (closer ∷ []))))
    ∙ ap finished_class r.2
    ∙ ap Some r.1

-- So two classes without spans that have the same tokens are one.
pub same_tokens : (c d : Class) → IsFitting c → IsFlagged c → IsFitting d → IsFlagged d → class_tokens c ≡ class_tokens d → forget_class same_kind c ≡ forget_class same_kind d
same_tokens c d fits flags fit flag h = Some-inj (sym (class_is_built c fits flags) ∙ ap class_of_tokens h ∙ class_is_built d fit flag)
