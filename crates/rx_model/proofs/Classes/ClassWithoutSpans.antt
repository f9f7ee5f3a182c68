-- A class that is spelled with its spans is spelled without them.
use Rattle.std.proofs.Common.{◌≡◌, ◌≢◌, refl, sym, ap, ap₂, ◌∙◌, subst, ℕ, ◌+◌, ◌==◌, ◌||◌, ◌&&◌, not, List, [], ◌∷◌, ◌++◌, length, map}
use Rattle.std.specs.Prelude.{All}
use Rattle.std.specs.List.{list_any}
use Rattle.std.proofs.lemmas.List.{append-nil, length-map}
use Rattle.std.proofs.lemmas.List.Elements.{All-cons, All-head, All-map, All-nil, All-tail}
use Rattle.rx_base.specs.declared.span.Span.{Span}
use Rattle.rx_ast.specs.declared.leaf.Character.{Character}
use Rattle.rx_ast.specs.declared.leaf.CharacterKind.{CharacterKind}
use Rattle.rx_ast.specs.declared.class.CharacterClassContentsKind.{CharacterClassContentsKind}
use Rattle.rx_ast.specs.declared.class.CharacterClassContentsKind.TheVariants.{Union, Intersection, Subtraction}
use Rattle.rx_ast.specs.declared.class.ClassString.{ClassString}
use Rattle.rx_ast.specs.declared.class.ClassStringDisjunction.{ClassStringDisjunction}
use Rattle.rx_ast.specs.ClassTree.{Member, Members, Class, no_member, member, class}
use Rattle.rx_ast.specs.ClassTree as tree
use Rattle.rx_ast.specs.Forget.{forget_character, forget_string, forget_strings, forget_member, forget_members, forget_class, same_kind}
use Rattle.rx_ast.proofs.Forget.{forget_class_twice}
use Rattle.rx_units.specs.declared.code_point.CodePoint.{CodePoint}
use Rattle.rx_model.specs.Classes.ClassRows.{Place, ClassTokenRow, ClassRow, IsClassShape, IsClass, IsClassSpanned, fresh, outside, next_place}
use Rattle.rx_model.specs.Classes.ClassShapes.{AreFitting, AreFlagged, AreOperands, AreTwo, FitsKind, IsFitting, IsFittingMember, IsFlagged, IsFlaggedMember, IsOperand}
use Rattle.rx_model.specs.Classes.ClassTokens.{ClassEvents, enter, leave, token, bracket, closer, strings, string_bar, strings_end, letter, class_tokens_of, within, letters_events, string_events, barred_strings_events, strings_events, operator_events, member_events, class_events, members_events, more_members_events, class_tokens}
use Rattle.rx_model.specs.Trees.Early.{AreEarlyMembers, IsCodePoint, IsEarlyClass, IsEarlyMember, IsEarlyString, IsFlaggedString, all_strings, any_strings, first_strings, may_contain_strings, member_strings}
use Rattle.rx_model.specs.Inputs.Environment.{Environment}
use Rattle.rx_model.proofs.Classes.ClassTokens.{tokens_append}

-- a span adds no token
pub within_tokens : (s : Span) (es : ClassEvents) → class_tokens_of (within s es) ≡ class_tokens_of es
within_tokens s es = tokens_append es (leave s.end ∷ []) ∙ append-nil (class_tokens_of es)

-- Events that have the same tokens, one after the other.
both_tokens : (es fs gs hs : ClassEvents) → class_tokens_of es ≡ class_tokens_of gs → class_tokens_of fs ≡ class_tokens_of hs → class_tokens_of (es ++ fs) ≡ class_tokens_of (gs ++ hs)
both_tokens es fs gs hs h k = tokens_append es fs ∙ ap₂ (λ ts ss. ts ++ ss) h k ∙ sym (tokens_append gs hs)

within_both : (s r : Span) (es fs : ClassEvents) → class_tokens_of es ≡ class_tokens_of fs → class_tokens_of (within s es) ≡ class_tokens_of (within r fs)
within_both s r es fs h = within_tokens s es ∙ h ∙ sym (within_tokens r fs)

letters_forget : (cs : List Character) → class_tokens_of (letters_events (map (forget_character same_kind) cs)) ≡ class_tokens_of (letters_events cs)
letters_forget [] = refl
letters_forget (c ∷ cs) = ap (λ ts. letter c.kind c.value ∷ ts) (letters_forget cs)

string_forget : (s : ClassString) → class_tokens_of (string_events (forget_string same_kind s)) ≡ class_tokens_of (string_events s)
string_forget s = within_both (forget_string same_kind s).span s.span (letters_events (map (forget_character same_kind) s.body)) (letters_events s.body) (letters_forget s.body)

barred_forget : (ss : List ClassString) → class_tokens_of (barred_strings_events (map (forget_string same_kind) ss)) ≡ class_tokens_of (barred_strings_events ss)
barred_forget [] = refl
barred_forget (s ∷ ss) =
    ap (λ ts. string_bar ∷ ts)
    (both_tokens (string_events (forget_string same_kind s)) (barred_strings_events (map (forget_string same_kind) ss)) (string_events s) (barred_strings_events ss) (string_forget s) (barred_forget ss))

strings_forget : (ss : List ClassString) → class_tokens_of (strings_events (map (forget_string same_kind) ss)) ≡ class_tokens_of (strings_events ss)
strings_forget [] = refl
strings_forget (s ∷ ss) = both_tokens (string_events (forget_string same_kind s)) (barred_strings_events (map (forget_string same_kind) ss)) (string_events s) (barred_strings_events ss) (string_forget s) (barred_forget ss)

disjunction_forget : (d : ClassStringDisjunction) → class_tokens_of (member_events (forget_member same_kind (tree.strings d))) ≡ class_tokens_of (member_events (tree.strings d))
disjunction_forget d =
    let old = strings_events d.body in
    let new = strings_events (map (forget_string same_kind) d.body) in
    within_both (forget_strings same_kind d).span d.span (token strings ∷ (new ++ (token strings_end ∷ []))) (token strings ∷ (old ++ (token strings_end ∷ [])))
    (ap (λ ts. strings ∷ ts) (both_tokens new (token strings_end ∷ []) old (token strings_end ∷ []) (strings_forget d.body) refl))

-- The tokens of a class do not depend on its spans.
mutual
  member_forget : (m : Member) → class_tokens_of (member_events (forget_member same_kind m)) ≡ class_tokens_of (member_events m)
  member_forget (tree.range r) = refl
  member_forget (tree.escape e) = refl
  member_forget (tree.property p) = refl
  member_forget (tree.character c) = refl
  member_forget (tree.nested c) = class_forget c
  member_forget (tree.strings d) = disjunction_forget d

  pub class_forget : (c : Class) → class_tokens (forget_class same_kind c) ≡ class_tokens c
  class_forget (class s negative may kind ms) =
      let old = members_events (operator_events kind) ms in
      let new = members_events (operator_events kind) (forget_members same_kind ms) in
      within_both (record { start = 0; end = 0 }) s (token (bracket negative) ∷ (new ++ (token closer ∷ []))) (token (bracket negative) ∷ (old ++ (token closer ∷ [])))
      (ap (λ ts. bracket negative ∷ ts) (both_tokens new (token closer ∷ []) old (token closer ∷ []) (members_forget (operator_events kind) ms) refl))

  members_forget : (operator : ClassEvents) (ms : Members) → class_tokens_of (members_events operator (forget_members same_kind ms)) ≡ class_tokens_of (members_events operator ms)
  members_forget operator no_member = refl
  members_forget operator (member m ms) =
      both_tokens (member_events (forget_member same_kind m)) (more_members_events operator (forget_members same_kind ms)) (member_events m) (more_members_events operator ms)
      (member_forget m) (more_forget operator ms)

  more_forget : (operator : ClassEvents) (ms : Members) → class_tokens_of (more_members_events operator (forget_members same_kind ms)) ≡ class_tokens_of (more_members_events operator ms)
  more_forget operator no_member = refl
  more_forget operator (member m ms) =
      both_tokens operator (member_events (forget_member same_kind m) ++ more_members_events operator (forget_members same_kind ms)) operator (member_events m ++ more_members_events operator ms) refl
      (both_tokens (member_events (forget_member same_kind m)) (more_members_events operator (forget_members same_kind ms)) (member_events m) (more_members_events operator ms)
      (member_forget m) (more_forget operator ms))

-- MayContainStrings depends neither on spans nor on the kinds of characters.
module _ (kept : CharacterKind → CharacterKind) where
  member_may : (m : Member) → member_strings (forget_member kept m) ≡ member_strings m
  member_may (tree.range r) = refl
  member_may (tree.escape e) = refl
  member_may (tree.property p) = refl
  member_may (tree.character c) = refl
  member_may (tree.nested (class s negative may kind ms)) = refl
  member_may (tree.strings d) = refl

  any_may : (ms : Members) → any_strings (forget_members kept ms) ≡ any_strings ms
  any_may no_member = refl
  any_may (member m ms) = ap₂ (λ a b. a || b) (member_may m) (any_may ms)

  all_may : (ms : Members) → all_strings (forget_members kept ms) ≡ all_strings ms
  all_may no_member = refl
  all_may (member m ms) = ap₂ (λ a b. a && b) (member_may m) (all_may ms)

  first_may : (ms : Members) → first_strings (forget_members kept ms) ≡ first_strings ms
  first_may no_member = refl
  first_may (member m ms) = member_may m

  pub may_forget : (kind : CharacterClassContentsKind) (ms : Members) → may_contain_strings kind (forget_members kept ms) ≡ may_contain_strings kind ms
  may_forget Union ms = any_may ms
  may_forget Intersection ms = all_may ms
  may_forget Subtraction ms = first_may ms

  pub some_strings : (ss : List ClassString) → list_any (λ s. s.strings) (map (forget_string kept) ss) ≡ list_any (λ s. s.strings) ss
  some_strings [] = refl
  some_strings (s ∷ ss) = ap (λ b. s.strings || b) (some_strings ss)

-- Nor do the early errors depend on spans.
early_string : (s : ClassString) → IsEarlyString s → IsEarlyString (forget_string same_kind s)
early_string s h =
    (h.0 ∙ ap (λ n. not (n == 1)) (sym (length-map s.body (forget_character same_kind))), All-map (λ (c : Character). IsCodePoint c.value) (forget_character same_kind) s.body h.1)

early_each : (ss : List ClassString) → All IsEarlyString ss → All IsEarlyString (map (forget_string same_kind) ss)
early_each [] h = All-nil IsEarlyString
early_each (s ∷ ss) h =
    All-cons IsEarlyString (forget_string same_kind s) (map (forget_string same_kind) ss) (early_string s (All-head IsEarlyString s ss h)) (early_each ss (All-tail IsEarlyString s ss h))

mutual
  early_member : (m : Member) → IsEarlyMember m → IsEarlyMember (forget_member same_kind m)
  early_member (tree.range r) h = h
  early_member (tree.escape e) h = h
  early_member (tree.property p) h = h
  early_member (tree.character c) h = h
  early_member (tree.nested c) h = early_forget c h
  early_member (tree.strings d) h = (h.0 ∙ sym (some_strings same_kind d.body), early_each d.body h.1)

  early_members : (ms : Members) → AreEarlyMembers ms → AreEarlyMembers (forget_members same_kind ms)
  early_members no_member h = h
  early_members (member m ms) h = (early_member m h.0, early_members ms h.1)

  pub early_forget : (c : Class) → IsEarlyClass c → IsEarlyClass (forget_class same_kind c)
  early_forget (class s negative may kind ms) h = (h.0 ∙ sym (may_forget same_kind kind ms), h.1, early_members ms h.2)

-- Nor does what a class owes to the grammar.
operand_forget : (m : Member) → IsOperand m → IsOperand (forget_member same_kind m)
operand_forget (tree.range r) h = absurd h
operand_forget m h = h

operands_forget : (ms : Members) → AreOperands ms → AreOperands (forget_members same_kind ms)
operands_forget no_member h = h
operands_forget (member m ms) h = (operand_forget m h.0, operands_forget ms h.1)

two_forget : (ms : Members) → AreTwo ms → AreTwo (forget_members same_kind ms)
two_forget no_member h = absurd h
two_forget (member m no_member) h = absurd h
two_forget (member m (member n ms)) h = h

fits_forget : (kind : CharacterClassContentsKind) (ms : Members) → FitsKind kind ms → FitsKind kind (forget_members same_kind ms)
fits_forget Union ms h = h
fits_forget kind ms h = (two_forget ms h.0, operands_forget ms h.1)

some_forget : (ss : List ClassString) → ss ≢ [] → map (forget_string same_kind) ss ≢ []
some_forget [] h k = h refl
some_forget (s ∷ ss) h k = let no : ⊥ = cc k in no

mutual
  fitting_member : (m : Member) → IsFittingMember m → IsFittingMember (forget_member same_kind m)
  fitting_member (tree.range r) h = h
  fitting_member (tree.escape e) h = h
  fitting_member (tree.property p) h = h
  fitting_member (tree.character c) h = h
  fitting_member (tree.nested c) h = fitting_forget c h
  fitting_member (tree.strings d) h = some_forget d.body h

  fitting_members : (ms : Members) → AreFitting ms → AreFitting (forget_members same_kind ms)
  fitting_members no_member h = h
  fitting_members (member m ms) h = (fitting_member m h.0, fitting_members ms h.1)

  fitting_forget : (c : Class) → IsFitting c → IsFitting (forget_class same_kind c)
  fitting_forget (class s negative may kind ms) h = (fits_forget kind ms h.0, fitting_members ms h.1)

flagged_string : (s : ClassString) → IsFlaggedString s → IsFlaggedString (forget_string same_kind s)
flagged_string s h = h ∙ ap (λ n. not (n == 1)) (sym (length-map s.body (forget_character same_kind)))

flagged_each : (ss : List ClassString) → All IsFlaggedString ss → All IsFlaggedString (map (forget_string same_kind) ss)
flagged_each [] h = All-nil IsFlaggedString
flagged_each (s ∷ ss) h =
    All-cons IsFlaggedString (forget_string same_kind s) (map (forget_string same_kind) ss) (flagged_string s (All-head IsFlaggedString s ss h)) (flagged_each ss (All-tail IsFlaggedString s ss h))

mutual
  flagged_member : (m : Member) → IsFlaggedMember m → IsFlaggedMember (forget_member same_kind m)
  flagged_member (tree.range r) h = h
  flagged_member (tree.escape e) h = h
  flagged_member (tree.property p) h = h
  flagged_member (tree.character c) h = h
  flagged_member (tree.nested c) h = flagged_forget c h
  flagged_member (tree.strings d) h = (h.0 ∙ sym (some_strings same_kind d.body), flagged_each d.body h.1)

  flagged_members : (ms : Members) → AreFlagged ms → AreFlagged (forget_members same_kind ms)
  flagged_members no_member h = h
  flagged_members (member m ms) h = (flagged_member m h.0, flagged_members ms h.1)

  flagged_forget : (c : Class) → IsFlagged c → IsFlagged (forget_class same_kind c)
  flagged_forget (class s negative may kind ms) h = (h.0 ∙ sym (may_forget same_kind kind ms), flagged_members ms h.1)

pub shape_forget : (c : Class) → IsClassShape c → IsClassShape (forget_class same_kind c)
shape_forget c h = (fitting_forget c h.0, flagged_forget c h.1)

module _ (e : Environment) where
  pub class_row_tokens : (o : ℕ → ℕ) (es : ClassEvents) (q : Place) (i : ℕ) (us : List CodePoint) (r : Place) (j : ℕ) (rest : List CodePoint) →
      ClassRow e o es q i us r j rest → ClassTokenRow e (class_tokens_of es) q us r rest
  class_row_tokens o [] q i us r j rest h = (h.0, h.2)
  class_row_tokens o ((enter n) ∷ es) q i us r j rest h = class_row_tokens o es q i us r j rest h.1
  class_row_tokens o ((leave n) ∷ es) q i us r j rest h = class_row_tokens o es q i us r j rest h.1
  class_row_tokens o ((token t) ∷ es) q i us r j rest h = (h.0, h.1, h.2, h.3, class_row_tokens o es (next_place e.mode q t h.1) (i + length h.0) h.1 r j rest h.4)

  pub class_unspanned : (o : ℕ → ℕ) (i : ℕ) (c : Class) (w rest : List CodePoint) → IsClassSpanned e o i c w rest → IsClass e (forget_class same_kind c) w rest
  class_unspanned o i c w rest h = record {
    no_spans = forget_class_twice same_kind same_kind c;
    shape = shape_forget c h.shape;
    row = subst (λ ts. ClassTokenRow e ts outside (w ++ rest) fresh rest) (sym (class_forget c)) (class_row_tokens o (class_events c) outside i (w ++ rest) fresh (i + length w) rest h.row);
  }
