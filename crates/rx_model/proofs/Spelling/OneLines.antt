-- The canonical spelling stands in one line.
use Rattle.std.proofs.Common.{◌≡◌, ◌≢◌, subst, ℕ, ◌≤◌, Bool, true, false, not, ◌==◌, ◌&&◌, ◌||◌, Option, Some, None, List, [], ◌∷◌, ◌++◌, refl, sym, ◌∙◌, arith}
use Rattle.std.specs.List.{list_all, All}
use Rattle.std.specs.Fmt.{decimal}
use Rattle.std.proofs.lemmas.Bool.{and_from, cond_both, not-true}
use Rattle.std.proofs.lemmas.Bool.Decides.{nat_tests}
use Rattle.std.proofs.lemmas.List.Elements.{All-nil, All-cons, All-head, All-tail}
use Rattle.std.proofs.lemmas.List.Folds.{list_all-append}
use Rattle.rx_base.specs.Characters.{is_within}
use Rattle.rx_ast.specs.declared.leaf.BoundaryAssertionKind.{BoundaryAssertionKind}
use Rattle.rx_ast.specs.declared.leaf.BoundaryAssertionKind.TheVariants as boundaries
use Rattle.rx_ast.specs.declared.leaf.Character.{Character}
use Rattle.rx_ast.specs.declared.leaf.CharacterClassEscapeKind.{CharacterClassEscapeKind}
use Rattle.rx_ast.specs.declared.leaf.CharacterClassEscapeKind.TheVariants.{D, NegativeD, S, NegativeS, W, NegativeW}
use Rattle.rx_ast.specs.declared.leaf.LookAroundAssertionKind.{LookAroundAssertionKind}
use Rattle.rx_ast.specs.declared.leaf.LookAroundAssertionKind.TheVariants as look
use Rattle.rx_ast.specs.declared.term.Pattern.{Pattern}
use Rattle.rx_ast.specs.ClassTree as in_tree
use Rattle.rx_ast.specs.ClassTree.{Member, Members, Class, no_member, member}
use Rattle.rx_ast.specs.declared.class.CharacterClassContentsKind.{CharacterClassContentsKind}
use Rattle.rx_ast.specs.declared.class.CharacterClassContentsKind.TheVariants.{Union, Intersection, Subtraction}
use Rattle.rx_ast.specs.declared.class.ClassString.{ClassString}
use Rattle.rx_ast.specs.Forget.{bare}
use Rattle.rx_tables.proofs.Separators.{line_separator_starts_none, line_separator_in_none, paragraph_separator_starts_none, paragraph_separator_in_none}
use Rattle.rx_units.specs.declared.code_point.CodePoint.{CodePoint}
use Rattle.rx_units.proofs.Choices.{both}
use Rattle.rx_model.specs.declared.mode.Mode.{Mode}
use Rattle.rx_ast.specs.Texts.{boundary_text, class_escape_text, property_body, property_text, class_opener, operator_text, look_text, counts_text, lazy_text, quantifier_text}
use Rattle.rx_model.specs.Spelling.CharacterText.{Place, outside, in_class, character_text}
use Rattle.rx_model.specs.Spelling.ClassText.{in_class_text, characters_text, barred_strings_text, strings_text, member_text, members_text, more_members_text, class_text}
use Rattle.rx_model.specs.Trees.Early.{Obeys, most_groups}
use Rattle.rx_model.specs.Inputs.Environment.{Environment, environment}
use Rattle.rx_model.specs.Trees.Events.{tokens}
use Rattle.rx_model.specs.Trees.Names.{groups, names}
use Rattle.rx_model.specs.Spelling.OneLine.{ends_column, IsOneLine}
use Rattle.rx_model.specs.Properties.PropertyEscapes.{SpellsProperty}
use Rattle.rx_model.specs.Reading.Reading.{Reads}
use Rattle.rx_model.specs.Groups.GroupNames.{is_in_name}
use Rattle.rx_model.specs.Spelling.Spelling.{spelling}
use Rattle.rx_model.specs.Trees.Token.{Token, Opener, boundary, character, dot, class_escape, property, class, indexed, named, opener, closer, bar, quantifier, capturing, ignoring, looking}
use Rattle.rx_model.specs.declared.rules.Rules.{Rules}
use Rattle.rx_model.proofs.Spelling.ClassTexts.{some_character}
use Rattle.rx_model.proofs.Spelling.ClassKnown.{IsKnownMember, AreKnownMembers, IsKnownTree, IsKnownClass}
use Rattle.rx_model.proofs.Properties.PropertyWords.{is_property_unit, property_units}
use Rattle.rx_model.proofs.Spelling.TokenTexts.{opened_text, token_text, token_refers, tokens_text, spelled_by_tokens}
use Rattle.rx_model.proofs.Groups.GroupNames.{differs}
use Rattle.rx_model.proofs.Spelling.Known.{IsKnownOpener, Known, AreKnown, are_known, has_tokens}
use Rattle.rx_model.proofs.Groups.NameTexts.{IsName}
use Rattle.rx_model.proofs.Spelling.SomeTexts.{some, some-append}
use Rattle.rx_model.proofs.Spelling.PrintableTexts.{ArePassing, IsPrintable, boundary_printable, character_passes, class_escape_printable, decimal_printable, look_printable, modifiers_are_printable, passes, quantifier_printable}

abbrev stays : ℕ → Bool
stays c = not (ends_column c)

abbrev pub Stays : List ℕ → Type 0
Stays text = list_all stays text ≡ true

pub stays-append : (u v : List ℕ) → Stays u → Stays v → Stays (u ++ v)
stays-append u v p q = list_all-append stays u v ∙ and_from _ _ p q

stays_cons : (c : ℕ) (text : List ℕ) → stays c ≡ true → Stays text → Stays (c ∷ text)
stays_cons c text p q = and_from _ _ p q

printable_stays : ArePassing stays
printable_stays c h = grind (arith, nat_tests)

stays_by : (text : List ℕ) → IsPrintable text → Stays text
stays_by = passes stays printable_stays

raw_stays : (c : ℕ) → is_within 9 13 c ≡ false → (c == 0x2028 || c == 0x2029) ≡ false → stays c ≡ true
raw_stays c h k = grind (arith, nat_tests)

character_stays : (mode : Mode) (place : Place) (c : ℕ) → Stays (character_text mode place c)
character_stays mode place c = character_passes stays printable_stays mode place c (λ raw. raw_stays c raw.no_control raw.no_separator)

some_counts : (min : ℕ) (max : Option ℕ) → counts_text min max ≢ []
some_counts min None =
    let P : List ℕ → Type 0 = λ text. text ≢ [] in
    cond_both (min == 0) _ _ P (λ _. some 42 _) (λ _. cond_both (min == 1) _ _ P (λ _. some 43 _) (λ _. some 123 _))
some_counts min (Some max) =
    let P : List ℕ → Type 0 = λ text. text ≢ [] in
    cond_both (min == 0 && max == 1) _ _ P (λ _. some 63 _) (λ _. cond_both (min == max) _ _ P (λ _. some 123 _) (λ _. some 123 _))

some_boundary : (kind : BoundaryAssertionKind) → boundary_text kind ≢ []
some_boundary boundaries.Start = some 94 _
some_boundary boundaries.End = some 36 _
some_boundary q = some 92 _

some_class_escape : (kind : CharacterClassEscapeKind) → class_escape_text kind ≢ []
some_class_escape D = some 92 _
some_class_escape NegativeD = some 92 _
some_class_escape S = some 92 _
some_class_escape NegativeS = some 92 _
some_class_escape W = some 92 _
some_class_escape NegativeW = some 92 _

-- what no set holds that ends a column stays
stays_in : (set : ℕ → Bool) (c : ℕ) → set 9 ≡ false → set 10 ≡ false → set 13 ≡ false → set 0x2028 ≡ false → set 0x2029 ≡ false → set c ≡ true → stays c ≡ true
stays_in set c tab feed return line paragraph h =
    rw (differs set c 9 tab h, differs set c 10 feed h, differs set c 13 return h, differs set c 0x2028 line h, differs set c 0x2029 paragraph h) refl

in_name_stays : (first : Bool) (c : ℕ) → is_in_name first c ≡ true → stays c ≡ true
in_name_stays true c h = stays_in (is_in_name true) c refl refl refl line_separator_starts_none paragraph_separator_starts_none h
in_name_stays false c h = stays_in (is_in_name false) c refl refl refl line_separator_in_none paragraph_separator_in_none h

parts_stay : (cs : List ℕ) → list_all (is_in_name false) cs ≡ true → Stays cs
parts_stay [] h = refl
parts_stay (c ∷ cs) h = let p = both (is_in_name false c) (list_all (is_in_name false) cs) h in stays_cons c cs (in_name_stays false c p.0) (parts_stay cs p.1)

name_stays : (name : List ℕ) → IsName name → Stays name
name_stays [] h = absurd h
name_stays (c ∷ cs) h = stays_cons c cs (in_name_stays true c h.0) (parts_stay cs h.1)

opened_stays : (mode : Mode) (o : Opener) → IsKnownOpener false mode o → Stays (opened_text o)
opened_stays mode (capturing None) k = refl
opened_stays mode (capturing (Some name)) k = stays-append name (62 ∷ []) (name_stays name k.0) refl
opened_stays mode (ignoring None) k = refl
opened_stays mode (ignoring (Some bits)) k = stays_by (opened_text (ignoring (Some bits))) (modifiers_are_printable bits)
opened_stays mode (looking kind) k = stays_by (look_text kind) (look_printable kind)

some_look : (kind : LookAroundAssertionKind) → look_text kind ≢ []
some_look look.Lookahead = some 40 _
some_look look.NegativeLookahead = some 40 _
some_look look.Lookbehind = some 40 _
some_look look.NegativeLookbehind = some 40 _

some_opened : (o : Opener) → opened_text o ≢ []
some_opened (capturing None) = some 40 _
some_opened (capturing (Some name)) = some 40 _
some_opened (ignoring None) = some 40 _
some_opened (ignoring (Some bits)) = some 40 _
some_opened (looking kind) = some_look kind

-- property escapes and classes

property_unit_stays : (c : ℕ) → is_property_unit c ≡ true → stays c ≡ true
property_unit_stays c h = stays_in is_property_unit c refl refl refl refl refl h

property_units_stay : (text : List ℕ) → list_all is_property_unit text ≡ true → Stays text
property_units_stay [] h = refl
property_units_stay (c ∷ text) h =
    let p = both (is_property_unit c) (list_all is_property_unit text) h in stays_cons c text (property_unit_stays c p.0) (property_units_stay text p.1)

property_stays : (mode : Mode) (negative strings : Bool) (name : List ℕ) (value : Option (List ℕ)) → SpellsProperty mode strings name value (property_body name value) →
    Stays (property_text negative name value)
property_stays mode true strings name value k =
    stays-append (property_body name value) (125 ∷ []) (property_units_stay (property_body name value) (property_units mode strings name value (property_body name value) k)) refl
property_stays mode false strings name value k =
    stays-append (property_body name value) (125 ∷ []) (property_units_stay (property_body name value) (property_units mode strings name value (property_body name value) k)) refl

characters_stay : (mode : Mode) (cs : List Character) → Stays (characters_text mode cs)
characters_stay mode [] = refl
characters_stay mode (c ∷ cs) = stays-append (in_class_text mode c) (characters_text mode cs) (character_stays mode in_class c.value) (characters_stay mode cs)

barred_strings_stay : (mode : Mode) (ss : List ClassString) → Stays (barred_strings_text mode ss)
barred_strings_stay mode [] = refl
barred_strings_stay mode (s ∷ ss) = stays-append (characters_text mode s.body) (barred_strings_text mode ss) (characters_stay mode s.body) (barred_strings_stay mode ss)

strings_stay : (mode : Mode) (ss : List ClassString) → Stays (strings_text mode ss)
strings_stay mode [] = refl
strings_stay mode (s ∷ ss) = stays-append (characters_text mode s.body) (barred_strings_text mode ss) (characters_stay mode s.body) (barred_strings_stay mode ss)

opener_stays : (negative : Bool) → Stays (class_opener negative)
opener_stays true = refl
opener_stays false = refl

operator_stays : (kind : CharacterClassContentsKind) → Stays (operator_text kind)
operator_stays Union = refl
operator_stays Intersection = refl
operator_stays Subtraction = refl

mutual
  member_stays : (mode : Mode) (m : Member) → IsKnownMember false mode m → Stays (member_text mode m)
  member_stays mode (in_tree.range r) k =
      stays-append (in_class_text mode r.min) (45 ∷ in_class_text mode r.max) (character_stays mode in_class r.min.value) (character_stays mode in_class r.max.value)
  member_stays mode (in_tree.escape c) k = stays_by (class_escape_text c.kind) (class_escape_printable c.kind)
  member_stays mode (in_tree.property p) k = property_stays mode p.negative p.strings p.name p.value k.1
  member_stays mode (in_tree.character c) k = character_stays mode in_class c.value
  member_stays mode (in_tree.nested c) k = tree_stays mode c k.1
  member_stays mode (in_tree.strings d) k = stays-append (strings_text mode d.body) (125 ∷ []) (strings_stay mode d.body) refl

  members_stay : (mode : Mode) (operator : List ℕ) (ms : Members) → Stays operator → AreKnownMembers false mode ms → Stays (members_text mode operator ms)
  members_stay mode operator no_member o k = refl
  members_stay mode operator (member m ms) o k = stays-append (member_text mode m) (more_members_text mode operator ms) (member_stays mode m k.0) (more_members_stay mode operator ms o k.1)

  more_members_stay : (mode : Mode) (operator : List ℕ) (ms : Members) → Stays operator → AreKnownMembers false mode ms → Stays (more_members_text mode operator ms)
  more_members_stay mode operator no_member o k = refl
  more_members_stay mode operator (member m ms) o k =
      stays-append operator (member_text mode m ++ more_members_text mode operator ms) o
      (stays-append (member_text mode m) (more_members_text mode operator ms) (member_stays mode m k.0) (more_members_stay mode operator ms o k.1))

  tree_stays : (mode : Mode) (c : Class) → IsKnownTree false mode c → Stays (class_text mode c)
  tree_stays mode (in_tree.class s negative may kind ms) k =
      let text = members_text mode (operator_text kind) ms in
      stays-append (class_opener negative) (text ++ (93 ∷ [])) (opener_stays negative) (stays-append text (93 ∷ []) (members_stay mode (operator_text kind) ms (operator_stays kind) k.1) refl)

class_stays : (mode : Mode) (c : Class) → IsKnownClass false mode c → Stays (class_text mode c)
class_stays mode c k = tree_stays mode c k.known

some_property : (negative : Bool) (name : List ℕ) (value : Option (List ℕ)) → property_text negative name value ≢ []
some_property true name value = some 92 _
some_property false name value = some 92 _

some_class : (mode : Mode) (c : Class) → class_text mode c ≢ []
some_class mode (in_tree.class s true may kind ms) = some 91 _
some_class mode (in_tree.class s false may kind ms) = some 91 _

module _ (e : Environment) (count : ℕ) (in_limit : count ≤ most_groups) (names : List (List ℕ)) where
  token_stays : (after_reference : Bool) (t : Token) → Known false e t → Obeys count names t → Stays (token_text e.mode after_reference t)
  token_stays after_reference (boundary kind) k h = stays_by (boundary_text kind) (boundary_printable kind)
  token_stays after_reference (character kind value) k h = character_stays e.mode (outside after_reference) value
  token_stays after_reference dot k h = refl
  token_stays after_reference (class_escape kind) k h = stays_by (class_escape_text kind) (class_escape_printable kind)
  token_stays after_reference (property negative strings name value) k h = property_stays e.mode negative strings name value k.1
  token_stays after_reference (class c) k h = class_stays e.mode c k
  token_stays after_reference (indexed n) k h = stays_by (decimal n) (decimal_printable n (omega (arith, h.1, in_limit)))
  token_stays after_reference (named name) k h = stays-append name (62 ∷ []) (name_stays name k.0.0) refl
  token_stays after_reference (opener o) k h = opened_stays e.mode o k
  token_stays after_reference closer k h = refl
  token_stays after_reference bar k h = refl
  token_stays after_reference (quantifier min max greedy) k h = stays_by (quantifier_text min max greedy) (quantifier_printable min max greedy h.0 h.1)

  tokens_stay : (after_reference : Bool) (ts : List Token) → AreKnown false e ts → All (Obeys count names) ts → Stays (tokens_text e.mode after_reference ts)
  tokens_stay after_reference [] k h = refl
  tokens_stay after_reference (t ∷ ts) k h =
      stays-append (token_text e.mode after_reference t) (tokens_text e.mode (token_refers t) ts)
      (token_stays after_reference t k.0 (All-head (Obeys count names) t ts h)) (tokens_stay (token_refers t) ts k.1 (All-tail (Obeys count names) t ts h))

module _ (e : Environment) where
  some_token : (after_reference : Bool) (t : Token) → token_text e.mode after_reference t ≢ []
  some_token after_reference (boundary kind) = some_boundary kind
  some_token after_reference (character kind value) = some_character e.mode (outside after_reference) value
  some_token after_reference dot = some 46 []
  some_token after_reference (class_escape kind) = some_class_escape kind
  some_token after_reference (property negative strings name value) = some_property negative name value
  some_token after_reference (class c) = some_class e.mode c
  some_token after_reference (indexed n) = some 92 _
  some_token after_reference (named name) = some 92 _
  some_token after_reference (opener o) = some_opened o
  some_token after_reference closer = some 41 []
  some_token after_reference bar = some 124 []
  some_token after_reference (quantifier min max greedy) = some-append (counts_text min max) (lazy_text greedy) (some_counts min max)

  pub some_tokens : (after_reference : Bool) (ts : List Token) → ts ≢ [] → tokens_text e.mode after_reference ts ≢ []
  some_tokens after_reference [] h = absurd (h refl)
  some_tokens after_reference (t ∷ ts) h = some-append (token_text e.mode after_reference t) (tokens_text e.mode (token_refers t) ts) (some_token after_reference t)

-- each by itself
all_stay : (text : List ℕ) → Stays text → All (λ c. ends_column c ≡ false) text
all_stay [] h = All-nil (λ c. ends_column c ≡ false)
all_stay (c ∷ text) h = let k = both (stays c) (list_all stays text) h in All-cons (λ c. ends_column c ≡ false) c text (not-true (ends_column c) k.0) (all_stay text k.1)

pub spelled_in_one_line : (mode : Mode) (rules : Rules) (p : Pattern) (us : List CodePoint) → Reads mode rules p us → us ≢ [] → IsOneLine (spelling (bare p) mode)
spelled_in_one_line mode rules p us r h =
    let e = environment mode rules p in
    let k = are_known false e (tokens p) us [] (λ b m. absurd (let no : ⊥ = cc b in no)) r.spelled.row in
    subst IsOneLine (sym (spelled_by_tokens mode p)) (record {
      some = some_tokens e false (tokens p) (has_tokens e (tokens p) us r.spelled.row h);
      stays = all_stay (tokens_text mode false (tokens p)) (tokens_stay e (groups p) r.early.in_limit (names p) false (tokens p) k r.early.tokens_obey);
    })
