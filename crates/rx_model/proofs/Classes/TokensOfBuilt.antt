-- A class that is built from tokens has these tokens, and what a class owes to the grammar.
use Rattle.std.proofs.Common.{◌≡◌, ◌≢◌, refl, sym, ap, ap₂, ◌∙◌, subst, ℕ, ◌==◌, Bool, true, false, cond, not, Option, Some, None, List, [], ◌∷◌, ◌++◌, length, map, append_assoc, append-nil}
use Rattle.std.specs.Prelude.{All}
use Rattle.std.specs.List.{list_any}
use Rattle.std.proofs.lemmas.List.Elements.{All-append, All-cons, All-head, All-nil, All-tail}
use Rattle.rx_base.specs.declared.diagnostic.kinds.SetOperator.{SetOperator}
use Rattle.rx_base.specs.declared.diagnostic.kinds.SetOperator.TheVariants as set
use Rattle.rx_ast.specs.declared.leaf.Character.{Character}
use Rattle.rx_ast.specs.declared.leaf.CharacterKind.{CharacterKind}
use Rattle.rx_ast.specs.declared.class.CharacterClassContentsKind.{CharacterClassContentsKind}
use Rattle.rx_ast.specs.declared.class.CharacterClassContentsKind.TheVariants.{Union}
use Rattle.rx_ast.specs.declared.class.ClassString.{ClassString}
use Rattle.rx_ast.specs.ClassTree.{Class, Member, Members, no_member, member, class}
use Rattle.rx_ast.specs.ClassTree as tree
use Rattle.rx_ast.specs.Forget.{nowhere, forget_character, forget_string, forget_member, forget_members, forget_class, same_kind}
use Rattle.rx_model.specs.Classes.ClassFromTokens.{character_of, atom_member, range_member, string_of, strings_member, with_last, kind_of, Level, level_of, class_of_level, Begun, nothing_begun, after_low, after_dash, inside_strings, Building, before_class, inside_class, whole_class, no_class, add_member, close_class, building_with_operator, build_in, build_step, build_class, finished_class, class_of_tokens}
use Rattle.rx_model.specs.Classes.ClassRuns.{Held, empty, single, several, pending, joined, is_whole, operand, with_range, with_operator}
use Rattle.rx_model.specs.Classes.ClassShapes.{AreFitting, AreFlagged, AreOperands, AreTwo, FitsKind, IsFitting, IsFittingMember, IsFlagged, IsFlaggedMember, IsOperand}
use Rattle.rx_model.specs.Classes.ClassTokens.{Atom, character, escape, property, ClassToken, bracket, closer, item, low, dash, high, operator, contents_kind, strings, letter, string_bar, strings_end, class_tokens}
use Rattle.rx_model.specs.Trees.Early.{IsFlaggedString, may_contain_strings}
use Rattle.rx_model.proofs.Classes.ClassFlags.{IsFlaggedAtom, IsFlaggedToken, AreFlaggedTokens}
use Rattle.rx_model.proofs.Classes.ClassShapes.{barred_tokens, between_by, between_is, class_tokens_by, contents_tokens, further_tokens, letters_tokens, operand_tokens, strings_are}

-- the tokens of contents with one member more
further_last : (between : List ClassToken) (ms : Members) (m : Member) → further_tokens between (with_last ms m) ≡ further_tokens between ms ++ (between ++ operand_tokens m)
further_last between no_member m = ap (λ ts. between ++ ts) (append-nil (operand_tokens m))
further_last between (member n ms) m =
    ap (λ ts. between ++ (operand_tokens n ++ ts)) (further_last between ms m)
    ∙ ap (λ ts. between ++ ts) (sym (append_assoc (operand_tokens n) (further_tokens between ms) (between ++ operand_tokens m)))
    ∙ sym (append_assoc between (operand_tokens n ++ further_tokens between ms) (between ++ operand_tokens m))

abbrev IsSome : Members → Type 0
IsSome no_member = ⊥
IsSome (member m ms) = Unit {0}

contents_last : (between : List ClassToken) (ms : Members) (m : Member) → IsSome ms → contents_tokens between (with_last ms m) ≡ contents_tokens between ms ++ (between ++ operand_tokens m)
contents_last between no_member m some = absurd some
contents_last between (member n ms) m some =
    ap (λ ts. operand_tokens n ++ ts) (further_last between ms m) ∙ sym (append_assoc (operand_tokens n) (further_tokens between ms) (between ++ operand_tokens m))

union_last : (ms : Members) (m : Member) → contents_tokens [] (with_last ms m) ≡ contents_tokens [] ms ++ operand_tokens m
union_last no_member m = append-nil (operand_tokens m)
union_last (member n ms) m = contents_last [] (member n ms) m tt

-- an operator that stands last
abbrev last_operator : Held → List ClassToken
last_operator empty = []
last_operator single = []
last_operator several = []
last_operator (pending o) = between_by (contents_kind o)
last_operator (joined o) = []

abbrev held_tokens : Held → Members → List ClassToken
held_tokens held ms = contents_tokens (between_by (kind_of held)) ms ++ last_operator held

-- What is held fits the members that are.
abbrev HoldsMembers : Held → Members → Type 0
HoldsMembers empty ms = ms ≡ no_member
HoldsMembers single ms = (m : Member) × (ms ≡ member m no_member) × IsOperand m
HoldsMembers several ms = Unit {0}
HoldsMembers (pending o) ms = IsSome ms × AreOperands ms
HoldsMembers (joined o) ms = AreTwo ms × AreOperands ms

-- a member that fits, with the right flags and without spans
pub record IsPlainMember (m : Member) : Type 0 where
  pub fits : IsFittingMember m
  pub flagged : IsFlaggedMember m
  pub plain : forget_member same_kind m ≡ m

pub record ArePlain (ms : Members) : Type 0 where
  pub fitting : AreFitting ms
  pub flagged : AreFlagged ms
  pub plain : forget_members same_kind ms ≡ ms

pub none_plain : ArePlain no_member
none_plain = record { fitting = tt; flagged = tt; plain = refl }

plain_last : (ms : Members) (m : Member) → ArePlain ms → IsPlainMember m → ArePlain (with_last ms m)
plain_last no_member m a p = record { fitting = (p.fits, tt); flagged = (p.flagged, tt); plain = ap (λ m. member m no_member) p.plain }
plain_last (member n ms) m a p =
    let same = a.plain in
    let more = plain_last ms m (record { fitting = a.fitting.1; flagged = a.flagged.1; plain = (let k : forget_members same_kind ms ≡ ms = cc same in k) }) p in
    record { fitting = (a.fitting.0, more.fitting); flagged = (a.flagged.0, more.flagged); plain = ap₂ member (let k : forget_member same_kind n ≡ n = cc same in k) more.plain }

some_last : (ms : Members) (m : Member) → IsSome ms → AreTwo (with_last ms m)
some_last no_member m some = absurd some
some_last (member n no_member) m some = tt
some_last (member n (member k ms)) m some = tt

two_some : (ms : Members) → AreTwo ms → IsSome ms
two_some no_member two = two
two_some (member m ms) two = tt

operands_last : (ms : Members) (m : Member) → AreOperands ms → IsOperand m → AreOperands (with_last ms m)
operands_last no_member m os o = (o, tt)
operands_last (member n ms) m os o = (os.0, operands_last ms m os.1 o)

-- What a bracket holds with one thing more, of which these are the tokens.
record GrowsTo (held : Held) (ms : Members) (ts : List ClassToken) (after : Held) (more : Members) : Type 0 where
  holds : HoldsMembers after more
  tokens : held_tokens after more ≡ held_tokens held ms ++ ts

abbrev GrowsBy : Held → Members → List ClassToken → Option Held → Members → Type 0
GrowsBy held ms ts None more = Unit {0}
GrowsBy held ms ts (Some after) more = GrowsTo held ms ts after more

-- of a union: with one member more
of_union : (held : Held) (ms : Members) (m : Member) (after : Held) → last_operator held ≡ [] → kind_of held ≡ Union → last_operator after ≡ [] → kind_of after ≡ Union → HoldsMembers after (with_last ms m) →
    GrowsTo held ms (operand_tokens m) after (with_last ms m)
of_union held ms m after none k none_after union new = record {
  holds = new;
  tokens =
      ap₂ (λ kind last. contents_tokens (between_by kind) (with_last ms m) ++ last) union none_after
      ∙ append-nil (contents_tokens [] (with_last ms m))
      ∙ union_last ms m
      ∙ ap (λ ts. ts ++ operand_tokens m) (sym (append-nil (contents_tokens [] ms)) ∙ ap₂ (λ kind last. contents_tokens (between_by kind) ms ++ last) (sym k) (sym none));
}

operand_last : (between : List ClassToken) (ms : Members) (m : Member) → IsSome ms → contents_tokens between (with_last ms m) ++ [] ≡ (contents_tokens between ms ++ between) ++ operand_tokens m
operand_last between ms m some = append-nil (contents_tokens between (with_last ms m)) ∙ contents_last between ms m some ∙ sym (append_assoc (contents_tokens between ms) between (operand_tokens m))

one_operand : (held : Held) (ms : Members) (m : Member) → IsOperand m → HoldsMembers held ms → GrowsBy held ms (operand_tokens m) (operand held) (with_last ms m)
one_operand empty ms m o h = of_union empty ms m single refl refl refl refl (m, ap (λ ms. with_last ms m) h, o)
one_operand single ms m o h = of_union single ms m several refl refl refl refl tt
one_operand several ms m o h = of_union several ms m several refl refl refl refl tt
one_operand (pending o) ms m is h = record { holds = (some_last ms m h.0, operands_last ms m h.1 is); tokens = operand_last (between_by (contents_kind o)) ms m h.0 }
one_operand (joined o) ms m is h = tt

one_range : (held : Held) (ms : Members) (m : Member) → HoldsMembers held ms → GrowsBy held ms (operand_tokens m) (with_range held) (with_last ms m)
one_range empty ms m h = of_union empty ms m several refl refl refl refl tt
one_range single ms m h = of_union single ms m several refl refl refl refl tt
one_range several ms m h = of_union several ms m several refl refl refl refl tt
one_range held ms m h = tt

-- of one operand: with an operator
of_single : (between : List ClassToken) (ms : Members) (m : Member) → ms ≡ member m no_member → contents_tokens between ms ++ between ≡ (contents_tokens [] ms ++ []) ++ between
of_single between ms m h =
    ap (λ ms. contents_tokens between ms ++ between) h
    ∙ ap (λ ts. ts ++ between) (sym (append-nil (contents_tokens [] (member m no_member))) ∙ ap (λ ms. contents_tokens [] ms ++ []) (sym h))

of_joined : (o : SetOperator) (ms : Members) → HoldsMembers (joined o) ms → GrowsTo (joined o) ms (between_by (contents_kind o)) (pending o) ms
of_joined o ms h = let between = between_by (contents_kind o) in record { holds = (two_some ms h.0, h.1); tokens = ap (λ ts. ts ++ between) (sym (append-nil (contents_tokens between ms))) }

with_between : (o : SetOperator) (held : Held) (ms : Members) → HoldsMembers held ms → GrowsBy held ms (between_by (contents_kind o)) (with_operator o held) ms
with_between o empty ms h = tt
with_between o single ms h = record { holds = (subst IsSome (sym h.1) tt, subst AreOperands (sym h.1) (h.2, tt)); tokens = of_single (between_by (contents_kind o)) ms h.0 h.1 }
with_between o several ms h = tt
with_between o (pending p) ms h = tt
with_between set.Intersection (joined set.Intersection) ms h = of_joined set.Intersection ms h
with_between set.Subtraction (joined set.Subtraction) ms h = of_joined set.Subtraction ms h
with_between o (joined p) ms h = tt

one_operator : (o : SetOperator) (held : Held) (ms : Members) → HoldsMembers held ms → GrowsBy held ms (operator o ∷ []) (with_operator o held) ms
one_operator o held ms h = subst (λ ts. GrowsBy held ms ts (with_operator o held) ms) (between_is o) (with_between o held ms h)

-- the tokens of open brackets
abbrev level_tokens : Level → List ClassToken
level_tokens l = bracket l.negative ∷ held_tokens l.held l.members

abbrev levels_tokens : List Level → List ClassToken
levels_tokens [] = []
levels_tokens (l ∷ outer) = levels_tokens outer ++ level_tokens l

-- class strings that are whole, and the characters of the next
abbrev strings_tokens : List ClassString → List Character → List ClassToken
strings_tokens [] cs = letters_tokens cs
strings_tokens (s ∷ ss) cs = letters_tokens s.body ++ (string_bar ∷ strings_tokens ss cs)

abbrev begun_tokens : Begun → List ClassToken
begun_tokens nothing_begun = []
begun_tokens (after_low k v) = low k v ∷ []
begun_tokens (after_dash k v) = low k v ∷ dash ∷ []
begun_tokens (inside_strings ss cs) = strings ∷ strings_tokens ss cs

record IsLevel (l : Level) : Type 0 where
  holds : HoldsMembers l.held l.members
  plain : ArePlain l.members

abbrev AreLevels : List Level → Type 0
AreLevels [] = Unit {0}
AreLevels (l ∷ outer) = IsLevel l × AreLevels outer

abbrev IsPlainString : ClassString → Type 0
IsPlainString s = IsFlaggedString s × (forget_string same_kind s ≡ s)

abbrev IsPlainCharacter : Character → Type 0
IsPlainCharacter c = forget_character same_kind c ≡ c

abbrev HasBegun : Begun → Type 0
HasBegun nothing_begun = Unit {0}
HasBegun (after_low k v) = Unit {0}
HasBegun (after_dash k v) = Unit {0}
HasBegun (inside_strings ss cs) = All IsPlainString ss × All IsPlainCharacter cs

-- A class without spans that has these tokens, and what it owes to the grammar.
pub record HasTokens (ts : List ClassToken) (c : Class) : Type 0 where
  pub tokens : class_tokens c ≡ ts
  pub fitting : IsFitting c
  pub flagged : IsFlagged c
  pub plain : forget_class same_kind c ≡ c

-- What is built from these tokens.
abbrev IsBuilding : List ClassToken → Building → Type 0
IsBuilding ts before_class = ts ≡ []
IsBuilding ts (inside_class l outer begun) = (ts ≡ (levels_tokens outer ++ level_tokens l) ++ begun_tokens begun) × IsLevel l × AreLevels outer × HasBegun begun
IsBuilding ts (whole_class c) = HasTokens ts c
IsBuilding ts no_class = Unit {0}

-- With a thing more that has these tokens.
grows_on : (ts more : List ClassToken) (l : Level) (outer : List Level) (begun : List ClassToken) (after : Held) (ms : Members) → ts ≡ (levels_tokens outer ++ level_tokens l) ++ begun → GrowsTo l.held l.members (begun ++ more) after ms →
    ts ++ more ≡ (levels_tokens outer ++ level_tokens (level_of l.negative after ms)) ++ []
grows_on ts more l outer begun after ms h g =
    let outside = levels_tokens outer in
    let front = bracket l.negative ∷ held_tokens l.held l.members in
    ap (λ ts. ts ++ more) h
    ∙ append_assoc (outside ++ front) begun more
    ∙ append_assoc outside front (begun ++ more)
    ∙ ap (λ ts. outside ++ (bracket l.negative ∷ ts)) (sym g.tokens)
    ∙ sym (append-nil (outside ++ (bracket l.negative ∷ held_tokens after ms)))

-- with a member more
grown : (ts more : List ClassToken) (l : Level) (outer : List Level) (begun : List ClassToken) (m : Member) (o : Option Held) → ts ≡ (levels_tokens outer ++ level_tokens l) ++ begun → begun ++ more ≡ operand_tokens m →
    IsLevel l → AreLevels outer → IsPlainMember m → GrowsBy l.held l.members (operand_tokens m) o (with_last l.members m) → IsBuilding (ts ++ more) (add_member l outer m o)
grown ts more l outer begun m None h k level levels p g = tt
grown ts more l outer begun m (Some after) h k level levels p g = (
  grows_on ts more l outer begun after (with_last l.members m) h (subst (λ ts. GrowsTo l.held l.members ts after (with_last l.members m)) (sym k) g),
  record { holds = g.holds; plain = plain_last l.members m level.plain p },
  levels,
  tt,
)

-- with an operator
operator_grown : (ts : List ClassToken) (t : ClassToken) (l : Level) (outer : List Level) (o : Option Held) → ts ≡ (levels_tokens outer ++ level_tokens l) ++ [] → IsLevel l → AreLevels outer →
    GrowsBy l.held l.members (t ∷ []) o l.members → IsBuilding (ts ++ (t ∷ [])) (building_with_operator l outer o)
operator_grown ts t l outer None h level levels g = tt
operator_grown ts t l outer (Some after) h level levels g =
    (grows_on ts (t ∷ []) l outer [] after l.members h g, record { holds = g.holds; plain = level.plain }, levels, tt)

pub fits_kind : (kind : CharacterClassContentsKind) (ms : Members) → AreTwo ms → AreOperands ms → FitsKind kind ms
fits_kind Union ms two operands = tt
fits_kind kind ms two operands = (two, operands)

-- the kind of a bracket that may close fits its members
kind_fits : (held : Held) (ms : Members) → HoldsMembers held ms → is_whole held ≡ true → FitsKind (kind_of held) ms × (last_operator held ≡ [])
kind_fits empty ms h w = (tt, refl)
kind_fits single ms h w = (tt, refl)
kind_fits several ms h w = (tt, refl)
kind_fits (pending o) ms h w = absurd (let no : ⊥ = cc w in no)
kind_fits (joined o) ms h w = (fits_kind (contents_kind o) ms h.0 h.1, refl)

-- a bracket that closes is a class of its tokens
level_closes : (l : Level) → IsLevel l → is_whole l.held ≡ true → HasTokens (level_tokens l ++ (closer ∷ [])) (class_of_level l)
level_closes l level w =
    let k = kind_fits l.held l.members level.holds w in
    let contents = contents_tokens (between_by (kind_of l.held)) l.members in
    record {
      tokens =
          class_tokens_by nowhere l.negative (may_contain_strings (kind_of l.held) l.members) (kind_of l.held) l.members
          ∙ ap (λ ts. bracket l.negative ∷ (ts ++ (closer ∷ []))) (sym (append-nil contents) ∙ ap (λ last. contents ++ last) (sym k.1));
      fitting = (k.0, level.plain.fitting);
      flagged = (refl, level.plain.flagged);
      plain = ap (class nowhere l.negative (may_contain_strings (kind_of l.held) l.members) (kind_of l.held)) level.plain.plain;
    }

class_member : (c : Class) (ts : List ClassToken) → HasTokens ts c → IsPlainMember (tree.nested c)
class_member c ts h = record { fits = h.fitting; flagged = h.flagged; plain = ap tree.nested h.plain }

closes : (ts : List ClassToken) (l : Level) (outer : List Level) → ts ≡ (levels_tokens outer ++ level_tokens l) ++ [] → IsLevel l → AreLevels outer → is_whole l.held ≡ true → IsBuilding (ts ++ (closer ∷ [])) (close_class l outer)
closes ts l [] h level levels w = subst (λ ts. HasTokens (ts ++ (closer ∷ [])) (class_of_level l)) (sym (h ∙ append-nil (level_tokens l))) (level_closes l level w)
closes ts l (around ∷ outer) h level levels w =
    let c = class_of_level l in
    let closed = level_closes l level w in
    grown ts (closer ∷ []) around outer (level_tokens l) (tree.nested c) (operand around.held) (h ∙ append-nil _) (sym closed.tokens) levels.0 levels.1 (class_member c (level_tokens l ++ (closer ∷ [])) closed)
    (one_operand around.held around.members (tree.nested c) tt levels.0.holds)

-- The tokens of class strings.
letters_last : (cs ds : List Character) → letters_tokens (cs ++ ds) ≡ letters_tokens cs ++ letters_tokens ds
letters_last [] ds = refl
letters_last (c ∷ cs) ds = ap (λ ts. letter c.kind c.value ∷ ts) (letters_last cs ds)

one_letter : (ss : List ClassString) (cs : List Character) (k : CharacterKind) (v : ℕ) → strings_tokens ss (cs ++ (character_of k v ∷ [])) ≡ strings_tokens ss cs ++ (letter k v ∷ [])
one_letter [] cs k v = letters_last cs (character_of k v ∷ [])
one_letter (s ∷ ss) cs k v = ap (λ ts. letters_tokens s.body ++ (string_bar ∷ ts)) (one_letter ss cs k v) ∙ sym (append_assoc (letters_tokens s.body) (string_bar ∷ strings_tokens ss cs) (letter k v ∷ []))

one_bar : (ss : List ClassString) (cs : List Character) → strings_tokens (ss ++ (string_of cs ∷ [])) [] ≡ strings_tokens ss cs ++ (string_bar ∷ [])
one_bar [] cs = refl
one_bar (s ∷ ss) cs = ap (λ ts. letters_tokens s.body ++ (string_bar ∷ ts)) (one_bar ss cs) ∙ sym (append_assoc (letters_tokens s.body) (string_bar ∷ strings_tokens ss cs) (string_bar ∷ []))

barred_last : (ss : List ClassString) (cs : List Character) → barred_tokens (ss ++ (string_of cs ∷ [])) ≡ string_bar ∷ strings_tokens ss cs
barred_last [] cs = ap (λ ts. string_bar ∷ ts) (append-nil (letters_tokens cs))
barred_last (s ∷ ss) cs = ap (λ ts. string_bar ∷ (letters_tokens s.body ++ ts)) (barred_last ss cs)

strings_end_tokens : (ss : List ClassString) (cs : List Character) → strings ∷ (strings_tokens ss cs ++ (strings_end ∷ [])) ≡ operand_tokens (strings_member (ss ++ (string_of cs ∷ [])))
strings_end_tokens [] cs = ap (λ ts. strings ∷ ts) (sym (strings_are (string_of cs) [] nowhere))
strings_end_tokens (s ∷ ss) cs =
    ap (λ ts. strings ∷ ts) (append_assoc (letters_tokens s.body) (string_bar ∷ strings_tokens ss cs) (strings_end ∷ [])
    ∙ ap (λ ts. letters_tokens s.body ++ (ts ++ (strings_end ∷ []))) (sym (barred_last ss cs)) ∙ sym (strings_are s (ss ++ (string_of cs ∷ [])) nowhere))

plain_characters : (cs : List Character) → All IsPlainCharacter cs → map (forget_character same_kind) cs ≡ cs
plain_characters [] all = refl
plain_characters (c ∷ cs) all = ap₂ (λ c cs. c ∷ cs) (All-head IsPlainCharacter c cs all) (plain_characters cs (All-tail IsPlainCharacter c cs all))

plain_strings : (ss : List ClassString) → All IsPlainString ss → map (forget_string same_kind) ss ≡ ss
plain_strings [] all = refl
plain_strings (s ∷ ss) all = ap₂ (λ s ss. s ∷ ss) (All-head IsPlainString s ss all).1 (plain_strings ss (All-tail IsPlainString s ss all))

flagged_strings : (ss : List ClassString) → All IsPlainString ss → All IsFlaggedString ss
flagged_strings [] all = All-nil IsFlaggedString
flagged_strings (s ∷ ss) all = All-cons IsFlaggedString s ss (All-head IsPlainString s ss all).0 (flagged_strings ss (All-tail IsPlainString s ss all))

last_string : (cs : List Character) → All IsPlainCharacter cs → IsPlainString (string_of cs)
last_string cs all = (refl, ap (λ body. record { span = nowhere; strings = not (length cs == 1); body = body }) (plain_characters cs all))

one_string : (ss : List ClassString) (cs : List Character) → All IsPlainString ss → All IsPlainCharacter cs → All IsPlainString (ss ++ (string_of cs ∷ []))
one_string ss cs all some = All-append IsPlainString ss (string_of cs ∷ []) all (All-cons IsPlainString (string_of cs) [] (last_string cs some) (All-nil IsPlainString))

never_none : (ss : List ClassString) (s : ClassString) → ss ++ (s ∷ []) ≢ []
never_none [] s h = let no : ⊥ = cc h in no
never_none (t ∷ ss) s h = let no : ⊥ = cc h in no

strings_plain : (ss : List ClassString) (cs : List Character) → All IsPlainString ss → All IsPlainCharacter cs → IsPlainMember (strings_member (ss ++ (string_of cs ∷ [])))
strings_plain ss cs all some =
    let body = ss ++ (string_of cs ∷ []) in
    let plain = one_string ss cs all some in
    record {
      fits = never_none ss (string_of cs);
      flagged = (refl, flagged_strings body plain);
      plain = ap (λ ss. tree.strings (record { span = nowhere; strings = list_any (λ s. s.strings) body; body = ss })) (plain_strings body plain);
    }

pub atom_tokens : (a : Atom) → item a ∷ [] ≡ operand_tokens (atom_member a)
atom_tokens (character k v) = refl
atom_tokens (escape k) = refl
atom_tokens (property negative may name value) = refl

pub atom_plain : (a : Atom) → IsFlaggedAtom a → IsPlainMember (atom_member a)
atom_plain (character k v) flagged = record { fits = tt; flagged = tt; plain = refl }
atom_plain (escape k) flagged = record { fits = tt; flagged = tt; plain = refl }
atom_plain (property negative may name value) flagged = record { fits = tt; flagged = flagged; plain = refl }

pub atom_operand : (a : Atom) → IsOperand (atom_member a)
atom_operand (character k v) = tt
atom_operand (escape k) = tt
atom_operand (property negative may name value) = tt

-- A thing goes on.
goes_on : (ts outside begun begun_on more : List ClassToken) → ts ≡ outside ++ begun → begun ++ more ≡ begun_on → ts ++ more ≡ outside ++ begun_on
goes_on ts outside begun begun_on more h k = ap (λ ts. ts ++ more) h ∙ append_assoc outside begun more ∙ ap (λ ts. outside ++ ts) k

if_whole : (ts : List ClassToken) (l : Level) (outer : List Level) (b : Bool) → is_whole l.held ≡ b → ts ≡ (levels_tokens outer ++ level_tokens l) ++ [] → IsLevel l → AreLevels outer →
    IsBuilding (ts ++ (closer ∷ [])) (cond b (close_class l outer) no_class)
if_whole ts l outer true w h level levels = closes ts l outer h level levels w
if_whole ts l outer false w h level levels = tt

-- With one token more it is built from that too.
in_built : (t : ClassToken) (begun : Begun) (ts : List ClassToken) (l : Level) (outer : List Level) → IsFlaggedToken t → ts ≡ (levels_tokens outer ++ level_tokens l) ++ begun_tokens begun → IsLevel l → AreLevels outer → HasBegun begun →
    IsBuilding (ts ++ (t ∷ [])) (build_in t begun l outer)
in_built (bracket negative) nothing_begun ts l outer f h level levels b =
    (ap (λ ts. ts ++ (bracket negative ∷ [])) (h ∙ append-nil _) ∙ sym (append-nil _), record { holds = refl; plain = none_plain }, (level, levels), tt)
in_built closer nothing_begun ts l outer f h level levels b = if_whole ts l outer (is_whole l.held) refl h level levels
in_built (item a) nothing_begun ts l outer f h level levels b =
    grown ts (item a ∷ []) l outer [] (atom_member a) (operand l.held) h (atom_tokens a) level levels (atom_plain a f) (one_operand l.held l.members (atom_member a) (atom_operand a) level.holds)
in_built (low k v) nothing_begun ts l outer f h level levels b = (goes_on ts _ [] (low k v ∷ []) (low k v ∷ []) h refl, level, levels, tt)
in_built dash (after_low k v) ts l outer f h level levels b = (goes_on ts _ (low k v ∷ []) (low k v ∷ dash ∷ []) (dash ∷ []) h refl, level, levels, tt)
in_built (high j x) (after_dash k v) ts l outer f h level levels b =
    grown ts (high j x ∷ []) l outer (low k v ∷ dash ∷ []) (range_member k v j x) (with_range l.held) h refl level levels (record { fits = tt; flagged = tt; plain = refl }) (one_range l.held l.members (range_member k v j x) level.holds)
in_built (operator o) nothing_begun ts l outer f h level levels b = operator_grown ts (operator o) l outer (with_operator o l.held) h level levels (one_operator o l.held l.members level.holds)
in_built strings nothing_begun ts l outer f h level levels b = (goes_on ts _ [] (strings ∷ []) (strings ∷ []) h refl, level, levels, (All-nil IsPlainString, All-nil IsPlainCharacter))
in_built (letter k v) (inside_strings ss cs) ts l outer f h level levels b = (
  goes_on ts _ (strings ∷ strings_tokens ss cs) _ (letter k v ∷ []) h (ap (λ ts. strings ∷ ts) (sym (one_letter ss cs k v))),
  level,
  levels,
  (b.0, All-append IsPlainCharacter cs (character_of k v ∷ []) b.1 (All-cons IsPlainCharacter (character_of k v) [] refl (All-nil IsPlainCharacter))),
)
in_built string_bar (inside_strings ss cs) ts l outer f h level levels b = (
  goes_on ts _ (strings ∷ strings_tokens ss cs) _ (string_bar ∷ []) h (ap (λ ts. strings ∷ ts) (sym (one_bar ss cs))),
  level,
  levels,
  (one_string ss cs b.0 b.1, All-nil IsPlainCharacter),
)
in_built strings_end (inside_strings ss cs) ts l outer f h level levels b =
    grown ts (strings_end ∷ []) l outer (strings ∷ strings_tokens ss cs) (strings_member (ss ++ (string_of cs ∷ []))) (operand l.held) h (strings_end_tokens ss cs) level levels (strings_plain ss cs b.0 b.1)
    (one_operand l.held l.members (strings_member (ss ++ (string_of cs ∷ []))) tt level.holds)
in_built t begun ts l outer f h level levels b = tt

step_built : (t : ClassToken) (ts : List ClassToken) (s : Building) → IsFlaggedToken t → IsBuilding ts s → IsBuilding (ts ++ (t ∷ [])) (build_step t s)
step_built (bracket negative) ts before_class f h = (ap (λ ts. ts ++ (bracket negative ∷ [])) h, record { holds = refl; plain = none_plain }, tt, tt)
step_built t ts before_class f h = tt
step_built t ts (inside_class l outer begun) f h = in_built t begun ts l outer f h.0 h.1 h.2 h.3
step_built t ts q f h = tt

built_on : (ts ss : List ClassToken) (s : Building) → AreFlaggedTokens ts → IsBuilding ss s → IsBuilding (ss ++ ts) (build_class ts s)
built_on [] ss s f h = subst (λ ss. IsBuilding ss s) (sym (append-nil ss)) h
built_on (t ∷ ts) ss s f h = subst (λ ss. IsBuilding ss (build_class ts (build_step t s))) (append_assoc ss (t ∷ []) ts) (built_on ts (ss ++ (t ∷ [])) (build_step t s) f.1 (step_built t ss s f.0 h))

built_whole : (ts : List ClassToken) (s : Building) (c : Class) → IsBuilding ts s → finished_class s ≡ Some c → HasTokens ts c
built_whole ts before_class c h k = absurd (let no : ⊥ = cc k in no)
built_whole ts (inside_class l outer begun) c h k = absurd (let no : ⊥ = cc k in no)
built_whole ts (whole_class d) c h k = subst (HasTokens ts) (let same : d ≡ c = cc k in same) h
built_whole ts no_class c h k = absurd (let no : ⊥ = cc k in no)

-- A class that is built from tokens has them, fits, has the right flags and no spans, where the properties have the right flags.
pub built_has_tokens : (ts : List ClassToken) (c : Class) → AreFlaggedTokens ts → class_of_tokens ts ≡ Some c → HasTokens ts c
built_has_tokens ts c f h = built_whole ts (build_class ts before_class) c (built_on ts [] before_class f refl) h
