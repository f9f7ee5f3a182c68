-- Groups and names, one node after the other.
use Rattle.std.proofs.Common.{◌≡◌, ◌∙◌, refl, ap, sym, subst, ℕ, ◌+◌, ◌≤◌, Bool, true, false, List, [], ◌∷◌, ◌++◌, map, arith, Bor, Option, Some, None}
use Rattle.std.specs.Prelude.{if◌then◌else◌, not}
use Rattle.std.specs.Bool.{OnFalse}
use Rattle.std.proofs.lemmas.Bool.{false≢true}
use Rattle.std.specs.BTreeSet.{BTreeSet, contains, UpdatesBy}
use Rattle.std.specs.Str.{IsUtf8, chars}
use Rattle.json.specs.Token.{Token}
use Rattle.json.specs.Tree.{json_tokens}
use Rattle.json.specs.Written.{Written}
use Rattle.rx_base.specs.declared.span.Span.{Span}
use Rattle.rx_base.specs.Texts.{is_among}
use Rattle.rx_ast.specs.declared.ast_kind.RegExpAstKind.{RegExpAstKind}
use Rattle.rx_ast.specs.declared.ast_kind.RegExpAstKind.TheVariants as to
use Rattle.rx_ast.specs.declared.term.CapturingGroup.{CapturingGroup}
use Rattle.rx_ast.specs.Kinds.{Kind, capturing_group}
use Rattle.rx_ast.specs.MirrorKinds.{mirror_kind}
use Rattle.rx_visit.specs.Names.{name_of}
use Rattle.rx_json.specs.Adding.{Adds}
use Rattle.rx_json.specs.Groups.{group_of, groups_of, names_of, number_after, once_after, one_name}
use Rattle.rx_json.specs.Values.{Field, text, value_tokens}
use Rattle.rx_json.proofs.Lists.{values_then}
use Rattle.rx_json.proofs.Names.{HasNames, by_bytes, name_again, name_more}
use Rattle.rx_json.proofs.Parts.{AddsFront, front_more}

-- the first of some nodes, and the others
pub first_group : (place : Span → List Field) (n : ℕ) (k : Kind) (ks : List Kind) → value_tokens (groups_of place n (k ∷ ks)) ≡ value_tokens (group_of place n k) ++ value_tokens (groups_of place (number_after n k) ks)
first_group place n k ks = values_then (group_of place n k) (groups_of place (number_after n k) ks)

-- a node that is no group
pub no_group : (place : Span → List Field) (n : ℕ) (node : RegExpAstKind) → ((g : Bor CapturingGroup) → node ≡ to.CapturingGroup g → ⊥) → group_of place n (mirror_kind node) ≡ []
no_group place n (to.CapturingGroup g) other = absurd (other g refl)
no_group place n _ other = refl

pub no_number : (n : ℕ) (node : RegExpAstKind) → ((g : Bor CapturingGroup) → node ≡ to.CapturingGroup g → ⊥) → number_after n (mirror_kind node) ≡ n
no_number n (to.CapturingGroup g) other = absurd (other g refl)
no_number n _ other = refl

pub next_is_small : (n m : ℕ) (k : Kind) → n ≤ m → number_after n k ≤ m + 1
next_is_small n m (capturing_group s name d) h = omega (arith, h)
next_is_small n m _ h = omega (arith, h)

-- a node that has no name
pub no_name : (node : RegExpAstKind) → ((g : Bor CapturingGroup) → node ≡ to.CapturingGroup g → ⊥) → name_of (mirror_kind node) ≡ None
no_name (to.CapturingGroup g) other = absurd (other g refl)
no_name _ other = refl

-- what is still to be told of the names of some nodes
abbrev pub names_left : List (List ℕ) → List Kind → List Token
names_left seen ks = value_tokens (map text (once_after seen (names_of ks)))

-- The names so far were told, each once.
abbrev pub Telling : Written → Written → BTreeSet (Bor (List ℕ)) → List Token → List Kind → Type 0
Telling old new names all ks = (seen : List (List ℕ)) × HasNames names seen × AddsFront old new all (names_left seen ks)

left_none : (seen : List (List ℕ)) (k : Kind) (ks : List Kind) → name_of k ≡ None → names_left seen (k ∷ ks) ≡ names_left seen ks
left_none seen k ks none = ap (λ (o : Option (List ℕ)). value_tokens (map text (once_after seen (one_name o ++ names_of ks)))) none

left_some : (seen : List (List ℕ)) (k : Kind) (ks : List Kind) (name : List ℕ) (b : Bool) → name_of k ≡ Some name → is_among seen name ≡ b
    → names_left seen (k ∷ ks) ≡ value_tokens (map text (if b then once_after seen (names_of ks) else name ∷ once_after (name ∷ seen) (names_of ks)))
left_some seen k ks name b some among =
    ap (λ (o : Option (List ℕ)). value_tokens (map text (once_after seen (one_name o ++ names_of ks)))) some
    ∙ ap (λ (c : Bool). value_tokens (map text (if c then once_after seen (names_of ks) else name ∷ once_after (name ∷ seen) (names_of ks)))) among

-- a node without a name
pub telling_none : (old new : Written) (names : BTreeSet (Bor (List ℕ))) (all : List Token) (k : Kind) (ks : List Kind) → name_of k ≡ None → Telling old new names all (k ∷ ks) → Telling old new names all ks
telling_none old new names all k ks none told = (told.0, told.1, subst (AddsFront old new all) (left_none told.0 k ks none) told.2)

-- a name that was told before
pub telling_again : (old new : Written) (names later : BTreeSet (Bor (List ℕ))) (all : List Token) (k : Kind) (ks : List Kind) (key : Bor (List ℕ)) (name : List ℕ)
    → name_of k ≡ Some name → chars key.now ≡ name → IsUtf8 key.now → contains by_bytes names key ≡ true → later.keys ≡ names.keys → Telling old new names all (k ∷ ks) → Telling old new later all ks
telling_again old new names later all k ks key name some is is_text there same told =
    let seen = told.0 in
    let among : is_among seen name ≡ true = ap (is_among seen) (sym is) ∙ sym (told.1.found key is_text) ∙ there in
    (seen, name_again names later seen same told.1, subst (AddsFront old new all) (left_some seen k ks name true some among) told.2)

-- a new name
pub telling_new : (old new newer : Written) (names later : BTreeSet (Bor (List ℕ))) (all : List Token) (k : Kind) (ks : List Kind) (key : Bor (List ℕ)) (name : List ℕ)
    → name_of k ≡ Some name → chars key.now ≡ name → IsUtf8 key.now → contains by_bytes names key ≡ false → UpdatesBy by_bytes (by_bytes key) names later true → Adds new newer (json_tokens (text name))
    → Telling old new names all (k ∷ ks) → Telling old newer later all ks
telling_new old new newer names later all k ks key name some is is_text missing updates added told =
    let seen = told.0 in
    let among : is_among seen name ≡ false = ap (is_among seen) (sym is) ∙ sym (told.1.found key is_text) ∙ missing in
    (name ∷ seen, name_more names later seen key name is is_text updates told.1, front_more (json_tokens (text name)) (names_left (name ∷ seen) ks) (left_some seen k ks name false some among) added told.2)

-- in other words
pub telling_is : {old a b : Written} {names later : BTreeSet (Bor (List ℕ))} (all : List Token) (ks : List Kind) → b ≡ a → later ≡ names → Telling old a names all ks → Telling old b later all ks
telling_is {old = old} {a = a} {later = later} all ks is same told =
    subst (λ (w : Written). Telling old w later all ks) (sym is) (subst (λ (ns : BTreeSet (Bor (List ℕ))). Telling old a ns all ks) (sym same) told)

-- what an insert tells of whether the name was there
pub was_there : (added there : Bool) → added ≡ not there → added ≡ false → there ≡ true
was_there added true e f = refl
was_there added false e f = absurd (false≢true (sym f ∙ e))

pub was_missing : (added there : Bool) → added ≡ not there → added ≡ true → there ≡ false
was_missing added true e f = absurd (false≢true (sym e ∙ f))
was_missing added false e f = refl

pub unchanged : (added : Bool) (P : Type 0) → added ≡ false → OnFalse added P → P
unchanged added P is said = subst (λ (b : Bool). OnFalse b P) is said
