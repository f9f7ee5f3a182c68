-- The tokens of a class, by its members.
use Rattle.std.proofs.Common.{◌≡◌, refl, ap, ◌∙◌, Bool, List, [], ◌∷◌, ◌++◌, append-nil}
use Rattle.rx_base.specs.declared.span.Span.{Span}
use Rattle.rx_ast.specs.declared.class.CharacterClassContentsKind.TheVariants.{Union}
use Rattle.rx_ast.specs.ClassTree.{Members, no_member, member, class}
use Rattle.rx_model.specs.Classes.ClassTokens.{ClassToken, bracket, closer, ClassEvents, enter, leave, token, class_tokens_of, class_tokens, member_events, members_events, more_members_events}

pub tokens_append : (es fs : ClassEvents) → class_tokens_of (es ++ fs) ≡ class_tokens_of es ++ class_tokens_of fs
tokens_append [] fs = refl
tokens_append ((enter n) ∷ es) fs = tokens_append es fs
tokens_append ((leave n) ∷ es) fs = tokens_append es fs
tokens_append ((token t) ∷ es) fs = ap (λ ts. t ∷ ts) (tokens_append es fs)

-- the tokens of all members, of which a union has no others
abbrev pub union_tokens : Members → List ClassToken
union_tokens no_member = []
union_tokens (member m ms) = class_tokens_of (member_events m) ++ union_tokens ms

-- a union has no operator
pub members_are : (ms : Members) → members_events [] ms ≡ more_members_events [] ms
members_are no_member = refl
members_are (member m ms) = refl

pub more_tokens_are : (ms : Members) → class_tokens_of (more_members_events [] ms) ≡ union_tokens ms
more_tokens_are no_member = refl
more_tokens_are (member m ms) =
    tokens_append (member_events m) (more_members_events [] ms) ∙ ap (λ ts. class_tokens_of (member_events m) ++ ts) (more_tokens_are ms)

members_tokens_are : (ms : Members) → class_tokens_of (members_events [] ms) ≡ union_tokens ms
members_tokens_are no_member = refl
members_tokens_are (member m ms) = more_tokens_are (member m ms)

-- the tokens of a union: its bracket, its members and its closer
pub class_tokens_are : (s : Span) (negative may : Bool) (ms : Members) → class_tokens (class s negative may Union ms) ≡ bracket negative ∷ (union_tokens ms ++ (closer ∷ []))
class_tokens_are s negative may ms =
    ap (λ ts. bracket negative ∷ ts) (tokens_append (members_events [] ms ++ (token closer ∷ [])) (leave s.end ∷ []) ∙ append-nil _
    ∙ tokens_append (members_events [] ms) (token closer ∷ []) ∙ ap (λ ts. ts ++ (closer ∷ [])) (members_tokens_are ms))
