-- How tokens are written, in bytes.
use Rattle.std.specs.Prelude.{ℕ, List, [], ◌∷◌, ◌++◌, map, codes}
use Rattle.std.specs.List.{join_with_byte}
use Rattle.rx_reply.specs.Places.{span_text}
use Rattle.rx_paint.specs.declared.token.Kind.{Kind}
use Rattle.rx_paint.specs.declared.token.Kind.TheVariants.{Char, Escape, Dot, Set, Class, Assert, Group, Modifier, Quantifier, Reference, Bar, Other}
use Rattle.rx_paint.specs.declared.token.Token.{Token}

-- the kind, in small letters
abbrev pub kind_name : Kind → List ℕ
kind_name Char = codes "char"
kind_name Escape = codes "escape"
kind_name Dot = codes "dot"
kind_name Set = codes "set"
kind_name Class = codes "class"
kind_name Assert = codes "assert"
kind_name Group = codes "group"
kind_name Modifier = codes "modifier"
kind_name Quantifier = codes "quantifier"
kind_name Reference = codes "reference"
kind_name Bar = codes "bar"
kind_name Other = codes "other"

-- where a token stands, and its kind: `start..end=kind`
abbrev pub token_text : Token → List ℕ
token_text t = span_text t.span ++ codes "=" ++ kind_name t.kind

-- tokens with blanks (the byte 32) between
abbrev pub tokens_text : List Token → List ℕ
tokens_text ts = join_with_byte 32 (map token_text ts)

-- tokens with a blank before each
abbrev pub later_tokens_text : List Token → List ℕ
later_tokens_text [] = []
later_tokens_text (t ∷ ts) = (codes " " ++ token_text t) ++ later_tokens_text ts

-- the reply that lists the tokens of a pattern
abbrev pub tokens_reply : List Token → List ℕ
tokens_reply ts = codes "ok\t" ++ tokens_text ts ++ codes "\n"
