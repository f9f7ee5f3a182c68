-- Rows join and part, and a row of events is a row of its tokens.
use Rattle.std.proofs.Common.{refl, sym, subst, ℕ, ◌+◌, List, [], ◌∷◌, ◌++◌, length}
use Rattle.rx_units.specs.declared.code_point.CodePoint.{CodePoint}
use Rattle.rx_model.specs.Inputs.Environment.{Environment, for_classes}
use Rattle.rx_model.specs.Trees.Events.{Events, enter, leave, token, inside, modified, tokens_of}
use Rattle.rx_model.specs.Trees.Token.{Token}
use Rattle.rx_model.specs.Reading.Rows.{TokenRow, Row}
use Rattle.rx_model.proofs.Classes.ClassWithoutSpans.{class_unspanned}

module _ (e : Environment) where
  pub token_row_append : (ts ss : List Token) (us more rest : List CodePoint) → TokenRow e ts us more → TokenRow e ss more rest → TokenRow e (ts ++ ss) us rest
  token_row_append [] ss us more rest r s = subst (λ v. TokenRow e ss v rest) (sym r) s
  token_row_append (t ∷ ts) ss us more rest r s = (r.0, r.1, r.2, r.3, token_row_append ts ss r.1 more rest r.4 s)

  pub token_row_split : (ts ss : List Token) (us rest : List CodePoint) → TokenRow e (ts ++ ss) us rest → (more : List CodePoint) × TokenRow e ts us more × TokenRow e ss more rest
  token_row_split [] ss us rest r = (us, refl, r)
  token_row_split (t ∷ ts) ss us rest r = let s = token_row_split ts ss r.1 rest r.4 in (s.0, (r.0, r.1, r.2, r.3, s.1), s.2)

  module _ (o : ℕ → ℕ) where
    pub row_tokens : (es : Events) (i : ℕ) (us : List CodePoint) (j : ℕ) (rest : List CodePoint) → Row e o es i us j rest → TokenRow e (tokens_of es) us rest
    row_tokens [] i us j rest r = r.1
    row_tokens ((enter n) ∷ es) i us j rest r = row_tokens es i us j rest r.1
    row_tokens ((leave n) ∷ es) i us j rest r = row_tokens es i us j rest r.1
    row_tokens ((token t) ∷ es) i us j rest r = (r.0, r.1, r.2, r.3, row_tokens es (i + length r.0) r.1 j rest r.4)
    row_tokens ((inside c) ∷ es) i us j rest r = (r.0, r.1, r.2, class_unspanned (for_classes e) o i c r.0 r.1 r.3, row_tokens es (i + length r.0) r.1 j rest r.4)
    row_tokens ((modified m) ∷ es) i us j rest r = (r.0, r.1, r.2, r.3.modified, row_tokens es (i + length r.0) r.1 j rest r.4)

    pub row_append : (es fs : Events) (i : ℕ) (us : List CodePoint) (j : ℕ) (more : List CodePoint) (k : ℕ) (rest : List CodePoint) →
        Row e o es i us j more → Row e o fs j more k rest → Row e o (es ++ fs) i us k rest
    row_append [] fs i us j more k rest r s = subst (λ v. Row e o fs v us k rest) (sym r.0) (subst (λ v. Row e o fs j v k rest) (sym r.1) s)
    row_append ((enter n) ∷ es) fs i us j more k rest r s = (r.0, row_append es fs i us j more k rest r.1 s)
    row_append ((leave n) ∷ es) fs i us j more k rest r s = (r.0, row_append es fs i us j more k rest r.1 s)
    row_append ((token t) ∷ es) fs i us j more k rest r s = (r.0, r.1, r.2, r.3, row_append es fs (i + length r.0) r.1 j more k rest r.4 s)
    row_append ((inside c) ∷ es) fs i us j more k rest r s = (r.0, r.1, r.2, r.3, row_append es fs (i + length r.0) r.1 j more k rest r.4 s)
    row_append ((modified m) ∷ es) fs i us j more k rest r s = (r.0, r.1, r.2, r.3, row_append es fs (i + length r.0) r.1 j more k rest r.4 s)

    -- the place and the units between
    pub row_split : (es fs : Events) (i : ℕ) (us : List CodePoint) (k : ℕ) (rest : List CodePoint) →
        Row e o (es ++ fs) i us k rest → (j : ℕ) × (more : List CodePoint) × Row e o es i us j more × Row e o fs j more k rest
    row_split [] fs i us k rest r = (i, us, (refl, refl), r)
    row_split ((enter n) ∷ es) fs i us k rest r = let s = row_split es fs i us k rest r.1 in (s.0, s.1, (r.0, s.2), s.3)
    row_split ((leave n) ∷ es) fs i us k rest r = let s = row_split es fs i us k rest r.1 in (s.0, s.1, (r.0, s.2), s.3)
    row_split ((token t) ∷ es) fs i us k rest r = let s = row_split es fs (i + length r.0) r.1 k rest r.4 in (s.0, s.1, (r.0, r.1, r.2, r.3, s.2), s.3)
    row_split ((inside c) ∷ es) fs i us k rest r = let s = row_split es fs (i + length r.0) r.1 k rest r.4 in (s.0, s.1, (r.0, r.1, r.2, r.3, s.2), s.3)
    row_split ((modified m) ∷ es) fs i us k rest r = let s = row_split es fs (i + length r.0) r.1 k rest r.4 in (s.0, s.1, (r.0, r.1, r.2, r.3, s.2), s.3)
