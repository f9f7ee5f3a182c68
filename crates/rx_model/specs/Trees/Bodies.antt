-- A quantifier stands wherever its units do, so that an atom that is no quantifier's body stands before none (Term, 22.2.1).
use Rattle.std.specs.Prelude.{◌≡◌, ℕ, Bool, Option, List, [], ◌∷◌, ◌++◌}
use Rattle.rx_units.specs.declared.code_point.CodePoint.{CodePoint}
use Rattle.rx_units.specs.Units.{values}
use Rattle.rx_model.specs.declared.mode.Mode.{Mode}
use Rattle.rx_model.specs.Trees.OpenGroups.{EndsQuantifiable}
use Rattle.rx_model.specs.Quantifiers.Quantifiers.{SpellsCounts}
use Rattle.rx_model.specs.Trees.Token.{Token, quantifier}

-- The text begins with the prefix of a quantifier: `*`, `+`, `?`, or a complete one in braces (QuantifierPrefix).
pub record BeginsWithQuantifier (us : List CodePoint) (min : ℕ) (max : Option ℕ) : Type 0 where
  pub prefix : List ℕ
  pub rest : List ℕ
  pub spelled : SpellsCounts min max prefix
  pub whole : values us ≡ prefix ++ rest

-- no quantifier is the first of the tokens
abbrev pub BeginsWithoutQuantifier : List Token → Type 0
BeginsWithoutQuantifier [] = Unit {0}
BeginsWithoutQuantifier ((quantifier min max greedy) ∷ ts) = ⊥
BeginsWithoutQuantifier (t ∷ ts) = Unit {0}

-- Tokens end with what a quantifier may follow, and the first of those that come after them is one with these numbers.
pub record AreQuantified (mode : Mode) (before after : List Token) (min : ℕ) (max : Option ℕ) : Type 0 where
  pub greedy : Bool
  pub more : List Token
  pub next : after ≡ quantifier min max greedy ∷ more
  pub body : EndsQuantifiable mode before
