-- Of two rows of tokens from one place one is the front part of the other.
use Rattle.std.specs.Prelude.{◌≡◌, List, ◌++◌}
use Rattle.rx_units.specs.declared.code_point.CodePoint.{CodePoint}
use Rattle.rx_model.specs.Classes.ClassRows.{ClassTokenRow, Place}
use Rattle.rx_model.specs.Classes.ClassTokens.{ClassToken}
use Rattle.rx_model.specs.Inputs.Environment.{Environment}
use Rattle.rx_model.specs.Reading.Rows.{TokenRow}
use Rattle.rx_model.specs.Trees.Token.{Token}

-- The tokens ss are the tokens ts and more, which lead from what ts leave, a, to what ss leave, b.
abbrev pub GoesOn : Environment → List Token → List CodePoint → List Token → List CodePoint → Type 0
GoesOn e ts a ss b = (more : List Token) × (ss ≡ ts ++ more) × TokenRow e more a b

-- The same of the tokens of a class.
abbrev pub GoesOnInClass : Environment → List ClassToken → Place → List CodePoint → List ClassToken → Place → List CodePoint → Type 0
GoesOnInClass e ts q a ss r b = (more : List ClassToken) × (ss ≡ ts ++ more) × ClassTokenRow e more q a r b
