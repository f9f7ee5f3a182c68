-- What a refusal holds besides its spans and its kind.
use Rattle.std.specs.Prelude.{ℕ, List, [], ◌∷◌, Option, Some, None}
use Rattle.rx_base.specs.declared.diagnostic.Diagnostic.{Diagnostic}
use Rattle.rx_base.specs.declared.diagnostic.Diagnostic.TheVariants.{UnknownFlag, DuplicatedFlags, InvalidIndexedReference, InvalidNamedReference, InvalidUnicodePropertyNameNegativeStrings, InvalidUnicodePropertyOfStrings}
use Rattle.rx_base.specs.DiagnosticMessage.{flag_text}

-- its texts: the flag, the names that there are, or the name of the property
abbrev pub texts_of : Diagnostic → List (List ℕ)
texts_of (UnknownFlag _ flag) = flag_text flag ∷ []
texts_of (DuplicatedFlags _ flag) = flag_text flag ∷ []
texts_of (InvalidNamedReference _ names) = names
texts_of (InvalidUnicodePropertyNameNegativeStrings _ name) = name ∷ []
texts_of (InvalidUnicodePropertyOfStrings _ name) = name ∷ []
texts_of _ = []

-- how many groups there are
abbrev pub max_of : Diagnostic → Option ℕ
max_of (InvalidIndexedReference _ max) = Some max
max_of _ = None
