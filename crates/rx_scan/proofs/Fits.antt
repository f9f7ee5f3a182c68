-- Spans of a literal stay below a bound.
use Rattle.std.proofs.Common.{◌≡◌, ℕ, ◌+◌, ◌<◌, arith, Bool, List, [], ◌∷◌, length}
use Rattle.std.proofs.lemmas.List.Elements.{All-nil, All-cons, All-same}
use Rattle.std.specs.List.{All}
use Rattle.std.specs.Str.{IsUtf8, chars}
use Rattle.rx_units.specs.declared.code_point.CodePoint.{CodePoint}
use Rattle.rx_units.specs.Cursor.{AreEnds}
use Rattle.rx_units.specs.Units.{literal_units}
use Rattle.rx_units.proofs.Ends.{literal_ends}

ends_fit : (text : List ℕ) (first : ℕ) (us : List CodePoint) (added bound : ℕ) → AreEnds text first us → added + length text < bound → All (λ unit. unit.span.end + added < bound) us
ends_fit text first [] added bound ends fits = All-nil (λ unit. unit.span.end + added < bound)
ends_fit text first (u ∷ us) added bound ends fits =
    let P : CodePoint → Type 0 = λ unit. unit.span.end + added < bound in
    All-cons P u us (omega (arith, ends.1.0)) (ends_fit text u.span.end us added bound ends.2 fits)

pub literal_fits : (text : List ℕ) (joined : Bool) (us : List CodePoint) (added bound : ℕ) → IsUtf8 text → us ≡ literal_units joined 0 (chars text) → added + length text < bound → All (λ unit. unit.span.end + added < bound) us
literal_fits text joined us added bound utf8 is fits =
    let P : CodePoint → Type 0 = λ unit. unit.span.end + added < bound in
    All-same P us _ is (ends_fit text 0 _ added bound (literal_ends text joined utf8) fits)
