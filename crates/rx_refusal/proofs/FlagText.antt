-- A flag that is no character, as it is shown.
use Rattle.std.proofs.Common.{◌≡◌, ◌∙◌, ap, subst, sym, ℕ, ◌<◌, ◌^◌, arith, List, [], ◌∷◌, ◌++◌, codes, Bool, Option, Some, true, false}
use Rattle.std.proofs.lemmas.Bool.Decides.{nat_tests}
use Rattle.std.specs.Prelude.{if◌then◌else◌}
use Rattle.std.specs.Char.{encode_utf8, OutOfScalarRange}
use Rattle.std.specs.Fmt.{digits, ◌++?◌}
use Rattle.std.specs.Option.{IfSome}
use Rattle.std.specs.Str.{encode_utf8_all}
use Rattle.rx_base.proofs.Messages.{encoded_between, encoded_hex}
use Rattle.rx_base.specs.Characters.{is_character}
use Rattle.rx_base.specs.DiagnosticMessage.{flag_text}

pub flag_shown : (bytes : List ℕ) (shown : Option (List ℕ)) (flag : ℕ) → flag < 2 ^ 32 → OutOfScalarRange flag → shown ≡ Some (digits 16 true flag)
    → IfSome (Some (codes "\\u{") ++? shown ++? Some (codes "}")) (λ written. bytes ≡ written) → bytes ≡ encode_utf8_all (flag_text flag)
unfolding encode_utf8
flag_shown bytes shown flag small out is told =
    let hex = digits 16 true flag in
    let no_character : is_character flag ≡ false = grind (arith, nat_tests) in
    subst (λ o. IfSome (Some (codes "\\u{") ++? o ++? Some (codes "}")) (λ written. bytes ≡ written)) is told
    ∙ ap (λ (xs : List ℕ). codes "\\u{" ++ (xs ++ codes "}")) (sym (encoded_hex flag small))
    ∙ sym (encoded_between (codes "\\u{") hex (codes "}"))
    ∙ ap (λ (b : Bool). encode_utf8_all (if b then flag ∷ [] else codes "\\u{" ++ hex ++ codes "}")) (sym no_character)
