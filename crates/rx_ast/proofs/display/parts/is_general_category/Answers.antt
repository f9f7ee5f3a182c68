use Rattle.std.proofs.Common.{◌≡◌, ℕ, List, refl, ap, sym, ◌∙◌, codes}
use Rattle.std.specs.Char.{encode_utf8}
use Rattle.std.specs.Str.{chars, encode_utf8_all, IsUtf8}
use Rattle.std.proofs.lemmas.Bool.Decides.{same_from_decides}
use Rattle.std.proofs.lemmas.Slice.Eq.{bytes_eq-Decides}
use Rattle.rx_base.specs.Texts.{are_same}
use Rattle.rx_ast.proofs.FormatterWrites.{encoded}
use Rattle.rx_ast.proofs.display.parts.is_general_category.Goals as goal

same_texts : (bytes text plain : List ℕ) → IsUtf8 bytes → chars bytes ≡ text → encode_utf8_all plain ≡ plain → chars plain ≡ plain → are_same bytes plain ≡ are_same text plain
same_texts bytes text plain is_text spelled own_bytes own_chars =
    let first = bytes_eq-Decides bytes plain in
    let second = bytes_eq-Decides text plain in
    same_from_decides {P = bytes ≡ plain} (are_same bytes plain) (are_same text plain) first
    (λ equal. sym (encoded bytes text is_text spelled) ∙ ap encode_utf8_all (second.0 equal) ∙ own_bytes, λ equal. second.1 (sym spelled ∙ ap chars equal ∙ own_chars))

pub returns : goal.returns
unfolding chars encode_utf8
returns c = c.eq.ensures ∙ same_texts c.as_str.result.now c.args.name.now (codes "General_Category") c.as_str.utf8 c.as_str.ensures refl refl
