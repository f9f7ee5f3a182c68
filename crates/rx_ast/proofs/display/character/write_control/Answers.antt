use Rattle.std.proofs.Common.{◌<◌, ◌+◌, ◌∷◌, append-nil, ◌⊎◌, inl, inr, arith, ap, sym, ◌∙◌}
use Rattle.std.specs.Char.{encode_utf8}
use Rattle.std.specs.Str.{encode_utf8_all}
use Rattle.rx_ast.proofs.Characters.{control_letter, control_in_two, control_by_number}
use Rattle.rx_ast.proofs.FormatterWrites.{other_bytes, same_shown}
use Rattle.rx_ast.proofs.display.character.write_control.Goals as goal
use Rattle.rx_ast.proofs.display.character.write_control.Goals.{else-value-ge1-via-then-value-ge1+else-value-le26, else-value-ge1-via-else-value-ge1}

pub returns-then-value-le26 : goal.returns-then-value-le26
unfolding encode_utf8
returns-then-value-le26 g c =
    let text = ap encode_utf8_all (control_letter c.args.value c.if-value-ge1.true c.if-value-le26.true) in
    let letter = ap (λ v. 92 ∷ 99 ∷ encode_utf8 v) c.from.ensures ∙ ap (λ bytes. 92 ∷ 99 ∷ bytes) (sym (append-nil (encode_utf8 (64 + c.args.value)))) in
    other_bytes _ (letter ∙ sym text) c.write.ensures.writes

pub returns-then-value-le255 : goal.returns-then-value-le255
returns-then-value-le255 g c =
    let outside : (c.args.value < 1) ⊎ (26 < c.args.value) = elim c.else-value-ge1.branch [
      | else-value-ge1-via-then-value-ge1+else-value-le26 w ↦ inr (omega arith)
      | else-value-ge1-via-else-value-ge1 w ↦ inl (omega arith)
    ] in
    same_shown _ (control_in_two c.args.value outside c.if-value-le255.true) c.write_hexadecimal.ensures

pub returns-else-value-le255 : goal.returns-else-value-le255
returns-else-value-le255 g c = same_shown _ (control_by_number c.args.value c.if-value-le255.false) c.write_unicode.ensures
