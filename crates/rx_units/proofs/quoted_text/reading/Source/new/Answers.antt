use Rattle.std.proofs.Common.{◌≤◌, ℕ, List, ap, sym, subst, ◌∙◌, arith}
use Rattle.rx_units.proofs.Common.{All, Given, byte_count}
use Rattle.rx_units.proofs.Quoted.Widths.{byte_text, text_characters}
use Rattle.rx_units.proofs.quoted_text.reading.Source.new.Goals as goal

pub invariant_of-result : goal.invariant_of-result
invariant_of-result c = record {
  fits = omega (arith, ap byte_count c.in_ok-text.ensures ∙ byte_text c.args.source_text.now c.utf8.source_text, c.requires);
  code_points = subst (All (λ c. c ≤ 0x10FFFF)) (sym c.in_ok-text.ensures) (text_characters c.args.source_text.now c.utf8.source_text);
}

pub returns : goal.returns
returns c = ap (λ (t : List ℕ). let g : Given = record { text = t; options = c.args.options } in g) c.in_ok-text.ensures
