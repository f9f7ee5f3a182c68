use Rattle.std.proofs.Common.{◌≡◌, refl, ap, codes, length, rules}
use Rattle.std.proofs.lemmas.List.{nil_from_length}
use Rattle.std.specs.Char.{encode_utf8}
use Rattle.rx_ast.specs.Shown.{barred_shown}
use Rattle.rx_display.specs.Tasks.{tree_of}
use Rattle.rx_display.proofs.Tasks.{barred_cut}
use Rattle.rx_display.proofs.Writers.{no_text}
use Rattle.rx_tasks.proofs.Texts.{goes_none}
use Rattle.rx_display.proofs.printing.write_bar.Goals as goal

pub returns-then-is_empty-clause-text : goal.returns-then-is_empty-clause-text
returns-then-is_empty-clause-text g c =
    let none : length c.args.alternatives.now ≡ 0 = search rules in
    goes_none (no_text c.requires) (ap (λ as'. barred_shown (tree_of as')) (nil_from_length c.args.alternatives.now none))

pub returns-clause-text : goal.returns-clause-text
unfolding encode_utf8
returns-clause-text g c =
    let some : (length c.args.alternatives.now ≡ 0) → ⊥ = search rules in
    record { front = codes "|"; cut = barred_cut c.args.alternatives.now some; written = c.in_ok-write_str.ensures.writes c.requires refl }
