use Rattle.std.proofs.Common.{refl, ap, [], ◌∷◌, ◌++◌}
use Rattle.rx_ast.specs.Shown.{pair_or}
use Rattle.rx_display.proofs.Writers.{no_text, one_written}
use Rattle.rx_tasks.proofs.Texts.{goes_none}
use Rattle.rx_display.proofs.pair.write_pair_or.Goals as goal

pub returns-in_ok-write_char-in-Some-clause-text : goal.returns-in_ok-write_char-in-Some-clause-text
returns-in_ok-write_char-in-Some-clause-text g c text = record {
  front = c.in-Some.c ∷ [];
  cut = ap (λ pair. pair_or pair (text c.args.alone) ++ text c.args.rest) c.in-Some.is;
  written = one_written c.in-Some.c (c.in_ok-write_char-in-Some.ensures.writes c.requires refl);
}

pub returns-in-None-clause-text : goal.returns-in-None-clause-text
returns-in-None-clause-text g c text = goes_none (no_text c.requires) (ap (λ pair. pair_or pair (text c.args.alone) ++ text c.args.rest) c.in-None.is)
