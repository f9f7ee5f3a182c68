use Rattle.std.proofs.Common.{refl, ap, sym, ◌∙◌}
use Rattle.std.specs.Char.{encode_utf8}
use Rattle.rx_display.specs.Tasks.{task_text}
use Rattle.rx_display.proofs.Writers.{no_text}
use Rattle.rx_tasks.proofs.Texts.{goes_all, goes_none}
use Rattle.rx_display.proofs.printing.write_task.Goals as goal

pub returns-in-Disjunction-clause-text : goal.returns-in-Disjunction-clause-text
returns-in-Disjunction-clause-text g c = goes_none (no_text c.requires) (ap task_text c.in-Disjunction.is ∙ sym c.split_disjunction.ensures.text)

pub returns-in_ok-write_suffix-in-Suffix-clause-text : goal.returns-in_ok-write_suffix-in-Suffix-clause-text
returns-in_ok-write_suffix-in-Suffix-clause-text g c = goes_all (ap task_text c.in-Suffix.is) (c.in_ok-write_suffix-in-Suffix.ensures c.requires refl)

pub returns-in_ok-write_str-in-GroupEnd-clause-text : goal.returns-in_ok-write_str-in-GroupEnd-clause-text
unfolding encode_utf8
returns-in_ok-write_str-in-GroupEnd-clause-text g c = goes_all (ap task_text c.in-GroupEnd.is) (c.in_ok-write_str-in-GroupEnd.ensures.writes c.requires refl)
