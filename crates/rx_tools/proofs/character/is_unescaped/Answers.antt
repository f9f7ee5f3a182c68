-- The table is held against the definition at each of the 128 characters, by computing.
use Rattle.std.proofs.Common.{ℕ, refl, Bool, not, ◌&&◌, arith}
use Rattle.std.specs.Prelude.{nat_le}
use Rattle.rx_base.specs.Characters.{is_within}
use Rattle.rx_model.specs.declared.mode.Mode.{Mode}
use Rattle.rx_model.specs.declared.mode.Mode.TheVariants.{Legacy, Unicode, Sets}
use Rattle.rx_model.specs.Spelling.CharacterText.{Place, outside, in_class, is_escaped}
use Rattle.rx_tools.specs.declared.character.TheConstants.{UNESCAPED}
use Rattle.rx_base.proofs.Tables.{table_at}
use Rattle.rx_tools.proofs.character.is_unescaped.Goals as goal

abbrev unescaped : Mode → Place → ℕ → Bool
unescaped mode place c = is_within 32 126 c && not (is_escaped mode place c)

pub returns-in-Outside : goal.returns-in-Outside
returns-in-Outside c = rw c.in-Outside.is (table_at (nat_le 49) (unescaped c.args.mode (outside c.in-Outside.field-0)) UNESCAPED refl c.args.c (omega arith))

pub returns-in-Legacy : goal.returns-in-Legacy
returns-in-Legacy c = rw (c.in-InClass.is, c.in-Legacy.is) (table_at (nat_le 50) (unescaped Legacy in_class) UNESCAPED refl c.args.c (omega arith))

pub returns-in-Unicode : goal.returns-in-Unicode
returns-in-Unicode c = rw (c.in-InClass.is, c.in-Unicode.is) (table_at (nat_le 50) (unescaped Unicode in_class) UNESCAPED refl c.args.c (omega arith))

pub returns-in-Sets : goal.returns-in-Sets
returns-in-Sets c = rw (c.in-InClass.is, c.in-Sets.is) (table_at (nat_le 51) (unescaped Sets in_class) UNESCAPED refl c.args.c (omega arith))
