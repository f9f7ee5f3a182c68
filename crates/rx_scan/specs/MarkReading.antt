-- What the reader of marks answers, as marks of the text.
use Rattle.std.specs.Prelude.{ℕ, ◌==◌, ◌||◌, Bool, not, Option, Some, None, List, if◌then◌else◌}
use Rattle.rx_base.specs.Ascii as ascii
use Rattle.rx_units.specs.declared.code_point.CodePoint.{CodePoint}
use Rattle.rx_units.specs.Units.{values}
use Rattle.rx_model.specs.FirstPass.Marks as model
use Rattle.rx_model.specs.FirstPass.Marks.{before_close, has_close}
use Rattle.rx_scan.specs.declared.mark.Mark.{Mark}
use Rattle.rx_scan.specs.declared.mark.Mark.TheVariants as mark

-- the units before the next `>`, where one stands
abbrev pub closed_part : List ℕ → Option (List ℕ)
closed_part us = if has_close us then Some (before_close us) else None

-- a capturing opening that was read
abbrev pub seen_capturing : Option (List CodePoint) → model.Mark
seen_capturing None = model.capturing None
seen_capturing (Some units) = model.capturing (Some (values units))

-- the mark that was read
abbrev pub seen_mark : {U : Type 0} → Mark U → model.Mark
seen_mark mark.Other = model.other
seen_mark mark.Bar = model.bar
seen_mark mark.Closer = model.closer
seen_mark mark.Quiet = model.quiet
seen_mark (mark.Capturing units) = seen_capturing units

-- with how many units it takes
abbrev pub seen_front : {U : Type 0} → Mark U × ℕ → model.Mark × ℕ
seen_front front = (seen_mark front.0, front.1)

-- whether a unit is a mark of its own that opens and closes nothing: it begins no escape, class, opening, closer or bar
abbrev pub is_plain : ℕ → Bool
is_plain u = not (u == ascii.backslash || u == ascii.left_bracket || u == ascii.left_parenthesis || u == ascii.right_parenthesis || u == ascii.vertical_bar)
