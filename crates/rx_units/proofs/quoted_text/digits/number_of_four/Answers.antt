use Rattle.std.proofs.Common.{◌∙◌}
use Rattle.rx_units.proofs.Digits.{none_by_first, none_by_last, some_by_both}
use Rattle.rx_units.proofs.quoted_text.digits.number_of_four.Goals as goal

pub returns-in_err-high : goal.returns-in_err-high
returns-in_err-high c = let arg = c.args in c.from_residual.ensures ∙ none_by_first arg.a arg.b arg.c arg.d c.in_err-high.ensures.value

pub returns-in_err-low : goal.returns-in_err-low
returns-in_err-low c =
    let arg = c.args in
    c.from_residual-in_err-low.ensures ∙ none_by_last arg.a arg.b arg.c arg.d _ c.in_ok-high.ensures.value c.in_err-low.ensures.value

pub returns : goal.returns
returns c = let arg = c.args in some_by_both arg.a arg.b arg.c arg.d _ _ c.in_ok-high.ensures.value c.in_ok-low.ensures.value
