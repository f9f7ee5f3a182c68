use Rattle.std.proofs.Common.{◌∙◌}
use Rattle.rx_units.proofs.Digits.{none_by_first, none_by_last, some_by_both}
use Rattle.rx_scan.proofs.FourDigits.{looked_by_both, looked_by_first}
use Rattle.rx_scan.proofs.unicode_escape.number_of_four.Goals as goal

pub returns-in_err-high-clause-value : goal.returns-in_err-high-clause-value
returns-in_err-high-clause-value g c = let arg = c.args in c.from_residual.ensures ∙ none_by_first arg.a arg.b arg.c arg.d c.in_err-high.ensures.value

pub returns-in_err-high-clause-looked : goal.returns-in_err-high-clause-looked
returns-in_err-high-clause-looked g c = let arg = c.args in looked_by_first arg.a arg.b arg.c arg.d _ _ c.in_err-high.ensures.value c.number_of_two.ensures.looked

pub returns-in_err-low-clause-value : goal.returns-in_err-low-clause-value
returns-in_err-low-clause-value g c =
    let arg = c.args in
    c.from_residual-in_err-low.ensures ∙ none_by_last arg.a arg.b arg.c arg.d _ c.in_ok-high.ensures.value c.in_err-low.ensures.value

pub returns-in_err-low-clause-looked : goal.returns-in_err-low-clause-looked
returns-in_err-low-clause-looked g c =
    let arg = c.args in
    looked_by_both arg.a arg.b arg.c arg.d _ _ _ _ c.in_ok-high.ensures.value c.number_of_two.ensures.looked c.number_of_two-2.ensures.looked

pub returns-clause-value : goal.returns-clause-value
returns-clause-value g c = let arg = c.args in some_by_both arg.a arg.b arg.c arg.d _ _ c.in_ok-high.ensures.value c.in_ok-low.ensures.value

pub returns-clause-looked : goal.returns-clause-looked
returns-clause-looked g c =
    let arg = c.args in
    looked_by_both arg.a arg.b arg.c arg.d _ _ _ _ c.in_ok-high.ensures.value c.number_of_two.ensures.looked c.number_of_two-2.ensures.looked
