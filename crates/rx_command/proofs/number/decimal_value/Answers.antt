use Rattle.std.proofs.Common.{◌≡◌, ◌≤◌, ◌∙◌, sym, ap, true, false, length, arith}
use Rattle.std.specs.Char.{is_ascii_digit}
use Rattle.std.specs.List.{list_all}
use Rattle.rx_command.proofs.Commands.{digits_parsed, long_is_none, other_is_none}
use Rattle.rx_command.proofs.number.decimal_value.Goals as goal

pub returns-then-word-longest : goal.returns-then-word-longest
returns-then-word-longest c = long_is_none c.args.longest c.args.word.now c.utf8.word (omega arith)

pub returns-then-not-are_digits : goal.returns-then-not-are_digits
returns-then-not-are_digits c =
    let other : list_all is_ascii_digit c.args.word.now ≡ false =
    ap (list_all is_ascii_digit) (sym c.as_bytes.ensures.value) ∙ sym c.are_digits.ensures ∙ c.if-not-are_digits.true in
    other_is_none c.args.longest c.args.word.now c.utf8.word other

pub returns : goal.returns
returns c =
    let all : list_all is_ascii_digit c.args.word.now ≡ true =
    ap (list_all is_ascii_digit) (sym c.as_bytes.ensures.value) ∙ sym c.are_digits.ensures ∙ c.if-not-are_digits.false in
    let short : length c.args.word.now ≤ c.args.longest = omega arith in
    rw c.ok.ensures.value (digits_parsed c.args.longest c.args.word.now c.parse.result c.requires all short c.parse.ensures.value.0)
