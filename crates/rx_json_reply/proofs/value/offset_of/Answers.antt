use Rattle.std.proofs.Common.{◌≡◌, ◌∙◌, sym, ap, Some, rules, tests}
use Rattle.std.specs.Char.{is_ascii_digit}
use Rattle.std.specs.List.{list_all}
use Rattle.std.specs.Option.{option_and_then}
use Rattle.std.proofs.lemmas.Iterator.{YieldsList-from_slice}
use Rattle.std.proofs.lemmas.Iterator.Search.{all_from_yields_List}
use Rattle.json.specs.Find.{as_number}
use Rattle.json.specs.Value.{value_view}
use Rattle.rx_json_reply.specs.Faults.{small_number}
use Rattle.rx_json_reply.proofs.Digits.{digits_parsed, other_is_none}
use Rattle.rx_json_reply.proofs.value.offset_of.Goals as goal

pub returns-then-all : goal.returns-then-all
returns-then-all c =
    let bytes = c.in_ok-digits.digits.now in
    let is : as_number (value_view c.args.value.now) ≡ Some bytes = sym c.in_ok-digits.ensures in
    let all : c.all.result ≡ list_all is_ascii_digit c.as_bytes.result.now =
    all_from_yields_List is_ascii_digit _ _ c.all.result c.all.ensures.ran (YieldsList-from_slice c.as_bytes.result.now cc) (λ x b q k. search (rules, tests)) in
    let digits = ap (list_all is_ascii_digit) (sym c.as_bytes.ensures.value) ∙ sym all ∙ c.if-all.true in
    c.ok.ensures.value ∙ digits_parsed bytes c.parse.result digits c.parse.ensures.value.0 ∙ sym (ap (option_and_then small_number) is)

pub returns-else-all : goal.returns-else-all
returns-else-all c =
    let bytes = c.in_ok-digits.digits.now in
    let is : as_number (value_view c.args.value.now) ≡ Some bytes = sym c.in_ok-digits.ensures in
    let all : c.all.result ≡ list_all is_ascii_digit c.as_bytes.result.now =
    all_from_yields_List is_ascii_digit _ _ c.all.result c.all.ensures.ran (YieldsList-from_slice c.as_bytes.result.now cc) (λ x b q k. search (rules, tests)) in
    let other = ap (list_all is_ascii_digit) (sym c.as_bytes.ensures.value) ∙ sym all ∙ c.if-all.false in
    sym (ap (option_and_then small_number) is ∙ other_is_none bytes other)
