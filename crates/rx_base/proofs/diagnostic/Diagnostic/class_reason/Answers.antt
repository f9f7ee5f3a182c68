use Rattle.std.proofs.Common.{ap, sym, ◌∙◌, codes}
use Rattle.std.specs.Char.{encode_utf8}
use Rattle.std.specs.Str.{encode_utf8_all}
use Rattle.rx_base.specs.DiagnosticMessage.{reason_of}
use Rattle.rx_base.proofs.Messages.{named_between}
use Rattle.rx_base.proofs.diagnostic.Diagnostic.class_reason.Goals as goal

pub returns-in-InvalidUnicodePropertyNameNegativeStrings : goal.returns-in-InvalidUnicodePropertyNameNegativeStrings
unfolding encode_utf8
returns-in-InvalidUnicodePropertyNameNegativeStrings c =
    named_between (codes "Property name `") (codes "` is not allowed here") c.as_str.result.now _ c.as_str.utf8 c.as_str.ensures
    ∙ ap (λ d. encode_utf8_all (reason_of d)) (sym c.in-InvalidUnicodePropertyNameNegativeStrings.is)

pub returns-in-InvalidUnicodePropertyOfStrings : goal.returns-in-InvalidUnicodePropertyOfStrings
unfolding encode_utf8
returns-in-InvalidUnicodePropertyOfStrings c =
    let text = c.as_str-in-InvalidUnicodePropertyOfStrings in
    named_between (codes "Invalid unicode property `") (codes "`") text.result.now _ text.utf8 text.ensures
    ∙ ap (λ d. encode_utf8_all (reason_of d)) (sym c.in-InvalidUnicodePropertyOfStrings.is)
