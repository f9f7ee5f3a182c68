-- The names that more than one proof of this crate cites, passed on from one place. Declares nothing.
pub use Rattle.rx_base.specs.Characters.{is_lead, is_trail, is_within}
pub use Rattle.rx_base.specs.declared.span.Span.{Span}
pub use Rattle.rx_tables.specs.Characters.{hex_digit_value, is_decimal_digit, is_octal_digit}
pub use Rattle.rx_units.proofs.Choices.{both, chosen, either_way, is_none, low_next, told_apart}
pub use Rattle.rx_units.proofs.Digits.{four_small, hex_le, high_octal, nonzero_digit, nonzero_octal, two_small, zero_next}
pub use Rattle.rx_units.specs.Characters.{is_line_terminator, is_non_escape_character, is_single_escape_character}
pub use Rattle.rx_units.specs.Cursor.{AreEnds}
pub use Rattle.rx_units.specs.Digits.{PassesHex, front_is, hex_after, hex_number, is_hex_digit, octal}
pub use Rattle.rx_units.specs.Quoted.Answers.{IsPlainFront, IsStop, IsStringOf, IsTemplateOf, string_element_fault, string_fault_at, template_element_fault, template_fault_at, text_span}
pub use Rattle.rx_units.specs.Quoted.Elements.{SpellsElement, SpellsInString, SpellsInTemplate, character, dollar, escape, is_open_brace, is_string_character, is_template_character, legacy_octal, non_octal, quote_of, terminator, written, zero_digit}
pub use Rattle.rx_units.specs.Quoted.Escapes.{SpellsEscape, SpellsTerminator, alone, braced, carriage_return, carriage_return_line_feed, continuation, four_digits, hexadecimal, is_line_feed, non_escape, null, single, single_escape_value}
pub use Rattle.rx_units.specs.Quoted.Faults.{IsNoCodePoint, IsStringFault, IsTemplateFault, NothingStands, empty_at, ends, ends_escape, followed, from_to, is_close_brace, is_grave_accent, is_string_quote, legacy, no_code_point, no_four_digits, no_hex_digit, not_escape, one_hex_digit, too_large, unopened}
pub use Rattle.rx_units.specs.Quoted.Found.{is_closer, seen_front}
unfoldable pub use Rattle.rx_units.specs.Quoted.Fronts.{escape_at, front}
pub use Rattle.rx_units.specs.Quoted.Fronts.{EscapeRead, Front, braces_at, closer, digit, digit_after, digit_at, digit_step, digits_at, element, escape_after, escaped, four_at, front_digit, hex_at, hex_pair, invalid_hex, invalid_unicode, is_plain, legacy_at, line_after, no_hex, no_unicode, nothing, octal_at, passes, raw_line, string_escape, string_front, substitution, template_escape, template_front, unended, unicode_after}
pub use Rattle.rx_units.specs.Quoted.Texts.{Given, IsAllowed, IsDecoded, IsReached, Leads, Place, QuotedRow, after_elements, byte_count, is_refused, next_place, no_element, one_more, place_after_opening}
pub use Rattle.rx_units.specs.Quoted.Values.{code_points, element_units, given_value, kind_of, pair, text_units, value_units}
pub use Rattle.rx_units.specs.Sources.{Decodes, IsQuotedFault, of_string, of_template, plain_options, string_refusal, template_refusal}
pub use Rattle.rx_units.specs.declared.code_point.CodePoint.{CodePoint}
pub use Rattle.rx_units.specs.declared.options.Options.{Options}
pub use Rattle.rx_units.specs.declared.quoted_text.element.Element.{Element}
pub use Rattle.rx_units.specs.declared.quoted_text.element.Writing.{Writing}
pub use Rattle.rx_units.specs.declared.quoted_text.literal.Literal.{Literal}
pub use Rattle.rx_units.specs.declared.quoted_text.reading.Stop.{Stop}
pub use Rattle.rx_units.specs.declared.string_literal_parser.LegacyKind.{LegacyKind}
pub use Rattle.rx_units.specs.declared.string_literal_parser.StringFault.{StringFault}
pub use Rattle.rx_units.specs.declared.string_literal_parser.StringLiteralKind.{StringLiteralKind}
pub use Rattle.rx_units.specs.declared.template_literal_parser.TemplateFault.{TemplateFault}
pub use Rattle.std.proofs.Math.Seq.{drop-append_seam, take-append_seam}
pub use Rattle.std.proofs.lemmas.Bool.{MatchBool-at_true, cases_Bool, cond-false, cond-true, cond_both, eqb-true, le-ltb, leb-true, lt-ltb, ltb-false, ltb-true, not-true}
pub use Rattle.std.proofs.lemmas.Bool.Decides.{nat_tests}
pub use Rattle.std.proofs.lemmas.List.Elements.{All-append, All-cons, All-drop, All-head, All-nil, All-tail, All-take}
pub use Rattle.std.proofs.lemmas.Option.{option_and_then_some}
pub use Rattle.std.proofs.lemmas.Str.{IsCharBoundary-at_seam, chars-IsAscii, chars-encodes, encode_ascii, encodes-append, encodes-chars, len_utf8_ascii, length-encode, scalars-chars}
pub use Rattle.std.specs.Char.{len_utf8}
pub use Rattle.std.specs.Prelude.{All, Err, IfErr, IfOk, MatchResult, Ok, Result}
pub use Rattle.std.specs.Str.{IsAscii, IsCharBoundary, IsNotAscii, IsUtf8, chars}
pub use lib.Utf8.{encode, encodes, scalar, scalars}
