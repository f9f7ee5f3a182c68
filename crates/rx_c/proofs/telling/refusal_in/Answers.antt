use Rattle.std.proofs.Common.{rules, ◌≡◌, refl, ap, ◌∙◌, ℕ, Bool, Option, List}
use Rattle.std.specs.Str.{chars, encode_utf8_all}
use Rattle.rx_base.specs.declared.span.Span.{Span}
use Rattle.rx_parser.specs.Texts.{seen_input}
use Rattle.rx_records.specs.Ranges.{range_of}
use Rattle.rx_records.proofs.Texts.{text_bytes}
use Rattle.rx_refusal.specs.Fields.{text_in}
use Rattle.rx_refusal.specs.Helps.{help_at}
use Rattle.rx_c.specs.Placed.{optional_in_units, range_in_units}
use Rattle.rx_c.specs.Told.{optional_with_nul}
use Rattle.rx_c.proofs.telling.refusal_in.Goals as goal

same_range : (utf16 : Bool) (t u : List ℕ) (n m : ℕ) (s r : Span) → t ≡ u → n ≡ m → s ≡ r → range_in_units utf16 t n (range_of s) ≡ range_in_units utf16 u m (range_of r)
same_range utf16 t u n m s r same_text same_offset same_span =
    ap (λ x. range_in_units utf16 x n (range_of s)) same_text ∙ ap (λ x. range_in_units utf16 u x (range_of s)) same_offset ∙ ap (λ x. range_in_units utf16 u m (range_of x)) same_span

same_second : (utf16 : Bool) (t u : List ℕ) (n m : ℕ) (s r : Option Span) → t ≡ u → n ≡ m → s ≡ r → optional_in_units utf16 t n s ≡ optional_in_units utf16 u m r
same_second utf16 t u n m s r same_text same_offset same_span =
    ap (λ x. optional_in_units utf16 x n s) same_text ∙ ap (λ x. optional_in_units utf16 u x s) same_offset ∙ ap (λ x. optional_in_units utf16 u m x) same_span

pub returns : goal.returns
returns c =
    let input = seen_input c.args.it.now.input in
    let cause = c.args.cause.now in
    let utf16 = c.args.it.now.wants.utf16 in
    let bytes = text_bytes c.text_in-text.result.now (text_in input c.args.field) c.text_in-text.utf8 c.text_in-text.ensures.text in
    let text = ap chars c.in_ok-places.ensures.text ∙ c.text_in-text.ensures.text in
    let offset = c.in_ok-places.ensures.offset ∙ c.offset_in-offset.ensures in
    record {
      name = c.leak_list.ensures ∙ c.in_ok-words.ensures.name;
      kind = c.leak_list-2.ensures ∙ c.in_ok-words.ensures.kind;
      message = c.leak_list-3.ensures ∙ c.in_ok-words.ensures.message;
      help = c.leak_list-4.ensures ∙ c.in_ok-words.ensures.help ∙ ap (λ t. optional_with_nul (help_at input.form t c.offset_in-offset.result cause)) bytes
          ∙ ap (λ n. optional_with_nul (help_at input.form (encode_utf8_all (text_in input c.args.field)) n cause)) c.offset_in-offset.ensures;
      values = c.leak_list-5.ensures ∙ c.requires;
      field_is = c.field_code.ensures;
      span_count = search rules;
      max = search rules;
      spare = refl;
      first = c.range_in_units.ensures ∙ same_range utf16 _ _ _ _ _ _ text offset c.first_span.ensures;
      second = c.optional_in_units.ensures ∙ same_second utf16 _ _ _ _ _ _ text offset c.second_span-second.ensures;
    }
