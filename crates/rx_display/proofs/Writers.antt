-- How texts are written, and a text that was written from nothing.
use Rattle.std.proofs.Common.{◌≡◌, ap, sym, ◌∙◌, ℕ, List, [], ◌∷◌, ◌++◌, append-nil}
use Rattle.std.specs.Char.{encode_utf8}
use Rattle.std.specs.Fmt.{HasWritten, IsPlainFormatter, formatter_writer}
use Rattle.std.specs.Str.{chars, encode_utf8_all, IsUtf8}
use Rattle.std.specs.declared.fmt.Formatter.{Formatter}
use Rattle.std.proofs.Output.{contents_after_writes, has_written_append, has_written_of_eq, writes_in_calls_nil}
use Rattle.std.proofs.lemmas.Str.{encodes-append, encodes-chars, encodes_same}
use Rattle.rx_display.specs.Writes.{writes}
use Rattle.rx_display.specs.declared.writer.Writer.{Writer}
use Rattle.rx_tasks.proofs.Texts.{Composes}

module _ {W : Type 0} {took : W → List ℕ → W → Type 0} where
  pub composes : Composes (writes took)
  composes = record {
    joined = λ f g h first second one two. has_written_of_eq took f _ _ h (sym (encodes-append first second)) (has_written_append took f _ g _ h one two);
  }

  pub no_text : {f : Formatter W} → IsPlainFormatter f → writes took f [] f
  no_text plain = record { wrote = writes_in_calls_nil took _; plain = plain }

  -- a text, as it was spelled
  pub spelled : {f g : Formatter W} (bytes text : List ℕ) → IsUtf8 bytes → chars bytes ≡ text → HasWritten took f bytes g → writes took f text g
  spelled {f} {g} bytes text is_text same = has_written_of_eq took f _ _ g (sym (encodes-chars bytes is_text) ∙ ap encode_utf8_all same)

  -- one character
  pub one_written : {f g : Formatter W} (c : ℕ) → HasWritten took f (encode_utf8 c) g → writes took f (c ∷ []) g
  one_written {f} {g} c = has_written_of_eq took f _ _ g (sym (append-nil (encode_utf8 c)))

abbrev Took : Writer → List ℕ → Writer → Type 0
Took old bytes new = encode_utf8_all new.text ≡ encode_utf8_all old.text ++ bytes

pub written_from_nothing : (f g : Formatter Writer) (text : List ℕ) → writes Took f text g → (formatter_writer f).text ≡ [] → (formatter_writer g).text ≡ text
written_from_nothing f g text written none =
    encodes_same (formatter_writer g).text text
    (contents_after_writes Took (λ w. encode_utf8_all w.text) (λ w bytes v grown. grown) _ _ _ written.wrote ∙ ap (λ cs. encode_utf8_all cs ++ encode_utf8_all text) none)
