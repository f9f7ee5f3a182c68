-- How writes to a formatter compose, by the text that they write.
use Rattle.std.proofs.Common.{◌≡◌, refl, ap, sym, ◌∙◌, ℕ, List, [], ◌++◌, append_assoc, subst, Bool, false, Option, Some, Result, Ok}
use Rattle.std.specs.Prelude.{if◌then◌else◌}
use Rattle.std.proofs.Output.{has_written_append, has_written_of_eq, writes_in_calls_nil}
use Rattle.std.proofs.lemmas.Str.{encodes-append, encodes-chars}
use Rattle.std.specs.Fmt.{DisplaysOnOk, WritesOnOk}
use Rattle.std.specs.Str.{chars, encode_utf8_all, IsUtf8}
use Rattle.std.specs.declared.fmt.Error.{Error}
use Rattle.std.specs.declared.fmt.Formatter.{Formatter}

-- the bytes of a text by its characters
pub encoded : (bytes text : List ℕ) → IsUtf8 bytes → chars bytes ≡ text → encode_utf8_all text ≡ bytes
encoded bytes text is_text spelled = ap encode_utf8_all (sym spelled) ∙ encodes-chars bytes is_text

pub encoded_three : (first second third : List ℕ) → encode_utf8_all (first ++ (second ++ third)) ≡ encode_utf8_all first ++ (encode_utf8_all second ++ encode_utf8_all third)
encoded_three first second third = encodes-append first (second ++ third) ∙ ap (λ bytes. encode_utf8_all first ++ bytes) (encodes-append second third)

module _ {W : Type 0} {took : W → List ℕ → W → Type 0} where
  -- the same bytes in another form
  pub other_bytes : {f g : Formatter W} (result : Result (Unit {0}) Error) {bytes wanted : List ℕ} → bytes ≡ wanted → WritesOnOk took f result bytes g → WritesOnOk took f result wanted g
  other_bytes result same wrote plain ok = has_written_of_eq took _ _ _ _ same (wrote plain ok)

  -- what a format writes, where its holes are known to show these bytes
  pub displayed : {f g : Formatter W} (result : Result (Unit {0}) Error) {output : Option (List ℕ)} {bytes : List ℕ} (text : List ℕ) →
      output ≡ Some bytes → encode_utf8_all text ≡ bytes → DisplaysOnOk took f result output g → WritesOnOk took f result (encode_utf8_all text) g
  displayed {f} {g} result text is own wrote =
      let P : Option (List ℕ) → Type 0 = λ o. DisplaysOnOk took f result o g in
      other_bytes result (sym own) (subst P is wrote)

  -- the same text in another form
  pub same_shown : {f g : Formatter W} (result : Result (Unit {0}) Error) {text wanted : List ℕ} → wanted ≡ text → WritesOnOk took f result (encode_utf8_all text) g → WritesOnOk took f result (encode_utf8_all wanted) g
  same_shown result same wrote = other_bytes result (ap encode_utf8_all (sym same)) wrote

  -- the whole of one text, and then another
  pub shown_then : {f g h : Formatter W} (result : Result (Unit {0}) Error) (first second : List ℕ) →
      WritesOnOk took f (Ok tt) (encode_utf8_all first) g → WritesOnOk took g result (encode_utf8_all second) h → WritesOnOk took f result (encode_utf8_all (first ++ second)) h
  shown_then result first second a b plain ok =
      let one = a plain refl in
      has_written_of_eq took _ _ _ _ (sym (encodes-append first second)) (has_written_append took _ _ _ _ _ one (b one.plain ok))

  pub nothing_shown : (f : Formatter W) → WritesOnOk took f (Ok tt) (encode_utf8_all []) f
  nothing_shown f plain ok = record { wrote = writes_in_calls_nil took _; plain = plain }

-- Of the whole text so much was written, and the rest is left.
pub record Left {W : Type 0} (took : W → List ℕ → W → Type 0) (old new : Formatter W) (whole rest : List ℕ) : Type 0 where
  pub front : List ℕ
  pub cut : whole ≡ front ++ rest
  pub wrote : WritesOnOk took old (Ok tt) (encode_utf8_all front) new

module _ {W : Type 0} {took : W → List ℕ → W → Type 0} where
  pub left_all : (f : Formatter W) (whole : List ℕ) → Left took f f whole whole
  left_all f whole = record { front = []; cut = refl; wrote = nothing_shown f }

  -- the next part of the rest was written
  pub left_then : {f g h : Formatter W} {whole rest : List ℕ} (next after : List ℕ) →
      Left took f g whole rest → rest ≡ next ++ after → WritesOnOk took g (Ok tt) (encode_utf8_all next) h → Left took f h whole after
  left_then next after left cut wrote = record {
    front = left.front ++ next;
    cut = left.cut ∙ ap (λ text. left.front ++ text) cut ∙ sym (append_assoc left.front next after);
    wrote = shown_then (Ok tt) left.front next left.wrote wrote;
  }

  -- the rest in another form
  pub left_same : {f g : Formatter W} {whole rest : List ℕ} (wanted : List ℕ) → Left took f g whole rest → rest ≡ wanted → Left took f g whole wanted
  left_same wanted left same = record { front = left.front; cut = left.cut ∙ ap (λ text. left.front ++ text) same; wrote = left.wrote }

-- a part that was not written together with the one before it
pub unless_joined : (joined : Bool) (text : List ℕ) → joined ≡ false → (if joined then [] else text) ≡ text
unless_joined joined text apart = rw apart refl
