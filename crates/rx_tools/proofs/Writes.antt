-- How texts are written.
use Rattle.std.proofs.Common.{◌≡◌, ap, ◌∙◌, ℕ, List, [], ◌++◌, Option}
use Rattle.std.proofs.KnownBytes.{Appends-nil, Appends-trans}
use Rattle.std.proofs.lemmas.Str.{encodes_same}
use Rattle.std.specs.Prelude.{OnOk, Result}
use Rattle.std.specs.Str.{encode_utf8_all}
use Rattle.rx_tasks.proofs.Texts.{Composes}
use Rattle.rx_tools.specs.Utf8.{utf8}
use Rattle.rx_tools.specs.Writes.{writes}
use Rattle.rx_tools.proofs.Pieces.{utf8-nil, utf8-append}

module _ {W : Type 0} (taken : W → Option (List ℕ)) where
  pub composes : Composes (writes taken)
  composes = record {
    joined = λ u v w first second one two. rw (utf8-append first second) (Appends-trans (taken u) (taken v) (taken w) (utf8 first) (utf8 second) one two);
  }

  pub no_text : (w : W) → writes taken w [] w
  no_text w = rw utf8-nil (Appends-nil (taken w))

-- the same text, spelled in another way
pub same_written : {W T E : Type 0} (taken : W → Option (List ℕ)) (v w : W) (result : Result T E) (text : List ℕ) {wanted : List ℕ} → wanted ≡ text → OnOk result (writes taken v text w) → OnOk result (writes taken v wanted w)
same_written taken v w result text same written = rw same written

-- a text that grew from nothing
pub text_is : (old new text : List ℕ) → old ≡ [] → encode_utf8_all new ≡ encode_utf8_all old ++ utf8 text → new ≡ text
unfolding utf8
text_is old new text none grown = encodes_same new text (grown ∙ ap (λ cs. encode_utf8_all cs ++ encode_utf8_all text) none)
