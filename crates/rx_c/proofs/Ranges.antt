-- Where texts stand that were added one after the other.
use Rattle.std.proofs.Common.{◌≡◌, ap, sym, ◌∙◌, ℕ, ◌+◌, ◌<◌, arith, List, [], ◌∷◌, ◌++◌, get_or, length, take}
use Rattle.std.specs.Prelude.{encode_utf8_all}
use Rattle.std.proofs.lemmas.List.{flat_map_more, length-append, take_more}
use Rattle.rx_records.specs.declared.node.Range.{Range}
use Rattle.rx_records.specs.Ranges.{bytes_at, ranges_at}
use Rattle.rx_c.specs.Told.{all_bytes, each_bytes}

-- One text more stands after the bytes of those before it.
one_range : (start : ℕ) (texts : List (List ℕ)) (text : List ℕ)
    → ranges_at start (each_bytes (texts ++ text ∷ [])) ≡ ranges_at start (each_bytes texts) ++ bytes_at (start + length (all_bytes texts)) (encode_utf8_all text) ∷ []
one_range start [] text = let e : start ≡ start + 0 = omega arith in ap (λ n. bytes_at n (encode_utf8_all text) ∷ []) e
one_range start (first ∷ texts) text =
    let bytes = encode_utf8_all first in
    let e : (start + length bytes) + length (all_bytes texts) ≡ start + length (bytes ++ all_bytes texts) = omega (length-append bytes (all_bytes texts), arith) in
    ap (λ ranges. bytes_at start bytes ∷ ranges) (one_range (start + length bytes) texts text ∙ ap (λ n. ranges_at (start + length bytes) (each_bytes texts) ++ bytes_at n (encode_utf8_all text) ∷ []) e)

-- What one text more adds to the bytes of those before it, and to the ranges.
module _ (texts : List (List ℕ)) (i : ℕ) (default text : List ℕ) (within : i < length texts) (is : text ≡ get_or texts i default) (bytes : List ℕ) (bytes_are : bytes ≡ all_bytes (take i texts)) where
  with_next : take (i + 1) texts ≡ take i texts ++ text ∷ []
  with_next = take_more texts i default within ∙ ap (λ t. take i texts ++ t ∷ []) (sym is)

  pub bytes_more : (new : List ℕ) → new ≡ bytes ++ encode_utf8_all text → new ≡ all_bytes (take (i + 1) texts)
  bytes_more new added =
      added ∙ ap (λ bs. bs ++ encode_utf8_all text) bytes_are ∙ flat_map_more encode_utf8_all [] (take i texts) text ∙ sym (ap all_bytes with_next)

  pub ranges_more : (ranges new : List Range) (range : Range) → ranges ≡ ranges_at 0 (each_bytes (take i texts)) → range ≡ bytes_at (length bytes) (encode_utf8_all text)
      → new ≡ ranges ++ range ∷ [] → new ≡ ranges_at 0 (each_bytes (take (i + 1) texts))
  ranges_more ranges new range ranges_are range_is added =
      let place : length bytes ≡ 0 + length (all_bytes (take i texts)) = ap length bytes_are ∙ omega arith in
      added ∙ ap (λ rs. rs ++ range ∷ []) ranges_are
      ∙ ap (λ r. ranges_at 0 (each_bytes (take i texts)) ++ r ∷ []) (range_is ∙ ap (λ n. bytes_at n (encode_utf8_all text)) place)
      ∙ sym (ap (λ ts. ranges_at 0 (each_bytes ts)) with_next ∙ one_range 0 (take i texts) text)
