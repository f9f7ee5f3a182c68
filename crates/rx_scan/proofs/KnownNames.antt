-- Names that a set of texts knows.
use Rattle.std.proofs.Common.{◌≡◌, refl, ap, sym, ◌∙◌, ℕ, List, [], ◌∷◌, ◌++◌, Bool, true, false, cond, ◌||◌, String}
use Rattle.std.specs.Prelude.{eqb}
use lib.Pointwise.{pointwise}
use Rattle.std.specs.Bool.{Decides}
use Rattle.std.specs.BTreeSet.{BTreeSet, contains_text}
use Rattle.std.specs.Str.{IsUtf8, bytes_eq, chars, encode_utf8_all}
use Rattle.std.proofs.lemmas.Bool.Decides.{same_from_decides}
use Rattle.std.proofs.lemmas.List.Folds.{list_any-append}
use Rattle.std.proofs.lemmas.Slice.Eq.{bytes_eq-Decides}
use Rattle.std.proofs.lemmas.Str.{encodes-chars}
use Rattle.rx_base.specs.Texts.{is_among}
use Rattle.rx_scan.specs.KnownNames.{KnowsAll}

-- equal names are equal lists
pub same_name_Decides : (xs ys : List ℕ) → Decides (pointwise eqb xs ys) (xs ≡ ys)
same_name_Decides xs ys = bytes_eq-Decides xs ys

-- bytes of a text, and its characters
pub same_text : (xs ys : List ℕ) → IsUtf8 xs → IsUtf8 ys → bytes_eq xs ys ≡ pointwise eqb (chars xs) (chars ys)
same_text xs ys u v =
    let d = same_name_Decides (chars xs) (chars ys) in
    let e = bytes_eq-Decides xs ys in
    same_from_decides (bytes_eq xs ys) (pointwise eqb (chars xs) (chars ys)) e
    (λ t. sym (encodes-chars xs u) ∙ ap encode_utf8_all (d.0 t) ∙ encodes-chars ys v, λ s. d.1 (ap chars s))

or_turn : (a b : Bool) → cond a true b ≡ (b || (a || false))
or_turn true true = refl
or_turn true false = refl
or_turn false true = refl
or_turn false false = refl

pub known_more : {A : Type 0} (names : List (List ℕ)) (old new : BTreeSet (String A)) (bytes name : List ℕ) → KnowsAll names old → ((cs : List ℕ) → contains_text new cs ≡ cond (bytes_eq bytes cs) true (contains_text old cs)) → IsUtf8 bytes → chars bytes ≡ name → KnowsAll (names ++ name ∷ []) new
known_more names old new bytes name knows sets text is cs other =
    let e = same_text bytes cs text other ∙ ap (λ n. pointwise eqb n (chars cs)) is in
    sets cs ∙ ap (λ b. cond b true (contains_text old cs)) e ∙ ap (cond (pointwise eqb name (chars cs)) true) (knows cs other)
    ∙ or_turn (pointwise eqb name (chars cs)) (is_among names (chars cs))
    ∙ sym (list_any-append (λ n. pointwise eqb n (chars cs)) names (name ∷ []))
