-- How the words are taken, one by one.
use Rattle.std.proofs.Common.{◌≡◌, ◌∙◌, sym, ap, subst, ℕ, ◌+◌, ◌<◌, ◌≤◌, List, [], ◌∷◌, ◌++◌, refl, zero, suc, append-nil, append_assoc, add-one, length, drop, Option, None, Some, IfSome, Result, Ok, Err, arith}
use Rattle.std.proofs.lemmas.Option.{slice_get_within, get_or_from_slice_get}
use Rattle.std.specs.Prelude.{slice_get, slice_index_or, IsSomeAnd, IsErrAnd, IsUtf8}
use Rattle.std.specs.List.{AllZip, Any}
use Rattle.rx_run.specs.Arguments.{AreWords, HasNoText, IsWord, IsWordAt}

-- These words stand before an index: with those from there on, they are all.
abbrev pub AreWordsBefore : List (List ℕ) → ℕ → List (List ℕ) → Type 0
AreWordsBefore given index words = (rest : List (List ℕ)) → AllZip IsWord (drop index given) rest → AreWords given (words ++ rest)

-- what is given from an index on, where there is an argument at it, and where there is none
drop-some : (given : List (List ℕ)) (index : ℕ) (bytes : List ℕ) → slice_get given index ≡ Some bytes → drop index given ≡ bytes ∷ drop (suc index) given
drop-some [] index bytes e = cc
drop-some (x ∷ given) zero bytes e = cc
drop-some (x ∷ given) (suc index) bytes e = drop-some given index bytes e

drop-none : (given : List (List ℕ)) (index : ℕ) → slice_get given index ≡ None → drop index given ≡ []
drop-none [] zero e = refl
drop-none [] (suc index) e = refl
drop-none (x ∷ given) zero e = cc
drop-none (x ∷ given) (suc index) e = drop-none given index e

words_more : (given : List (List ℕ)) (index : ℕ) (words : List (List ℕ)) (word : List ℕ) (argument : Option (List ℕ)) → slice_get given index ≡ argument
    → AreWordsBefore given index words → IsSomeAnd argument (λ bytes. IsWord bytes word) → AreWordsBefore given (index + 1) (words ++ word ∷ [])
words_more given index words word None e before is rest h = absurd is
words_more given index words word (Some bytes) e before is rest h =
    let all : AreWords given (words ++ word ∷ rest) = before (word ∷ rest) (subst (λ (l : List (List ℕ)). AllZip IsWord l (word ∷ rest)) (sym (drop-some given index bytes e)) (is, subst (λ (n : ℕ). AllZip IsWord (drop n given) rest) (add-one index) h)) in
    subst (AreWords given) (sym (append_assoc words (word ∷ []) rest)) all

words_all : (given : List (List ℕ)) (index : ℕ) (words : List (List ℕ)) → AreWordsBefore given index words → slice_get given index ≡ None → AreWords given words
words_all given index words before e =
    subst (AreWords given) (append-nil words) (before [] (subst (λ (l : List (List ℕ)). AllZip IsWord l []) (sym (drop-none given index e)) tt))

no_text : (given : List (List ℕ)) (index : ℕ) (argument : Option (List ℕ)) → slice_get given index ≡ argument → 1 ≤ index → IsSomeAnd argument (λ bytes. ¬ IsUtf8 bytes) → HasNoText given
no_text given index None e after is = absurd is
no_text (name ∷ words) (suc index) (Some bytes) e after is = (index, bytes, slice_get_within words index bytes e, get_or_from_slice_get words index bytes bytes e, is)
no_text [] index (Some bytes) e after is = cc
no_text (name ∷ words) zero (Some bytes) e after is = absurd (omega arith)

-- ---- the same where the arguments may not be told

pub known_words_none : (given : Option (List (List ℕ))) → IfSome given (λ all. AreWordsBefore all 1 [])
known_words_none None = tt
known_words_none (Some all) = λ rest h. h

pub known_words_more : (given : Option (List (List ℕ))) (index : ℕ) (words words' : List (List ℕ)) (found : Option (List ℕ)) (word : List ℕ)
    → IfSome given (λ all. AreWordsBefore all index words) → IfSome given (λ all. IsWordAt all index found) → found ≡ Some word → words' ≡ words ++ word ∷ []
    → IfSome given (λ all. AreWordsBefore all (index + 1) words')
known_words_more None index words words' found word before is e w = tt
known_words_more (Some all) index words words' None word before is e w = cc
known_words_more (Some all) index words words' (Some found) word before is e w =
    let e' : found ∷ [] ≡ word ∷ [] = cc in
    let w' : words' ≡ words ++ found ∷ [] = w ∙ ap (λ (l : List (List ℕ)). words ++ l) (sym e') in
    subst (AreWordsBefore all (index + 1)) (sym w') (words_more all index words found (slice_get all index) refl before is)

pub known_words_all : (given : Option (List (List ℕ))) (index : ℕ) (words : List (List ℕ)) (found : Option (List ℕ))
    → IfSome given (λ all. AreWordsBefore all index words) → IfSome given (λ all. IsWordAt all index found) → found ≡ None → IfSome given (λ all. AreWords all words)
known_words_all None index words found before is e = tt
known_words_all (Some all) index words None before is e = words_all all index words before is
known_words_all (Some all) index words (Some found) before is e = cc

pub known_no_text : (given : Option (List (List ℕ))) (index : ℕ) → 1 ≤ index → IfSome given (λ all. IsSomeAnd (slice_get all index) (λ bytes. ¬ IsUtf8 bytes)) → IfSome given HasNoText
known_no_text None index after is = tt
known_no_text (Some all) index after is = no_text all index (slice_get all index) refl after is

-- ---- a fault that is handed on

pub same_fault : {T U E : Type 0} (result : Result T E) (fault fault' : E) → IsErrAnd result (λ e. e ≡ fault) → result ≡ Err fault' → ◌≡◌ {A = Result U E} (Err fault) (Err fault')
same_fault (Ok x) fault fault' is e = absurd is
same_fault (Err x) fault fault' is e = cc
