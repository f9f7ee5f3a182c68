-- A search for a text among words of ASCII.
use Rattle.std.proofs.Common.{◌≡◌, ℕ, Bool, true, ◌||◌, ◌<◌, nat_lt, List, [], ◌∷◌, map, refl, sym, ◌∙◌, ap, subst, arith, Decides, Contains, All}
use Rattle.std.specs.Borrow.{Bor}
use Rattle.std.specs.List.{list_any, list_all}
use Rattle.std.specs.Str.{bytes_eq, chars, IsUtf8, IsAscii}
use Rattle.std.proofs.lemmas.Slice.Eq.{bytes_eq-Decides}
use Rattle.std.proofs.lemmas.Bool.Decides.{Decides-by_or, Decides-at, nat_tests}
use Rattle.std.proofs.lemmas.List.Elements.{Decides-contains, All-contains, All-weaker, All-map}
use Rattle.std.proofs.lemmas.List.Sums.{AllPass-from_list_all}
use Rattle.std.proofs.lemmas.Str.{chars-IsAscii, encodes-chars, encodes-IsAscii}
use Rattle.std.proofs.lemmas.Str.Ascii.{IsAscii-from_all}

abbrev is_ascii : List ℕ → Bool
is_ascii word = list_all (λ b. nat_lt b 128) word

-- a search for a text among references to words is one among the words
any_now : (words : List (Bor (List ℕ))) (text : List ℕ) → list_any (λ w. bytes_eq w.now text) words ≡ list_any (λ w. bytes_eq w text) (map (λ w. w.now) words)
any_now [] text = refl
any_now (word ∷ words) text = ap (λ r. bytes_eq word.now text || r) (any_now words text)

-- the test whether a text is one of some words
pub word_decides : (words : List (List ℕ)) (text : List ℕ) → Decides (list_any (λ w. bytes_eq w text) words) (Contains words text)
word_decides words text = Decides-contains words text _ (Decides-by_or (λ w. bytes_eq w text) (λ w. w ≡ text) (list_any (λ w. bytes_eq w text)) (λ w. bytes_eq-Decides w text) refl (λ _ _. refl) words)

small : (b : ℕ) → nat_lt b 128 ≡ true → b < 128
small b passes = grind (arith, nat_tests)

IsAscii-from_test : (word : List ℕ) → is_ascii word ≡ true → IsAscii word
IsAscii-from_test word passes =
    IsAscii-from_all word (All-weaker (λ b. nat_lt b 128 ≡ true) (λ b. b < 128) small word (AllPass-from_list_all (λ b. nat_lt b 128) word passes))

words_are_ascii : (words : List (Bor (List ℕ))) → list_all (λ w. is_ascii w.now) words ≡ true → All IsAscii (map (λ w. w.now) words)
words_are_ascii words passes =
    All-map IsAscii (λ w. w.now) words
    (All-weaker (λ w. is_ascii w.now ≡ true) (λ w. IsAscii w.now) (λ w. IsAscii-from_test w.now) words (AllPass-from_list_all (λ w. is_ascii w.now) words passes))

-- a text is one of some words of ASCII by its bytes exactly if it is by its characters
by_characters : (words : List (List ℕ)) (text : List ℕ) → All IsAscii words → IsUtf8 text → Contains words text → Contains words (chars text)
by_characters words text ascii utf8 found =
    subst (Contains words) (sym (chars-IsAscii text (All-contains IsAscii words text ascii found))) found

by_bytes : (words : List (List ℕ)) (text : List ℕ) → All IsAscii words → IsUtf8 text → Contains words (chars text) → Contains words text
by_bytes words text ascii utf8 found =
    subst (Contains words) (sym (encodes-IsAscii (chars text) (All-contains IsAscii words (chars text) ascii found)) ∙ encodes-chars text utf8) found

-- what a search through words of ASCII answers
pub search_decides : (words : List (Bor (List ℕ))) (text : List ℕ) (r : Bool) → list_all (λ w. is_ascii w.now) words ≡ true → IsUtf8 text → r ≡ list_any (λ w. bytes_eq w.now text) words → Decides r (Contains (map (λ w. w.now) words) (chars text))
search_decides words text r passes utf8 e =
    let names : List (List ℕ) = map (λ w. w.now) words in
    let ascii : All IsAscii names = words_are_ascii words passes in
    let found : Decides r (Contains names text) = Decides-at r _ (e ∙ any_now words text) (word_decides names text) in
    (λ yes. by_characters names text ascii utf8 (found.0 yes), λ contained. found.1 (by_bytes names text ascii utf8 contained))
