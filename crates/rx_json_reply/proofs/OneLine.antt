-- What is printed of a value has no LF.
use Rattle.std.proofs.Common.{◌≡◌, ◌∙◌, ◌⊎◌, ◌<◌, refl, sym, ap, subst, inl, inr, ℕ, zero, suc, ◌+◌, Bool, true, false, not, cond, eqb, ◌==◌, ◌&&◌, ◌||◌, List, [], ◌∷◌, ◌++◌, append-nil, append_assoc, drop, Option, Some, None, option_and_then, arith}
use Rattle.std.specs.Char.{is_ascii_digit}
use Rattle.std.specs.List.{All, list_all, prefix_len}
use Rattle.std.proofs.lemmas.Bool.{and_from, and_parts, cases_eq, cases_lt, eqb-true, ne_eqb}
use Rattle.std.proofs.lemmas.List.Elements.{All-cons, All-nil}
use Rattle.std.proofs.lemmas.List.Folds.{list_all-append}
use Rattle.json.specs.Json.{Json}
use Rattle.json.specs.Lex.{tokens}
use Rattle.json.specs.Print.{ArePrintable, IsNumber, IsPrintable, begins, ends, escape, escape_byte, print, print_from, quoted, separator, token_text}
use Rattle.json.specs.Token.{Token, begin_object, end_object, begin_array, end_array, key, string, number, boolean, null, bad}
use Rattle.json.specs.Tree.{HasNumbers, depth, json_tokens}
use Rattle.json.specs.Word.{after_digits, after_exponent, after_fraction, after_minus, after_number, after_sign, after_whole, head}
use Rattle.json.proofs.Numbered.{ArePrintableOrBad-tokens, value-HasNumbers}
use Rattle.json.proofs.Printed.Strings.{escape_byte_plain}
use Rattle.json.proofs.Printed.Trees.{ArePrintable-json_tokens}
use Rattle.rx_json_reply.specs.Printed.{IsTextOf}

-- no byte is LF
abbrev free : List ℕ → Bool
free xs = list_all (λ x. not (eqb x 10)) xs

free-append : (xs ys : List ℕ) → free xs ≡ true → free ys ≡ true → free (xs ++ ys) ≡ true
free-append xs ys p q = list_all-append (λ x. not (eqb x 10)) xs ys ∙ and_from (free xs) (free ys) p q

not_line_feed : (x : ℕ) → (x ≡ 10 → ⊥) → not (eqb x 10) ≡ true
not_line_feed x ne = ap not (ne_eqb x 10 ne)

free-one : (x : ℕ) → (x ≡ 10 → ⊥) → free (x ∷ []) ≡ true
free-one x ne = and_from (not (eqb x 10)) true (not_line_feed x ne) refl

-- ---- strings

escapes_free : ℕ → Bool
escapes_free zero = true
escapes_free (suc n) = free (escape_byte n) && escapes_free n

first_free : escapes_free 93 ≡ true
unfolding escapes_free escape_byte
first_free = refl

free_below : (n : ℕ) → escapes_free n ≡ true → (x : ℕ) → x < n → free (escape_byte x) ≡ true
unfolding escapes_free
free_below zero e x below = absurd (omega arith)
free_below (suc n) e x below =
    let both = and_parts (free (escape_byte n)) (escapes_free n) e in
    elim (cases_eq x n) [ inl same ↦ subst (λ y. free (escape_byte y) ≡ true) (sym same) both.0 | inr other ↦ free_below n both.1 x (omega arith) ]

free-escape_byte : (x : ℕ) → free (escape_byte x) ≡ true
free-escape_byte x = elim (cases_lt x 93) [
  | inl below ↦ free_below 93 first_free x below
  | inr above ↦ subst (λ ys. free ys ≡ true) (sym (escape_byte_plain x (λ e. omega arith) (λ e. omega arith) (omega arith))) (free-one x (λ e. omega arith))
]

free-escape : (s : List ℕ) → free (escape s) ≡ true
free-escape [] = refl
free-escape (x ∷ s) = free-append (escape_byte x) (escape s) (free-escape_byte x) (free-escape s)

free-quoted : (s : List ℕ) → free (quoted s) ≡ true
free-quoted s = free-append (34 ∷ []) (escape s ++ 34 ∷ []) refl (free-append (escape s) (34 ∷ []) (free-escape s) refl)

-- ---- numbers

-- a front without LF was taken
record Takes (text rest : List ℕ) : Type 0 where
  front : List ℕ
  cut : text ≡ front ++ rest
  free_front : free front ≡ true

abbrev TakesIf : List ℕ → Option (List ℕ) → Type 0
TakesIf text None = Unit {0}
TakesIf text (Some rest) = Takes text rest

nothing : (text : List ℕ) → Takes text text
nothing text = record { front = []; cut = refl; free_front = refl }

further : (a b c : List ℕ) → Takes a b → Takes b c → Takes a c
further a b c first second = record {
  front = first.front ++ second.front;
  cut = first.cut ∙ ap (λ (ys : List ℕ). first.front ++ ys) second.cut ∙ sym (append_assoc first.front second.front c);
  free_front = free-append first.front second.front first.free_front second.free_front;
}

further_if : (a b : List ℕ) (o : Option (List ℕ)) → Takes a b → TakesIf b o → TakesIf a o
further_if a b None first second = tt
further_if a b (Some c) first second = further a b c first second

no_digit : (x : ℕ) → is_ascii_digit x ≡ true → x ≡ 10 → ⊥
no_digit x e same = let wrong : false ≡ true = sym (ap is_ascii_digit same) ∙ e in cc

digit_taken : (x : ℕ) (text : List ℕ) (n : ℕ) (b : Bool) → (b ≡ true → x ≡ 10 → ⊥) → Takes text (drop n text) → Takes (x ∷ text) (drop (cond b (1 + n) 0) (x ∷ text))
digit_taken x text n false ne more = nothing (x ∷ text)
digit_taken x text n true ne more =
    let one : 1 + n ≡ suc n = omega arith in
    record {
      front = x ∷ more.front;
      cut = ap (λ (ys : List ℕ). x ∷ ys) more.cut ∙ ap (λ k. (x ∷ more.front) ++ drop k (x ∷ text)) (sym one);
      free_front = and_from (not (eqb x 10)) (free more.front) (not_line_feed x (ne refl)) more.free_front;
    }

digits_taken : (text : List ℕ) → Takes text (drop (prefix_len is_ascii_digit text) text)
digits_taken [] = nothing []
digits_taken (x ∷ text) = digit_taken x text (prefix_len is_ascii_digit text) (is_ascii_digit x) (no_digit x) (digits_taken text)

-- one byte that is no LF may be taken
one_taken : (text : List ℕ) (b : Bool) → (b ≡ true → head text ≡ 10 → ⊥) → Takes text (cond b (drop 1 text) text)
one_taken text false ne = nothing text
one_taken [] true ne = nothing []
one_taken (x ∷ text) true ne = record { front = x ∷ []; cut = refl; free_front = free-one x (ne refl) }

is_not : (n c : ℕ) → (c ≡ 10 → ⊥) → (n == c) ≡ true → n ≡ 10 → ⊥
is_not n c other e same = other (sym (eqb-true n c e) ∙ same)

either : (text : List ℕ) (b : Bool) (x y : Option (List ℕ)) → (b ≡ true → TakesIf text x) → TakesIf text y → TakesIf text (cond b x y)
either text true x y p q = p refl
either text false x y p q = q

then : (text : List ℕ) (f : List ℕ → Option (List ℕ)) → ((u : List ℕ) → TakesIf u (f u)) → (o : Option (List ℕ)) → TakesIf text o → TakesIf text (option_and_then f o)
then text f g None h = tt
then text f g (Some rest) h = further_if text rest (f rest) h (g rest)

digits : (text : List ℕ) → TakesIf text (after_digits text)
digits text = either text (prefix_len is_ascii_digit text == 0) None (Some (drop (prefix_len is_ascii_digit text) text)) (λ e. tt) (digits_taken text)

whole : (text : List ℕ) → TakesIf text (after_whole text)
whole text =
    either text (head text == 48) (Some (drop 1 text)) (after_digits text)
    (λ e. one_taken text true (λ _. is_not (head text) 48 (λ x. omega arith) e)) (digits text)

fraction : (text : List ℕ) → TakesIf text (after_fraction text)
fraction text =
    either text (head text == 46) (after_digits (drop 1 text)) (Some text)
    (λ e. further_if text (drop 1 text) (after_digits (drop 1 text)) (one_taken text true (λ _. is_not (head text) 46 (λ x. omega arith) e)) (digits (drop 1 text))) (nothing text)

one_of : (x y : Bool) → (x || y) ≡ true → (x ≡ true) ⊎ (y ≡ true)
one_of true y e = inl refl
one_of false y e = inr e

-- either of two bytes is no LF
is_neither : (n c d : ℕ) → (c ≡ 10 → ⊥) → (d ≡ 10 → ⊥) → ((n == c) || (n == d)) ≡ true → n ≡ 10 → ⊥
is_neither n c d p q e = elim (one_of (n == c) (n == d) e) [ inl one ↦ is_not n c p one | inr other ↦ is_not n d q other ]

sign : (text : List ℕ) → Takes text (after_sign text)
sign text = one_taken text ((head text == 45) || (head text == 43)) (is_neither (head text) 45 43 (λ x. omega arith) (λ x. omega arith))

exponent : (text : List ℕ) → TakesIf text (after_exponent text)
exponent text =
    let after = drop 1 text in
    either text ((head text == 101) || (head text == 69)) (after_digits (after_sign after)) (Some text)
    (λ e. further_if text after (after_digits (after_sign after)) (one_taken text true (λ _. is_neither (head text) 101 69 (λ x. omega arith) (λ x. omega arith) e))
    (further_if after (after_sign after) (after_digits (after_sign after)) (sign after) (digits (after_sign after)))) (nothing text)

number_taken : (text : List ℕ) → TakesIf text (after_number text)
unfolding after_number
number_taken text =
    then text after_exponent exponent (option_and_then after_fraction (after_whole (after_minus text)))
    (then text after_fraction fraction (after_whole (after_minus text))
    (further_if text (after_minus text) (after_whole (after_minus text)) (one_taken text (head text == 45) (is_not (head text) 45 (λ x. omega arith))) (whole (after_minus text))))

free-number : (s : List ℕ) → IsNumber s → free s ≡ true
free-number s is =
    let taken : Takes s [] = subst (TakesIf s) is (number_taken s) in
    subst (λ (ys : List ℕ). free ys ≡ true) (sym (taken.cut ∙ append-nil taken.front)) taken.free_front

-- ---- tokens

free-token : (t : Token) → IsPrintable t → free (token_text t) ≡ true
free-token begin_object h = refl
free-token end_object h = refl
free-token begin_array h = refl
free-token end_array h = refl
free-token (key s) h = free-append (quoted s) (58 ∷ []) (free-quoted s) refl
free-token (string s) h = free-quoted s
free-token (number s) h = free-number s h
free-token (boolean true) h = refl
free-token (boolean false) h = refl
free-token null h = refl
free-token bad h = absurd h

free-comma : (b : Bool) → free (cond b (44 ∷ []) []) ≡ true
free-comma true = refl
free-comma false = refl

free-print_from : (after : Bool) (ts : List Token) → ArePrintable ts → free (print_from after ts) ≡ true
unfolding print_from ArePrintable
free-print_from after [] h = refl
free-print_from after (t ∷ ts) h =
    free-append (separator after t) (token_text t ++ print_from (ends t) ts) (free-comma (after && begins t))
    (free-append (token_text t) (print_from (ends t) ts) (free-token t h.0) (free-print_from (ends t) ts h.1))

all_free : (xs : List ℕ) → free xs ≡ true → All (λ x. x ≡ 10 → ⊥) xs
all_free [] e = All-nil (λ x. x ≡ 10 → ⊥)
all_free (x ∷ xs) e =
    let both = and_parts (not (eqb x 10)) (free xs) e in
    All-cons (λ x. x ≡ 10 → ⊥) x xs (λ same. let wrong : false ≡ true = sym (ap (λ y. not (eqb y 10)) same) ∙ both.0 in cc) (all_free xs both.1)

-- the numbers of a value that is read are numbers
text_numbers : (j : Json) (text : List ℕ) → IsTextOf j text → HasNumbers j
text_numbers j text is = value-HasNumbers (depth j) (tokens text) [] j (ArePrintableOrBad-tokens text) (is.reads (depth j) (omega arith))

pub one_line : (j : Json) (text : List ℕ) → IsTextOf j text → All (λ x. x ≡ 10 → ⊥) text
one_line j text is =
    subst (All (λ x. x ≡ 10 → ⊥)) (sym is.printed) (all_free (print (json_tokens j)) (free-print_from false (json_tokens j) (ArePrintable-json_tokens j (text_numbers j text is))))
