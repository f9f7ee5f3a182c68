-- Canonical texts that are of printable ASCII.
use Rattle.std.proofs.Common.{◌≡◌, ℕ, suc, zero, ◌/◌, ◌%◌, ◌<◌, ◌≤◌, Bool, true, false, ◌==◌, ◌&&◌, ◌||◌, nat_lt, cond, Option, Some, None, List, [], ◌∷◌, ◌++◌, refl, ◌∙◌, arith}
use Rattle.std.specs.List.{list_all}
use Rattle.std.specs.Char.{digit_value}
use Rattle.std.specs.Fmt.{decimal}
use Rattle.std.specs.Str.Parse.{AllDigits}
use Rattle.std.proofs.lemmas.Bool.{and_from, cond_both}
use Rattle.std.proofs.lemmas.Bool.Decides.{nat_tests}
use Rattle.std.proofs.lemmas.Fmt.{decimal_is_IsNumeral}
use Rattle.std.proofs.lemmas.List.Folds.{list_all-append}
use Rattle.std.proofs.lemmas.Str.Parse.{digit_from_value}
use Rattle.rx_base.specs.Characters.{is_within}
use Rattle.rx_tables.specs.Characters.{is_decimal_digit, is_syntax_character, hex_digit}
use Rattle.rx_ast.specs.declared.leaf.BoundaryAssertionKind.{BoundaryAssertionKind}
use Rattle.rx_ast.specs.declared.leaf.BoundaryAssertionKind.TheVariants as boundaries
use Rattle.rx_ast.specs.declared.leaf.CharacterClassEscapeKind.{CharacterClassEscapeKind}
use Rattle.rx_ast.specs.declared.leaf.CharacterClassEscapeKind.TheVariants.{D, NegativeD, S, NegativeS, W, NegativeW}
use Rattle.rx_ast.specs.declared.leaf.LookAroundAssertionKind.{LookAroundAssertionKind}
use Rattle.rx_ast.specs.declared.leaf.LookAroundAssertionKind.TheVariants as look
use Rattle.rx_units.proofs.Choices.{both}
use Rattle.rx_ast.specs.Texts.{boundary_text, class_escape_text, letters, dash, look_text, counts_text, lazy_text, quantifier_text}
use Rattle.rx_model.specs.Spelling.CharacterText.{Place, control_letter, two_digits, four_digits, hex, in_braces_text, is_escaped, outside, in_class, character_text}
use Rattle.rx_model.specs.Trees.Early.{greatest_count, IsGreatest}
use Rattle.rx_model.specs.Trees.Token.{ignoring}
use Rattle.rx_model.specs.declared.mode.Mode.{Mode}
use Rattle.rx_model.specs.declared.mode.Mode.TheVariants.{Legacy, Unicode, Sets}
use Rattle.rx_model.proofs.Spelling.TokenTexts.{opened_text}
use Rattle.rx_model.proofs.Spelling.CharacterText.{IsRaw, by_form}

abbrev printable : ℕ → Bool
printable c = is_within 32 126 c

abbrev pub IsPrintable : List ℕ → Type 0
IsPrintable text = list_all printable text ≡ true

-- the test is passed by each printable character, and so by their texts
abbrev pub ArePassing : (ℕ → Bool) → Type 0
ArePassing test = (c : ℕ) → is_within 32 126 c ≡ true → test c ≡ true

pub passes : (test : ℕ → Bool) → ArePassing test → (text : List ℕ) → IsPrintable text → list_all test text ≡ true
passes test h [] p = refl
passes test h (c ∷ text) p = let b = both (printable c) (list_all printable text) p in and_from _ _ (h c b.0) (passes test h text b.1)

pub printable-append : (u v : List ℕ) → IsPrintable u → IsPrintable v → IsPrintable (u ++ v)
printable-append u v p q = list_all-append printable u v ∙ and_from _ _ p q

printable_cons : (c : ℕ) (text : List ℕ) → printable c ≡ true → IsPrintable text → IsPrintable (c ∷ text)
printable_cons c text p q = and_from _ _ p q

digit_printable : (d : ℕ) → d < 16 → printable (hex_digit d) ≡ true
digit_printable d h = grind (arith, nat_tests)

rest_printable : (n : ℕ) → printable (hex_digit (n % 16)) ≡ true
rest_printable n = digit_printable (n % 16) (omega arith)

letter_printable : (c : ℕ) → printable (control_letter c) ≡ true
letter_printable c =
    let P : ℕ → Type 0 = λ letter. printable letter ≡ true in
    cond_both (c == 9) _ _ P (λ _. refl) (λ _. cond_both (c == 10) _ _ P (λ _. refl) (λ _. cond_both (c == 11) _ _ P (λ _. refl) (λ _. cond_both (c == 12) _ _ P (λ _. refl) (λ _. refl))))

hex_printable : (k n : ℕ) → IsPrintable (hex k n)
hex_printable zero n = refl
hex_printable (suc k) n =
    printable-append (cond (nat_lt n 16) [] (hex k (n / 16))) (hex_digit (n % 16) ∷ []) (cond_both (nat_lt n 16) _ _ IsPrintable (λ _. refl) (λ _. hex_printable k (n / 16)))
    (printable_cons (hex_digit (n % 16)) [] (rest_printable n) refl)

two_printable : (c : ℕ) → IsPrintable (two_digits c)
unfolding two_digits
two_printable c = printable_cons (hex_digit (c / 16 % 16)) (hex_digit (c % 16) ∷ []) (rest_printable (c / 16)) (printable_cons (hex_digit (c % 16)) [] (rest_printable c) refl)

four_printable : (c : ℕ) → IsPrintable (four_digits c)
unfolding four_digits
four_printable c =
    printable_cons (hex_digit (c / 4096 % 16)) (hex_digit (c / 256 % 16) ∷ hex_digit (c / 16 % 16) ∷ hex_digit (c % 16) ∷ []) (rest_printable (c / 4096)) (printable_cons (hex_digit (c / 256 % 16)) (hex_digit (c / 16 % 16) ∷ hex_digit (c % 16) ∷ []) (rest_printable (c / 256))
    (printable_cons (hex_digit (c / 16 % 16)) (hex_digit (c % 16) ∷ []) (rest_printable (c / 16)) (printable_cons (hex_digit (c % 16)) [] (rest_printable c) refl)))

braced_printable : (c : ℕ) → IsPrintable (in_braces_text c)
unfolding in_braces_text
braced_printable c = printable-append (hex 8 c) (125 ∷ []) (hex_printable 8 c) refl

decimal_digit_printable : (c : ℕ) → digit_value c < 10 → printable c ≡ true
decimal_digit_printable c h = let r = digit_from_value c h in grind (arith, nat_tests, r)

digits_are_printable : (ds : List ℕ) → AllDigits 10 ds → IsPrintable ds
digits_are_printable [] h = refl
digits_are_printable (d ∷ ds) h = printable_cons d ds (decimal_digit_printable d h.0) (digits_are_printable ds h.1)

pub decimal_printable : (n : ℕ) → n ≤ greatest_count → IsPrintable (decimal n)
decimal_printable n h = digits_are_printable (decimal n) (decimal_is_IsNumeral n (omega (arith, h))).0.1

-- digits between texts
numbered : (n : ℕ) (text : List ℕ) → n ≤ greatest_count → IsPrintable text → IsPrintable (decimal n ++ text)
numbered n text h p = printable-append (decimal n) text (decimal_printable n h) p

counts_are_printable : (min : ℕ) (max : Option ℕ) → min ≤ greatest_count → IsGreatest min max → IsPrintable (counts_text min max)
counts_are_printable min None h k = cond_both (min == 0) _ _ IsPrintable (λ _. refl) (λ _. cond_both (min == 1) _ _ IsPrintable (λ _. refl) (λ _. numbered min (44 ∷ 125 ∷ []) h refl))
counts_are_printable min (Some max) h k =
    cond_both (min == 0 && max == 1) _ _ IsPrintable (λ _. refl) (λ _. cond_both (min == max) _ _ IsPrintable (λ _. numbered min (125 ∷ []) h refl)
    (λ _. numbered min (44 ∷ (decimal max ++ (125 ∷ []))) h (numbered max (125 ∷ []) k.1 refl)))

lazy_printable : (greedy : Bool) → IsPrintable (lazy_text greedy)
lazy_printable true = refl
lazy_printable false = refl

pub quantifier_printable : (min : ℕ) (max : Option ℕ) (greedy : Bool) → min ≤ greatest_count → IsGreatest min max → IsPrintable (quantifier_text min max greedy)
quantifier_printable min max greedy h k = printable-append (counts_text min max) (lazy_text greedy) (counts_are_printable min max h k) (lazy_printable greedy)

pub boundary_printable : (kind : BoundaryAssertionKind) → IsPrintable (boundary_text kind)
boundary_printable boundaries.Start = refl
boundary_printable boundaries.End = refl
boundary_printable boundaries.Boundary = refl
boundary_printable boundaries.NegativeBoundary = refl
boundary_printable boundaries.StartBuffer = refl
boundary_printable boundaries.EndBuffer = refl
boundary_printable boundaries.EndBufferOptionalNewline = refl

pub class_escape_printable : (kind : CharacterClassEscapeKind) → IsPrintable (class_escape_text kind)
class_escape_printable D = refl
class_escape_printable NegativeD = refl
class_escape_printable S = refl
class_escape_printable NegativeS = refl
class_escape_printable W = refl
class_escape_printable NegativeW = refl

pub look_printable : (kind : LookAroundAssertionKind) → IsPrintable (look_text kind)
look_printable look.Lookahead = refl
look_printable look.NegativeLookahead = refl
look_printable look.Lookbehind = refl
look_printable look.NegativeLookbehind = refl

letters_are_printable : (bits : ℕ) → IsPrintable (letters bits)
unfolding letters
letters_are_printable bits =
    let n = bits % 8 in
    cond_both (n == 0) _ _ IsPrintable (λ _. refl) (λ _. cond_both (n == 1) _ _ IsPrintable (λ _. refl) (λ _. cond_both (n == 2) _ _ IsPrintable (λ _. refl)
    (λ _. cond_both (n == 3) _ _ IsPrintable (λ _. refl) (λ _. cond_both (n == 4) _ _ IsPrintable (λ _. refl) (λ _. cond_both (n == 5) _ _ IsPrintable (λ _. refl)
    (λ _. cond_both (n == 6) _ _ IsPrintable (λ _. refl) (λ _. refl)))))))

dash_printable : (bits : ℕ) → IsPrintable (dash bits)
dash_printable bits = cond_both (bits % 8 == 0) _ _ IsPrintable (λ _. refl) (λ _. refl)

pub modifiers_are_printable : (bits : ℕ × ℕ) → IsPrintable (opened_text (ignoring (Some bits)))
modifiers_are_printable bits =
    printable-append (letters bits.0 ++ (dash bits.1 ++ letters bits.1)) (58 ∷ [])
    (printable-append (letters bits.0) (dash bits.1 ++ letters bits.1) (letters_are_printable bits.0) (printable-append (dash bits.1) (letters bits.1) (dash_printable bits.1) (letters_are_printable bits.1))) refl

syntax_printable : (c : ℕ) → (is_syntax_character c || c == 47) ≡ true → printable c ≡ true
syntax_printable c h = grind (arith, nat_tests)

hyphen_printable : (c : ℕ) → (is_syntax_character c || c == 47 || c == 45) ≡ true → printable c ≡ true
hyphen_printable c h = grind (arith, nat_tests)

escaped_printable : (mode : Mode) (place : Place) (c : ℕ) → is_escaped mode place c ≡ true → printable c ≡ true
escaped_printable mode (outside after_reference) c h = syntax_printable c h
escaped_printable Legacy in_class c h = hyphen_printable c h
escaped_printable Unicode in_class c h = hyphen_printable c h
escaped_printable Sets in_class c h = grind (arith, nat_tests)

digit_is_printable : (c : ℕ) → is_decimal_digit c ≡ true → printable c ≡ true
digit_is_printable c h = grind (arith, nat_tests)

-- A character's text is of them, but where it stands for itself.
pub character_passes : (test : ℕ → Bool) → ArePassing test → (mode : Mode) (place : Place) (c : ℕ) → (IsRaw mode place c → test c ≡ true) → list_all test (character_text mode place c) ≡ true
character_passes test h mode place c raw =
    let by : (text : List ℕ) → IsPrintable text → list_all test text ≡ true = passes test h in
    by_form (λ text. list_all test text ≡ true) mode place c (by (92 ∷ control_letter c ∷ []) (printable_cons (control_letter c) [] (letter_printable c) refl)) (by (two_digits c) (two_printable c)) (by (four_digits c) (four_printable c))
    (by (in_braces_text c) (braced_printable c)) (λ escaped. by (92 ∷ c ∷ []) (printable_cons c [] (escaped_printable mode place c escaped) refl))
    (λ digit. by (92 ∷ 120 ∷ 51 ∷ c ∷ []) (printable_cons c [] (digit_is_printable c digit) refl)) (λ is. and_from _ _ (raw is) refl)
