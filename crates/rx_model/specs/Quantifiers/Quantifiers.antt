-- What quantifiers spell (Quantifier, 22.2.1).
use Rattle.std.specs.Prelude.{◌≡◌, ℕ, ◌+◌, ◌-◌, ◌*◌, ◌^◌, ◌<◌, ◌≤◌, Bool, true, false, ◌==◌, List, [], ◌∷◌, ◌++◌, length, Option, Some, None, option_and_then, if◌then◌else◌, codes}
use Rattle.rx_base.specs.Ascii as ascii
use Rattle.rx_tables.specs.Characters.{is_decimal_digit}
use Rattle.rx_units.specs.declared.code_point.CodePoint.{CodePoint}
use Rattle.rx_units.specs.Units.{values}
use Rattle.rx_units.specs.Digits.{front_is}

abbrev pub decimal_digit_value : ℕ → Option ℕ
decimal_digit_value c = if is_decimal_digit c then Some (c - ascii.zero) else None

-- the number that decimal digits spell after a number, or none where one is no digit (MV of DecimalDigits, 12.9.3)
abbrev pub decimal_after : ℕ → List ℕ → Option ℕ
decimal_after n [] = Some n
decimal_after n (c ∷ cs) = option_and_then (λ d. decimal_after (10 * n + d) cs) (decimal_digit_value c)

-- DecimalDigits: one or more digits spell this number
pub record AreDigits (n : ℕ) (ds : List ℕ) : Type 0 where
  pub first : ℕ
  pub more : List ℕ
  pub some : ds ≡ first ∷ more
  pub number : decimal_after 0 ds ≡ Some n

-- A QuantifierPrefix in braces spells a least and a greatest number: `{n}`, `{n,}`, `{n,m}`.
pub data SpellsBraces : ℕ → Option ℕ → List ℕ → Type 0 where
  exactly : {n : ℕ} (ds : List ℕ) → AreDigits n ds → SpellsBraces n (Some n) (ascii.left_brace ∷ (ds ++ codes "}"))
  at_least : {n : ℕ} (ds : List ℕ) → AreDigits n ds → SpellsBraces n None (ascii.left_brace ∷ (ds ++ codes ",}"))
  between : {n m : ℕ} (ds es : List ℕ) → AreDigits n ds → AreDigits m es → SpellsBraces n (Some m) (ascii.left_brace ∷ (ds ++ (ascii.comma ∷ (es ++ codes "}"))))

-- QuantifierPrefix
pub data SpellsCounts : ℕ → Option ℕ → List ℕ → Type 0 where
  star : SpellsCounts 0 None (codes "*")
  plus : SpellsCounts 1 None (codes "+")
  optional : SpellsCounts 0 (Some 1) (codes "?")
  braces : {min : ℕ} {max : Option ℕ} {w : List ℕ} → SpellsBraces min max w → SpellsCounts min max w

-- a `?` after the prefix where the quantifier is not greedy
abbrev pub lazy_mark : Bool → List ℕ
lazy_mark true = []
lazy_mark false = codes "?"

abbrev pub is_question : ℕ → Bool
is_question c = c == ascii.question_mark

-- Quantifier: a prefix, and `?` where it is not greedy; where it is greedy no `?` follows.
pub record IsQuantifier (min : ℕ) (max : Option ℕ) (greedy : Bool) (w rest : List CodePoint) : Type 0 where
  pub prefix : List ℕ
  pub counts : SpellsCounts min max prefix
  pub whole : values w ≡ prefix ++ lazy_mark greedy
  pub alone : greedy ≡ true → front_is is_question (values rest) ≡ false

-- The text begins with a quantifier in braces.
pub record BeginsWithBraces (w : List ℕ) : Type 0 where
  pub min : ℕ
  pub max : Option ℕ
  pub prefix : List ℕ
  pub rest : List ℕ
  pub spelled : SpellsBraces min max prefix
  pub whole : w ≡ prefix ++ rest

-- The first of these digits that makes their number pass 64 bits is `next`, with this value.
pub record PassesDecimal (digits : List ℕ) (next : ℕ) : Type 0 where
  pub number : ℕ
  pub digit : ℕ
  pub number_is : decimal_after 0 digits ≡ Some number
  pub digit_is : decimal_digit_value next ≡ Some digit
  pub fits : number < 2 ^ 64
  pub passes : 2 ^ 64 ≤ 10 * number + digit

-- After a `{` the digits of the first number, or of a second after a comma, pass 64 bits, whether a `}` comes or not: the digits before the one
-- that does so stand from `start` on, and are n. A reader's limit: there is none in the standard.
-- Why: docs/DECISIONS.md, 18.
pub data PassesLimit : List ℕ → ℕ → ℕ → Type 0 where
  first : (digits : List ℕ) (next : ℕ) (rest : List ℕ) → PassesDecimal digits next → PassesLimit (ascii.left_brace ∷ (digits ++ (next ∷ rest))) 1 (length digits)
  second : {n : ℕ} (ds digits : List ℕ) (next : ℕ) (rest : List ℕ) → AreDigits n ds → n < 2 ^ 64 → PassesDecimal digits next
      → PassesLimit (ascii.left_brace ∷ (ds ++ (ascii.comma ∷ (digits ++ (next ∷ rest))))) (length ds + 2) (length digits)
