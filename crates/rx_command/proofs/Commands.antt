-- Words of the command line.
use Rattle.std.proofs.Common.{◌≡◌, ◌∙◌, ◌↔◌, ◌<◌, ◌≤◌, ◌^◌, refl, sym, ap, subst, ℕ, ◌+◌, Bool, true, false, ◌&&◌, ◌==◌, List, [], ◌∷◌, ◌++◌, length, get_or, codes, Option, Some, None, Result, Ok, Err, if◌then◌else◌, eqb, arith}
use lib.Pointwise.{pointwise}
use Rattle.std.specs.Char.{is_ascii_digit}
use Rattle.std.specs.List.{list_all}
use Rattle.std.specs.Option.{MatchOption}
use Rattle.std.specs.Result.{OkIff, result_ok}
use Rattle.std.specs.Str.{all_ascii_digits, chars, IsUtf8}
use Rattle.std.specs.Str.Parse.{ParsesUnsigned, digits_value}
use Rattle.std.proofs.lemmas.Bool.{false≢true}
use Rattle.std.proofs.lemmas.Fmt.{IsAscii-from_digits}
use Rattle.std.proofs.lemmas.Str.{chars-IsAscii, encodes-chars, encodes-IsAscii}
use Rattle.std.proofs.lemmas.Str.Parse.{IsNumeralModel, numerals_by_value, tells_all_ascii_digits, digits_value_short, parse_digits}
use Rattle.rx_command.specs.declared.answer.Answering.{Answering}
use Rattle.rx_command.specs.declared.answer.Answering.TheVariants.{Canonical, Display, Support, Match, Steps, Paint, PaintColor, Lint, Rewrite}
use Rattle.rx_command.specs.declared.command.Command.{Command}
use Rattle.rx_command.specs.declared.command.Command.TheVariants.{Serve, Generate, Print, Json}
use Rattle.rx_command.specs.declared.dialect.Dialect.{Dialect}
use Rattle.rx_command.specs.declared.dialect.Dialect.TheVariants.{Default, Strict, Standard}
use Rattle.rx_command.specs.declared.features.Features.{Features}
use Rattle.rx_command.specs.declared.notice.Notice.{Notice}
use Rattle.rx_command.specs.declared.notice.Notice.TheVariants.{Help, Version}
use Rattle.rx_command.specs.declared.service.Service.{Service}
use Rattle.rx_command.specs.Command.{IsAnswering, IsCommand, IsDecimal, IsServing, dialect_words}
use Rattle.rx_command.specs.Constructs.{IsConstructList}
use Rattle.rx_command.specs.Features.{IsFeatureList}
use Rattle.rx_command.specs.Notices.{notice_word}
use Rattle.rx_command.proofs.ConstructLists.{constructs_once}
use Rattle.rx_command.proofs.FeatureLists.{features_once}
use Rattle.rx_rewrite.specs.declared.rewrites.Rewrites.{Rewrites}
use Rattle.rx_rewrite.specs.declared.wanted.Wanted.{Wanted}
use Rattle.rx_rewrite.specs.declared.wanted.Wanted.TheVariants.{All, Listed}

pub digits_model : IsNumeralModel (λ ds. all_ascii_digits ds ≡ true) (digits_value 10)
digits_model = numerals_by_value (λ ds. all_ascii_digits ds ≡ true) tells_all_ascii_digits

-- digits are their own bytes
pub digit_bytes : (bytes : List ℕ) → IsUtf8 bytes → all_ascii_digits (chars bytes) ≡ true → chars bytes ≡ bytes
digit_bytes bytes text digits =
    sym (encodes-IsAscii (chars bytes) (IsAscii-from_digits (chars bytes) (digits_model.to (chars bytes) digits))) ∙ encodes-chars bytes text

pub digit_chars : (bytes : List ℕ) → all_ascii_digits bytes ≡ true → chars bytes ≡ bytes
digit_chars bytes digits = chars-IsAscii bytes (IsAscii-from_digits bytes (digits_model.to bytes digits))

-- the test of each byte is the test of the word
digits_all : (bytes : List ℕ) → list_all is_ascii_digit bytes ≡ all_ascii_digits bytes
digits_all [] = refl
digits_all (b ∷ bytes) = ap (λ (rest : Bool). is_ascii_digit b && rest) (digits_all bytes)

pub long_is_none : (longest : ℕ) (bytes : List ℕ) → IsUtf8 bytes → longest < length bytes → (n : ℕ) → ¬ IsDecimal longest (chars bytes) n
long_is_none longest bytes text long n is =
    let short : length (chars bytes) ≤ longest = is.within in
    omega (arith, ap length (digit_bytes bytes text is.digits))

pub other_is_none : (longest : ℕ) (bytes : List ℕ) → IsUtf8 bytes → list_all is_ascii_digit bytes ≡ false → (n : ℕ) → ¬ IsDecimal longest (chars bytes) n
other_is_none longest bytes text other n is =
    false≢true (sym other ∙ digits_all bytes ∙ ap all_ascii_digits (sym (digit_bytes bytes text is.digits)) ∙ is.digits)

-- what is parsed of digits is their value, where there are some
pub digits_parsed : {E : Type 0} (longest : ℕ) (bytes : List ℕ) (r : Result ℕ E) → longest ≤ 19 → list_all is_ascii_digit bytes ≡ true → length bytes ≤ longest → ParsesUnsigned 64 10 bytes r
    → MatchOption (result_ok r) ((n : ℕ) → ¬ IsDecimal longest (chars bytes) n) (λ n. IsDecimal longest (chars bytes) n)
digits_parsed {E = E} longest bytes r fits all short parses = go r (parse_digits digits_model 64 bytes r parses digits)
  where
    digits : all_ascii_digits bytes ≡ true
    digits = sym (digits_all bytes) ∙ all

    go : (r : Result ℕ E) → OkIff r ((0 < length bytes) × (digits_value 10 bytes < 2 ^ 64)) (digits_value 10 bytes) → MatchOption (result_ok r) ((n : ℕ) → ¬ IsDecimal longest (chars bytes) n) (λ n. IsDecimal longest (chars bytes) n)
    go (Ok n) h = subst (λ word. IsDecimal longest word n) (sym (digit_chars bytes digits)) (record { digits = digits; some = omega (arith, h.0.0); within = short; value = h.1 })
    go (Err e) h = λ n is.
        let some : 1 ≤ length (chars bytes) = is.some in
        let most : length bytes ≤ 19 = omega arith in
        h (omega (arith, ap length (digit_chars bytes digits)), omega (arith, digits_value_short digits_model bytes 19 digits most))

-- ---- the word for the options

-- Words that ask for what is said do not begin with a word for the options.
begins_otherwise : (rest more : List (List ℕ)) (word : List ℕ) (answering : Answering) (dialect : Dialect) → IsAnswering rest answering → rest ≡ word ∷ more → dialect_words dialect ≡ word ∷ [] → ⊥
begins_otherwise rest more word answering Default is e named = cc
begins_otherwise rest more word Canonical Strict is e named = cc
begins_otherwise rest more word Canonical Standard is e named = cc
begins_otherwise rest more word Display Strict is e named = let no : codes "strict" ≡ codes "display" = cc in cc no
begins_otherwise rest more word Display Standard is e named = let no : codes "standard" ≡ codes "display" = cc in cc no
begins_otherwise rest more word (Support features) Strict is e named = let words = is.1 in let no : codes "strict" ≡ codes "support" = cc in cc no
begins_otherwise rest more word (Support features) Standard is e named = let words = is.1 in let no : codes "standard" ≡ codes "support" = cc in cc no
begins_otherwise rest more word (Match budget text) Strict is e named = let words = is.1 in let no : codes "strict" ≡ codes "match" = cc in cc no
begins_otherwise rest more word (Match budget text) Standard is e named = let words = is.1 in let no : codes "standard" ≡ codes "match" = cc in cc no
begins_otherwise rest more word (Steps text most) Strict is e named = let words = is.1 in let no : codes "strict" ≡ codes "steps" = cc in cc no
begins_otherwise rest more word (Steps text most) Standard is e named = let words = is.1 in let no : codes "standard" ≡ codes "steps" = cc in cc no
begins_otherwise rest more word Paint Strict is e named = let no : codes "strict" ≡ codes "paint" = cc in cc no
begins_otherwise rest more word Paint Standard is e named = let no : codes "standard" ≡ codes "paint" = cc in cc no
begins_otherwise rest more word PaintColor Strict is e named = let no : codes "strict" ≡ codes "paint" = cc in cc no
begins_otherwise rest more word PaintColor Standard is e named = let no : codes "standard" ≡ codes "paint" = cc in cc no
begins_otherwise rest more word Lint Strict is e named = let no : codes "strict" ≡ codes "lint" = cc in cc no
begins_otherwise rest more word Lint Standard is e named = let no : codes "standard" ≡ codes "lint" = cc in cc no
begins_otherwise rest more word (Rewrite All) Strict is e named = let no : codes "strict" ≡ codes "rewrite" = cc in cc no
begins_otherwise rest more word (Rewrite All) Standard is e named = let no : codes "standard" ≡ codes "rewrite" = cc in cc no
begins_otherwise rest more word (Rewrite (Listed what)) Strict is e named = let words = is.1 in let no : codes "strict" ≡ codes "rewrite" = cc in cc no
begins_otherwise rest more word (Rewrite (Listed what)) Standard is e named = let words = is.1 in let no : codes "standard" ≡ codes "rewrite" = cc in cc no

one_dialect : (words rest more : List (List ℕ)) (word : List ℕ) (dialect dialect' : Dialect) (answering : Answering) → words ≡ word ∷ more → dialect_words dialect' ≡ word ∷ [] → words ≡ dialect_words dialect ++ rest
    → IsAnswering rest answering → (dialect ≡ dialect') × (rest ≡ more)
one_dialect words rest more word Default dialect' answering first named e is = absurd (begins_otherwise rest more word answering dialect' is (cc) named)
one_dialect words rest more word Strict Default answering first named e is = cc
one_dialect words rest more word Strict Strict answering first named e is = (refl, cc)
one_dialect words rest more word Strict Standard answering first named e is = let no : codes "strict" ≡ codes "standard" = cc in cc no
one_dialect words rest more word Standard Default answering first named e is = cc
one_dialect words rest more word Standard Strict answering first named e is = let no : codes "strict" ≡ codes "standard" = cc in cc no
one_dialect words rest more word Standard Standard answering first named e is = (refl, cc)

-- words that begin with a word for the options
pub split_after : (words more : List (List ℕ)) (word : List ℕ) (dialect' : Dialect) → words ≡ word ∷ more → dialect_words dialect' ≡ word ∷ []
    → (dialect : Dialect) (answering : Answering) → IsServing words dialect answering ↔ ((dialect ≡ dialect') × IsAnswering more answering)
split_after words more word dialect' first named dialect answering = (
  λ is.
      let one = one_dialect words is.rest more word dialect dialect' answering first named is.words_are is.says in
      (one.0, subst (λ ws. IsAnswering ws answering) one.1 is.says),
  λ both. record {
    rest = more;
    words_are = first ∙ ap (λ (ws : List (List ℕ)). ws ++ more) (sym named) ∙ ap (λ d. dialect_words d ++ more) (sym both.0);
    says = both.1;
  },
)

-- words that do not
pub split_none : (words : List (List ℕ)) → ((word : List ℕ) (more : List (List ℕ)) (dialect : Dialect) → words ≡ word ∷ more → ¬ (dialect_words dialect ≡ word ∷ []))
    → (dialect : Dialect) (answering : Answering) → IsServing words dialect answering ↔ ((dialect ≡ Default) × IsAnswering words answering)
split_none words none dialect answering = (
  λ is. by dialect is,
  λ both. record { rest = words; words_are = sym (ap (λ d. dialect_words d ++ words) both.0); says = both.1 },
)
  where
    by : (dialect : Dialect) → IsServing words dialect answering → (dialect ≡ Default) × IsAnswering words answering
    by Default is = (refl, subst (λ ws. IsAnswering ws answering) (sym is.words_are) is.says)
    by Strict is = absurd (none (codes "strict") is.rest Strict is.words_are refl)
    by Standard is = absurd (none (codes "standard") is.rest Standard is.words_are refl)

-- ---- words that mean nothing

pub match_not_steps : codes "match" ≡ codes "steps" → ⊥
match_not_steps same = false≢true (sym (ap (λ (text : List ℕ). get_or text 0 0 == 109) same))

pub paint_not_support : codes "paint" ≡ codes "support" → ⊥
paint_not_support same = false≢true (sym (ap (λ (text : List ℕ). get_or text 0 0 == 112) same))

pub paint_not_rewrite : codes "paint" ≡ codes "rewrite" → ⊥
paint_not_rewrite same = false≢true (sym (ap (λ (text : List ℕ). get_or text 0 0 == 112) same))

pub support_not_rewrite : codes "support" ≡ codes "rewrite" → ⊥
support_not_rewrite same = false≢true (sym (ap (λ (text : List ℕ). get_or text 0 0 == 115) same))

pub no_dialect : (word : List ℕ) → ¬ (word ≡ codes "strict") → ¬ (word ≡ codes "standard") → (dialect : Dialect) → ¬ (dialect_words dialect ≡ word ∷ [])
no_dialect word strict standard Default is = cc
no_dialect word strict standard Strict is = strict (cc)
no_dialect word strict standard Standard is = standard (cc)

pub no_notice : (word : List ℕ) → ¬ (word ≡ codes "--help") → ¬ (word ≡ codes "--version") → (notice : Notice) → ¬ (word ≡ notice_word notice)
no_notice word help version Help is = help is
no_notice word help version Version is = version is

pub one_says_nothing : (word : List ℕ) → ¬ (word ≡ codes "display") → ¬ (word ≡ codes "paint") → ¬ (word ≡ codes "lint") → ¬ (word ≡ codes "rewrite")
    → (answering : Answering) → ¬ IsAnswering (word ∷ []) answering
one_says_nothing word display paint lint rewrite Canonical is = cc
one_says_nothing word display paint lint rewrite Display is = display (cc)
one_says_nothing word display paint lint rewrite (Support features) is = let two = is.1 in cc
one_says_nothing word display paint lint rewrite (Match budget text) is = let three = is.1 in cc
one_says_nothing word display paint lint rewrite (Steps text most) is = let three = is.1 in cc
one_says_nothing word display paint lint rewrite Paint is = paint (cc)
one_says_nothing word display paint lint rewrite PaintColor is = cc
one_says_nothing word display paint lint rewrite Lint is = lint (cc)
one_says_nothing word display paint lint rewrite (Rewrite All) is = rewrite (cc)
one_says_nothing word display paint lint rewrite (Rewrite (Listed what)) is = let two = is.1 in cc

-- what two words would have to be to say something
pub record SayNothing (name second : List ℕ) : Type 0 where
  pub no_features : (features : Features) → name ≡ codes "support" → ¬ IsFeatureList second features
  pub no_constructs : (what : Rewrites) → name ≡ codes "rewrite" → ¬ IsConstructList second what
  pub no_color : name ≡ codes "paint" → ¬ (second ≡ codes "color")

pub two_say_nothing : (name second : List ℕ) → SayNothing name second → (answering : Answering) → ¬ IsAnswering (name ∷ second ∷ []) answering
two_say_nothing name second none Canonical is = cc
two_say_nothing name second none Display is = cc
two_say_nothing name second none (Support features) is =
    let words = is.1 in
    let lists : is.0 ≡ second = cc in
    none.no_features features (cc) (subst (λ word. IsFeatureList word features) lists is.2)
two_say_nothing name second none (Match budget text) is = let three = is.1 in cc
two_say_nothing name second none (Steps text most) is = let three = is.1 in cc
two_say_nothing name second none Paint is = cc
two_say_nothing name second none PaintColor is = none.no_color (cc) (cc)
two_say_nothing name second none Lint is = cc
two_say_nothing name second none (Rewrite All) is = cc
two_say_nothing name second none (Rewrite (Listed what)) is =
    let words = is.1 in
    let lists : is.0 ≡ second = cc in
    none.no_constructs what (cc) (subst (λ word. IsConstructList word what) lists is.2)

-- what is said with `paint` and a word, by the bytes of the word
pub said_with_paint : (name second bytes : List ℕ) (r : Option Answering) → name ≡ codes "paint" → (bytes ≡ codes "color" → second ≡ codes "color") → (second ≡ codes "color" → bytes ≡ codes "color")
    → MatchOption r (¬ (bytes ≡ codes "color")) (λ answering. (bytes ≡ codes "color") × (answering ≡ PaintColor))
    → MatchOption r ((answering : Answering) → ¬ IsAnswering (name ∷ second ∷ []) answering) (λ answering. IsAnswering (name ∷ second ∷ []) answering)
said_with_paint name second bytes None is to from none = two_say_nothing name second (record {
  no_features = λ features support list. paint_not_support (sym is ∙ support);
  no_constructs = λ what rewrite list. paint_not_rewrite (sym is ∙ rewrite);
  no_color = λ paint color. none (from color);
})
said_with_paint name second bytes (Some answering) is to from some =
    subst (λ a. IsAnswering (name ∷ second ∷ []) a) (sym some.1) (ap (λ (n : List ℕ). n ∷ second ∷ []) is ∙ ap (λ (word : List ℕ). codes "paint" ∷ word ∷ []) (to some.0))

pub three_say_nothing : (name first second : List ℕ) → ((budget : ℕ) → name ≡ codes "match" → ¬ IsDecimal 10 first budget) → ((most : ℕ) → name ≡ codes "steps" → ¬ IsDecimal 19 second most)
    → (answering : Answering) → ¬ IsAnswering (name ∷ first ∷ second ∷ []) answering
three_say_nothing name first second no_match no_steps Canonical is = cc
three_say_nothing name first second no_match no_steps Display is = cc
three_say_nothing name first second no_match no_steps (Support features) is = let two = is.1 in cc
three_say_nothing name first second no_match no_steps (Match budget text) is =
    let words = is.1 in
    let numbers : is.0 ≡ first = cc in
    no_match budget (cc) (subst (λ word. IsDecimal 10 word budget) numbers is.2)
three_say_nothing name first second no_match no_steps (Steps text most) is =
    let words = is.1 in
    let numbers : is.0 ≡ second = cc in
    no_steps most (cc) (subst (λ word. IsDecimal 19 word most) numbers is.2)
three_say_nothing name first second no_match no_steps Paint is = cc
three_say_nothing name first second no_match no_steps PaintColor is = cc
three_say_nothing name first second no_match no_steps Lint is = cc
three_say_nothing name first second no_match no_steps (Rewrite All) is = cc
three_say_nothing name first second no_match no_steps (Rewrite (Listed what)) is = let two = is.1 in cc

pub more_say_nothing : (words : List (List ℕ)) → 3 < length words → (answering : Answering) → ¬ IsAnswering words answering
more_say_nothing words more Canonical is = omega (arith, ap length is)
more_say_nothing words more Display is = omega (arith, ap length is)
more_say_nothing words more (Support features) is = omega (arith, ap length is.1)
more_say_nothing words more (Match budget text) is = omega (arith, ap length is.1)
more_say_nothing words more (Steps text most) is = omega (arith, ap length is.1)
more_say_nothing words more Paint is = omega (arith, ap length is)
more_say_nothing words more PaintColor is = omega (arith, ap length is)
more_say_nothing words more Lint is = omega (arith, ap length is)
more_say_nothing words more (Rewrite All) is = omega (arith, ap length is)
more_say_nothing words more (Rewrite (Listed what)) is = omega (arith, ap length is.1)

-- lists of words that begin with another letter
other_letter : (words other : List (List ℕ)) → words ≡ codes "json" ∷ [] → words ≡ other → (get_or (get_or other 0 []) 0 0 == 106) ≡ false → ⊥
other_letter words other json is differs = false≢true (sym differs ∙ ap (λ (ws : List (List ℕ)). get_or (get_or ws 0 []) 0 0 == 106) (sym is ∙ json))

json_says_nothing : (rest : List (List ℕ)) (answering : Answering) → IsAnswering rest answering → rest ≡ codes "json" ∷ [] → ⊥
json_says_nothing rest Canonical is json = other_letter rest _ json is refl
json_says_nothing rest Display is json = other_letter rest _ json is refl
json_says_nothing rest (Support features) is json = other_letter rest _ json is.1 refl
json_says_nothing rest (Match budget text) is json = other_letter rest _ json is.1 refl
json_says_nothing rest (Steps text most) is json = other_letter rest _ json is.1 refl
json_says_nothing rest Paint is json = other_letter rest _ json is refl
json_says_nothing rest PaintColor is json = other_letter rest _ json is refl
json_says_nothing rest Lint is json = other_letter rest _ json is refl
json_says_nothing rest (Rewrite All) is json = other_letter rest _ json is refl
json_says_nothing rest (Rewrite (Listed what)) is json = other_letter rest _ json is.1 refl

json_is_served_by_none : (words : List (List ℕ)) (dialect : Dialect) (answering : Answering) → words ≡ codes "json" ∷ [] → IsServing words dialect answering → ⊥
json_is_served_by_none words Default answering json is = json_says_nothing is.rest answering is.says (sym is.words_are ∙ json)
json_is_served_by_none words Strict answering json is = other_letter words _ json is.words_are refl
json_is_served_by_none words Standard answering json is = other_letter words _ json is.words_are refl

-- No other command has the word `json`.
pub json_alone : (words : List (List ℕ)) (command : Command) → words ≡ codes "json" ∷ [] → IsCommand words command → command ≡ Json
json_alone words (Serve service) json is = absurd (json_is_served_by_none words service.dialect service.answering json is)
json_alone words (Generate seed count) json is = absurd (other_letter words _ json is.words_are refl)
json_alone words (Print Help) json is = absurd (other_letter words _ json is refl)
json_alone words (Print Version) json is = absurd (other_letter words _ json is refl)
json_alone words Json json is = refl

-- ---- words have one meaning

number_once : (longest : ℕ) (word word' : List ℕ) (n n' : ℕ) → word ≡ word' → IsDecimal longest word n → IsDecimal longest word' n' → n ≡ n'
number_once longest word word' n n' same is is' = is.value ∙ ap (digits_value 10) same ∙ sym is'.value

-- a number for the words that ask for each thing that is said
abbrev word_number : List (List ℕ) → ℕ
word_number [] = 0
word_number (word ∷ words) =
    if pointwise eqb word (codes "display") then 1 else if pointwise eqb word (codes "support") then 2 else if pointwise eqb word (codes "match") then 3
    else if pointwise eqb word (codes "steps") then 4 else if pointwise eqb word (codes "lint") then 5 else if pointwise eqb word (codes "paint") then 6 + length words
    else 8 + length words

abbrev wanted_number : Wanted → ℕ
wanted_number All = 0
wanted_number (Listed what) = 1

abbrev answering_number : Answering → ℕ
answering_number Canonical = 0
answering_number Display = 1
answering_number (Support features) = 2
answering_number (Match budget text) = 3
answering_number (Steps text most) = 4
answering_number Lint = 5
answering_number Paint = 6
answering_number PaintColor = 7
answering_number (Rewrite wanted) = 8 + wanted_number wanted

numbered : (words : List (List ℕ)) (answering : Answering) → IsAnswering words answering → word_number words ≡ answering_number answering
numbered words Canonical is = ap word_number is
numbered words Display is = ap word_number is
numbered words (Support features) is = ap word_number is.1
numbered words (Match budget text) is = ap word_number is.1
numbered words (Steps text most) is = ap word_number is.1
numbered words Paint is = ap word_number is
numbered words PaintColor is = ap word_number is
numbered words Lint is = ap word_number is
numbered words (Rewrite All) is = ap word_number is
numbered words (Rewrite (Listed what)) is = ap word_number is.1

answering_once : (words : List (List ℕ)) (one other : Answering) → IsAnswering words one → IsAnswering words other → one ≡ other
answering_once words one other is is' = by one other (sym (numbered words one is) ∙ numbered words other is') is is'
  where
    by : (one other : Answering) → answering_number one ≡ answering_number other → IsAnswering words one → IsAnswering words other → one ≡ other
    by Canonical Canonical same is is' = refl
    by Display Display same is is' = refl
    by Paint Paint same is is' = refl
    by PaintColor PaintColor same is is' = refl
    by Lint Lint same is is' = refl
    by (Rewrite All) (Rewrite All) same is is' = refl
    by (Rewrite (Listed what)) (Rewrite (Listed what')) same is is' =
        let words_same = sym is.1 ∙ is'.1 in
        let lists : is.0 ≡ is'.0 = cc in
        ap (λ listed. Rewrite (Listed listed)) (constructs_once is'.0 what what' (subst (λ word. IsConstructList word what) lists is.2) is'.2)
    by (Support features) (Support features') same is is' =
        let words_same = sym is.1 ∙ is'.1 in
        let lists : is.0 ≡ is'.0 = cc in
        ap Support (features_once is'.0 features features' (subst (λ word. IsFeatureList word features) lists is.2) is'.2)
    by (Match budget text) (Match budget' text') same is is' =
        let words_same = sym is.1 ∙ is'.1 in
        let numbers : is.0 ≡ is'.0 = cc in
        let texts : text ≡ text' = cc in
        ap (λ n. Match n text) (number_once 10 is.0 is'.0 budget budget' numbers is.2 is'.2) ∙ ap (λ t. Match budget' t) texts
    by (Steps text most) (Steps text' most') same is is' =
        let words_same = sym is.1 ∙ is'.1 in
        let numbers : is.0 ≡ is'.0 = cc in
        let texts : text ≡ text' = cc in
        ap (λ n. Steps text n) (number_once 19 is.0 is'.0 most most' numbers is.2 is'.2) ∙ ap (λ t. Steps t most') texts
    by one other same is is' = absurd (omega (arith, same))

serving_once : (words : List (List ℕ)) (one other : Dialect) (answering answering' : Answering) → IsServing words one answering → IsServing words other answering' → (one ≡ other) × (answering ≡ answering')
serving_once words Default Default answering answering' is is' =
    (refl, answering_once words answering answering' (subst (λ ws. IsAnswering ws answering) (sym is.words_are) is.says) (subst (λ ws. IsAnswering ws answering') (sym is'.words_are) is'.says))
serving_once words Default Strict answering answering' is is' = absurd (begins_otherwise is.rest is'.rest (codes "strict") answering Strict is.says (sym is.words_are ∙ is'.words_are) refl)
serving_once words Default Standard answering answering' is is' = absurd (begins_otherwise is.rest is'.rest (codes "standard") answering Standard is.says (sym is.words_are ∙ is'.words_are) refl)
serving_once words Strict other answering answering' is is' =
    let both = (split_after words is.rest (codes "strict") Strict is.words_are refl other answering').0 is' in
    (sym both.0, answering_once is.rest answering answering' is.says both.1)
serving_once words Standard other answering answering' is is' =
    let both = (split_after words is.rest (codes "standard") Standard is.words_are refl other answering').0 is' in
    (sym both.0, answering_once is.rest answering answering' is.says both.1)

pub service_once : (words : List (List ℕ)) (one other : Service) → IsServing words one.dialect one.answering → IsServing words other.dialect other.answering → one ≡ other
service_once words one other is is' =
    let same = serving_once words one.dialect other.dialect one.answering other.answering is is' in
    let of : Dialect → Answering → Service = λ dialect answering. record { dialect = dialect; answering = answering } in
    ap (λ dialect. of dialect one.answering) same.0 ∙ ap (λ answering. of other.dialect answering) same.1
