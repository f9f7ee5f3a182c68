-- The words of the command line, and what they ask for.
use Rattle.std.specs.Prelude.{◌≡◌, ◌≤◌, ◌<◌, ℕ, IsTrue, List, [], ◌∷◌, ◌++◌, length, codes}
use Rattle.std.specs.Str.{all_ascii_digits}
use Rattle.std.specs.Str.Parse.{digits_value}
use Rattle.rx_command.specs.declared.answer.Answering.{Answering}
use Rattle.rx_command.specs.declared.answer.Answering.TheVariants.{Canonical, Display, Support, Match, Steps, Paint, PaintColor, Lint, Rewrite}
use Rattle.rx_command.specs.declared.command.Command.{Command}
use Rattle.rx_command.specs.declared.command.Command.TheVariants.{Serve, Generate, Print, Json}
use Rattle.rx_command.specs.declared.dialect.Dialect.{Dialect}
use Rattle.rx_command.specs.declared.dialect.Dialect.TheVariants.{Default, Strict, Standard}
use Rattle.rx_command.specs.Constructs.{IsConstructList}
use Rattle.rx_command.specs.Features.{IsFeatureList}
use Rattle.rx_command.specs.Notices.{notice_word}
use Rattle.rx_rewrite.specs.declared.wanted.Wanted.TheVariants.{All, Listed}

-- The word is a decimal without sign, of at least one digit and so many at most.
pub record IsDecimal (longest : ℕ) (word : List ℕ) (n : ℕ) : Type 0 where
  pub digits : IsTrue (all_ascii_digits word)
  pub some : 1 ≤ length word
  pub within : length word ≤ longest
  pub value : n ≡ digits_value 10 word

-- The words are `gen SEED COUNT`.
pub record IsGen (words : List (List ℕ)) (seed count : ℕ) : Type 0 where
  pub seed_word : List ℕ
  pub count_word : List ℕ
  pub words_are : words ≡ codes "gen" ∷ seed_word ∷ count_word ∷ []
  pub seed_is : IsDecimal 10 seed_word seed
  pub count_is : IsDecimal 10 count_word count
  pub seed_within : seed < 2147483648
  pub some : 1 ≤ count
  pub count_within : count ≤ 20000

-- the word for the options, if there is one
abbrev pub dialect_words : Dialect → List (List ℕ)
dialect_words Default = []
dialect_words Strict = codes "strict" ∷ []
dialect_words Standard = codes "standard" ∷ []

-- the words that ask for what is said, without a word for the options
-- Why: docs/DECISIONS.md, 86.
abbrev pub IsAnswering : List (List ℕ) → Answering → Type 0
IsAnswering words Canonical = words ≡ []
IsAnswering words Display = words ≡ codes "display" ∷ []
IsAnswering words (Support features) = (list : List ℕ) × (words ≡ codes "support" ∷ list ∷ []) × IsFeatureList list features
IsAnswering words (Match budget text) = (word : List ℕ) × (words ≡ codes "match" ∷ word ∷ text ∷ []) × IsDecimal 10 word budget
IsAnswering words (Steps text most) = (word : List ℕ) × (words ≡ codes "steps" ∷ text ∷ word ∷ []) × IsDecimal 19 word most
IsAnswering words Paint = words ≡ codes "paint" ∷ []
IsAnswering words PaintColor = words ≡ codes "paint" ∷ codes "color" ∷ []
IsAnswering words Lint = words ≡ codes "lint" ∷ []
IsAnswering words (Rewrite All) = words ≡ codes "rewrite" ∷ []
IsAnswering words (Rewrite (Listed what)) = (list : List ℕ) × (words ≡ codes "rewrite" ∷ list ∷ []) × IsConstructList list what

-- The words with which lines are answered: the word for the options, if there is one, and those that ask for what is said.
pub record IsServing (words : List (List ℕ)) (dialect : Dialect) (answering : Answering) : Type 0 where
  pub rest : List (List ℕ)
  pub words_are : words ≡ dialect_words dialect ++ rest
  pub says : IsAnswering rest answering

-- the words of a command
abbrev pub IsCommand : List (List ℕ) → Command → Type 0
IsCommand words (Serve service) = IsServing words service.dialect service.answering
IsCommand words (Generate seed count) = IsGen words seed count
IsCommand words (Print notice) = words ≡ notice_word notice ∷ []
IsCommand words Json = words ≡ codes "json" ∷ []

-- the words are one of the stated lists
abbrev pub IsStated : List (List ℕ) → Type 0
IsStated words = (command : Command) × IsCommand words command
