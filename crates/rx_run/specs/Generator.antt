-- The patterns that the command `gen` makes, and what it writes.
use Rattle.std.specs.Prelude.{◌≡◌, ℕ, zero, suc, ◌+◌, ◌*◌, ◌/◌, ◌%◌, false, List, [], ◌∷◌, ◌++◌, length, slice_index_or, codes, encode_utf8_all}
use Rattle.std.specs.Fmt.{decimal}
use Rattle.std.specs.List.{AllZip, sum}
use Rattle.rx_ast.specs.declared.term.Pattern.{Pattern}
use Rattle.rx_ast.specs.Forget.{bare}
use Rattle.rx_model.specs.declared.mode.Mode.TheVariants.{Unicode}
use Rattle.rx_model.specs.Inputs.Inputs.{Input, literal_alone}
use Rattle.rx_model.specs.Reading.Headline.{IsReadAs}
use Rattle.rx_model.specs.Spelling.Spelling.{spelling}
use Rattle.rx_command.specs.Dialects.{both_rules}

-- what a draw makes of the state
abbrev pub next_state : ℕ → ℕ
next_state x = (1103515245 * x + 12345) % 2147483648

-- the number from 0 to 7 that a draw yields, by the state after it
abbrev pub draw_of : ℕ → ℕ
draw_of x = x / 65536 % 8

-- the texts of the pieces, in the order of their numbers
abbrev pub pieces : List (List ℕ)
pieces = codes "a" ∷ codes "\\x41" ∷ codes "[0-9_]+" ∷ codes "(?:b|c)*" ∷ codes "\\u{1F600}" ∷ codes "(d)" ∷ codes ".{2,3}?" ∷ codes "\\p{Lu}" ∷ []

abbrev pub piece : ℕ → List ℕ
piece number = slice_index_or pieces number []

-- n pieces after one another, each chosen by a draw
unfoldable pub pieces_text : ℕ → ℕ → List ℕ
pieces_text zero x = []
pieces_text (suc n) x = piece (draw_of (next_state x)) ++ pieces_text n (next_state x)

-- the state after n draws
unfoldable pub state_after : ℕ → ℕ → ℕ
state_after zero x = x
state_after (suc n) x = state_after n (next_state x)

-- how many pieces the next pattern has: one more than a draw
abbrev pub piece_count : ℕ → ℕ
piece_count x = 1 + draw_of (next_state x)

-- the next pattern, and the state after it
abbrev pub pattern_text : ℕ → List ℕ
pattern_text x = pieces_text (piece_count x) (next_state x)

abbrev pub state_after_pattern : ℕ → ℕ
state_after_pattern x = state_after (piece_count x) (next_state x)

-- n patterns, one after another
unfoldable pub patterns : ℕ → ℕ → List (List ℕ)
patterns zero x = []
patterns (suc n) x = pattern_text x ∷ patterns n (state_after_pattern x)

-- what is to be read: a literal by itself, under the flag `u`
abbrev pub unicode_literal : List ℕ → Input
unicode_literal text = literal_alone text Unicode both_rules false

-- some draws make this pattern
abbrev pub IsGenerated : List ℕ → Type 0
IsGenerated text = (x : ℕ) × (text ≡ pattern_text x)

-- The text is a pattern, whose canonical spelling has n bytes.
pub record IsSized (text : List ℕ) (size : ℕ) : Type 0 where
  pub pattern : Pattern
  pub read : IsReadAs (unicode_literal text) Unicode pattern
  pub size_is : size ≡ length (encode_utf8_all (spelling (bare pattern) Unicode))

-- The texts are patterns, whose canonical spellings have n bytes.
pub record AreSized (texts : List (List ℕ)) (bytes : ℕ) : Type 0 where
  pub sizes : List ℕ
  pub answered : AllZip IsSized texts sizes
  pub bytes_are : bytes ≡ sum sizes

-- The line says that each pattern is read.
abbrev pub gen_line : ℕ → ℕ → List ℕ
gen_line count bytes = codes "lines " ++ decimal count ++ codes " ok " ++ decimal count ++ codes " bytes " ++ decimal bytes ++ codes "\n"

-- The line that `gen` writes.
pub record IsGenOutput (seed count : ℕ) (line : List ℕ) : Type 0 where
  pub bytes : ℕ
  pub sized : AreSized (patterns count seed) bytes
  pub line_is : line ≡ gen_line count bytes
