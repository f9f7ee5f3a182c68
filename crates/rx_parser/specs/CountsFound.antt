-- What the functions that look for counts answer, by what the definitions read there (QuantifierPrefix, 22.2.1).
use Rattle.std.specs.Prelude.{ℕ, List, drop}
use Rattle.rx_units.specs.declared.code_point.CodePoint.{CodePoint}
use Rattle.rx_units.specs.Units.{values}
use Rattle.rx_model.specs.Quantifiers.CountsReading.{DigitsRead, fitting, passing, CountsRead, counts_read, no_counts_read, many_digits}
use Rattle.rx_parser.specs.declared.counts.DigitsFound.{DigitsFound}
use Rattle.rx_parser.specs.declared.counts.DigitsFound.TheVariants as digits_found
use Rattle.rx_parser.specs.declared.counts.CountsFound.{CountsFound}
use Rattle.rx_parser.specs.declared.counts.CountsFound.TheVariants as found

-- an answer on the digits that these units begin with
abbrev pub seen_digits : List CodePoint → DigitsFound → DigitsRead
seen_digits us (digits_found.Digits value count) = fitting value count (values (drop count us))
seen_digits us (digits_found.TooMany count) = passing count

-- how many digits an answer counts
abbrev pub digits_counted : DigitsFound → ℕ
digits_counted (digits_found.Digits value count) = count
digits_counted (digits_found.TooMany count) = count

-- an answer on a quantifier's prefix
abbrev pub seen_counts : CountsFound → CountsRead
seen_counts (found.Counts min max n) = counts_read min max n
seen_counts found.Nothing = no_counts_read
seen_counts (found.TooMany start count) = many_digits start count
