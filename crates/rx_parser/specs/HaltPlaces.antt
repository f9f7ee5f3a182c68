-- The places that a halt names, in units from where the token was looked for: its span goes from its start to its end. A stop names the place where nothing more is read.
use Rattle.std.specs.Prelude.{ℕ, ◌+◌}
use Rattle.rx_parser.specs.declared.found.Halt.{Halt}
use Rattle.rx_parser.specs.declared.found.Halt.TheVariants as halt

-- the place of the first unit that a halt names
abbrev pub halt_start : Halt → ℕ
halt_start (halt.Stop following) = following
halt_start halt.LastBackslash = 0
halt_start (halt.OutOfOrder n) = 0
halt_start (halt.TooLarge n) = 0
halt_start (halt.TooManyDigits start many) = start
halt_start (halt.TooManyHexDigits start many) = start
halt_start (halt.InvalidEscape start n) = start
halt_start (halt.UnterminatedName n) = 2
halt_start (halt.MisplacedPair start) = start
halt_start halt.NoGroupName = 0
halt_start (halt.NoSuchGroup n) = 0
halt_start (halt.Modifiers fault n) = 2

-- the place after the last one
abbrev pub halt_end : Halt → ℕ
halt_end (halt.Stop following) = following
halt_end halt.LastBackslash = 1
halt_end (halt.OutOfOrder n) = n
halt_end (halt.TooLarge n) = n
halt_end (halt.TooManyDigits start many) = start + many
halt_end (halt.TooManyHexDigits start many) = start + many
halt_end (halt.InvalidEscape start n) = start + n
halt_end (halt.UnterminatedName n) = n + 3
halt_end (halt.MisplacedPair start) = start + 2
halt_end halt.NoGroupName = 2
halt_end (halt.NoSuchGroup n) = n
halt_end (halt.Modifiers fault n) = n + 2
