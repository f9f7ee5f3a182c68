-- No line separator and no paragraph separator is a character of identifiers.
use Rattle.std.proofs.Common.{◌≡◌, refl, false}
use Rattle.ucd_table.specs.Rows.{in_ranges}
use Rattle.ucd_derived.specs.Binary.{is_id_start, is_id_continue}
use Rattle.ucd_derived.specs.IdStartRanges.{id_start_ranges}
use Rattle.ucd_derived.specs.IdContinueRanges.{id_continue_ranges}
use Rattle.rx_tables.specs.Identifiers.{is_identifier_start_char, is_identifier_part_char}

pub line_separator_starts_none : is_identifier_start_char 0x2028 ≡ false
unfolding is_id_start in_ranges id_start_ranges
line_separator_starts_none = refl

pub paragraph_separator_starts_none : is_identifier_start_char 0x2029 ≡ false
unfolding is_id_start in_ranges id_start_ranges
paragraph_separator_starts_none = refl

pub line_separator_in_none : is_identifier_part_char 0x2028 ≡ false
unfolding is_id_continue in_ranges id_continue_ranges
line_separator_in_none = refl

pub paragraph_separator_in_none : is_identifier_part_char 0x2029 ≡ false
unfolding is_id_continue in_ranges id_continue_ranges
paragraph_separator_in_none = refl
