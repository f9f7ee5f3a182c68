-- The options that requests are read with, by the word for them.
use Rattle.std.specs.Prelude.{Bool, true, false}
use Rattle.rx_model.specs.declared.rules.Rules.{Rules}
use Rattle.rx_command.specs.declared.dialect.Dialect.{Dialect}
use Rattle.rx_command.specs.declared.dialect.Dialect.TheVariants.{Default, Strict, Standard}

-- both rules, and neither
abbrev pub both_rules : Rules
both_rules = record { duplicate_names = true; buffer_boundaries = true }

abbrev pub neither_rule : Rules
neither_rule = record { duplicate_names = false; buffer_boundaries = false }

-- the rules that requests are read under
abbrev pub rules_for : Dialect → Rules
rules_for Default = both_rules
rules_for Strict = neither_rule
rules_for Standard = both_rules

-- whether the arguments of RegExp are read as the standard has them
abbrev pub is_standard : Dialect → Bool
is_standard Default = false
is_standard Strict = false
is_standard Standard = true
