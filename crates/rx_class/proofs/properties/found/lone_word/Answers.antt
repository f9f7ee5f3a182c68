use Rattle.std.specs.Str.{chars}
use Rattle.rx_class.proofs.PropertyReading.Tables.{lone_strings}
use Rattle.rx_class.proofs.properties.found.lone_word.Goals as goal

pub returns-then-is_valid_lone_unicode_property_of_strings :
    goal.returns-then-is_valid_lone_unicode_property_of_strings
returns-then-is_valid_lone_unicode_property_of_strings c =
    lone_strings (chars c.args.word.now) (c.is_valid_lone_unicode_property_of_strings.ensures.0 c.if-is_valid_lone_unicode_property_of_strings.true)
