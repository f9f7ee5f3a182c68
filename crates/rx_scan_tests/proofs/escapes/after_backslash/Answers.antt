use Rattle.std.proofs.Common.{refl}
use Rattle.rx_class.proofs.TextFits.{moved_on_are_fitting}
use Rattle.rx_scan_tests.proofs.escapes.after_backslash.Goals as goal

pub returns-clause-fits : goal.returns-clause-fits
returns-clause-fits c = moved_on_are_fitting c.args.unicode_mode c.args.text.now c.args.spans.now 1 c.in_ok-reader.reader c.eat.new.self c.utf8.text c.requires (c.in_ok-reader.ensures.literal refl) c.if-not-eat.ensures.reader
