use Rattle.std.proofs.Common.{length}
use Rattle.rx_units.specs.Quoted.Texts.{place_after_opening, Leads}
use Rattle.rx_units.proofs.quoted_text.reading.elements.Given as goal

abbrev pub invariant-loop-element : goal.invariant-loop-element
invariant-loop-element l = Leads l.literal l.options (place_after_opening l.options l.inner) (record { units = l.units; offset = l.offset; rest = l.rest })

abbrev pub decreases-loop-element : goal.decreases-loop-element
decreases-loop-element l = length l.rest
