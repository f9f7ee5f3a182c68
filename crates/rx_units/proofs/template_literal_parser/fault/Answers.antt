use Rattle.std.proofs.Common.{◌+◌, ◌^◌, ◌<◌, rules, sym, ap, ◌∙◌, arith}
use Rattle.rx_units.specs.declared.quoted_text.literal.Literal.TheVariants as literals
use Rattle.rx_units.specs.Quoted.Found.{seen_front}
use Rattle.rx_units.proofs.Quoted.Extents.{fault_fits}
use Rattle.rx_units.proofs.Quoted.Widths.{byte_split, taken}
use Rattle.rx_units.proofs.template_literal_parser.fault.Goals as goal

pub width-requires-clause-within : goal.width-requires-clause-within
width-requires-clause-within c =
    let t = taken literals.Template c.args.stop.now.rest.now c.in-Element-NotEscape-default.element c.in-Element-NotEscape-default.length (sym c.requires.found ∙ ap seen_front c.in-Element-NotEscape-default.is) in
    t.within

pub width-requires-clause-bytes : goal.width-requires-clause-bytes
width-requires-clause-bytes c = omega (arith, byte_split c.in-Element-NotEscape-default.length c.args.stop.now.rest.now, c.requires.fits)

pub overflow_add-start : goal.overflow_add-start
overflow_add-start c =
    let part = byte_split c.in-Element-NotEscape-default.length c.args.stop.now.rest.now in
    let small : c.args.stop.now.offset + c.width.result < 2 ^ 32 = omega (arith, part, c.requires.fits, c.width.ensures) in
    search (rules, small)

pub empty_span-requires : goal.empty_span-requires
empty_span-requires c = fault_fits literals.Template c.args.stop.now _ c.requires.found c.in-Closer.is c.requires.fits

pub empty_span-requires-in-Nothing : goal.empty_span-requires-in-Nothing
empty_span-requires-in-Nothing c = fault_fits literals.Template c.args.stop.now _ c.requires.found c.in-Nothing.is c.requires.fits

pub empty_span-requires-in-InvalidHex : goal.empty_span-requires-in-InvalidHex
empty_span-requires-in-InvalidHex c = fault_fits literals.Template c.args.stop.now _ c.requires.found c.in-InvalidHex.is c.requires.fits

pub span-requires : goal.span-requires
span-requires c = fault_fits literals.Template c.args.stop.now _ c.requires.found c.in-InvalidUnicode.is c.requires.fits

pub span-requires-in-TooLarge : goal.span-requires-in-TooLarge
span-requires-in-TooLarge c = fault_fits literals.Template c.args.stop.now _ c.requires.found c.in-TooLarge.is c.requires.fits
