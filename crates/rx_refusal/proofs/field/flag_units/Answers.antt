use Rattle.std.proofs.Common.{◌≡◌, refl, subst, true, false}
use Rattle.std.specs.Str.{chars}
use Rattle.rx_parser.specs.Texts.{GivesUnits}
use Rattle.rx_parser.proofs.ReadTexts.{literal_read, quoted_read}
use Rattle.rx_refusal.proofs.field.flag_units.Goals as goal

pub returns-in-Literal : goal.returns-in-Literal
returns-in-Literal c =
    literal_read c.args.input.now.options.standard_strings true (chars c.args.flags.now) c.args.flags.now c.args.input.now.form c.initialize.result c.in-Literal.is (c.initialize.ensures.literal refl)

pub returns-in-Constructor : goal.returns-in-Constructor
returns-in-Constructor c =
    let is : true ≡ c.args.input.now.options.standard_strings = cc (c.if-input.true) in
    let text = chars c.args.flags.now in
    subst (λ standard. GivesUnits standard true text c.args.input.now.form c.initialize_standard.result) is
    (quoted_read true true text c.args.flags.now c.args.input.now.form c.initialize_standard.result c.in-Constructor.is c.initialize_standard.ensures.quoted)

pub returns-in-Constructor-2 : goal.returns-in-Constructor-2
returns-in-Constructor-2 c =
    let is : false ≡ c.args.input.now.options.standard_strings = cc (c.if-input.false) in
    let text = chars c.args.flags.now in
    let read = c.initialize-in-Constructor-2 in
    subst (λ standard. GivesUnits standard true text c.args.input.now.form read.result) is
    (quoted_read false true text c.args.flags.now c.args.input.now.form read.result c.in-Constructor.is (read.ensures.quoted refl))
