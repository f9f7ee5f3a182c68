use Rattle.std.proofs.Common.{◌≡◌, refl, subst, true, false}
use Rattle.std.specs.Str.{chars}
use Rattle.rx_parser.proofs.Common.{GivesUnits}
use Rattle.rx_parser.proofs.ReadTexts.{literal_read, quoted_read}
use Rattle.rx_parser.proofs.input.Input.decoded_reader.Goals as goal

pub returns-in-Literal-clause-read : goal.returns-in-Literal-clause-read
returns-in-Literal-clause-read c =
    literal_read c.args.self.now.options.standard_strings c.args.unicode_mode (chars c.args.text.now) c.args.text.now c.args.self.now.form c.initialize.result c.in-Literal.is (c.initialize.ensures.literal refl)

pub returns-in-Constructor-clause-read : goal.returns-in-Constructor-clause-read
returns-in-Constructor-clause-read c =
    let is : true ≡ c.args.self.now.options.standard_strings = cc (c.if-self.true) in
    let text = chars c.args.text.now in
    subst (λ standard. GivesUnits standard c.args.unicode_mode text c.args.self.now.form c.initialize_standard.result) is
    (quoted_read true c.args.unicode_mode text c.args.text.now c.args.self.now.form c.initialize_standard.result c.in-Constructor.is c.initialize_standard.ensures.quoted)

pub returns-in-Constructor-2-clause-read : goal.returns-in-Constructor-2-clause-read
returns-in-Constructor-2-clause-read c =
    let is : false ≡ c.args.self.now.options.standard_strings = cc (c.if-self.false) in
    let text = chars c.args.text.now in
    let read = c.initialize-in-Constructor-2 in
    subst (λ standard. GivesUnits standard c.args.unicode_mode text c.args.self.now.form read.result) is
    (quoted_read false c.args.unicode_mode text c.args.text.now c.args.self.now.form read.result c.in-Constructor.is (read.ensures.quoted refl))
