use Rattle.std.proofs.Common.{◌∙◌}
use Rattle.rx_units.specs.declared.quoted_text.literal.Literal.TheVariants as literals
use Rattle.rx_units.proofs.Quoted.Outcomes.{given_decoded}
use Rattle.rx_units.proofs.string_literal_parser.Parser.parse.Goals as goal

pub returns-clause-decodes : goal.returns-clause-decodes
returns-clause-decodes c = λ kind units d.
    c.decode.ensures.decodes kind units
    (given_decoded (literals.String kind) c.source.inside.options c.as_slice.result.now c.source.inside.text.items c.args.self units c.as_slice.ensures.value (c.source.view_is ∙ c.self.view_is) d)
