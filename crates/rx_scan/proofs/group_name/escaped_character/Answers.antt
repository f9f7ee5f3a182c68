use Rattle.std.proofs.Common.{ap, sym, ◌∙◌, true, refl, arith}
use Rattle.rx_units.specs.Units.{values}
use Rattle.rx_model.specs.Characters.Decoding.{decoding_of}
use Rattle.rx_scan.specs.GroupNames.{seen_character}
use Rattle.rx_scan.proofs.EscapeAnswers.{value_long}
use Rattle.rx_scan.proofs.GroupNames.{escape_passes, escape_fails}
use Rattle.rx_scan.proofs.group_name.escaped_character.Goals as goal

pub returns-in_err-in_name-in-Value-clause-read : goal.returns-in_err-in_name-in-Value-clause-read
returns-in_err-in_name-in-Value-clause-read g c =
    ap seen_character c.from_residual.ensures
    ∙ escape_fails c.args.first c.in-Value.code_point c.in-Value.length (decoding_of true (values c.args.units.now)) c.in-Value.ensures.decoded.read (sym c.in_err-in_name-in-Value.was ∙ c.in_name.ensures)

pub returns-in_err-in_name-in-Value-clause-steps : goal.returns-in_err-in_name-in-Value-clause-steps
returns-in_err-in_name-in-Value-clause-steps g c =
    let within = (c.in-Value.ensures.decoded.within c.in-Value.code_point c.in-Value.length refl).0 in
    let steps = c.in-Value.ensures.steps in
    (omega arith, omega arith)

pub returns-in_ok-in_name-in-Value-clause-read : goal.returns-in_ok-in_name-in-Value-clause-read
returns-in_ok-in_name-in-Value-clause-read g c =
    escape_passes c.args.first c.in-Value.code_point c.in-Value.length c.in_ok-in_name-in-Value.field-0 (decoding_of true (values c.args.units.now)) c.in-Value.ensures.decoded.read (sym c.in_ok-in_name-in-Value.was ∙ c.in_name.ensures)

pub returns-in_ok-in_name-in-Value-clause-found : goal.returns-in_ok-in_name-in-Value-clause-found
returns-in_ok-in_name-in-Value-clause-found g c =
    let long = value_long true (values c.args.units.now) c.in-Value.code_point c.in-Value.length c.in-Value.ensures.decoded.read in
    let steps = c.in-Value.ensures.steps in
    let half = c.in-Value.ensures.half in
    (omega arith, omega arith)

pub returns-in_ok-in_name-in-Value-clause-steps : goal.returns-in_ok-in_name-in-Value-clause-steps
returns-in_ok-in_name-in-Value-clause-steps g c =
    let within = (c.in-Value.ensures.decoded.within c.in-Value.code_point c.in-Value.length refl).0 in
    let steps = c.in-Value.ensures.steps in
    (omega arith, omega arith)
