use Rattle.rx_parser.proofs.Common.{offset_here_fits}
use Rattle.rx_parser.proofs.fault.here.Goals as goal

pub create-requires : goal.create-requires
create-requires g c =
    let fits = offset_here_fits c.args.spans.now c.offset-at.result c.args.reader.now c.requires.fits c.offset-at.ensures.value in
    record { start = fits; end = fits }
