use Rattle.std.proofs.lemmas.Bool.Decides.{same_from_decides}
use Rattle.std.proofs.lemmas.Slice.Eq.{bytes_eq-Decides}
use Rattle.rx_visit.proofs.patterns.is_same.Goals as goal

pub returns : goal.returns
returns c = same_from_decides _ _ c.content_eq.ensures (bytes_eq-Decides c.args.a.now c.args.b.now)
