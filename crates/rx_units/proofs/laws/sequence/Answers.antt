use Rattle.rx_units.proofs.Sequences as sequences
use Rattle.rx_units.proofs.laws.sequence.Goals as goal

pub returns-clause-one : goal.returns-clause-one
returns-clause-one g c e =
    let s = g.S.ElementKind in
    sequences.one (s.spells e) (s.following e) (c.one_front.ensures e) (s.is_stop e) (c.none_at_stop.ensures e)

pub returns-clause-longest : goal.returns-clause-longest
returns-clause-longest g c e =
    let s = g.S.ElementKind in
    sequences.longest (s.spells e) (s.following e) (c.one_front.ensures e) (s.is_stop e) (c.none_at_stop.ensures e)

pub returns-clause-prefixes : goal.returns-clause-prefixes
returns-clause-prefixes g c e = let s = g.S.ElementKind in sequences.prefixes (s.spells e) (s.following e) (c.one_front.ensures e)

pub returns-clause-one_between : goal.returns-clause-one_between
returns-clause-one_between g c e =
    let s = g.S.ElementKind in
    sequences.one_between (s.spells e) (s.following e) (c.one_front.ensures e) (c.some_units.ensures e)
