use Rattle.std.proofs.Common.{subst, sym}
use Rattle.rx_parser.proofs.Common.{Open, Parse, StandsNext, IsGroupKindOf}
use Rattle.rx_parser.proofs.turn.Parse.open.Goals as goal

pub open_group-requires-clause-found : goal.open_group-requires-clause-found
open_group-requires-clause-found g c =
    let begun = c.in_ok-group_kind in
    let same = sym begun.ensures.kept in (
      c.args.opener,
      subst (λ (x : Parse _ _). StandsNext x (Open c.args.opener c.args.length)) same c.requires.found,
      subst (λ (x : Parse _ _). IsGroupKindOf x.builder.mode x.reader x.spans c.args.length c.args.opener begun.group_kind) same begun.ensures.group_kind,
    )
