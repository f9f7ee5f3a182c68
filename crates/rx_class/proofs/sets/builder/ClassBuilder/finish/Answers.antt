use Rattle.std.proofs.Common.{ap, ◌∙◌, subst, sym}
use Rattle.rx_class.proofs.Common.{IsFitting, IsFlagged, class_events, IsEarlyClass}
use Rattle.rx_class.proofs.SetReading.BuilderGrowth.{outermost_events}
use Rattle.rx_class.proofs.SetReading.OpenBrackets.{closed_events, closed_sound}
use Rattle.rx_class.proofs.sets.builder.ClassBuilder.finish.Goals as goal

pub returns : goal.returns
returns c =
    let b = c.args.self in
    let sound = closed_sound b.inner c.args.end c.requires.whole c.requires.well.inner c.requires.no_strings in
    record {
      events = ap class_events c.finish.ensures ∙ outermost_events b _ _ c.requires.outermost (closed_events b.inner c.args.end c.requires.whole c.requires.well.inner);
      fitting = subst IsFitting (sym c.finish.ensures) sound.fitting;
      flagged = subst IsFlagged (sym c.finish.ensures) sound.flagged;
      early = subst IsEarlyClass (sym c.finish.ensures) sound.early;
    }
