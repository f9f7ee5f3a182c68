use Rattle.rx_tasks.proofs.Turns.{leads_all, leads_first, leads_on, lighter}
use Rattle.rx_tasks.proofs.work.work_through.Goals as goal

pub loop-left-init : goal.loop-left-init
loop-left-init g c = record { ready = c.requires; leads = leads_first _ _ _ c.new-waiting.ensures }

pub loop-left-smaller : goal.loop-left-smaller
loop-left-smaller g c = lighter g.T.Work.weight _ _ _ _ _ c.in-Some.is c.in_ok-left.ensures c.in_ok-work.ensures.lighter

pub loop-left-preserved : goal.loop-left-preserved
loop-left-preserved g c = record {
  ready = c.in_ok-work.ensures.ready;
  leads = leads_on _ _ _ _ c.in-Some.is c.in_ok-left.ensures c.loop-left.invariant.leads c.in_ok-work.ensures.leads;
}

pub returns : goal.returns
returns g c = leads_all _ _ c.in_default.is c.loop-left.invariant.leads
