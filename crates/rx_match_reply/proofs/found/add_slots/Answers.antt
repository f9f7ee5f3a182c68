use Rattle.std.proofs.Common.{◌∙◌, sym, ap, List, ℕ, ◌++◌, append_assoc}
use Rattle.std.proofs.lemmas.Result.{on_ok_weaker}
use Rattle.rx_match_reply.specs.Found.{slot_text, slots_text, later_slots_text}
use Rattle.rx_match_reply.proofs.Slots.{slots_first}
use Rattle.rx_match_reply.proofs.found.add_slots.Goals as goal

pub returns : goal.returns
returns c =
    let first = c.in-Some.first.now in
    let later = c.in-Some.later.now in
    let old = c.args.bytes.now in
    on_ok_weaker c.add_later_slots.result
    (λ added. added ∙ ap (λ (text : List ℕ). text ++ later_slots_text later) c.in_ok-add_slot.ensures ∙ append_assoc old (slot_text first) (later_slots_text later)
    ∙ ap (λ (text : List ℕ). old ++ text) (sym (ap slots_text c.in-Some.ensures.cases.0 ∙ slots_first first later)))
    c.add_later_slots.ensures
