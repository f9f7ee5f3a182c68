use Rattle.std.proofs.Common.{◌≡◌, sym, ◌∙◌, ◌+◌, ◌-◌, ◌++◌, ap, arith, length, map, reverse, take, Bor, List, ℕ}
use Rattle.std.proofs.lemmas.List.{length_push}
use Rattle.rx_lint.specs.Rows.{first_length, kind_of, rows_of}
use Rattle.rx_lint.proofs.NodeNumbers.{rowed_none, rowed_more, tail_is}
use Rattle.rx_lint.proofs.rows.rows_of.Goals as goal

pub loop-beginning-init : goal.loop-beginning-init
loop-beginning-init c = rowed_none c.new-rows.ensures c.new-tails.ensures.items

pub numbers_from-tail-requires : goal.numbers_from-tail-requires
numbers_from-tail-requires c =
    let so_far = c.loop-beginning.invariant in
    (tail_is c.args.beginnings c.loop-beginning.beginnings c.pop.new.self so_far.after c.in-Some.beginning c.args.numbers.now c.requires so_far.cut c.in-Some.ensures).0

pub loop-beginning-smaller : goal.loop-beginning-smaller
loop-beginning-smaller c =
    let shorter : length c.loop-beginning.beginnings ≡ length c.pop.new.self + 1 = ap length c.in-Some.ensures ∙ length_push c.pop.new.self c.in-Some.beginning in
    omega arith

pub loop-beginning-preserved : goal.loop-beginning-preserved
loop-beginning-preserved c =
    let ends = c.loop-beginning.tails.items in
    let now : List (Bor (List ℕ)) → List (List ℕ) = λ rows. map (λ (row : Bor (List ℕ)). row.now) rows in
    rowed_more c.in-Some.beginning c.args.numbers.now c.numbers_from-tail.result c.first_numbers.result c.count-children.result c.last_length-after.result c.requires c.in-Some.ensures c.numbers_from-tail.ensures
    (c.count-children.ensures ∙ ap length c.children_of.ensures) (c.truncate.ensures.items ∙ ap (λ n. take n ends) (c.saturating_sub-kept.ensures ∙ ap (λ xs. length xs - c.count-children.result) c.as_slice.ensures.value))
    (c.last_length-after.ensures ∙ ap (λ rows. first_length (reverse (now rows))) c.as_slice-in-Some.ensures.value) (c.first_numbers.ensures ∙ ap (λ n. take n c.numbers_from-tail.result.now) c.saturating_sub.ensures)
    c.in_ok-push.ensures.ok c.in_ok-push-2.ensures.items c.loop-beginning.invariant

pub returns : goal.returns
returns c =
    let so_far = c.loop-beginning.invariant in
    so_far.rows_are ∙ ap (λ bs. reverse (rows_of (map kind_of bs))) (sym (so_far.cut ∙ ap (λ left. left ++ so_far.after) c.in_default.ensures.0))
