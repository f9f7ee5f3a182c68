use Rattle.std.proofs.Common.{◌≡◌, refl, ap, sym, ◌∙◌, ◌++◌, arith, codes, length, map, rules}
use Rattle.std.proofs.lemmas.List.{nil_from_length}
use Rattle.rx_ast.specs.Tree.{mirror_term, nodes}
use Rattle.rx_display.specs.Tasks.{tree_of}
use Rattle.rx_model.specs.Spelling.Spelling.{barred_text, nodes_text}
use Rattle.rx_tools.proofs.Tasks.{barred_cut}
use Rattle.rx_tools.proofs.Writes.{composes, no_text}
use Rattle.rx_tasks.proofs.Texts.{goes_after, goes_none, goes_then}
use Rattle.rx_tools.proofs.printing.write_leading.Goals as goal

pub loop-rest-init : goal.loop-rest-init
loop-rest-init g c = record { text = goes_none (no_text g.W.TextSink.taken _) refl; lighter = omega arith }

pub loop-rest-preserved : goal.loop-rest-preserved
loop-rest-preserved g c =
    let both = composes g.W.TextSink.taken in
    let left = c.loop-rest.left in
    let rest = c.in_ok-rest.rest in
    let leaves = c.in_ok-rest.ensures.written.front in
    let more = barred_text left.mode (tree_of left.more.now) in
    let none : length rest.terms.now ≡ 0 = search rules in
    let some : (length left.more.now ≡ 0) → ⊥ = search rules in
    let ends = ap (λ ts. nodes_text left.mode rest.after_reference (nodes (map mirror_term ts)) ++ more) (nil_from_length rest.terms.now none) ∙ barred_cut left.mode left.more.now some in
    let one = goes_then both c.loop-rest.invariant.text (goes_after more (record { front = leaves.0; cut = leaves.2; written = leaves.1 })) in
    let weighs = c.loop-rest.invariant.lighter in
    record {
      text = goes_then both one (record { front = codes "|"; cut = ends ∙ ap (λ text. codes "|" ++ text) (sym c.whole_body-left.ensures.text); written = c.in_ok-write_char.ensures.whole });
      lighter = omega arith;
    }

pub returns-then-not-is_empty-clause-text : goal.returns-then-not-is_empty-clause-text
returns-then-not-is_empty-clause-text g c =
    let left = c.loop-rest.left in
    let leaves = c.in_ok-rest.ensures.written.front in
    goes_then (composes g.W.TextSink.taken) c.loop-rest.invariant.text (goes_after (barred_text left.mode (tree_of left.more.now)) (record { front = leaves.0; cut = leaves.2; written = leaves.1 }))
