use Rattle.std.proofs.Common.{◌≡◌, ap, sym, ◌∙◌, subst, not, refl, false, length, [], ◌∷◌, ◌++◌}
use Rattle.std.proofs.Math.Bool.{not-not}
use Rattle.rx_ast.specs.ClassTree.{mirror_contents}
use Rattle.rx_ast.specs.Kinds.{class_contents}
use Rattle.rx_ast.specs.MirrorKinds.{mirror_kind}
use Rattle.rx_lint.specs.Earlier.{AreEarlier, AreItemsBefore, AreRowsBefore, IsMark}
use Rattle.rx_lint.proofs.HeldEarlier.{item_of, item_added, row_added}
use Rattle.rx_lint.proofs.earlier.Earlier.add.Goals as goal

pub returns-in_ok-is_repeated-in-CharacterClassContents : goal.returns-in_ok-is_repeated-in-CharacterClassContents
returns-in_ok-is_repeated-in-CharacterClassContents c = λ parent before after are row_is.
    let k = mirror_kind c.args.node in
    let m = mirror_contents c.in-CharacterClassContents.it.now in
    let is : class_contents m ≡ k = sym (ap mirror_kind c.in-CharacterClassContents.is) in
    let held : AreItemsBefore c.in-Items.items parent before (k ∷ after) = subst (λ e. AreEarlier e parent before (k ∷ after)) c.in-Items.is are in
    let useless = c.in_ok-is_repeated-in-CharacterClassContents.is_repeated in
    subst (λ k. IsMark (record { is_repeated = useless; is_one_of_many = false }) parent before k × AreItemsBefore c.add.new.self parent (before ++ (k ∷ [])) after) is
    (item_added m useless c.in_ok-is_repeated-in-CharacterClassContents.ensures (subst (λ k. AreItemsBefore c.in-Items.items parent before (k ∷ after)) (sym is) held))

pub returns-in_default : goal.returns-in_default
returns-in_default c = λ parent before after are row_is.
    let k = mirror_kind c.args.node in
    let held : AreItemsBefore c.in-Items.items parent before (k ∷ after) = subst (λ e. AreEarlier e parent before (k ∷ after)) c.in-Items.is are in
    let it = item_of c.args.node after held.later held.next_is in
    absurd (c.in_default.not-CharacterClassContents it.0 it.1)

pub returns-in_ok-is_new-in-Alternatives : goal.returns-in_ok-is_new-in-Alternatives
returns-in_ok-is_new-in-Alternatives c = λ parent before after are row_is.
    let k = mirror_kind c.args.node in
    let held : AreRowsBefore c.in-Alternatives.rows parent before (k ∷ after) = subst (λ e. AreEarlier e parent before (k ∷ after)) c.in-Alternatives.is are in
    let inserted = c.in_ok-is_new-in-Alternatives in
    row_added k (length c.args.row.now, c.args.row) (not inserted.is_new) refl row_is (ap not inserted.ensures.added ∙ not-not _) inserted.ensures.updates held
