use Rattle.std.proofs.Common.{◌∙◌, sym, subst, ℕ, ◌+◌, length, drop, lit<}
use Rattle.std.proofs.lemmas.Bool.{false≢true}
use Rattle.std.proofs.lemmas.Iterator.Consumers.{YieldsList-turn, YieldsList-end}
use Rattle.std.proofs.lemmas.Iterator.Splits.{YieldsList-from_str_split}
use Rattle.std.proofs.lemmas.List.{length_push}
use Rattle.rx_command.specs.Constructs.{construct_name, has_construct}
use Rattle.rx_command.proofs.ConstructLists.{construct_naming}
use Rattle.rx_command.proofs.NameLists.{IsReadTo, name_again, other_name, pieces, read_end, read_more, read_next, read_none}
use Rattle.rx_command.proofs.constructs.named_rewrites.Goals as goal

pub loop-name-init : goal.loop-name-init
loop-name-init c = read_none construct_name has_construct construct_naming c.args.word.now c.no_rewrites-what.result c.no_rewrites-what.ensures

pub returns-in_err-construct : goal.returns-in_err-construct
returns-in_err-construct c =
    let word = c.args.word.now in
    let k : ℕ = length c.loop-name.yielded in
    let next = YieldsList-turn (YieldsList-from_str_split 44 word (lit< tt) (cc) (cc) (cc)) c.loop-name.yielded _ c.loop-name.yielded_by _ _ c.in-Some.name c.in-Some.is c.next.ensures.steps in
    rw c.from_residual.ensures
    (other_name construct_name has_construct construct_naming word c.in-Some.name.now (drop (k + 1) (pieces word)) c.loop-name.what (read_next construct_name has_construct construct_naming word c.loop-name.what k c.in-Some.name.now next c.loop-name.invariant) c.in_err-construct.ensures)

pub returns-then-has : goal.returns-then-has
returns-then-has c =
    let word = c.args.word.now in
    let k : ℕ = length c.loop-name.yielded in
    let next = YieldsList-turn (YieldsList-from_str_split 44 word (lit< tt) (cc) (cc) (cc)) c.loop-name.yielded _ c.loop-name.yielded_by _ _ c.in-Some.name c.in-Some.is c.next.ensures.steps in
    name_again construct_name has_construct construct_naming word c.in-Some.name.now (drop (k + 1) (pieces word)) c.loop-name.what c.in_ok-construct.construct
    (read_next construct_name has_construct construct_naming word c.loop-name.what k c.in-Some.name.now next c.loop-name.invariant) c.in_ok-construct.ensures (sym c.has.ensures ∙ c.if-has.true)

pub loop-name-preserved : goal.loop-name-preserved
loop-name-preserved c =
    let word = c.args.word.now in
    let k : ℕ = length c.loop-name.yielded in
    let next = YieldsList-turn (YieldsList-from_str_split 44 word (lit< tt) (cc) (cc) (cc)) c.loop-name.yielded _ c.loop-name.yielded_by _ _ c.in-Some.name c.in-Some.is c.next.ensures.steps in
    subst (λ (n : ℕ). IsReadTo construct_name has_construct word c.insert.new.what (drop n (pieces word))) (sym (length_push c.loop-name.yielded c.in-Some.name))
    (read_more construct_name has_construct construct_naming word c.in-Some.name.now (drop (k + 1) (pieces word)) c.loop-name.what c.insert.new.what c.in_ok-construct.construct
    (read_next construct_name has_construct construct_naming word c.loop-name.what k c.in-Some.name.now next c.loop-name.invariant) c.in_ok-construct.ensures
    (λ again. false≢true (sym c.if-has.false ∙ c.has.ensures ∙ again)) c.insert.ensures)

pub returns : goal.returns
returns c =
    let word = c.args.word.now in
    let end = YieldsList-end (YieldsList-from_str_split 44 word (lit< tt) (cc) (cc) (cc)) c.loop-name.yielded _ c.loop-name.yielded_by _ _ c.in-None.is c.next.ensures.steps in
    read_end construct_name has_construct construct_naming word c.loop-name.what (length c.loop-name.yielded) end.1 c.loop-name.invariant
