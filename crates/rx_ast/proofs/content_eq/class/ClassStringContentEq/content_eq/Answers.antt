use Rattle.std.proofs.Common.{◌≡◌, ap, ◌∙◌, Bool, List, map, rules}
use Rattle.rx_ast.specs.declared.leaf.Character.{Character}
use Rattle.rx_ast.specs.declared.class.ClassString.{ClassString}
use Rattle.rx_ast.specs.Forget.{nowhere, forget_character, same_kind}
use Rattle.rx_ast.proofs.ContentEq.{from_each, to_each}
use Rattle.rx_ast.proofs.content_eq.class.ClassStringContentEq.content_eq.Goals as goal

pub returns-then-self-other : goal.returns-then-self-other
returns-then-self-other c =
    let some = c.args.self.now in
    let other = c.args.other.now in
    let flag : some.strings ≡ other.strings = let h = c.if-self-other.true in search rules in
    let string : Bool → List Character → ClassString = λ b cs. record { span = nowhere; strings = b; body = cs } in
    let content = forget_character same_kind in (
      λ equal. ap (λ b. string b (map content some.body)) flag ∙ ap (string other.strings) (from_each content some.body other.body (c.content_eq.ensures.0 equal)),
      λ same. c.content_eq.ensures.1 (to_each content some.body other.body (ap (λ s. s.body) same)),
    )
