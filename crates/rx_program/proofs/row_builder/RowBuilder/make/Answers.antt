use Rattle.std.proofs.Common.{refl, sym, subst, ◌∷◌, reverse}
use Rattle.std.proofs.lemmas.Result.{on_ok_weaker}
use Rattle.rx_ast.specs.ClassTree.{mirror_contents}
use Rattle.rx_program.specs.declared.row_builder.Part.TheVariants as part
use Rattle.rx_program.specs.RowParts.{IsRow, MakesPart}
use Rattle.rx_program.proofs.RowMaking.{made_item, can_any, can_all}
use Rattle.rx_program.proofs.row_builder.RowBuilder.make.Goals as goal

pub any-requires : goal.any-requires
any-requires c =
    can_any c.args.self.now (part.Any c.in-Any.items c.in-Any.held) c.in-Any.held (subst (λ p. IsRow c.args.self.now (p ∷ reverse c.args.self.now.parts)) c.in-Any.is c.requires) (λ n h. h)

pub returns-in-Any : goal.returns-in-Any
returns-in-Any c = on_ok_weaker c.any.result (subst (λ p. MakesPart c.args.self.now p c.any.new.self) (sym c.in-Any.is)) c.any.ensures

pub all-requires : goal.all-requires
all-requires c =
    can_all c.args.self.now (part.All c.in-All.items c.in-All.not_held) c.in-All.not_held (subst (λ p. IsRow c.args.self.now (p ∷ reverse c.args.self.now.parts)) c.in-All.is c.requires) (λ n h. h)

pub returns-in-All : goal.returns-in-All
returns-in-All c = on_ok_weaker c.all.result (subst (λ p. MakesPart c.args.self.now p c.all.new.self) (sym c.in-All.is)) c.all.ensures

pub item-requires : goal.item-requires
item-requires c =
    can_all c.args.self.now (part.Item c.in-Item.item c.in-Item.not_held) c.in-Item.not_held (subst (λ p. IsRow c.args.self.now (p ∷ reverse c.args.self.now.parts)) c.in-Item.is c.requires) (λ n h. h)

pub returns-in-Item : goal.returns-in-Item
returns-in-Item c =
    on_ok_weaker c.item.result
    (λ led. subst (λ p. MakesPart c.args.self.now p c.item.new.self) (sym c.in-Item.is)
    (made_item c.args.self.now c.item.new.self (mirror_contents c.in-Item.item.now) c.in-Item.not_held (part.Item c.in-Item.item c.in-Item.not_held) (record { answers = λ checks u made. refl; below = λ n h. h; weighs = refl }) led)) c.item.ensures
