-- What a walk knows of the beginnings and ends of nodes: how far they have come, and whether they are in order.
use Rattle.std.specs.Prelude.{◌≡◌, ℕ, Bool, true, ◌&&◌, nat_le, Option, Some, None}
use Rattle.std.specs.Option.{option_map}
use Rattle.rx_base.specs.declared.span.Span.{Span}
use Rattle.rx_ast.specs.Kinds.{kind_span}
use Rattle.rx_ast.specs.Kinds as kinds
use Rattle.rx_paint.specs.declared.nesting.Nesting.{Nesting}
use Rattle.rx_paint.specs.declared.token.Kind.{Kind}
use Rattle.rx_ast.specs.Parts.{modifiers_in}
use Rattle.rx_paint.specs.Paints.{own_paint}

-- the walk has come to an offset, which is in order where it is no less than the one before it
abbrev pub move_to : Nesting → ℕ → Nesting
move_to v o = record { at = o; in_order = v.in_order && nat_le v.at o }

-- the walk has passed modifiers, where there are some
abbrev pub after_modifiers : Option Span → Nesting → Nesting
after_modifiers None v = v
after_modifiers (Some m) v = move_to (move_to v m.start) m.end

-- it has entered a node, and passed its modifiers; a node that counts as the node in it is none of its own
abbrev pub after_enter : Option Kind → Option Span → Span → Nesting → Nesting
after_enter None m s v = v
after_enter (Some c) m s v = after_modifiers m (move_to v s.start)

-- it has left a node
abbrev pub after_leave : Option Kind → Span → Nesting → Nesting
after_leave None s v = v
after_leave (Some c) s v = move_to v s.end

-- what the visitor does, in the words of `Visit`
abbrev pub Enters : Nesting → kinds.Kind → Bool → Nesting → Type 0
Enters v k answer w = (answer ≡ true) × (w ≡ after_enter (own_paint k) (option_map (λ m. m.span) (modifiers_in k)) (kind_span k) v)

abbrev pub Leaves : Nesting → kinds.Kind → Nesting → Type 0
Leaves v k w = w ≡ after_leave (own_paint k) (kind_span k) v
