-- What a walk does with a visitor.
use Rattle.std.specs.Prelude.{Bool, true, false, List, [], ◌∷◌}
use Rattle.rx_ast.specs.Kinds.{Kind, children}

-- A visitor that stands at v may stand at w after a node, or after nodes one after the other. `entered` and `left` are those of the visitor.
mutual
  pub data Visited {V : Type 0} (entered : V → Kind → Bool → V → Type 0) (left : V → Kind → V → Type 0) : V → Kind → V → Type 0 where
    descend : (v : V) (k : Kind) (m n w : V) → entered v k true m → VisitedAll entered left m (children k) n → left n k w → Visited entered left v k w
    pass : (v : V) (k : Kind) (m w : V) → entered v k false m → left m k w → Visited entered left v k w

  pub data VisitedAll {V : Type 0} (entered : V → Kind → Bool → V → Type 0) (left : V → Kind → V → Type 0) : V → List Kind → V → Type 0 where
    none : (v : V) → VisitedAll entered left v [] v
    next : (v : V) (k : Kind) (m : V) (ks : List Kind) (w : V) → Visited entered left v k m → VisitedAll entered left m ks w → VisitedAll entered left v (k ∷ ks) w
