-- All that was read of a class, with one thing more.
use Rattle.std.proofs.Common.{◌≡◌, ap, sym, ◌∙◌, subst, List, [], ◌∷◌, ◌++◌, append_assoc, append-nil, All, length, IsSome}
use Rattle.rx_class.proofs.Common.{flat_map, All-nil, All-push, operand, ClassEvents, ClassBuilder, OpenBracket, bracket_events, builder_events, mirror_held, IsAround, IsWellBuilt}
use Rattle.rx_class.proofs.Common.{IsWellHeld}
use Rattle.std.proofs.lemmas.List.Elements.{All-take}
use Rattle.std.proofs.Math.Seq.{take-append_seam}
use Rattle.std.proofs.lemmas.Grind.{flat_map-append}

-- a bracket after others
outer_events : (bs cs : List OpenBracket) (b : OpenBracket) → cs ≡ bs ++ (b ∷ []) → flat_map bracket_events cs ≡ flat_map bracket_events bs ++ bracket_events b
outer_events bs cs b e =
    ap (flat_map bracket_events) e ∙ flat_map-append bracket_events bs (b ∷ []) ∙ ap (λ es. flat_map bracket_events bs ++ es) (append-nil (bracket_events b))

pub new_events : (b : ClassBuilder) (es : ClassEvents) → b.outer ≡ [] → bracket_events b.inner ≡ es → builder_events b ≡ es
unfolding builder_events
new_events b es none e = ap (λ bs. flat_map bracket_events bs ++ bracket_events b.inner) none ∙ e

pub new_well : (b : ClassBuilder) → b.outer ≡ [] → IsWellHeld b.inner → IsWellBuilt b
new_well b none well = record { inner = well; outer = subst (All IsAround) (sym none) (All-nil IsAround) }

-- The innermost bracket has more in it.
pub inner_events : (b : ClassBuilder) (inner : OpenBracket) (es : ClassEvents) → bracket_events inner ≡ bracket_events b.inner ++ es →
    builder_events (record b { inner = inner }) ≡ builder_events b ++ es
unfolding builder_events
inner_events b inner es e =
    ap (λ fs. flat_map bracket_events b.outer ++ fs) e ∙ sym (append_assoc (flat_map bracket_events b.outer) (bracket_events b.inner) es)

pub inner_well : (b : ClassBuilder) (inner : OpenBracket) → IsWellBuilt b → IsWellHeld inner → IsWellBuilt (record b { inner = inner })
inner_well b inner well is = record { inner = is; outer = well.outer }

-- A bracket opens.
module _ (b : ClassBuilder) (inner : OpenBracket) (outer : List OpenBracket) (is : outer ≡ b.outer ++ (b.inner ∷ [])) where
  pub open_events : (es : ClassEvents) → bracket_events inner ≡ es → builder_events (record { inner = inner; outer = outer }) ≡ builder_events b ++ es
  unfolding builder_events
  open_events es e = ap (λ fs. fs ++ bracket_events inner) (outer_events b.outer outer b.inner is) ∙ ap (λ fs. (flat_map bracket_events b.outer ++ bracket_events b.inner) ++ fs) e

  pub open_well : IsWellBuilt b → IsSome (operand (mirror_held b.inner.held)) → IsWellHeld inner → IsWellBuilt (record { inner = inner; outer = outer })
  open_well well some new = record {
    inner = new;
    outer = subst (All IsAround) (sym is) (All-push IsAround b.outer b.inner well.outer (record { well = well.inner; operand = some }));
  }

-- The class's own bracket closes.
pub outermost_events : (b : ClassBuilder) (es more : ClassEvents) → b.outer ≡ [] → es ≡ bracket_events b.inner ++ more → es ≡ builder_events b ++ more
unfolding builder_events
outermost_events b es more none e = e ∙ ap (λ bs. (flat_map bracket_events bs ++ bracket_events b.inner) ++ more) (sym none)

-- A bracket closes, and is an operand of the one around it.
module _ (b : ClassBuilder) (outer : List OpenBracket) (next : OpenBracket) (is : b.outer ≡ outer ++ (next ∷ [])) where
  pub close_events : (inner : OpenBracket) (es more : ClassEvents) → es ≡ bracket_events b.inner ++ more → bracket_events inner ≡ bracket_events next ++ es →
      builder_events (record { inner = inner; outer = outer }) ≡ builder_events b ++ more
  unfolding builder_events
  close_events inner es more closes pushed =
      let before : ClassEvents = flat_map bracket_events outer in
      ap (λ fs. before ++ fs) (pushed ∙ ap (λ fs. bracket_events next ++ fs) closes)
      ∙ sym (append_assoc before (bracket_events next) (bracket_events b.inner ++ more))
      ∙ sym (append_assoc (before ++ bracket_events next) (bracket_events b.inner) more)
      ∙ ap (λ fs. (fs ++ bracket_events b.inner) ++ more) (sym (outer_events outer b.outer next is))

  outer_all : IsWellBuilt b → All IsAround (outer ++ (next ∷ []))
  outer_all well = subst (All IsAround) is well.outer

  pub close_well : (inner : OpenBracket) → IsWellBuilt b → IsWellHeld inner → IsWellBuilt (record { inner = inner; outer = outer })
  close_well inner well is_well =
      record { inner = is_well; outer = subst (All IsAround) (take-append_seam outer (next ∷ [])) (All-take IsAround (length outer) (outer ++ (next ∷ [])) (outer_all well)) }
