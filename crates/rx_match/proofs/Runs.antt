-- Laws of runs.
use Rattle.std.proofs.Common.{◌≡◌, refl, ap, sym, ◌∙◌, Bool, true, false, [], ◌∷◌, ◌++◌, append_assoc}
use Rattle.rx_trace.specs.Traces.{State}
use Rattle.rx_match.specs.Runs.{Run, silent, ticked, reaches, bind, look_around_run, at_place}

pub bind-append : (a b : Run) (f : State → Run) → bind (a ++ b) f ≡ bind a f ++ bind b f
bind-append [] b f = refl
bind-append (silent ∷ a) b f = ap (λ r. silent ∷ r) (bind-append a b f)
bind-append (ticked ∷ a) b f = ap (λ r. ticked ∷ r) (bind-append a b f)
bind-append (reaches s ∷ a) b f = ap (λ r. f s ++ r) (bind-append a b f) ∙ sym (append_assoc (f s) (bind a f) (bind b f))

pub bind-bind : (a : Run) (f g : State → Run) → bind (bind a f) g ≡ bind a (λ w. bind (f w) g)
bind-bind [] f g = refl
bind-bind (silent ∷ a) f g = ap (λ r. silent ∷ r) (bind-bind a f g)
bind-bind (ticked ∷ a) f g = ap (λ r. ticked ∷ r) (bind-bind a f g)
bind-bind (reaches s ∷ a) f g = bind-append (f s) (bind a f) g ∙ ap (λ r. bind (f s) g ++ r) (bind-bind a f g)

pub bind-reaches : (a : Run) → bind a (λ s. reaches s ∷ []) ≡ a
bind-reaches [] = refl
bind-reaches (silent ∷ a) = ap (λ r. silent ∷ r) (bind-reaches a)
bind-reaches (ticked ∷ a) = ap (λ r. ticked ∷ r) (bind-reaches a)
bind-reaches (reaches s ∷ a) = ap (λ r. reaches s ∷ r) (bind-reaches a)

-- a fact of each state that a run arrives at
abbrev pub EachReached : (State → Type 0) → Run → Type 0
EachReached P [] = Unit {0}
EachReached P (silent ∷ r) = EachReached P r
EachReached P (ticked ∷ r) = EachReached P r
EachReached P (reaches s ∷ r) = P s × EachReached P r

pub bind-same : (P : State → Type 0) (r : Run) (f g : State → Run) → EachReached P r → ((w : State) → P w → f w ≡ g w) → bind r f ≡ bind r g
bind-same P [] f g each same = refl
bind-same P (silent ∷ r) f g each same = ap (λ x. silent ∷ x) (bind-same P r f g each same)
bind-same P (ticked ∷ r) f g each same = ap (λ x. ticked ∷ x) (bind-same P r f g each same)
bind-same P (reaches s ∷ r) f g each same = ap (λ x. x ++ bind r f) (same s each.0) ∙ ap (λ x. g s ++ x) (bind-same P r f g each.1 same)

pub reaches-append : (P : State → Type 0) (a b : Run) → EachReached P a → EachReached P b → EachReached P (a ++ b)
reaches-append P [] b pa pb = pb
reaches-append P (silent ∷ a) b pa pb = reaches-append P a b pa pb
reaches-append P (ticked ∷ a) b pa pb = reaches-append P a b pa pb
reaches-append P (reaches s ∷ a) b pa pb = (pa.0, reaches-append P a b pa.1 pb)

pub reaches-bind : (P Q : State → Type 0) (r : Run) (f : State → Run) → EachReached Q r → ((w : State) → Q w → EachReached P (f w)) → EachReached P (bind r f)
reaches-bind P Q [] f each then' = tt
reaches-bind P Q (silent ∷ r) f each then' = reaches-bind P Q r f each then'
reaches-bind P Q (ticked ∷ r) f each then' = reaches-bind P Q r f each then'
reaches-bind P Q (reaches s ∷ r) f each then' = reaches-append P (f s) (bind r f) (then' s each.0) (reaches-bind P Q r f each.1 then')

pub reaches-weaker : (P Q : State → Type 0) (r : Run) → ((w : State) → Q w → P w) → EachReached Q r → EachReached P r
reaches-weaker P Q [] weaker each = tt
reaches-weaker P Q (silent ∷ r) weaker each = reaches-weaker P Q r weaker each
reaches-weaker P Q (ticked ∷ r) weaker each = reaches-weaker P Q r weaker each
reaches-weaker P Q (reaches s ∷ r) weaker each = (weaker s each.0, reaches-weaker P Q r weaker each.1)

-- what follows a look-around may be put into it
pub look_around-bind : (negative : Bool) (r : Run) (s : State) (k g : State → Run) → bind (look_around_run negative r s k) g ≡ look_around_run negative r s (λ w. bind (k w) g)
look_around-bind false [] s k g = refl
look_around-bind true [] s k g = refl
look_around-bind false (silent ∷ r) s k g = ap (λ x. silent ∷ x) (look_around-bind false r s k g)
look_around-bind true (silent ∷ r) s k g = ap (λ x. silent ∷ x) (look_around-bind true r s k g)
look_around-bind false (ticked ∷ r) s k g = ap (λ x. ticked ∷ x) (look_around-bind false r s k g)
look_around-bind true (ticked ∷ r) s k g = ap (λ x. ticked ∷ x) (look_around-bind true r s k g)
look_around-bind false (reaches w ∷ r) s k g = refl
look_around-bind true (reaches w ∷ r) s k g = refl

pub reaches-peek : (P : State → Type 0) (negative : Bool) (r : Run) (s : State) (k : State → Run) → ((w : State) → EachReached P (k (at_place s.place w))) → EachReached P (k s) → EachReached P (look_around_run negative r s k)
reaches-peek P false [] s k inside outside = tt
reaches-peek P true [] s k inside outside = outside
reaches-peek P false (silent ∷ r) s k inside outside = reaches-peek P false r s k inside outside
reaches-peek P true (silent ∷ r) s k inside outside = reaches-peek P true r s k inside outside
reaches-peek P false (ticked ∷ r) s k inside outside = reaches-peek P false r s k inside outside
reaches-peek P true (ticked ∷ r) s k inside outside = reaches-peek P true r s k inside outside
reaches-peek P false (reaches w ∷ r) s k inside outside = inside w
reaches-peek P true (reaches w ∷ r) s k inside outside = tt

pub bind-each : (r : Run) (f g : State → Run) → ((w : State) → f w ≡ g w) → bind r f ≡ bind r g
bind-each [] f g same = refl
bind-each (silent ∷ r) f g same = ap (λ x. silent ∷ x) (bind-each r f g same)
bind-each (ticked ∷ r) f g same = ap (λ x. ticked ∷ x) (bind-each r f g same)
bind-each (reaches s ∷ r) f g same = ap (λ x. x ++ bind r f) (same s) ∙ ap (λ x. g s ++ x) (bind-each r f g same)
