-- The events of what has been read of a disjunction.
use Rattle.std.proofs.Common.{◌≡◌, refl, ap, sym, ◌∙◌, ℕ, suc, ◌-◌, ◌≤◌, Bool, false, Option, List, [], ◌∷◌, ◌++◌, map, length, get_or, append_assoc, arith}
use Rattle.std.proofs.lemmas.List.{append-nil}
use Rattle.std.specs.declared.boxed.Box.{Box}
use Rattle.std.specs.declared.alloc.Global.{Global}
use Rattle.rx_parser.proofs.Common.{Term, Alternative, Disjunction, out-Disjunction, Quantifier, node_span, Node, leaf, quantified, group, nodes, alternatives, mirror_term, mirror_alternative, Event, Events, enter, leave, token, within, node_events, nodes_events, alternatives_events, barred_events}
use Rattle.rx_parser.proofs.Common.{term_events, alternative_events, disjunction_events, Mode, takes, bar, quantifier, Level, strung, with_bars, level_events, last_takes, Repeats}
use Rattle.rx_ast.specs.declared.term.Term.TheVariants as variant
use Rattle.rx_ast.proofs.Equations as mirror

nodes_events_strung : (ts : List Term) → nodes_events (nodes (map mirror_term ts)) ≡ strung (map term_events ts)
unfolding term_events
nodes_events_strung [] = refl
nodes_events_strung (t ∷ ts) = ap (λ z. term_events t ++ z) (nodes_events_strung ts)

pub alternative_events_is : (a : Alternative) → alternative_events a ≡ within a.span (strung (map term_events a.body))
unfolding alternative_events
alternative_events_is a = ap (λ l. within l.0 (nodes_events l.1)) (mirror.alternative_is a) ∙ ap (λ z. within a.span z) (nodes_events_strung a.body)

-- with bars between
joined : List Events → Events
joined [] = []
joined (es ∷ []) = es
joined (es ∷ fs ∷ more) = es ++ (token bar ∷ joined (fs ∷ more))

barred_joined : (a : Alternative) (more : List Alternative) → alternative_events a ++ barred_events (alternatives (map mirror_alternative more)) ≡ joined (map alternative_events (a ∷ more))
unfolding alternative_events joined
barred_joined a [] = append-nil (alternative_events a)
barred_joined a (b ∷ more) = ap (λ z. alternative_events a ++ (token bar ∷ z)) (barred_joined b more)

alternatives_joined : (all : List Alternative) → alternatives_events (alternatives (map mirror_alternative all)) ≡ joined (map alternative_events all)
unfolding alternative_events joined
alternatives_joined [] = refl
alternatives_joined (a ∷ more) = barred_joined a more

disjunction_events_is : (d : Disjunction) → disjunction_events d ≡ within (out-Disjunction d).span (joined (map alternative_events (out-Disjunction d).body))
unfolding disjunction_events
disjunction_events_is d = ap (λ c. within c.0 (alternatives_events c.1)) (mirror.disjunction_is d) ∙ ap (λ z. within (out-Disjunction d).span z) (alternatives_joined (out-Disjunction d).body)

strung_push : (ts : List Term) (t : Term) → strung (map term_events (ts ++ (t ∷ []))) ≡ strung (map term_events ts) ++ term_events t
strung_push [] t = append-nil (term_events t)
strung_push (s ∷ ts) t = ap (λ z. term_events s ++ z) (strung_push ts t) ∙ sym (append_assoc (term_events s) (strung (map term_events ts)) (term_events t))

barred_push : (all : List Alternative) (a : Alternative) → with_bars (map alternative_events (all ++ (a ∷ []))) ≡ with_bars (map alternative_events all) ++ (alternative_events a ++ (token bar ∷ []))
barred_push [] a = refl
barred_push (b ∷ all) a = ap (λ z. alternative_events b ++ (token bar ∷ z)) (barred_push all a) ∙ sym (append_assoc (alternative_events b) (token bar ∷ with_bars (map alternative_events all)) (alternative_events a ++ (token bar ∷ [])))

joined_push : (all : List Alternative) (a : Alternative) → joined (map alternative_events (all ++ (a ∷ []))) ≡ with_bars (map alternative_events all) ++ alternative_events a
unfolding joined
joined_push [] a = refl
joined_push (b ∷ []) a = sym (append_assoc (alternative_events b) (token bar ∷ []) (alternative_events a))
joined_push (b ∷ c ∷ all) a = ap (λ w. alternative_events b ++ (token bar ∷ w)) (joined_push (c ∷ all) a) ∙ sym (append_assoc (alternative_events b) (token bar ∷ with_bars (map alternative_events (c ∷ all))) (alternative_events a))

-- a term more
pub level_push : (l : Level) (ts : List Term) (t : Term) → ts ≡ l.terms ++ (t ∷ []) → level_events (record l { terms = ts }) ≡ level_events l ++ term_events t
unfolding level_events
level_push l ts t e =
    rw (e, strung_push l.terms t)
    (ap (λ w. enter l.start ∷ w)
    (sym (append_assoc (with_bars (map alternative_events l.alternatives)) (enter l.alternative_start ∷ strung (map term_events l.terms)) (term_events t))))

-- an alternative ends at a bar
pub level_bar : (l : Level) (all : List Alternative) (a : Alternative) (at after : ℕ) → all ≡ l.alternatives ++ (a ∷ []) → a.span.start ≡ l.alternative_start → a.span.end ≡ at → a.body ≡ l.terms
    → level_events (record { start = l.start; alternatives = all; alternative_start = after; terms = [] }) ≡ level_events l ++ (leave at ∷ token bar ∷ enter after ∷ [])
unfolding level_events
level_bar l all a at after e s t b =
    rw (e, barred_push l.alternatives a, alternative_events_is a, s, t, b)
    (ap (λ w. enter l.start ∷ w)
    (append_assoc (with_bars (map alternative_events l.alternatives)) _ (enter after ∷ []) ∙
    ap (λ w. with_bars (map alternative_events l.alternatives) ++ (enter l.alternative_start ∷ w)) (append_assoc (strung (map term_events l.terms) ++ (leave at ∷ [])) (token bar ∷ []) (enter after ∷ []) ∙ append_assoc (strung (map term_events l.terms)) (leave at ∷ []) (token bar ∷ enter after ∷ [])) ∙
    sym (append_assoc (with_bars (map alternative_events l.alternatives)) (enter l.alternative_start ∷ strung (map term_events l.terms)) (leave at ∷ token bar ∷ enter after ∷ []))))

-- the last alternative ends, and the disjunction
pub level_finish : (l : Level) (d : Disjunction) (a : Alternative) (at : ℕ) → (out-Disjunction d).body ≡ l.alternatives ++ (a ∷ []) → (out-Disjunction d).span.start ≡ l.start → (out-Disjunction d).span.end ≡ at
    → a.span.start ≡ l.alternative_start → a.span.end ≡ at → a.body ≡ l.terms → disjunction_events d ≡ level_events l ++ (leave at ∷ leave at ∷ [])
unfolding level_events
level_finish l d a at e f g s t b =
    rw (disjunction_events_is d, e, joined_push l.alternatives a, alternative_events_is a, f, g, s, t, b)
    (ap (λ w. enter l.start ∷ w)
    (append_assoc (with_bars (map alternative_events l.alternatives)) _ (leave at ∷ []) ∙
    ap (λ w. with_bars (map alternative_events l.alternatives) ++ (enter l.alternative_start ∷ w)) (append_assoc (strung (map term_events l.terms)) (leave at ∷ []) (leave at ∷ [])) ∙
    sym (append_assoc (with_bars (map alternative_events l.alternatives)) (enter l.alternative_start ∷ strung (map term_events l.terms)) (leave at ∷ leave at ∷ []))))

-- nothing has been read
pub level_new : (l : Level) → l.alternatives ≡ [] → l.terms ≡ [] → level_events l ≡ enter l.start ∷ enter l.alternative_start ∷ []
unfolding level_events
level_new l a t = rw (a, t) refl

node_begins : (n : Node) → (back : Events) × (node_events n ≡ enter (node_span n).start ∷ back)
node_begins (leaf l) = (_, refl)
node_begins (quantified s min max greedy n) = (_, refl)
node_begins (group s o d more) = (_, refl)

-- a term begins where its span does
term_begins : (t : Term) → (back : Events) × (term_events t ≡ enter (node_span (mirror_term t)).start ∷ back)
unfolding term_events
term_begins t = node_begins (mirror_term t)

quantifier_events : (q : Box Quantifier Global) → term_events (variant.Quantifier q) ≡ within q.value.span (term_events q.value.body ++ (token (quantifier q.value.min q.value.max q.value.greedy) ∷ []))
unfolding term_events
quantifier_events q = ap node_events (mirror.tree_of_quantifier q)

-- the last term becomes a quantifier's body
pub level_repeat : (l : Level) (ts us : List Term) (t : Term) (q : Box Quantifier Global) (min : ℕ) (max : Option ℕ) (greedy : Bool) (after : ℕ) → l.terms ≡ ts ++ (t ∷ []) → us ≡ ts ++ (variant.Quantifier q ∷ [])
    → q.value ≡ record { span = record { start = (node_span (mirror_term t)).start; end = after }; min = min; max = max; greedy = greedy; body = t }
    → (front : Events) → Repeats (front ++ level_events l) (front ++ level_events (record l { terms = us })) min max greedy after
level_repeat l ts us t q min max greedy after e f g front =
    let start : ℕ = (node_span (mirror_term t)).start in
    let begun = term_begins t in
    let times : Event = token (quantifier min max greedy) in
    let made : Quantifier → Events = λ it. within it.span (term_events it.body ++ (token (quantifier it.min it.max it.greedy) ∷ [])) in
    let head : Events = level_events (record l { terms = ts }) in
    let old : level_events l ≡ head ++ (enter start ∷ begun.0) = level_push (record l { terms = ts }) l.terms t e ∙ ap (λ z. head ++ z) begun.1 in
    let new : level_events (record l { terms = us }) ≡ head ++ (enter start ∷ enter start ∷ (begun.0 ++ (times ∷ leave after ∷ []))) =
    level_push (record l { terms = ts }) us (variant.Quantifier q) f
    ∙ ap (λ z. head ++ z) (quantifier_events q ∙ ap made g
    ∙ ap (λ z. within (record { start = start; end = after }) (z ++ (times ∷ []))) begun.1
    ∙ ap (λ z. enter start ∷ enter start ∷ z) (append_assoc begun.0 (times ∷ []) (leave after ∷ []))) in
    (front ++ head, start, begun.0, ap (λ z. front ++ z) old ∙ sym (append_assoc front head _), ap (λ z. front ++ z) new ∙ sym (append_assoc front head _))

last_push : (mode : Mode) (ts : List Term) (t : Term) → last_takes mode (ts ++ (t ∷ [])) ≡ takes mode (mirror_term t)
last_push mode [] t = refl
last_push mode (u ∷ []) t = refl
last_push mode (u ∷ v ∷ vs) t = last_push mode (v ∷ vs) t

pub last_after : (mode : Mode) (ts us : List Term) (t : Term) (b : Bool) → us ≡ ts ++ (t ∷ []) → takes mode (mirror_term t) ≡ b → last_takes mode us ≡ b
last_after mode ts us t b e f = ap (last_takes mode) e ∙ last_push mode ts t ∙ f

pub quantifier_takes : (mode : Mode) (q : Box Quantifier Global) → takes mode (mirror_term (variant.Quantifier q)) ≡ false
quantifier_takes mode q = ap (takes mode) (mirror.tree_of_quantifier q)

-- the last term by its index
pub last_is : (mode : Mode) (ts : List Term) (d : Term) → 1 ≤ length ts → last_takes mode ts ≡ takes mode (mirror_term (get_or ts (length ts - 1) d))
last_is mode [] d h = absurd (omega (arith, h))
last_is mode (t ∷ []) d h = refl
last_is mode (t ∷ u ∷ us) d h =
    let here : length (u ∷ us) - 1 ≡ length us = omega arith in
    let there : length (t ∷ u ∷ us) - 1 ≡ suc (length us) = omega arith in
    last_is mode (u ∷ us) d (omega arith)
    ∙ ap (λ k. takes mode (mirror_term (get_or (u ∷ us) k d))) here
    ∙ ap (λ k. takes mode (mirror_term (get_or (t ∷ u ∷ us) k d))) (sym there)
