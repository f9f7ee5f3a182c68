-- The events of what has been read of a pattern.
use Rattle.std.proofs.Common.{◌≡◌, refl, ap, sym, ◌∙◌, ℕ, List, [], ◌∷◌, ◌++◌, append_assoc}
use Rattle.std.proofs.lemmas.List.{append-nil}
use Rattle.rx_parser.proofs.Common.{Span, Disjunction, Pattern, Term, mirror_term, mirror_disjunction, Mode, Event, Events, enter, leave, token, within, events, node_events, opener_event, term_events, disjunction_events, takes, group_takes, Opener, closer, opener_of, Builder, Frame, Level}
use Rattle.rx_parser.proofs.Common.{opener_tree, frame_events, frames_events, builder_events, openers_onto, level_events, GroupKind}
use Rattle.rx_ast.specs.Tree as tree

pub frames_push : (fs : List Frame) (f : Frame) → frames_events (fs ++ (f ∷ [])) ≡ frames_events fs ++ frame_events f
frames_push [] f = append-nil (frame_events f)
frames_push (g ∷ fs) f = ap (λ z. frame_events g ++ z) (frames_push fs f) ∙ sym (append_assoc (frame_events g) (frames_events fs) (frame_events f))

-- nothing has been read
pub builder_new : (b : Builder) → b.frames ≡ [] → level_events b.level ≡ enter b.start ∷ enter b.start ∷ [] → builder_events b ≡ enter b.start ∷ enter b.start ∷ enter b.start ∷ []
unfolding builder_events
builder_new b e h = ap (λ w. enter b.start ∷ (frames_events w ++ level_events b.level)) e ∙ ap (λ w. enter b.start ∷ w) h

-- the innermost disjunction grows at its end
pub builder_level : (b : Builder) (l : Level) (es : Events) → level_events l ≡ level_events b.level ++ es → builder_events (record b { level = l }) ≡ builder_events b ++ es
unfolding builder_events
builder_level b l es e =
    ap (λ w. enter b.start ∷ (frames_events b.frames ++ w)) e ∙ ap (λ w. enter b.start ∷ w) (sym (append_assoc (frames_events b.frames) (level_events b.level) es))

-- the innermost disjunction changes, and what stands before it stays
pub builder_inner : (b : Builder) (P : Events → Events → Type 0) (l : Level) → ((front : Events) → P (front ++ level_events b.level) (front ++ level_events l)) → P (builder_events b) (builder_events (record b { level = l }))
unfolding builder_events
builder_inner b P l h = h (enter b.start ∷ frames_events b.frames)

-- a group begins
pub builder_open : (b : Builder) (fs : List Frame) (l : Level) (group_kind : GroupKind) (at after : ℕ) → fs ≡ b.frames ++ (record { outer = b.level; start = at; group_kind = group_kind } ∷ [])
    → level_events l ≡ enter after ∷ enter after ∷ [] → builder_events (record b { frames = fs; level = l }) ≡ builder_events b ++ (enter at ∷ opener_event (opener_tree group_kind) ∷ enter after ∷ enter after ∷ [])
unfolding builder_events
builder_open b fs l group_kind at after e h =
    let f : Frame = record { outer = b.level; start = at; group_kind = group_kind } in
    let o : Event = opener_event (opener_tree group_kind) in
    ap (λ w. enter b.start ∷ (frames_events w ++ level_events l)) e
    ∙ ap (λ w. enter b.start ∷ (w ++ level_events l)) (frames_push b.frames f)
    ∙ ap (λ w. enter b.start ∷ ((frames_events b.frames ++ frame_events f) ++ w)) h
    ∙ ap (λ w. enter b.start ∷ w)
    (append_assoc (frames_events b.frames) (frame_events f) (enter after ∷ enter after ∷ [])
    ∙ ap (λ w. frames_events b.frames ++ w) (append_assoc (level_events b.level) (enter at ∷ o ∷ []) (enter after ∷ enter after ∷ []))
    ∙ sym (append_assoc (frames_events b.frames) (level_events b.level) (enter at ∷ o ∷ enter after ∷ enter after ∷ [])))

-- what stands before a group, its outer disjunction, its beginning and its inner disjunction
close_shape : (before outer inner : Events) (b o w x y z : Event) →
    before ++ (outer ++ (b ∷ o ∷ (((inner ++ (w ∷ x ∷ [])) ++ (y ∷ [])) ++ (z ∷ [])))) ≡ ((before ++ (outer ++ (b ∷ o ∷ []))) ++ inner) ++ (w ∷ x ∷ y ∷ z ∷ [])
close_shape before outer inner b o w x y z =
    let rest : Events = w ∷ x ∷ y ∷ z ∷ [] in
    ap (λ v. before ++ (outer ++ (b ∷ o ∷ v))) (append_assoc (inner ++ (w ∷ x ∷ [])) (y ∷ []) (z ∷ []) ∙ append_assoc inner (w ∷ x ∷ []) (y ∷ z ∷ []))
    ∙ ap (λ v. before ++ v) (sym (append_assoc outer (b ∷ o ∷ []) (inner ++ rest)))
    ∙ sym (append_assoc before (outer ++ (b ∷ o ∷ [])) (inner ++ rest))
    ∙ sym (append_assoc (before ++ (outer ++ (b ∷ o ∷ []))) inner rest)

group_events : (t : Term) (s : Span) (o : tree.Opener) (d : Disjunction) → mirror_term t ≡ tree.group s o (mirror_disjunction d).0 (mirror_disjunction d).1
    → term_events t ≡ within s (opener_event o ∷ (disjunction_events d ++ (token closer ∷ [])))
unfolding term_events disjunction_events
group_events t s o d e = ap node_events e

-- the innermost group ends
pub builder_close : (b : Builder) (fs : List Frame) (f : Frame) (d : Disjunction) (t : Term) (l : Level) (at after : ℕ) → b.frames ≡ fs ++ (f ∷ [])
    → disjunction_events d ≡ level_events b.level ++ (leave at ∷ leave at ∷ [])
    → mirror_term t ≡ tree.group (record { start = f.start; end = after }) (opener_tree f.group_kind) (mirror_disjunction d).0 (mirror_disjunction d).1
    → level_events l ≡ level_events f.outer ++ term_events t
    → builder_events (record b { frames = fs; level = l }) ≡ builder_events b ++ (leave at ∷ leave at ∷ token closer ∷ leave after ∷ [])
unfolding builder_events
builder_close b fs f d t l at after e h g k =
    let o : Event = opener_event (opener_tree f.group_kind) in
    let s : Span = record { start = f.start; end = after } in
    let made : level_events l ≡ level_events f.outer ++ (enter f.start ∷ o ∷ (((level_events b.level ++ (leave at ∷ leave at ∷ [])) ++ (token closer ∷ [])) ++ (leave after ∷ []))) =
    k ∙ ap (λ w. level_events f.outer ++ w) (group_events t s (opener_tree f.group_kind) d g ∙ ap (λ w. within s (o ∷ (w ++ (token closer ∷ [])))) h) in
    ap (λ w. enter b.start ∷ (frames_events fs ++ w)) made
    ∙ ap (λ w. enter b.start ∷ w) (close_shape (frames_events fs) (level_events f.outer) (level_events b.level) (enter f.start) o (leave at) (leave at) (token closer) (leave after))
    ∙ ap (λ w. enter b.start ∷ ((w ++ level_events b.level) ++ (leave at ∷ leave at ∷ token closer ∷ leave after ∷ []))) (sym (ap frames_events e ∙ frames_push fs f))

-- the pattern ends
pub builder_finish : (b : Builder) (p : Pattern) (at : ℕ) → b.frames ≡ [] → p.span ≡ record { start = b.start; end = at } → disjunction_events p.body ≡ level_events b.level ++ (leave at ∷ leave at ∷ [])
    → events p ≡ builder_events b ++ (leave at ∷ leave at ∷ leave at ∷ [])
unfolding builder_events
builder_finish b p at e s h =
    ap (λ w. within p.span w) h
    ∙ ap (λ w. within w (level_events b.level ++ (leave at ∷ leave at ∷ []))) s
    ∙ ap (λ w. enter b.start ∷ w) (append_assoc (level_events b.level) (leave at ∷ leave at ∷ []) (leave at ∷ []))
    ∙ ap (λ w. enter b.start ∷ ((w ++ level_events b.level) ++ (leave at ∷ leave at ∷ leave at ∷ []))) (sym (ap frames_events e))

opened_push : (fs : List Frame) (f : Frame) (outer : List Opener) → openers_onto (fs ++ (f ∷ [])) outer ≡ opener_of (opener_tree f.group_kind) ∷ openers_onto fs outer
opened_push [] f outer = refl
opened_push (g ∷ fs) f outer = opened_push fs f (opener_of (opener_tree g.group_kind) ∷ outer)

pub opened_after : (fs gs : List Frame) (f : Frame) → gs ≡ fs ++ (f ∷ []) → openers_onto gs [] ≡ opener_of (opener_tree f.group_kind) ∷ openers_onto fs []
opened_after fs gs f e = ap (λ x. openers_onto x []) e ∙ opened_push fs f []

some_opened : (fs : List Frame) (outer : List Opener) (o : Opener) → openers_onto fs (o ∷ outer) ≡ [] → ⊥
some_opened [] outer o e = cc
some_opened (f ∷ fs) outer o e = some_opened fs (o ∷ outer) (opener_of (opener_tree f.group_kind)) e

-- where nothing is open, no frame is there
pub frames_none : (fs : List Frame) → openers_onto fs [] ≡ [] → fs ≡ []
frames_none [] e = refl
frames_none (f ∷ fs) e = absurd (some_opened fs [] (opener_of (opener_tree f.group_kind)) e)

pub group_takes_is : (mode : Mode) (t : Term) (s : Span) (o : tree.Opener) (d : Disjunction) → mirror_term t ≡ tree.group s o (mirror_disjunction d).0 (mirror_disjunction d).1
    → takes mode (mirror_term t) ≡ group_takes mode (opener_of o)
group_takes_is mode t s o d e = ap (takes mode) e
