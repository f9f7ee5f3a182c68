-- What stands so far in the innermost open group: it opens and closes groups of its own alone.
use Rattle.std.proofs.Common.{◌≡◌, refl, ap, sym, ◌∙◌, subst, ℕ, ◌+◌, Bool, false, Some, List, [], ◌∷◌, ◌++◌, map, length, drop, append_assoc, length-append, length-drop, arith}
use Rattle.std.proofs.lemmas.List.{append-nil}
use Rattle.rx_parser.proofs.Common.{Alternative, Term, mirror_term, mirror_alternative, CodePoint, offset_at, Mode, Obeys, Environment, Events, enter, leave, token, modified, nodes_events, opener_event, term_events, alternative_events, tokens_of, AreObeying, IsInside, IsReached, text_environment}
use Rattle.rx_parser.proofs.Common.{text_groups, text_names, Row, TokenRow, run, takes, Token, Opener, bar, opener, opener_of, tokens_of-append, before, before-append, before_opener, before_within, row_split, row_tokens, Builder, Frame, Level, builder_events, frame_events, frames_events}
use Rattle.rx_parser.proofs.Common.{openers_onto, opener_tree, AreGoodAlternatives, AreGoodFrames, AreGoodTerms, IsGood, IsGoodFrame, IsGoodLevel, with_bars, level_events, strung, IsParsing, Rules, Passes, node_runs, nodes_run}
use Rattle.rx_ast.specs.Tree as tree
use Rattle.rx_model.specs.Trees.Events as event
use Rattle.rx_model.proofs.Refusals.BlockedPlaces.{last_all}
use Rattle.rx_parser.proofs.FrameEvents.{frames_push}
use Rattle.rx_parser.proofs.Goods.{split}
use Rattle.rx_model.proofs.Refusals.InnermostGroups.{first_all}

module _ (mode : Mode) where
  -- one row of events after another
  both_pass : (es fs : Events) (open_groups : List Opener) (ready : Bool) → Passes mode es open_groups ready → ((between : Bool) → Passes mode fs open_groups between) → Passes mode (es ++ fs) open_groups ready
  both_pass es fs open_groups ready p more =
      let q = more p.0 in
      (q.0, λ ts. ap (λ ss. run mode ss open_groups ready) (before-append es fs ts) ∙ p.1 (before fs ts) ∙ q.1 ts)

  term_passes : (t : Term) → AreGoodTerms mode (t ∷ []) → (open_groups : List Opener) (ready : Bool) → Passes mode (term_events t) open_groups ready
  unfolding term_events
  term_passes t g open_groups ready = (takes mode (mirror_term t), λ ts. node_runs mode (mirror_term t) g.0 ts open_groups ready)

  terms_pass : (terms : List Term) → AreGoodTerms mode terms → (open_groups : List Opener) (ready : Bool) → Passes mode (strung (map term_events terms)) open_groups ready
  terms_pass [] g open_groups ready = (ready, λ ts. refl)
  terms_pass (t ∷ terms) g open_groups ready =
      both_pass (term_events t) (strung (map term_events terms)) open_groups ready (term_passes t (g.0, tt) open_groups ready) (λ between. terms_pass terms g.1 open_groups between)

  alternative_passes : (a : Alternative) → AreGoodAlternatives mode (a ∷ []) → (open_groups : List Opener) (ready : Bool) → Passes mode (alternative_events a) open_groups ready
  unfolding alternative_events
  alternative_passes a g open_groups ready =
      let it = mirror_alternative a in
      let p = nodes_run mode it.1 g.0 open_groups ready in
      (p.0, λ ts. ap (λ ss. run mode ss open_groups ready) (before_within it.0 (nodes_events it.1) ts) ∙ p.1 ts)

  -- alternatives that a bar ends
  barred_pass : (all : List Alternative) → AreGoodAlternatives mode all → (open_groups : List Opener) (ready : Bool) → Passes mode (with_bars (map alternative_events all)) open_groups ready
  barred_pass [] g open_groups ready = (ready, λ ts. refl)
  barred_pass (a ∷ all) g open_groups ready =
      both_pass (alternative_events a) (token bar ∷ with_bars (map alternative_events all)) open_groups ready (alternative_passes a (g.0, tt) open_groups ready) (λ between.
      let p = barred_pass all g.1 open_groups false in
      (p.0, p.1))

  -- a disjunction that is not yet at its end
  pub level_passes : (l : Level) → IsGoodLevel mode l → (open_groups : List Opener) (ready : Bool) → Passes mode (level_events l) open_groups ready
  unfolding level_events IsGoodLevel
  level_passes l g open_groups ready =
      let p = both_pass (with_bars (map alternative_events l.alternatives)) (enter l.alternative_start ∷ strung (map term_events l.terms)) open_groups ready
      (barred_pass l.alternatives g.0 open_groups ready) (λ between. let q = terms_pass l.terms g.1 open_groups between in (q.0, q.1)) in
      (p.0, p.1)

  -- After what stands before some open groups, and their beginnings, these are open after others.
  frames_open : (fs : List Frame) → AreGoodFrames mode fs → (open_groups : List Opener) (ready : Bool) →
      (after : Bool) × ((ts : List Token) → run mode (before (frames_events fs) ts) open_groups ready ≡ run mode ts (openers_onto fs open_groups) after)
  frames_open [] g open_groups ready = (ready, λ ts. refl)
  frames_open (f ∷ fs) g open_groups ready =
      let o = opener_tree f.group_kind in
      let p = level_passes f.outer g.0 open_groups ready in
      let q = frames_open fs g.1 (opener_of o ∷ open_groups) false in (
        q.0,
        λ ts. ap (λ ss. run mode ss open_groups ready)
            (before-append (frame_events f) (frames_events fs) ts
            ∙ before-append (level_events f.outer) (enter f.start ∷ opener_event o ∷ []) (before (frames_events fs) ts)
            ∙ ap (before (level_events f.outer)) (before_opener o [] (before (frames_events fs) ts)))
            ∙ p.1 (opener (opener_of o) ∷ before (frames_events fs) ts) ∙ q.1 ts,
      )

opener_tokens : (o : tree.Opener) (es : Events) → tokens_of (opener_event o ∷ es) ≡ opener (opener_of o) ∷ tokens_of es
opener_tokens o es = sym (append-nil (tokens_of (opener_event o ∷ es))) ∙ before_opener o es [] ∙ ap (λ ts. opener (opener_of o) ∷ ts) (append-nil (tokens_of es))

-- a row takes as many units as it moves on
row_places : (e : Environment) (o : ℕ → ℕ) (es : Events) (i : ℕ) (us : List CodePoint) (j : ℕ) (rest : List CodePoint) → Row e o es i us j rest → i + length us ≡ j + length rest
row_places e o [] i us j rest r = omega (arith, r.0, ap length r.1)
row_places e o ((enter n) ∷ es) i us j rest r = row_places e o es i us j rest r.1
row_places e o ((leave n) ∷ es) i us j rest r = row_places e o es i us j rest r.1
row_places e o ((token t) ∷ es) i us j rest r = omega (arith, row_places e o es (i + length r.0) r.1 j rest r.4, ap length r.2, length-append r.0 r.1)
row_places e o ((event.inside c) ∷ es) i us j rest r = omega (arith, row_places e o es (i + length r.0) r.1 j rest r.4, ap length r.2, length-append r.0 r.1)
row_places e o ((modified m) ∷ es) i us j rest r = omega (arith, row_places e o es (i + length r.0) r.1 j rest r.4, ap length r.2, length-append r.0 r.1)

row_from_start : (e : Environment) (o : ℕ → ℕ) (es : Events) (us : List CodePoint) (j : ℕ) (rest : List CodePoint) → Row e o es 0 us j rest → length us ≡ j + length rest
row_from_start e o es us j rest r = let k = row_places e o es 0 us j rest r in omega (arith, k)

module _ (b : Builder) (outer : List Frame) (group : Frame) (e : b.frames ≡ outer ++ (group ∷ [])) where
  -- what has been read before the innermost group
  abbrev head : Events
  head = enter b.start ∷ (frames_events outer ++ level_events group.outer)

  -- the group so far
  abbrev tail : Events
  tail = enter group.start ∷ opener_event (opener_tree group.group_kind) ∷ level_events b.level

  parted : builder_events b ≡ head ++ tail
  unfolding builder_events
  parted =
      let start : Events = enter group.start ∷ opener_event (opener_tree group.group_kind) ∷ [] in
      ap (λ fs. enter b.start ∷ (frames_events fs ++ level_events b.level)) e
      ∙ ap (λ es. enter b.start ∷ (es ++ level_events b.level)) (frames_push outer group)
      ∙ ap (λ es. enter b.start ∷ es)
      (append_assoc (frames_events outer) (frame_events group) (level_events b.level)
      ∙ ap (λ es. frames_events outer ++ es) (append_assoc (level_events group.outer) start (level_events b.level))
      ∙ sym (append_assoc (frames_events outer) (level_events group.outer) tail))

  -- before the group its outer groups are open, and in it none but itself
  head_open : IsGood b → (ready : Bool) × (run b.mode (tokens_of head) [] false ≡ Some (openers_onto outer [], ready))
  unfolding IsGood
  head_open g =
      let mode = b.mode in
      let s = split (IsGoodFrame mode) outer group (subst (AreGoodFrames mode) e g.0) in
      let p = frames_open mode outer s.0 [] false in
      let q = level_passes mode group.outer s.1 (openers_onto outer []) p.0 in (
        q.0,
        ap (λ ts. run mode ts [] false) (sym (append-nil (tokens_of head)) ∙ before-append (frames_events outer) (level_events group.outer) [])
            ∙ p.1 (before (level_events group.outer) []) ∙ q.1 [],
      )

  inside_closed : IsGood b → (ready : Bool) × (run b.mode (tokens_of (level_events b.level)) [] false ≡ Some ([], ready))
  unfolding IsGood
  inside_closed g =
      let p = level_passes b.mode b.level g.1 [] false in
      (p.0, ap (λ ts. run b.mode ts [] false) (sym (append-nil (tokens_of (level_events b.level)))) ∙ p.1 [])

-- the innermost group begins at some place, and all after it stands in it
pub inside : {mode : Mode} {rules : Rules} (us : List CodePoint) (first added : ℕ) (b : Builder) (place : ℕ) → IsParsing mode rules us first added b place → (outer : List Frame) (group : Frame) → b.frames ≡ outer ++ (group ∷ [])
    → (from : ℕ) × IsInside mode rules us from (opener_of (opener_tree group.group_kind)) place (drop place us) × (group.start ≡ offset_at first us from + added)
inside {mode} {rules} us first added b place h outer group e =
    let env : Environment = text_environment mode rules us in
    let o : ℕ → ℕ = λ i. offset_at first us i + added in
    let rest : List CodePoint = drop place us in
    let it = opener_tree group.group_kind in
    let before_group : Events = head b outer group e in
    let in_group : Events = opener_event it ∷ level_events b.level in
    let whole = parted b outer group e in
    let s = row_split env o before_group (enter group.start ∷ in_group) 0 us place rest (subst (λ es. Row env o es 0 us place rest) whole h.at.row) in
    let owed : AreObeying mode us (tokens_of before_group ++ tokens_of in_group) = subst (AreObeying mode us) (ap tokens_of whole ∙ tokens_of-append before_group (enter group.start ∷ in_group)) h.obey in
    let P : Token → Type 0 = Obeys (text_groups mode us) (text_names mode us) in
    let shown = opener_tokens it (level_events b.level) in
    let group_kind = head_open b outer group e h.at.good in
    let closed = inside_closed b outer group e h.at.good in
    let reached : IsReached mode rules us s.0 (openers_onto outer []) group_kind.0 s.1 = record {
      tokens = tokens_of before_group;
      row = row_tokens env o before_group 0 us s.0 s.1 s.2;
      place_is = row_from_start env o before_group us s.0 s.1 s.2;
      accepted = subst (λ m. run m (tokens_of before_group) [] false ≡ Some (openers_onto outer [], group_kind.0)) h.at.mode group_kind.1;
      obey = first_all P (tokens_of before_group) (tokens_of in_group) owed;
    } in (
      s.0,
      record {
        open_groups = openers_onto outer [];
        ready = group_kind.0;
        at_group = s.1;
        reached = reached;
        inside = tokens_of (level_events b.level);
        row = subst (λ ts. TokenRow env ts s.1 rest) shown (row_tokens env o in_group s.0 s.1 place rest s.3.1);
        place_is = omega (arith, h.within, length-drop place us);
        ready_inside = closed.0;
        accepted = subst (λ m. run m (tokens_of (level_events b.level)) [] false ≡ Some ([], closed.0)) h.at.mode closed.1;
        obey = subst (AreObeying mode us) shown (last_all P (tokens_of before_group) (tokens_of in_group) owed);
      },
      s.3.0,
    )
