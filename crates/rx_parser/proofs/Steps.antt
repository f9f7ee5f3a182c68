-- Each token moves the reading on.
use Rattle.std.proofs.Common.{◌≡◌, refl, ap, sym, ◌∙◌, subst, ℕ, ◌+◌, Bool, true, false, Option, Some, List, [], ◌∷◌, ◌++◌, length, append_assoc, Result, Ok, Err, OnOk}
use Rattle.rx_parser.proofs.Common.{CodePoint, Pattern, class_span, Environment, Events, enter, leave, token, events, tokens_of, Row, Spells, run, IsWellMade, Token, Opener, quantifier, tokens_of-append, row_append, row_split, Builder, builder_events, openers, ready, IsGood, Repeats, IsAt, fixed_of}
use Rattle.rx_parser.proofs.Common.{Mode, Rules, ClassRow, IsClassSpanned, Place, next_place, fresh, outside, run-append}
use Rattle.rx_ast.specs.ClassTree.{Class, class}
use Rattle.rx_model.specs.Classes.ClassTokens as in_class
use Rattle.rx_model.specs.Classes.ClassTokens.{ClassEvents, members_events, operator_events}

-- A builder has taken events, after which these groups are open, and a quantifier may follow or not.
pub record Grows (b c : Builder) (es : Events) (open_groups : List Opener) (ready_then : Bool) : Type 0 where
  pub events : builder_events c ≡ builder_events b ++ es
  pub openers_are : openers c ≡ open_groups
  pub ready_is : ready c ≡ ready_then
  pub good : IsGood b → IsGood c
  pub fixed : fixed_of c ≡ fixed_of b

-- From the clauses of a call of the builder that ends well, to what follows from all of them
pub grown_on_ok : {A E P : Type 0} {b c : Builder} {es : Events} {open_groups : List Opener} {ready_then : Bool} (result : Result A E) → OnOk result (builder_events c ≡ builder_events b ++ es)
    → OnOk result (openers c ≡ open_groups) → OnOk result (ready c ≡ ready_then) → OnOk result (IsGood b → IsGood c) → fixed_of c ≡ fixed_of b → (Grows b c es open_groups ready_then → P) → OnOk result P
grown_on_ok (Ok it) e o r g f follows = follows (record { events = e; openers_are = o; ready_is = r; good = g; fixed = f })
grown_on_ok (Err it) e o r g f follows = tt

-- A builder has made the last node the body of a quantifier.
pub record Quantifies (b c : Builder) (min : ℕ) (max : Option ℕ) (greedy : Bool) (after : ℕ) : Type 0 where
  pub ready_was : ready b ≡ true
  pub events : Repeats (builder_events b) (builder_events c) min max greedy after
  pub openers_are : openers c ≡ openers b
  pub ready_is : ready c ≡ false
  pub good : IsGood b → IsGood c
  pub fixed : fixed_of c ≡ fixed_of b

abbrev state : List Opener → Bool → Option (List Opener × Bool)
state open_groups ready = Some (open_groups, ready)

same_state : (os ps : List Opener) (q r : Bool) → os ≡ ps → q ≡ r → state os q ≡ state ps r
same_state os ps q r e f = ap (λ x. state x q) e ∙ ap (λ x. state ps x) f

-- A class begins and ends at the offsets of its places.
row_ends : (e : Environment) (o : ℕ → ℕ) (es : ClassEvents) (n : ℕ) (p q : Place) (i j : ℕ) (us rest : List CodePoint) → ClassRow e o (es ++ (in_class.leave n ∷ [])) p i us q j rest → n ≡ o j
row_ends e o [] n p q i j us rest h = h.0 ∙ ap o h.1.1
row_ends e o ((in_class.enter k) ∷ es) n p q i j us rest h = row_ends e o es n p q i j us rest h.1
row_ends e o ((in_class.leave k) ∷ es) n p q i j us rest h = row_ends e o es n p q i j us rest h.1
row_ends e o ((in_class.token t) ∷ es) n p q i j us rest h = row_ends e o es n (next_place e.mode p t h.1) q (i + length h.0) j h.1 rest h.4

pub class_start : (e : Environment) (o : ℕ → ℕ) (i : ℕ) (c : Class) (w rest : List CodePoint) → IsClassSpanned e o i c w rest → (class_span c).start ≡ o i
class_start e o i (class s negative may kind ms) w rest h = h.row.0

pub class_end : (e : Environment) (o : ℕ → ℕ) (i : ℕ) (c : Class) (w rest : List CodePoint) → IsClassSpanned e o i c w rest → (class_span c).end ≡ o (i + length w)
class_end e o i (class s negative may kind ms) w rest h =
    row_ends e o (in_class.token (in_class.bracket negative) ∷ (members_events (operator_events kind) ms ++ (in_class.token in_class.closer ∷ []))) s.end outside fresh i (i + length w) (w ++ rest) rest h.row.1

-- a quantifier adds its token
pub quantifier_adds : {b c : Builder} {min : ℕ} {max : Option ℕ} {greedy : Bool} {after : ℕ} → Quantifies b c min max greedy after
    → tokens_of (builder_events c) ≡ tokens_of (builder_events b) ++ (quantifier min max greedy ∷ [])
quantifier_adds {b} {c} {min} {max} {greedy} {after} q =
    let t : Token = quantifier min max greedy in
    let head : Events = q.events.0 in
    let start : ℕ = q.events.1 in
    let back : Events = q.events.2 in
    let ending : Events = token t ∷ leave after ∷ [] in
    ap tokens_of q.events.4 ∙ tokens_of-append head (enter start ∷ enter start ∷ (back ++ ending))
    ∙ ap (λ x. tokens_of head ++ x) (tokens_of-append back ending) ∙ sym (append_assoc (tokens_of head) (tokens_of back) (t ∷ []))
    ∙ ap (λ x. x ++ (t ∷ [])) (sym (tokens_of-append head (enter start ∷ back)) ∙ ap tokens_of (sym q.events.3))

module _ (e : Environment) where
  -- more events at the end
  pub moves : (o : ℕ → ℕ) (b c : Builder) (es : Events) (us : List CodePoint) (i j : ℕ) (rest more : List CodePoint) (open_groups : List Opener) (ready_then : Bool) → Grows b c es open_groups ready_then
      → Row e o es i rest j more → run e.mode (tokens_of es) (openers b) (ready b) ≡ Some (open_groups, ready_then) → IsAt e o b us i rest → IsAt e o c us j more
  moves o b c es us i j rest more open_groups ready_then g r x h = record {
    row = subst (λ z. Row e o z 0 us j more) (sym g.events) (row_append e o (builder_events b) es 0 us i rest j more h.row r);
    good = g.good h.good;
    state = ap (λ z. run e.mode (tokens_of z) [] false) g.events ∙ ap (λ z. run e.mode z [] false) (tokens_of-append (builder_events b) es)
        ∙ run-append e.mode (tokens_of (builder_events b)) (tokens_of es) [] false (openers b) (ready b) h.state
        ∙ x ∙ same_state open_groups (openers c) ready_then (ready c) (sym g.openers_are) (sym g.ready_is);
    mode = ap (λ (k : Mode × Rules × ℕ). k.0) g.fixed ∙ h.mode;
  }

  -- nothing has been read
  pub begun : (o : ℕ → ℕ) (b : Builder) (us : List CodePoint) (start : ℕ) → start ≡ o 0 → builder_events b ≡ enter start ∷ enter start ∷ enter start ∷ [] → openers b ≡ [] → ready b ≡ false
      → IsGood b → b.mode ≡ e.mode → IsAt e o b us 0 us
  begun o b us start a m q r g d = record {
    row = subst (λ z. Row e o z 0 us 0 us) (sym m) (a, (a, (a, (refl, refl))));
    good = g;
    state = ap (λ z. run e.mode (tokens_of z) [] false) m ∙ same_state [] (openers b) false (ready b) (sym q) (sym r);
    mode = d;
  }

  -- a quantifier after what may have one
  pub repeats : (o : ℕ → ℕ) (b c : Builder) (min : ℕ) (max : Option ℕ) (greedy : Bool) (after : ℕ) (us : List CodePoint) (i : ℕ) (w more : List CodePoint) → Quantifies b c min max greedy after
      → after ≡ o (i + length w) → Spells e (quantifier min max greedy) w more → IsAt e o b us i (w ++ more) → IsAt e o c us (i + length w) more
  repeats o b c min max greedy after us i w more q z s h =
      let t : Token = quantifier min max greedy in
      let j : ℕ = i + length w in
      let head : Events = q.events.0 in
      let start : ℕ = q.events.1 in
      let back : Events = q.events.2 in
      let ending : Events = token t ∷ leave after ∷ [] in
      let sp = row_split e o head (enter start ∷ back) 0 us i (w ++ more) (subst (λ x. Row e o x 0 us i (w ++ more)) q.events.3 h.row) in
      let tail : Row e o ending i (w ++ more) j more = (w, more, refl, s, (z, (refl, refl))) in
      let grown : Row e o (back ++ ending) sp.0 sp.1 j more = row_append e o back ending sp.0 sp.1 i (w ++ more) j more sp.3.1 tail in
      record {
        row = subst (λ x. Row e o x 0 us j more) (sym q.events.4) (row_append e o head (enter start ∷ enter start ∷ (back ++ ending)) 0 us sp.0 sp.1 j more sp.2 (sp.3.0, (sp.3.0, grown)));
        good = q.good h.good;
        state = ap (λ x. run e.mode x [] false) (quantifier_adds q) ∙ run-append e.mode (tokens_of (builder_events b)) (t ∷ []) [] false (openers b) (ready b) h.state
            ∙ ap (λ x. run e.mode (t ∷ []) (openers b) x) q.ready_was ∙ same_state (openers b) (openers c) false (ready c) (sym q.openers_are) (sym q.ready_is);
        mode = ap (λ (k : Mode × Rules × ℕ). k.0) q.fixed ∙ h.mode;
      }

  -- all has been read
  pub finished : (o : ℕ → ℕ) (b : Builder) (us : List CodePoint) (at : ℕ) (p : Pattern) → at ≡ o (length us) → IsAt e o b us (length us) []
      → events p ≡ builder_events b ++ (leave at ∷ leave at ∷ leave at ∷ []) → (IsGood b → IsWellMade b.mode p) → Row e o (events p) 0 us (length us) [] × IsWellMade e.mode p
  finished o b us at p a h m g = (
    subst (λ z. Row e o z 0 us (length us) []) (sym m)
        (row_append e o (builder_events b) (leave at ∷ leave at ∷ leave at ∷ []) 0 us (length us) [] (length us) [] h.row (a, (a, (a, (refl, refl))))),
    subst (λ x. IsWellMade x p) h.mode (g h.good),
  )
