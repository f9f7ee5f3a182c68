-- Items that stand one after another in a class: what they spell, and what the bracket around them holds.
use Rattle.std.proofs.Common.{◌≡◌, refl, sym, ap, ◌∙◌, subst, ℕ, ◌+◌, Bool, false, Some, List, [], ◌∷◌, ◌++◌, length, append-nil, append_assoc, map}
use Rattle.rx_class.proofs.Common.{le-leb, map-append, CharacterClassContents, Member, Members, members, mirror_contents, CodePoint, empty, bracket_of, class_run, character, property}
use Rattle.rx_class.proofs.Common.{ClassToken, ClassEvents, token, class_tokens_of, member_events, more_members_events, AreEarlyMembers, IsEarlyMember, any_strings}
use Rattle.rx_class.proofs.Common.{member_strings, Environment, union_tokens, IsFittingMember, IsFlaggedMember, IsItem, IsPlain, contents, AreSound, IsSound}
use Rattle.std.proofs.lemmas.Bool.{or_parts}
use Rattle.rx_ast.specs.ClassTree as tree
use Rattle.rx_model.specs.Classes.ClassRows.{Place, ClassRow, next_place, fresh}
use Rattle.rx_model.specs.Classes.ClassRuns.{Held}
use Rattle.rx_model.specs.Classes.ClassTokens.{escape}
use Rattle.rx_model.proofs.Classes.ClassWholes.{IsUnion, atom_runs, class_run-append, property_obeys, range_runs}
use Rattle.rx_class.specs.ClassReading.Items.{ArePlain}
use Rattle.rx_class.proofs.SetReading.MembersPushed.{sound_pushed}

-- After an item the bracket is around a union still.
pub record Holds (negative : Bool) (ts : List ClassToken) (from : Held) : Type 0 where
  pub held : Held
  pub union : IsUnion held
  pub run : class_run ts (bracket_of negative from false ∷ []) ≡ Some (bracket_of negative held false ∷ [])

member_holds : (negative : Bool) (from : Held) (m : Member) → IsUnion from → IsEarlyMember m → IsPlain m → member_strings m ≡ false → Holds negative (class_tokens_of (member_events m)) from
member_holds negative from m u early plain none = let r = by m early plain none in record { held = r.0; union = r.1; run = r.2 }
  where
    by : (m : Member) → IsEarlyMember m → IsPlain m → member_strings m ≡ false →
        (held : Held) × IsUnion held × (class_run (class_tokens_of (member_events m)) (bracket_of negative from false ∷ []) ≡ Some (bracket_of negative held false ∷ []))
    by (tree.range r) early plain none = range_runs negative from r.min.kind r.min.value r.max.kind r.max.value [] u early.2 early.1
    by (tree.escape e) early plain none = atom_runs negative from (escape e.kind) [] u refl refl
    by (tree.property p) early plain none = atom_runs negative from (property p.negative p.strings p.name p.value) [] u (property_obeys p.negative p.strings early.1) none
    by (tree.character c) early plain none = atom_runs negative from (character c.kind c.value) [] u (le-leb c.value 0x10FFFF early) refl
    by m early plain none = absurd plain

members_hold : (negative : Bool) (from : Held) (ms : List Member) → IsUnion from → AreEarlyMembers (members ms) → ArePlain ms → any_strings (members ms) ≡ false → Holds negative (union_tokens (members ms)) from
members_hold negative from [] u early plain none = record { held = from; union = u; run = refl }
members_hold negative from (m ∷ ms) u early plain none =
    let p = or_parts (member_strings m) (any_strings (members ms)) none in
    let h = member_holds negative from m u early.0 plain.0 p.0 in
    let g = members_hold negative h.held ms h.union early.1 plain.1 p.1 in
    record {
      held = g.held;
      union = g.union;
      run = class_run-append (class_tokens_of (member_events m)) (union_tokens (members ms)) (bracket_of negative from false ∷ []) (bracket_of negative h.held false ∷ []) h.run ∙ g.run;
    }

-- What holds no class and no class strings is as the grammar asks for.
plain_fitting : (m : Member) → IsPlain m → IsFittingMember m
plain_fitting (tree.nested c) plain = absurd plain
plain_fitting (tree.strings d) plain = absurd plain
plain_fitting m plain = tt

plain_flagged : (m : Member) → IsPlain m → IsEarlyMember m → IsFlaggedMember m
plain_flagged (tree.property p) plain early = early.0
plain_flagged (tree.nested c) plain early = absurd plain
plain_flagged (tree.strings d) plain early = absurd plain
plain_flagged m plain early = tt

plain_sound : (m : Member) → IsPlain m → IsEarlyMember m → IsSound m
plain_sound m plain early = record { fitting = plain_fitting m plain; flagged = plain_flagged m plain early; early = early }

sound_push : (xs ys : List Member) → AreSound (members xs) → ArePlain ys → AreEarlyMembers (members ys) → AreSound (members (xs ++ ys))
sound_push xs [] sound plain early = subst (λ ms. AreSound (members ms)) (sym (append-nil xs)) sound
sound_push xs (y ∷ ys) sound plain early =
    subst (λ ms. AreSound (members ms)) (append_assoc xs (y ∷ []) ys) (sound_push (xs ++ (y ∷ [])) ys (sound_pushed xs y sound (plain_sound y plain.0 early.0)) plain.1 early.1)

module _ (e : Environment) (o : ℕ → ℕ) where
  -- Rows, one after the other.
  pub rows_append : (es fs : ClassEvents) (q : Place) (i : ℕ) (us : List CodePoint) (r : Place) (j : ℕ) (rest : List CodePoint) (s : Place) (k : ℕ) (end : List CodePoint) →
      ClassRow e o es q i us r j rest → ClassRow e o fs r j rest s k end → ClassRow e o (es ++ fs) q i us s k end
  rows_append [] fs q i us r j rest s k end h g =
      subst (λ q. ClassRow e o fs q i us s k end) (sym h.0) (subst (λ i. ClassRow e o fs r i us s k end) (sym h.1) (subst (λ us. ClassRow e o fs r j us s k end) (sym h.2) g))
  rows_append ((token t) ∷ es) fs q i us r j rest s k end h g =
      (h.0, h.1, h.2, h.3, rows_append es fs (next_place e.mode q t h.1) (i + length h.0) h.1 r j rest s k end h.4 g)
  rows_append (edge ∷ es) fs q i us r j rest s k end h g = (h.0, rows_append es fs q i us r j rest s k end h.1 g)

  -- Items stand one after another from place i on to place j, where the rest is left.
  pub record AreItems (negative : Bool) (ms : Members) (i : ℕ) (us : List CodePoint) (j : ℕ) (rest : List CodePoint) : Type 0 where
    pub row : ClassRow e o (more_members_events [] ms) fresh i us fresh j rest
    pub sound : AreSound ms
    pub no_strings : any_strings ms ≡ false
    pub holds : Holds negative (union_tokens ms) empty

  -- some members more
  events_push : (xs ys : List Member) → more_members_events [] (members (xs ++ ys)) ≡ more_members_events [] (members xs) ++ more_members_events [] (members ys)
  events_push [] ys = refl
  events_push (x ∷ xs) ys =
      ap (λ es. member_events x ++ es) (events_push xs ys) ∙ sym (append_assoc (member_events x) (more_members_events [] (members xs)) (more_members_events [] (members ys)))

  tokens_push : (xs ys : List Member) → union_tokens (members (xs ++ ys)) ≡ union_tokens (members xs) ++ union_tokens (members ys)
  tokens_push [] ys = refl
  tokens_push (x ∷ xs) ys =
      ap (λ ts. class_tokens_of (member_events x) ++ ts) (tokens_push xs ys) ∙ sym (append_assoc (class_tokens_of (member_events x)) (union_tokens (members xs)) (union_tokens (members ys)))

  strings_push : (xs ys : List Member) → any_strings (members xs) ≡ false → any_strings (members ys) ≡ false → any_strings (members (xs ++ ys)) ≡ false
  strings_push [] ys h k = k
  strings_push (x ∷ xs) ys h k = let p = or_parts (member_strings x) (any_strings (members xs)) h in rw (p.0) (strings_push xs ys p.1 k)

  members_push : (negative : Bool) (xs ys : List Member) (i : ℕ) (us : List CodePoint) (j : ℕ) (w rest : List CodePoint) → AreItems negative (members xs) i us j (w ++ rest) →
      IsItem e o j ys w rest → AreItems negative (members (xs ++ ys)) i us (j + length w) rest
  members_push negative xs ys i us j w rest h it =
      let g = members_hold negative h.holds.held ys h.holds.union it.early it.plain it.no_strings in
      let outer = bracket_of negative empty false ∷ [] in
      let run =
      ap (λ ts. class_run ts outer) (tokens_push xs ys)
      ∙ class_run-append (union_tokens (members xs)) (union_tokens (members ys)) outer (bracket_of negative h.holds.held false ∷ []) h.holds.run ∙ g.run in
      record {
        row = rw (events_push xs ys) (rows_append (more_members_events [] (members xs)) (more_members_events [] (members ys)) fresh i us fresh j (w ++ rest) fresh (j + length w) rest h.row it.row);
        sound = sound_push xs ys h.sound it.plain it.early;
        no_strings = strings_push xs ys h.no_strings it.no_strings;
        holds = record { held = g.held; union = g.union; run = run };
      }

  pub items_push : (negative : Bool) (body its : List CharacterClassContents) (i : ℕ) (us : List CodePoint) (j : ℕ) (w rest : List CodePoint) →
      AreItems negative (contents body) i us j (w ++ rest) → IsItem e o j (map mirror_contents its) w rest → AreItems negative (contents (body ++ its)) i us (j + length w) rest
  items_push negative body its i us j w rest h is =
      rw (map-append mirror_contents body its) (members_push negative (map mirror_contents body) (map mirror_contents its) i us j w rest h is)
