-- Where a cause holds no reading goes on: no place beyond is reached, and the end of the text only with a group open.
use Rattle.std.proofs.Common.{◌≡◌, ◌≢◌, refl, ap, sym, ◌∙◌, subst, ℕ, ◌+◌, ◌<◌, ◌≤◌, Bool, true, false, Option, Some, List, [], ◌∷◌, ◌++◌, length, arith, length-append}
use Rattle.std.proofs.lemmas.Bool.Decides.{nat_tests}
use Rattle.std.proofs.lemmas.List.Elements.{All-append}
use Rattle.rx_base.specs.declared.diagnostic.Diagnostic.{Diagnostic}
use Rattle.rx_ast.specs.declared.term.Pattern.{Pattern}
use Rattle.rx_units.specs.declared.code_point.CodePoint.{CodePoint}
use Rattle.rx_units.specs.Units.{values}
use Rattle.rx_model.specs.declared.mode.Mode.{Mode}
use Rattle.rx_model.specs.Refusals.Causes as cause
use Rattle.rx_model.specs.Refusals.ClassCauses.{IsClassCause}
use Rattle.rx_model.specs.Refusals.Causes.{BeginsWithPair, HasBraces, IsCauseAtPlace}
use Rattle.rx_model.specs.Trees.Early.{Obeys}
use Rattle.rx_model.specs.Inputs.Environment.{Environment, is_sets}
use Rattle.rx_model.specs.Refusals.EscapeCauses as escape
use Rattle.rx_model.specs.Refusals.EscapeCauses.{IsEscapeCause, IsPropertyCause}
use Rattle.rx_model.specs.Refusals.Firsts.{NoneBeyond}
use Rattle.rx_model.specs.Reading.Fronts.{backslash_front, front, property_token}
use Rattle.rx_model.specs.Groups.Groups.{BeginsName, of_group, of_reference, EndsName}
use Rattle.rx_model.specs.FirstPass.Marks.{starts}
use Rattle.rx_model.specs.Properties.PropertyFronts.{PropertyRead, property_read, no_property, property_front}
use Rattle.rx_model.specs.Quantifiers.Quantifiers as limits
use Rattle.rx_model.specs.Quantifiers.Quantifiers.{PassesLimit}
use Rattle.rx_model.specs.Refusals.Reached.{IsInside, IsPlace, IsReached, text_environment, text_groups, text_names}
use Rattle.rx_model.specs.Reading.Reading.{Reads}
use Rattle.rx_model.specs.Reading.Rows.{Spells}
use Rattle.rx_model.specs.Trees.Shapes.{run, group_takes}
use Rattle.rx_model.specs.Refusals.Stops.{IsStop}
use Rattle.rx_model.specs.Trees.Token.{Token, Opener, boundary, character, dot, class_escape, property, class, indexed, named, opener, closer, bar, quantifier}
use Rattle.rx_model.specs.declared.rules.Rules.{Rules}
use Rattle.rx_model.proofs.Characters.Backslashes.{property_front_token}
use Rattle.rx_model.proofs.Quantifiers.BlockedCounts.{brace_first, blocked_limit, blocked_numbers, not_in_order, not_small}
use Rattle.rx_model.proofs.Refusals.BlockedFronts.{blocked_duplicated, blocked_empty, blocked_escape, blocked_hex, blocked_name, blocked_reference, blocked_shared, blocked_unknown}
use Rattle.rx_model.proofs.Refusals.OnlyFirst.{AreCompared}
use Rattle.rx_model.proofs.Refusals.BlockedPlaces.{IsBlocked, blocked_none, blocked_token, next, none_goes_on, same_token}
use Rattle.rx_model.proofs.Reading.Fronts.{front_by_values, front_spelled, spelled_front, spelled_some}
use Rattle.rx_model.proofs.Trees.Joins.{token_row_append}
use Rattle.rx_model.proofs.Refusals.Places.{ahead, same_place, read_to_end}
use Rattle.rx_model.proofs.Properties.PropertyRefusals.{cause_begins_no_property, cause_unicode, property_first}
use Rattle.rx_model.proofs.Trees.Runs.{run-append}
use Rattle.rx_model.proofs.Refusals.Stops.{closer_front, stop_front}

-- Where no token stands that obeys no place beyond is reached.
pub blocked_beyond : (mode : Mode) (rules : Rules) (us : List CodePoint) (f : ℕ) (rest : List CodePoint) → IsPlace mode rules us f rest → IsBlocked mode rules us rest → NoneBeyond mode rules us f
blocked_beyond mode rules us f rest a d g back b l =
    let h = ahead mode rules us a.reached b.reached l in
    none_goes_on mode rules us rest back d h.t h.more h.row h.obey

pub no_angle : (following : List ℕ) (count : ℕ) → starts 62 (92 ∷ following) ≡ true → count ≡ 0
no_angle following count h = absurd (let no : ⊥ = cc h in no)

module _ (mode : Mode) (rules : Rules) where
  -- Nothing closes outside groups, and nothing repeats where nothing may be repeated.
  no_closer : (t : Token) (ts : List Token) (ready : Bool) (after : List Opener × Bool) → t ≡ closer → run mode (t ∷ ts) [] ready ≡ Some after → ⊥
  no_closer t ts ready after e h = let k : run mode (closer ∷ ts) [] ready ≡ Some after = subst (λ t. run mode (t ∷ ts) [] ready ≡ Some after) e h in cc k

  no_quantifier : (t : Token) (min : ℕ) (max : Option ℕ) (greedy : Bool) (ts : List Token) (open_groups : List Opener) (after : List Opener × Bool) → t ≡ quantifier min max greedy →
      run mode (t ∷ ts) open_groups false ≡ Some after → ⊥
  no_quantifier t min max greedy ts open_groups after e h =
      let k : run mode (quantifier min max greedy ∷ ts) open_groups false ≡ Some after = subst (λ t. run mode (t ∷ ts) open_groups false ≡ Some after) e h in cc k

  -- What is accepted in no group is accepted in others.
  pub run_in : (ts : List Token) (os outer : List Opener) (ready : Bool) (after : List Opener) (ready_after : Bool) → run mode ts os ready ≡ Some (after, ready_after) →
      run mode ts (os ++ outer) ready ≡ Some (after ++ outer, ready_after)
  run_in [] os outer ready after ready_after h =
      let here : List Opener × Bool = (os, ready) in
      let there : List Opener × Bool = (after, ready_after) in
      let same : here ≡ there = cc h in
      ap (λ x. Some (x.0 ++ outer, x.1)) same
  run_in (closer ∷ ts) [] outer ready after ready_after h = absurd (let no : ⊥ = cc h in no)
  run_in (closer ∷ ts) (o ∷ os) outer ready after ready_after h = run_in ts os outer (group_takes mode o) after ready_after h
  run_in ((opener o) ∷ ts) os outer ready after ready_after h = run_in ts (o ∷ os) outer false after ready_after h
  run_in (bar ∷ ts) os outer ready after ready_after h = run_in ts os outer false after ready_after h
  run_in ((quantifier min max greedy) ∷ ts) os outer true after ready_after h = run_in ts os outer false after ready_after h
  run_in ((quantifier min max greedy) ∷ ts) os outer false after ready_after h = absurd (let no : ⊥ = cc h in no)
  run_in ((boundary kind) ∷ ts) os outer ready after ready_after h = run_in ts os outer false after ready_after h
  run_in (dot ∷ ts) os outer ready after ready_after h = run_in ts os outer true after ready_after h
  run_in ((character kind value) ∷ ts) os outer ready after ready_after h = run_in ts os outer true after ready_after h
  run_in ((class_escape kind) ∷ ts) os outer ready after ready_after h = run_in ts os outer true after ready_after h
  run_in ((property negative strings name value) ∷ ts) os outer ready after ready_after h = run_in ts os outer true after ready_after h
  run_in ((class c) ∷ ts) os outer ready after ready_after h = run_in ts os outer true after ready_after h
  run_in ((indexed n) ∷ ts) os outer ready after ready_after h = run_in ts os outer true after ready_after h
  run_in ((named name) ∷ ts) os outer ready after ready_after h = run_in ts os outer true after ready_after h

  -- The place in a group is reached, with that group open.
  abbrev pub inside_reached : (us : List CodePoint) (from : ℕ) (group : Opener) (place : ℕ) (rest : List CodePoint) → (i : IsInside mode rules us from group place rest) →
      IsReached mode rules us place (group ∷ i.open_groups) i.ready_inside rest
  inside_reached us from group place rest i = record {
    tokens = i.reached.tokens ++ (opener group ∷ i.inside);
    row = token_row_append (text_environment mode rules us) i.reached.tokens (opener group ∷ i.inside) us i.at_group rest i.reached.row i.row;
    place_is = i.place_is;
    accepted =
        run-append mode i.reached.tokens (opener group ∷ i.inside) [] false i.open_groups i.ready i.reached.accepted
        ∙ run_in i.inside [] (group ∷ i.open_groups) false [] i.ready_inside i.accepted;
    obey = All-append (Obeys (text_groups mode us) (text_names mode us)) i.reached.tokens (opener group ∷ i.inside) i.reached.obey i.obey;
  }

-- How a cause at this place ends all readings: no place is reached beyond this one, or one before it, which is not the end of the text; or a group is open.
pub data Ends (mode : Mode) (rules : Rules) (us : List CodePoint) (f : ℕ) : Type 0 where
  passes : (k : ℕ) → k ≤ f → k < length us → NoneBeyond mode rules us k → Ends mode rules us f
  left_open : (group : Opener) (open_groups : List Opener) (ready : Bool) (rest : List CodePoint) → IsReached mode rules us f (group ∷ open_groups) ready rest → NoneBeyond mode rules us f → Ends mode rules us f

pub ends_beyond : (mode : Mode) (rules : Rules) (us : List CodePoint) (f : ℕ) → Ends mode rules us f → NoneBeyond mode rules us f
ends_beyond mode rules us f (passes k le l none) g back b less = none g back b (omega (arith, le, less))
ends_beyond mode rules us f (left_open group open_groups ready rest r none) g back b less = none g back b less

pub ends_refuse : (mode : Mode) (rules : Rules) (us : List CodePoint) (f : ℕ) → Ends mode rules us f → (p : Pattern) → Reads mode rules p us → ⊥
ends_refuse mode rules us f (passes k le l none) p reads =
    let e = read_to_end mode rules us p reads in none (length us) [] (record { open_groups = []; ready = e.0; reached = e.1 }) l
ends_refuse mode rules us f (left_open group open_groups ready rest r none) p reads = by rest r
  where
    by : (rest : List CodePoint) → IsReached mode rules us f (group ∷ open_groups) ready rest → ⊥
    by [] r =
        let e = read_to_end mode rules us p reads in
        let same = (same_place mode rules us r e.1 (omega (arith, r.place_is))).open_is in
        cc same
    by (u ∷ rest) r =
        let e = read_to_end mode rules us p reads in
        none (length us) [] (record { open_groups = []; ready = e.0; reached = e.1 }) (omega (arith, r.place_is))

-- What is owed of the classes of a mode: where a refusal holds in one, no place beyond its bracket is reached; of two that hold one gives way to the other, or
-- they are one, which they are without `v`.
pub record ClassLaws (mode : Mode) (rules : Rules) (us : List CodePoint) (start added : ℕ) : Type 0 where
  pub after_bracket : {from f : ℕ} {at_class : List CodePoint} {d : Diagnostic} → IsClassCause mode us start added from at_class f d → from ≤ f
  pub at_bracket : {from f : ℕ} {at_class : List CodePoint} {d : Diagnostic} → IsClassCause mode us start added from at_class f d → (w : List ℕ) × (values at_class ≡ 91 ∷ w)
  pub blocked : {from f : ℕ} {at_class : List CodePoint} {d : Diagnostic} → IsClassCause mode us start added from at_class f d → IsBlocked mode rules us at_class
  pub two : {from f g : ℕ} {at_class : List CodePoint} {d e : Diagnostic} → IsClassCause mode us start added from at_class f d → IsClassCause mode us start added from at_class g e → AreCompared f d g e
  pub one : {from f g : ℕ} {at_class : List CodePoint} {d e : Diagnostic} → is_sets mode ≡ false → IsClassCause mode us start added from at_class f d → IsClassCause mode us start added from at_class g e →
      (f ≡ g) × (d ≡ e)

module _ (mode : Mode) (rules : Rules) (us : List CodePoint) where
  abbrev here : Environment
  here = text_environment mode rules us

  -- a place with a unit after it
  pub some_left : (f : ℕ) (rest : List CodePoint) (c : ℕ) (w : List ℕ) → values rest ≡ c ∷ w → IsPlace mode rules us f rest → f < length us
  some_left f [] c w h p = absurd (let no : ⊥ = cc h in no)
  some_left f (u ∷ rest) c w h p = omega (arith, p.reached.place_is)

  blocked_ends : (f : ℕ) (rest : List CodePoint) (c : ℕ) (w : List ℕ) → values rest ≡ c ∷ w → IsPlace mode rules us f rest → IsBlocked mode rules us rest → Ends mode rules us f
  blocked_ends f rest c w h p d = passes f (omega arith) (some_left f rest c w h p) (blocked_beyond mode rules us f rest p d)

  -- a token that is spelled, and has units
  token_left : (f : ℕ) (t : Token) (w more : List CodePoint) → Spells here t w more → IsPlace mode rules us f (w ++ more) → f < length us
  token_left f t w more s p = omega (arith, p.reached.place_is, spelled_some here t w more s, length-append w more)

  spelled_ends : (f : ℕ) (t : Token) (w more : List CodePoint) → Spells here t w more → IsPlace mode rules us f (w ++ more) → (Obeys (text_groups mode us) (text_names mode us) t → ⊥) → Ends mode rules us f
  spelled_ends f t w more s p not =
      passes f (omega arith) (token_left f t w more s p) (blocked_beyond mode rules us f (w ++ more) p (blocked_token mode rules us (w ++ more) t (length w) (spelled_front here t w more s) not))

  braces_ends : (f count min : ℕ) (max : Option ℕ) (rest : List CodePoint) → IsPlace mode rules us f rest → (h : HasBraces min max count rest) → IsBlocked mode rules us rest → Ends mode rules us f
  braces_ends f count min max rest p h d =
      let b = brace_first min max h.prefix h.spelled in
      blocked_ends f rest 123 (b.0 ++ h.following) (h.whole ∙ ap (λ w. w ++ h.following) b.1) p d

  pub limit_first : (w : List ℕ) (start count : ℕ) → PassesLimit w start count → (v : List ℕ) × (w ≡ 123 ∷ v)
  limit_first _ _ _ (limits.first digits next rest p) = (_, refl)
  limit_first _ _ _ (limits.second ds digits next rest a l p) = (_, refl)

  name_first : (w following : List ℕ) → BeginsName here w following → (c : ℕ) × (v : List ℕ) × (w ≡ c ∷ v)
  name_first _ following (of_group look) = (40, _, refl)
  name_first _ following (of_reference there) = (92, _, refl)

  name_ends : (f count : ℕ) (rest : List CodePoint) (following : List ℕ) → IsPlace mode rules us f rest → EndsName here (values rest) count following → (starts 62 following ≡ true → count ≡ 0) → Ends mode rules us f
  name_ends f count rest following p n h =
      let b = name_first (values rest) n.following n.begins in
      blocked_ends f rest b.0 b.1 b.2 p (blocked_name mode rules us rest (values rest) n.following count refl n.begins n.longest (λ t. h (ap (starts 62) n.rest_is ∙ t)))

  escape_ends : (f : ℕ) (rest : List CodePoint) (first added : ℕ) (d : Diagnostic) → IsPlace mode rules us f rest → IsEscapeCause mode us first added f rest d → Ends mode rules us f
  escape_ends f rest first added _ p (escape.too_many_hex_digits count following m h limit) = blocked_ends f rest 92 following h p (blocked_hex mode rules us m rest following count h limit)
  escape_ends f rest first added _ p (escape.invalid_escape following m h no_value no_limit) = blocked_ends f rest 92 (117 ∷ following) h p (blocked_escape mode rules us m rest following h no_value no_limit)

  property_blocked : (first added f : ℕ) (rest : List CodePoint) (d : Diagnostic) → IsPropertyCause mode us first added f rest d → IsBlocked mode rules us rest
  property_blocked first added f rest d c t n h o =
      let p = property_first mode us first added f rest d c in
      go (property_front mode (p.0 ∷ p.1)) (sym h ∙ front_by_values here rest 92 (p.0 ∷ p.1) refl p.2 ∙ property_front_token here p.0 p.1 (cause_unicode mode us first added f rest d c) p.3)
    where
      go : (r : PropertyRead) → Some (t, n) ≡ property_token r → ⊥
      go no_property k = cc k
      go (property_read negative strings name value m) k =
          let same : t ≡ property negative strings name value = same_token t (property negative strings name value) n (m + 1) k in
          let s = front_spelled here rest t n h in
          cause_begins_no_property here us first added f rest d c negative strings name value s.w s.rest s.whole (subst (λ t. Spells here t s.w s.rest) same s.spells)
          (subst (Obeys (text_groups mode us) (text_names mode us)) same o).1

  property_ends : (f : ℕ) (rest : List CodePoint) (first added : ℕ) (d : Diagnostic) → IsPlace mode rules us f rest → IsPropertyCause mode us first added f rest d → Ends mode rules us f
  property_ends f rest first added d p c = let b = property_first mode us first added f rest d c in blocked_ends f rest 92 (b.0 ∷ b.1) b.2 p (property_blocked first added f rest d c)

  -- Outside groups terms end before the end of the text.
  incomplete_ends : (f i : ℕ) (ready : Bool) (rest : List CodePoint) → IsReached mode rules us f [] ready rest → IsStop here rest i → rest ≢ [] → Ends mode rules us f
  incomplete_ends f i ready [] r s some = absurd (some refl)
  incomplete_ends f i ready (u ∷ rest) r s some = passes f (omega arith) (omega (arith, r.place_is)) (go (starts 41 (values (u ∷ rest))) refl)
    where
      go : (b : Bool) → starts 41 (values (u ∷ rest)) ≡ b → NoneBeyond mode rules us f
      go false h g back b l = blocked_beyond mode rules us f (u ∷ rest) (record { open_groups = []; ready = ready; reached = r }) (blocked_none mode rules us (u ∷ rest) (stop_front here (u ∷ rest) i s h)) g back b l
      go true h g back b l =
          let a = ahead mode rules us r b.reached l in
          let k : next closer 1 ≡ next a.t (length a.row.0) = sym (closer_front here (u ∷ rest) h) ∙ ap (front here) a.row.2 ∙ spelled_front here a.t a.row.0 a.row.1 a.row.3 in
          no_closer mode rules a.t a.more ready (b.open_groups, b.ready) (same_token a.t closer (length a.row.0) 1 (sym k)) a.accepted

  lone_ends : (f min : ℕ) (max : Option ℕ) (greedy : Bool) (open_groups : List Opener) (w more : List CodePoint) → IsReached mode rules us f open_groups false (w ++ more) → Spells here (quantifier min max greedy) w more → Ends mode rules us f
  lone_ends f min max greedy open_groups w more r s =
      passes f (omega arith) (token_left f (quantifier min max greedy) w more s (record { open_groups = open_groups; ready = false; reached = r })) (λ g back b l.
      let a = ahead mode rules us r b.reached l in
      let q : Token = quantifier min max greedy in
      let k : next q (length w) ≡ next a.t (length a.row.0) = sym (spelled_front here q w more s) ∙ ap (front here) a.row.2 ∙ spelled_front here a.t a.row.0 a.row.1 a.row.3 in
      no_quantifier mode rules a.t min max greedy a.more open_groups (b.open_groups, b.ready) (same_token a.t q (length a.row.0) (length w) (sym k)) a.accepted)

  group_ends : (from f i : ℕ) (group : Opener) (rest : List CodePoint) → IsInside mode rules us from group f rest → IsStop here rest i → starts 41 (values rest) ≡ false → Ends mode rules us f
  group_ends from f i group rest inside s other =
      let r = inside_reached mode rules us from group f rest inside in
      left_open group inside.open_groups inside.ready_inside rest r
      (blocked_beyond mode rules us f rest (record { open_groups = group ∷ inside.open_groups; ready = inside.ready_inside; reached = r }) (blocked_none mode rules us rest (stop_front here rest i s other)))

  class_ends : (first added : ℕ) → ClassLaws mode rules us first added → (from f : ℕ) (at_class : List CodePoint) (d : Diagnostic) → IsPlace mode rules us from at_class → IsClassCause mode us first added from at_class f d → Ends mode rules us f
  class_ends first added laws from f at_class d p c =
      let b = laws.at_bracket c in passes from (laws.after_bracket c) (some_left from at_class 91 b.0 b.1 p) (blocked_beyond mode rules us from at_class p (laws.blocked c))

  -- A backslash ends the text.
  last_ends : (f : ℕ) (backslash : CodePoint) → IsPlace mode rules us f (backslash ∷ []) → backslash.value ≡ 92 → Ends mode rules us f
  unfolding backslash_front
  last_ends f backslash p h =
      let text : values (backslash ∷ []) ≡ 92 ∷ [] = ap (λ c. c ∷ []) h in
      blocked_ends f (backslash ∷ []) 92 [] text p (blocked_none mode rules us (backslash ∷ []) (front_by_values here (backslash ∷ []) 92 [] refl text))

  pub pair_no_closer : (following : List ℕ) (count : ℕ) → BeginsWithPair following → starts 62 following ≡ true → count ≡ 0
  pair_no_closer following count p h = absurd (let no : ⊥ = grind (arith, nat_tests, p.whole, p.is_lead.0, h) in no)

  pub cause_ends : (first added : ℕ) → ClassLaws mode rules us first added → (f : ℕ) (d : Diagnostic) → IsCauseAtPlace mode rules us first added f d → Ends mode rules us f
  cause_ends first added laws _ _ (cause.incomplete place following ready rest r s some) = incomplete_ends place following ready rest r s some
  cause_ends first added laws _ _ (cause.lone place min max greedy open_groups w more r m s o) = lone_ends place min max greedy open_groups w more r s
  cause_ends first added laws _ _ (cause.lone_in_legacy place min max greedy open_groups w more r m s o) = lone_ends place min max greedy open_groups w more r s
  cause_ends first added laws _ _ (cause.last_backslash place backslash p m h) = last_ends place backslash p h
  cause_ends first added laws _ _ (cause.out_of_order place count min max rest p h out) = braces_ends place count min max rest p h (blocked_numbers mode rules us rest min max count h (not_in_order min max out))
  cause_ends first added laws _ _ (cause.too_large place count min max rest p h order large) = braces_ends place count min max rest p h (blocked_numbers mode rules us rest min max count h (not_small min max large))
  cause_ends first added laws _ _ (cause.too_many_digits place start count rest p limit in_legacy) =
      let b = limit_first (values rest) start count limit in blocked_ends place rest 123 b.0 b.1 p (blocked_limit mode rules us rest start count limit in_legacy)
  cause_ends first added laws _ d (cause.of_escape place rest p c) = escape_ends place rest first added d p c
  cause_ends first added laws _ d (cause.of_property place rest p c) = property_ends place rest first added d p c
  cause_ends first added laws _ d (cause.of_class from place at_class p c) = class_ends first added laws from place at_class d p c
  cause_ends first added laws _ _ (cause.unterminated_group from place following group rest inside s other) = group_ends from place following group rest inside s other
  cause_ends first added laws _ _ (cause.unterminated_name place count rest following p m n no_escape ends) = name_ends place count rest following p n ends
  cause_ends first added laws _ _ (cause.unterminated_name_in_legacy place count rest following p m n none no_pair ends) = name_ends place count rest following p n ends
  cause_ends first added laws _ _ (cause.misplaced_pair place count rest following p m n pair) = name_ends place count rest following p n (pair_no_closer following count pair)
  cause_ends first added laws _ _ (cause.too_many_digits_in_name place count many rest following p n limit) = name_ends place count rest (92 ∷ following) p n (no_angle following count)
  cause_ends first added laws _ _ (cause.misplaced_in_name place count value n rest following p ends decodes) = name_ends place count rest (92 ∷ following) p ends (no_angle following count)
  cause_ends first added laws _ _ (cause.invalid_in_name place count rest following p n no_value no_limit u) = name_ends place count rest (92 ∷ following) p n (no_angle following count)
  cause_ends first added laws _ _ (cause.invalid_u_in_name place count rest following p n no_value no_limit u) = name_ends place count rest (92 ∷ following) p n (no_angle following count)
  cause_ends first added laws _ _ (cause.no_such_group place n w more p s large) =
      spelled_ends place (indexed n) w more s p (λ o. omega (arith, large, o.1))
  cause_ends first added laws _ _ (cause.no_group_name place rest following p there h other) = blocked_ends place rest 92 (107 ∷ following) h p (blocked_reference mode rules us there rest following h other)
  cause_ends first added laws _ _ (cause.no_such_name place name w more p s unknown) = spelled_ends place (named name) w more s p unknown
  cause_ends first added laws _ _ (cause.unknown_modifiers place rest text following p h l) = blocked_ends place rest 40 (63 ∷ (text ++ following)) h p (blocked_unknown mode rules us rest text following h l)
  cause_ends first added laws _ _ (cause.duplicated_modifiers place rest enabled disabled text following p h s twice) =
      blocked_ends place rest 40 (63 ∷ (text ++ (58 ∷ following))) h p (blocked_duplicated mode rules us rest enabled disabled text following h s twice)
  cause_ends first added laws _ _ (cause.empty_modifiers place rest following p h) = blocked_ends place rest 40 (63 ∷ 45 ∷ 58 ∷ following) h p (blocked_empty mode rules us rest following h)
  cause_ends first added laws _ _ (cause.invalid_modifiers place rest enabled disabled text following p h s once share) =
      blocked_ends place rest 40 (63 ∷ (text ++ (58 ∷ following))) h p (blocked_shared mode rules us rest enabled disabled text following h s once share)
