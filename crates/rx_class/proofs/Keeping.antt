-- A reader that moves keeps what it reads, and a failure is handed on.
use Rattle.std.proofs.Common.{◌≡◌, sym, ap, ap₂, ◌∙◌, subst, ℕ, ◌+◌, ◌<◌, ◌≤◌, List, ◌++◌, length, drop, min, IfErr, MatchResult, Result, Ok, Err, IsErrAnd, OnOk, arith, append_assoc, length-append, length-drop}
use Rattle.rx_class.proofs.Common.{drop-drop, CodePoint, Cursor, move_on, rest, KeepsUnits}
use Rattle.std.proofs.Math.Seq.{drop-append_seam}
use Rattle.std.proofs.lemmas.List.{drop_min}

-- what holds of a failure holds where it is handed on
pub handed : {A F : Type 0} (P : Result A F → Type 0) {r : Result A F} {f : F} → IsErrAnd r (λ g. g ≡ f) → P (Err f) → P r
handed P {r = Ok it} h p = absurd h
handed P {r = Err g} h p = subst (λ g. P (Err g)) (sym h) p

-- the same of what holds by cases
pub handed_case : {A F : Type 0} (P : A → Type 0) (Q : F → Type 0) (r : Result A F) {f : F} → IsErrAnd r (λ g. g ≡ f) → Q f → MatchResult r P Q
handed_case P Q (Ok it) h q = absurd h
handed_case P Q (Err g) h q = subst Q (sym h) q

pub fault_weaker : {A F : Type 0} (r : Result A F) (P Q : F → Type 0) → ((f : F) → P f → Q f) → IfErr r P → IfErr r Q
fault_weaker (Ok it) P Q weaker h = tt
fault_weaker (Err f) P Q weaker h = weaker f h

-- what a call ensures where it ends well, put together
pub on_ok_three : {A F P Q R S : Type 0} (r : Result A F) → (P → Q → R → S) → OnOk r P → OnOk r Q → OnOk r R → OnOk r S
on_ok_three (Ok it) f p q r = f p q r
on_ok_three (Err e) f p q r = tt

pub moved_keeps : (n : ℕ) (old new : Cursor) → new ≡ move_on n old → KeepsUnits old new
moved_keeps n old new is =
    let place = ap (λ (r : Cursor). r.place) is in
    record { same = is ∙ ap (λ place. record old { place = place }) (sym place); within = omega (arith, place) }

pub stays_keeps : (old new : Cursor) → old.place ≤ length old.units → new ≡ old → KeepsUnits old new
stays_keeps old new within is =
    let place = ap (λ (r : Cursor). r.place) is in
    record { same = is ∙ ap (λ place. record old { place = place }) (sym place); within = omega (arith, place, within) }

-- it may move again
pub keeps_on : {old mid new : Cursor} → KeepsUnits old mid → KeepsUnits mid new → KeepsUnits old new
keeps_on {old} {mid} {new} p q =
    let units = ap (λ (r : Cursor). length r.units) p.same in
    record { same = q.same ∙ ap (λ (r : Cursor). record r { place = new.place }) p.same; within = omega (arith, q.within, units) }

-- wherever it stood
pub keeps_from : (place : ℕ) (old new : Cursor) → KeepsUnits (record old { place = place }) new → KeepsUnits old new
keeps_from place old new k = record { same = k.same; within = k.within }

pub keeps_placed : (place : ℕ) (old new : Cursor) → KeepsUnits old new → KeepsUnits (record old { place = place }) new
keeps_placed place old new k = record { same = k.same; within = k.within }

-- what is left after a move
pub rest_moved : (n : ℕ) (old new : Cursor) → new ≡ move_on n old → drop n (rest old) ≡ rest new
rest_moved n old new is = drop-drop n old.place old.units ∙ sym (ap rest is ∙ drop_min (old.place + n) old.units)

-- A reader has moved over these units.
pub record Passes (old new : Cursor) (w : List CodePoint) : Type 0 where
  pub whole : rest old ≡ w ++ rest new
  pub moves : new ≡ record old { place = old.place + length w }
  pub within : old.place + length w ≤ length old.units

pub passes_moved : (old new : Cursor) (w more : List CodePoint) → rest old ≡ w ++ more → 0 < length w → new ≡ move_on (length w) old → Passes old new w × (rest new ≡ more)
passes_moved old new w more whole some is =
    let within : old.place + length w ≤ length old.units = omega (arith, ap length whole, length-append w more, length-drop old.place old.units, some) in
    let moves : new ≡ record old { place = old.place + length w } =
    is ∙ ap (λ place. record old { place = place }) (let k : min (old.place + length w) (length old.units) ≡ old.place + length w = omega arith in k) in
    let left : rest new ≡ more = ap rest moves ∙ sym (drop-drop (length w) old.place old.units) ∙ ap (drop (length w)) whole ∙ drop-append_seam w more in
    (record { whole = whole ∙ ap (λ us. w ++ us) (sym left); moves = moves; within = within }, left)

pub passes_on : {old mid new : Cursor} {w v : List CodePoint} → Passes old mid w → Passes mid new v → Passes old new (w ++ v)
passes_on {old} {mid} {new} {w} {v} p q =
    let place = ap (λ (r : Cursor). r.place) p.moves in
    let count : mid.place + length v ≡ old.place + length (w ++ v) = omega (arith, place, length-append w v) in
    record {
      whole = p.whole ∙ ap (λ x. w ++ x) q.whole ∙ sym (append_assoc w v (rest new));
      moves = q.moves ∙ ap₂ (λ (r : Cursor) place. record r { place = place }) p.moves count;
      within = omega (arith, q.within, count, ap (λ (r : Cursor). length r.units) p.moves);
    }

module _ {old new : Cursor} {w : List CodePoint} (p : Passes old new w) where
  pub passes_keeps : KeepsUnits old new
  passes_keeps =
      let place = ap (λ (r : Cursor). r.place) p.moves in
      record { same = p.moves ∙ ap (λ place. record old { place = place }) (sym place); within = omega (arith, place, p.within) }

  -- The reader moved so far.
  pub passes_over : new ≡ move_on (length w) old
  passes_over = p.moves ∙ ap (λ place. record old { place = place }) (let k : old.place + length w ≡ min (old.place + length w) (length old.units) = omega (arith, p.within) in k)
