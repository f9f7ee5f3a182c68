-- The lines of bytes that begin with bytes with no LF.
use Rattle.std.proofs.Common.{◌≡◌, ◌∙◌, sym, ap, refl, ℕ, zero, suc, true, ◌==◌, List, [], ◌∷◌, ◌++◌, take, map, arith}
use Rattle.std.proofs.lemmas.Bool.{and_parts, not-true, cond-false}
use Rattle.std.proofs.lemmas.List.{append-nil, take-take}
use Rattle.rx_run.specs.Lines.{begin_line, lines_of, lacks}

-- bytes at the front of the first line
pub begin_all : List ℕ → List (List ℕ) → List (List ℕ)
begin_all [] lines = lines
begin_all (b ∷ bs) lines = begin_line b (begin_all bs lines)

begin_all-cons : (front line : List ℕ) (lines : List (List ℕ)) → begin_all front (line ∷ lines) ≡ (front ++ line) ∷ lines
unfolding begin_all begin_line
begin_all-cons [] line lines = refl
begin_all-cons (b ∷ front) line lines = ap (begin_line b) (begin_all-cons front line lines)

begin_all-nil : (b : ℕ) (front : List ℕ) → begin_all (b ∷ front) [] ≡ (b ∷ front) ∷ []
unfolding begin_all begin_line
begin_all-nil b [] = refl
begin_all-nil b (c ∷ front) = ap (begin_line b) (begin_all-nil c front)

pub lines_of-front : (front more : List ℕ) → lacks 10 front ≡ true → lines_of (front ++ more) ≡ begin_all front (lines_of more)
unfolding lines_of lacks begin_all
lines_of-front [] more h = refl
lines_of-front (b ∷ front) more h =
    let p = and_parts _ _ h in
    cond-false (b == 10) _ _ (not-true _ p.0) ∙ ap (begin_line b) (lines_of-front front more p.1)

-- a line and its LF
pub lines_of-line : (line more : List ℕ) → lacks 10 line ≡ true → lines_of (line ++ 10 ∷ more) ≡ line ∷ lines_of more
unfolding lines_of
lines_of-line line more h =
    lines_of-front line (10 ∷ more) h ∙ begin_all-cons line [] (lines_of more) ∙ ap (λ (x : List ℕ). x ∷ lines_of more) (append-nil line)

-- a last line without
pub lines_of-last : (b : ℕ) (line : List ℕ) → lacks 10 (b ∷ line) ≡ true → lines_of (b ∷ line) ≡ (b ∷ line) ∷ []
unfolding lines_of
lines_of-last b line h =
    sym (ap lines_of (append-nil (b ∷ line))) ∙ lines_of-front (b ∷ line) [] h ∙ begin_all-nil b line

take-append_capped : (n : ℕ) (front line : List ℕ) → take n (take n front ++ line) ≡ take n (front ++ line)
take-append_capped zero front line = refl
take-append_capped (suc n) [] line = refl
take-append_capped (suc n) (b ∷ front) line = ap (λ (x : List ℕ). b ∷ x) (take-append_capped n front line)

-- lines that are looked at up to a length read alike after a front that is cut there
pub begin_all-capped : (n : ℕ) (front : List ℕ) (lines : List (List ℕ)) → map (take (suc n)) (begin_all (take (suc n) front) lines) ≡ map (take (suc n)) (begin_all front lines)
begin_all-capped n front (line ∷ lines) =
    ap (map (take (suc n))) (begin_all-cons (take (suc n) front) line lines)
    ∙ ap (λ (x : List ℕ). x ∷ map (take (suc n)) lines) (take-append_capped (suc n) front line)
    ∙ sym (ap (map (take (suc n))) (begin_all-cons front line lines))
begin_all-capped n [] [] = refl
begin_all-capped n (b ∷ front) [] =
    ap (map (take (suc n))) (begin_all-nil b (take n front))
    ∙ ap (λ (x : List ℕ). x ∷ []) (take-take (suc n) (suc n) (b ∷ front) (omega arith))
    ∙ sym (ap (map (take (suc n))) (begin_all-nil b front))
