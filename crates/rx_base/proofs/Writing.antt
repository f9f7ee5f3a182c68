-- How writes compose: nothing, one after the other, and a fault in the first or in the second.
use Rattle.std.proofs.Common.{◌≡◌, ap, sym, subst, ◌∙◌, ℕ, ◌<◌, arith, List, [], ◌++◌, append_assoc, append-nil, length, length-append, Option, Result, Ok, Err, take, drop, refl}
use Rattle.std.proofs.lemmas.Bool.{false≢true}
use Rattle.std.proofs.lemmas.List.{take-append-drop}
use Rattle.std.proofs.KnownBytes.{Appends-nil, Appends-trans}
use Rattle.std.specs.Io.KnownBytes.{Appends}
use Rattle.rx_base.specs.FaultCounts.{CountsFaults}
use Rattle.std.specs.Result.{IsErr}
use Rattle.rx_base.specs.Writing.{Written, AppendsFront}

-- a front of the second bytes, after the whole of the first
front_after : (o m n : Option (List ℕ)) (first second : List ℕ) → Appends o m first → AppendsFront m n second → AppendsFront o n (first ++ second)
front_after o m n first second a b = record {
  front = first ++ b.front;
  back = b.back;
  cut = ap (λ xs. first ++ xs) b.cut ∙ sym (append_assoc first b.front b.back);
  missing = b.missing;
  appended = Appends-trans o m n first b.front a b.appended;
}

-- a front of the first bytes is one of both
front_before : (o n : Option (List ℕ)) (first second : List ℕ) → AppendsFront o n first → AppendsFront o n (first ++ second)
front_before o n first second b = record {
  front = b.front;
  back = b.back ++ second;
  cut = ap (λ xs. xs ++ second) b.cut ∙ append_assoc b.front b.back second;
  missing = let some : 0 < length b.back = b.missing in omega (arith, length-append b.back second);
  appended = b.appended;
}

cause_from : {T E : Type 0} (f g h : ℕ) (result : Result T E) → g ≡ f → CountsFaults g h result → CountsFaults f h result
cause_from f g h result same cause = subst (λ n. CountsFaults n h result) same cause

-- nothing was to be written
pub written_none : {K T E : Type 0} (taken : K → Option (List ℕ)) (fixed : K → List ℕ) (faults : K → ℕ) (s : K) (x : T) → Written {E = E} taken fixed faults s s (Ok x) []
written_none taken fixed faults s x = record { whole = Appends-nil (taken s); part = tt; kept = refl; cause = record { later = omega arith; failed = tt; same = refl } }

-- the whole of the first bytes, and then the second
pub written_then : {K T U E F : Type 0} {taken : K → Option (List ℕ)} {fixed : K → List ℕ} {faults : K → ℕ} {s t u : K} {x : T} {result : Result U F} {first second : List ℕ} →
    Written {E = E} taken fixed faults s t (Ok x) first → Written taken fixed faults t u result second → Written taken fixed faults s u result (first ++ second)
written_then {taken} {faults} {s} {t} {u} {result = Ok y} {first} {second} a b = record {
  whole = Appends-trans (taken s) (taken t) (taken u) first second a.whole b.whole;
  part = tt;
  kept = b.kept ∙ a.kept;
  cause = cause_from (faults s) (faults t) (faults u) (Ok y) a.cause.same b.cause;
}
written_then {taken} {faults} {s} {t} {u} {result = Err e} {first} {second} a b = record {
  whole = tt;
  part = front_after (taken s) (taken t) (taken u) first second a.whole b.part;
  kept = b.kept ∙ a.kept;
  cause = cause_from (faults s) (faults t) (faults u) (Err e) a.cause.same b.cause;
}

-- a fault in the first bytes, after which the second were not tried
pub written_stop : {K T U E F : Type 0} {taken : K → Option (List ℕ)} {fixed : K → List ℕ} {faults : K → ℕ} {s t : K} {e : E} {result : Result U F} {first : List ℕ} (second : List ℕ) →
    Written {T = T} taken fixed faults s t (Err e) first → IsErr result → Written taken fixed faults s t result (first ++ second)
written_stop {result = Ok x} second a failed = absurd (false≢true failed)
written_stop {taken} {s} {t} {result = Err d} {first} second a failed = record {
  whole = tt;
  part = front_before (taken s) (taken t) first second a.part;
  kept = a.kept;
  cause = record { later = a.cause.later; failed = a.cause.failed; same = tt };
}

-- Of the whole so much was written, and the rest is left.
pub record Left {K : Type 0} (taken : K → Option (List ℕ)) (fixed : K → List ℕ) (faults : K → ℕ) (old new : K) (whole rest : List ℕ) : Type 0 where
  pub front : List ℕ
  pub cut : whole ≡ front ++ rest
  pub appended : Appends (taken old) (taken new) front
  pub kept : fixed new ≡ fixed old
  pub same : faults new ≡ faults old

pub left_all : {K : Type 0} (taken : K → Option (List ℕ)) (fixed : K → List ℕ) (faults : K → ℕ) (s : K) (whole : List ℕ) → Left taken fixed faults s s whole whole
left_all taken fixed faults s whole = record { front = []; cut = refl; appended = Appends-nil (taken s); kept = refl; same = refl }

-- the next bytes of the rest were written
pub left_then : {K T E : Type 0} {taken : K → Option (List ℕ)} {fixed : K → List ℕ} {faults : K → ℕ} {s t u : K} {x : T} {whole rest next : List ℕ} (after : List ℕ) →
    Left taken fixed faults s t whole rest → rest ≡ next ++ after → Written {E = E} taken fixed faults t u (Ok x) next → Left taken fixed faults s u whole after
left_then {taken} {faults} {s} {t} {u} {next} after left cut written = record {
  front = left.front ++ next;
  cut = left.cut ∙ ap (λ xs. left.front ++ xs) cut ∙ sym (append_assoc left.front next after);
  appended = Appends-trans (taken s) (taken t) (taken u) left.front next left.appended written.whole;
  kept = written.kept ∙ left.kept;
  same = written.cause.same ∙ left.same;
}

-- a fault in the next bytes of the rest
pub left_stop : {K T U E F : Type 0} {taken : K → Option (List ℕ)} {fixed : K → List ℕ} {faults : K → ℕ} {s t u : K} {e : E} {result : Result U F} {whole rest next : List ℕ} (after : List ℕ) →
    Left taken fixed faults s t whole rest → rest ≡ next ++ after → Written {T = T} taken fixed faults t u (Err e) next → IsErr result → Written taken fixed faults s u result whole
left_stop {result = Ok x} after left cut written failed = absurd (false≢true failed)
left_stop {taken} {faults} {s} {t} {u} {result = Err d} {next} after left cut written failed = record {
  whole = tt;
  part = rw (left.cut, cut) (front_after (taken s) (taken t) (taken u) left.front (next ++ after) left.appended (front_before (taken t) (taken u) next after written.part));
  kept = written.kept ∙ left.kept;
  cause = cause_from (faults s) (faults t) (faults u) (Err d) left.same (record { later = written.cause.later; failed = written.cause.failed; same = tt });
}

-- nothing is left
pub left_none : {K T E : Type 0} {taken : K → Option (List ℕ)} {fixed : K → List ℕ} {faults : K → ℕ} {s t : K} (x : T) {whole rest : List ℕ} →
    Left taken fixed faults s t whole rest → rest ≡ [] → Written {E = E} taken fixed faults s t (Ok x) whole
left_none {faults} {s} {t} x left none = record {
  whole = rw (left.cut, none, append-nil left.front) left.appended;
  part = tt;
  kept = left.kept;
  cause = record { later = let stayed : faults t ≡ faults s = left.same in omega arith; failed = tt; same = left.same };
}

-- one write took the front of the rest
pub left_write : {K : Type 0} {taken : K → Option (List ℕ)} {fixed : K → List ℕ} {faults : K → ℕ} {s t u : K} {whole rest : List ℕ} (count : ℕ) →
    Left taken fixed faults s t whole rest → Appends (taken t) (taken u) (take count rest) → fixed u ≡ fixed t → faults u ≡ faults t → Left taken fixed faults s u whole (drop count rest)
left_write {taken} {s} {t} {u} {rest} count left appended kept same = record {
  front = left.front ++ take count rest;
  cut = left.cut ∙ ap (λ xs. left.front ++ xs) (sym (take-append-drop count rest)) ∙ sym (append_assoc left.front (take count rest) (drop count rest));
  appended = Appends-trans (taken s) (taken t) (taken u) left.front (take count rest) left.appended appended;
  kept = kept ∙ left.kept;
  same = same ∙ left.same;
}
