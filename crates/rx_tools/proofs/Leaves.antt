-- How writes of fronts compose.
use Rattle.std.proofs.Common.{◌≡◌, refl, ap, sym, ◌∙◌, ℕ, arith, Bool, true, false, Bor, List, [], ◌∷◌, ◌++◌, append_assoc, Option, Result, Ok, Err}
use Rattle.std.proofs.KnownBytes.{Appends-nil}
use Rattle.std.proofs.lemmas.Bool.{false≢true}
use Rattle.std.specs.Result.{IsErr}
use Rattle.rx_ast.specs.declared.leaf.Character.{Character}
use Rattle.rx_ast.specs.declared.term.Term.{Term}
use Rattle.rx_ast.specs.declared.term.Term.TheVariants as term
use Rattle.rx_ast.proofs.Equations.{character_is}
use Rattle.rx_base.specs.Writing.{Written}
use Rattle.rx_base.proofs.Writing.{written_none}
use Rattle.rx_model.specs.declared.mode.Mode.{Mode}
use Rattle.rx_model.specs.Spelling.CharacterText.{character_text, outside}
use Rattle.rx_tools.specs.declared.leaf.Rest.{Rest}
use Rattle.rx_tools.specs.Leaves.{WritesFront, rest_text, unless_left}
use Rattle.rx_tools.specs.Utf8.{utf8}
use Rattle.rx_tools.proofs.Pieces.{utf8-nil, same_text, text_then}

-- the same at another answer
pub other_answer : {K T U E F : Type 0} {taken : K → Option (List ℕ)} {fixed : K → List ℕ} {faults : K → ℕ} {s t : K} {x : T} (y : U) {bytes : List ℕ} →
    Written {E = E} taken fixed faults s t (Ok x) bytes → Written {E = F} taken fixed faults s t (Ok y) bytes
other_answer y a = record { whole = a.whole; part = tt; kept = a.kept; cause = record { later = a.cause.later; failed = tt; same = a.cause.same } }

other_fault : {K T U E F : Type 0} {taken : K → Option (List ℕ)} {fixed : K → List ℕ} {faults : K → ℕ} {s t : K} {e : E} (d : F) {bytes : List ℕ} →
    Written {T = T} taken fixed faults s t (Err e) bytes → Written {T = U} taken fixed faults s t (Err d) bytes
other_fault d a = record { whole = tt; part = a.part; kept = a.kept; cause = record { later = a.cause.later; failed = a.cause.failed; same = tt } }

-- a fault in a text of which a call answers whether it wrote it
pub unless_failed : {K T E F : Type 0} {taken : K → Option (List ℕ)} {fixed : K → List ℕ} {faults : K → ℕ} {s t : K} {e : E} {result : Result Bool F} (text : List ℕ) →
    Written {T = T} taken fixed faults s t (Err e) (utf8 text) → IsErr result → Written taken fixed faults s t result (utf8 (unless_left result text))
unless_failed {result = Ok x} text a failed = absurd (false≢true failed)
unless_failed {result = Err d} text a failed = other_fault d a

pub unless_wrote : (E : Type 0) (wrote : Bool) (text : List ℕ) → wrote ≡ true → unless_left {E = E} (Ok wrote) text ≡ text
unless_wrote E wrote text h = rw h refl

pub unless_not : (E : Type 0) (wrote : Bool) (text : List ℕ) → wrote ≡ false → unless_left {E = E} (Ok wrote) text ≡ []
unless_not E wrote text h = rw h refl

pub nothing_written : {K T E : Type 0} {taken : K → Option (List ℕ)} {fixed : K → List ℕ} {faults : K → ℕ} {s : K} {x : T} → Written {E = E} taken fixed faults s s (Ok x) (utf8 [])
nothing_written = rw utf8-nil (written_none _ _ _ _ _)

-- nothing was to be written yet
pub front_none : {K T E : Type 0} (taken : K → Option (List ℕ)) (fixed : K → List ℕ) (faults : K → ℕ) (s : K) (x : T) (left_text : T → List ℕ) →
    WritesFront {E = E} taken fixed faults s s (Ok x) (left_text x) left_text
front_none taken fixed faults s x left_text = record {
  front = ([], rw utf8-nil (Appends-nil (taken s)), refl);
  part = tt;
  kept = refl;
  cause = record { later = omega arith; failed = tt; same = refl };
}

-- the front that was written
front_is : {K T E : Type 0} {taken : K → Option (List ℕ)} {fixed : K → List ℕ} {faults : K → ℕ} {s t : K} {x : T} {text : List ℕ} {left_text : T → List ℕ}
    (a : WritesFront {E = E} taken fixed faults s t (Ok x) text left_text) → Written {E = E} taken fixed faults s t (Ok x) (utf8 a.front.0)
front_is a = record { whole = a.front.1; part = tt; kept = a.kept; cause = a.cause }

-- a fault before the end
pub front_fails : {K U F : Type 0} {taken : K → Option (List ℕ)} {fixed : K → List ℕ} {faults : K → ℕ} {s t : K} {result : Result U F} {text : List ℕ} {left_text : U → List ℕ} →
    Written taken fixed faults s t result (utf8 text) → IsErr result → WritesFront taken fixed faults s t result text left_text
front_fails {result = Ok x} a failed = absurd (false≢true failed)
front_fails {result = Err e} a failed = record { front = tt; part = a.part; kept = a.kept; cause = a.cause }

pub fails_front : {K T U E F : Type 0} {taken : K → Option (List ℕ)} {fixed : K → List ℕ} {faults : K → ℕ} {s t : K} {e : E} {result : Result U F} {text : List ℕ} {left_text : T → List ℕ} →
    WritesFront taken fixed faults s t (Err e) text left_text → IsErr result → Written taken fixed faults s t result (utf8 text)
fails_front {result = Ok x} a failed = absurd (false≢true failed)
fails_front {result = Err d} a failed = record { whole = tt; part = a.part; kept = a.kept; cause = record { later = a.cause.later; failed = a.cause.failed; same = tt } }

-- a text was written whole, and the rest is left
pub front_written : {K T U E F : Type 0} {taken : K → Option (List ℕ)} {fixed : K → List ℕ} {faults : K → ℕ} {s t : K} {x : T} (y : U) {text : List ℕ} (next : List ℕ) {left_text : U → List ℕ} →
    Written {E = E} taken fixed faults s t (Ok x) (utf8 next) → text ≡ next ++ left_text y → WritesFront {E = F} taken fixed faults s t (Ok y) text left_text
front_written y next a cut = record { front = (next, a.whole, cut); part = tt; kept = a.kept; cause = record { later = a.cause.later; failed = tt; same = a.cause.same } }

-- a front, and then what was left, as far as it was written
pub front_rest : {K T U E F : Type 0} {taken : K → Option (List ℕ)} {fixed : K → List ℕ} {faults : K → ℕ} {s t u : K} {x : T} {result : Result U F} {text : List ℕ} {left_text : T → List ℕ} →
    WritesFront {E = E} taken fixed faults s t (Ok x) text left_text → Written taken fixed faults t u result (utf8 (left_text x)) → Written taken fixed faults s u result (utf8 text)
front_rest {x} {left_text} a b = same_text a.front.2 (text_then a.front.0 (left_text x) (front_is a) b)

-- a front, and then a front of what was left
pub front_then : {K T U E F : Type 0} {taken : K → Option (List ℕ)} {fixed : K → List ℕ} {faults : K → ℕ} {s t u : K} {x : T} {result : Result U F} {text : List ℕ} {left_text : T → List ℕ} {later_text : U → List ℕ} →
    WritesFront {E = E} taken fixed faults s t (Ok x) text left_text → WritesFront taken fixed faults t u result (left_text x) later_text → WritesFront taken fixed faults s u result text later_text
front_then {result = Ok y} {later_text} a b =
    front_written y (a.front.0 ++ b.front.0) (text_then a.front.0 b.front.0 (front_is a) (front_is b))
    (a.front.2 ∙ ap (λ after. a.front.0 ++ after) b.front.2 ∙ sym (append_assoc a.front.0 b.front.0 (later_text y)))
front_then {result = Err e} a b = front_fails (front_rest a (fails_front b refl)) refl

-- a character that is spelled as itself, and what is after it
pub plain_cut : (mode : Mode) (rest : Rest) (first : Term) (it : Character) (others : Bor (List Term)) → rest.terms.now ≡ first ∷ others.now → first ≡ term.Character it →
    character_text mode (outside rest.after_reference) it.value ≡ it.value ∷ [] → rest_text mode rest ≡ (it.value ∷ []) ++ rest_text mode (record { after_reference = false; terms = others })
plain_cut mode rest first it others cut is plain = rw (cut, is, character_is it, plain) refl
