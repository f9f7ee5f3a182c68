-- How additions follow one another.
use Rattle.std.proofs.Common.{◌∙◌, refl, ap, sym, append-nil, append_assoc, List, [], ◌∷◌, ◌++◌, Result, Ok, Err, OnOk}
use Rattle.json.specs.Token.{Token}
use Rattle.json.specs.Written.{Writes, Written}
use Rattle.rx_json.specs.Adding.{Adds}

pub adds_nothing : (w : Written) → Adds w w []
adds_nothing w = record { tokens = sym (append-nil w.tokens); before = refl }

pub adds_then : (a b c : Written) (ts us : List Token) → Adds a b ts → Adds b c us → Adds a c (ts ++ us)
adds_then a b c ts us first second = record {
  tokens = second.tokens ∙ ap (λ (xs : List Token). xs ++ us) first.tokens ∙ append_assoc a.tokens ts us;
  before = second.before ∙ first.before;
}

-- and the last one, whose result is handed on
pub adds_last : {E : Type 0} (r : Result (Unit {0}) E) (a b c : Written) (ts us : List Token) → Adds a b ts → OnOk r (Adds b c us) → OnOk r (Adds a c (ts ++ us))
adds_last (Ok x) a b c ts us first second = adds_then a b c ts us first second
adds_last (Err e) a b c ts us first second = tt

-- one token
pub adds_one : {E : Type 0} {x : Unit {0}} {a b : Written} {t : Token} → Writes {E = E} (Ok x) a b t → Adds a b (t ∷ [])
adds_one w = record { tokens = w.ok; before = w.room.0 }
