-- What a text begins with, and units whose values are two lists, one after the other.
use Rattle.std.proofs.Common.{◌≡◌, refl, ap, ◌∙◌, ℕ, ◌<◌, ◌==◌, true, arith, List, [], ◌∷◌, ◌++◌, length}
use Rattle.std.proofs.lemmas.Bool.{eqb-true}
use Rattle.rx_units.specs.declared.code_point.CodePoint.{CodePoint}
use Rattle.rx_units.specs.Units.{values}
use Rattle.rx_model.specs.FirstPass.Marks.{starts}

pub record Split (us : List CodePoint) (a b : List ℕ) : Type 0 where
  pub front : List CodePoint
  pub back : List CodePoint
  pub whole : us ≡ front ++ back
  pub front_is : values front ≡ a
  pub back_is : values back ≡ b

pub split_values : (us : List CodePoint) (a b : List ℕ) → values us ≡ a ++ b → Split us a b
split_values us [] b h = record {
  front = [];
  back = us;
  whole = refl;
  front_is = refl;
  back_is = h;
}
split_values [] (x ∷ a) b h = absurd (let k : ⊥ = cc h in k)
split_values (u ∷ us) (x ∷ a) b h =
    let s = split_values us a b (let k : values us ≡ a ++ b = cc h in k) in
    record {
      front = u ∷ s.front;
      back = s.back;
      whole = ap (λ us. u ∷ us) s.whole;
      front_is = ap (λ xs. u.value ∷ xs) s.front_is ∙ ap (λ x. x ∷ a) (let k : u.value ≡ x = cc h in k);
      back_is = s.back_is;
    }

-- at the front of a text n characters are what units with their values are
pub record TextFront (S : List CodePoint → List CodePoint → Type 0) (n : ℕ) (v : List ℕ) : Type 0 where
  pub text : List ℕ
  pub back : List ℕ
  pub whole : v ≡ text ++ back
  pub count : length text ≡ n
  pub spells : (w rest : List CodePoint) → values w ≡ text → values rest ≡ back → S w rest

-- a text that starts with this character
pub starts_there : (c : ℕ) (w : List ℕ) → starts c w ≡ true → (rest : List ℕ) × (w ≡ c ∷ rest)
starts_there c [] h = absurd (let no : ⊥ = cc h in no)
starts_there c (x ∷ w) h = (w, ap (λ x. x ∷ w) (eqb-true x c h))

-- one unit of this value
pub one_value : (u : CodePoint) (c : ℕ) → (u.value == c) ≡ true → values (u ∷ []) ≡ c ∷ []
one_value u c h = ap (λ v. v ∷ []) (eqb-true u.value c h)

-- what units start with, others after them
pub starts_front : (c : ℕ) (w rest : List CodePoint) → 0 < length w → starts c (values (w ++ rest)) ≡ starts c (values w)
starts_front c [] rest some = absurd (omega (arith, some))
starts_front c (u ∷ w) rest some = refl

-- the unit that a text starts with
pub starting_unit : (c : ℕ) (us : List CodePoint) → starts c (values us) ≡ true → (w : List CodePoint) × (more : List CodePoint) × (us ≡ w ++ more) × (values w ≡ c ∷ [])
starting_unit c [] h = absurd (let no : ⊥ = cc h in no)
starting_unit c (u ∷ us) h = (u ∷ [], us, refl, ap (λ v. v ∷ []) (eqb-true u.value c h))
