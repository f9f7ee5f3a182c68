-- Tests, and choices by them.
use Rattle.std.proofs.Common.{◌≡◌, Bool, true, false, cond, is_some, ◌&&◌, Option, Some, None, refl, sym, ap, ◌∙◌, ◌⊎◌, inl, inr, arith}

-- which way a choice went
pub chosen : {A : Type 0} {x y z : A} (b : Bool) → cond b x y ≡ z → ((b ≡ true) × (x ≡ z)) ⊎ ((b ≡ false) × (y ≡ z))
chosen true h = inl (refl, h)
chosen false h = inr (refl, h)

-- what holds of both ways of a choice
pub either_way : {A : Type 0} (P : A → Type 0) (b : Bool) (x y : A) → P x → P y → P (cond b x y)
either_way P true x y h k = h
either_way P false x y h k = k

pub both : (a b : Bool) → (a && b) ≡ true → (a ≡ true) × (b ≡ true)
both true b h = (refl, h)
both false b h = absurd (let k : ⊥ = cc in k)

pub low_next : (a b : Bool) → a ≡ true → (a && b) ≡ false → b ≡ false
low_next a b e h = grind arith

-- What a test tells apart is not equal.
pub told_apart : {A : Type 0} (test : A → Bool) {x y : A} → x ≡ y → test x ≡ false → test y ≡ true → ⊥
told_apart test e h k = let no : false ≡ true = sym h ∙ ap test e ∙ k in cc no

pub is_none : {A : Type 0} (o : Option A) → is_some o ≡ false → o ≡ None
is_none None h = refl
is_none (Some x) h = absurd (let no : ⊥ = cc h in no)

pub Some-inj : {A : Type 0} {x y : A} → Some x ≡ Some y → x ≡ y
Some-inj h = cc
