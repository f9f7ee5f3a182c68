-- Two values that one test chooses, by its cases.
use Rattle.std.proofs.Common.{◌≡◌, refl, Bool, true, false, cond}

pub choose_both : {X Y : Type 0} (P : X → Y → Type 0) (b : Bool) (x y : X) (u v : Y) → (b ≡ true → P x u) → (b ≡ false → P y v) → P (cond b x y) (cond b u v)
choose_both P true x y u v p q = p refl
choose_both P false x y u v p q = q refl
