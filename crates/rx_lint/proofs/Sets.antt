-- What a set has after one more.
use Rattle.std.proofs.Common.{◌≡◌, refl, Bool, true, false, cond, ◌||◌}

-- It has the new one, and what it had before.
pub either : (b c : Bool) → cond b true c ≡ (c || b)
either true true = refl
either true false = refl
either false true = refl
either false false = refl
