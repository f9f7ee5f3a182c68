-- The offset of each place of a reader fits its numbers.
use Rattle.std.proofs.Common.{◌≡◌, sym, subst, ℕ, zero, suc, ◌+◌, ◌-◌, ◌^◌, ◌<◌, Bool, true, false, if◌then◌else◌, List, [], ◌∷◌, All}
use Rattle.rx_class.proofs.Common.{All-head, All-tail, CodePoint, Cursor, move_on, offset_of, offset_at, IsAfterBackslash}
use Rattle.rx_class.specs.Fitting.{AreFitting}

-- The offset of each place fits.
pub offset_fits : (added first : ℕ) (us : List CodePoint) (place : ℕ) → first + added < 2 ^ 32 → All (λ unit. unit.span.end + added < 2 ^ 32) us → offset_at first us place + added < 2 ^ 32
offset_fits added first us zero f a = f
offset_fits added first [] (suc n) f a = f
offset_fits added first (u ∷ us) (suc n) f a =
    offset_fits added u.span.end us n (All-head (λ unit. unit.span.end + added < 2 ^ 32) u us a) (All-tail (λ unit. unit.span.end + added < 2 ^ 32) u us a)

-- so does that where the reader stands
pub offset_here_fits : (added offset : ℕ) (r : Cursor) → AreFitting added r → offset ≡ offset_of r → offset + added < 2 ^ 32
offset_here_fits added offset r f is = subst (λ k. k + added < 2 ^ 32) (sym is) (offset_fits added r.first r.units r.place f.first f.ends)

-- and of the offset before the backslash
pub start_fits : (added start : ℕ) (r : Cursor) → AreFitting added r → IsAfterBackslash r start → start + added < 2 ^ 32
start_fits added start r f is = subst (λ k. k + added < 2 ^ 32) (sym is.start) (offset_fits added r.first r.units (r.place - 1) f.first f.ends)

-- A reader that moves stays so.
pub moved_are_fitting : (added n : ℕ) (r s : Cursor) → AreFitting added r → s ≡ move_on n r → AreFitting added s
moved_are_fitting added n r s f e = subst (AreFitting added) (sym e) record { first = f.first; ends = f.ends }

pub eaten_are_fitting : (added : ℕ) (eaten : Bool) (r s : Cursor) → AreFitting added r → s ≡ (if eaten then move_on 1 r else r) → AreFitting added s
eaten_are_fitting added true r s f e = moved_are_fitting added 1 r s f e
eaten_are_fitting added false r s f e = subst (AreFitting added) (sym e) f
