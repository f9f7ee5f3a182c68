-- What is left of a text where terminal escapes are taken out.
use Rattle.std.specs.Prelude.{ℕ, Bool, true, false, ◌||◌, not, nat_eq, nat_lt, if◌then◌else◌, IsTrue, List, [], ◌∷◌, All}

-- The bytes that stand in no escape. An escape goes from ESC (the byte 27) to the first `m` (the byte 109) after it; `inside` says that one has begun.
abbrev pub bytes_outside : Bool → List ℕ → List ℕ
bytes_outside inside [] = []
bytes_outside true (b ∷ bs) = bytes_outside (not (nat_eq b 109)) bs
bytes_outside false (b ∷ bs) = if nat_eq b 27 then bytes_outside true bs else b ∷ bytes_outside false bs

-- a text without its escapes
abbrev pub without_escapes : List ℕ → List ℕ
without_escapes bytes = bytes_outside false bytes

-- No byte is a control character.
abbrev pub HaveNoControl : List ℕ → Type 0
HaveNoControl bytes = All (λ b. IsTrue (not (nat_lt b 32 || nat_eq b 127))) bytes
