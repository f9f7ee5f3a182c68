-- Offsets at places.
use Rattle.std.proofs.Common.{◌≡◌, ℕ, zero, suc, ◌+◌, ◌-◌, ◌<◌, ◌≤◌, List, [], ◌∷◌, length, drop, get_or, take, refl, ap, ◌∙◌, zero-add, arith}
use Rattle.rx_units.specs.declared.code_point.CodePoint.{CodePoint}
use Rattle.rx_units.specs.Units.{end_of, offset_at}

end_of-take-suc : (first : ℕ) (us : List CodePoint) (i : ℕ) (d : CodePoint) → i < length us → end_of first (take (suc i) us) ≡ (get_or us i d).span.end
end_of-take-suc first [] i d h = absurd (omega arith)
end_of-take-suc first (u ∷ us) zero d h = refl
end_of-take-suc first (u ∷ us) (suc i) d h = end_of-take-suc u.span.end us i d (omega arith)

-- an offset further on is one of the units from there on
pub offset_more : (first : ℕ) (us : List CodePoint) (place count : ℕ) → offset_at first us (place + count) ≡ offset_at (offset_at first us place) (drop place us) count
offset_more first us zero count = ap (offset_at first us) (zero-add count)
offset_more first [] (suc place) zero = let e : suc place + zero ≡ suc place = omega arith in ap (offset_at first []) e
offset_more first [] (suc place) (suc count) = let e : suc place + suc count ≡ suc (place + suc count) = omega arith in ap (offset_at first []) e
offset_more first (u ∷ us) (suc place) count =
    let e : suc place + count ≡ suc (place + count) = omega arith in
    ap (offset_at first (u ∷ us)) e ∙ offset_more u.span.end us place count

-- the offset at a place is the end of the unit before it
pub end_of_take : (first : ℕ) (us : List CodePoint) (place : ℕ) (d : CodePoint) → 0 < place → place ≤ length us → end_of first (take place us) ≡ (get_or us (place - 1) d).span.end
end_of_take first us zero d some within = absurd (omega arith)
end_of_take first us (suc i) d some within =
    let e : suc i - 1 ≡ i = omega arith in
    rw e (end_of-take-suc first us i d (omega arith))
