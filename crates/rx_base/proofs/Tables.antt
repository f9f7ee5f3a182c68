-- Tables of 128 numbers, one for each ASCII character.
use Rattle.std.proofs.Common.{◌≡◌, ℕ, ◌<◌, ap, sym, ◌∙◌, List, map, length, get_or, arith}
use Rattle.std.specs.List.{range_with_len}
use Rattle.std.proofs.lemmas.List.{get_or-map, length-map}
use Rattle.std.proofs.lemmas.List.FromFn.{get_or-map-range_with_len, length-map-range_with_len}

-- what a table means at a character is the value of a function there
pub table_at : {X : Type 0} (meaning : ℕ → X) (value : ℕ → X) (table : List ℕ) → map meaning table ≡ map value (range_with_len 0 128) → (c : ℕ) → c < 128 → meaning (get_or table c 0) ≡ value c
table_at meaning value table same c small =
    let long : length table ≡ 128 = sym (length-map table meaning) ∙ ap length same ∙ length-map-range_with_len value 0 128 in
    sym (get_or-map meaning table c 0 (meaning 0) (omega arith)) ∙ ap (λ t. get_or t c (meaning 0)) same ∙ get_or-map-range_with_len value 0 128 c c (meaning 0) small (omega arith)
