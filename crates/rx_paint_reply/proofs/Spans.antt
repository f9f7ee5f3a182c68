-- Tokens that tile a part of a text lie in it.
use Rattle.std.proofs.Common.{ℕ, ◌≤◌, arith, List, [], ◌∷◌}
use Rattle.std.specs.Prelude.{All}
use Rattle.std.specs.List.{AllByRecursion}
use Rattle.std.proofs.lemmas.List.Elements.{All-from_recursion}
use Rattle.rx_paint.specs.declared.token.Token.{Token}
use Rattle.rx_paint.specs.Runs.{Tile}
use Rattle.rx_paint_reply.proofs.Shown.{tile_le}

each_forward : (ts : List Token) (low high : ℕ) → Tile low high ts → AllByRecursion (λ (t : Token). t.span.start ≤ t.span.end) ts
each_forward [] low high tile = tt
each_forward (t ∷ ts) low high tile =
    let start = tile.0 in
    let some = tile.1 in
    (omega arith, each_forward ts t.span.end high tile.2)

each_within : (most : ℕ) (ts : List Token) (low high : ℕ) → high ≤ most → Tile low high ts → AllByRecursion (λ (t : Token). t.span.end ≤ most) ts
each_within most [] low high le tile = tt
each_within most (t ∷ ts) low high le tile =
    let end = tile_le ts t.span.end high tile.2 in
    (omega arith, each_within most ts t.span.end high le tile.2)

pub tiles_forward : (ts : List Token) (low high : ℕ) → Tile low high ts → All (λ (t : Token). t.span.start ≤ t.span.end) ts
tiles_forward ts low high tile = All-from_recursion (λ (t : Token). t.span.start ≤ t.span.end) ts (each_forward ts low high tile)

pub tiles_within : (most : ℕ) (ts : List Token) (low high : ℕ) → high ≤ most → Tile low high ts → All (λ (t : Token). t.span.end ≤ most) ts
tiles_within most ts low high le tile = All-from_recursion (λ (t : Token). t.span.end ≤ most) ts (each_within most ts low high le tile)
