-- The tokens of a nested pattern are the longest runs of one owner, and tile its span.
use Rattle.rx_ast.specs.Tree.{Whole}
use Rattle.rx_ast.specs.Parts.{in_pattern, IsNestedPattern}
use Rattle.rx_paint.specs.Paints.{part_token, root_token}
use Rattle.rx_paint.specs.Owners.{owner}
use Rattle.rx_paint.specs.Runs.{AreRuns, Tile, pattern_tokens}
use Rattle.rx_paint.proofs.Edges.{low_to_high}
use Rattle.rx_paint.proofs.LongestRuns.{tokens_are_runs, runs_tile}
use Rattle.rx_paint.proofs.Relabelled.{tokens_nested}

pub pattern_runs : (p : Whole) → IsNestedPattern p → AreRuns (owner (root_token p) (in_pattern part_token p)) p.0.start p.0.end (pattern_tokens p)
pattern_runs p nested = tokens_are_runs (root_token p) (in_pattern part_token p) (low_to_high (in_pattern part_token p) _ _ (tokens_nested p nested))

pub pattern_tile : (p : Whole) → IsNestedPattern p → Tile p.0.start p.0.end (pattern_tokens p)
pattern_tile p nested = runs_tile (owner (root_token p) (in_pattern part_token p)) (pattern_tokens p) p.0.start p.0.end (pattern_runs p nested)
