use Rattle.std.proofs.Common.{rules, tests}
use Rattle.std.specs.Str.{bytes_eq}
use Rattle.std.proofs.lemmas.Iterator.{YieldsList-from_slice}
use Rattle.std.proofs.lemmas.Iterator.Search.{any_from_yields_List}
use Rattle.rx_tables.proofs.WordSearches.{search_decides}
use Rattle.rx_tables.proofs.properties.is_among.Goals as goal

pub returns : goal.returns
returns c =
    let text = c.args.text.now in
    let words = c.args.words.now in
    search_decides words text c.any.result c.requires c.utf8.text
    (any_from_yields_List (λ w. bytes_eq w.now text) _ _ c.any.result c.any.ensures.ran (YieldsList-from_slice words cc) (λ x b q k. search (rules, tests)))
