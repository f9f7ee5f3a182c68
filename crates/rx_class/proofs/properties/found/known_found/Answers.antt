use Rattle.std.proofs.Common.{◌&&◌, codes, Some, None, true, false, ap, ◌∙◌}
use Rattle.rx_class.proofs.Common.{and-false, sets_is}
use Rattle.rx_model.specs.Properties.PropertyEscapes.{binary, category, of_strings}
use Rattle.rx_class.proofs.PropertyReading.Halts.{negative_refused, word_spelled}
use Rattle.rx_class.proofs.PropertyReading.Tables.{category_text}
use Rattle.rx_class.proofs.properties.found.known_found.Goals as goal

pub returns-in_ok-from_str-in-Category-clause-found : goal.returns-in_ok-from_str-in-Category-clause-found
returns-in_ok-from_str-in-Category-clause-found c = λ mode w following unicode known r closed.
    let named = rw c.in-Category.is at c.requires.named in
    rw (c.in_ok-from_str-in-Category.ensures ∙ category_text)
    (word_spelled mode unicode c.args.negative w c.args.word following r closed c.args.count c.requires.count false (codes "General_Category") (Some c.args.word) (category named) (and-false c.args.negative))

pub returns-in-Binary-clause-found : goal.returns-in-Binary-clause-found
returns-in-Binary-clause-found c = λ mode w following unicode known r closed.
    let named = rw c.in-Binary.is at c.requires.named in
    word_spelled mode unicode c.args.negative w c.args.word following r closed c.args.count c.requires.count false c.args.word None (binary named.0 named.1) (and-false c.args.negative)

pub returns-in-OfStrings-clause-found : goal.returns-in-OfStrings-clause-found
returns-in-OfStrings-clause-found c = λ mode w following unicode known r closed.
    let named = rw c.in-OfStrings.is at c.requires.named in
    let sets_too = rw c.in-OfStrings.is at known in
    negative_refused mode unicode c.args.negative w c.args.word following r closed c.args.count c.requires.count c.if-negative.true sets_too named

pub returns-in-OfStrings-2-clause-found : goal.returns-in-OfStrings-2-clause-found
returns-in-OfStrings-2-clause-found c = λ mode w following unicode known r closed.
    let named = rw c.in-OfStrings.is at c.requires.named in
    let sets_too = rw c.in-OfStrings.is at known in
    word_spelled mode unicode c.args.negative w c.args.word following r closed c.args.count c.requires.count true c.args.word None (of_strings (sets_is mode sets_too) named.0 named.1 named.2)
    (ap (λ negative. negative && true) c.if-negative.false)
