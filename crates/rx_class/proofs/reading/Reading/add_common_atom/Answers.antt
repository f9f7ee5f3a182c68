use Rattle.std.proofs.Common.{Result, Err, IfErr, [], ◌∷◌, ap, refl}
use Rattle.rx_class.proofs.Common.{Fault, GivesItem, character_is, environment_of}
use Rattle.rx_ast.specs.declared.class.CharacterClassContents.TheVariants.{Character}
use Rattle.rx_class.specs.declared.classes.item.ClassItem.TheVariants.{One}
use Rattle.rx_class.specs.ClassReading.Items.{no_memory}
use Rattle.rx_class.proofs.ClassReading.Ranges.{alone_gives, item_keeps}
use Rattle.rx_class.proofs.Keeping.{handed, rest_moved}
use Rattle.rx_class.proofs.reading.Reading.add_common_atom.Goals as goal

pub returns-in_err-push-clause-refused : goal.returns-in_err-push-clause-refused
returns-in_err-push-clause-refused g c =
    let it = c.take_common-character in
    let gives = alone_gives _ _ _ {given = One (Character it.result)} c.requires.no_sets it.ensures.gives (rest_moved c.args.atom.length _ _ it.ensures.reader) refl c.requires.front.alone (ap (λ m. m ∷ []) (character_is it.result)) in
    handed (λ (r : Result (Unit {0}) Fault). IfErr r (λ fault. GivesItem (environment_of c.args.self.now.state.now) c.args.self.now.spans.now c.args.self.now.reader.now c.take_common-character.new.self.reader.now (Err fault)))
    c.from_residual.ensures.1 (no_memory (item_keeps _ _ _ gives))

pub returns-clause-added : goal.returns-clause-added
returns-clause-added g c =
    let it = c.take_common-character in
    record {
      it = One (Character it.result);
      gives = alone_gives _ _ _ {given = One (Character it.result)} c.requires.no_sets it.ensures.gives (rest_moved c.args.atom.length _ _ it.ensures.reader) refl c.requires.front.alone (ap (λ m. m ∷ []) (character_is it.result));
      adds = c.in_ok-push.ensures.ok;
    }
