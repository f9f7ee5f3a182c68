use Rattle.std.proofs.Common.{◌≡◌, List, Bool, true, ap, sym, ◌∙◌, refl, arith}
use Rattle.std.proofs.lemmas.Str.{IsCharBoundary-start, chars-IsAscii}
use Rattle.std.specs.Str.{chars}
use Rattle.rx_units.specs.Bytes.{byte_units}
use Rattle.rx_units.specs.Cursor.{Cursor}
use Rattle.rx_units.specs.declared.code_point.CodePoint.{CodePoint}
use Rattle.rx_units.specs.Units.{literal_units}
use Rattle.rx_units.proofs.CodePoints.{literal_code_points}
use Rattle.rx_units.proofs.Ends.{literal_ends}
use Rattle.rx_units.proofs.Literals.{byte_units_literal}
use Rattle.rx_units.proofs.reader.Reader+ref+slice+u8.of_ascii.Goals as goal

pub returns : goal.returns
returns c = λ joined.
    let text = c.args.source_text.now in
    let read : byte_units 0 c.as_bytes.result.now ≡ literal_units joined 0 (chars text) =
    ap (byte_units 0) c.as_bytes.ensures.value ∙ byte_units_literal joined 0 text (omega (arith, c.requires.short)) c.requires.ascii ∙ ap (literal_units joined 0) (sym (chars-IsAscii text c.requires.ascii))
    in
    ap (λ (us : List CodePoint). let it : Cursor = record { units = us; place = 0; first = 0; text = text } in it) read

pub invariant_of-result : goal.invariant_of-result
invariant_of-result c =
    let text = c.args.source_text.now in
    let read : byte_units 0 c.as_bytes.result.now ≡ literal_units true 0 (chars text) =
    ap (byte_units 0) c.as_bytes.ensures.value ∙ byte_units_literal true 0 text (omega (arith, c.requires.short)) c.requires.ascii ∙ ap (literal_units true 0) (sym (chars-IsAscii text c.requires.ascii))
    in
    rw read (record {
      within = omega arith;
      offset_is = refl;
      start = IsCharBoundary-start text c.utf8.source_text;
      ends = literal_ends text true c.utf8.source_text;
      code_points = literal_code_points text true c.utf8.source_text;
    })
