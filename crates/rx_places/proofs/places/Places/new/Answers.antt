use Rattle.std.proofs.Common.{◌≡◌, sym, subst, List, arith}
use Rattle.std.specs.Str.{chars}
use Rattle.rx_places.specs.Places.{IsTable}
use Rattle.rx_places.proofs.Tables.{all_units_fit, ascii_table, table_told, text_bytes}
use Rattle.rx_places.proofs.places.Places.new.Goals as goal

pub invariant_of-result : goal.invariant_of-result
invariant_of-result c = record {
  fits = omega (arith, c.requires, text_bytes c.args.text.now c.utf8.text);
  told = subst (λ t. IsTable (chars c.args.text.now) t 0) (sym c.new.ensures) (ascii_table c.args.text.now c.if-is_ascii.ensures.cases);
}

pub overflow_sub-result : goal.overflow_sub-result
overflow_sub-result c = omega (arith, c.in_ok-units.ensures.all, all_units_fit (chars c.args.text.now), text_bytes c.args.text.now c.utf8.text)

pub invariant_of-result-2 : goal.invariant_of-result-2
invariant_of-result-2 c = record {
  fits = omega (arith, c.requires, text_bytes c.args.text.now c.utf8.text);
  told = table_told (chars c.args.text.now) _ _ _ c.in_ok-units.ensures.table c.in_ok-units.ensures.all (text_bytes c.args.text.now c.utf8.text);
}
