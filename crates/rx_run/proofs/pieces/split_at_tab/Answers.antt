use Rattle.std.proofs.Common.{◌≡◌, ◌<◌, subst, ℕ, List, Some, None, length, get_or, arith}
use Rattle.std.proofs.lemmas.Bool.{eqb-true}
use Rattle.std.proofs.Math.Nat.{sub-zero}
use Rattle.std.proofs.lemmas.Str.{IsCharBoundary-after_ascii}
use Rattle.memchr.specs.Find.{IsFirstByte, is_byte}
use Rattle.rx_run.proofs.Lacking.{never_found, first_found}
use Rattle.rx_run.proofs.pieces.split_at_tab.Goals as goal

pub returns-in_err-at : goal.returns-in_err-at
returns-in_err-at c =
    let P : List ℕ → Type 0 = λ xs. IsFirstByte (is_byte 9) xs None in
    rw c.from_residual.ensures (never_found 9 c.args.text.now (subst P c.as_bytes.ensures.value c.in_err-at.ensures))

pub range_from-requires : goal.range_from-requires
range_from-requires c =
    let P : List ℕ → Type 0 = λ xs. IsFirstByte (is_byte 9) xs (Some c.in_ok-at.at) in
    let found = subst P c.as_bytes.ensures.value c.in_ok-at.ensures in
    let within : c.in_ok-at.at < length c.args.text.now = found.0.high in
    let tab : get_or c.args.text.now c.in_ok-at.at 0 ≡ 9 = eqb-true _ _ found.1 in
    λ _. IsCharBoundary-after_ascii c.args.text.now c.in_ok-at.at c.utf8.text within (omega arith)

pub returns : goal.returns
returns c =
    let P : List ℕ → Type 0 = λ xs. IsFirstByte (is_byte 9) xs (Some c.in_ok-at.at) in
    let found = first_found 9 c.args.text.now c.in_ok-at.at (subst P c.as_bytes.ensures.value c.in_ok-at.ensures) in
    rw (c.range.ensures.value, c.range_from.ensures.value, sub-zero) found
