-- What is kept of a line that grows.
use Rattle.std.proofs.Common.{◌≡◌, ◌∙◌, sym, ap, ℕ, ◌+◌, ◌-◌, ◌≤◌, min, List, ◌++◌, length, take, Result, Ok, Err, OnOk, OnErr, arith}
use Rattle.std.proofs.lemmas.List.{length-take, take_min}
use Rattle.std.proofs.Math.Seq.{take-append-add}
use Rattle.rx_run.specs.Serving.{line_front}

-- a line that is longer than is kept grows no more
kept-more : (n : ℕ) (line piece : List ℕ) → length line ≤ n → line ++ take (min (length piece) (n - length line)) piece ≡ take n (line ++ piece)
kept-more n line piece h =
    let turn : min (length piece) (n - length line) ≡ min (n - length line) (length piece) = omega arith in
    let whole : length line + (n - length line) ≡ n = omega arith in
    ap (λ (k : ℕ). line ++ take k piece) turn ∙ ap (λ (x : List ℕ). line ++ x) (take_min (n - length line) piece)
    ∙ sym (take-append-add line piece (n - length line)) ∙ ap (λ (k : ℕ). take k (line ++ piece)) whole

pub kept_grown-bound : (n : ℕ) (line piece : List ℕ) → length line ≤ n → length (line ++ take (min (length piece) (n - length line)) piece) ≤ n
kept_grown-bound n line piece h = omega (arith, ap length (kept-more n line piece h), length-take n (line ++ piece))

pub kept_grown : (line piece : List ℕ) → length line ≤ 1048577 → line ++ take (min (length piece) (1048577 - length line)) piece ≡ line_front (line ++ piece)
unfolding line_front
kept_grown line piece h = kept-more 1048577 line piece h

-- a fact that both outcomes give
pub from_both : {T E P Q R : Type 0} (r : Result T E) → OnOk r P → OnErr r Q → (P → R) → (Q → R) → R
from_both (Ok x) p q f g = f p
from_both (Err e) p q f g = g q
