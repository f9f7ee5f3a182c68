-- How a run of the program goes on.
use Rattle.std.proofs.Common.{◌≡◌, sym, subst, ℕ, Bool, true, List, [], ◌++◌, append-nil, length-append, Option, arith}
use Rattle.std.proofs.KnownBytes.{Appends-nil, Appends-trans, Consumes-nil, Consumes-trans}
use Rattle.std.specs.Io.KnownBytes.{Appends}
use Rattle.rx_run.specs.Outcome.{IsAnswered, IsBegun, Reads, ReadsAndWrites}
use Rattle.rx_run.specs.Serving.{LooksAtFronts, Serves, Halts, Ends, Progress}
use Rattle.rx_run.proofs.Serving.{serves_nothing, serves_then, serves_halts, serves_ends, halts_nothing, ends-answered, halts-begun}

pub reads_nothing : (a : Option (List ℕ)) (n : ℕ) → Reads a a n n []
reads_nothing a n = record { consumed = Consumes-nil a; counted = omega arith }

reads_then : {a b c : Option (List ℕ)} {k m n : ℕ} (xs ys : List ℕ) → Reads a b k m xs → Reads b c m n ys → Reads a c k n (xs ++ ys)
reads_then {a = a} {b = b} {c = c} xs ys h g = record {
  consumed = Consumes-trans a b c xs ys h.consumed g.consumed;
  counted = omega (arith, h.counted, g.counted, length-append xs ys);
}

module _ {answers : List ℕ → List ℕ → Bool → Type 0} where
  pub progress_start : (left taken : Option (List ℕ)) (drawn : ℕ) (line : List ℕ) (ok : Bool) → line ≡ [] → ok ≡ true → Progress answers left left drawn drawn taken taken line ok
  progress_start left taken drawn line ok none all =
      let P : List ℕ → Type 0 = λ x. Serves answers [] true [] [] x ok in
      let Q : Bool → Type 0 = λ x. Serves answers [] true [] [] [] x in
      record {
        read = [];
        written = [];
        reads = reads_nothing left drawn;
        appends = Appends-nil taken;
        serves = subst P (sym none) (subst Q (sym all) (serves_nothing [] true));
      }

  -- Before: from a to b was read, and from d to e was written. Then from b to c is read, and from e to f is written.
  module _ {a b c d e : Option (List ℕ)} (f : Option (List ℕ)) {k m n : ℕ} {line : List ℕ} {ok : Bool} (p : Progress answers a b k m d e line ok) where
    pub progress_more : (bytes line' : List ℕ) (ok' : Bool) → Reads b c m n bytes → ((new : List ℕ) × Appends e f new × Serves answers line ok bytes new line' ok')
        → Progress answers a c k n d f line' ok'
    progress_more bytes line' ok' r w = record {
      read = p.read ++ bytes;
      written = p.written ++ w.0;
      reads = reads_then p.read bytes p.reads r;
      appends = Appends-trans d e f p.written w.0 p.appends w.1;
      serves = serves_then p.serves w.2;
    }

    pub progress_halts : (kept : LooksAtFronts answers) (bytes : List ℕ) (least : ℕ) → Reads b c m n bytes → ((part : List ℕ) × Appends e f part × Halts answers line bytes part least)
        → ReadsAndWrites a c k n d f (λ read written. IsBegun answers read written least)
    progress_halts kept bytes least r w = (
      p.read ++ bytes,
      p.written ++ w.0,
      reads_then p.read bytes p.reads r,
      Appends-trans d e f p.written w.0 p.appends w.1,
      halts-begun kept (serves_halts p.serves w.2),
    )

    pub progress_ends : (kept : LooksAtFronts answers) (ok' : Bool) → Reads b c m n [] → ((new : List ℕ) × Appends e f new × Ends answers line ok new ok')
        → ReadsAndWrites a c k n d f (λ read written. IsAnswered answers read written ok')
    progress_ends kept ok' r w =
        let P : List ℕ → Type 0 = λ x. Reads a c k n x in (
          p.read,
          p.written ++ w.0,
          subst P (append-nil p.read) (reads_then p.read [] p.reads r),
          Appends-trans d e f p.written w.0 p.appends w.1,
          ends-answered kept (serves_ends p.serves w.2),
        )

  -- nothing more was written
  pub progress_stops : {a b c d e : Option (List ℕ)} {k m n : ℕ} {line : List ℕ} {ok : Bool} (p : Progress answers a b k m d e line ok) (kept : LooksAtFronts answers) (bytes : List ℕ) → Reads b c m n bytes
      → ReadsAndWrites a c k n d e (λ read written. IsBegun answers read written 0)
  progress_stops {e = e} {line = line} p kept bytes r = progress_halts e p kept bytes 0 r ([], Appends-nil e, halts_nothing line bytes)
