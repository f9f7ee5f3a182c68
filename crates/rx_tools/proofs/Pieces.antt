-- The bytes of pieces and of characters.
use Rattle.std.proofs.Common.{◌≡◌, refl, ap, ◌∙◌, ℕ, suc, ◌+◌, ◌<◌, ◌≤◌, List, [], ◌∷◌, ◌++◌, Bor, Option, Result, Ok, Err, length, drop, get_or, add-one, append-nil, append_assoc}
use Rattle.std.proofs.Math.Seq.{drop-cons}
use Rattle.std.proofs.lemmas.List.{drop_all}
use Rattle.std.proofs.lemmas.Str.{encodes-append, encodes-chars, encodes-IsAscii, chars-nil}
use Rattle.std.specs.Char.{encode_utf8}
use Rattle.std.specs.List.{flat_map}
use Rattle.std.specs.Str.{chars, IsAscii, IsUtf8}
use Rattle.std.specs.Result.{IsErr, IsErrAnd}
use Rattle.rx_ast.proofs.Plain.{chars-plain}
use Rattle.rx_base.specs.Writing.{Written}
use Rattle.rx_base.proofs.Writing.{written_then, written_stop}
use Rattle.rx_tools.specs.Utf8.{utf8}

pub utf8-nil : utf8 [] ≡ []
unfolding utf8
utf8-nil = refl

pub utf8-append : (first second : List ℕ) → utf8 (first ++ second) ≡ utf8 first ++ utf8 second
unfolding utf8
utf8-append first second = encodes-append first second

pub utf8-chars : (bytes : List ℕ) → IsUtf8 bytes → utf8 (chars bytes) ≡ bytes
unfolding utf8
utf8-chars bytes text = encodes-chars bytes text

pub utf8-one : (c : ℕ) → utf8 (c ∷ []) ≡ encode_utf8 c
unfolding utf8
utf8-one c = append-nil (encode_utf8 c)

pub utf8-ascii : (bytes : List ℕ) → IsAscii bytes → utf8 bytes ≡ bytes
unfolding utf8
utf8-ascii bytes ascii = encodes-IsAscii bytes ascii

-- one character is written
pub one_character : {K T E : Type 0} {taken : K → Option (List ℕ)} {fixed : K → List ℕ} {faults : K → ℕ} {old new : K} {result : Result T E} (c : ℕ) →
    Written taken fixed faults old new result (encode_utf8 c) → Written taken fixed faults old new result (utf8 (c ∷ []))
one_character c written = rw (utf8-one c) written

-- the pieces from an index on
pub pieces_next : (ps : List (Bor (List ℕ))) (i : ℕ) (d : Bor (List ℕ)) → i < length ps →
    utf8 (flat_map (λ p. chars p.now) (drop i ps)) ≡ utf8 (chars (get_or ps i d).now) ++ utf8 (flat_map (λ p. chars p.now) (drop (i + 1) ps))
pieces_next ps i d h = rw (add-one, drop-cons ps i d) (utf8-append (chars (get_or ps i d).now) (flat_map (λ p. chars p.now) (drop (suc i) ps)))

pub pieces_none : (ps : List (Bor (List ℕ))) (i : ℕ) → length ps ≤ i → utf8 (flat_map (λ p. chars p.now) (drop i ps)) ≡ []
pieces_none ps i h = rw (drop_all i ps) utf8-nil

-- the characters from an index on
pub characters_next : (cs : List ℕ) (i c : ℕ) → i < length cs → c ≡ get_or cs i c → utf8 (drop i cs) ≡ utf8 (c ∷ []) ++ utf8 (drop (i + 1) cs)
characters_next cs i c h e = rw (add-one, drop-cons cs i c, ← e) (utf8-append (c ∷ []) (drop (suc i) cs))

pub failed_from : {T E : Type 0} (result : Result T E) (P : E → Type 0) → IsErrAnd result P → IsErr result
failed_from (Ok x) P cause = absurd cause
failed_from (Err e) P cause = refl

-- the same text, spelled in another way
pub same_text : {K T E : Type 0} {taken : K → Option (List ℕ)} {fixed : K → List ℕ} {faults : K → ℕ} {old new : K} {result : Result T E} {text wanted : List ℕ} →
    wanted ≡ text → Written taken fixed faults old new result (utf8 text) → Written taken fixed faults old new result (utf8 wanted)
same_text e written = rw e written

pub text_next : (rest next after : List ℕ) → rest ≡ next ++ after → utf8 rest ≡ utf8 next ++ utf8 after
text_next rest next after cut = ap utf8 cut ∙ utf8-append next after

-- the whole of one text, and then another
pub text_then : {K T U E F : Type 0} {taken : K → Option (List ℕ)} {fixed : K → List ℕ} {faults : K → ℕ} {old between new : K} {x : T} {result : Result U F} (first second : List ℕ) →
    Written {E = E} taken fixed faults old between (Ok x) (utf8 first) → Written taken fixed faults between new result (utf8 second) → Written taken fixed faults old new result (utf8 (first ++ second))
text_then first second a b = rw (utf8-append first second) (written_then a b)

-- a fault in the first text, after which the second was not tried
pub text_stop : {K T U E F : Type 0} {taken : K → Option (List ℕ)} {fixed : K → List ℕ} {faults : K → ℕ} {old new : K} {e : E} {result : Result U F} (first second : List ℕ) →
    Written {T = T} taken fixed faults old new (Err e) (utf8 first) → IsErr result → Written taken fixed faults old new result (utf8 (first ++ second))
text_stop first second a failed = rw (utf8-append first second) (written_stop (utf8 second) a failed)

-- for a text that was written in pieces
pub ruleset in_pieces = (same_text, append-nil, append_assoc, chars-plain, chars-nil)
