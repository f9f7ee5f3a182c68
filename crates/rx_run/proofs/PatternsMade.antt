-- How the patterns of `gen` are made, and what their answers add up to.
use Rattle.std.proofs.Common.{◌≡◌, ◌∙◌, ◌<◌, ◌≤◌, ◌+◌, ◌-◌, ◌*◌, refl, sym, ap, subst, ℕ, Bool, false, zero, suc, List, [], ◌∷◌, ◌++◌, length, length-append, append_assoc, append-nil, Some, Ok, Err, arith}
use Rattle.std.specs.Char.{len_utf8}
use Rattle.std.specs.Str.{IsUtf8, chars, encode_utf8_all}
use Rattle.std.proofs.Math.Utf8.{encode, encodes}
use Rattle.std.proofs.lemmas.Bool.Decides.{nat_tests}
use Rattle.std.proofs.lemmas.List.Sums.{sum_by_push}
use Rattle.std.proofs.lemmas.Str.{encodes-chars, length-encode}
use Rattle.rx_base.specs.declared.diagnostic.Diagnostic.{Diagnostic}
use Rattle.rx_base.specs.declared.fault.Fault.TheVariants as fault
use Rattle.rx_ast.specs.Forget.{bare}
use Rattle.rx_model.specs.declared.form.Form.TheVariants.{Literal}
use Rattle.rx_model.specs.declared.mode.Mode.TheVariants.{Unicode}
use Rattle.rx_model.specs.Reading.Headline.{IsAnswered, IsFirstRefusal, IsReadAs}
use Rattle.rx_model.specs.Spelling.Spelling.{spelling}
use Rattle.rx_model.proofs.Inputs.Asked.{alone_asks, one_mode}
use Rattle.rx_tools.specs.declared.outcome.Canonical.{Canonical}
use Rattle.rx_tools.specs.Spelled.{spelling_answer}
use Rattle.rx_tools.proofs.CanonicalAnswers.{first_of, read_as}
use Rattle.rx_run.specs.Generator.{AreSized, IsGenerated, IsSized, unicode_literal, draw_of, next_state, pattern_text, patterns, piece, pieces_text, state_after, state_after_pattern}
use Rattle.rx_run.proofs.ValidPatterns.{not_refused}
use Rattle.rx_run.proofs.Serving.{AllZip-append}
use Rattle.rx_model.specs.declared.rules.Rules.{Rules}
use Rattle.rx_command.specs.Dialects.{both_rules}
use Rattle.rx_run.specs.Reply.{}

-- one more piece of those that are to come
pub pieces_more : (n i x x' : ℕ) (text more all : List ℕ) → i < n → text ++ pieces_text (n - i) x ≡ all → x' ≡ next_state x → more ≡ text ++ piece (draw_of x')
    → more ++ pieces_text (n - (i + 1)) x' ≡ all
unfolding pieces_text
pieces_more n i x x' text more all h was state grown =
    let left : n - i ≡ suc (n - (i + 1)) = omega arith in
    ap (λ (w : List ℕ). w ++ pieces_text (n - (i + 1)) x') grown
    ∙ append_assoc text (piece (draw_of x')) (pieces_text (n - (i + 1)) x')
    ∙ ap (λ (y : ℕ). text ++ (piece (draw_of y) ++ pieces_text (n - (i + 1)) y)) state
    ∙ sym (ap (λ (k : ℕ). text ++ pieces_text k x) left) ∙ was

pub state_more : (n i x x' last : ℕ) → i < n → state_after (n - i) x ≡ last → x' ≡ next_state x → state_after (n - (i + 1)) x' ≡ last
unfolding state_after
state_more n i x x' last h was state =
    let left : n - i ≡ suc (n - (i + 1)) = omega arith in
    ap (state_after (n - (i + 1))) state ∙ sym (ap (λ (k : ℕ). state_after k x) left) ∙ was

pub pieces_done : (n x : ℕ) (text all : List ℕ) → n ≡ 0 → text ++ pieces_text n x ≡ all → text ≡ all
unfolding pieces_text
pieces_done n x text all none was = sym (append-nil text) ∙ sym (ap (λ (k : ℕ). text ++ pieces_text k x) none) ∙ was

pub state_done : (n x last : ℕ) → n ≡ 0 → state_after n x ≡ last → x ≡ last
unfolding state_after
state_done n x last none was = sym (ap (λ (k : ℕ). state_after k x) none) ∙ was

-- a pattern is short
piece_short : (n : ℕ) → length (piece n) ≤ 9
piece_short zero = omega arith
piece_short (suc zero) = omega arith
piece_short (suc (suc zero)) = omega arith
piece_short (suc (suc (suc zero))) = omega arith
piece_short (suc (suc (suc (suc zero)))) = omega arith
piece_short (suc (suc (suc (suc (suc zero))))) = omega arith
piece_short (suc (suc (suc (suc (suc (suc zero)))))) = omega arith
piece_short (suc (suc (suc (suc (suc (suc (suc zero))))))) = omega arith
piece_short (suc (suc (suc (suc (suc (suc (suc (suc n)))))))) = omega arith

pieces_short : (n x : ℕ) → length (pieces_text n x) ≤ 9 * n
unfolding pieces_text
pieces_short zero x = omega arith
pieces_short (suc n) x =
    omega (arith, length-append (piece (draw_of (next_state x))) (pieces_text n (next_state x)), piece_short (draw_of (next_state x)), pieces_short n (next_state x))

pub pattern_short : (x : ℕ) → length (pattern_text x) ≤ 72
pattern_short x = omega (arith, pieces_short (1 + draw_of (next_state x)) (next_state x))

-- a character has at most four bytes
len_short : (c : ℕ) → len_utf8 c ≤ 4
len_short c = grind (arith, nat_tests)

pub encodes_short : (cs : List ℕ) → length (encodes cs) ≤ 4 * length cs
encodes_short [] = omega arith
encodes_short (c ∷ cs) = omega (arith, length-append (encode c) (encodes cs), length-encode c, len_short c, encodes_short cs)

pub text_short : (bytes text : List ℕ) → IsUtf8 bytes → chars bytes ≡ text → length bytes ≤ 4 * length text
text_short bytes text utf8 is = omega (arith, encodes_short (chars bytes), ap length (encodes-chars bytes utf8), ap length is)

-- a literal alone under `u`, from its parts
pub asked_is : (text bytes flags : List ℕ) (a b : ℕ) (under : Rules) (standard : Bool) → chars bytes ≡ text → flags ≡ 117 ∷ [] → a ≡ 0 → b ≡ 0 → under ≡ both_rules → standard ≡ false
    → (record { form = Literal; text = chars bytes; flags = Some flags; text_offset = a; flags_offset = b; rules = under; standard_strings = standard }) ≡ unicode_literal text
asked_is text bytes flags a b under standard text_is flags_are a_is b_is rules_are standard_is = cc

-- an answer, by the bytes of its spelling
pub read_sized : (text : List ℕ) (it : Canonical) (bytes : List ℕ) → IsUtf8 bytes → chars bytes ≡ it.text → IsAnswered spelling_answer (unicode_literal text) (Ok it) → IsSized text (length bytes)
read_sized text it bytes utf8 is answered =
    let mode : it.mode ≡ Unicode = one_mode (unicode_literal text) it.mode Unicode answered.mode_is (alone_asks text Unicode both_rules false).mode_asked in
    let spelled : it.text ≡ spelling (bare it.pattern) Unicode = answered.text_is ∙ ap (spelling (bare it.pattern)) mode in
    let same : bytes ≡ encode_utf8_all (spelling (bare it.pattern) Unicode) = sym (encodes-chars bytes utf8) ∙ ap encode_utf8_all (is ∙ spelled) in
    record { pattern = it.pattern; read = subst (λ m. IsReadAs (unicode_literal text) m it.pattern) mode (read_as spelling_answer (unicode_literal text) it answered); size_is = ap length same }

-- no generated pattern is answered by a refusal
pub none_refused : (text : List ℕ) (refusal : Diagnostic) → IsGenerated text → IsAnswered spelling_answer (unicode_literal text) (Err (fault.Diagnostic refusal)) → ⊥
none_refused text refusal made answered =
    not_refused made.0 (subst (λ (t : List ℕ). IsFirstRefusal (unicode_literal t) refusal) made.1 (first_of (unicode_literal text) refusal answered.parsed.refused))

-- The spellings of the first i of the patterns from a seed have this many bytes. The state is x.
pub record Answered (n i seed x bytes : ℕ) : Type 0 where
  pub texts : List (List ℕ)
  pub patterns_are : patterns n seed ≡ texts ++ patterns (n - i) x
  pub sized : AreSized texts bytes

pub answered_none : (n seed : ℕ) → Answered n 0 seed seed 0
answered_none n seed = record {
  texts = [];
  patterns_are = let all : n ≡ n - 0 = omega arith in ap (λ (k : ℕ). patterns k seed) all;
  sized = record { sizes = []; answered = tt; bytes_are = refl };
}

-- one more answer
sized_more : (texts : List (List ℕ)) (text : List ℕ) (bytes size : ℕ) → AreSized texts bytes → IsSized text size → AreSized (texts ++ text ∷ []) (bytes + size)
sized_more texts text bytes size so_far sized = record {
  sizes = so_far.sizes ++ size ∷ [];
  answered = AllZip-append IsSized texts so_far.sizes (text ∷ []) (size ∷ []) so_far.answered (sized, tt);
  bytes_are = ap (λ (n : ℕ). n + size) so_far.bytes_are ∙ sym (sum_by_push (λ (n : ℕ). n) so_far.sizes size);
}

next_pattern : (n i x : ℕ) → i < n → patterns (n - i) x ≡ pattern_text x ∷ patterns (n - (i + 1)) (state_after_pattern x)
unfolding patterns
next_pattern n i x h = let left : n - i ≡ suc (n - (i + 1)) = omega arith in ap (λ (k : ℕ). patterns k x) left

pub answered_more : (n i seed x x' bytes : ℕ) (text : List ℕ) (size : ℕ) → i < n → Answered n i seed x bytes → text ≡ pattern_text x → x' ≡ state_after_pattern x → IsSized text size
    → Answered n (i + 1) seed x' (bytes + size)
answered_more n i seed x x' bytes text size h so_far text_is state_is sized = record {
  texts = so_far.texts ++ text ∷ [];
  patterns_are = so_far.patterns_are ∙ ap (λ (ps : List (List ℕ)). so_far.texts ++ ps) (next_pattern n i x h
      ∙ ap (λ (p : List ℕ). p ∷ patterns (n - (i + 1)) (state_after_pattern x)) (sym text_is) ∙ ap (λ (y : ℕ). text ∷ patterns (n - (i + 1)) y) (sym state_is))
      ∙ sym (append_assoc so_far.texts (text ∷ []) (patterns (n - (i + 1)) x'));
  sized = sized_more so_far.texts text bytes size so_far.sized sized;
}

pub answered_all : (n seed x bytes : ℕ) → Answered n n seed x bytes → AreSized (patterns n seed) bytes
unfolding patterns
answered_all n seed x bytes all =
    let none : n - n ≡ 0 = omega arith in
    let P : List (List ℕ) → Type 0 = λ texts. AreSized texts bytes in
    subst P (sym (all.patterns_are ∙ ap (λ (k : ℕ). all.texts ++ patterns k x) none ∙ append-nil all.texts)) all.sized
