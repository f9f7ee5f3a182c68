-- What is answered, by what the parser answers.
use Rattle.std.proofs.Common.{◌≡◌, refl, sym, subst, ℕ, Bool, true, inl, inr, List, Option, Result, Ok, Err, [], ◌∷◌, arith}
use Rattle.std.specs.Prelude.{◌<◌, ◌^◌, length, encode_utf8_all, IfOk}
use Rattle.std.specs.Str.{IsUtf8, chars}
use Rattle.std.proofs.Math.Utf8.{scalar_cases}
use Rattle.std.proofs.lemmas.Str.{scalars-chars}
use lib.Utf8.{scalar, scalars}
use Rattle.std.proofs.lemmas.Bool.{and_parts}
use Rattle.rx_base.specs.declared.diagnostic.Diagnostic.{Diagnostic}
use Rattle.rx_base.specs.declared.fault.Fault.{Fault}
use Rattle.rx_base.specs.declared.fault.Fault.TheVariants as fault
use Rattle.rx_ast.specs.declared.term.Pattern.{Pattern}
use Rattle.rx_ast.specs.Forget.{bare}
use Rattle.rx_model.specs.declared.form.Form.{Form}
use Rattle.rx_model.specs.declared.mode.Mode.{Mode}
use Rattle.rx_model.specs.declared.rules.Rules.{Rules}
use Rattle.rx_model.specs.Reading.Headline.{IsAnswered, IsFaultOf, IsFirstRefusal, IsParsed, IsReadAs, IsSameAgain, Spelled, no_memory, refused}
use Rattle.rx_model.specs.Inputs.Inputs.{AsksFor, Input, literal_alone}
use Rattle.rx_model.specs.Spelling.Spelling.{spelling}
use Rattle.rx_model.proofs.Inputs.Asked.{asked_some, one_mode}
use Rattle.rx_model.proofs.Spelling.Bounds.{AreCodePoints}
use Rattle.rx_model.proofs.Spelling.SameAgain.{asked_fits, spelled_again}
use Rattle.rx_tools.specs.declared.outcome.Canonical.{Canonical}
use Rattle.rx_tools.specs.Spelled.{read_of, spelling_answer}

-- The characters of a text are code points.
are_points : (cs : List ℕ) → scalars cs ≡ true → AreCodePoints cs
are_points [] h = tt
are_points (c ∷ cs) h =
    let both = and_parts (scalar c) (scalars cs) h in
    (elim (scalar_cases c both.0) [ inl p ↦ omega arith | inr p ↦ omega arith ], are_points cs both.1)

pub text_points : (bytes : List ℕ) → IsUtf8 bytes → AreCodePoints (chars bytes)
text_points bytes utf8 = are_points (chars bytes) (scalars-chars bytes utf8)

-- A tree is read in the mode that is asked for,
read_in : (input : Input) (mode other : Mode) (tree : Pattern) → AsksFor input mode → IsReadAs input other tree → IsReadAs input mode tree
read_in input mode other tree asks read =
    subst (λ m. IsReadAs input m tree) (one_mode input other mode read.asked.mode_asked asks) read

-- which is the one that is answered.
pub read_as : {A : Type 0} (spelled : A → Spelled) (input : Input) (it : A) → IsAnswered spelled input (Ok it) → IsReadAs input (spelled it).mode (spelled it).pattern
read_as spelled input it answered =
    let read = answered.parsed.read in read_in input (spelled it).mode read.0 (spelled it).pattern answered.mode_is read.1

-- A fault that is a refusal is the first.
pub first_of : (input : Input) (refusal : Diagnostic) → IsFaultOf input (fault.Diagnostic refusal) → IsFirstRefusal input refusal
first_of input refusal (refused first) = first

-- an answer at offsets that are 0, under given rules, and by a given way to read arguments
pub by_itself : {A : Type 0} (spelled : A → Spelled) (form : Form) (text : List ℕ) (flags : Option (List ℕ)) (answer : Result A Fault) (text_offset flags_offset : ℕ) (given under : Rules)
    (given_standard standard : Bool) → text_offset ≡ 0 → flags_offset ≡ 0 → given ≡ under → given_standard ≡ standard
    → IsAnswered spelled (record { form = form; text = text; flags = flags; text_offset = text_offset; flags_offset = flags_offset; rules = given; standard_strings = given_standard }) answer
    → IsAnswered spelled (record { form = form; text = text; flags = flags; text_offset = 0; flags_offset = 0; rules = under; standard_strings = standard }) answer
by_itself spelled form text flags answer text_offset flags_offset given under given_standard standard text_is flags_is rules_are standard_is answered =
    rw (text_is, flags_is, rules_are, standard_is) at answered

module _ (input : Input) where
  pub memory_wants : IsAnswered spelling_answer input (Err fault.OutOfMemory)
  memory_wants = record {
    parsed = record { valid = tt; complete = λ _. refl; read = tt; refused = no_memory };
    mode_is = tt;
    text_is = tt;
    again = tt;
  }

  -- what the parser answers, with the spelling that a tree has
  pub with_spelling : AreCodePoints input.text → (answer : Result (Pattern × Mode) Fault) → IsParsed (λ it. it.0) input answer →
      IfOk answer (λ it. AsksFor input it.1) → IsAnswered read_of input answer
  with_spelling points (Ok it) parsed mode = record {
    parsed = parsed;
    mode_is = mode;
    text_is = refl;
    again = λ _.
        let read = read_in input it.1 parsed.read.0 it.0 mode parsed.read.1 in
        spelled_again input it.1 it.0 read (asked_fits input it.1 read.units read.asked points) (asked_some input it.1 read.units read.asked);
  }
  with_spelling points (Err fault) parsed mode = record { parsed = parsed; mode_is = tt; text_is = tt; again = tt }

  -- the same with a text that is this spelling
  pub with_text : (it : Canonical) → it.text ≡ spelling (bare it.pattern) it.mode → IsAnswered read_of input (Ok (it.pattern, it.mode)) → IsAnswered spelling_answer input (Ok it)
  with_text it text read = record {
    parsed = record { valid = read.parsed.valid; complete = read.parsed.complete; read = read.parsed.read; refused = tt };
    mode_is = read.mode_is;
    text_is = text;
    again = subst (λ w. length (encode_utf8_all w) < 2 ^ 32 → (again : Result Pattern Fault) → IsParsed (λ p. p) (literal_alone w it.mode input.rules input.standard_strings) again → IsSameAgain it.pattern again) (sym text) read.again;
  }

  pub refused_too : (fault : Fault) → IsAnswered read_of input (Err fault) → IsAnswered spelling_answer input (Err fault)
  refused_too fault read = record {
    parsed = record { valid = tt; complete = read.parsed.complete; read = tt; refused = read.parsed.refused };
    mode_is = tt;
    text_is = tt;
    again = tt;
  }
