-- A name that is read after `(?<` and `\k<` stands there, and where none is read this is for the reason that is said.
use Rattle.std.proofs.Common.{◌≡◌, refl, sym, ap, ◌∙◌, subst, ℕ, ◌+◌, ◌<◌, Bool, true, false, not, ◌==◌, ◌&&◌, nat_lt, cond, Some, List, [], ◌∷◌, drop, arith}
use Rattle.std.proofs.lemmas.Bool.{and_parts, both_ways, cond-true, cond_both, eqb-true, false_from_ne_true, ltb-true, true≢false}
use Rattle.std.proofs.Math.Bool.{and-false}
use Rattle.rx_base.specs.Characters.{is_lead, is_trail}
use Rattle.rx_units.proofs.Choices.{both}
use Rattle.rx_units.specs.Digits.{PassesHex}
use Rattle.rx_model.specs.Characters.Decoding.{Decoded, value, invalid, overflow, decoding_of}
use Rattle.rx_model.specs.Characters.UnicodeEscapes.{Decodes}
use Rattle.rx_model.specs.FirstPass.Marks.{starts}
use Rattle.rx_model.specs.Groups.GroupFronts.{closed_name, name_front}
use Rattle.rx_model.specs.Groups.GroupNameReading.{NameRow, row, name_at}
use Rattle.rx_model.specs.Groups.GroupNames.{BeginsWithName, IsNameRow, no_name, some_name, SpellsName, whole_name}
use Rattle.rx_model.specs.Groups.NameFronts.{NameHalt, begins_pair, unterminated, misplaced_pair, misplaced, no_escape, no_escape_of_u, many_digits, NameRead, name_read, no_name_read, escape_halt, read_after_name, read_from_row, name_read_at}
use Rattle.rx_model.specs.Refusals.Causes.{BeginsWithPair}
use Rattle.rx_model.proofs.Characters.Decoding.{value_law, overflow_law}
use Rattle.rx_model.proofs.Groups.GroupNames.{lead_seen, name_read as name_row_read, name_row_law, seen_lead, seen_trail, trail_seen}

-- a raw pair stands next, or none
pub pair_begins : (w : List ℕ) → begins_pair w ≡ true → BeginsWithPair w
pair_begins [] h = absurd (let no : ⊥ = cc h in no)
pair_begins (c ∷ []) h = absurd (let no : ⊥ = cc h in no)
pair_begins (c ∷ d ∷ w) h = let p = both (is_lead c) (is_trail d) h in record { lead = c; trail = d; rest = w; whole = refl; is_lead = seen_lead c p.0; is_trail = seen_trail d p.1 }

pub no_pair_begins : (w : List ℕ) → (BeginsWithPair w → ⊥) → begins_pair w ≡ false
no_pair_begins w h = false_from_ne_true (begins_pair w) (λ t. h (pair_begins w t))

pub no_pair : (w : List ℕ) → begins_pair w ≡ false → BeginsWithPair w → ⊥
no_pair w h b = both_ways (begins_pair w) h (ap begins_pair b.whole ∙ rw (lead_seen b.lead b.is_lead, trail_seen b.trail b.is_trail) refl)

-- After n units, which are the longest row of a name's characters, stands a backslash.
pub record EscapeAfter (unicode_mode : Bool) (w : List ℕ) (count : ℕ) (following : List ℕ) : Type 0 where
  pub row : IsNameRow unicode_mode w count
  pub there : drop count w ≡ 92 ∷ following

-- No unicode escape stands there.
pub record NoEscape (w : List ℕ) : Type 0 where
  pub no_value : (v n : ℕ) → Decodes true w v n → ⊥
  pub no_limit : (many : ℕ) → PassesHex w many → ⊥

-- Where no name ends, this is so.
abbrev pub SaysNameHalt : Bool → List ℕ → NameHalt → Type 0
SaysNameHalt m w (unterminated n) = IsNameRow m w n × (starts 92 (drop n w) ≡ false) × ((not m && begins_pair (drop n w)) ≡ false) × (starts 62 (drop n w) ≡ true → n ≡ 0)
SaysNameHalt m w (misplaced_pair n) = IsNameRow m w n × (m ≡ false) × BeginsWithPair (drop n w)
SaysNameHalt m w (misplaced count n) = (following : List ℕ) × EscapeAfter m w count following × (v : ℕ) × Decodes true following v n
SaysNameHalt m w (no_escape count) = (following : List ℕ) × EscapeAfter m w count following × NoEscape following × ((m && starts 117 following) ≡ false)
SaysNameHalt m w (no_escape_of_u count) = (following : List ℕ) × EscapeAfter m w count following × NoEscape following × ((m && starts 117 following) ≡ true)
SaysNameHalt m w (many_digits count many) = (following : List ℕ) × EscapeAfter m w count following × PassesHex following many

-- What a reading says of a text.
abbrev pub SaysName : Bool → List ℕ → NameRead → Type 0
SaysName m w (name_read name n) = BeginsWithName m w name n × (starts 62 (drop n w) ≡ true)
SaysName m w (no_name_read it) = SaysNameHalt m w it

module _ (m : Bool) (w : List ℕ) where
  escape_said : (count : ℕ) (following : List ℕ) → EscapeAfter m w count following → (d : Decoded) → decoding_of true following ≡ d → SaysNameHalt m w (escape_halt m count following d)
  escape_said count following b (value v n) e = (following, b, v, (value_law true following v n).0 e)
  escape_said count following b (overflow many) e = (following, b, ((overflow_law true following many).0 e).1)
  escape_said count following b invalid e =
      let none : NoEscape following = record {
        no_value = λ v n d. let no : ⊥ = cc (e, (value_law true following v n).1 d) in no;
        no_limit = λ many p. let no : ⊥ = cc (e, (overflow_law true following many).1 (refl, p)) in no;
      } in
      cond_both (m && starts 117 following) (no_escape_of_u count) (no_escape count) (SaysNameHalt m w) (λ u. (following, b, none, u)) (λ u. (following, b, none, u))

  name_said : (name : List ℕ) (n : ℕ) → name_at m w ≡ row name n → 0 < n → IsNameRow m w n → starts 62 (drop n w) ≡ true → SaysName m w (name_read name n)
  name_said name _ e some (no_name none) closed = absurd (omega arith)
  name_said name n e some (some_name {name = other} b) closed =
      let same : name ≡ other = cc (e, name_row_read m w other n b) in
      (subst (λ name. BeginsWithName m w name n) (sym same) b, closed)

  after_said : (name : List ℕ) (n : ℕ) → name_at m w ≡ row name n → (rest : List ℕ) → drop n w ≡ rest → SaysName m w (read_after_name m name n rest)
  after_said name n e [] f = (name_row_law m w name n e, ap (starts 92) f, ap (λ v. not m && begins_pair v) f ∙ and-false (not m), λ closed. absurd (true≢false (sym closed ∙ ap (starts 62) f)))
  after_said name n e (c ∷ v) f =
      let row = name_row_law m w name n e in
      let raw : NameRead = cond (not m && begins_pair (c ∷ v)) (no_name_read (misplaced_pair n)) (no_name_read (unterminated n)) in
      let other : NameRead = cond (c == 92) (no_name_read (escape_halt m n v (decoding_of true v))) raw in
      cond_both (nat_lt 0 n && (c == 62)) (name_read name n) other (SaysName m w)
      (λ t. let p = and_parts (nat_lt 0 n) (c == 62) t in name_said name n e (ltb-true 0 n p.0) row (ap (starts 62) f ∙ p.1))
      (λ t. cond_both (c == 92) (no_name_read (escape_halt m n v (decoding_of true v))) raw (SaysName m w)
      (λ s. escape_said n v (record { row = row; there = f ∙ ap (λ c. c ∷ v) (eqb-true c 92 s) }) (decoding_of true v) refl)
      (λ s. cond_both (not m && begins_pair (c ∷ v)) (no_name_read (misplaced_pair n)) (no_name_read (unterminated n)) (SaysName m w)
      (λ p. let q = and_parts (not m) (begins_pair (c ∷ v)) p in (row, not_true_false m q.0, subst BeginsWithPair (sym f) (pair_begins (c ∷ v) q.1)))
      (λ p. (row, ap (starts 92) f ∙ s, ap (λ v. not m && begins_pair v) f ∙ p, λ closed. none n t (sym (ap (starts 62) f) ∙ closed)))))
    where
      not_true_false : (m : Bool) → not m ≡ true → m ≡ false
      not_true_false m h = grind arith

      none : (n : ℕ) → (nat_lt 0 n && (c == 62)) ≡ false → (c == 62) ≡ true → n ≡ 0
      none n t closed = grind (arith, closed, t)

  -- What is read holds.
  pub names_said : SaysName m w (name_read_at m w)
  names_said = go (name_at m w) refl
    where
      go : (r : NameRow) → name_at m w ≡ r → SaysName m w (read_from_row m r w)
      go (row name n) e = after_said name n e (drop n w) refl

  -- A name that is read is the token's.
  pub name_there : (name : List ℕ) (n : ℕ) → name_read_at m w ≡ name_read name n → name_front m w ≡ Some (name, n + 1)
  name_there name n h = closed (subst (SaysName m w) h names_said)
    where
      some : (name : List ℕ) (v rest : List ℕ) → SpellsName m name v rest → starts 62 (drop n w) ≡ true → closed_name (row name n) w ≡ Some (name, n + 1)
      some _ _ _ (whole_name v u rest s parts) t = cond-true (starts 62 (drop n w)) _ _ t

      closed : SaysName m w (name_read name n) → name_front m w ≡ Some (name, n + 1)
      closed b = ap (λ r. closed_name r w) (name_row_read m w name n b.0) ∙ some name b.0.spelled b.0.rest b.0.spells b.1
