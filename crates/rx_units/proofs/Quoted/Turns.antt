-- One more element is read, and what stays the same where elements lead on.
use Rattle.std.proofs.Common.{◌≡◌, ℕ, ◌+◌, ◌≤◌, List, [], ◌∷◌, ◌++◌, length, take, drop, refl, sym, ap, subst, arith, length-append}
use Rattle.rx_units.proofs.Common.{drop-append_seam, All-drop, CodePoint, Element, Literal, Options, element, front, element_units, Place, IsAllowed, Leads, no_element, one_more, byte_count}
use Rattle.rx_units.proofs.Quoted.Widths.{AreCharacters, taken}

abbrev pub place : List CodePoint → ℕ → List ℕ → Place
place us at rest = record { units = us; offset = at; rest = rest }

module _ (l : Literal) (o : Options) (from : Place) (us : List CodePoint) (at : ℕ) (rest : List ℕ) (e : Element) (n : ℕ) where
  pub turn : (new : List CodePoint) (end : ℕ) (more : List ℕ) → Leads l o from (place us at rest) → front l rest ≡ element e n → IsAllowed o e
      → end ≡ at + byte_count (take n rest) → more ≡ drop n rest → new ≡ us ++ element_units o at end e → Leads l o from (place new end more)
  turn new end more lead h k end_is more_is new_is =
      let t = taken l rest e n h in
      subst (λ new. Leads l o from (place new end more)) (sym new_is)
      (subst (λ more. Leads l o from (place (us ++ element_units o at end e) end more)) (sym more_is)
      (subst (λ (end : ℕ). Leads l o from (place (us ++ element_units o at end e) end (drop n rest))) (sym end_is)
      (one_more e (take n rest) (drop n rest) lead t.whole t.spells k)))

bytes_append : (w rest : List ℕ) → byte_count (w ++ rest) ≡ byte_count w + byte_count rest
bytes_append [] rest = omega arith
bytes_append (c ∷ w) rest = omega (arith, bytes_append w rest)

-- what stays the same
pub record IsOnward (from p : Place) : Type 0 where
  pub bytes : p.offset + byte_count p.rest ≡ from.offset + byte_count from.rest
  pub shorter : length p.rest ≤ length from.rest
  pub characters : AreCharacters from.rest → AreCharacters p.rest

module _ {l : Literal} {o : Options} where
  pub onward : {from p : Place} → Leads l o from p → IsOnward from p
  onward no_element = record {
    bytes = refl;
    shorter = omega arith;
    characters = λ a. a;
  }
  onward (one_more {p} e w rest lead h s k) = let before = onward lead in record {
    bytes = omega (arith, before.bytes, ap byte_count h, bytes_append w rest);
    shorter = omega (arith, before.shorter, ap length h, length-append w rest);
    characters = λ a. subst AreCharacters (drop-append_seam w rest) (All-drop (λ c. c ≤ 0x10FFFF) (length w) (w ++ rest) (subst AreCharacters h (before.characters a)));
  }

  pub lead_on : {from p q : Place} → Leads l o from p → Leads l o p q → Leads l o from q
  lead_on lead no_element = lead
  lead_on lead (one_more e w rest more h s k) = one_more e w rest (lead_on lead more) h s k
