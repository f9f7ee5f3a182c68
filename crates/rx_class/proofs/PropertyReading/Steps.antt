-- What bounds the steps of looking at a property escape.
use Rattle.std.proofs.Common.{◌≡◌, ℕ, ◌+◌, ◌*◌, ◌≤◌, true, List, length, Result, Ok, Err, IfOk, Option, Bool, ap, arith, subst, sym, ◌∙◌, length-append}
use Rattle.rx_class.proofs.Common.{Rises, Mode, starts, IsPropertyAfter}
use Rattle.rx_base.specs.declared.out_of_memory.OutOfMemory.{OutOfMemory}
use Rattle.rx_class.specs.PropertyReading.Steps.{IsClosedIn, IsSpelledIn, property_looks}
use Rattle.rx_class.specs.declared.properties.found.PropertyFound.{PropertyFound}
use Rattle.rx_class.specs.declared.properties.found.PropertyFound.TheVariants as found

-- Three looks at each unit, and of a property at each that spells it.
pub looks : (units n a d : ℕ) (following : List ℕ) (result : Result PropertyFound OutOfMemory) → IfOk result (IsClosedIn n following) → a ≤ d → d ≤ a + 3 * units → (starts 125 following ≡ true → d ≤ a + 3 * n)
    → Rises a d 0 (property_looks units result)
looks units n a d following (Ok (found.Property negative strings text second count)) is least most few = let within = few is.1 in (omega (arith, least), omega (arith, within, is.0))
looks units n a d following (Ok found.Nothing) is least most few = absurd is
looks units n a d following result is least most few = (omega (arith, least), omega (arith, most))

pub closes_it : (n : ℕ) {ends : Bool} (result : Result PropertyFound OutOfMemory) → ends ≡ true → IfOk result (IsSpelledIn n)
    → IfOk result (λ found. (following : List ℕ) → ends ≡ starts 125 following → IsClosedIn n following found)
closes_it n (Ok (found.Property negative strings name value length)) is_closed is = λ following ends. (is, sym ends ∙ is_closed)
closes_it n (Ok found.Nothing) is_closed is = absurd is
closes_it n (Ok (found.Halt h)) is_closed is = λ following ends. tt
closes_it n (Err none) is_closed is = tt

-- What follows a word closes it, as the test of it says.
pub closed_by : {m n : ℕ} {ends : Bool} (following : List ℕ) → m ≡ n → ends ≡ starts 125 following → (result : Result PropertyFound OutOfMemory)
    → IfOk result (λ found. (following : List ℕ) → ends ≡ starts 125 following → IsClosedIn (3 + m) following found) → IfOk result (IsClosedIn (3 + n) following)
closed_by following same is (Ok found) closes = subst (λ n. IsClosedIn (3 + n) following found) same (closes following is)
closed_by following same is (Err none) closes = tt

-- A property is within the units after its backslash.
pub property_within : {mode : Mode} {following : List ℕ} {negative strings : Bool} {name : List ℕ} {value : Option (List ℕ)} {count : ℕ} → IsPropertyAfter mode following negative strings name value count → count ≤ length following
property_within {following = following} {count = count} is = omega (arith, is.count_is, ap length is.whole, length-append is.front is.rest)
