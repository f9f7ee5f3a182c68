-- Parts of a reply that are added one after the other.
use Rattle.std.proofs.Common.{◌≡◌, ◌∙◌, ap, ℕ, List, ◌++◌, append_assoc}

-- one part more
pub more_added : (old before part text after : List ℕ) → text ≡ old ++ before → after ≡ text ++ part → after ≡ old ++ (before ++ part)
more_added old before part text after so_far added = added ∙ ap (λ (t : List ℕ). t ++ part) so_far ∙ append_assoc old before part

pub three_added : (old one two three first second third : List ℕ) → first ≡ old ++ one → second ≡ first ++ two → third ≡ second ++ three → third ≡ old ++ ((one ++ two) ++ three)
three_added old one two three first second third e f g = more_added old (one ++ two) three second third (more_added old one two first second e f) g

pub five_added : (old one two three four five first second third fourth fifth : List ℕ) → first ≡ old ++ one → second ≡ first ++ two → third ≡ second ++ three → fourth ≡ third ++ four → fifth ≡ fourth ++ five
    → fifth ≡ old ++ ((((one ++ two) ++ three) ++ four) ++ five)
five_added old one two three four five first second third fourth fifth e f g h i =
    more_added old (((one ++ two) ++ three) ++ four) five fourth fifth (more_added old ((one ++ two) ++ three) four third fourth (three_added old one two three first second third e f g) h) i
