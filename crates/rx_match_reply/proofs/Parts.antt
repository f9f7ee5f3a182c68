-- Parts of a reply that are added one after the other.
use Rattle.std.proofs.Common.{◌≡◌, ◌∙◌, ap, ℕ, List, ◌++◌, append_assoc}

pub three_added : (old one two three first second third : List ℕ) → first ≡ old ++ one → second ≡ first ++ two → third ≡ second ++ three → third ≡ old ++ (one ++ (two ++ three))
three_added old one two three first second third e f g =
    g ∙ ap (λ (text : List ℕ). text ++ three) (f ∙ ap (λ (text : List ℕ). text ++ two) e ∙ append_assoc old one two) ∙ append_assoc old (one ++ two) three
    ∙ ap (λ (text : List ℕ). old ++ text) (append_assoc one two three)
