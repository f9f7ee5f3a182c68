-- Findings that are written one after another.
use Rattle.std.proofs.Common.{◌≡◌, ◌∙◌, refl, sym, ap, ℕ, ◌+◌, ◌<◌, List, [], ◌∷◌, ◌++◌, append_assoc, append-nil, length, drop, get_or, add-one, codes}
use Rattle.std.proofs.Math.Seq.{drop-cons}
use Rattle.rx_lint.specs.declared.finding.Finding.{Finding}
use Rattle.rx_lint_reply.specs.Findings.{finding_text, findings_text, later_findings_text}

-- the first has no blank before it
pub findings_first : (f : Finding) (fs : List Finding) → findings_text (f ∷ fs) ≡ finding_text f ++ later_findings_text fs
findings_first f [] = sym (append-nil (finding_text f))
findings_first f (next ∷ fs) = ap (λ (text : List ℕ). finding_text f ++ (32 ∷ text)) (findings_first next fs)

findings_next : (fs : List Finding) (i : ℕ) (d : Finding) → i < length fs → later_findings_text (drop i fs) ≡ (codes " " ++ finding_text (get_or fs i d)) ++ later_findings_text (drop (i + 1) fs)
findings_next fs i d within = rw (add-one, drop-cons fs i d) refl

-- one more finding is written, and the rest is still to come
pub findings_more : (fs : List Finding) (i : ℕ) (d : Finding) (whole bytes blank more : List ℕ) → i < length fs
    → bytes ++ later_findings_text (drop i fs) ≡ whole → blank ≡ bytes ++ codes " " → more ≡ blank ++ finding_text (get_or fs i d) → more ++ later_findings_text (drop (i + 1) fs) ≡ whole
findings_more fs i d whole bytes blank more within so_far e f =
    let rest = later_findings_text (drop (i + 1) fs) in
    let one = finding_text (get_or fs i d) in
    ap (λ (text : List ℕ). text ++ rest) (f ∙ ap (λ (text : List ℕ). text ++ one) e ∙ append_assoc bytes (codes " ") one)
    ∙ append_assoc bytes (codes " " ++ one) rest
    ∙ ap (λ (text : List ℕ). bytes ++ text) (sym (findings_next fs i d within)) ∙ so_far
