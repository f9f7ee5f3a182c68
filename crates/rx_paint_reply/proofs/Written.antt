-- Tokens that are written one after another.
use Rattle.std.proofs.Common.{◌≡◌, ◌∙◌, refl, sym, ap, ℕ, ◌+◌, ◌<◌, List, [], ◌∷◌, ◌++◌, append_assoc, append-nil, length, drop, get_or, add-one, codes}
use Rattle.std.proofs.Math.Seq.{drop-cons}
use Rattle.rx_paint.specs.declared.token.Token.{Token}
use Rattle.rx_paint_reply.specs.Tokens.{token_text, tokens_text, later_tokens_text}

-- the first has no blank before it
pub tokens_first : (t : Token) (ts : List Token) → tokens_text (t ∷ ts) ≡ token_text t ++ later_tokens_text ts
tokens_first t [] = sym (append-nil (token_text t))
tokens_first t (next ∷ ts) = ap (λ (text : List ℕ). token_text t ++ (32 ∷ text)) (tokens_first next ts)

tokens_next : (ts : List Token) (i : ℕ) (d : Token) → i < length ts → later_tokens_text (drop i ts) ≡ (codes " " ++ token_text (get_or ts i d)) ++ later_tokens_text (drop (i + 1) ts)
tokens_next ts i d within = rw (add-one, drop-cons ts i d) refl

-- one more token is written, and the rest is still to come
pub tokens_more : (ts : List Token) (i : ℕ) (d : Token) (whole bytes blank more : List ℕ) → i < length ts
    → bytes ++ later_tokens_text (drop i ts) ≡ whole → blank ≡ bytes ++ codes " " → more ≡ blank ++ token_text (get_or ts i d) → more ++ later_tokens_text (drop (i + 1) ts) ≡ whole
tokens_more ts i d whole bytes blank more within so_far e f =
    let rest = later_tokens_text (drop (i + 1) ts) in
    let token = token_text (get_or ts i d) in
    ap (λ (text : List ℕ). text ++ rest) (f ∙ ap (λ (text : List ℕ). text ++ token) e ∙ append_assoc bytes (codes " ") token)
    ∙ append_assoc bytes (codes " " ++ token) rest
    ∙ ap (λ (text : List ℕ). bytes ++ text) (sym (tokens_next ts i d within)) ∙ so_far
