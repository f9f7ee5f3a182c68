-- Slots that are written one after the other.
use Rattle.std.proofs.Common.{◌≡◌, ◌∙◌, refl, sym, ap, ℕ, ◌+◌, ◌<◌, List, [], ◌∷◌, ◌++◌, append_assoc, append-nil, length, drop, get_or, add-one, codes}
use Rattle.std.proofs.Math.Seq.{drop-cons}
use Rattle.rx_trace.specs.declared.answer.Slot.{Slot}
use Rattle.rx_match_reply.specs.Found.{slot_text, slots_text, later_slots_text}

-- the first has no comma before it
pub slots_first : (slot : Slot) (slots : List Slot) → slots_text (slot ∷ slots) ≡ slot_text slot ++ later_slots_text slots
slots_first slot [] = sym (append-nil (slot_text slot))
slots_first slot (next ∷ slots) = ap (λ (text : List ℕ). slot_text slot ++ (44 ∷ text)) (slots_first next slots)

slots_next : (slots : List Slot) (i : ℕ) (d : Slot) → i < length slots → later_slots_text (drop i slots) ≡ (codes "," ++ slot_text (get_or slots i d)) ++ later_slots_text (drop (i + 1) slots)
slots_next slots i d within = rw (add-one, drop-cons slots i d) refl

-- one more slot is written, and the rest is still to come
pub slots_more : (slots : List Slot) (i : ℕ) (d : Slot) (whole bytes comma more : List ℕ) → i < length slots
    → bytes ++ later_slots_text (drop i slots) ≡ whole → comma ≡ bytes ++ codes "," → more ≡ comma ++ slot_text (get_or slots i d) → more ++ later_slots_text (drop (i + 1) slots) ≡ whole
slots_more slots i d whole bytes comma more within so_far e f =
    let rest = later_slots_text (drop (i + 1) slots) in
    let slot = slot_text (get_or slots i d) in
    ap (λ (text : List ℕ). text ++ rest) (f ∙ ap (λ (text : List ℕ). text ++ slot) e ∙ append_assoc bytes (codes ",") slot)
    ∙ append_assoc bytes (codes "," ++ slot) rest
    ∙ ap (λ (text : List ℕ). bytes ++ text) (sym (slots_next slots i d within)) ∙ so_far
