-- What notes a walk leaves.
use Rattle.std.proofs.Common.{◌≡◌, ap, sym, ◌∙◌, subst, Bool, true, false, List, [], ◌∷◌, ◌++◌, append-nil, append_assoc}
use Rattle.std.specs.List.{filter_map, flat_map}
use Rattle.std.proofs.lemmas.Bool.{false≢true}
use Rattle.std.proofs.lemmas.List.Elements.{filter_map-append}
use Rattle.rx_ast.specs.Kinds.{Kind, children, order}
use Rattle.rx_ast.proofs.Orders.{order_is}
use Rattle.rx_visit.specs.Visits.{Visited, VisitedAll, descend, pass, none, next}
use Rattle.rx_linter_example.specs.declared.visitor.Notes.{Notes}
use Rattle.rx_linter_example.specs.Notes.{note_of}
use Rattle.rx_linter_example.specs.Visitor.{TakesNote}

-- to leave a node changes nothing
abbrev pub Stays : Notes → Kind → Notes → Type 0
Stays v k w = w ≡ v

-- Unless memory was short, the notes of these nodes were added.
pub record Added (v : Notes) (ks : List Kind) (w : Notes) : Type 0 where
  pub was_enough : w.is_short ≡ false → v.is_short ≡ false
  pub added : w.is_short ≡ false → w.notes ≡ v.notes ++ filter_map note_of ks

added_one : (v : Notes) (k : Kind) (answer : Bool) (w : Notes) → TakesNote v k answer w → Added v (k ∷ []) w
added_one v k answer w taken = record { was_enough = taken.was_enough; added = taken.added }

added_next : (v m w : Notes) (ks more : List Kind) → Added v ks m → Added m more w → Added v (ks ++ more) w
added_next v m w ks more a b = record {
  was_enough = λ enough. a.was_enough (b.was_enough enough);
  added = λ enough. b.added enough ∙ ap (λ ns. ns ++ filter_map note_of more) (a.added (b.was_enough enough)) ∙ append_assoc v.notes (filter_map note_of ks) (filter_map note_of more)
      ∙ ap (λ ns. v.notes ++ ns) (sym (filter_map-append note_of ks more));
}

-- where a node is passed over, memory is short
added_short : (v : Notes) (k : Kind) (ks : List Kind) (w : Notes) → TakesNote v k false w → Added v ks w
added_short v k ks w taken = record {
  was_enough = taken.was_enough;
  added = λ enough. absurd (false≢true (taken.descends enough));
}

mutual
  pub notes_taken : (v : Notes) (k : Kind) (w : Notes) → Visited TakesNote Stays v k w → Added v (order k) w
  notes_taken v k w (descend _ _ m n _ enters visits leaves) =
      subst (λ s. Added v (order k) s) (sym leaves) (subst (λ ks. Added v ks n) (sym (order_is k)) (added_next v m n (k ∷ []) (flat_map order (children k)) (added_one v k true m enters) (all_notes_taken m (children k) n visits)))
  notes_taken v k w (pass _ _ m _ enters leaves) =
      subst (λ s. Added v (order k) s) (sym leaves) (added_short v k (order k) m enters)

  all_notes_taken : (v : Notes) (ks : List Kind) (w : Notes) → VisitedAll TakesNote Stays v ks w → Added v (flat_map order ks) w
  all_notes_taken v _ _ (none _) = record { was_enough = λ enough. enough; added = λ enough. sym (append-nil v.notes) }
  all_notes_taken v _ w (next _ k m ks _ first others) = added_next v m w (order k) (flat_map order ks) (notes_taken v k m first) (all_notes_taken m ks w others)
