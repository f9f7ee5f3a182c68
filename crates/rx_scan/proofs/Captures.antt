-- One more group that captures.
use Rattle.std.proofs.Common.{◌≡◌, ap, sym, ◌∙◌, subst, ℕ, suc, ◌+◌, cond, Option, Some, None, List, [], ◌∷◌, ◌++◌, map, arith}
use Rattle.std.specs.BTreeMap.{get_by_text}
use Rattle.std.specs.Str.{IsUtf8, bytes_eq, chars}
use Rattle.std.proofs.lemmas.List.{map-append}
use Rattle.rx_units.proofs.Choices.{Some-inj}
use Rattle.rx_model.specs.FirstPass.Marks.{capturing, mark_name, name_length}
use Rattle.rx_scan.specs.OpenGroups.{group_states_of}
use Rattle.rx_scan.specs.FirstPass.{Captures, KnowsLast, Steps, entries, entry_of, first_clash, parts_of, with_name}
use Rattle.rx_scan.specs.declared.first_pass.FirstPass.{FirstPass}
use Rattle.rx_scan.specs.declared.first_pass.Opening.{Opening}
use Rattle.rx_scan.proofs.Passes.{knows_more}

-- what a new named opening leads to, where `mid` has its name
pub record Added (old mid new : FirstPass) (opening : Opening) (bytes : List ℕ) : Type 0 where
  pub renamed : mid ≡ record old { names = with_name old.names opening.name }
  pub mode_is : new.mode ≡ mid.mode
  pub rule_is : new.duplicate_names ≡ mid.duplicate_names
  pub counted : new.count ≡ mid.count + 1
  pub named_by : new.names ≡ mid.names
  pub opened : group_states_of new.groups ≡ (opening.mark + 1, opening.mark + 1) ∷ group_states_of mid.groups
  pub listed_are : new.openings ≡ mid.openings ++ opening ∷ []
  pub sets : (cs : List ℕ) → get_by_text new.last_openings.marks cs ≡ cond (bytes_eq bytes cs) (Some opening.mark) (get_by_text mid.last_openings.marks cs)
  pub text : IsUtf8 bytes
  pub spells : chars bytes ≡ opening.name

pub added : (old mid new : FirstPass) (opening : Opening) (bytes : List ℕ) → Added old mid new opening bytes → KnowsLast (entries old) old.last_openings → first_clash (parts_of old) opening.name (entries old) ≡ None → Captures old new (Some opening.name) opening.start opening.end opening.mark
added old mid new opening bytes a knows none =
    let next : opening.mark + 1 ≡ suc opening.mark = omega arith in
    let es : entries new ≡ entries old ++ entry_of opening ∷ [] =
    ap (map entry_of) (a.listed_are ∙ ap (λ m. m.openings ++ opening ∷ []) a.renamed) ∙ map-append entry_of old.openings (opening ∷ []) in
    record {
      mode_is = a.mode_is ∙ ap (λ m. m.mode) a.renamed;
      rule_is = a.rule_is ∙ ap (λ m. m.duplicate_names) a.renamed;
      counted = a.counted ∙ ap (λ m. m.count + 1) a.renamed;
      named_by = a.named_by ∙ ap (λ m. m.names) a.renamed;
      opened = a.opened ∙ ap (λ j. (j, j) ∷ group_states_of mid.groups) next ∙ ap (λ m. (suc opening.mark, suc opening.mark) ∷ group_states_of m.groups) a.renamed;
      listed_are = es;
      knows = subst (λ z. KnowsLast z new.last_openings) (sym es)
          (knows_more (entries old) (entry_of opening) old.last_openings new.last_openings bytes knows (λ cs. a.sets cs ∙ ap (λ m. cond (bytes_eq bytes cs) (Some opening.mark) (get_by_text m.last_openings.marks cs)) a.renamed) a.text a.spells);
      fresh = λ n e. let same : opening.name ≡ n = Some-inj e in subst (λ z. first_clash (parts_of old) z (entries old) ≡ None) same none;
    }

pub captured_steps : (old new : FirstPass) (units : Option (List ℕ)) (name : Option (List ℕ)) (at k : ℕ) → mark_name old.mode (capturing units) ≡ name → Captures old new name (at + 3) (at + 3 + name_length (capturing units)) k → Steps old new (capturing units) at k
captured_steps old new units name at k e c =
    let d = subst (λ z. Captures old new z (at + 3) (at + 3 + name_length (capturing units)) k) (sym e) c in
    record { mode_is = d.mode_is; rule_is = d.rule_is; counted = d.counted; named_by = d.named_by; opened = d.opened; listed_are = d.listed_are; knows = d.knows; fresh = d.fresh }
