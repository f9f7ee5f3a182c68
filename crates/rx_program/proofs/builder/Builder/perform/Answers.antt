use Rattle.std.proofs.Common.{refl, sym, subst, ◌∷◌, arith}
use Rattle.std.proofs.lemmas.Result.{on_ok_weaker}
use Rattle.rx_program.specs.declared.builder.Task.TheVariants as task
use Rattle.rx_program.specs.Codes as code
use Rattle.rx_program.specs.Works.{looking, entering, choosing, swapping, sequencing, on_one, on_two, swap}
use Rattle.rx_program.specs.BuilderState.{works, IsBuilding, Builds}
use Rattle.rx_program.proofs.BuilderSteps.{builds, one_code, two_codes}
use Rattle.rx_program.proofs.Performing.{work, about, made_about, builds_about, repeating_same}
use Rattle.rx_program.proofs.builder.Builder.perform.Goals as goal

pub disjunction-requires-clause-sound : goal.disjunction-requires-clause-sound
disjunction-requires-clause-sound c = about c.args.self.now c.args.task (task.Disjunction c.in-Disjunction.context c.in-Disjunction.alternatives) c.in-Disjunction.is c.requires.sound

pub disjunction-requires-clause-codes : goal.disjunction-requires-clause-codes
disjunction-requires-clause-codes c = one_code c.args.self.now (work c.args.self.now (task.Disjunction c.in-Disjunction.context c.in-Disjunction.alternatives)) (made_about c.args.self.now c.args.task (task.Disjunction c.in-Disjunction.context c.in-Disjunction.alternatives) c.in-Disjunction.is c.requires.made)

pub returns-in-Disjunction : goal.returns-in-Disjunction
returns-in-Disjunction c =
    on_ok_weaker c.disjunction.result (builds_about c.args.self.now c.disjunction.new.self c.args.task (task.Disjunction c.in-Disjunction.context c.in-Disjunction.alternatives) c.in-Disjunction.is) c.disjunction.ensures

pub earlier-requires-clause-sound : goal.earlier-requires-clause-sound
earlier-requires-clause-sound c = about c.args.self.now c.args.task (task.Earlier c.in-Earlier.context c.in-Earlier.alternatives) c.in-Earlier.is c.requires.sound

pub earlier-requires-clause-codes : goal.earlier-requires-clause-codes
earlier-requires-clause-codes c = two_codes c.args.self.now (work c.args.self.now (task.Earlier c.in-Earlier.context c.in-Earlier.alternatives)) (λ k d. refl) (made_about c.args.self.now c.args.task (task.Earlier c.in-Earlier.context c.in-Earlier.alternatives) c.in-Earlier.is c.requires.made)

pub returns-in-Earlier : goal.returns-in-Earlier
returns-in-Earlier c =
    on_ok_weaker c.earlier.result (builds_about c.args.self.now c.earlier.new.self c.args.task (task.Earlier c.in-Earlier.context c.in-Earlier.alternatives) c.in-Earlier.is) c.earlier.ensures

pub terms-requires : goal.terms-requires
terms-requires c = record { sound = about c.args.self.now c.args.task (task.Terms c.in-Terms.context c.in-Terms.terms) c.in-Terms.is c.requires.sound }

pub returns-in-Terms : goal.returns-in-Terms
returns-in-Terms c =
    on_ok_weaker c.terms.result (builds_about c.args.self.now c.terms.new.self c.args.task (task.Terms c.in-Terms.context c.in-Terms.terms) c.in-Terms.is) c.terms.ensures

pub term-requires-clause-sound : goal.term-requires-clause-sound
term-requires-clause-sound c = about c.args.self.now c.args.task (task.Term c.in-Term.context c.in-Term.term) c.in-Term.is c.requires.sound

pub term-requires-clause-codes : goal.term-requires-clause-codes
term-requires-clause-codes c = one_code c.args.self.now (work c.args.self.now (task.Term c.in-Term.context c.in-Term.term)) (made_about c.args.self.now c.args.task (task.Term c.in-Term.context c.in-Term.term) c.in-Term.is c.requires.made)

pub returns-in-Term : goal.returns-in-Term
returns-in-Term c =
    on_ok_weaker c.term.result (builds_about c.args.self.now c.term.new.self c.args.task (task.Term c.in-Term.context c.in-Term.term) c.in-Term.is) c.term.ensures

pub close_group-requires-clause-sound : goal.close_group-requires-clause-sound
close_group-requires-clause-sound c = about c.args.self.now c.args.task task.Capture c.in-Capture.is c.requires.sound

pub close_group-requires-clause-codes : goal.close_group-requires-clause-codes
close_group-requires-clause-codes c = two_codes c.args.self.now (work c.args.self.now task.Capture) (λ k d. refl) (made_about c.args.self.now c.args.task task.Capture c.in-Capture.is c.requires.made)

pub returns-in-Capture : goal.returns-in-Capture
returns-in-Capture c =
    on_ok_weaker c.close_group.result (builds_about c.args.self.now c.close_group.new.self c.args.task task.Capture c.in-Capture.is) c.close_group.ensures

pub look_around-requires-clause-program : goal.look_around-requires-clause-program
look_around-requires-clause-program c = c.requires.sound.program

pub look_around-requires-clause-codes : goal.look_around-requires-clause-codes
look_around-requires-clause-codes c = two_codes c.args.self.now (work c.args.self.now (task.LookAround c.in-LookAround.kind)) (λ k d. refl) (made_about c.args.self.now c.args.task (task.LookAround c.in-LookAround.kind) c.in-LookAround.is c.requires.made)

pub returns-in-LookAround : goal.returns-in-LookAround
returns-in-LookAround c =
    on_ok_weaker c.look_around.result (λ r. builds_about c.args.self.now c.look_around.new.self c.args.task (task.LookAround c.in-LookAround.kind) c.in-LookAround.is (builds c.args.self.now c.look_around.new.self (looking c.in-LookAround.kind) (on_two (code.look_around c.in-LookAround.kind)) (about c.args.self.now c.args.task (task.LookAround c.in-LookAround.kind) c.in-LookAround.is c.requires.sound) refl refl (omega arith) refl r)) c.look_around.ensures

pub close_quantifier-requires-clause-sound : goal.close_quantifier-requires-clause-sound
close_quantifier-requires-clause-sound c =
    let sound = about c.args.self.now c.args.task (task.Repeat c.in-Repeat.quantifier c.in-Repeat.end) c.in-Repeat.is c.requires.sound in
    subst (λ w. IsBuilding c.args.self.now (w ∷ works c.args.self.now)) (sym (repeating_same c.args.self.now _ _ _ _ sound)) sound

pub close_quantifier-requires-clause-codes : goal.close_quantifier-requires-clause-codes
close_quantifier-requires-clause-codes c = two_codes c.args.self.now (work c.args.self.now (task.Repeat c.in-Repeat.quantifier c.in-Repeat.end)) (λ k d. refl) (made_about c.args.self.now c.args.task (task.Repeat c.in-Repeat.quantifier c.in-Repeat.end) c.in-Repeat.is c.requires.made)

pub returns-in-Repeat : goal.returns-in-Repeat
returns-in-Repeat c =
    let sound = about c.args.self.now c.args.task (task.Repeat c.in-Repeat.quantifier c.in-Repeat.end) c.in-Repeat.is c.requires.sound in
    on_ok_weaker c.close_quantifier.result (λ done. builds_about c.args.self.now c.close_quantifier.new.self c.args.task (task.Repeat c.in-Repeat.quantifier c.in-Repeat.end) c.in-Repeat.is (subst (λ w. Builds c.args.self.now w c.close_quantifier.new.self) (repeating_same c.args.self.now _ _ _ _ sound) done)) c.close_quantifier.ensures

pub enter_group-requires-clause-program : goal.enter_group-requires-clause-program
enter_group-requires-clause-program c = c.requires.sound.program

pub enter_group-requires-clause-codes : goal.enter_group-requires-clause-codes
enter_group-requires-clause-codes c = one_code c.args.self.now (work c.args.self.now task.EnterGroup) (made_about c.args.self.now c.args.task task.EnterGroup c.in-EnterGroup.is c.requires.made)

pub returns-in-EnterGroup : goal.returns-in-EnterGroup
returns-in-EnterGroup c =
    on_ok_weaker c.enter_group.result (λ r. builds_about c.args.self.now c.enter_group.new.self c.args.task task.EnterGroup c.in-EnterGroup.is (builds c.args.self.now c.enter_group.new.self (entering) (on_one code.enter_group) (about c.args.self.now c.args.task task.EnterGroup c.in-EnterGroup.is c.requires.sound) refl refl (omega arith) refl r)) c.enter_group.ensures

pub choose-requires-clause-program : goal.choose-requires-clause-program
choose-requires-clause-program c = c.requires.sound.program

pub choose-requires-clause-codes : goal.choose-requires-clause-codes
choose-requires-clause-codes c = two_codes c.args.self.now (work c.args.self.now task.Choose) (λ k d. refl) (made_about c.args.self.now c.args.task task.Choose c.in-Choose.is c.requires.made)

pub returns-in-Choose : goal.returns-in-Choose
returns-in-Choose c =
    on_ok_weaker c.choose.result (λ r. builds_about c.args.self.now c.choose.new.self c.args.task task.Choose c.in-Choose.is (builds c.args.self.now c.choose.new.self (choosing) (on_two code.choose) (about c.args.self.now c.args.task task.Choose c.in-Choose.is c.requires.sound) refl refl (omega arith) refl r)) c.choose.ensures

pub swap-requires-clause-program : goal.swap-requires-clause-program
swap-requires-clause-program c = c.requires.sound.program

pub swap-requires-clause-codes : goal.swap-requires-clause-codes
swap-requires-clause-codes c = two_codes c.args.self.now (work c.args.self.now task.Swap) (λ k d. refl) (made_about c.args.self.now c.args.task task.Swap c.in-Swap.is c.requires.made)

pub returns-in-Swap : goal.returns-in-Swap
returns-in-Swap c =
    on_ok_weaker c.swap.result (λ r. builds_about c.args.self.now c.swap.new.self c.args.task task.Swap c.in-Swap.is (builds c.args.self.now c.swap.new.self (swapping) (swap) (about c.args.self.now c.args.task task.Swap c.in-Swap.is c.requires.sound) refl refl (omega arith) refl r)) c.swap.ensures

pub sequence-requires-clause-program : goal.sequence-requires-clause-program
sequence-requires-clause-program c = c.requires.sound.program

pub sequence-requires-clause-codes : goal.sequence-requires-clause-codes
sequence-requires-clause-codes c = two_codes c.args.self.now (work c.args.self.now task.Sequence) (λ k d. refl) (made_about c.args.self.now c.args.task task.Sequence c.in-Sequence.is c.requires.made)

pub returns-in-Sequence : goal.returns-in-Sequence
returns-in-Sequence c =
    on_ok_weaker c.sequence.result (λ r. builds_about c.args.self.now c.sequence.new.self c.args.task task.Sequence c.in-Sequence.is (builds c.args.self.now c.sequence.new.self (sequencing) (on_two (λ second first. code.sequence first second)) (about c.args.self.now c.args.task task.Sequence c.in-Sequence.is c.requires.sound) refl refl (omega arith) refl r)) c.sequence.ensures
