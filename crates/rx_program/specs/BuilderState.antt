-- What a builder has built, and what comes out of it.
use Rattle.std.specs.Prelude.{◌≡◌, ℕ, ◌+◌, ◌-◌, ◌<◌, List, [], ◌∷◌, ◌++◌, length, map, reverse}
use Rattle.rx_ast.specs.declared.term.Alternative.{Alternative}
use Rattle.rx_ast.specs.declared.term.Term.{Term}
use Rattle.rx_ast.specs.Tree.{alternatives, nodes, mirror_alternative, mirror_term}
use Rattle.rx_program.specs.declared.builder.Builder.{Builder}
use Rattle.rx_program.specs.declared.builder.Context.{Context}
use Rattle.rx_program.specs.declared.builder.Task.{Task}
use Rattle.rx_program.specs.declared.builder.Task.TheVariants as task
use Rattle.rx_program.specs.declared.checks.ClassRow.{ClassRow}
use Rattle.rx_program.specs.declared.step.Step.{Step}
use Rattle.rx_program.specs.ClassTests.{row_tests}
use Rattle.rx_program.specs.Codes.{Code, accept}
use Rattle.rx_program.specs.Steps.{code_at}
use Rattle.rx_program.specs.Steps.{AreOrdered}
use Rattle.rx_program.specs.Works.{Work, disjunction, earlier, terms, term, capturing, looking, repeating, entering, choosing, swapping, sequencing, groups_left, tests_left, all_worked, weight, weights}

abbrev pub disjunction_work : Context → List Alternative → Work
disjunction_work e more = disjunction e.settings e.back (alternatives (map mirror_alternative more))

abbrev pub earlier_work : Context → List Alternative → Work
earlier_work e more = earlier e.settings e.back (alternatives (map mirror_alternative more))

abbrev pub terms_work : Context → List Term → Work
terms_work e ts = terms e.settings e.back (nodes (map mirror_term ts))

abbrev pub term_work : Context → Term → Work
term_work e t = term e.settings e.back (mirror_term t)

-- a task, where so many groups open in those below it
abbrev pub work_of : ℕ → Task → Work
work_of below (task.Disjunction e more) = disjunction_work e more.now
work_of below (task.Earlier e more) = earlier_work e more.now
work_of below (task.Terms e ts) = terms_work e ts.now
work_of below (task.Term e t) = term_work e t.now
work_of below task.Capture = capturing
work_of below (task.LookAround kind) = looking kind
work_of below (task.Repeat q end) = repeating q.now.min q.now.max q.now.greedy (end - below)
work_of below task.EnterGroup = entering
work_of below task.Choose = choosing
work_of below task.Swap = swapping
work_of below task.Sequence = sequencing

abbrev pub works_of : List Task → List Work
works_of [] = []
works_of (t ∷ ts) = work_of (groups_left (works_of ts)) t ∷ works_of ts

abbrev pub works : Builder → List Work
works b = works_of (reverse b.tasks)

abbrev pub AreBelow : ℕ → List ℕ → Type 0
AreBelow n [] = Unit {0}
AreBelow n (i ∷ is) = (i < n) × AreBelow n is

-- the codes that are made, the last first
abbrev pub codes_of : Builder → List Code
codes_of b = map (code_at b.steps) (reverse b.codes)

abbrev pub with_code : Builder → ℕ → Builder
with_code b code = record b { codes = b.codes ++ (code ∷ []) }

abbrev pub with_task : Builder → Task → Builder
with_task b t = record b { tasks = b.tasks ++ (t ∷ []) }

abbrev pub with_step : Builder → Step → Builder
with_step b step = record b { steps = b.steps ++ (step ∷ []); codes = b.codes ++ (length b.steps ∷ []) }

pub record IsProgram (b : Builder) : Type 0 where
  pub ordered : AreOrdered b.steps
  pub below : AreBelow (length b.steps) (reverse b.codes)
  pub some : 0 < length b.steps
  pub end : code_at b.steps 0 ≡ accept

pub record IsBuilding (b : Builder) (ws : List Work) : Type 0 where
  pub program : IsProgram b
  pub before : b.before ≡ groups_left ws
  pub rows : row_tests b.rows.now ≡ tests_left ws

-- Steps are added, and everything but them and the codes is as it was.
pub record Replaces (b : Builder) (replaced : List Code → List Code) (after : Builder) : Type 0 where
  pub names : after.names.now ≡ b.names.now
  pub tasks : after.tasks ≡ b.tasks
  pub before : after.before ≡ b.before
  pub rows : after.rows.now ≡ b.rows.now
  pub codes : codes_of after ≡ replaced (codes_of b)
  pub program : IsProgram after

-- The first of the rows is taken away, and everything else is as it was.
pub record TakesRow (b : Builder) (row : ClassRow) (after : Builder) : Type 0 where
  pub taken : b.rows.now ≡ row ∷ after.rows.now
  pub kept : b ≡ record after { rows = b.rows }

-- A piece of work is done, or cut into smaller ones: the same comes out in the end.
pub record Builds (b : Builder) (w : Work) (after : Builder) : Type 0 where
  pub names : after.names.now ≡ b.names.now
  pub same : all_worked (b.names.now) (w ∷ works b) (codes_of b) ≡ all_worked (b.names.now) (works after) (codes_of after)
  pub sound : IsBuilding after (works after)
  pub fewer : weights (works after) < weight w + weights (works b)
