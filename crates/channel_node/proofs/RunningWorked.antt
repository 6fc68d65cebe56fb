-- What a round leaves of a running channel.
use Rattle.std.proofs.Common.{◌≡◌, ◌∙◌, ◌-◌, ◌++◌, ℕ, zero, suc, ℤ, pos, List, length, replicate, Option, Some, None, refl, ap}
use Rattle.std.specs.Prelude.{slice_get}
use Rattle.std.proofs.lemmas.List.{length-set}
use Rattle.guards_model.specs.declared.Actor.{Actor}
use Rattle.guards_model.specs.Contexts.{ContextValue, block_at}
use Rattle.guards_model.specs.Frames.{CopyValue}
use Rattle.guards_model.specs.Missions.{RulesValue}
use Rattle.guards_model.specs.Rounds.{Origin, IsFull, copies_of_replay}
use Rattle.guards_model.specs.Tasks.{WriteValue, replaced, written_if, apply, whole}
use Rattle.guards_nodes.specs.NodeStates.{RunningValue, DecidedValue}
use Rattle.guards_nodes.specs.NodeSteps.{plan_in, HasWorked}
use Rattle.guards_nodes.proofs.PaddedInputs.{whole_same, replay_same}

length-written : (w : Option WriteValue) (ctx : ContextValue) (inputs : List ℤ) (c : ℕ) →
    length (written_if w ctx inputs c) ≡ length ctx
length-written None ctx inputs c = refl
length-written (Some w) ctx inputs c = length-set ctx w.block (replaced w.set (block_at ctx w.block) ctx inputs c)

length-applied : (row : List WriteValue) (ctx : ContextValue) (c : ℕ) (inputs : List ℤ) (k : ℕ) →
    length (apply row ctx c inputs k) ≡ length ctx
length-applied row ctx c inputs zero = refl
length-applied row ctx c inputs (suc k) =
    length-written (slice_get row k) (apply row ctx c inputs k) inputs c ∙ length-applied row ctx c inputs k

pub length-whole : (row : List WriteValue) (ctx : ContextValue) (c : ℕ) (inputs : List ℤ) →
    length (whole row ctx c inputs) ≡ length ctx
length-whole row ctx c inputs = length-applied row ctx c inputs (length row)

-- the round of a running channel with these four inputs and this plan
abbrev pub round_of : List WriteValue → ContextValue → ℕ → List ℤ → List ℕ → Origin
round_of row ctx c inputs plan = record { context = ctx; row = row; cycle = c; inputs = inputs; plan = plan }

-- a running channel with another context and with what its round left
abbrev pub worked_with : RunningValue → ContextValue → ℕ → List Actor → List CopyValue → RunningValue
worked_with old ctx c steps copies =
    record old {
      held = record old.held { context = ctx };
      progress = record old.progress { worked = Some (record { cycle = c; steps = steps; copies = copies }) };
    }

pub works : (rules : RulesValue) (row : List WriteValue) (c : ℕ) (old : RunningValue) (d : DecidedValue) (four : List ℤ)
    (plan : List ℕ)
    (steps : List Actor) (ctx : ContextValue) (copies : List CopyValue) →
    old.progress.decided ≡ Some d → four ≡ d.inputs ++ replicate (4 - length d.inputs) (pos 0) →
    plan ≡ plan_in rules old.held →
    IsFull (round_of row old.held.context c four plan) steps → ctx ≡ whole row old.held.context c four →
    copies ≡ copies_of_replay (round_of row old.held.context c four plan) steps →
    HasWorked rules row c old (worked_with old ctx c steps copies)
works rules row c old d four plan steps ctx copies had inputs planned full after made =
    let n : ℕ = 4 - length d.inputs in
    let context : ctx ≡ whole row old.held.context c d.inputs =
    after ∙ ap (λ xs. whole row old.held.context c xs) inputs ∙ whole_same d.inputs n row old.held.context c in
    let replay : copies ≡ copies_of_replay (round_of row old.held.context c d.inputs (plan_in rules old.held)) steps =
    made ∙ ap (λ xs. copies_of_replay (round_of row old.held.context c xs plan) steps) inputs
    ∙ ap (λ p. copies_of_replay (round_of row old.held.context c (d.inputs ++ replicate n (pos 0)) p) steps) planned
    ∙ replay_same d.inputs n old.held.context row c (plan_in rules old.held) steps in
    record {
      decided = d;
      had = had;
      steps = steps;
      full = record { tasks = full.tasks; sweeps = full.sweeps ∙ ap length planned };
      state = ap (λ x. worked_with old x c steps copies) context
          ∙ ap (λ x. worked_with old (whole row old.held.context c d.inputs) c steps x) replay;
    }
