-- What contracts see of a round.
use Rattle.std.specs.Prelude.{◌≡◌, ℕ, List, length}
use Rattle.guards_model.specs.declared.Actor.{Actor}
use Rattle.guards_model.specs.declared.Actor.TheVariants.{Task, Sweep}
use Rattle.guards_model.specs.Rounds.{Origin}
use Rattle.task_table.specs.Tables.{table_writes}
use Rattle.frame_pipe.specs.Pipes.{feed_name, sent}
use Rattle.sweep_round.specs.declared.turns.Round.{Round}
use Rattle.sweep_round.specs.declared.start.RoundStart.{RoundStart}
use Rattle.sweep_round.specs.Replay.{origin_of, actors_of, IsReplay}

-- the origin of a round by what it started from
abbrev pub start_origin : RoundStart → Origin
start_origin s = origin_of s.context s.table s.cycle s.inputs s.plan

-- how many steps a round has for each actor
abbrev pub due_steps : RoundStart → Actor → ℕ
due_steps s Task = length (table_writes s.table s.cycle)
due_steps s Sweep = length s.plan

module _ {C : Type 0} where
  -- what the round started from
  abbrev pub round_start : Round C → RoundStart
  round_start r = record {
    context = r.start;
    table = r.table.now;
    cycle = r.cycle;
    inputs = r.inputs;
    plan = r.plan;
    pipe = feed_name r.feed;
  }

  -- the steps that were made, in order
  abbrev pub round_history : Round C → List Actor
  round_history r = actors_of r.history.items

  -- the context and what the feed has sent are the replay of the history
  abbrev pub IsReplayed : Round C → Type 0
  IsReplayed r = IsReplay (start_origin (round_start r)) (round_history r) r.context (sent r.feed)
