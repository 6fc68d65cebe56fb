use Rattle.std.proofs.Common.{◌≡◌, ◌<◌, All, map, take}
use Rattle.guards_model.specs.Records.{actor_of_step}
use Rattle.guards_audit.specs.Reading.{step_of}
use Rattle.run_audit.proofs.pieces.steps.Given as goal

-- the letters so far are read
abbrev pub invariant-loop-letter : goal.invariant-loop-letter
invariant-loop-letter l = record {
  read : map actor_of_step l.steps.items ≡ map step_of (take l.letter-index l.letter-items);
  small : All (λ s. s < 2) l.steps.items;
}
