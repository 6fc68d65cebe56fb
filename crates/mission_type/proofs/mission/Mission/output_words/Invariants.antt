use Rattle.std.proofs.Common.{◌≡◌, length, map, take}
use Rattle.guards_model.specs.Contexts.{context_word}
use Rattle.mission_type.proofs.mission.Mission.output_words.Given as goal

-- the words of the outputs before this place are there
abbrev pub invariant-loop-place : goal.invariant-loop-place
invariant-loop-place l = record {
  done : take l.place l.words ≡ map (λ o. context_word l.context o.0 o.1) (take l.place l.outputs);
  eight : length l.words ≡ 8;
}
