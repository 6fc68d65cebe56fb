use Rattle.std.proofs.Common.{◌≡◌, ◌-◌, ◌++◌, ◌^◌, map}
use Rattle.std.specs.Prelude.{pos}
use Rattle.demo_mission.specs.Demo.{draws, number_after}
use Rattle.campaign_draws.proofs.entries.drawn_words.Given as goal

-- the words that are still to be drawn are those behind the ones that were
abbrev pub invariant-loop-output : goal.invariant-loop-output
invariant-loop-output l =
    (l.words.items ++ map (λ word. pos word) (draws (l.outputs - l._output) (2 ^ 31) l.numbers) ≡ map (λ word. pos word) (draws l.outputs (2 ^ 31) l.initial.numbers))
    × (number_after (l.outputs - l._output) l.numbers ≡ number_after l.outputs l.initial.numbers)
