-- Output words that differ from the ideal ones, and are sent and delivered, are wrong ballots.
use Rattle.std.proofs.Common.{◌≡◌, ℕ, ◌<◌, ◌≤◌, ◌==◌, true, false, ◌&&◌, List, length, map, None, Some, ℤ, refl, sym, ap, subst, ◌∙◌, arith, eq-eqb}
use Rattle.std.specs.Prelude.{nat_lt}
use Rattle.std.specs.List.{list_all}
use Rattle.std.proofs.lemmas.List.{length-map}
use Rattle.guards_model.specs.declared.Slot.TheVariants.{Vote, Switch}
use Rattle.guards_model.specs.Words.{is_word}
use Rattle.guards_model.specs.Channels.{Channel, has, place_or}
use Rattle.guards_model.specs.Contexts.{ContextValue, context_word}
use Rattle.guards_model.specs.Missions.{MissionValue, IsMission, within, output_words}
use Rattle.guards_model.specs.Frames.{vote_body, between, body_in_range}
use Rattle.guards_model.specs.Modes.{is_up}
use Rattle.guards_model.specs.Network.{Log, ballot_of}
use Rattle.guards_model.specs.Voting.{is_wrong}
use Rattle.guards_runs.specs.Cycles.{Past, Cycle, mode_in, received_body, cycles_before, next_cycle}
use Rattle.guards_runs.specs.Due.{context_or_none}
use Rattle.guards_runs.specs.Promises.{HasRun}
use Rattle.guards_model.proofs.BoolTests.{both, and_true}
use Rattle.guards_model.proofs.ListTests.{all-map}
use Rattle.guards_model.proofs.ValueWords.{word_at_in}
use Rattle.guards_laws.proofs.Agreement.{run_cycles}
use Rattle.guards_laws.proofs.ContextsGood.{held_good}
use Rattle.guards_laws.proofs.Deliveries.{IsReceived, received_if_fits}
use Rattle.guards_laws.proofs.RunFacts.{IsCycle, frame_in_range}
use Rattle.recovery_laws.specs.WrongVotes.{VotesWrong, SendsWrong}
use Rattle.recovery_laws.proofs.JudgedCounts.{low_now}

module _ (M : MissionValue) (L : Log) (n : ℕ) (mission : IsMission M) (early : n ≤ M.cycles) (run : HasRun M L n)
    (c : ℕ) (soon : c < n) (q : Channel) where
  abbrev past : Past
  past = cycles_before M L c

  abbrev now : Cycle
  now = next_cycle M L (cycles_before M L c)

  abbrev own : List ℤ
  own = output_words M (context_or_none (place_or (next_cycle M L (cycles_before M L c)).contexts_after q None))

  cycle : IsCycle M L c
  cycle = run_cycles M L n mission early run c soon

  module _ (there : has now.active q ≡ true) (sends : SendsWrong M past now q) where
    low : q < 7
    low = low_now M L mission c q there

    in_range : body_in_range M.rules.version q (vote_body own) ≡ true
    in_range =
        let outputs = both (within 1 8 (length M.outputs))
        (list_all (λ o. nat_lt o.0 M.rules.blocks && nat_lt o.1 8) M.outputs) mission.outputs in
        let ctx : ContextValue = context_or_none (place_or now.contexts_after q None) in
        and_true (between 1 8 (length own)) (list_all is_word own)
        (subst (λ k. between 1 8 k ≡ true) (sym (length-map M.outputs (λ o. context_word ctx o.0 o.1))) outputs.0)
        (all-map is_word (λ o. context_word ctx o.0 o.1) M.outputs
        (λ o. word_at_in ctx o.0 o.1 (held_good M L mission c q low (omega (arith, soon, early)))))

    got : (j : Channel) → has now.active j ≡ true → (q == j) ≡ false →
        ballot_of (received_body M now.entries (length past) Vote q j) ≡ Some own
    got j member other =
        let r : IsReceived M past now Vote q j =
        received_if_fits M past now Vote q j
        (cycle.due Vote q j refl refl low (and_true (has now.active q) (is_up (mode_in now q Vote)) there sends.up)
        member other) sends.intact in
        ap ballot_of
        (r.got_is (frame_in_range M L c Switch cycle q (vote_body own) low in_range)
        (eq-eqb (length own) (length M.outputs)
        (length-map M.outputs (λ o. context_word (context_or_none (place_or now.contexts_after q None)) o.0 o.1))))

    pub sent_wrong : VotesWrong M past now q
    sent_wrong j member other =
        ap (is_wrong (map (λ w. Some w) (output_words M now.ideal_context))) (got j member other) ∙ sends.wrong
