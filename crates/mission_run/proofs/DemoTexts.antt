-- Of two runs of one mission over the scripted bus that came to their end a demo writes the same.
use Rattle.std.proofs.Common.{◌≡◌, ℕ, ◌+◌, ℤ, List, [], ◌∷◌, length, Option, None, Some, refl, sym, ap, ◌∙◌, arith}
use Rattle.guards_model.specs.Missions.{MissionValue, bus_rules}
use Rattle.guards_model.specs.Network.{Log}
use Rattle.guards_model.specs.Texts.{TextValue, StopValue, part_text}
use Rattle.guards_model.specs.CheckTexts.{summary_part}
use Rattle.guards_runs.specs.Cycles.{Past, cycles_before}
use Rattle.guards_runs.specs.Disturbed.{stop_of}
use Rattle.guards_runs.specs.SameFacts.{HaveSameFacts}
use Rattle.run_laws.specs.Summaries.{joins_in, removals_in, last_votes, summary}
use Rattle.script_laws.specs.Scripts.{ForgesNoSweep, IsScriptedRun}
use Rattle.script_laws.proofs.SamePast.{bare, same_of}
use Rattle.script_laws.proofs.Reports.{same_before, stops_alike}
use Rattle.script_laws.proofs.FrameCounts.{frames_alike}
use Rattle.mission_run.specs.TopCall.{text_or_stop, demo_text}

-- ---- the summary does not look at what the entries are

joins_bare : (P : Past) → joins_in (bare P) ≡ joins_in P
joins_bare [] = refl
joins_bare (e ∷ P) = ap (λ k. k + length e.joined) (joins_bare P)

removals_bare : (P : Past) → removals_in (bare P) ≡ removals_in P
removals_bare [] = refl
removals_bare (e ∷ P) = ap (λ k. k + length e.removed) (removals_bare P)

votes_bare : (P : Past) → last_votes (bare P) ≡ last_votes P
votes_bare [] = refl
votes_bare (e ∷ P) = refl

summaries_alike : (number : ℕ) (M : MissionValue) (L K : Log) →
    HaveSameFacts (cycles_before M L M.cycles) (cycles_before M K M.cycles) → length L ≡ length K →
    summary number M L ≡ summary number M K
unfolding summary
summaries_alike number M L K same frames =
    let P = cycles_before M L M.cycles in
    let R = cycles_before M K M.cycles in
    let S : ℕ → ℕ → ℕ → List (Option ℤ) →
    TextValue = λ joins removals count votes. part_text (summary_part number joins removals count votes) in
    ap (λ joins. S joins (removals_in P) (length L) (last_votes P)) (same_of P R same joins_in joins_bare)
    ∙ ap (λ removals. S (joins_in R) removals (length L) (last_votes P)) (same_of P R same removals_in removals_bare)
    ∙ ap (λ count. S (joins_in R) (removals_in R) count (last_votes P)) frames
    ∙ ap (S (joins_in R) (removals_in R) (length K)) (same_of P R same last_votes votes_bare)

-- ---- the text

module _ (number : ℕ) (M : MissionValue) (none : ForgesNoSweep (bus_rules M)) (L K : Log) (run_l : IsScriptedRun M L)
    (run_k : IsScriptedRun M K) where
  same_stop : stop_of (cycles_before M L M.cycles) ≡ stop_of (cycles_before M K M.cycles)
  same_stop = stops_alike M L K none run_l run_k

  by_stop : (o : Option StopValue) → stop_of (cycles_before M L M.cycles) ≡ o →
      demo_text number M L ≡ demo_text number M K
  by_stop None h =
      ap (text_or_stop (summary number M L)) h
      ∙ summaries_alike number M L K (same_before M L K none run_l run_k M.cycles (omega arith) h)
      (frames_alike M L K none run_l run_k)
      ∙ sym (ap (text_or_stop (summary number M K)) (sym same_stop ∙ h))
  by_stop (Some stop) h = ap (text_or_stop (summary number M L)) h
      ∙ sym (ap (text_or_stop (summary number M K)) (sym same_stop ∙ h))

  pub demo_texts_alike : demo_text number M L ≡ demo_text number M K
  demo_texts_alike = by_stop (stop_of (cycles_before M L M.cycles)) refl
