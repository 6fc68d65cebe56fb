-- What hangs on the output entries of the cycles alone: the words, the stops and the parts.
use Rattle.std.proofs.Common.{◌≡◌, ℕ, zero, suc, ◌+◌, ◌*◌, ◌<◌, ◌≤◌, ◌==◌, Bool, true, false, ◌&&◌, ◌||◌, List, [], ◌∷◌, ◌++◌, length, map, Option, Some, None, ℤ, refl, sym, ap, ◌∙◌, arith}
use Rattle.std.specs.Prelude.{filter, find, nat_le, option_and_then, if◌then◌else◌}
use Rattle.std.specs.List.{list_any}
use Rattle.std.proofs.Math.Path.{fun_ext}
use Rattle.guards_model.specs.declared.Slot.TheVariants.{Switch, Output}
use Rattle.guards_model.specs.Slots.{same_slot}
use Rattle.guards_model.specs.Channels.{Channel, ChannelSet, by_channel, has}
use Rattle.guards_model.specs.Missions.{ActuatorValue, MissionValue}
use Rattle.guards_model.specs.Network.{EntryValue, Log, actuator, is_carry}
use Rattle.guards_model.specs.Texts.{Part, StopValue, cycle_part, out_line}
use Rattle.guards_model.specs.Actuators.{ballot_spelled, words_moved}
use Rattle.guards_model.proofs.BoolTests.{both}
use Rattle.guards_runs.specs.Cycles.{Cycle, Past}
use Rattle.guards_runs.specs.Disturbed.{differs_from, disturbed_channels}
use Rattle.guards_runs.specs.Outputs.{ballots_taken, is_output_charge, output_stop, outputs_after, words_after}
use Rattle.guards_runs.specs.Report.{cycle_record}
use Rattle.guards_runs.specs.ActedReport.{acted_parts}
use Rattle.guards_runs.specs.SameFacts.{without_entries, HaveSameFacts}
use Rattle.script_laws.proofs.SamePast.{same_size}
use Rattle.script_laws.proofs.OutputsApart.{find_kept, any_kept}
use Rattle.run_laws.specs.ActedScripts.{outputs_of}

-- ---- one cycle

carries_here : (c : ℕ) (q : Channel) (y : EntryValue) → is_carry c Output q actuator y ≡ true →
    (y.cycle == c && same_slot y.slot Output) ≡ true
carries_here c q y h =
    let parts = both ((y.cycle == c && same_slot y.slot Output) && y.from == q) (y.to == actuator) h in
    (both (y.cycle == c && same_slot y.slot Output) (y.from == q) parts.0).0

charges_here : (c : ℕ) (q : Channel) (y : EntryValue) → is_output_charge c q y ≡ true →
    (y.cycle == c && same_slot y.slot Output) ≡ true
charges_here c q y h =
    let parts = both ((y.cycle == c && same_slot y.slot Output) && y.from == q) (differs_from y.sent y.delivered) h in
    (both (y.cycle == c && same_slot y.slot Output) (y.from == q) parts.0).0

module _ (F G : Log) where
  charge_same : (c : ℕ) → outputs_of c F ≡ outputs_of c G → (q : Channel) →
      list_any (is_output_charge c q) F ≡ list_any (is_output_charge c q) G
  charge_same c same q =
      let keep : EntryValue → Bool = λ y. y.cycle == c && same_slot y.slot Output in
      sym (any_kept keep (is_output_charge c q) (charges_here c q) F) ∙ ap (list_any (is_output_charge c q)) same
      ∙ any_kept keep (is_output_charge c q) (charges_here c q) G

  found_same : (c : ℕ) → outputs_of c F ≡ outputs_of c G → (q : Channel) →
      find (is_carry c Output q actuator) F ≡ find (is_carry c Output q actuator) G
  found_same c same q =
      let keep : EntryValue → Bool = λ y. y.cycle == c && same_slot y.slot Output in
      sym (find_kept keep (is_carry c Output q actuator) (carries_here c q) F)
      ∙ ap (find (is_carry c Output q actuator)) same
      ∙ find_kept keep (is_carry c Output q actuator) (carries_here c q) G

  ballots_same : (version outputs c : ℕ) → outputs_of c F ≡ outputs_of c G →
      ballots_taken version outputs F c ≡ ballots_taken version outputs G c
  ballots_same version outputs c same =
      ap (λ (f : Channel → Option (List ℤ)). by_channel f)
      (fun_ext (λ q. ap (λ o. ballot_spelled version outputs c q (option_and_then (λ (e : EntryValue). e.delivered) o))
      (found_same c same q)))

  -- the stop of the output slot
  pub stop_same : (c : ℕ) (e d : Cycle) → disturbed_channels c e Switch ≡ disturbed_channels c d Switch →
      e.active ≡ d.active → outputs_of c F ≡ outputs_of c G → output_stop c e F ≡ output_stop c d G
  stop_same c e d disturbed active same =
      let D : ChannelSet → ChannelSet → (Channel → Bool) →
      ChannelSet = λ set all charged. filter (λ q. has set q || charged q) all in
      let S : ChannelSet → ChannelSet →
      Option StopValue = λ set all. if nat_le (length all) (3 * length set)
      then Some (record { cycle = c; slot = Output; set = set; active = all }) else None in
      ap (λ (charged : Channel → Bool). S (D (disturbed_channels c e Switch) e.active charged) e.active)
      (fun_ext (charge_same c same))
      ∙ ap (λ (set : ChannelSet). S (D set e.active (λ q. list_any (is_output_charge c q) G)) e.active) disturbed
      ∙ ap (λ (all : ChannelSet).
      S (D (disturbed_channels c d Switch) all (λ q. list_any (is_output_charge c q) G)) all) active

  -- ---- some cycles

  moved_same : (version : ℕ) (steps start : List ℤ) (n : ℕ) → ((c : ℕ) → c < n → outputs_of c F ≡ outputs_of c G) →
      outputs_after version steps start F n ≡ outputs_after version steps start G n
  moved_same version steps start zero same = refl
  moved_same version steps start (suc n) same =
      ap (λ last. words_moved steps last (ballots_taken version (length start) F n))
      (moved_same version steps start n (λ c low. same c (omega (arith, low))))
      ∙ ap (words_moved steps (outputs_after version steps start G n))
      (ballots_same version (length start) n (same n (omega arith)))

  pub parts_same : (M : MissionValue) (a : ActuatorValue) (P R : Past) → HaveSameFacts P R →
      ((c : ℕ) → c < length P → outputs_of c F ≡ outputs_of c G) →
      acted_parts false M a F [] P ≡ acted_parts false M a G [] R
  parts_same M a [] [] facts same = refl
  parts_same M a [] (d ∷ R) facts same = absurd cc
  parts_same M a (e ∷ P) [] facts same = absurd cc
  parts_same M a (e ∷ P) (d ∷ R) facts same =
      let head : without_entries e ≡ without_entries d = cc in
      let tail : HaveSameFacts P R = cc in
      let size : length P ≡ length R = same_size P R tail in
      let words : words_after M a F (suc (length P)) ≡ words_after M a G (suc (length P)) =
      moved_same M.rules.version a.steps a.start (suc (length P)) same in
      ap (λ (parts : List Part). parts
      ++ (cycle_part false (cycle_record M [] (length P) e) ++ out_line (words_after M a F (suc (length P))) ∷ [])
      ∷ [])
      (parts_same M a P R tail (λ c low. same c (omega (arith, low))))
      ∙ ap (λ (x : Cycle). acted_parts false M a G [] R
      ++ (cycle_part false (cycle_record M [] (length P) x) ++ out_line (words_after M a F (suc (length P))) ∷ [])
      ∷ []) head
      ∙ ap (λ (ws : List ℤ). acted_parts false M a G [] R
      ++ (cycle_part false (cycle_record M [] (length P) d) ++ out_line ws ∷ []) ∷ []) words
      ∙ ap (λ (k : ℕ). acted_parts false M a G [] R
      ++ (cycle_part false (cycle_record M [] k d) ++ out_line (words_after M a G (suc k)) ∷ []) ∷ []) size
