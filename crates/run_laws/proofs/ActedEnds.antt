-- Two runs of one mission with an actuator over the scripted bus come to the same end, and tell the same.
use Rattle.std.proofs.Common.{◌≡◌, ℕ, zero, suc, ◌<◌, ◌≤◌, ◌+◌, Bool, true, false, cond, List, [], ◌∷◌, ◌++◌, length, map, Option, Some, None, refl, sym, ap, subst, ◌∙◌, arith, inl, inr}
use Rattle.std.specs.Prelude.{find, is_some, option_map, if◌then◌else◌}
use Rattle.std.specs.List.{AllByRecursion}
use Rattle.std.proofs.lemmas.Bool.{cases_eq}
use Rattle.guards_model.specs.declared.Slot.{Slot}
use Rattle.guards_model.specs.declared.Slot.TheVariants.{Vote, Switch, Output}
use Rattle.guards_model.specs.Slots.{on_bus, up_to}
use Rattle.guards_model.specs.Missions.{ActuatorValue, MissionValue, bus_rules}
use Rattle.guards_model.specs.Network.{EntryValue, Log, without_outputs}
use Rattle.guards_model.specs.Rounds.{Histories}
use Rattle.guards_model.specs.ScriptedBus.{IsScripted}
use Rattle.guards_model.specs.Texts.{Part, StopValue, head_line, last_line, text_of_parts}
use Rattle.guards_laws.proofs.LogGrows.{length-cycles_before}
use Rattle.guards_laws.proofs.Unsent.{All-filter}
use Rattle.guards_runs.specs.Cycles.{Cycle, Past, cycles_before, cycle_at}
use Rattle.guards_runs.specs.Disturbed.{disturbed_channels, stop_in, first_of_two}
use Rattle.guards_runs.specs.Outputs.{AreOutputsDue, acted_stop, output_stop}
use Rattle.guards_runs.specs.ActedReport.{acted_cycles, acted_histories, acted_parts, acted_report, acted_run_parts, acted_told}
use Rattle.guards_runs.specs.SameFacts.{without_entries, HaveSameFacts}
use Rattle.script_laws.specs.Scripts.{ForgesNoSweep}
use Rattle.script_laws.proofs.Charges.{disturbed_same}
use Rattle.script_laws.proofs.FirstStops.{ComesTo, stops_same}
use Rattle.script_laws.proofs.Reports.{script_now}
use Rattle.script_laws.proofs.RunEnds.{Reaches}
use Rattle.script_laws.proofs.SlotsAlike.{AreBesides, cycle_same}
use Rattle.script_laws.proofs.OutputCharges.{outputs_alike}
use Rattle.guards_model.specs.Channels.{place_or}
use Rattle.guards_model.specs.Actuators.{voted_words}
use Rattle.guards_runs.specs.Report.{channels_running_in}
use Rattle.run_laws.specs.ActedScripts.{outputs_of, IsScriptedActing}
use Rattle.run_laws.proofs.ActedLogs.{reaches_acted, outs_acted}
use Rattle.run_laws.proofs.ActedWords.{stop_same, parts_same}

-- ---- what is told

told_stopped : (F : Log) (P : Past) (e : Cycle) (stop : StopValue) → acted_stop F (e ∷ P) ≡ Some stop →
    acted_told F (e ∷ P) ≡ acted_told F P
told_stopped F P e stop h = ap (λ o. if is_some o then acted_told F P else e ∷ P) h

told_whole : (F : Log) (P : Past) → acted_stop F P ≡ None → acted_told F P ≡ P
told_whole F [] h = refl
told_whole F (e ∷ P) h = ap (λ o. if is_some o then acted_told F P else e ∷ P) h

no_histories : (F : Log) (P : Past) → acted_histories F P [] ≡ []
no_histories F [] = refl
no_histories F (e ∷ P) = by_stop (is_some (acted_stop F (e ∷ P))) (no_histories F P)
  where
    by_stop : (b : Bool) → acted_histories F P [] ≡ [] → cond b (acted_histories F P []) [] ≡ []
    by_stop true h = h
    by_stop false h = refl

-- what two runs have in common after some cycles: the stop, or that there was none, and of the cycles before it the
-- facts and the output entries
record AreAlike (F G : Log) (P R : Past) : Type 0 where
  stops : acted_stop F P ≡ acted_stop G R
  facts : HaveSameFacts (acted_told F P) (acted_told G R)
  outs : (c : ℕ) → c < length (acted_told F P) → outputs_of c F ≡ outputs_of c G

over_end : (c : ℕ) (e : Cycle) (last slot : Slot) → ComesTo c e last → stop_in c e ≡ None → up_to slot Output ≡ true →
    up_to slot last ≡ true
over_end c e last slot (inl h) none before =
    absurd (clash (sym none ∙ ap
    (option_map (λ (s : Slot). record { cycle = c; slot = s; set = disturbed_channels c e s; active = e.active }))
    h))
  where
    clash : {s : StopValue} → None ≡ Some s → ⊥
    clash h = cc
over_end c e last slot (inr (is, h)) none before = ap (up_to slot) is ∙ before

module _ (M : MissionValue) (F G : Log) (forges_none : ForgesNoSweep (bus_rules M)) (run_f : IsScriptedActing M F)
    (run_g : IsScriptedActing M G) where
  abbrev L : Log
  L = without_outputs F

  abbrev K : Log
  K = without_outputs G

  script_l : AllByRecursion (IsScripted (bus_rules M)) L
  script_l = All-filter (IsScripted (bus_rules M)) (λ (y : EntryValue). on_bus y.slot) F run_f.0

  script_k : AllByRecursion (IsScripted (bus_rules M)) K
  script_k = All-filter (IsScripted (bus_rules M)) (λ (y : EntryValue). on_bus y.slot) G run_g.0

  module _ (n : ℕ) (low : n < M.cycles) (before : AreAlike F G (cycles_before M L n) (cycles_before M K n)) where
    abbrev P : Past
    P = cycles_before M L n

    abbrev R : Past
    R = cycles_before M K n

    abbrev e : Cycle
    e = cycle_at M L n

    abbrev d : Cycle
    d = cycle_at M K n

    -- after a stop nothing is told
    told_no_more : (stop : StopValue) → acted_stop F (e ∷ P) ≡ Some stop → acted_stop G (d ∷ R) ≡ Some stop →
        AreAlike F G (e ∷ P) (d ∷ R)
    told_no_more stop first second = record {
      stops = first ∙ sym second;
      facts = ap (map without_entries) (told_stopped F P e stop first) ∙ before.facts
          ∙ sym (ap (map without_entries) (told_stopped G R d stop second));
      outs = λ c there. before.outs c (subst (λ (T : Past). c < length T) (told_stopped F P e stop first) there);
    }

    module _ (no_stop : acted_stop F P ≡ None) where
      no_stop_too : acted_stop G R ≡ None
      no_stop_too = sym before.stops ∙ no_stop

      same_past : HaveSameFacts P R
      same_past =
          ap (map without_entries) (sym (told_whole F P no_stop)) ∙ before.facts
          ∙ ap (map without_entries) (told_whole G R no_stop_too)

      size_l : length P ≡ n
      size_l = length-cycles_before M L n

      size_k : length R ≡ n
      size_k = length-cycles_before M K n

      reach_l : Reaches M L n
      reach_l = reaches_acted M F L refl run_f.1 n low no_stop

      reach_k : Reaches M K n
      reach_k = reaches_acted M G K refl run_g.1 n low no_stop_too

      two : AreBesides M L K P R reach_l.last reach_k.last
      two =
          record {
            same = same_past;
            due_first = reach_l.due;
            due_second = reach_k.due;
            script_first = script_now (bus_rules M) M L P script_l;
            script_second = script_now (bus_rules M) M K R script_k;
          }

      nine_same : stop_in (length P) e ≡ stop_in (length R) d
      nine_same = stops_same M L K P R reach_l.last reach_k.last two forges_none reach_l.comes reach_k.comes

      acted_l : acted_stop F (e ∷ P) ≡ first_of_two (stop_in (length P) e) (output_stop (length P) e F)
      acted_l = ap (λ o. first_of_two o (first_of_two (stop_in (length P) e) (output_stop (length P) e F))) no_stop

      acted_k : acted_stop G (d ∷ R) ≡ first_of_two (stop_in (length R) d) (output_stop (length R) d G)
      acted_k = ap (λ o. first_of_two o (first_of_two (stop_in (length R) d) (output_stop (length R) d G))) no_stop_too

      -- ---- no slot of the nine stopped it

      module _ (none : stop_in (length P) e ≡ None) where
        none_too : stop_in (length R) d ≡ None
        none_too = sym nine_same ∙ none

        same_cycle : without_entries e ≡ without_entries d
        same_cycle = cycle_same M L K P R reach_l.last reach_k.last two
            (record {
              first = over_end (length P) e reach_l.last Vote reach_l.comes none refl;
              second = over_end (length R) d reach_k.last Vote reach_k.comes none_too refl;
            })

        same_disturbed : disturbed_channels (length P) e Switch ≡ disturbed_channels (length R) d Switch
        same_disturbed = disturbed_same M L K P R reach_l.last reach_k.last two forges_none Switch
            (record {
              first = over_end (length P) e reach_l.last Switch reach_l.comes none refl;
              second = over_end (length R) d reach_k.last Switch reach_k.comes none_too refl;
            })

        -- the entries of the output slot
        due_l : AreOutputsDue M.rules.version n e (outputs_of n F)
        due_l = outs_acted M F L refl run_f.1 n low no_stop (subst (λ k. stop_in k e ≡ None) size_l none)

        due_k : AreOutputsDue M.rules.version n d (outputs_of n G)
        due_k = outs_acted M G K refl run_g.1 n low no_stop_too (subst (λ k. stop_in k d ≡ None) size_k none_too)

        same_outs : outputs_of n F ≡ outputs_of n G
        same_outs =
            outputs_alike (bus_rules M) M.rules.version n (λ q. voted_words (place_or d.voted q []))
            (channels_running_in Switch d) (outputs_of n F) (outputs_of n G)
            (subst (λ (x : Cycle). AreOutputsDue M.rules.version n x (outputs_of n F)) same_cycle due_l) due_k
            (All-filter (IsScripted (bus_rules M)) _ F run_f.0) (All-filter (IsScripted (bus_rules M)) _ G run_g.0)

        same_stop : output_stop (length P) e F ≡ output_stop (length R) d G
        same_stop =
            let disturbed : disturbed_channels (length P) e Switch ≡ disturbed_channels (length P) d Switch =
            same_disturbed ∙ ap (λ k. disturbed_channels k d Switch) (size_k ∙ sym size_l) in
            stop_same F G (length P) e d disturbed (ap (λ (x : Cycle). x.active) same_cycle)
            (subst (λ k. outputs_of k F ≡ outputs_of k G) (sym size_l) same_outs)
            ∙ ap (λ k. output_stop k d G) (size_l ∙ sym size_k)

        goes_on : (o : Option StopValue) → output_stop (length P) e F ≡ o → AreAlike F G (e ∷ P) (d ∷ R)
        goes_on (Some stop) is =
            told_no_more stop (acted_l ∙ ap (λ x. first_of_two x (output_stop (length P) e F)) none ∙ is)
            (acted_k ∙ ap (λ x. first_of_two x (output_stop (length R) d G)) none_too ∙ sym same_stop ∙ is)
        goes_on None is =
            let first : acted_stop F (e ∷ P) ≡ None =
            acted_l ∙ ap (λ x. first_of_two x (output_stop (length P) e F)) none ∙ is in
            let second : acted_stop G (d ∷ R) ≡ None =
            acted_k ∙ ap (λ x. first_of_two x (output_stop (length R) d G)) none_too ∙ sym same_stop ∙ is in
            record {
              stops = first ∙ sym second;
              facts = ap (map without_entries) (told_whole F (e ∷ P) first)
                  ∙ ap (λ x. x ∷ map without_entries P) same_cycle
                  ∙ ap (λ xs. without_entries d ∷ xs) same_past
                  ∙ sym (ap (map without_entries) (told_whole G (d ∷ R) second));
              outs = λ c there. by_place c (subst (λ (T : Past). c < length T) (told_whole F (e ∷ P) first) there);
            }
          where
            by_place : (c : ℕ) → c < suc (length P) → outputs_of c F ≡ outputs_of c G
            by_place c there =
                elim (cases_eq n c) [
                  | inl same ↦ subst (λ k. outputs_of k F ≡ outputs_of k G) same same_outs
                  | inr other ↦ before.outs c
                      (subst (λ (T : Past). c < length T) (sym (told_whole F P no_stop))
                      (omega (arith, there, size_l, other)))
                ]

      by_nine : (o : Option StopValue) → stop_in (length P) e ≡ o → AreAlike F G (e ∷ P) (d ∷ R)
      by_nine (Some stop) is =
          told_no_more stop (acted_l ∙ ap (λ x. first_of_two x (output_stop (length P) e F)) is)
          (acted_k ∙ ap (λ x. first_of_two x (output_stop (length R) d G)) (sym nine_same ∙ is))
      by_nine None is = goes_on is (output_stop (length P) e F) refl

    one_more : (o : Option StopValue) → acted_stop F P ≡ o → AreAlike F G (e ∷ P) (d ∷ R)
    one_more (Some stop) is =
        told_no_more stop (ap (λ x. first_of_two x (first_of_two (stop_in (length P) e) (output_stop (length P) e F)))
        is)
        (ap (λ x. first_of_two x (first_of_two (stop_in (length R) d) (output_stop (length R) d G)))
        (sym before.stops ∙ is))
    one_more None is = by_nine is (stop_in (length P) e) refl

  alike : (n : ℕ) → n ≤ M.cycles → AreAlike F G (cycles_before M L n) (cycles_before M K n)
  alike zero low = record { stops = refl; facts = refl; outs = λ c there. absurd (omega (arith, there)) }
  alike (suc n) low = one_more n low (alike n (omega (arith, low))) (acted_stop F (cycles_before M L n)) refl

  pub stops_alike : acted_stop F (acted_cycles M F) ≡ acted_stop G (acted_cycles M G)
  stops_alike = (alike M.cycles (omega arith)).stops

  pub run_parts_alike : (a : ActuatorValue) →
      acted_run_parts false M a F [] (acted_cycles M F) ≡ acted_run_parts false M a G [] (acted_cycles M G)
  run_parts_alike a =
      let all = alike M.cycles (omega arith) in
      let A : List Part → Option StopValue →
      List Part = λ parts stop. (head_line M.rules.channels M.cycles ∷ [])
      ∷ (parts ++ (last_line M.cycles stop ∷ []) ∷ []) in
      let P = acted_cycles M F in
      let R = acted_cycles M G in
      ap (λ (hs : Histories). A (acted_parts false M a F hs (acted_told F P)) (acted_stop F P)) (no_histories F P)
      ∙ ap (λ (parts : List Part). A parts (acted_stop F P))
      (parts_same F G M a (acted_told F P) (acted_told G R) all.facts all.outs)
      ∙ ap (A (acted_parts false M a G [] (acted_told G R))) all.stops
      ∙ sym (ap (λ (hs : Histories). A (acted_parts false M a G hs (acted_told G R)) (acted_stop G R))
      (no_histories G R))

  pub reports_alike : (a : ActuatorValue) → acted_report false M a F [] ≡ acted_report false M a G []
  unfolding acted_report
  reports_alike a = ap text_of_parts (run_parts_alike a)
