-- A code of missions, by which proofs tell them apart.
use Rattle.std.specs.Prelude.{ℕ, ℤ, List, Option, refl}
use Rattle.std.specs.Coded.{Coded, code_by, coded×, coded_ℕ, coded_ℤ, coded_list, coded_option}
use Rattle.guards_base.specs.contracts.rules.Rules as rules
use Rattle.fault_script.specs.contracts.script.Script as script
use Rattle.guards_model.specs.Contexts.{ContextValue}
use Rattle.guards_model.specs.Faults.{FaultValue}
use Rattle.guards_model.specs.Missions.{RulesValue, ActuatorValue, MissionValue}
use Rattle.guards_model.specs.Tasks.{TaskValue}
use Rattle.task_table.specs.Codes.{coded_task}

abbrev pub coded_sizes : Coded (ℕ × (ℕ × ℕ))
coded_sizes = coded× coded_ℕ (coded× coded_ℕ coded_ℕ)

abbrev pub coded_words : Coded (List (List ℤ))
coded_words = coded_list (coded_list coded_ℤ)

abbrev pub coded_actuator : Coded ActuatorValue
coded_actuator =
    code_by (List ℤ × List ℤ) (coded× (coded_list coded_ℤ) (coded_list coded_ℤ)) (λ a. (a.steps, a.start))
    (λ p. record { steps = p.0; start = p.1 }) (λ _. refl)

abbrev pub coded_mission : Coded MissionValue
coded_mission =
    code_by (RulesValue × ((ℕ × (ℕ × ℕ))
    × (ContextValue × (List (List TaskValue)
    × (List (ℕ × ℕ) × (List (List (List ℤ)) × (List FaultValue × Option ActuatorValue)))))))
    (coded× rules.the_row.coded
    (coded× coded_sizes (coded× coded_words
    (coded× (coded_list (coded_list coded_task))
    (coded× (coded_list (coded× coded_ℕ coded_ℕ))
    (coded× (coded_list coded_words) (coded× script.the_row.coded (coded_option coded_actuator))))))))
    (λ M. (
      M.rules,
      (
        (M.cycles, (M.width, M.return_after)),
        (M.initial, (M.table, (M.outputs, (M.sensors, (M.script, M.actuator))))),
      ),
    ))
    (λ p. record {
      rules = p.0;
      cycles = p.1.0.0;
      width = p.1.0.1.0;
      return_after = p.1.0.1.1;
      initial = p.1.1.0;
      table = p.1.1.1.0;
      outputs = p.1.1.1.1.0;
      sensors = p.1.1.1.1.1.0;
      script = p.1.1.1.1.1.1.0;
      actuator = p.1.1.1.1.1.1.1;
    })
    (λ _. refl)
