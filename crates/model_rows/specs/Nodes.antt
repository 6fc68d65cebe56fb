-- What nodes hold in worked runs, as literals.
use Rattle.std.specs.Prelude.{ℕ, pos, List, [], ◌∷◌, replicate, Some, None}
use Rattle.guards_model.specs.Contexts.{ContextValue, zeroed}
use Rattle.guards_model.specs.Controls.{ControlValue}
use Rattle.guards_nodes.specs.NodeStates.{no_progress, JoinerValue, StateValue, running, returning}

abbrev pub no_counts : List ℕ
no_counts = 0 ∷ 0 ∷ 0 ∷ 0 ∷ 0 ∷ 0 ∷ 0 ∷ []

abbrev pub after_two_cycles : StateValue
after_two_cycles =
    running (record {
      held = record {
        context = (pos 10 ∷ replicate 7 (pos 0)) ∷ [];
        control = record { active = 0 ∷ 1 ∷ 2 ∷ 3 ∷ []; fresh = []; counts = no_counts; sweeping = None };
        accused = [];
        heard = no_counts;
      };
      progress = no_progress;
    })

-- the first block counts the cycles, and the others stay zero
abbrev pub counted_to : ℕ → ContextValue
counted_to n = (pos n ∷ replicate 7 (pos 0)) ∷ zeroed 7

abbrev pub sender_before_five : StateValue
sender_before_five =
    running (record {
      held = record {
        context = counted_to 5;
        control = record {
          active = 0 ∷ 1 ∷ 2 ∷ 3 ∷ [];
          fresh = [];
          counts = no_counts;
          sweeping = Some (record {
            transfer = record { targets = 4 ∷ []; start = 3 };
            tags = record { blocks = 8; remaining = 0 ∷ 6 ∷ 7 ∷ []; cursor = 6; written = [] };
          });
        };
        accused = [];
        heard = 0 ∷ 0 ∷ 0 ∷ 0 ∷ 2 ∷ 0 ∷ 0 ∷ [];
      };
      progress = no_progress;
    })

abbrev pub target_before_five : StateValue
target_before_five = returning (record { replica = record { have = Some 3; blocks = zeroed 8 }; taken = None })

-- the control of cycle 6, in which channel 4 is fresh
abbrev pub control_six : ControlValue
control_six = record { active = 0 ∷ 1 ∷ 2 ∷ 3 ∷ 4 ∷ []; fresh = 4 ∷ []; counts = no_counts; sweeping = None }

abbrev pub target_that_took : JoinerValue
target_that_took = record { replica = record { have = Some 3; blocks = counted_to 6 }; taken = Some control_six }

abbrev pub target_that_runs : StateValue
target_that_runs =
    running (record {
      held = record { context = counted_to 6; control = control_six; accused = []; heard = no_counts };
      progress = no_progress;
    })
