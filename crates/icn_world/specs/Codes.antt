-- A code of worlds, by which proofs tell them apart.
use Rattle.std.specs.Prelude.{ℕ, List, Option, None, Some, refl}
use Rattle.std.specs.Coded.{Coded, code_by, coded×, coded_ℕ, coded_list, coded_option}
use Rattle.guards_model.specs.contracts.Slot as slot
use Rattle.fault_script.specs.contracts.ledger.Ledger as ledger
use Rattle.world_nodes.specs.contracts.nodes.Nodes as nodes
use Rattle.guards_model.specs.declared.Slot.{Slot}
use Rattle.guards_model.specs.Channels.{ChannelSet}
use Rattle.guards_model.specs.Missions.{MissionValue}
use Rattle.guards_model.specs.Ledgers.{LedgerValue}
use Rattle.guards_model.specs.Texts.{StopValue}
use Rattle.mission_type.specs.Codes.{coded_mission}
use Rattle.guards_nodes.specs.NodeStates.{NodeValue}
use Rattle.guards_model.specs.Settled.{SettledValue}
use Rattle.guards_world.specs.Worlds.{HaltValue, disturbed, no_memory, WorldValue}

abbrev pub coded_set : Coded ChannelSet
coded_set = coded_list coded_ℕ

abbrev pub coded_stop : Coded StopValue
coded_stop =
    code_by (ℕ × (Slot × (ChannelSet × ChannelSet)))
    (coded× coded_ℕ (coded× slot.the_row.coded (coded× coded_set coded_set)))
    (λ s. (s.cycle, (s.slot, (s.set, s.active))))
    (λ p. record { cycle = p.0; slot = p.1.0; set = p.1.1.0; active = p.1.1.1 })
    (λ _. refl)

abbrev pub stop_or_none : HaltValue → Option StopValue
stop_or_none (disturbed s) = Some s
stop_or_none no_memory = None

abbrev pub halt_of : Option StopValue → HaltValue
halt_of (Some s) = disturbed s
halt_of None = no_memory

abbrev pub coded_halt : Coded HaltValue
coded_halt = code_by (Option StopValue) (coded_option coded_stop) stop_or_none halt_of
    (elim [ disturbed s ↦ refl | no_memory ↦ refl ])

abbrev pub coded_settled : Coded SettledValue
coded_settled =
    code_by (ℕ × (ChannelSet × ChannelSet)) (coded× coded_ℕ (coded× coded_set coded_set))
    (λ s. (s.cycle, (s.active, s.disturbed)))
    (λ p. record { cycle = p.0; active = p.1.0; disturbed = p.1.1 }) (λ _. refl)

abbrev pub coded_world : Coded WorldValue
coded_world =
    code_by (MissionValue × ((ℕ × ℕ)
    × (List NodeValue × (LedgerValue × (ChannelSet × (Option HaltValue × Option SettledValue))))))
    (coded× coded_mission (coded× (coded× coded_ℕ coded_ℕ)
    (coded× nodes.the_row.coded
    (coded× ledger.the_row.coded
    (coded× coded_set (coded× (coded_option coded_halt) (coded_option coded_settled)))))))
    (λ w. (w.mission, ((w.done, w.carried), (w.nodes, (w.ledger, (w.switches, (w.spent, w.settled)))))))
    (λ p. record {
      mission = p.0;
      done = p.1.0.0;
      carried = p.1.0.1;
      nodes = p.1.1.0;
      ledger = p.1.1.1.0;
      switches = p.1.1.1.1.0;
      spent = p.1.1.1.1.1.0;
      settled = p.1.1.1.1.1.1;
    })
    (λ _. refl)
