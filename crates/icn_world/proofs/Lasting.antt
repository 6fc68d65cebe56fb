-- What the sweep and the final slot settled lasts to the end of the cycle.
use Rattle.std.proofs.Common.{◌≡◌, ℕ, ◌≤◌, ◌<◌, true, List, [], ◌++◌, Option, length, sym, ap, subst, ◌∙◌}
use Rattle.std.specs.Prelude.{option_map, is_some}
use Rattle.std.proofs.lemmas.List.{append_assoc}
use Rattle.guards_model.specs.declared.Slot.{Slot}
use Rattle.guards_model.specs.declared.Slot.TheVariants.{Switch}
use Rattle.guards_model.specs.Channels.{Channel, ChannelSet, has}
use Rattle.guards_model.specs.Missions.{MissionValue}
use Rattle.guards_model.specs.Modes.{is_joining}
use Rattle.guards_model.specs.Network.{Log}
use Rattle.guards_model.specs.Rounds.{Steps}
use Rattle.guards_model.specs.Controls.{ClosedValue}
use Rattle.guards_model.specs.Decisions.{DecisionValue}
use Rattle.guards_model.specs.Transfers.{TransferValue, start_of}
use Rattle.guards_runs.specs.Cycles.{Cycle, cycles_before, cycle_at, mode_in}
use Rattle.guards_runs.specs.ControlFacts.{closed_of, if_joined}
use Rattle.guards_runs.specs.Restoration.{content_taken}
use Rattle.guards_runs.specs.SlotFacts.{AreFromPlace}
use Rattle.guards_world.specs.Worlds.{WorldValue, facts_in}
use Rattle.guards_world.specs.InCycle.{InCycle}
use Rattle.world_laws.proofs.Following.{follows}
use Rattle.node_laws.proofs.Staying.{weaken}
use Rattle.world_laws.proofs.SlotKept.{rounds_later}
use Rattle.icn_world.proofs.ContentTaken.{taken_lasts}
use Rattle.icn_world.specs.Restored.{HaveTaken}

closed_same : (e x : Cycle) → x.joined ≡ e.joined → x.decision ≡ e.decision → x.remaining ≡ e.remaining →
    closed_of x ≡ closed_of e
closed_same e x j d r =
    let C : ChannelSet → Option TransferValue → List ℕ → ClosedValue =
    λ joined t rest. record {
      joined = joined;
      start = if_joined joined (start_of t) 0;
      remaining = option_map (λ (y : TransferValue). length rest) t;
      rest = if_joined joined rest [];
    } in
    ap (λ joined. C joined x.transfer x.remaining) j ∙ ap (λ (y : DecisionValue). C e.joined y.transfer x.remaining) d
    ∙ ap (C e.joined e.transfer) r

-- the world w goes on to the world x of the same cycle, by these entries
module _ (earlier current new : Log) (steps : Steps) (slot last : Slot) (carried handed more given : ℕ)
    (w x : WorldValue) (mission : x.mission ≡ w.mission) (done : x.done ≡ w.done)
    (was : InCycle w.mission earlier current steps slot carried handed w)
    (is : InCycle x.mission earlier (current ++ new) steps last more given x) where
  abbrev M : MissionValue
  M = w.mission

  abbrev n : ℕ
  n = w.done

  late : AreFromPlace n carried new
  late = follows M earlier current new steps steps slot last carried handed more given w x done was
      (subst (λ (m : MissionValue). InCycle m earlier (current ++ new) steps last more given x) mission is)

  -- what is true of the mission and the count of cycles
  here : (F : MissionValue → Log → ℕ → Type 0) → F M ((earlier ++ current) ++ new) n →
      F x.mission (earlier ++ (current ++ new)) x.done
  here F h =
      subst (λ (c : ℕ). F x.mission (earlier ++ (current ++ new)) c) (sym done)
      (subst (λ (m : MissionValue). F m (earlier ++ (current ++ new)) n) (sym mission)
      (subst (λ (all : Log). F M all n) (append_assoc earlier current new) h))

  pub closed_later : 4 ≤ carried → (c : ClosedValue) → c ≡ closed_of (facts_in w (earlier ++ current)) →
      c ≡ closed_of (facts_in x (earlier ++ (current ++ new)))
  closed_later far c h =
      let stays = rounds_later M (earlier ++ current) new n carried late far in
      here (λ m all k. c ≡ closed_of (cycle_at m all k))
      (h ∙ sym (closed_same (cycle_at M (earlier ++ current) n) (cycle_at M ((earlier ++ current) ++ new) n)
      stays.joined stays.decision stays.remaining))

  abbrev LastsBy : ChannelSet → MissionValue → Log → ℕ → Type 0
  LastsBy taken m all k = (q : Channel) → q < 7 → is_joining (mode_in (cycle_at m all k) q Switch) ≡ true →
      has taken q ≡ is_some (content_taken m q (cycles_before m all k) (cycle_at m all k))

  pub taken_later : 8 ≤ carried → (taken : ChannelSet) → HaveTaken taken M (earlier ++ current) n steps →
      LastsBy taken x.mission (earlier ++ (current ++ new)) x.done
  taken_later far taken have =
      here (LastsBy taken) (taken_lasts M (earlier ++ current) new n steps taken (weaken n 8 carried new far late) have)
