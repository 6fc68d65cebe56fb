-- Up to the work of the tasks slot nothing tells the steps of the cycle.
use Rattle.std.proofs.Common.{◌≡◌, ℕ, Bool, true, false, cond, List, [], ◌∷◌, ◌++◌, refl, sym, ap, ◌∙◌}
use Rattle.std.specs.Prelude.{map, flat_map, nat_lt}
use Rattle.std.specs.List.{AllZip, list_all}
use Rattle.guards_model.specs.declared.Slot.{Slot}
use Rattle.guards_model.specs.declared.Slot.TheVariants.{Request, Round1, Round2, Round3, Tasks, Vote, Sweep, Final, Switch, Output}
use Rattle.guards_model.specs.Slots.{slot_index, stage_after, stage_before}
use Rattle.guards_model.specs.Channels.{Channel, without, channels_where}
use Rattle.guards_model.specs.Missions.{MissionValue, channels_of}
use Rattle.guards_model.specs.Frames.{BodyValue, spelling}
use Rattle.guards_model.specs.Network.{EntryValue, Log}
use Rattle.guards_model.specs.Rounds.{Steps, steps_of, writes_before}
use Rattle.guards_model.proofs.BoolTests.{both}
use Rattle.guards_model.proofs.ListTests.{all-flat_map, all-map}
use Rattle.guards_runs.specs.Cycles.{Past, Cycle, cycles_before, cycle_at}
use Rattle.guards_runs.specs.Due.{Carry, IsMadeBy, slot_carries, carries_frames, receivers, is_sender, owed, frame_on}
use Rattle.guards_world.specs.NodeFacts.{state_in}
use Rattle.guards_world.specs.InCycle.{InCycle, carries_done, node_in}
use Rattle.guards_world.specs.Worlds.{WorldValue}
use Rattle.node_laws.proofs.Holding.{all_of_flat}

-- a relation of each pair whose first passes a test
zip_weaken : {A B : Type 0} (R S : A → B → Type 0) (P : A → Bool) (xs : List A) (ys : List B) → list_all P xs ≡ true →
    ((x : A) (y : B) → P x ≡ true → R x y → S x y) → AllZip R xs ys → AllZip S xs ys
zip_weaken R S P [] [] h f z = tt
zip_weaken R S P [] (y ∷ ys) h f z = absurd z
zip_weaken R S P (x ∷ xs) [] h f z = absurd z
zip_weaken R S P (x ∷ xs) (y ∷ ys) h f z =
    let parts = both (P x) (list_all P xs) h in
    (f x y parts.0 z.0, zip_weaken R S P xs ys parts.1 f z.1)

abbrev is_early : Slot → Bool
is_early s = nat_lt (slot_index s) 5

-- only the frames of the sweep slot have copies
owed_early : (M : MissionValue) (past : Past) (e : Cycle) (slot : Slot) (q : Channel) (to : ℕ) (places other : List ℕ) →
    is_early slot ≡ true → owed M past e slot q to places ≡ owed M past e slot q to other
owed_early M past e Request q to places other h = refl
owed_early M past e Round1 q to places other h = refl
owed_early M past e Round2 q to places other h = refl
owed_early M past e Round3 q to places other h = refl
owed_early M past e Tasks q to places other h = refl
owed_early M past e Vote q to places other h = absurd cc
owed_early M past e Sweep q to places other h = absurd cc
owed_early M past e Final q to places other h = absurd cc
owed_early M past e Switch q to places other h = absurd cc
owed_early M past e Output q to places other h = absurd cc

no_sweep : (slot : Slot) → is_early slot ≡ true → slot ≡ Sweep → ⊥
no_sweep slot h is = late (sym (ap is_early is) ∙ h)
  where
    late : false ≡ true → ⊥
    late k = cc

made_early : (M : MissionValue) (past : Past) (e : Cycle) (steps other : Steps) (carry : Carry) (entry : EntryValue) →
    is_early carry.slot ≡ true →
    IsMadeBy M past e (steps_of steps carry.from) carry entry →
    IsMadeBy M past e (steps_of other carry.from) carry entry
made_early M past e steps other carry entry early was =
    record {
      cycle = was.cycle;
      slot = was.slot;
      from = was.from;
      to = was.to;
      full = λ sweep. absurd (no_sweep carry.slot early sweep);
      sent = was.sent ∙ ap (λ (b : BodyValue). spelling (frame_on M carry b))
          (owed_early M past e carry.slot carry.from carry.to (writes_before (steps_of steps carry.from))
          (writes_before (steps_of other carry.from)) early);
    }

slot_early : (c : ℕ) (e : Cycle) (slot : Slot) → is_early slot ≡ true →
    list_all (λ (carry : Carry). is_early carry.slot) (slot_carries c e slot) ≡ true
slot_early c e slot h = by_frames (carries_frames e slot)
  where
    by_frames : (b : Bool) → list_all (λ (carry : Carry). is_early carry.slot)
        (cond b (flat_map (λ q. map (λ to. record { cycle = c; slot = slot; from = q; to = to })
        (without (receivers e slot) (q ∷ []))) (channels_where (is_sender e slot))) []) ≡ true
    by_frames true =
        all-flat_map (λ (carry : Carry). is_early carry.slot)
        (λ q. map (λ to. record { cycle = c; slot = slot; from = q; to = to })
        (without (receivers e slot) (q ∷ []))) (channels_where (is_sender e slot))
        (λ q. all-map (λ (carry : Carry). is_early carry.slot)
        (λ to. record { cycle = c; slot = slot; from = q; to = to }) (without (receivers e slot) (q ∷ []))
        (λ to. h))
    by_frames false = refl

done_early : (c : ℕ) (e : Cycle) →
    list_all (λ (carry : Carry). is_early carry.slot) (carries_done c e (stage_before Vote)) ≡ true
done_early c e = all_of_flat (λ (carry : Carry). is_early carry.slot) is_early (slot_carries c e)
    (Request ∷ Round1 ∷ Round2 ∷ Round3 ∷ Tasks ∷ []) refl (slot_early c e)

node_early : (M : MissionValue) (L : Log) (n : ℕ) (steps other : Steps) (q : Channel) →
    node_in M L n steps Tasks (stage_before Tasks) q ≡ node_in M L n other Tasks (stage_before Tasks) q
unfolding state_in
node_early M L n steps other q = refl

nodes_early : (M : MissionValue) (L : Log) (n : ℕ) (steps other : Steps) (qs : List Channel) →
    map (node_in M L n steps Tasks (stage_before Tasks)) qs ≡ map (node_in M L n other Tasks (stage_before Tasks)) qs
nodes_early M L n steps other [] = refl
nodes_early M L n steps other (q ∷ qs) =
    ap (λ x. x ∷ map (node_in M L n steps Tasks (stage_before Tasks)) qs) (node_early M L n steps other q)
    ∙ ap (λ xs. node_in M L n other Tasks (stage_before Tasks) q ∷ xs) (nodes_early M L n steps other qs)

pub comes_later : (M : MissionValue) (earlier current : Log) (steps other : Steps) (w : WorldValue) →
    InCycle M earlier current steps Tasks (stage_after Tasks) (stage_before Tasks) w →
    InCycle M earlier current other Tasks (stage_after Tasks) (stage_before Tasks) w
comes_later M earlier current steps other w inside =
    let past = cycles_before M (earlier ++ current) w.done in
    let e = cycle_at M (earlier ++ current) w.done in
    record {
      mission = inside.mission;
      ranges = inside.ranges;
      below = inside.below;
      unspent = inside.unspent;
      count = inside.count;
      before = inside.before;
      unstopped = inside.unstopped;
      made = zip_weaken (λ carry entry. IsMadeBy M past e (steps_of steps carry.from) carry entry)
          (λ carry entry. IsMadeBy M past e (steps_of other carry.from) carry entry)
          (λ (carry : Carry). is_early carry.slot) (carries_done w.done e (stage_before Vote)) current
          (done_early w.done e) (made_early M past e steps other) inside.made;
      unhalted = inside.unhalted;
      nodes = inside.nodes ∙ nodes_early M (earlier ++ current) w.done steps other (channels_of M);
      ledger = inside.ledger;
      switches = inside.switches;
    }
