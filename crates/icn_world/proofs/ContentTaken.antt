-- Who took a content in the final slot, and that this lasts to the end of the cycle.
use Rattle.std.proofs.Common.{◌≡◌, ℕ, ◌<◌, ◌==◌, Bool, true, false, cond, ◌&&◌, ◌||◌, List, [], ◌∷◌, ◌++◌, Option, None, Some, map, filter_map, refl, sym, ap, ◌∙◌}
use Rattle.std.specs.Prelude.{is_some}
use Rattle.std.specs.List.{list_any}
use Rattle.std.proofs.lemmas.Bool.{eqb-true}
use Rattle.std.proofs.Math.Bool.{and-false}
use Rattle.std.proofs.Math.Path.{fun_ext}
use Rattle.guards_model.specs.declared.Slot.TheVariants.{Final, Switch}
use Rattle.guards_model.specs.Channels.{Channel, ChannelSet, has}
use Rattle.guards_model.specs.Missions.{MissionValue, IsMission, channels_of}
use Rattle.guards_model.specs.Frames.{FinalValue}
use Rattle.guards_model.specs.Modes.{ModeValue, up, down, waiting, joining, is_joining}
use Rattle.guards_model.specs.Controls.{ControlValue}
use Rattle.guards_model.specs.Ledgers.{is_down}
use Rattle.guards_model.specs.Network.{Log}
use Rattle.guards_model.specs.Replicas.{final_content, final_taken}
use Rattle.guards_model.specs.Rounds.{Steps}
use Rattle.guards_model.proofs.ListTests.{any-map}
use Rattle.guards_model.specs.Slots.{stage_after, stage_before}
use Rattle.guards_runs.specs.Cycles.{Past, Cycle, mode_in, received_body, cycles_before, cycle_at}
use Rattle.guards_runs.specs.Restoration.{finals_at, replica_after, content_taken}
use Rattle.guards_runs.specs.SlotFacts.{AreFromPlace}
use Rattle.guards_laws.proofs.CycleParts.{active-is}
use Rattle.guards_laws.proofs.LogGrows.{length-cycles_before}
use Rattle.guards_nodes.specs.NodeStates.{NodeValue, StateValue, running, fallen, resting, returning, RunningValue, JoinerValue}
use Rattle.guards_nodes.specs.NodeSteps.{with_content}
use Rattle.guards_world.specs.NodeFacts.{state_of_mode, running_value_in, joiner_swept, joiner_in, state_in}
use Rattle.guards_world.specs.Worlds.{WorldValue}
use Rattle.guards_world.specs.InCycle.{InCycle, node_in}
use Rattle.node_laws.proofs.Ending.{falls}
use Rattle.node_laws.proofs.Staying.{node_stays}
use Rattle.guards_world.specs.NodeLists.{Bodies, finals_of, takes_in, takes}
use Rattle.guards_world.specs.Arrivals.{AreArrivals}
use Rattle.icn_world.proofs.JoinersInMission.{joins_within}
use Rattle.icn_world.specs.Restored.{HaveTaken}

abbrev taken_in : StateValue → Option ControlValue
taken_in (returning j) = j.taken
taken_in (running r) = None
taken_in fallen = None
taken_in resting = None

pub took_by : (taken : ChannelSet) (q : Channel) (r : RunningValue) (j k : JoinerValue) (mode : ModeValue) →
    (is_joining mode ≡ true → has taken q ≡ is_some k.taken) → state_of_mode r k mode ≡ returning j →
    has taken q ≡ is_some j.taken
took_by taken q r j k up h is = absurd cc
took_by taken q r j k down h is = absurd cc
took_by taken q r j k (waiting n) h is = absurd cc
took_by taken q r j k joining h is = h refl ∙ ap (λ s. is_some (taken_in s)) is

pub kept_content : (o : Option FinalValue) (j : JoinerValue) → j.taken ≡ None →
    is_some (with_content o j).taken ≡ is_some o
kept_content None j h = ap (λ t. is_some t) h
kept_content (Some content) j h = refl

-- ---- at the final slot

takes_by : (frames : List FinalValue) (r : RunningValue) (k : JoinerValue) (mode : ModeValue) → is_joining mode ≡ true →
    takes_in frames (state_of_mode r k mode) ≡ is_some (final_taken frames k.replica)
takes_by frames r k up h = absurd cc
takes_by frames r k down h = absurd cc
takes_by frames r k (waiting n) h = absurd cc
takes_by frames r k joining h = refl

at_place : (same t u rest : Bool) → (same ≡ true → t ≡ u) → ((t && same) || (u && rest)) ≡ (u && (same || rest))
at_place true t true rest h = ap (λ b. (b && true) || (true && rest)) (h refl)
at_place true t false rest h = ap (λ b. (b && true) || (false && rest)) (h refl)
at_place false true u rest h = refl
at_place false false u rest h = refl

-- a test of the one place of a set
any_at : (t : Channel → Bool) (q : Channel) (qs : ChannelSet) → list_any (λ p. t p && (p == q)) qs ≡ (t q && has qs q)
any_at t q [] = sym (and-false (t q))
any_at t q (p ∷ qs) = ap (λ b. (t p && (p == q)) || b) (any_at t q qs)
    ∙ at_place (p == q) (t p) (t q) (has qs q) (λ is. ap t (eqb-true p q is))

module _ (M : MissionValue) (L : Log) (n : ℕ) (steps : Steps) (mission : IsMission M) where
  abbrev past : Past
  past = cycles_before M L n

  abbrev e : Cycle
  e = cycle_at M L n

  module _ (members : ChannelSet) (got : Bodies) (on : members ≡ e.active) (are : AreArrivals M L n Final got) where
    finals_are : (q : Channel) → finals_of members got q ≡ finals_at M past e q
    finals_are q =
        ap (λ (s : ChannelSet). finals_of s got q) on
        ∙ ap (λ (f : Channel → Option FinalValue). filter_map f e.active)
        (fun_ext (λ j. ap final_content
        (are j q ∙ ap (λ (c : ℕ). received_body M e.entries c Final j q) (sym (length-cycles_before M L n)))))

    content_is : (q : Channel) → is_joining (mode_in e q Final) ≡ true →
        takes members got (node_in M L n steps Final (stage_before Final) q) ≡ is_some (content_taken M q past e)
    unfolding state_in
    content_is q joins =
        takes_by (finals_of members got q) (running_value_in M past e steps (stage_before Final) q)
        (joiner_in M past e (stage_before Final) q) (mode_in e q Final) joins
        ∙ ap (λ (frames : List FinalValue). is_some (final_taken frames (replica_after M q (e ∷ past)))) (finals_are q)

    abbrev TookThere : ChannelSet → List NodeValue → Type 0
    TookThere taken nodes = (q : Channel) → q < 7 →
        has taken q ≡ list_any (λ node. takes members got node && (node.channel == q)) nodes

    pub have_taken : (taken : ChannelSet) →
        TookThere taken (map (node_in M L n steps Final (stage_before Final)) (channels_of M)) →
        HaveTaken taken M L n steps
    unfolding state_in
    have_taken taken took q low =
        record {
          took = λ j is.
              took_by taken q (running_value_in M past e steps (stage_before Switch) q) j
              (joiner_in M past e (stage_before Switch) q) (mode_in e q Final)
              (λ joins.
              took q low
              ∙ any-map (λ (node : NodeValue). takes members got node && (node.channel == q))
              (node_in M L n steps Final (stage_before Final)) (channels_of M)
              ∙ any_at (λ p. takes members got (node_in M L n steps Final (stage_before Final) p)) q (channels_of M)
              ∙ within (takes members got (node_in M L n steps Final (stage_before Final) q)) (has (channels_of M) q)
              (joins_within M L n mission q low Final refl joins)
              ∙ content_is q joins
              ∙ sym (kept_content (content_taken M q past e) (joiner_swept M past e q) refl))
              is;
        }
      where
        within : (a b : Bool) → b ≡ true → (a && b) ≡ a
        within true b h = h
        within false b h = refl

-- ---- to the end

joins_by : (r : RunningValue) (k : JoinerValue) (mode : ModeValue) → is_joining mode ≡ true →
    state_of_mode r k mode ≡ returning k
joins_by r k up h = absurd cc
joins_by r k down h = absurd cc
joins_by r k (waiting n) h = absurd cc
joins_by r k joining h = refl

not_down : (mode : ModeValue) → is_joining mode ≡ true → is_down mode ≡ false
not_down up h = absurd cc
not_down down h = absurd cc
not_down (waiting n) h = absurd cc
not_down joining h = refl

-- entries of the switch slot and of later ones change nothing of it
pub taken_lasts : (M : MissionValue) (L new : Log) (n : ℕ) (steps : Steps) (taken : ChannelSet) → AreFromPlace n 8 new →
    HaveTaken taken M L n steps →
    (q : Channel) → q < 7 → is_joining (mode_in (cycle_at M (L ++ new) n) q Switch) ≡ true →
    has taken q ≡ is_some (content_taken M q (cycles_before M (L ++ new) n) (cycle_at M (L ++ new) n))
unfolding state_in
taken_lasts M L new n steps taken late have q low joins =
    let past : Past = cycles_before M (L ++ new) n in
    let e : Cycle = cycle_at M (L ++ new) n in
    let k : JoinerValue = joiner_in M past e (stage_before Switch) q in
    let there : state_in M past e steps Switch (stage_before Switch) q ≡ returning k =
    joins_by (running_value_in M past e steps (stage_before Switch) q) k (mode_in e q Switch) joins in
    let was : state_in M past e steps Final (stage_after Final) q ≡ returning k =
    sym (ap (λ b. cond b fallen (state_in M past e steps Final (stage_after Final) q))
    (not_down (mode_in e q Switch) joins))
    ∙ sym (falls M (L ++ new) past steps q low Final Switch 8 refl refl)
    ∙ there in
    let here : (node_in M L n steps Final (stage_after Final) q).state ≡ returning k =
    sym (ap (λ (node : NodeValue). node.state) (node_stays M L new n steps Final 8 q late)) ∙ was in
    (have q low).took k here ∙ kept_content (content_taken M q past e) (joiner_swept M past e q) refl

-- ---- the same of a world

pub taken_by : (old w : WorldValue) (earlier current : Log) (steps : Steps) (got : Bodies)
    (members taken : ChannelSet) → w ≡ old → members ≡ w.switches →
    InCycle old.mission earlier current steps Final (stage_after Final) (stage_before Final) old →
    AreArrivals old.mission (earlier ++ current) old.done Final got →
    ((q : Channel) → q < 7 → has taken q ≡ list_any (λ node. takes members got node && (node.channel == q)) w.nodes) →
    HaveTaken taken old.mission (earlier ++ current) old.done steps
taken_by old w earlier current steps got members taken same on inside are took =
    let M = old.mission in
    let all : Log = earlier ++ current in
    let now_on : members ≡ (cycle_at M all old.done).active =
    on ∙ ap (λ (x : WorldValue). x.switches) same ∙ inside.switches
    ∙ sym (active-is M all (cycles_before M all old.done)) in
    have_taken M all old.done steps inside.ranges members got now_on are taken
    (λ q low. took q low ∙ ap
    (λ (nodes : List NodeValue). list_any (λ node. takes members got node && (node.channel == q)) nodes)
    (ap (λ (x : WorldValue). x.nodes) same ∙ inside.nodes))
