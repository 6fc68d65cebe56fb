-- The lines that the running nodes tell in the vote slot are those of the report.
use Rattle.std.proofs.Common.{◌≡◌, ℕ, suc, ◌<◌, ◌&&◌, Bool, true, false, cond, List, [], ◌∷◌, ◌++◌, Option, Some, None, option_map, map, filter, filter_map, length, take, replicate, pos, ◌-◌, ℤ, refl, sym, ap, subst, ◌∙◌}
use Rattle.std.specs.Prelude.{bytes_eq}
use Rattle.std.specs.List.{list_all, cons_option}
use Rattle.std.proofs.lemmas.Bool.{leb-true}
use Rattle.std.proofs.lemmas.List.{length-map}
use Rattle.std.proofs.lemmas.List.FromFn.{length-range_with_len}
use Rattle.std.proofs.lemmas.Slice.Eq.{bytes_eq-Decides}
use Rattle.guards_model.specs.declared.Slot.{Slot}
use Rattle.guards_model.specs.declared.Slot.TheVariants.{Vote}
use Rattle.guards_model.specs.Channels.{Channel, ChannelSet, has, every_channel, channels_where, numbers_below}
use Rattle.guards_model.specs.Missions.{MissionValue, RulesValue, IsMission, channels_of}
use Rattle.guards_model.specs.Frames.{is_channel, is_set}
use Rattle.guards_model.specs.Modes.{ModeValue, up, down, waiting, joining, is_up}
use Rattle.guards_model.specs.Network.{Log, ballot_of}
use Rattle.guards_model.specs.Rounds.{Steps}
use Rattle.guards_model.specs.Texts.{LineValue}
use Rattle.guards_model.specs.Records.{shown_line}
use Rattle.guards_model.specs.Voting.{Ballots}
use Rattle.guards_model.proofs.BoolTests.{both}
use Rattle.guards_model.proofs.Numbers.{sublists, every_set}
use Rattle.guards_model.proofs.NumbersBelow.{below_there}
use Rattle.guards_model.proofs.AscendingLists.{set-filter, set_parts}
use Rattle.guards_model.proofs.Tables.{at-by_channel, has-filter}
use Rattle.guards_model.specs.Slots.{stage_after, stage_before}
use Rattle.guards_base.proofs.EachChannel.{sets_alike}
use Rattle.guards_runs.specs.Cycles.{Past, Cycle, received_body, cycles_before, cycle_at, mode_in, active_set}
use Rattle.guards_runs.specs.Report.{line_of}
use Rattle.guards_runs.specs.Report as report
use Rattle.guards_laws.proofs.CycleParts.{active-is, inputs-is}
use Rattle.guards_laws.proofs.LogGrows.{length-cycles_before}
use Rattle.guards_laws.proofs.ControlFacts.{controls_follow}
use Rattle.guards_laws.proofs.WithinChannels.{active_is_set, active_within}
use Rattle.guards_nodes.specs.NodeStates.{DecidedValue, NodeValue, RunningValue, JoinerValue}
use Rattle.guards_nodes.specs.NodeSteps.{kept_of, voted_by, line_by}
use Rattle.guards_world.specs.NodeFacts.{state_of_mode, running_value_in, joiner_in, state_in}
use Rattle.guards_world.specs.Worlds.{WorldValue}
use Rattle.guards_world.specs.InCycle.{InCycle, node_in}
use Rattle.node_laws.proofs.Opening.{active_in}
use Rattle.node_laws.proofs.NodeStepped.{lines}
use Rattle.guards_nodes.specs.WholeLines.{whole_line}
use Rattle.guards_world.specs.NodeLists.{Bodies, ballots_arrived, line_in, vote_line}
use Rattle.guards_world.specs.Arrivals.{AreArrivals, HaveWorked, nodes_in}
use Rattle.icn_world.specs.Told.{shown_of, AreLinesOf}
use Rattle.icn_world.proofs.LinePadding.{all_padded}

-- ---- sets with the same channels

each_is_where : list_all (λ set. bytes_eq (channels_where (λ q. has set q)) set) (sublists every_channel) ≡ true
unfolding channels_where
each_is_where = refl

-- a set is the channels that it has
as_where : (set : ChannelSet) → is_set set ≡ true → channels_where (λ q. has set q) ≡ set
as_where set h = (bytes_eq-Decides (channels_where (λ q. has set q)) set).0
    (every_set (λ s. bytes_eq (channels_where (λ q. has s q)) s) each_is_where set h)

same_where : (passes a b : Bool) → (passes ≡ true → a ≡ b) → (passes && a) ≡ (passes && b)
same_where true a b h = h refl
same_where false a b h = refl

-- two sets have the same channels that pass a test, if each that passes is in both or in none
same_filter : (t : Channel → Bool) (a b : ChannelSet) → is_set a ≡ true → is_set b ≡ true →
    ((q : Channel) → q < 7 → t q ≡ true → has a q ≡ has b q) → filter t a ≡ filter t b
same_filter t a b of_a of_b same =
    sym (as_where (filter t a) (set-filter t a of_a))
    ∙ sets_alike (λ q. has (filter t a) q) (λ q. has (filter t b) q)
    (λ q low. has-filter t a q ∙ same_where (t q) (has a q) (has b q) (same q low) ∙ sym (has-filter t b q))
    ∙ as_where (filter t b) (set-filter t b of_b)

-- ---- who runs

up-is : (mode : ModeValue) → is_up mode ≡ true → mode ≡ up
up-is up h = refl
up-is down h = absurd cc
up-is (waiting n) h = absurd cc
up-is joining h = absurd cc

-- the channels of the mission that are up in a slot are those that are active and up
pub up_are_running : (M : MissionValue) (L : Log) (n : ℕ) (slot : Slot) → IsMission M →
    filter (λ q. is_up (mode_in (cycle_at M L n) q slot)) (channels_of M)
    ≡ report.channels_running_in slot (cycle_at M L n)
up_are_running M L n slot mission =
    let past = cycles_before M L n in
    let e = cycle_at M L n in
    let test : Channel → Bool = λ q. is_up (mode_in e q slot) in
    same_filter test (channels_of M) (active_set M past) (active_is_set M [] mission) (active_is_set M past mission)
    (λ q low passes.
    let there : has (active_set M past) q ≡ true =
    sym (ap (λ (s : ChannelSet). has s q) (active-is M L past))
    ∙ active_in M L n mission q low slot (up-is (mode_in e q slot) passes) in
    below_there M.rules.channels q (active_within M L n q there) ∙ sym there)
    ∙ ap (filter test) (sym (active-is M L past))

-- ---- the line of a channel

take_front : {A : Type 0} (xs ys : List A) → take (length xs) (xs ++ ys) ≡ xs
take_front [] ys = refl
take_front (x ∷ xs) ys = ap (λ zs. x ∷ zs) (take_front xs ys)

front_of : {A : Type 0} (n : ℕ) (xs ys : List A) → length xs ≡ n → take n (xs ++ ys) ≡ xs
front_of n xs ys h = ap (λ k. take k (xs ++ ys)) (sym h) ∙ take_front xs ys

-- what is shown of the line that a node tells is the line by its decision and the ballots
shown_is : (rules : RulesValue) (width : ℕ) (q : Channel) (outputs : List (ℕ × ℕ)) (r : RunningValue) (d : DecidedValue)
    (ballots : Ballots) →
    length d.inputs ≡ width →
    shown_line rules.channels width (length outputs) (whole_line q outputs r d ballots)
    ≡ line_by rules q outputs r d ballots
shown_is rules width q outputs r d ballots wide =
    let T : List ℤ → List (Option ℤ) → LineValue = λ inputs votes.
    record {
      channel = q;
      inputs = inputs;
      votes = votes;
      judged = d.judged;
      counts = take rules.channels r.control.counts;
    } in
    let votes = voted_by q outputs ballots r in
    let some : length votes ≡ length outputs =
    length-map (numbers_below (length outputs)) _ ∙ length-range_with_len 0 (length outputs) in
    ap (λ inputs. T inputs (take (length outputs) (votes ++ replicate (8 - length outputs) None)))
    (front_of width d.inputs (replicate (4 - length d.inputs) (pos 0)) wide)
    ∙ ap (T d.inputs) (front_of (length outputs) votes (replicate (8 - length outputs) None) some)

-- ---- the lines of all nodes

one_told : (s : LineValue → LineValue) (line : Option LineValue) (runs : Bool) (told : LineValue)
    (rest shown : List LineValue) →
    option_map s line ≡ cond runs (Some told) None → map s rest ≡ shown →
    map s (cons_option line rest) ≡ cond runs (told ∷ shown) shown
one_told s (Some l) true told rest shown h k = cc
one_told s (Some l) false told rest shown h k = absurd cc
one_told s None true told rest shown h k = absurd cc
one_told s None false told rest shown h k = k

cond_map : (h : Channel → LineValue) (runs : Bool) (q : Channel) (qs : ChannelSet) →
    cond runs (h q ∷ map h qs) (map h qs) ≡ map h (cond runs (q ∷ qs) qs)
cond_map h true q qs = refl
cond_map h false q qs = refl

told_of : (f : NodeValue → Option LineValue) (a : Channel → NodeValue) (s : LineValue → LineValue)
    (runs : Channel → Bool) (h : Channel → LineValue) →
    ((q : Channel) → q < 7 → option_map s (f (a q)) ≡ cond (runs q) (Some (h q)) None) →
    (qs : ChannelSet) → list_all is_channel qs ≡ true → map s (filter_map f (map a qs)) ≡ map h (filter runs qs)
told_of f a s runs h here [] low = refl
told_of f a s runs h here (q ∷ qs) low =
    let parts = both (is_channel q) (list_all is_channel qs) low in
    one_told s (f (a q)) (runs q) (h q) (filter_map f (map a qs)) (map h (filter runs qs))
    (here q (leb-true (suc q) 7 parts.0)) (told_of f a s runs h here qs parts.1)
    ∙ cond_map h (runs q) q (filter runs qs)

-- a node tells a line where it runs
told_by : (M : MissionValue) (got : Bodies) (q : Channel) (r : RunningValue) (j : JoinerValue) (mode : ModeValue)
    (line : LineValue) →
    (mode ≡ up → option_map (shown_of M)
    (option_map (λ d. whole_line q M.outputs r d (ballots_arrived got q)) r.progress.decided) ≡ Some line) →
    option_map (shown_of M) (line_in M got q (state_of_mode r j mode)) ≡ cond (is_up mode) (Some line) None
told_by M got q r j up line h = h refl
told_by M got q r j down line h = refl
told_by M got q r j (waiting n) line h = refl
told_by M got q r j joining line h = refl

module _ (M : MissionValue) (L : Log) (n : ℕ) (steps : Steps) (mission : IsMission M) where
  abbrev past : Past
  past = cycles_before M L n

  abbrev e : Cycle
  e = cycle_at M L n

  wide : length e.inputs ≡ M.width
  wide = ap length (inputs-is M L past) ∙ length-map (numbers_below M.width) _ ∙ length-range_with_len 0 M.width

  -- the line of a running channel is the one of the report
  line-is : (got : Bodies) → AreArrivals M L n Vote got → HaveWorked M L n → (q : Channel) → q < 7 →
      mode_in e q Vote ≡ up →
      shown_of M (whole_line q M.outputs (running_value_in M past e steps (stage_before Vote) q)
      (kept_of e.decision e.inputs) (ballots_arrived got q)) ≡ line_of M e q
  line-is got are worked q low is =
      let held = worked q low is in
      shown_is M.rules M.width q M.outputs (running_value_in M past e steps (stage_before Vote) q)
      (kept_of e.decision e.inputs) (ballots_arrived got q) wide
      ∙ lines M L past steps q (controls_follow M L n) low (active_in M L n mission q low Vote is) held.0 held.1
      (ballots_arrived got q)
      (λ j small other. at-by_channel (λ p. ballot_of (got p q)) j None small
      ∙ ap ballot_of (are j q ∙ ap (λ c. received_body M e.entries c Vote j q) (sym (length-cycles_before M L n))))

  told : (got : Bodies) → AreArrivals M L n Vote got → HaveWorked M L n → (q : Channel) → q < 7 →
      option_map (shown_of M) (vote_line M got (node_in M L n steps Vote (stage_before Vote) q))
      ≡ cond (is_up (mode_in e q Vote)) (Some (line_of M e q)) None
  unfolding state_in
  told got are worked q low =
      told_by M got q (running_value_in M past e steps (stage_before Vote) q) (joiner_in M past e (stage_before Vote) q)
      (mode_in e q Vote) (line_of M e q)
      (λ is. ap Some (line-is got are worked q low is))

  pub all_told : (got : Bodies) → AreArrivals M L n Vote got → HaveWorked M L n →
      AreLinesOf M e Vote (filter_map (vote_line M got) (nodes_in M L n steps Vote (stage_before Vote)))
  all_told got are worked = (
    told_of (vote_line M got) (node_in M L n steps Vote (stage_before Vote)) (shown_of M)
        (λ q. is_up (mode_in e q Vote)) (line_of M e) (told got are worked)
        (channels_of M) (set_parts (channels_of M) (active_is_set M [] mission)).0
        ∙ ap (map (line_of M e)) (up_are_running M L n Vote mission),
    all_padded M L n steps mission got,
  )

-- the world's nodes tell these lines
pub tells_by : (old w : WorldValue) (earlier current : Log) (steps : Steps) (got : Bodies) (items : List LineValue) →
    w ≡ old →
    items ≡ filter_map (vote_line w.mission got) w.nodes →
    InCycle old.mission earlier current steps Vote (stage_after Vote) (stage_before Vote) old →
    AreArrivals old.mission (earlier ++ current) old.done Vote got →
    HaveWorked old.mission (earlier ++ current) old.done →
    AreLinesOf old.mission (cycle_at old.mission (earlier ++ current) old.done) Vote items
tells_by old w earlier current steps got items same is inside are worked =
    subst (λ (ls : List LineValue). AreLinesOf old.mission (cycle_at old.mission (earlier ++ current) old.done) Vote ls)
    (sym (is ∙ ap (λ (x : WorldValue). filter_map (vote_line x.mission got) x.nodes) same
    ∙ ap (filter_map (vote_line old.mission got)) inside.nodes))
    (all_told old.mission (earlier ++ current) old.done steps inside.ranges got are worked)
