-- The places of a line past the mission's words, outputs and channels have 0, none and 0.
use Rattle.std.proofs.Common.{◌≡◌, ◌≤◌, ◌<◌, ℕ, zero, suc, ◌-◌, Bool, true, false, cond, List, [], ◌∷◌, ◌++◌, Option, Some, None, map, filter_map, length, drop, replicate, pos, refl, sym, ap, ◌∙◌, arith}
use Rattle.std.specs.Prelude.{IfSome, option_map}
use Rattle.std.specs.List.{list_all, cons_option, AllByRecursion}
use Rattle.std.proofs.lemmas.Bool.{leb-true}
use Rattle.std.proofs.lemmas.List.{length-map}
use Rattle.std.proofs.lemmas.List.FromFn.{length-range_with_len}
use Rattle.guards_model.specs.declared.Slot.TheVariants.{Vote}
use Rattle.guards_model.specs.Channels.{Channel, ChannelSet, has, by_channel, place_or, numbers_below}
use Rattle.guards_model.specs.Missions.{MissionValue, IsMission, channels_of}
use Rattle.guards_model.specs.Controls.{control_decided}
use Rattle.guards_model.specs.Decisions.{DecisionValue}
use Rattle.guards_model.specs.Diagnosis.{judged_of, count_step}
use Rattle.guards_model.specs.Frames.{is_channel}
use Rattle.guards_model.specs.Modes.{ModeValue, up, down, waiting, joining}
use Rattle.guards_model.specs.Network.{Log}
use Rattle.guards_model.specs.Rounds.{Steps}
use Rattle.guards_model.specs.Texts.{LineValue}
use Rattle.guards_model.specs.Voting.{Ballots}
use Rattle.guards_model.proofs.AscendingLists.{set_parts}
use Rattle.guards_model.proofs.BoolTests.{both}
use Rattle.guards_model.specs.Slots.{stage_before}
use Rattle.guards_runs.specs.Cycles.{Past, Cycle, cycles_before, cycle_at, mode_in, decision_of}
use Rattle.guards_laws.proofs.CycleParts.{active-is, inputs-is, decision-is}
use Rattle.guards_laws.proofs.WithinChannels.{active_is_set, active_within, channels_few}
use Rattle.guards_nodes.specs.NodeStates.{NodeValue, RunningValue, JoinerValue}
use Rattle.guards_nodes.specs.NodeSteps.{kept_of, voted_by}
use Rattle.guards_world.specs.NodeFacts.{state_of_mode, running_value_in, joiner_in, state_in}
use Rattle.guards_world.specs.InCycle.{node_in}
use Rattle.guards_world.specs.WorldCycle.{IsLinePadded}
use Rattle.guards_nodes.specs.WholeLines.{whole_line}
use Rattle.guards_world.specs.NodeLists.{Bodies, ballots_arrived, line_in, vote_line}
use Rattle.guards_world.specs.Arrivals.{nodes_in}

-- ---- the end of a list

drop_front : {A : Type 0} (xs ys : List A) → drop (length xs) (xs ++ ys) ≡ ys
drop_front [] ys = refl
drop_front (x ∷ xs) ys = drop_front xs ys

end_of : {A : Type 0} (n : ℕ) (xs ys : List A) → length xs ≡ n → drop n (xs ++ ys) ≡ ys
end_of n xs ys h = ap (λ k. drop k (xs ++ ys)) (sym h) ∙ drop_front xs ys

all_zero : (xs : List ℕ) → AllByRecursion (λ x. x ≡ 0) xs → xs ≡ replicate (length xs) 0
all_zero [] h = refl
all_zero (x ∷ xs) h = ap (λ k. k ∷ xs) h.0 ∙ ap (λ (l : List ℕ). 0 ∷ l) (all_zero xs h.1)

-- a table that has 0 from a channel on
table_end : (n : ℕ) → n ≤ 7 → (f : Channel → ℕ) → ((q : Channel) → n ≤ q → f q ≡ 0) →
    drop n (by_channel f) ≡ replicate (7 - n) 0
unfolding by_channel
table_end zero low f h = all_zero (f 0 ∷ f 1 ∷ f 2 ∷ f 3 ∷ f 4 ∷ f 5 ∷ f 6 ∷ []) (
  h 0 (omega arith),
  (
    h 1 (omega arith),
    (h 2 (omega arith), (h 3 (omega arith), (h 4 (omega arith), (h 5 (omega arith), (h 6 (omega arith), tt))))),
  ),
)
table_end (suc zero) low f h =
    all_zero (f 1 ∷ f 2 ∷ f 3 ∷ f 4 ∷ f 5 ∷ f 6 ∷ []) (
      h 1 (omega arith),
      (
        h 2 (omega arith),
        (h 3 (omega arith), (h 4 (omega arith), (h 5 (omega arith), (h 6 (omega arith), tt)))),
      ),
    )
table_end (suc (suc zero)) low f h =
    all_zero (f 2 ∷ f 3 ∷ f 4 ∷ f 5 ∷ f 6 ∷ [])
    (h 2 (omega arith), (h 3 (omega arith), (h 4 (omega arith), (h 5 (omega arith), (h 6 (omega arith), tt)))))
table_end (suc (suc (suc zero))) low f h =
    all_zero (f 3 ∷ f 4 ∷ f 5 ∷ f 6 ∷ [])
    (h 3 (omega arith), (h 4 (omega arith), (h 5 (omega arith), (h 6 (omega arith), tt))))
table_end (suc (suc (suc (suc zero)))) low f h =
    all_zero (f 4 ∷ f 5 ∷ f 6 ∷ []) (h 4 (omega arith), (h 5 (omega arith), (h 6 (omega arith), tt)))
table_end (suc (suc (suc (suc (suc zero))))) low f h =
    all_zero (f 5 ∷ f 6 ∷ []) (h 5 (omega arith), (h 6 (omega arith), tt))
table_end (suc (suc (suc (suc (suc (suc zero)))))) low f h = all_zero (f 6 ∷ []) (h 6 (omega arith), tt)
table_end (suc (suc (suc (suc (suc (suc (suc zero))))))) low f h = refl
table_end (suc (suc (suc (suc (suc (suc (suc (suc n)))))))) low f h = absurd (omega (arith, low))

-- ---- a line

zero_at : (b : Bool) (k : ℕ) → (b ≡ true → ⊥) → cond b k 0 ≡ 0
zero_at true k h = absurd (h refl)
zero_at false k h = refl

one_more : (P : LineValue → Type 0) (line : Option LineValue) (rest : List LineValue) → IfSome line P →
    AllByRecursion P rest → AllByRecursion P (cons_option line rest)
one_more P (Some l) rest h k = (h, k)
one_more P None rest h k = k

each_of : (P : LineValue → Type 0) (f : NodeValue → Option LineValue) (a : Channel → NodeValue) →
    ((q : Channel) → q < 7 → IfSome (f (a q)) P) →
    (qs : ChannelSet) → list_all is_channel qs ≡ true → AllByRecursion P (filter_map f (map a qs))
each_of P f a here [] low = tt
each_of P f a here (q ∷ qs) low =
    let parts = both (is_channel q) (list_all is_channel qs) low in
    one_more P (f (a q)) (filter_map f (map a qs)) (here q (leb-true (suc q) 7 parts.0)) (each_of P f a here qs parts.1)

-- a node tells a line where it runs
padded_by : (M : MissionValue) (got : Bodies) (q : Channel) (r : RunningValue) (j : JoinerValue) (mode : ModeValue) →
    IfSome (option_map (λ d. whole_line q M.outputs r d (ballots_arrived got q)) r.progress.decided) (IsLinePadded M) →
    IfSome (line_in M got q (state_of_mode r j mode)) (IsLinePadded M)
padded_by M got q r j up h = h
padded_by M got q r j down h = tt
padded_by M got q r j (waiting n) h = tt
padded_by M got q r j joining h = tt

module _ (M : MissionValue) (L : Log) (n : ℕ) (steps : Steps) (mission : IsMission M) where
  abbrev past : Past
  past = cycles_before M L n

  abbrev e : Cycle
  e = cycle_at M L n

  wide : length e.inputs ≡ M.width
  wide = ap length (inputs-is M L past) ∙ length-map (numbers_below M.width) _ ∙ length-range_with_len 0 M.width

  -- the count of a channel that the mission does not have is 0
  counts_end : drop M.rules.channels e.counts ≡ replicate (7 - M.rules.channels) 0
  unfolding decision_of
  counts_end =
      ap (λ (d : DecisionValue). drop M.rules.channels d.counts) (decision-is M L past)
      ∙ table_end M.rules.channels (channels_few M mission)
      (λ q. cond (has e.opening.active q)
      (count_step M.rules.law M.rules.keep M.rules.decrement (has (judged_of e.opening.active e.agreed) q)
      (place_or e.opening.counts_before q 0)) 0)
      (λ q high. zero_at (has e.opening.active q) _ (λ there.
      omega (arith, high, active_within M L n q (ap (λ (s : ChannelSet). has s q) (sym (active-is M L past)) ∙ there))))

  padded : (q : Channel) (ballots : Ballots) →
      IsLinePadded M (whole_line q M.outputs (running_value_in M past e steps (stage_before Vote) q)
      (kept_of e.decision e.inputs) ballots)
  unfolding control_decided
  padded q ballots =
      let r : RunningValue = running_value_in M past e steps (stage_before Vote) q in
      record {
        inputs = end_of M.width e.inputs (replicate (4 - length e.inputs) (pos 0)) wide
            ∙ ap (λ k. replicate (4 - k) (pos 0)) wide;
        votes = end_of (length M.outputs) (voted_by q M.outputs ballots r) (replicate (8 - length M.outputs) None)
            (length-map (numbers_below (length M.outputs)) _ ∙ length-range_with_len 0 (length M.outputs));
        counts = counts_end;
      }

  padded_at : (got : Bodies) (q : Channel) → q < 7 →
      IfSome (vote_line M got (node_in M L n steps Vote (stage_before Vote) q)) (IsLinePadded M)
  unfolding state_in
  padded_at got q low = padded_by M got q (running_value_in M past e steps (stage_before Vote) q)
      (joiner_in M past e (stage_before Vote) q) (mode_in e q Vote) (padded q (ballots_arrived got q))

  pub all_padded : (got : Bodies) →
      AllByRecursion (IsLinePadded M) (filter_map (vote_line M got) (nodes_in M L n steps Vote (stage_before Vote)))
  all_padded got =
      each_of (IsLinePadded M) (vote_line M got) (node_in M L n steps Vote (stage_before Vote)) (padded_at got)
      (channels_of M)
      (set_parts (channels_of M) (active_is_set M [] mission)).0
