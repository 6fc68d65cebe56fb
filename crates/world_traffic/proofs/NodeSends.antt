-- What one node sends, to all receivers alike or to each target.
use Rattle.std.proofs.Common.{◌≡◌, ℕ, zero, suc, ◌<◌, ◌+◌, Bool, true, false, cond, not, ◌&&◌, List, [], ◌∷◌, ◌++◌, length, take, drop, get_or, map, Option, Some, None, refl, sym, ap, subst, ◌∙◌, arith}
use Rattle.std.specs.Prelude.{IsTrue, IfSome, filter, filter_map, option_map, option_and_then}
use Rattle.std.specs.List.{cons_option}
use Rattle.std.proofs.lemmas.List.{append-nil, take_more, take-append-drop}
use Rattle.std.proofs.lemmas.List.Elements.{filter-append, filter_map-append}
use Rattle.guards_model.specs.declared.Slot.{Slot}
use Rattle.guards_model.specs.declared.Slot.TheVariants.{Request, Round1, Round2, Round3, Tasks, Vote, Sweep, Final, Switch, Output}
use Rattle.guards_model.specs.Channels.{Channel, ChannelSet, has, union, without, every_channel, channels_where}
use Rattle.guards_model.specs.Missions.{MissionValue, RulesValue}
use Rattle.guards_model.specs.Frames.{BodyValue, sweep_body, final_body, FrameValue, between, is_channel, fits_u32, body_in_range, in_range}
use Rattle.guards_model.specs.Controls.{SweepingValue, ClosedValue, word_of_control}
use Rattle.guards_runs.specs.Due.{copy_from}
use Rattle.guards_model.proofs.BoolTests.{both, differ}
use Rattle.guards_nodes.specs.NodeStates.{NodeValue, StateValue, running, fallen, resting, returning, RunningValue, WorkedValue}
use Rattle.guards_nodes.specs.NodeSteps.{Received}
use Rattle.guards_nodes.specs.NodeFrames.{framed, sweep_to, final_to}
use Rattle.guards_world.specs.OwedFrames.{body_of}
use Rattle.guards_world.specs.SlotSends.{SendValue, frame_by, send_by, send_to, sends_of, sends_by, has_targets}

-- the set of one channel
pub single_set : (t : ℕ) → t < 7 → union [] (t ∷ []) ≡ t ∷ []
unfolding channels_where
single_set zero h = refl
single_set (suc zero) h = refl
single_set (suc (suc zero)) h = refl
single_set (suc (suc (suc zero))) h = refl
single_set (suc (suc (suc (suc zero)))) h = refl
single_set (suc (suc (suc (suc (suc zero))))) h = refl
single_set (suc (suc (suc (suc (suc (suc zero)))))) h = refl
single_set (suc (suc (suc (suc (suc (suc (suc t))))))) h = absurd (omega (arith, h))

-- without targets the receiver is of no account
pub for_all : (M : MissionValue) (received : Received) (slot : Slot) (to other : ℕ) (state : StateValue) →
    has_targets slot ≡ false →
    body_of M received slot to state ≡ body_of M received slot other state
for_all M received Request to other state h = refl
for_all M received Round1 to other state h = refl
for_all M received Round2 to other state h = refl
for_all M received Round3 to other state h = refl
for_all M received Tasks to other state h = refl
for_all M received Vote to other state h = refl
for_all M received Sweep to other state h = absurd cc
for_all M received Final to other state h = absurd cc
for_all M received Switch to other state h = refl
for_all M received Output to other state h = refl

module _ (M : MissionValue) (c : ℕ) (slot : Slot) (received : Received) (node : NodeValue) where
  abbrev owes : ℕ → Option BodyValue
  owes to = body_of M received slot to node.state

  abbrev sends : List ℕ → List SendValue
  sends xs = filter_map (send_to M c slot received node) xs

  none_sent : (xs : List ℕ) → ((to : ℕ) → owes to ≡ None) → [] ≡ sends xs
  none_sent [] h = refl
  none_sent (x ∷ xs) h = none_sent xs h
      ∙ ap (λ (o : Option BodyValue). cons_option (option_map (send_by c slot node x) o) (sends xs)) (sym (h x))

  body_sent : (body : BodyValue) (xs : List ℕ) → ((to : ℕ) → owes to ≡ Some body) →
      map (λ to. send_by c slot node to body) xs ≡ sends xs
  body_sent body [] h = refl
  body_sent body (x ∷ xs) h =
      ap (λ (l : List SendValue). send_by c slot node x body ∷ l) (body_sent body xs h)
      ∙ ap (λ (o : Option BodyValue). cons_option (option_map (send_by c slot node x) o) (sends xs)) (sym (h x))

  by_body : (rs : List ℕ) (o : Option BodyValue) → ((to : ℕ) → owes to ≡ o) →
      sends_by c slot rs (framed node c o) ≡ sends_of M c slot rs received node
  by_body rs None h = none_sent (without rs (node.channel ∷ [])) h
  by_body rs (Some body) h = body_sent body (without rs (node.channel ∷ [])) h

  -- without targets each receiver gets the same frame
  pub sends_alike : (rs : List ℕ) (t : ℕ) → has_targets slot ≡ false →
      sends_by c slot rs (framed node c (owes t)) ≡ sends_of M c slot rs received node
  sends_alike rs t untargeted = by_body rs (owes t) (λ to. for_all M received slot to t node.state untargeted)

  none_one : (t : ℕ) (b : Bool) → owes t ≡ None → [] ≡ sends (cond b (t ∷ []) [])
  none_one t true h = ap (λ (o : Option BodyValue). cons_option (option_map (send_by c slot node t) o) []) (sym h)
  none_one t false h = refl

  body_one : (t : ℕ) (body : BodyValue) (b : Bool) → owes t ≡ Some body →
      map (λ to. send_by c slot node to body) (cond b (t ∷ []) []) ≡ sends (cond b (t ∷ []) [])
  body_one t body true h = ap (λ (o : Option BodyValue). cons_option (option_map (send_by c slot node t) o) []) (sym h)
  body_one t body false h = refl

  by_target : (t : ℕ) (o : Option BodyValue) → owes t ≡ o →
      sends_by c slot (t ∷ []) (framed node c o) ≡ sends_of M c slot (t ∷ []) received node
  by_target t None h = none_one t (not (has (node.channel ∷ []) t)) h
  by_target t (Some body) h = body_one t body (not (has (node.channel ∷ []) t)) h

  -- a target gets its frame
  pub sends_to_target : (t : ℕ) →
      sends_by c slot (t ∷ []) (framed node c (owes t)) ≡ sends_of M c slot (t ∷ []) received node
  sends_to_target t = by_target t (owes t) refl

  -- some receivers, and then others
  pub sends_append : (xs ys : List ℕ) →
      sends_of M c slot xs received node ++ sends_of M c slot ys received node
      ≡ sends_of M c slot (xs ++ ys) received node
  sends_append xs ys =
      sym (filter_map-append (send_to M c slot received node) (without xs (node.channel ∷ []))
      (without ys (node.channel ∷ [])))
      ∙ ap sends (sym (filter-append (λ q. not (has (node.channel ∷ []) q)) xs ys))

  -- what is sent to those of these channels that are targets
  abbrev to_targets : ChannelSet → List ℕ → List SendValue
  to_targets set ts = sends_of M c slot (filter (has set) ts) received node

  abbrev targets_and : ChannelSet → List ℕ → Bool → ℕ → List SendValue
  targets_and set ts b t = sends_of M c slot (filter (has set) ts ++ cond b (t ∷ []) []) received node

  -- one channel more, which is a target
  pub target_sent : (set one : ChannelSet) (ts : List ℕ) (t : ℕ) → has set t ≡ true → one ≡ t ∷ [] →
      to_targets set ts ++ sends_by c slot one (framed node c (owes t)) ≡ to_targets set (ts ++ t ∷ [])
  target_sent set one ts t there alone =
      ap (λ (l : List ℕ). to_targets set ts ++ sends_by c slot l (framed node c (owes t))) alone
      ∙ ap (λ (l : List SendValue). to_targets set ts ++ l) (sends_to_target t)
      ∙ sends_append (filter (has set) ts) (t ∷ [])
      ∙ ap (λ (b : Bool). targets_and set ts b t) (sym there)
      ∙ ap (λ (l : List ℕ). sends_of M c slot l received node) (sym (filter-append (has set) ts (t ∷ [])))

  -- or is none
  pub other_passed : (set : ChannelSet) (ts : List ℕ) (t : ℕ) → has set t ≡ false →
      to_targets set ts ≡ to_targets set (ts ++ t ∷ [])
  other_passed set ts t absent =
      ap (λ (l : List ℕ). sends_of M c slot l received node) (sym (append-nil (filter (has set) ts)))
      ∙ ap (λ (b : Bool). targets_and set ts b t) (sym absent)
      ∙ ap (λ (l : List ℕ). sends_of M c slot l received node) (sym (filter-append (has set) ts (t ∷ [])))

  -- the targets among the channels before one of them, which is a target, that one, and those after it
  pub with_later_targets : (set one : ChannelSet) (ts : List ℕ) (i t : ℕ) → i < length ts → t ≡ get_or ts i t →
      has set t ≡ true → one ≡ t ∷ [] →
      (to_targets set (take i ts) ++ sends_by c slot one (framed node c (owes t))) ++ to_targets set (drop (i + 1) ts)
      ≡ to_targets set ts
  with_later_targets set one ts i t low is there alone =
      let later = drop (i + 1) ts in
      let next : take i ts ++ t ∷ [] ≡ take (i + 1) ts =
      ap (λ (x : ℕ). take i ts ++ x ∷ []) is ∙ sym (take_more ts i t low) in
      ap (λ (l : List SendValue). l ++ to_targets set later) (target_sent set one (take i ts) t there alone
      ∙ ap (λ (l : List ℕ). to_targets set l) next)
      ∙ sends_append (filter (has set) (take (i + 1) ts)) (filter (has set) later)
      ∙ ap (λ (l : List ℕ). sends_of M c slot l received node) (sym (filter-append (has set) (take (i + 1) ts) later))
      ∙ ap (λ (l : List ℕ). to_targets set l) (take-append-drop (i + 1) ts)

  pub all_targets : (set all : ChannelSet) → set ≡ channels_where (has set) → all ≡ every_channel →
      sends_of M c slot (filter (has set) all) received node ≡ sends_of M c slot set received node
  unfolding channels_where
  all_targets set all is every =
      ap (λ (l : List ℕ). sends_of M c slot (filter (has set) l) received node) every
      ∙ ap (λ (l : List ℕ). sends_of M c slot l received node) (sym is)

  -- the frame that is owed, by the cycle and the slot of the traffic
  pub frame_owed : (to cyc : ℕ) (place : Slot) (frame : Option FrameValue) → cyc ≡ c → place ≡ slot →
      frame ≡ framed node cyc (body_of M received place to node.state) → frame ≡ framed node c (owes to)
  frame_owed to cyc place frame now here is =
      is ∙ ap (λ (k : ℕ). framed node k (body_of M received place to node.state)) now
      ∙ ap (λ (s : Slot). framed node c (body_of M received s to node.state)) here

  -- it has a spelling
  pub owed_fits : (to cyc : ℕ) (place : Slot) (frame : Option FrameValue) →
      ((to : ℕ) (body : BodyValue) → owes to ≡ Some body → in_range (frame_by c node body) ≡ true) →
      cyc ≡ c → place ≡ slot → frame ≡ framed node cyc (body_of M received place to node.state) →
      IfSome frame (λ f. IsTrue (in_range f))
  owed_fits to cyc place frame fits now here is =
      subst (λ (f : Option FrameValue). IfSome f (λ f. IsTrue (in_range f)))
      (sym (frame_owed to cyc place frame now here is)) (by_owed (owes to) refl)
    where
      by_owed : (o : Option BodyValue) → owes to ≡ o → IfSome (framed node c o) (λ f. IsTrue (in_range f))
      by_owed None h = tt
      by_owed (Some body) h = fits to body h

-- ---- no target is the switchboard

abbrev HasNoTarget : Option BodyValue → Type 0
HasNoTarget o = (version : ℕ) (q : Channel) (body : BodyValue) → o ≡ Some body → body_in_range version q body ≡ true → ⊥

nothing_owed : HasNoTarget None
nothing_owed version q body h k = absurd cc

same_body : (a b : BodyValue) → Some a ≡ Some b → a ≡ b
same_body a b h = cc

sweep_outside : (s : Option SweepingValue) (w : Option WorkedValue) → HasNoTarget (sweep_to 7 s w)
sweep_outside None None = nothing_owed
sweep_outside None (Some w) = nothing_owed
sweep_outside (Some s) None = nothing_owed
sweep_outside (Some s) (Some w) = by_target (has s.transfer.targets 7)
  where
    by_target : (b : Bool) → HasNoTarget
        (cond b (Some (sweep_body (record { target = 7; start = s.transfer.start; copies = w.copies }))) None)
    by_target true version q body h k =
        differ (sym (subst (λ (x : BodyValue). body_in_range version q x ≡ true)
        (sym (same_body (sweep_body (record { target = 7; start = s.transfer.start; copies = w.copies })) body h))
        k))
    by_target false version q body h k = absurd cc

final_outside : (rules : RulesValue) (r : RunningValue) (o : Option ClosedValue) →
    HasNoTarget (option_and_then (final_to rules 7 r) o)
final_outside rules r None = nothing_owed
final_outside rules r (Some closed) = by_target (has closed.joined 7)
  where
    last : BodyValue
    last = final_body (record {
      target = 7;
      start = closed.start;
      copies = map (copy_from r.context) closed.rest;
      control = word_of_control rules r.control;
    })

    by_target : (b : Bool) → HasNoTarget (cond b (Some last) None)
    by_target true version q body h k =
        differ (sym (subst (λ (x : BodyValue). body_in_range version q x ≡ true) (sym (same_body last body h)) k))
    by_target false version q body h k = absurd cc

outside : (M : MissionValue) (received : Received) (slot : Slot) (state : StateValue) → has_targets slot ≡ true →
    HasNoTarget (body_of M received slot 7 state)
outside M received Request state h = absurd cc
outside M received Round1 state h = absurd cc
outside M received Round2 state h = absurd cc
outside M received Round3 state h = absurd cc
outside M received Tasks state h = absurd cc
outside M received Vote state h = absurd cc
outside M received Sweep (running r) h = sweep_outside r.control.sweeping r.worked
outside M received Sweep fallen h = nothing_owed
outside M received Sweep resting h = nothing_owed
outside M received Sweep (returning j) h = nothing_owed
outside M received Final (running r) h = final_outside M.rules r r.closed
outside M received Final fallen h = nothing_owed
outside M received Final resting h = nothing_owed
outside M received Final (returning j) h = nothing_owed
outside M received Switch state h = absurd cc
outside M received Output state h = absurd cc

-- where frames have targets, what was received is of no account
same_received : (M : MissionValue) (received other : Received) (slot : Slot) (to : ℕ) (state : StateValue) →
    has_targets slot ≡ true →
    body_of M received slot to state ≡ body_of M other slot to state
same_received M received other Request to state h = absurd cc
same_received M received other Round1 to state h = absurd cc
same_received M received other Round2 to state h = absurd cc
same_received M received other Round3 to state h = absurd cc
same_received M received other Tasks to state h = absurd cc
same_received M received other Vote to state h = absurd cc
same_received M received other Sweep to state h = refl
same_received M received other Final to state h = refl
same_received M received other Switch to state h = absurd cc
same_received M received other Output to state h = absurd cc

ranged : (c : ℕ) (node : NodeValue) (body : BodyValue) → in_range (frame_by c node body) ≡ true →
    body_in_range node.rules.version node.channel body ≡ true
ranged c node body h =
    let outer = both (between 1 2 node.rules.version)
    (is_channel node.channel && (fits_u32 c && body_in_range node.rules.version node.channel body)) h in
    let inner = both (is_channel node.channel) (fits_u32 c && body_in_range node.rules.version node.channel body)
    outer.1 in
    (both (fits_u32 c) (body_in_range node.rules.version node.channel body) inner.1).1

-- where frames have targets, nothing goes to the switchboard
pub none_outside : (M : MissionValue) (c : ℕ) (slot : Slot) (received other : Received) (node : NodeValue) →
    has_targets slot ≡ true →
    ((to : ℕ) (body : BodyValue) → body_of M other slot to node.state ≡ Some body →
    in_range (frame_by c node body) ≡ true) →
    [] ≡ sends_of M c slot (7 ∷ []) received node
none_outside M c slot received other node targeted fits = by_owed (body_of M received slot 7 node.state) refl
  where
    by_owed : (o : Option BodyValue) → body_of M received slot 7 node.state ≡ o →
        [] ≡ sends_of M c slot (7 ∷ []) received node
    by_owed None h = ap (λ (o : Option FrameValue). sends_by c slot (7 ∷ []) o) (ap (framed node c) (sym h))
        ∙ sends_to_target M c slot received node 7
    by_owed (Some body) h =
        absurd (outside M received slot node.state targeted node.rules.version node.channel body h
        (ranged c node body (fits 7 body (sym (same_received M received other slot 7 node.state targeted) ∙ h))))
