-- The world at its start, when it enters a cycle, and when it enters a slot.
use Rattle.std.proofs.Common.{◌≡◌, ℕ, ◌<◌, Bool, true, false, cond, ◌&&◌, nat_lt, List, [], ◌∷◌, ◌++◌, None, All, map, length, filter, refl, sym, ap, subst, ◌∙◌}
use Rattle.std.proofs.lemmas.Bool.{ltb-true, lt-ltb}
use Rattle.std.proofs.Math.Bool.{and-false}
use Rattle.std.proofs.lemmas.List.{append-nil, length-map}
use Rattle.std.proofs.lemmas.List.FromFn.{length-range_with_len}
use Rattle.guards_model.specs.declared.Slot.{Slot}
use Rattle.guards_model.specs.declared.Slot.TheVariants.{Request}
use Rattle.guards_model.specs.Slots.{up_to, on_bus, stage_after, stage_before}
use Rattle.guards_model.specs.Channels.{Channel, ChannelSet, has, numbers_below, every_channel, by_channel, channels_where}
use Rattle.guards_model.specs.Missions.{MissionValue, channels_of}
use Rattle.guards_model.specs.Modes.{ModeValue, up, down, is_up}
use Rattle.guards_model.specs.Network.{Log}
use Rattle.guards_model.specs.Rounds.{Steps}
use Rattle.guards_model.specs.Ledgers.{LedgerValue, first_ledger, ledger_at_start, ledger_in_slot, turned_joining, turned_down}
use Rattle.guards_model.proofs.BoolTests.{clear}
use Rattle.guards_model.proofs.NumbersBelow.{below_there}
use Rattle.dirty_tags.proofs.MarkedLists.{below_of}
use Rattle.guards_runs.specs.Cycles.{Past, Cycle, cycles_before, cycle_at}
use Rattle.guards_laws.proofs.LogGrows.{length-cycles_before}
use Rattle.guards_nodes.specs.NodeCalls.{first_node}
use Rattle.guards_nodes.specs.NodeStates.{NodeValue}
use Rattle.guards_world.specs.NodeFacts.{ledger_at}
use Rattle.guards_world.specs.SlotSteps.{begins_to_join}
use Rattle.guards_world.specs.Worlds.{WorldValue, StandsForWorld}
use Rattle.guards_world.specs.InCycle.{InCycle, ledger_in}
use Rattle.guards_world.specs.Passing.{world_in}
use Rattle.world_laws.proofs.LedgerFollows.{begins, enters, goes_on}
use Rattle.world_laws.proofs.SlotsEntered.{enters_cycle, enters_slot}
use Rattle.guards_world.specs.NodeLists.{Bodies, MayOpen, opened_with, fallen_if, with_requests}
use Rattle.guards_world.specs.Arrivals.{AreArrivals, nodes_in}
use Rattle.node_laws.proofs.OpenNodes.{all_may_open, all_opened, all_entered}
use Rattle.node_laws.proofs.SlotNodes.{all_fell, all_heard}

-- ---- the start

pub below_by : (n q : ℕ) (b : Bool) → nat_lt q n ≡ b → has (numbers_below n) q ≡ b
below_by n q true h = below_there n q (ltb-true q n h)
below_by n q false h = clear (has (numbers_below n) q) (λ there. sym (lt-ltb q n (below_of n q there)) ∙ h)

mode_is : (M : MissionValue) (q : ℕ) →
    cond (nat_lt q M.rules.channels) up down ≡ cond (has (numbers_below M.rules.channels) q) up down
mode_is M q = ap (λ b. cond b up down) (sym (below_by M.rules.channels q (nat_lt q M.rules.channels) refl))

none_marked : (M : MissionValue) (qs : ChannelSet) →
    [] ≡ filter (λ q. is_up (cond (has (numbers_below M.rules.channels) q) up down) && false) qs
none_marked M [] = refl
none_marked M (q ∷ qs) =
    none_marked M qs
    ∙ ap (λ b. cond b (q ∷ filter (λ p. is_up (cond (has (numbers_below M.rules.channels) p) up down) && false) qs)
    (filter (λ p. is_up (cond (has (numbers_below M.rules.channels) p) up down) && false) qs))
    (sym (and-false (is_up (cond (has (numbers_below M.rules.channels) q) up down))))

modes_are : (M : MissionValue) (qs : ChannelSet) →
    map (λ q. cond (nat_lt q M.rules.channels) up down) qs
    ≡ map (λ q. cond (has (numbers_below M.rules.channels) q) up down) qs
modes_are M [] = refl
modes_are M (q ∷ qs) =
    ap (λ (m : ModeValue). m ∷ map (λ p. cond (nat_lt p M.rules.channels) up down) qs) (mode_is M q)
    ∙ ap (λ (ms : List ModeValue). cond (has (numbers_below M.rules.channels) q) up down ∷ ms) (modes_are M qs)

-- there are as many nodes as channels
pub first_count : (M : MissionValue) (nodes : List NodeValue) → nodes ≡ map (first_node M) (channels_of M) →
    length nodes ≡ M.rules.channels
first_count M nodes are = ap length are ∙ length-map (channels_of M) _ ∙ length-range_with_len 0 M.rules.channels

pub first_ledger_is : (M : MissionValue) → first_ledger M.rules.channels M.return_after ≡ ledger_at M []
unfolding by_channel channels_where
first_ledger_is M =
    ap (λ (ms : List ModeValue). record { return_after = M.return_after; modes = ms; damaged = [] })
    (modes_are M every_channel)
    ∙ ap (λ (d : ChannelSet).
    record {
      return_after = M.return_after;
      modes = map (λ q. cond (has (numbers_below M.rules.channels) q) up down) every_channel;
      damaged = d;
    })
    (none_marked M every_channel)

-- ---- the start of a cycle

pub opened_world : (w : WorldValue) (L : Log) (steps : Steps) (ledger last : LedgerValue) (newcomers fell : ChannelSet)
    (nodes left : List NodeValue) →
    StandsForWorld w L →
    ledger ≡ ledger_at_start w.mission.script w.done w.ledger → newcomers ≡ turned_joining w.ledger ledger →
    nodes ≡ map (opened_with w.mission w.done newcomers) w.nodes →
    last ≡ ledger_in_slot w.mission.script w.done Request ledger → fell ≡ turned_down ledger last →
    left ≡ map (fallen_if fell) nodes →
    record w { nodes = left; ledger = last } ≡ world_in w.mission L steps Request 0 w
opened_world w L steps ledger last newcomers fell nodes left stands l1 j n1 l2 d n2 =
    let M = w.mission in
    let n = w.done in
    let past : Past = cycles_before M L n in
    let e : Cycle = cycle_at M L n in
    let size : length past ≡ n = length-cycles_before M L n in
    let first : ledger ≡ ledger_at_start M.script n (ledger_at M past) =
    l1 ∙ ap (ledger_at_start M.script n) stands.ledger in
    let next : last ≡ ledger_in M e Request =
    l2 ∙ ap (ledger_in_slot M.script n Request) first
    ∙ ap (λ (c : ℕ). ledger_in_slot M.script c Request (ledger_at_start M.script c (ledger_at M past))) (sym size)
    ∙ enters M L past in
    let joins : (q : Channel) → q < 7 → has newcomers q ≡ begins_to_join M past q = λ q low.
    ap (λ (s : ChannelSet). has s q) (j ∙ ap (λ (l : LedgerValue). turned_joining l ledger) stands.ledger
    ∙ ap (turned_joining (ledger_at M past))
    (first ∙ ap (λ (c : ℕ). ledger_at_start M.script c (ledger_at M past)) (sym size)))
    ∙ begins M L past q low in
    let opened = n1 ∙ all_opened M L n stands.mission steps w.nodes newcomers stands.nodes joins in
    let fallen_are : fell ≡ turned_down (ledger_at_start M.script n (ledger_at M past)) (ledger_in M e Request) =
    d ∙ ap (λ (l : LedgerValue). turned_down l last) first
    ∙ ap (turned_down (ledger_at_start M.script n (ledger_at M past))) next in
    let entered : left ≡ nodes_in M L n steps Request (stage_before Request) =
    n2 ∙ ap (λ (s : ChannelSet). map (fallen_if s) nodes) fallen_are
    ∙ ap (map (fallen_if (turned_down (ledger_at_start M.script n (ledger_at M past)) (ledger_in M e Request)))) opened
    ∙ all_entered M L n stands.mission steps in
    ap (λ (ns : List NodeValue). record w { nodes = ns; ledger = last }) entered
    ∙ ap (λ (l : LedgerValue). record w { nodes = nodes_in M L n steps Request (stage_before Request); ledger = l })
    next

-- ---- a slot

pub entered_world : (w : WorldValue) (earlier current : Log) (steps : Steps) (before slot : Slot) (carried handed : ℕ)
    (last : LedgerValue) (fell : ChannelSet) (left : List NodeValue) →
    InCycle w.mission earlier current steps before carried handed w → up_to before slot ≡ true → on_bus slot ≡ true →
    last ≡ ledger_in_slot w.mission.script w.done slot w.ledger → fell ≡ turned_down w.ledger last →
    left ≡ map (fallen_if fell) w.nodes →
    record w { nodes = left; ledger = last } ≡ world_in w.mission (earlier ++ current) steps slot handed w
entered_world w earlier current steps before slot carried handed last fell left inside soon on l d n =
    let M = w.mission in
    let all : Log = earlier ++ current in
    let e : Cycle = cycle_at M all w.done in
    let size : length (cycles_before M all w.done) ≡ w.done = length-cycles_before M all w.done in
    let next : last ≡ ledger_in M e slot =
    l ∙ ap (ledger_in_slot M.script w.done slot) inside.ledger
    ∙ ap (λ (c : ℕ). ledger_in_slot M.script c slot (ledger_in M e before)) (sym size)
    ∙ goes_on M all (cycles_before M all w.done) before slot soon on in
    let fallen_are : fell ≡ turned_down (ledger_in M e before) (ledger_in M e slot) =
    d ∙ ap (λ (x : LedgerValue). turned_down x last) inside.ledger ∙ ap (turned_down (ledger_in M e before)) next in
    let stay : left ≡ nodes_in M all w.done steps slot handed =
    n ∙ ap (λ (s : ChannelSet). map (fallen_if s) w.nodes) fallen_are
    ∙ ap (map (fallen_if (turned_down (ledger_in M e before) (ledger_in M e slot)))) inside.nodes
    ∙ all_fell M all w.done steps before slot handed inside.ranges soon on in
    ap (λ (ns : List NodeValue). record w { nodes = ns; ledger = last }) stay
    ∙ ap (λ (x : LedgerValue). record w { nodes = nodes_in M all w.done steps slot handed; ledger = x }) next

-- the nodes alone are those of a slot handed over
pub handed_world : (w : WorldValue) (earlier current : Log) (steps : Steps) (slot : Slot) (carried handed more : ℕ)
    (left : List NodeValue) →
    InCycle w.mission earlier current steps slot carried handed w →
    left ≡ nodes_in w.mission (earlier ++ current) w.done steps slot more →
    record w { nodes = left } ≡ world_in w.mission (earlier ++ current) steps slot more w
handed_world w earlier current steps slot carried handed more left inside n =
    ap (λ (ns : List NodeValue). record w { nodes = ns }) n
    ∙ ap (λ (x : LedgerValue).
    record w { nodes = nodes_in w.mission (earlier ++ current) w.done steps slot more; ledger = x }) inside.ledger

-- ---- the calls

-- the nodes of a world for which a log stands may open a cycle
pub may_open_by : (old w : WorldValue) → w ≡ old → (L : Log) × StandsForWorld old L → All (MayOpen w.mission) w.nodes
may_open_by old w same held =
    let stands : StandsForWorld w held.0 = subst (λ (x : WorldValue). StandsForWorld x held.0) (sym same) held.1 in
    all_may_open w.mission held.0 w.done stands.mission (channels_of w.mission) w.nodes stands.nodes

-- a world that has begun a cycle is within it
pub opens_by : (old w : WorldValue) (L : Log) (steps : Steps) (ledger last : LedgerValue) (newcomers fell : ChannelSet)
    (nodes left : List NodeValue) →
    w ≡ old → StandsForWorld old L → old.done < old.mission.cycles → old.spent ≡ None →
    ledger ≡ ledger_at_start w.mission.script w.done w.ledger → newcomers ≡ turned_joining w.ledger ledger →
    nodes ≡ map (opened_with w.mission w.done newcomers) w.nodes →
    last ≡ ledger_in_slot w.mission.script w.done Request ledger → fell ≡ turned_down ledger last →
    left ≡ map (fallen_if fell) nodes →
    InCycle old.mission L [] steps Request (stage_before Request) (stage_before Request)
    (record w { nodes = left; ledger = last })
opens_by old w L steps ledger last newcomers fell nodes left same held below unspent l1 j n1 l2 d n2 =
    let stands : StandsForWorld w L = subst (λ (x : WorldValue). StandsForWorld x L) (sym same) held in
    let longer : StandsForWorld w (L ++ []) = subst (λ (x : Log). StandsForWorld w x) (sym (append-nil L)) stands in
    let inside = enters_cycle w L steps stands (subst (λ (x : WorldValue). x.done < x.mission.cycles) (sym same) below)
    (ap (λ (x : WorldValue). x.spent) same ∙ unspent) in
    let made = opened_world w (L ++ []) steps ledger last newcomers fell nodes left longer l1 j n1 l2 d n2 in
    subst (λ (M : MissionValue).
    InCycle M L [] steps Request (stage_before Request) (stage_before Request)
    (record w { nodes = left; ledger = last })) (ap (λ (x : WorldValue). x.mission) same)
    (subst (λ (x : WorldValue). InCycle w.mission L [] steps Request (stage_before Request) (stage_before Request) x)
    (sym made) inside)

-- a world that has entered a slot is in it
pub enters_by : (old w : WorldValue) (earlier current : Log) (steps : Steps) (before slot : Slot) (carried handed : ℕ)
    (last : LedgerValue) (fell : ChannelSet) (left : List NodeValue) →
    w ≡ old → InCycle old.mission earlier current steps before carried handed old → up_to before slot ≡ true →
    on_bus slot ≡ true →
    last ≡ ledger_in_slot w.mission.script w.done slot w.ledger → fell ≡ turned_down w.ledger last →
    left ≡ map (fallen_if fell) w.nodes →
    InCycle old.mission earlier current steps slot carried handed (record w { nodes = left; ledger = last })
enters_by old w earlier current steps before slot carried handed last fell left same held soon on l d n =
    let inside : InCycle w.mission earlier current steps before carried handed w =
    subst (λ (x : WorldValue). InCycle x.mission earlier current steps before carried handed x) (sym same) held in
    let made = entered_world w earlier current steps before slot carried handed last fell left inside soon on l d n in
    subst (λ (M : MissionValue).
    InCycle M earlier current steps slot carried handed (record w { nodes = left; ledger = last }))
    (ap (λ (x : WorldValue). x.mission) same)
    (subst (λ (x : WorldValue). InCycle w.mission earlier current steps slot carried handed x) (sym made)
    (enters_slot w.mission earlier current steps before slot carried handed handed w inside))

-- a world whose nodes took what a slot carried is handed over
pub hands_by : (old w : WorldValue) (earlier current : Log) (steps : Steps) (slot : Slot) (carried handed more : ℕ)
    (left : List NodeValue) →
    w ≡ old → InCycle old.mission earlier current steps slot carried handed old →
    (InCycle w.mission earlier current steps slot carried handed w →
    left ≡ nodes_in w.mission (earlier ++ current) w.done steps slot more) →
    InCycle old.mission earlier current steps slot carried more (record w { nodes = left })
hands_by old w earlier current steps slot carried handed more left same held took =
    let inside : InCycle w.mission earlier current steps slot carried handed w =
    subst (λ (x : WorldValue). InCycle x.mission earlier current steps slot carried handed x) (sym same) held in
    let made = handed_world w earlier current steps slot carried handed more left inside (took inside) in
    subst (λ (M : MissionValue). InCycle M earlier current steps slot carried more (record w { nodes = left }))
    (ap (λ (x : WorldValue). x.mission) same)
    (subst (λ (x : WorldValue). InCycle w.mission earlier current steps slot carried more x) (sym made)
    (enters_slot w.mission earlier current steps slot slot carried handed more w inside))

-- the request slot
pub heard_by : (old w : WorldValue) (earlier current : Log) (steps : Steps) (got : Bodies) → w ≡ old →
    AreArrivals old.mission (earlier ++ current) old.done Request got →
    InCycle w.mission earlier current steps Request (stage_after Request) (stage_before Request) w →
    map (with_requests got) w.nodes ≡ nodes_in w.mission (earlier ++ current) w.done steps Request (stage_after Request)
heard_by old w earlier current steps got same are inside =
    ap (map (with_requests got)) inside.nodes
    ∙ all_heard w.mission (earlier ++ current) w.done steps got inside.ranges
    (subst (λ (x : WorldValue). AreArrivals x.mission (earlier ++ current) x.done Request got) (sym same) are)
