-- What was sent in a slot, and what a carry comes to.
use Rattle.std.proofs.Common.{◌≡◌, ℕ, zero, suc, ◌+◌, ◌≤◌, ◌<◌, ◌==◌, Bool, true, false, ◌||◌, ◌&&◌, List, [], ◌∷◌, ◌++◌, length, All, Result, Ok, Err, refl, sym, ap, subst, ◌∙◌, arith}
use Rattle.std.specs.Prelude.{take, OnOk, OnErr}
use Rattle.std.specs.List.{AllZip, AllByRecursion, list_any}
use Rattle.std.proofs.lemmas.Bool.{eqb-true}
use Rattle.guards_model.specs.declared.Slot.{Slot}
use Rattle.guards_model.specs.Slots.{slot_index}
use Rattle.guards_model.specs.BusRules.{RuleValue}
use Rattle.guards_model.specs.Channels.{Channel, ChannelSet, has, union, every_channel, channels_where}
use Rattle.guards_model.specs.Missions.{FormatValue, format_of}
use Rattle.guards_model.specs.Network.{EntryValue, Log, BusValue, TrafficValue}
use Rattle.guards_model.specs.Ledgers.{disturbed_by, limit_reached}
use Rattle.guards_model.specs.Rounds.{Steps}
use Rattle.guards_model.proofs.Tables.{has-channels_where}
use Rattle.guards_runs.specs.Disturbed.{is_charge}
use Rattle.guards_runs.specs.Due.{slot_carries}
use Rattle.guards_world.specs.Worlds.{WorldValue, facts_in}
use Rattle.guards_world.specs.WorldCycle.{Carries}
use Rattle.guards_world.specs.Passing.{world_carried}
use Rattle.world_laws.specs.Fronts.{IsRunFront}
use Rattle.slot_traffic.specs.Pieces.{ArrivedValue}
use Rattle.guards_world.specs.NodeLists.{AllReceived, StandsForReceived}
use Rattle.guards_world.specs.SlotSends.{SendValue, IsEntryOf, MaySend, SendsSlot, SendsFirstOfSlot, all_sends}
use Rattle.world_laws.proofs.Sending.{nodes_stand, nodes_may_send, sent_few}
use Rattle.world_laws.proofs.EntryCounts.{slot_fits, carried_fit}
use Rattle.fault_script.specs.declared.disturbance.Disturbance.{Disturbance}
use Rattle.icn_world.specs.declared.world.Halt.TheVariants.{Disturbed, NoMemory}
use Rattle.icn_world.specs.Sent.{received_in, HasSent}
use Rattle.icn_world.specs.Stages.{HaltsIn, MayCarry, HasArrived, PassesPart}
use Rattle.icn_world.proofs.Carried.{AreCharged, sweep_full, few_carried, all_carried, arrived, stopped}

-- ---- sending

-- some log, steps and disturbance for which the slot may be carried
abbrev pub MayCarrySome : Slot → List ℕ → WorldValue → Type 0
MayCarrySome slot to w = (earlier : Log) × (current : Log) × (steps : Steps) × (d : Disturbance)
    × MayCarry slot to earlier current steps w d

few_length : {A B : Type 0} (R : A → B → Type 0) (few : ℕ) (xs : List A) (ys : List B) → AllZip R (take few xs) ys →
    length ys ≤ length xs
few_length R zero xs [] z = omega arith
few_length R zero xs (y ∷ ys) z = absurd z
few_length R (suc few) [] [] z = omega arith
few_length R (suc few) [] (y ∷ ys) z = absurd z
few_length R (suc few) (x ∷ xs) [] z = omega arith
few_length R (suc few) (x ∷ xs) (y ∷ ys) z = omega (arith, few_length R few xs ys z.1)

all_of_them : {A : Type 0} (xs : List A) → take (length xs) xs ≡ xs
all_of_them [] = refl
all_of_them (x ∷ xs) = ap (λ l. x ∷ l) (all_of_them xs)

-- what the nodes need for sending
pub may_send_by : (old w : WorldValue) (slot : Slot) (to : List ℕ) (begun : TrafficValue) → w ≡ old →
    begun ≡ record { cycle = w.done; slot = slot; entries = [] } → MayCarrySome slot to old →
    (received : AllReceived) × All (StandsForReceived received) w.nodes
    × All (MaySend w.mission begun.cycle begun.slot received) w.nodes
may_send_by old w slot to begun same is held =
    let may : MayCarry slot to held.0 held.1 held.2 w held.3 =
    subst (λ (x : WorldValue). MayCarry slot to held.0 held.1 held.2 x held.3) (sym same) held.4 in (
      received_in (held.0 ++ held.1) slot w,
      nodes_stand w.mission held.0 held.1 held.2 slot w may.stands.inside,
      subst (λ (t : TrafficValue).
          All (MaySend w.mission t.cycle t.slot (received_in (held.0 ++ held.1) slot w)) w.nodes) (sym is)
          (nodes_may_send w.mission held.0 held.1 held.2 slot w may.stands.inside
          (sweep_full slot to held.0 held.1 held.2 w held.3 may)),
    )

module _ (may : List RuleValue → EntryValue → Type 0) (script after : List RuleValue) (log grown : Log) (slot : Slot)
    (to : List ℕ) (w : WorldValue)
    (begun traffic : TrafficValue) (begins : begun ≡ record { cycle = w.done; slot = slot; entries = [] }) where
  abbrev SendsAll : Type 0
  SendsAll = (received : AllReceived) → All (StandsForReceived received) w.nodes →
      SendsSlot may script log grown (all_sends w.mission begun.cycle begun.slot to received w.nodes) begun traffic

  abbrev SendsFew : Type 0
  SendsFew = (received : AllReceived) → All (StandsForReceived received) w.nodes →
      SendsFirstOfSlot may script log grown (all_sends w.mission begun.cycle begun.slot to received w.nodes) begun
      traffic

  -- the traffic has just these entries
  traffic_is : (current : Log) →
      traffic ≡ record { cycle = begun.cycle; slot = begun.slot; entries = begun.entries ++ current } →
      traffic ≡ record { cycle = w.done; slot = slot; entries = current }
  traffic_is current is = is
      ∙ ap (λ (t : TrafficValue). record { cycle = t.cycle; slot = t.slot; entries = t.entries ++ current }) begins

  entries_are : (current : Log) →
      traffic ≡ record { cycle = begun.cycle; slot = begun.slot; entries = begun.entries ++ current } →
      current ≡ traffic.entries
  entries_are current is = sym (ap (λ (t : TrafficValue). t.entries) (traffic_is current is))

  zipped : (sends : List SendValue) → SendsSlot may script log grown sends begun traffic →
      AllZip IsEntryOf sends traffic.entries
  zipped sends s = subst (λ (es : Log). AllZip IsEntryOf sends es) (entries_are s.now s.traffic) s.sent.each

  carries_by : (sends : List SendValue) → after ≡ script → SendsSlot may script log grown sends begun traffic →
      Carries may (record { log = log; script = script }) (record { log = grown; script = after }) traffic.entries
  carries_by sends same s =
      let is = entries_are s.now s.traffic in
      record {
        log = s.sent.grew ∙ ap (λ (es : Log). log ++ es) is;
        script = same;
        each = subst (λ (es : Log). AllByRecursion (may script) es) is s.sent.allowed;
      }

  -- the carries that a log names are those of the slot
  named : (received : AllReceived) (few : ℕ) →
      take few (all_sends w.mission begun.cycle begun.slot to received w.nodes)
      ≡ take few (all_sends w.mission w.done slot to received w.nodes)
  named received few = ap (λ (t : TrafficValue). take few (all_sends w.mission t.cycle t.slot to received w.nodes))
      begins

  all_named : (received : AllReceived) →
      all_sends w.mission begun.cycle begun.slot to received w.nodes
      ≡ all_sends w.mission w.done slot to received w.nodes
  all_named received = ap (λ (t : TrafficValue). all_sends w.mission t.cycle t.slot to received w.nodes) begins

  module _ (held : MayCarrySome slot to w) where
    abbrev all : Log
    all = held.0 ++ held.1

    stand : All (StandsForReceived (received_in all slot w)) w.nodes
    stand = nodes_stand w.mission held.0 held.1 held.2 slot w held.4.stands.inside

    small_few : (few : ℕ) → AllZip IsEntryOf
        (take few (all_sends w.mission w.done slot to (received_in all slot w) w.nodes)) traffic.entries →
        length traffic.entries ≤ 49
    small_few few z =
        let carried = sent_few w.mission held.0 held.1 traffic.entries held.2 slot to few w held.4.stands.inside
        (sweep_full slot to held.0 held.1 held.2 w held.3 held.4) held.4.receivers_are z in
        omega (
          arith,
          few_length _ few (slot_carries w.done (facts_in w all) slot) traffic.entries carried,
          slot_fits w.mission held.0 held.1 held.2 slot slot (slot_index slot) (slot_index slot) w
              held.4.stands.inside,
        )

    -- how many entries there are, however the sending ended
    pub sent_small : {A E : Type 0} (r : Result A E) →
        ((received : AllReceived) → All (StandsForReceived received) w.nodes →
        OnOk r (SendsSlot may script log grown (all_sends w.mission begun.cycle begun.slot to received w.nodes)
        begun traffic)) →
        ((received : AllReceived) → All (StandsForReceived received) w.nodes →
        OnErr r (SendsFirstOfSlot may script log grown
        (all_sends w.mission begun.cycle begun.slot to received w.nodes) begun traffic)) →
        length traffic.entries ≤ 49
    sent_small (Ok x) whole some =
        let sends = all_sends w.mission w.done slot to (received_in all slot w) w.nodes in
        small_few (length sends)
        (subst (λ (l : List SendValue). AllZip IsEntryOf l traffic.entries)
        (all_named (received_in all slot w) ∙ sym (all_of_them sends))
        (zipped (all_sends w.mission begun.cycle begun.slot to (received_in all slot w) w.nodes)
        (whole (received_in all slot w) stand)))
    sent_small (Err e) whole some =
        let s = some (received_in all slot w) stand in
        small_few s.few
        (subst (λ (l : List SendValue). AllZip IsEntryOf l traffic.entries) (named (received_in all slot w) s.few)
        (zipped (take s.few (all_sends w.mission begun.cycle begun.slot to (received_in all slot w) w.nodes))
        s.sends_few))

    pub counted_small : w.carried ≤ 1000000
    counted_small = carried_fit w.mission held.0 held.1 held.2 slot (slot_index slot) (slot_index slot) w
        held.4.stands.inside

    pub sent_whole_here : {E : Type 0} → after ≡ script → SendsAll →
        HasSent {E = E} may slot to (Ok traffic) w (world_carried (length traffic.entries) w)
        (record { log = log; script = script }) (record { log = grown; script = after })
    sent_whole_here same sends =
        let s = sends (received_in all slot w) stand in
        record {
          entries = traffic.entries;
          carries = carries_by (all_sends w.mission begun.cycle begun.slot to (received_in all slot w) w.nodes) same s;
          world = refl;
          sent = λ earlier current steps d m.
              let t = sends (received_in (earlier ++ current) slot w)
              (nodes_stand w.mission earlier current steps slot w m.stands.inside) in (
                traffic_is t.now t.traffic
                    ∙ ap (λ (es : Log). record { cycle = w.done; slot = slot; entries = es })
                    (entries_are t.now t.traffic),
                subst (λ (l : List SendValue). AllZip IsEntryOf l traffic.entries)
                    (all_named (received_in (earlier ++ current) slot w))
                    (zipped (all_sends w.mission begun.cycle begun.slot to (received_in (earlier ++ current) slot w)
                    w.nodes) t),
              );
        }

    pub sent_few_here : {E : Type 0} (error : E) → after ≡ script → SendsFew →
        HasSent {E = E} may slot to (Err error) w (world_carried (length traffic.entries) w)
        (record { log = log; script = script }) (record { log = grown; script = after })
    sent_few_here error same sends =
        let s = sends (received_in all slot w) stand in
        record {
          entries = traffic.entries;
          carries = carries_by (take s.few
              (all_sends w.mission begun.cycle begun.slot to (received_in all slot w) w.nodes)) same s.sends_few;
          world = refl;
          sent = λ earlier current steps d m.
              let t = sends (received_in (earlier ++ current) slot w)
              (nodes_stand w.mission earlier current steps slot w m.stands.inside) in (
                t.few,
                subst (λ (l : List SendValue). AllZip IsEntryOf l traffic.entries)
                    (named (received_in (earlier ++ current) slot w) t.few)
                    (zipped (take t.few (all_sends w.mission begun.cycle begun.slot to
                    (received_in (earlier ++ current) slot w) w.nodes)) t.sends_few),
              );
        }

-- ---- charging

charged_by : (o b s x : Bool) → s ≡ true → ((o || (x || false)) || (b && s)) ≡ (o || ((x || b) && s))
charged_by true b s x h = refl
charged_by false b true true h = refl
charged_by false true true false h = refl
charged_by false false true false h = refl
charged_by false b false x h = absurd cc

-- a sender more is charged
pub charges_one : (old mid new : ChannelSet) (senders : ChannelSet) (c : ℕ) (rest channels : List ℕ) →
    channels ≡ c ∷ rest → has senders c ≡ true → mid ≡ union old (c ∷ []) →
    ((q : Channel) → q < 7 → has new q ≡ (has mid q || (has rest q && has senders q))) →
    (q : Channel) → q < 7 → has new q ≡ (has old q || (has channels q && has senders q))
charges_one old mid new senders c rest channels is there made step q low =
    step q low
    ∙ ap (λ (b : Bool). b || (has rest q && has senders q))
    (ap (λ (s : ChannelSet). has s q) made ∙ has-channels_where (λ k. has old k || has (c ∷ []) k) q low)
    ∙ by_same (c == q) refl
    ∙ ap (λ (l : List ℕ). has old q || (has l q && has senders q)) (sym is)
  where
    by_same : (b : Bool) → (c == q) ≡ b →
        ((has old q || (b || false)) || (has rest q && has senders q))
        ≡ (has old q || ((b || has rest q) && has senders q))
    by_same true e = charged_by (has old q) (has rest q) (has senders q) true
        (ap (has senders) (sym (eqb-true c q e)) ∙ there)
    by_same false e = not_here (has old q) (has rest q && has senders q)
      where
        not_here : (o b : Bool) → ((o || (false || false)) || b) ≡ (o || b)
        not_here true b = refl
        not_here false b = refl

every_low : (q : Channel) → q < 7 → has every_channel q ≡ true
every_low zero h = refl
every_low (suc zero) h = refl
every_low (suc (suc zero)) h = refl
every_low (suc (suc (suc zero))) h = refl
every_low (suc (suc (suc (suc zero)))) h = refl
every_low (suc (suc (suc (suc (suc zero))))) h = refl
every_low (suc (suc (suc (suc (suc (suc zero)))))) h = refl
every_low (suc (suc (suc (suc (suc (suc (suc q))))))) h = absurd (omega (arith, h))

-- all senders of whom a piece was not delivered as sent are charged
pub charged_all : (slot : Slot) (w : WorldValue) (before after : Disturbance) (senders : ChannelSet) (channels : List ℕ)
    (traffic : TrafficValue) (entries : Log) →
    channels ≡ every_channel → traffic ≡ record { cycle = w.done; slot = slot; entries = entries } →
    senders ≡ channels_where (λ q. list_any (is_charge traffic.cycle traffic.slot q) traffic.entries) →
    after.active ≡ before.active →
    ((q : Channel) → q < 7 → has after.charged q ≡ (has before.charged q || (has channels q && has senders q))) →
    AreCharged slot entries w before after
charged_all slot w before after senders channels traffic entries every is are active step =
    record {
      active = active;
      charged = λ q low.
          step q low
          ∙ ap (λ (b : Bool). has before.charged q || (b && has senders q))
          (ap (λ (l : List ℕ). has l q) every ∙ every_low q low)
          ∙ ap (λ (b : Bool). has before.charged q || b)
          (ap (λ (s : ChannelSet). has s q) are
          ∙ has-channels_where (λ k. list_any (is_charge traffic.cycle traffic.slot k) traffic.entries) q low
          ∙ ap (λ (t : TrafficValue). list_any (is_charge t.cycle t.slot q) t.entries) is);
    }

-- ---- carrying

module _ {E : Type 0} (may : List RuleValue → EntryValue → Type 0) (slot : Slot) (to : List ℕ) (old new : WorldValue)
    (bus bus_after : BusValue) (d : Disturbance) where
  -- memory ran out while the frames were sent
  pub carry_breaks_off : (error : E) → HasSent may slot to (Err error) old new bus bus_after →
      PassesPart may (MayCarry slot to) (HasArrived slot) (Err NoMemory) old new d d bus bus_after
  carry_breaks_off error s =
      record {
        entries = s.entries;
        carries = s.carries;
        mission = ap (λ (x : WorldValue). x.mission) s.world;
        done = ap (λ (x : WorldValue). x.done) s.world;
        count = ap (λ (x : WorldValue). x.carried) s.world;
        ends = λ earlier current steps m.
            let few = s.sent earlier current steps d m in
            subst (λ (x : WorldValue). IsRunFront x.mission earlier (current ++ s.entries) x.done) (sym s.world)
            (few_carried slot to earlier current steps old d m few.0 s.entries few.1);
      }

  module _ (after : Disturbance) (traffic : TrafficValue)
      (s : HasSent {E = E} may slot to (Ok traffic) old new bus bus_after)
      (charged : (entries : Log) → traffic ≡ record { cycle = old.done; slot = slot; entries = entries } →
      AreCharged slot entries old d after) where
    same_ledger : new.ledger ≡ old.ledger
    same_ledger = ap (λ (x : WorldValue). x.ledger) s.world

    -- the run stops
    pub carry_stops : (cycle : ℕ) (set active : ChannelSet) → cycle ≡ new.done →
        set ≡ disturbed_by after.active after.charged new.ledger → active ≡ new.switches →
        limit_reached after.active after.charged new.ledger ≡ true →
        PassesPart may (MayCarry slot to) (HasArrived slot) (Err (Disturbed cycle slot set active)) old new d after bus
        bus_after
    carry_stops cycle set active cycle_is set_is active_is reached =
        record {
          entries = s.entries;
          carries = s.carries;
          mission = ap (λ (x : WorldValue). x.mission) s.world;
          done = ap (λ (x : WorldValue). x.done) s.world;
          count = ap (λ (x : WorldValue). x.carried) s.world;
          ends = λ earlier current steps m.
              let sent = s.sent earlier current steps d m in
              subst (λ (x : WorldValue).
              HaltsIn earlier (current ++ s.entries) steps
              (record { cycle = cycle; slot = slot; set = set; active = active }) x) (sym s.world)
              (subst (λ (n : ℕ). HaltsIn earlier (current ++ s.entries) steps
              (record { cycle = n; slot = slot; set = set; active = active })
              (world_carried (length s.entries) old))
              (sym (cycle_is ∙ ap (λ (x : WorldValue). x.done) s.world))
              (subst (λ (a : ChannelSet).
              HaltsIn earlier (current ++ s.entries) steps
              (record { cycle = old.done; slot = slot; set = set; active = a })
              (world_carried (length s.entries) old))
              (sym (active_is ∙ ap (λ (x : WorldValue). x.switches) s.world))
              (stopped slot to earlier current steps old d m s.entries sent.1 after (charged s.entries sent.0) set
              (set_is ∙ ap (disturbed_by after.active after.charged) same_ledger)
              (ap (limit_reached after.active after.charged) (sym same_ledger) ∙ reached))));
        }

    -- memory ran out while the pieces were read
    pub carry_unread : PassesPart may (MayCarry slot to) (HasArrived slot) (Err NoMemory) old new d after bus bus_after
    carry_unread =
        record {
          entries = s.entries;
          carries = s.carries;
          mission = ap (λ (x : WorldValue). x.mission) s.world;
          done = ap (λ (x : WorldValue). x.done) s.world;
          count = ap (λ (x : WorldValue). x.carried) s.world;
          ends = λ earlier current steps m.
              subst (λ (x : WorldValue). IsRunFront x.mission earlier (current ++ s.entries) x.done) (sym s.world)
              (all_carried slot to earlier current steps old d m s.entries (s.sent earlier current steps d m).1);
        }

    -- the run goes on
    pub carry_arrives : (got read : ArrivedValue) (format : FormatValue) → got ≡ read →
        read ≡ record { format = format; traffic = traffic } → format ≡ format_of new.mission →
        limit_reached after.active after.charged new.ledger ≡ false →
        PassesPart may (MayCarry slot to) (HasArrived slot) (Ok got) old new d after bus bus_after
    carry_arrives got read format same read_is format_is below =
        record {
          entries = s.entries;
          carries = s.carries;
          mission = ap (λ (x : WorldValue). x.mission) s.world;
          done = ap (λ (x : WorldValue). x.done) s.world;
          count = ap (λ (x : WorldValue). x.carried) s.world;
          ends = λ earlier current steps m.
              let sent = s.sent earlier current steps d m in
              subst (λ (x : WorldValue). HasArrived slot got earlier (current ++ s.entries) steps x after) (sym s.world)
              (subst (λ (a : ArrivedValue).
              HasArrived slot a earlier (current ++ s.entries) steps (world_carried (length s.entries) old) after)
              (sym (same ∙ read_is ∙ ap (λ (f : FormatValue). record { format = f; traffic = traffic })
              (format_is ∙ ap (λ (x : WorldValue). format_of x.mission) s.world)
              ∙ ap (λ (t : TrafficValue). record { format = format_of old.mission; traffic = t }) sent.0))
              (arrived slot to earlier current steps old d m s.entries sent.1 after (charged s.entries sent.0)
              (ap (limit_reached after.active after.charged) (sym same_ledger) ∙ below)));
        }

-- ---- the call that sends

module _ (may : List RuleValue → EntryValue → Type 0) (script after : List RuleValue) (log grown : Log) (slot : Slot)
    (to : List ℕ) (old w : WorldValue)
    (begun traffic : TrafficValue) (begins : begun ≡ record { cycle = w.done; slot = slot; entries = [] })
    (same : w ≡ old) (held : MayCarrySome slot to old) where
  held_here : MayCarrySome slot to w
  held_here = subst (λ (x : WorldValue). MayCarrySome slot to x) (sym same) held

  -- the entries can be counted
  pub entries_few : {A E : Type 0} (r : Result A E) →
      ((received : AllReceived) → All (StandsForReceived received) w.nodes →
      OnOk r (SendsSlot may script log grown (all_sends w.mission begun.cycle begun.slot to received w.nodes) begun
      traffic)) →
      ((received : AllReceived) → All (StandsForReceived received) w.nodes →
      OnErr r (SendsFirstOfSlot may script log grown
      (all_sends w.mission begun.cycle begun.slot to received w.nodes) begun traffic)) →
      (length traffic.entries ≤ 49) × (w.carried ≤ 1000000)
  entries_few r whole some = (
    sent_small may script after log grown slot to w begun traffic begins held_here r whole some,
    counted_small may script after log grown slot to w begun traffic begins held_here,
  )

  pub sent_ok : {E : Type 0} (n : ℕ) (r : Result TrafficValue E) → n ≡ length traffic.entries → r ≡ Ok traffic →
      after ≡ script →
      ((received : AllReceived) → All (StandsForReceived received) w.nodes →
      SendsSlot may script log grown (all_sends w.mission begun.cycle begun.slot to received w.nodes) begun
      traffic) →
      HasSent {E = E} may slot to r old (record w { carried = w.carried + n }) (record { log = log; script = script })
      (record { log = grown; script = after })
  sent_ok {E = E} n r counted is kept sends =
      let b : BusValue = record { log = log; script = script } in
      let b1 : BusValue = record { log = grown; script = after } in
      subst (λ (x : WorldValue). HasSent {E = E} may slot to r x (record w { carried = w.carried + n }) b b1) same
      (subst (λ (m : ℕ). HasSent {E = E} may slot to r w (record w { carried = w.carried + m }) b b1) (sym counted)
      (subst (λ (x : Result TrafficValue E).
      HasSent {E = E} may slot to x w (world_carried (length traffic.entries) w) b b1) (sym is)
      (sent_whole_here may script after log grown slot to w begun traffic begins held_here {E = E} kept sends)))

  pub sent_err : {E : Type 0} (n : ℕ) (r : Result TrafficValue E) (error : E) → n ≡ length traffic.entries →
      r ≡ Err error → after ≡ script →
      ((received : AllReceived) → All (StandsForReceived received) w.nodes →
      SendsFirstOfSlot may script log grown (all_sends w.mission begun.cycle begun.slot to received w.nodes) begun
      traffic) →
      HasSent {E = E} may slot to r old (record w { carried = w.carried + n }) (record { log = log; script = script })
      (record { log = grown; script = after })
  sent_err {E = E} n r error counted is kept sends =
      let b : BusValue = record { log = log; script = script } in
      let b1 : BusValue = record { log = grown; script = after } in
      subst (λ (x : WorldValue). HasSent {E = E} may slot to r x (record w { carried = w.carried + n }) b b1) same
      (subst (λ (m : ℕ). HasSent {E = E} may slot to r w (record w { carried = w.carried + m }) b b1) (sym counted)
      (subst (λ (x : Result TrafficValue E).
      HasSent {E = E} may slot to x w (world_carried (length traffic.entries) w) b b1) (sym is)
      (sent_few_here may script after log grown slot to w begun traffic begins held_here {E = E} error kept sends)))
