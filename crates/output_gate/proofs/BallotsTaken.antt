-- What the actuator takes, entry by entry.
use Rattle.std.proofs.Common.{◌≡◌, ℕ, zero, suc, ◌<◌, ◌==◌, Bool, true, false, cond, not, ◌&&◌, ◌||◌, List, [], ◌∷◌, ◌++◌, length, take, set, Option, Some, None, ℤ, refl, sym, ap, subst, ◌∙◌, arith, append_assoc}
use Rattle.std.specs.Prelude.{find, replicate, option_and_then, if◌then◌else◌}
use Rattle.std.specs.List.{AllZip, AllByRecursion, list_any}
use Rattle.std.proofs.Math.Path.{fun_ext}
use Rattle.std.proofs.lemmas.Bool.{eq-eqb}
use Rattle.guards_model.specs.BusRules.{RuleValue}
use Rattle.guards_model.specs.declared.Slot.TheVariants.{Output}
use Rattle.guards_model.specs.Slots.{same_slot}
use Rattle.guards_model.specs.Channels.{Channel, ChannelSet, has, by_channel, channels_where, union}
use Rattle.guards_model.specs.Network.{EntryValue, Log, is_carry, actuator}
use Rattle.guards_model.specs.Texts.{LineValue}
use Rattle.guards_model.specs.Voting.{Ballots}
use Rattle.guards_model.proofs.Tables.{has-channels_where}
use Rattle.guards_runs.specs.Disturbed.{differs_from}
use Rattle.guards_base.proofs.EachChannel.{sets_alike}
use Rattle.guards_runs.specs.Outputs.{ballot_taken, ballots_taken, is_output_charge}
use Rattle.guards_model.specs.Actuators.{ballot_spelled}
use Rattle.output_gate.specs.Sending.{IsLineDue, AreLinesSent, AreFewSent, TakenValue, taken_of, disturbed_with, HasSentLine, HasTaken}

-- ---- one more entry

-- an entry of this cycle from a channel to the actuator
pub record IsFrom (c : ℕ) (q : Channel) (y : EntryValue) : Type 0 where
  pub cycle : y.cycle ≡ c
  pub slot : y.slot ≡ Output
  pub from : y.from ≡ q
  pub to : y.to ≡ actuator

abbrev carry_test : ℕ → Channel → ℕ → Bool → ℕ → ℕ → Bool
carry_test c p k same from to = ((k == c && same) && from == p) && to == actuator

pub carry_is : (c : ℕ) (q p : Channel) (y : EntryValue) → IsFrom c q y → is_carry c Output p actuator y ≡ (q == p)
carry_is c q p y is =
    ap (λ k. carry_test c p k (same_slot y.slot Output) y.from y.to) is.cycle
    ∙ ap (λ s. carry_test c p c (same_slot s Output) y.from y.to) is.slot
    ∙ ap (λ f. carry_test c p c true f y.to) is.from
    ∙ ap (λ t. carry_test c p c true q t) is.to
    ∙ ap (λ b. ((b && true) && q == p) && true) (eq-eqb c c refl)
    ∙ and_true (q == p)
  where
    and_true : (b : Bool) → (b && true) ≡ b
    and_true true = refl
    and_true false = refl

pub charge_is : (c : ℕ) (q p : Channel) (y : EntryValue) → IsFrom c q y →
    is_output_charge c p y ≡ ((q == p) && differs_from y.sent y.delivered)
charge_is c q p y is =
    ap (λ k. ((k == c && same_slot y.slot Output) && y.from == p) && differs_from y.sent y.delivered) is.cycle
    ∙ ap (λ s. ((c == c && same_slot s Output) && y.from == p) && differs_from y.sent y.delivered) is.slot
    ∙ ap (λ f. ((c == c && true) && f == p) && differs_from y.sent y.delivered) is.from
    ∙ ap (λ b. ((b && true) && q == p) && differs_from y.sent y.delivered) (eq-eqb c c refl)

-- a table with one place set
set_place : {A : Type 0} (f g : Channel → A) (q : Channel) (x : A) → q < 7 →
    ((p : Channel) → g p ≡ cond (q == p) x (f p)) → set (by_channel f) q x ≡ by_channel g
unfolding by_channel
set_place f g q x low same = by q low ∙ sym (rw (same 0, same 1, same 2, same 3, same 4, same 5, same 6) refl)
  where
    by : (q : Channel) → q < 7 → set (f 0 ∷ f 1 ∷ f 2 ∷ f 3 ∷ f 4 ∷ f 5 ∷ f 6 ∷ []) q x
        ≡ cond (q == 0) x (f 0) ∷ cond (q == 1) x (f 1) ∷ cond (q == 2) x (f 2) ∷ cond (q == 3) x (f 3)
        ∷ cond (q == 4) x (f 4) ∷ cond (q == 5) x (f 5) ∷ cond (q == 6) x (f 6) ∷ []
    by zero low = refl
    by (suc zero) low = refl
    by (suc (suc zero)) low = refl
    by (suc (suc (suc zero))) low = refl
    by (suc (suc (suc (suc zero)))) low = refl
    by (suc (suc (suc (suc (suc zero))))) low = refl
    by (suc (suc (suc (suc (suc (suc zero)))))) low = refl
    by (suc (suc (suc (suc (suc (suc (suc n))))))) low = absurd (omega arith)

module _ (version outputs c : ℕ) (q : Channel) (y : EntryValue) (now : Log) (is : IsFrom c q y) (low : q < 7) where
  ballot_more : (p : Channel) →
      ballot_taken version outputs (y ∷ now) c p
      ≡ cond (q == p) (ballot_spelled version outputs c q y.delivered) (ballot_taken version outputs now c p)
  ballot_more p =
      ap (λ b. ballot_spelled version outputs c p
      (option_and_then (λ (e : EntryValue). e.delivered)
      (cond b (Some y) (find (is_carry c Output p actuator) now)))) (carry_is c q p y is)
      ∙ by (q == p) refl
    where
      by : (b : Bool) → (q == p) ≡ b →
          ballot_spelled version outputs c p
          (option_and_then (λ (e : EntryValue). e.delivered)
          (cond b (Some y) (find (is_carry c Output p actuator) now)))
          ≡ cond b (ballot_spelled version outputs c q y.delivered) (ballot_taken version outputs now c p)
      by true e = ap (λ r. ballot_spelled version outputs c r y.delivered) (sym (eqb_true q p e))
        where
          eqb_true : (a b : ℕ) → (a == b) ≡ true → a ≡ b
          eqb_true a b h = grind (arith, h)
      by false e = refl

  frames_more : set (ballots_taken version outputs now c) q (ballot_spelled version outputs c q y.delivered)
      ≡ ballots_taken version outputs (y ∷ now) c
  frames_more = set_place (ballot_taken version outputs now c) (ballot_taken version outputs (y ∷ now) c) q
      (ballot_spelled version outputs c q y.delivered) low ballot_more

  module _ (disturbed : ChannelSet) where
    abbrev charged_now : Channel → Bool
    charged_now p = has disturbed p || list_any (is_output_charge c p) now

    abbrev charged_more : Channel → Bool
    charged_more p = has disturbed p || (is_output_charge c p y || list_any (is_output_charge c p) now)

    set_more : (as_sent : Bool) → as_sent ≡ not (differs_from y.sent y.delivered) →
        (if as_sent then channels_where charged_now else union (channels_where charged_now) (q ∷ []))
        ≡ channels_where charged_more
    set_more as_sent same = by as_sent (differs_from y.sent y.delivered) refl same
      where
        none : (a b r : Bool) → (a || r) ≡ (a || ((b && false) || r))
        none true b r = refl
        none false true r = refl
        none false false r = refl

        some : (a b r : Bool) → ((a || r) || (b || false)) ≡ (a || ((b && true) || r))
        some true b r = refl
        some false true true = refl
        some false true false = refl
        some false false true = refl
        some false false false = refl

        differs : false ≡ true → {A : Type 0} → A
        differs h = absurd cc

        by : (a d : Bool) → differs_from y.sent y.delivered ≡ d → a ≡ not d →
            (if a then channels_where charged_now else union (channels_where charged_now) (q ∷ []))
            ≡ channels_where charged_more
        by true true e h = differs (sym h)
        by true false e h =
            sets_alike charged_now charged_more
            (λ p small. none (has disturbed p) (q == p) (list_any (is_output_charge c p) now)
            ∙ ap (λ b. has disturbed p || (b || list_any (is_output_charge c p) now))
            (ap (λ b. (q == p) && b) (sym e) ∙ sym (charge_is c q p y is)))
        by false true e h =
            sets_alike (λ p. has (channels_where charged_now) p || has (q ∷ []) p) charged_more
            (λ p small. ap (λ b. b || ((q == p) || false)) (has-channels_where charged_now p small)
            ∙ some (has disturbed p) (q == p) (list_any (is_output_charge c p) now)
            ∙ ap (λ b. has disturbed p || (b || list_any (is_output_charge c p) now))
            (ap (λ b. (q == p) && b) (sym e) ∙ sym (charge_is c q p y is)))
        by false false e h = differs h

-- ---- line by line

module _ (may : List RuleValue → EntryValue → Type 0) (script : List RuleValue) (version outputs c : ℕ) where
  take_none : (n : ℕ) → take {A = LineValue} n [] ≡ []
  take_none zero = refl
  take_none (suc n) = refl

  -- the first few of one line are the first few of more
  pub few_of_one : (old new : Log) (line : LineValue) (rest : List LineValue) →
      AreFewSent may script old new version outputs c (line ∷ []) →
      AreFewSent may script old new version outputs c (line ∷ rest)
  few_of_one old new line rest h = by h.few h.sent
    where
      by : (few : ℕ) → AreLinesSent may script old new version outputs c (take few (line ∷ [])) h.now →
          AreFewSent may script old new version outputs c (line ∷ rest)
      by zero sent = record { few = 0; now = h.now; sent = sent }
      by (suc n) sent = record {
        few = 1;
        now = h.now;
        sent = subst (λ ls. AreLinesSent may script old new version outputs c (line ∷ ls) h.now) (take_none n) sent;
      }

  grow : (old mid new : Log) (y : EntryValue) (now : Log) → mid ≡ old ++ y ∷ [] → new ≡ mid ++ now →
      new ≡ old ++ y ∷ now
  grow old mid new y now h k = k ∙ ap (λ l. l ++ now) h ∙ append_assoc old (y ∷ []) now

  pub sent_then_few : (old mid new : Log) (line : LineValue) (rest : List LineValue) (as_sent : Bool)
      (ballot : Option (List ℤ)) →
      HasSentLine may script old mid version outputs c line as_sent ballot →
      AreFewSent may script mid new version outputs c rest →
      AreFewSent may script old new version outputs c (line ∷ rest)
  sent_then_few old mid new line rest as_sent ballot one others =
      record {
        few = suc others.few;
        now = one.entry ∷ others.now;
        sent = record {
          grew = grow old mid new one.entry others.now one.sent.grew others.sent.grew;
          due = (one.sent.due.0, others.sent.due);
          spelled = (one.sent.spelled.0, others.sent.spelled);
          allowed = (one.sent.allowed.0, others.sent.allowed);
        };
      }

  -- nothing was sent
  pub nothing_taken : (log : Log) (disturbed : ChannelSet) → disturbed ≡ channels_where (has disturbed) →
      HasTaken may script log log version outputs c disturbed []
      (record { frames = replicate 7 None; disturbed = disturbed })
  unfolding by_channel
  nothing_taken log disturbed set =
      let T : ChannelSet → TakenValue = λ s. record { frames = replicate 7 None; disturbed = s } in
      record {
        now = [];
        sent = record { grew = sym (append_nil log); due = tt; spelled = tt; allowed = tt };
        taken_is = ap T (set ∙ sets_alike (has disturbed) (λ q. has disturbed q || false)
            (λ q low. or_false (has disturbed q)));
      }
    where
      append_nil : (xs : Log) → xs ++ [] ≡ xs
      append_nil [] = refl
      append_nil (x ∷ xs) = ap (λ ys. x ∷ ys) (append_nil xs)

      or_false : (b : Bool) → b ≡ (b || false)
      or_false true = refl
      or_false false = refl

  pub sent_then_all : (old mid new : Log) (line : LineValue) (rest : List LineValue) (as_sent : Bool)
      (ballot : Option (List ℤ)) (disturbed : ChannelSet) (others result : TakenValue) →
      line.channel < 7 →
      HasSentLine may script old mid version outputs c line as_sent ballot →
      HasTaken may script mid new version outputs c disturbed rest others →
      result ≡ record {
        frames = set others.frames line.channel ballot;
        disturbed = (if as_sent then others.disturbed else union others.disturbed (line.channel ∷ []));
      } →
      HasTaken may script old new version outputs c disturbed (line ∷ rest) result
  sent_then_all old mid new line rest as_sent ballot disturbed others result low one more with_one =
      let q = line.channel in
      let y = one.entry in
      let is : IsFrom c q y = record {
        cycle = one.sent.due.0.cycle;
        slot = one.sent.due.0.slot;
        from = one.sent.due.0.from;
        to = one.sent.due.0.to;
      } in
      let R : Ballots → ChannelSet → TakenValue = λ frames d. record { frames = frames; disturbed = d } in
      let W : TakenValue → Option (List ℤ) →
      TakenValue = λ o b. R (set o.frames q b) (if as_sent then o.disturbed else union o.disturbed (q ∷ [])) in
      record {
        now = y ∷ more.now;
        sent = record {
          grew = grow old mid new y more.now one.sent.grew more.sent.grew;
          due = (one.sent.due.0, more.sent.due);
          spelled = (one.sent.spelled.0, more.sent.spelled);
          allowed = (one.sent.allowed.0, more.sent.allowed);
        };
        taken_is = with_one
            ∙ ap (λ o. W o ballot) more.taken_is
            ∙ ap (W (taken_of version outputs c disturbed more.now)) one.ballot_is
            ∙ ap (λ frames. R frames (if as_sent then disturbed_with disturbed c more.now
            else union (disturbed_with disturbed c more.now) (q ∷ [])))
            (frames_more version outputs c q y more.now is low)
            ∙ ap (R (ballots_taken version outputs (y ∷ more.now) c))
            (set_more version outputs c q y more.now is low disturbed as_sent one.same);
      }

pub no_items : {A : Type 0} (xs : List A) → length xs ≡ 0 → xs ≡ []
no_items [] h = refl
no_items (x ∷ xs) h = absurd (omega (arith, h))
