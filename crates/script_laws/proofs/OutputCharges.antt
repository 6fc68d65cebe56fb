-- Where no output entry charges anyone, the output slot stops a run just where the switch slot does; and over a bus
-- that does what the script says, two cycles with the same facts have the same output charges.
use Rattle.std.proofs.Common.{◌≡◌, ℕ, ℤ, ◌*◌, ◌==◌, Bool, true, false, cond, not, ◌&&◌, ◌||◌, List, [], ◌∷◌, length, map, Option, Some, refl, sym, ap, subst, ◌∙◌}
use Rattle.std.specs.Prelude.{filter, nat_le}
use Rattle.std.specs.List.{AllZip, AllByRecursion, list_any}
use Rattle.std.proofs.Math.Path.{fun_ext}
use Rattle.guards_model.specs.BusRules.{RuleValue}
use Rattle.guards_model.specs.declared.Slot.{Slot}
use Rattle.guards_model.specs.declared.Slot.TheVariants.{Switch, Output}
use Rattle.guards_model.specs.Slots.{same_slot}
use Rattle.guards_model.specs.Channels.{Channel, ChannelSet, has, place_or}
use Rattle.guards_model.specs.Frames.{spelling}
use Rattle.guards_model.specs.Modes.{is_up}
use Rattle.guards_model.specs.Network.{EntryValue, Log, actuator}
use Rattle.guards_model.specs.ScriptedBus.{IsScripted, delivered_by}
use Rattle.guards_model.proofs.Tables.{has-filter}
use Rattle.guards_model.proofs.TagSteps.{filter_alike}
use Rattle.guards_runs.specs.Cycles.{Cycle, mode_in, is_damaged}
use Rattle.guards_runs.specs.Disturbed.{differs_from, is_charge, disturbed_channels, halts}
use Rattle.guards_runs.specs.Report.{channels_running_in}
use Rattle.guards_model.specs.Actuators.{voted_words, output_frame}
use Rattle.guards_runs.specs.Outputs.{IsOutputDue, AreOutputsDue, is_output_charge, output_disturbed, output_halts}

or_nothing : (b : Bool) → (b || false) ≡ b
or_nothing true = refl
or_nothing false = refl

and_true : (b c : Bool) → c ≡ true → (b && c) ≡ b
and_true true c h = h
and_true false c h = refl

pub uncharged_stop : (c : ℕ) (e : Cycle) (F : Log) → ((q : Channel) → list_any (is_output_charge c q) F ≡ false) →
    output_halts c e F ≡ halts c e Switch
uncharged_stop c e F none =
    let p : Channel → Bool = λ q. (not (is_up (mode_in e q Switch)) || is_damaged e q Switch)
    || list_any (is_charge c Switch q) e.entries in
    ap (λ (s : ChannelSet). nat_le (length e.active) (3 * length s))
    (filter_alike (λ q. has (disturbed_channels c e Switch) q || list_any (is_output_charge c q) F) p e.active
    (λ q there. ap (λ b. has (disturbed_channels c e Switch) q || b) (none q)
    ∙ or_nothing (has (disturbed_channels c e Switch) q) ∙ has-filter p e.active q
    ∙ and_true (p q) (has e.active q) there))

-- an entry that is due, over a bus that does what the script says
abbrev scripted_output : List RuleValue → ℕ → ℕ → Channel → List ℕ → EntryValue
scripted_output rules version c q sent =
    record {
      cycle = c;
      slot = Output;
      from = q;
      to = actuator;
      sent = sent;
      delivered = delivered_by rules c Output q actuator sent;
    }

is_scripted_output : (rules : List RuleValue) (version c : ℕ) (q : Channel) (words : List ℤ) (y : EntryValue) →
    IsOutputDue version c q words y → IsScripted rules y →
    y ≡ scripted_output rules version c q (spelling (output_frame version c q words))
is_scripted_output rules version c q words y due made =
    let D : Option (List ℕ) →
    EntryValue = λ d. record {
      cycle = y.cycle;
      slot = y.slot;
      from = y.from;
      to = y.to;
      sent = y.sent;
      delivered = d;
    } in
    let E : ℕ → Slot → ℕ → ℕ → List ℕ →
    EntryValue = λ k s f t b.
    record { cycle = k; slot = s; from = f; to = t; sent = b; delivered = delivered_by rules k s f t b } in
    ap D made ∙ ap (λ k. E k y.slot y.from y.to y.sent) due.cycle ∙ ap (λ s. E c s y.from y.to y.sent) due.slot
    ∙ ap (λ f. E c Output f y.to y.sent) due.from ∙ ap (λ t. E c Output q t y.sent) due.to
    ∙ ap (E c Output q actuator) due.sent

pub outputs_alike : (rules : List RuleValue) (version c : ℕ) (f : Channel → List ℤ) (qs : List Channel) (xs ys : Log) →
    AllZip (λ q y. IsOutputDue version c q (f q) y) qs xs → AllZip (λ q y. IsOutputDue version c q (f q) y) qs ys →
    AllByRecursion (IsScripted rules) xs → AllByRecursion (IsScripted rules) ys → xs ≡ ys
outputs_alike rules version c f [] [] [] h k a b = refl
outputs_alike rules version c f [] [] (y ∷ ys) h k a b = absurd k
outputs_alike rules version c f [] (x ∷ xs) ys h k a b = absurd h
outputs_alike rules version c f (q ∷ qs) [] ys h k a b = absurd h
outputs_alike rules version c f (q ∷ qs) (x ∷ xs) [] h k a b = absurd k
outputs_alike rules version c f (q ∷ qs) (x ∷ xs) (y ∷ ys) h k a b =
    ap (λ z. z ∷ xs) (is_scripted_output rules version c q (f q) x h.0 a.0
    ∙ sym (is_scripted_output rules version c q (f q) y k.0 b.0))
    ∙ ap (λ zs. y ∷ zs) (outputs_alike rules version c f qs xs ys h.1 k.1 a.1 b.1)
