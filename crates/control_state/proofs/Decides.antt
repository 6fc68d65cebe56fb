-- The parts of a decision make the decision of the definition.
use Rattle.std.proofs.Common.{◌≡◌, ◌≢◌, ◌==◌, ℕ, Bool, true, false, cond, List, [], Option, None, Some, refl, sym, ap, subst, ◌∙◌, eq-eqb}
use Rattle.std.proofs.lemmas.Bool.{eqb-true}
use Rattle.guards_model.specs.Tags.{TagsValue, StandFor, tags_of}
use Rattle.guards_model.proofs.TagSteps.{stand_all, stand_plan}
use Rattle.guards_model.specs.Channels.{ChannelSet}
use Rattle.guards_model.specs.Missions.{RulesValue}
use Rattle.guards_model.specs.Diagnosis.{Agreed, judged_of, counts_of, removed_of}
use Rattle.guards_model.specs.Transfers.{TransferValue, TransferCycle, transfer_after, planned_blocks}
use Rattle.guards_model.specs.Decisions.{DecisionValue, has_started}
use Rattle.guards_model.specs.Controls.{SweepingValue, ControlValue, transfer_in, tags_for, sweeping_for, planned_by, decided_by, control_decided}

-- a transfer with its tags is that transfer
pub transfer_again : (blocks c : ℕ) (old : Option SweepingValue) (o : Option TransferValue) →
    transfer_in (sweeping_for blocks c old o) ≡ o
transfer_again blocks c old None = refl
transfer_again blocks c old (Some t) = refl

module _ (rules : RulesValue) (c : ℕ) (act fr : ChannelSet) (al : List ℕ) (tr : Option SweepingValue)
    (agreed : Agreed) where
  abbrev pub k0 : ControlValue
  k0 = record { active = act; fresh = fr; counts = al; sweeping = tr }

  abbrev pub d0 : DecisionValue
  d0 = decided_by rules c k0 agreed

  pub judged0 : (j : ChannelSet) → j ≡ judged_of act agreed → j ≡ d0.judged
  unfolding decided_by
  judged0 j h = h

  pub counts0 : (j : ChannelSet) (a : List ℕ) → j ≡ judged_of act agreed →
      a ≡ counts_of rules.law rules.keep rules.decrement act j al → a ≡ d0.counts
  unfolding decided_by
  counts0 j a h e = e ∙ ap (λ (s : ChannelSet). counts_of rules.law rules.keep rules.decrement act s al) h

  pub removed0 : (a : List ℕ) (threshold : ℕ) (r : ChannelSet) → a ≡ d0.counts → threshold ≡ rules.threshold →
      r ≡ removed_of threshold act fr agreed a → r ≡ d0.removed
  unfolding decided_by
  removed0 a threshold r h t e =
      e ∙ ap (λ n. removed_of n act fr agreed a) t ∙ ap (removed_of rules.threshold act fr agreed) h

  pub transfer0 : (running new : Option SweepingValue) → running ≡ tr →
      new ≡ sweeping_for rules.blocks c running
      (transfer_after rules.channels rules.returning act fr agreed c (transfer_in running)) →
      new ≡ sweeping_for rules.blocks c tr d0.transfer
  unfolding decided_by
  transfer0 running new h e =
      e ∙ ap (λ (o : Option SweepingValue).
      sweeping_for rules.blocks c o (transfer_after rules.channels rules.returning act fr agreed c (transfer_in o)))
      h

  pub control0 : (a : List ℕ) (new : Option SweepingValue) → a ≡ d0.counts →
      new ≡ sweeping_for rules.blocks c tr d0.transfer →
      record { active = act; fresh = fr; counts = a; sweeping = new } ≡ control_decided rules c k0 d0
  unfolding control_decided
  control0 a new h e =
      ap (λ (x : List ℕ). record { active = act; fresh = fr; counts = x; sweeping = new }) h
      ∙ ap (λ (x : Option SweepingValue). record { active = act; fresh = fr; counts = d0.counts; sweeping = x }) e

  pub started0 : (new : Option SweepingValue) (s : Bool) → new ≡ sweeping_for rules.blocks c tr d0.transfer →
      s ≡ has_started c (transfer_in new) → s ≡ has_started c d0.transfer
  started0 new s h e = e ∙ ap (λ (o : Option SweepingValue). has_started c (transfer_in o)) h
      ∙ ap (has_started c) (transfer_again rules.blocks c tr d0.transfer)

  pub planned0 : (new : Option SweepingValue) (sweep : ℕ) (p : List ℕ) →
      new ≡ sweeping_for rules.blocks c tr d0.transfer → sweep ≡ rules.sweep → p ≡ planned_by sweep new → p ≡ d0.planned
  unfolding decided_by
  planned0 new sweep p h s e = e ∙ ap (λ n. planned_by n new) s ∙ ap (planned_by rules.sweep) h

-- ---- the tags of the decided transfer

starts_now : (blocks c : ℕ) (tr : Option SweepingValue) (t : TransferValue) → t.start ≡ c →
    tags_for blocks c tr t ≡ tags_of blocks [] []
starts_now blocks c None t h = refl
starts_now blocks c (Some s) t h = ap (λ b. cond b (tags_of blocks [] []) s.tags) (eq-eqb t.start c h)

pub begins0 : (blocks c : ℕ) (tr : Option SweepingValue) (o : Option TransferValue) (new : Option SweepingValue)
    (s : SweepingValue) →
    new ≡ sweeping_for blocks c tr o → new ≡ Some s → s.transfer.start ≡ c → StandFor s.tags [] []
begins0 blocks c tr None new s e is h = absurd (let none : None ≡ Some s = sym e ∙ is in cc)
begins0 blocks c tr (Some t) new s e is h =
    let made : Some (record { transfer = t; tags = tags_for blocks c tr t }) ≡ Some s = sym e ∙ is in
    let one : record { transfer = t; tags = tags_for blocks c tr t } ≡ s = cc in
    let now : t.start ≡ c = ap (λ (u : SweepingValue). u.transfer.start) one ∙ h in
    let tags : s.tags ≡ tags_of blocks [] [] =
    ap (λ (u : SweepingValue). u.tags) (sym one) ∙ starts_now blocks c tr t now in
    subst (λ (u : TagsValue). StandFor u [] []) (sym tags) (stand_all blocks)

differ_by : (a b : ℕ) (t : Bool) → (a == b) ≡ t → a ≢ b → t ≡ false
differ_by a b true e h = absurd (h (eqb-true a b e))
differ_by a b false e h = refl

pub keeps0 : (blocks c : ℕ) (old : Option SweepingValue) (o : Option TransferValue) (new : Option SweepingValue)
    (s t : SweepingValue) →
    new ≡ sweeping_for blocks c old o → old ≡ Some s → new ≡ Some t → t.transfer.start ≢ c → t.tags ≡ s.tags
keeps0 blocks c None o new s t e was is h = absurd cc
keeps0 blocks c (Some u) None new s t e was is h = absurd (let none : None ≡ Some t = sym e ∙ is in cc)
keeps0 blocks c (Some u) (Some v) new s t e was is h =
    let made : Some (record { transfer = v; tags = tags_for blocks c (Some u) v }) ≡ Some t = sym e ∙ is in
    let one : record { transfer = v; tags = tags_for blocks c (Some u) v } ≡ t = cc in
    let before : u ≡ s = cc in
    let later : v.start ≢ c = λ k. h (ap (λ (w : SweepingValue). w.transfer.start) (sym one) ∙ k) in
    ap (λ (w : SweepingValue). w.tags) (sym one)
    ∙ ap (λ b. cond b (tags_of blocks [] []) u.tags) (differ_by v.start c (v.start == c) refl later)
    ∙ ap (λ (w : SweepingValue). w.tags) before

pub plan_stands : (new : Option SweepingValue) (sweep n : ℕ) (p : List ℕ) (s : SweepingValue)
    (cycles : List TransferCycle) →
    p ≡ planned_by n new → n ≡ sweep → new ≡ Some s → StandFor s.tags cycles [] →
    p ≡ planned_blocks s.tags.blocks sweep cycles
plan_stands new sweep n p s cycles e m is stands =
    e ∙ ap (λ k. planned_by k new) m ∙ ap (planned_by sweep) is ∙ stand_plan s.tags cycles [] stands sweep
