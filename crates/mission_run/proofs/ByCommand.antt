-- What holds of each command that is served holds of the call.
use Rattle.std.proofs.Common.{◌≡◌, ℕ, List, Some, None, sym, subst, ◌∙◌}
use Rattle.guards_model.specs.BusRules.{RuleValue}
use Rattle.guards_model.specs.Network.{EntryValue}
use Rattle.command_line.specs.Commands.{command_of}
use Rattle.command_line.specs.declared.command.Command.{Command}
use Rattle.mission_check.specs.declared.status.Status.{Status}
use Rattle.mission_check.specs.declared.status.Status.TheVariants.{Done, Usage, BadMission, TooLong, ReadFault, WriteFault, TooManyDisturbed, NoMemory, NotARun}
use Rattle.mission_run.specs.TopCall.{Outside, Serves, Outcome}

module _ (may : List RuleValue → EntryValue → Type 0) (words : List (List ℕ)) (old new : Outside)
    (P : Command → Status → Type 0)
    (served : (asked : Command) (status : Status) → Serves may asked old new status → P asked status) where
  by_words : (asked other : Command) (status : Status) → command_of words ≡ Some other →
      Serves may other old new status → command_of words ≡ Some asked → P asked status
  by_words asked other status is ran is_too =
      let both : Some other ≡ Some asked = sym is ∙ is_too in
      let same : other ≡ asked = cc in
      served asked status (subst (λ k. Serves may k old new status) same ran)

  none : {x : Command} → Some x ≡ None → ⊥
  none h = cc

  -- for want of memory it may not have been known which command it is
  pub by_command : ((asked : Command) → P asked NoMemory) → (status : Status) → Outcome may words old new status →
      (asked : Command) → command_of words ≡ Some asked → P asked status
  by_command short NoMemory outcome asked is = short asked
  by_command short Usage outcome asked is = absurd (none (sym is ∙ outcome.0))
  by_command short Done outcome asked is = by_words asked outcome.0 Done outcome.1 outcome.2 is
  by_command short (BadMission why) outcome asked is = by_words asked outcome.0 (BadMission why) outcome.1 outcome.2 is
  by_command short TooLong outcome asked is = by_words asked outcome.0 TooLong outcome.1 outcome.2 is
  by_command short ReadFault outcome asked is = by_words asked outcome.0 ReadFault outcome.1 outcome.2 is
  by_command short WriteFault outcome asked is = by_words asked outcome.0 WriteFault outcome.1 outcome.2 is
  by_command short (TooManyDisturbed cycle slot set active) outcome asked is =
      by_words asked outcome.0 (TooManyDisturbed cycle slot set active) outcome.1 outcome.2 is
  by_command short (NotARun line) outcome asked is = by_words asked outcome.0 (NotARun line) outcome.1 outcome.2 is
