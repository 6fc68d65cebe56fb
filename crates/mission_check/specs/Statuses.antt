-- The exit status of each status.
use Rattle.std.specs.Prelude.{ℕ}
use Rattle.mission_check.specs.declared.status.Status.{Status}
use Rattle.mission_check.specs.declared.status.Status.TheVariants.{Done, Usage, BadMission, TooLong, ReadFault, WriteFault, TooManyDisturbed, NoMemory, NotARun}

abbrev pub status_code : Status → ℕ
status_code Done = 0
status_code Usage = 2
status_code (BadMission why) = 3
status_code TooLong = 4
status_code ReadFault = 5
status_code WriteFault = 6
status_code (TooManyDisturbed cycle slot set active) = 7
status_code NoMemory = 8
status_code (NotARun line) = 9
