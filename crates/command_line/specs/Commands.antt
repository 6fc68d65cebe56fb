-- The words of a command line, after the program's name.
use Rattle.std.specs.Prelude.{ℕ, ◌^◌, Bool, true, false, ◌&&◌, nat_lt, nat_le, List, [], ◌∷◌, length, Option, Some, None, option_map, option_and_then, if◌then◌else◌, codes}
use Rattle.std.specs.Char.{is_ascii_digit}
use Rattle.std.specs.List.{list_all}
use Rattle.std.specs.Str.{bytes_eq}
use Rattle.std.specs.Str.Parse.{digits_value}
use Rattle.command_line.specs.declared.command.Command.{Command}
use Rattle.command_line.specs.declared.command.Command.TheVariants.{Run, Check, Demo, Audit}

-- one to twenty digits
abbrev pub is_number : List ℕ → Bool
is_number text = nat_lt 0 (length text) && (nat_le (length text) 20 && list_all is_ascii_digit text)

-- the number that the digits write, where it is below two to the 64th
unfoldable pub number_of : List ℕ → Option ℕ
number_of text = if is_number text && nat_lt (digits_value 10 text) (2 ^ 64) then Some (digits_value 10 text) else None

-- the number of a text of at most four digits, where it is 1 to 2,000
abbrev pub count_within : ℕ → Option ℕ
count_within number = if nat_lt 0 number && nat_le number 2000 then Some number else None

unfoldable pub count_of : List ℕ → Option ℕ
count_of text = if nat_le (length text) 4 then option_and_then count_within (number_of text) else None

-- the command that tells the last cycles of a run, where the text is such a number
unfoldable pub run_last : Bool → List ℕ → Option Command
run_last trace count = option_map (λ k. Run trace (Some k)) (count_of count)

-- the command of one word
unfoldable pub command_of_word : List ℕ → Option Command
command_of_word word =
    if bytes_eq word (codes "run") then Some (Run false None)
    else (if bytes_eq word (codes "check") then Some Check
    else (if bytes_eq word (codes "audit") then Some Audit else None))

-- the command of two words
unfoldable pub command_of_pair : List ℕ → List ℕ → Option Command
command_of_pair word value =
    if bytes_eq word (codes "run") then (if bytes_eq value (codes "--trace") then Some (Run true None) else None)
    else (if bytes_eq word (codes "demo") then option_map Demo (number_of value) else None)

-- the command of three words
unfoldable pub command_of_three : List ℕ → List ℕ → List ℕ → Option Command
command_of_three word flag count =
    if bytes_eq word (codes "run") && bytes_eq flag (codes "--last") then run_last false count else None

-- the command of four words
unfoldable pub command_of_four : List ℕ → List ℕ → List ℕ → List ℕ → Option Command
command_of_four word first second third =
    if bytes_eq word (codes "run")
    then (if bytes_eq first (codes "--trace") && bytes_eq second (codes "--last") then run_last true third
    else (if bytes_eq first (codes "--last") && bytes_eq third (codes "--trace") then run_last true second else None))
    else None

-- exactly `run`, `run --trace`, `run --last K`, `run --trace --last K`, `run --last K --trace`, `check`, `demo N` and
-- `audit` are commands
abbrev pub command_of : List (List ℕ) → Option Command
command_of (word ∷ []) = command_of_word word
command_of (word ∷ value ∷ []) = command_of_pair word value
command_of (word ∷ flag ∷ count ∷ []) = command_of_three word flag count
command_of (word ∷ first ∷ second ∷ third ∷ []) = command_of_four word first second third
command_of _ = None
