-- What is kept of the cycles of a transfer.
use Rattle.std.specs.Prelude.{◌≡◌, ℕ, ◌<◌, ◌≤◌, Bool, true, false, nat_le, nat_lt, List, Option, Some, None, slice_index_or}
use Rattle.guards_model.specs.Transfers.{TransferCycle, remains, sweep_cursor}
use Rattle.told_cycles.specs.declared.sweeps.Sweeps.{Sweeps}

abbrev pub is_flagged : List Bool → ℕ → Bool
is_flagged flags b = slice_index_or flags b false

-- whether a block remains, by the last cycle that planned it and the last that wrote it
abbrev pub remains_by : Option ℕ → Option ℕ → Bool
remains_by None written = true
remains_by (Some planned) None = false
remains_by (Some planned) (Some written) = nat_le planned written

-- whether a cycle, if there is one, is before another
abbrev pub is_before : ℕ → Option ℕ → Bool
is_before next None = true
is_before next (Some cycle) = nat_lt cycle next

-- The sweeps stand for the cycles of a transfer, the latest first, all before the next one: by them each block
-- remains or not, and the next plan begins where it has to.
pub record SweepsFor (blocks next : ℕ) (cycles : List TransferCycle) (s : Sweeps) : Type 0 where
  pub size : s.blocks ≡ blocks
  pub some : 1 ≤ blocks
  pub few : blocks ≤ 256
  pub low : s.cursor < blocks
  pub each : (b : ℕ) → b < 256 →
      remains_by (slice_index_or s.planned b None) (slice_index_or s.written b None) ≡ remains cycles b
  pub planned : (b : ℕ) → b < 256 → is_before next (slice_index_or s.planned b None) ≡ true
  pub written : (b : ℕ) → b < 256 → is_before next (slice_index_or s.written b None) ≡ true
  pub cursor : s.cursor ≡ sweep_cursor blocks cycles
