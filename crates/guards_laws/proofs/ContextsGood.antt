-- The context of every channel, damaged or not, has blocks of words in every cycle.
use Rattle.std.proofs.Common.{◌≡◌, ℕ, zero, suc, ◌^◌, ◌<◌, ◌≤◌, ◌==◌, Bool, true, false, cond, ◌&&◌, List, [], ◌∷◌, length, ℤ, Option, None, Some, refl, ap, ◌∙◌, arith}
use Rattle.std.specs.Prelude.{option_map, slice_set, nat_lt, nat_le}
use Rattle.std.specs.List.{list_all}
use Rattle.guards_model.specs.Words.{is_word}
use Rattle.guards_model.specs.Channels.{Channel, place_or}
use Rattle.guards_model.specs.Contexts.{BlockValue, ContextValue, block_at, with_word}
use Rattle.guards_model.specs.Tasks.{apply}
use Rattle.guards_model.specs.Faults.{FaultValue, crash, restart, damage, bus}
use Rattle.guards_model.specs.Missions.{MissionValue, IsMission, is_fault, cycle_writes}
use Rattle.guards_model.specs.Network.{Log}
use Rattle.guards_model.specs.Modes.{is_up}
use Rattle.guards_model.specs.Damages.{damaged_by}
use Rattle.guards_model.specs.Rounds.{context_at}
use Rattle.guards_runs.specs.Cycles.{is_whole, context_after, next_cycle, cycles_before}
use Rattle.guards_runs.specs.Due.{context_or_none, due_origin}
use Rattle.guards_model.proofs.BoolTests.{both, and_true}
use Rattle.guards_model.proofs.ValueWords.{is_block, block_in, apply_whole}
use Rattle.guards_laws.proofs.LogGrows.{length-cycles_before}
use Rattle.guards_laws.proofs.HeldIdeal.{start, before-is, held-is, work}
use Rattle.guards_laws.proofs.IdealWords.{inputs_words, ideal_whole, row_writes}
use Rattle.guards_laws.proofs.Planned.{ranges}

set_words : (words : List ℤ) (k : ℕ) (z : ℤ) → list_all is_word words ≡ true → is_word z ≡ true →
    list_all is_word (slice_set words k z) ≡ true
set_words [] k z h i = refl
set_words (w ∷ words) zero z h i =
    and_true (is_word z) (list_all is_word words) i (both (is_word w) (list_all is_word words) h).1
set_words (w ∷ words) (suc k) z h i =
    let parts = both (is_word w) (list_all is_word words) h in
    and_true (is_word w) (list_all is_word (slice_set words k z)) parts.0 (set_words words k z parts.1 i)

set_length : (words : List ℤ) (k : ℕ) (z : ℤ) → length (slice_set words k z) ≡ length words
set_length [] k z = refl
set_length (w ∷ words) zero z = refl
set_length (w ∷ words) (suc k) z = ap suc (set_length words k z)

set_blocks : (ctx : ContextValue) (k : ℕ) (v : BlockValue) → list_all is_block ctx ≡ true → is_block v ≡ true →
    list_all is_block (slice_set ctx k v) ≡ true
set_blocks [] k v h i = refl
set_blocks (x ∷ ctx) zero v h i =
    and_true (is_block v) (list_all is_block ctx) i (both (is_block x) (list_all is_block ctx) h).1
set_blocks (x ∷ ctx) (suc k) v h i =
    let parts = both (is_block x) (list_all is_block ctx) h in
    and_true (is_block x) (list_all is_block (slice_set ctx k v)) parts.0 (set_blocks ctx k v parts.1 i)

-- one word set
word_set : (ctx : ContextValue) (block word : ℕ) (value : ℤ) → list_all is_block ctx ≡ true → is_word value ≡ true →
    list_all is_block (with_word ctx block word value) ≡ true
word_set ctx block word value h i =
    let old : BlockValue = block_at ctx block in
    let parts = both (length old == 8) (list_all is_word old) (block_in ctx block h) in
    set_blocks ctx block (slice_set old word value) h
    (and_true (length (slice_set old word value) == 8) (list_all is_word (slice_set old word value))
    (ap (λ n. n == 8) (set_length old word value) ∙ parts.0) (set_words old word value parts.1 i))

damaged_good : (M : MissionValue) (script : List FaultValue) (q c : ℕ) (ctx : ContextValue) →
    list_all (is_fault M) script ≡ true → list_all is_block ctx ≡ true →
    list_all is_block (damaged_by script q c ctx) ≡ true
damaged_good M [] q c ctx h good = good
damaged_good M (damage p d block word value ∷ script) q c ctx h good =
    let parts = both (is_fault M (damage p d block word value)) (list_all (is_fault M) script) h in
    let fits = both (nat_lt d M.cycles && nat_lt p M.rules.channels)
    ((nat_lt block M.rules.blocks && nat_lt word 8) && is_word value) parts.0 in
    let word_fits = (both (nat_lt block M.rules.blocks && nat_lt word 8) (is_word value) fits.1).1 in
    damaged_good M script q c (cond (p == q && d == c) (with_word ctx block word value) ctx) parts.1
    (by_hit (p == q && d == c) word_fits)
  where
    by_hit : (b : Bool) → is_word value ≡ true → list_all is_block (cond b (with_word ctx block word value) ctx) ≡ true
    by_hit true i = word_set ctx block word value good i
    by_hit false i = good
damaged_good M (crash p d slot ∷ script) q c ctx h good =
    damaged_good M script q c ctx (both (is_fault M (crash p d slot)) (list_all (is_fault M) script) h).1 good
damaged_good M (restart p d ∷ script) q c ctx h good =
    damaged_good M script q c ctx (both (is_fault M (restart p d)) (list_all (is_fault M) script) h).1 good
damaged_good M (bus rule ∷ script) q c ctx h good =
    damaged_good M script q c ctx (both (is_fault M (bus rule)) (list_all (is_fault M) script) h).1 good

abbrev pub is_good : Option ContextValue → Bool
is_good o = list_all is_block (context_or_none o)

mapped_good : (f : ContextValue → ContextValue) (o : Option ContextValue) →
    ((ctx : ContextValue) → list_all is_block ctx ≡ true → list_all is_block (f ctx) ≡ true) → is_good o ≡ true →
    is_good (option_map f o) ≡ true
mapped_good f None h good = refl
mapped_good f (Some ctx) h good = h ctx good

either_good : (b : Bool) (x y : Option ContextValue) → is_good x ≡ true → is_good y ≡ true → is_good (cond b x y) ≡ true
either_good true x y h k = h
either_good false x y h k = k

module _ (M : MissionValue) (L : Log) (mission : IsMission M) where
  small : (n : ℕ) → n ≤ M.cycles → length (cycles_before M L n) < 2 ^ 32
  small n early = omega (arith, length-cycles_before M L n, (ranges M mission).cycles, early)

  script_fits : list_all (is_fault M) M.script ≡ true
  script_fits = (both (nat_le (length M.script) 1024) (list_all (is_fault M) M.script) mission.script).1

  writes_good : (n k : ℕ) (ctx : ContextValue) → n ≤ M.cycles → list_all is_block ctx ≡ true →
      list_all is_block (apply (cycle_writes M (length (cycles_before M L n))) ctx (length (cycles_before M L n))
      (next_cycle M L (cycles_before M L n)).inputs k) ≡ true
  writes_good n k ctx early good =
      apply_whole M.rules.blocks M.width (cycle_writes M (length (cycles_before M L n))) ctx
      (length (cycles_before M L n)) (next_cycle M L (cycles_before M L n)).inputs k
      (row_writes M mission (length (cycles_before M L n))) good (inputs_words M L n mission) (small n early)

  before_from : (n : ℕ) (q : Channel) → q < 7 → is_good (context_after M (cycles_before M L n) q) ≡ true →
      is_good (place_or (next_cycle M L (cycles_before M L n)).contexts_before q None) ≡ true
  before_from n q low good =
      let past = cycles_before M L n in
      ap is_good (before-is M L past q low)
      ∙ either_good (is_up (start M L past q low))
      (option_map (damaged_by M.script q (length past)) (context_after M past q)) None
      (mapped_good (damaged_by M.script q (length past)) (context_after M past q)
      (λ ctx h. damaged_good M M.script q (length past) ctx script_fits h) good) refl

  held_from : (n : ℕ) (q : Channel) → q < 7 → n ≤ M.cycles →
      is_good (place_or (next_cycle M L (cycles_before M L n)).contexts_before q None) ≡ true →
      is_good (place_or (next_cycle M L (cycles_before M L n)).contexts_after q None) ≡ true
  unfolding work
  held_from n q low early good =
      let past = cycles_before M L n in
      ap is_good (held-is M L past q low)
      ∙ mapped_good (work M L past q low) (place_or (next_cycle M L past).contexts_before q None)
      (λ ctx h. writes_good n (length (cycle_writes M (length past))) ctx early h) good

  after_good : (n : ℕ) (q : Channel) → q < 7 → n ≤ M.cycles → is_good (context_after M (cycles_before M L n) q) ≡ true
  after_good zero q low early = ideal_whole M L zero mission early
  after_good (suc n) q low early =
      let past = cycles_before M L n in
      let e = next_cycle M L past in
      either_good (is_whole q (e ∷ past)) (Some e.ideal_context) (place_or e.contexts_after q None)
      (ideal_whole M L (suc n) mission early)
      (held_from n q low (omega arith) (before_from n q low (after_good n q low (omega arith))))

  pub before_good : (n : ℕ) (q : Channel) → q < 7 → n ≤ M.cycles →
      is_good (place_or (next_cycle M L (cycles_before M L n)).contexts_before q None) ≡ true
  before_good n q low early = before_from n q low (after_good n q low early)

  pub held_good : (n : ℕ) (q : Channel) → q < 7 → n ≤ M.cycles →
      is_good (place_or (next_cycle M L (cycles_before M L n)).contexts_after q None) ≡ true
  held_good n q low early = held_from n q low early (before_good n q low early)

  -- after any number of writes of a round
  pub round_good : (n : ℕ) (q : Channel) (k : ℕ) → q < 7 → n ≤ M.cycles →
      list_all is_block (context_at (due_origin M (cycles_before M L n) (next_cycle M L (cycles_before M L n)) q) k)
      ≡ true
  round_good n q k low early =
      writes_good n k (context_or_none (place_or (next_cycle M L (cycles_before M L n)).contexts_before q None)) early
      (before_good n q low early)
