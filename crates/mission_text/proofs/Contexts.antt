-- A context with blocks set is still one of so many blocks of words.
use Rattle.std.proofs.Common.{◌≡◌, ℕ, zero, suc, ℤ, pos, List, [], ◌∷◌, length, set, replicate, Bool, true, ◌==◌, refl}
use Rattle.std.specs.List.{list_all}
use Rattle.std.specs.Prelude.{nat_lt}
use Rattle.std.proofs.lemmas.List.{length-set, length-replicate}
use Rattle.std.proofs.lemmas.Bool.{eq-eqb}
use Rattle.guards_base.specs.Masks.{both}
use Rattle.guards_model.specs.Contexts.{ContextValue, zeroed, zero_block}
use Rattle.guards_model.specs.Missions.{is_context}
use Rattle.guards_model.specs.Words.{is_word}
use Rattle.mission_text.specs.declared.blocks.InitBlock.{InitBlock}
use Rattle.mission_text.specs.Blocks.{with_blocks, is_init_block, is_block}

pub all_set : {A : Type 0} (test : A → Bool) (xs : List A) (at : ℕ) (y : A) → test y ≡ true → list_all test xs ≡ true →
    list_all test (set xs at y) ≡ true
all_set test [] at y one all = all
all_set test (x ∷ xs) zero y one all = rw (one, (both (test x) (list_all test xs) all).1) refl
all_set test (x ∷ xs) (suc at) y one all =
    let parts = both (test x) (list_all test xs) all in
    rw (parts.0, all_set test xs at y one parts.1) refl

block_set : (blocks : ℕ) (ctx : ContextValue) (at : ℕ) (words : List ℤ) → is_block words ≡ true →
    is_context blocks ctx ≡ true → is_context blocks (set ctx at words) ≡ true
block_set blocks ctx at words one whole =
    let parts = both (length ctx == blocks) (list_all is_block ctx) whole in
    rw (length-set ctx at words, parts.0, all_set is_block ctx at words one parts.1) refl

pub with_blocks_whole : (blocks : ℕ) (named : List InitBlock) (ctx : ContextValue) →
    list_all (is_init_block blocks) named ≡ true → is_context blocks ctx ≡ true →
    is_context blocks (with_blocks named ctx) ≡ true
with_blocks_whole blocks [] ctx all whole = whole
with_blocks_whole blocks (e ∷ es) ctx all whole =
    let parts = both (is_init_block blocks e) (list_all (is_init_block blocks) es) all in
    let block = both (nat_lt e.block blocks) (is_block e.words) parts.0 in
    with_blocks_whole blocks es (set ctx e.block e.words) parts.1 (block_set blocks ctx e.block e.words block.1 whole)

all_same : {A : Type 0} (test : A → Bool) (n : ℕ) (x : A) → test x ≡ true → list_all test (replicate n x) ≡ true
all_same test zero x one = refl
all_same test (suc n) x one = rw (one, all_same test n x one) refl

zeros_are_words : list_all is_word (replicate 8 (pos 0)) ≡ true
unfolding is_word
zeros_are_words = refl

zero_block_whole : is_block zero_block ≡ true
zero_block_whole = rw zeros_are_words refl

pub zeroed_whole : (blocks : ℕ) → is_context blocks (zeroed blocks) ≡ true
zeroed_whole blocks =
    rw (
      length-replicate blocks zero_block,
      eq-eqb blocks blocks refl,
      all_same is_block blocks zero_block zero_block_whole,
    ) refl

-- the context with which all channels begin
pub whole_start : (blocks : ℕ) (named : List InitBlock) → list_all (is_init_block blocks) named ≡ true →
    is_context blocks (with_blocks named (zeroed blocks)) ≡ true
whole_start blocks named all = with_blocks_whole blocks named (zeroed blocks) all (zeroed_whole blocks)
