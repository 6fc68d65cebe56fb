-- The ranges of rules.
use Rattle.std.proofs.Common.{◌≡◌, ℕ, ◌≤◌, Bool, true, false, ◌&&◌, refl, arith}
use Rattle.std.specs.Prelude.{nat_le}
use Rattle.std.proofs.lemmas.Bool.{leb-true}
use Rattle.guards_model.specs.Missions.{RulesValue, within, is_rules}

both : (a b : Bool) → (a && b) ≡ true → (a ≡ true) × (b ≡ true)
both true b h = (refl, h)
both false b h = absurd cc

pub record AreRanges (r : RulesValue) : Type 0 where
  pub channels : r.channels ≤ 7
  pub some : 1 ≤ r.blocks
  pub blocks : r.blocks ≤ 256
  pub keep : r.keep ≤ 65536
  pub sweep : r.sweep ≤ 64
  pub last : r.last ≤ 64
  pub returning : r.returning ≤ 7

low : (a b n : ℕ) → within a b n ≡ true → a ≤ n
low a b n h = leb-true a n (both (nat_le a n) (nat_le n b) h).0

high : (a b n : ℕ) → within a b n ≡ true → n ≤ b
high a b n h = leb-true n b (both (nat_le a n) (nat_le n b) h).1

pub ranges : (r : RulesValue) → is_rules r ≡ true → AreRanges r
ranges r h =
    let all = both _ _ h in
    let first = both _ _ all.0 in
    let sizes = both _ _ first.0 in
    let counts = both _ _ first.1 in
    let rest = both _ _ all.1 in
    let frames = both _ _ rest.0 in
    let more = both _ _ rest.1 in
    let last = both _ _ more.1 in
    record {
      channels = high 3 7 r.channels sizes.0;
      some = low 1 256 r.blocks sizes.1;
      blocks = high 1 256 r.blocks sizes.1;
      keep = high 0 65536 r.keep counts.0;
      sweep = high 1 64 r.sweep frames.0;
      last = high 0 64 r.last frames.1;
      returning = let two : r.returning ≤ 2 = high 1 2 r.returning last.1 in omega (arith, two);
    }
