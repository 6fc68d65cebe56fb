use Rattle.std.proofs.Common.{◌≤◌, ℕ, get_or, arith}
use Rattle.guards_model.proofs.Numbers.{small_at}
use Rattle.icn_frames.proofs.encoding.packed.Goals as goal

pub overflow_add-result-5 : goal.overflow_add-result-5
overflow_add-result-5 c =
    let small : (k : ℕ) → get_or c.args.codes.now k 0 ≤ 2 = λ k. small_at c.args.codes.now k c.requires in
    omega (
      arith,
      c.from.ensures,
      c.from-2.ensures,
      c.from-3.ensures,
      c.from-4.ensures,
      c.from-5.ensures,
      c.from-6.ensures,
      small 0,
      small 1,
      small 2,
      small 3,
      small 4,
      small 5,
    )

pub overflow_add-result-6 : goal.overflow_add-result-6
overflow_add-result-6 c =
    let small : (k : ℕ) → get_or c.args.codes.now k 0 ≤ 2 = λ k. small_at c.args.codes.now k c.requires in
    omega (
      arith,
      c.from.ensures,
      c.from-2.ensures,
      c.from-3.ensures,
      c.from-4.ensures,
      c.from-5.ensures,
      c.from-6.ensures,
      c.from-7.ensures,
      small 0,
      small 1,
      small 2,
      small 3,
      small 4,
      small 5,
      small 6,
    )
