use Rattle.std.proofs.Common.{rules, ◌≤◌, ◌+◌, ◌*◌, take, drop, List, ℕ, ◌∷◌, sym, ap, ◌∙◌, arith}
use Rattle.guards_audit.specs.Lines.{lines_in}
use Rattle.guards_audit.specs.Consistency.{at_head, following_place}
use Rattle.run_audit.specs.Values.{line_value, sizes_of}
use Rattle.run_audit.proofs.Loop.{unread, unsuited, suited, stops_here, goes_on, over, early, begins, reads_none, reads_some, not_taken, taken, no_lines}
use Rattle.guards_audit.proofs.LinesBack.{line_is}
use Rattle.told_cycles.proofs.EndLemmas.{cycles_few}
use Rattle.run_audit.proofs.Bounds.{leads_on, rank_low}
use Rattle.run_audit.proofs.verdict.verdict_on.Goals as goal

pub loop-rest-init : goal.loop-rest-init
loop-rest-init g c = (at_head, c.requires, begins c.args.mission.now c.args.trace.now, tt, omega arith)

pub returns-in_default : goal.returns-in_default
returns-in_default g c =
    let v = c.loop-rest.invariant in
    let now : List ℕ = take c.line_len.result c.loop-rest.rest.now in
    stops_here c.args.mission.now c.args.trace.now c.loop-rest.rest.now c.loop-rest.line v.0 v.2 now
    (drop c.line_len.result c.loop-rest.rest.now) c.line_len.ensures.cut
    (unread c.args.mission.now v.0 c.loop-rest.auditor now c.prove_sizes.ensures.seven c.prove_mission.ensures v.1
    (reads_none c.sizes.result (sizes_of c.args.mission.now) now c.split_at.result.0.now c.in_ok-read.field-0
    c.in_ok-read.ensures c.in_default.is c.sizes.ensures.value c.split_at.ensures.front))

pub returns-then-not-take : goal.returns-then-not-take
returns-then-not-take g c =
    let v = c.loop-rest.invariant in
    let now : List ℕ = take c.line_len.result c.loop-rest.rest.now in
    stops_here c.args.mission.now c.args.trace.now c.loop-rest.rest.now c.loop-rest.line v.0 v.2 now
    (drop c.line_len.result c.loop-rest.rest.now) c.line_len.ensures.cut
    (unsuited c.args.mission.now v.0 now (line_value (sizes_of c.args.mission.now) c.in-Some.read)
    (reads_some c.sizes.result (sizes_of c.args.mission.now) now c.split_at.result.0.now c.in_ok-read.field-0
    c.in-Some.read c.in_ok-read.ensures c.in-Some.is c.sizes.ensures.value c.split_at.ensures.front)
    (not_taken c.args.mission.now v.0 (line_value (sizes_of c.args.mission.now) c.in-Some.read) c.take.new.auditor
    c.take.result (c.take.ensures v.0 v.1) c.if-not-take.true))

pub loop-rest-preserved : goal.loop-rest-preserved
loop-rest-preserved g c =
    let v = c.loop-rest.invariant in
    let now : List ℕ = take c.line_len.result c.loop-rest.rest.now in
    let done = taken c.args.mission.now v.0 (line_value (sizes_of c.args.mission.now) c.in-Some.read) c.take.new.auditor
    c.take.result (c.take.ensures v.0 v.1) c.if-not-take.false in
    let read = reads_some c.sizes.result (sizes_of c.args.mission.now) now c.split_at.result.0.now c.in_ok-read.field-0
    c.in-Some.read c.in_ok-read.ensures c.in-Some.is c.sizes.ensures.value c.split_at.ensures.front in
    let leads = leads_on c.args.mission.now v.0 (line_value (sizes_of c.args.mission.now) c.in-Some.read)
    (line_is now (line_value (sizes_of c.args.mission.now) c.in-Some.read) read).1 done.0 v.3 in (
      following_place c.args.mission.now v.0 (line_value (sizes_of c.args.mission.now) c.in-Some.read),
      done.1,
      goes_on c.args.mission.now c.args.trace.now c.loop-rest.rest.now c.loop-rest.line v.0 v.2 now
          c.split_at.result.1.now (following_place c.args.mission.now v.0
          (line_value (sizes_of c.args.mission.now) c.in-Some.read))
          (c.line_len.ensures.cut ∙ ap (λ xs. now ∷ lines_in xs) (sym c.split_at.ensures.back))
          (suited c.args.mission.now v.0 now (line_value (sizes_of c.args.mission.now) c.in-Some.read) read done.0),
      leads.placed,
      omega (arith, leads.more, v.4),
    )

pub overflow_add-line : goal.overflow_add-line
overflow_add-line g c =
    let v = c.loop-rest.invariant in
    let most : c.loop-rest.line ≤ 3 + 17 * 2000 =
    omega (
      arith,
      v.4,
      rank_low c.args.mission.now v.0 v.3,
      cycles_few c.args.mission.now c.prove_mission.ensures,
    ) in
    omega arith

pub take-requires : goal.take-requires
take-requires g c = (c.loop-rest.invariant.0, c.loop-rest.invariant.1)

pub read_line-requires : goal.read_line-requires
read_line-requires g c = c.sizes.ensures.used

pub returns-then-is_over : goal.returns-then-is_over
returns-then-is_over g c =
    let v = c.loop-rest.invariant in
    over c.args.mission.now c.args.trace.now c.loop-rest.rest.now c.loop-rest.line v.0 v.2
    (no_lines c.loop-rest.rest.now (search rules))
    (sym (c.is_over.ensures c.args.mission.now v.0 v.1) ∙ c.if-is_over.true)

pub returns : goal.returns
returns g c =
    let v = c.loop-rest.invariant in
    early c.args.mission.now c.args.trace.now c.loop-rest.rest.now c.loop-rest.line v.0 v.2
    (no_lines c.loop-rest.rest.now (search rules))
    (sym (c.is_over.ensures c.args.mission.now v.0 v.1) ∙ c.if-is_over.false)
