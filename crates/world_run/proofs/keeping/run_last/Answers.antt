use Rattle.std.proofs.Common.{◌≡◌, ◌++◌, ◌∙◌, ap, sym, subst}
use Rattle.flight_log.specs.Kept.{Kept}
use Rattle.guards_runs.specs.IdealReport.{head, last}
use Rattle.guards_io.specs.Views.{SinkView}
use Rattle.guards_io.specs.Writes.{Puts}
use Rattle.world_run.specs.Keeping.{KeepsTo, RunsLast, TellsKept, kept_text}
use Rattle.std.specs.Prelude.{option_map}
use Rattle.run_laws.specs.Driving.{first_gate}
use Rattle.run_laws.proofs.Driving.{mission_begins}
use Rattle.world_run.proofs.Keepings.{kept_mission, last_done, last_halted, not_begun}
use Rattle.world_run.proofs.keeping.run_last.Goals as goal

pub returns-in_default : goal.returns-in_default
returns-in_default g c =
    let start = g.B.Bus.seen c.args.bus.now in
    let out = g.K.Sink.seen c.args.out.now in
    let M = c.args.world.now.mission in
    not_begun g.B.Bus.may c.args.last c.args.trace M M.actuator start out (option_map first_gate M.actuator)
    (mission_begins g.B.Bus.may M start c.requires.mission c.requires.loaded)

pub returns-in_default-new : goal.returns-in_default-new
returns-in_default-new g c =
    let start = g.B.Bus.seen c.args.bus.now in
    let out = g.K.Sink.seen c.args.out.now in
    let M = c.args.world.now.mission in
    not_begun g.B.Bus.may c.args.last c.args.trace M M.actuator start out (option_map first_gate M.actuator)
    (mission_begins g.B.Bus.may M start c.requires.mission c.requires.loaded)

pub returns-in-Ok-keep_cycles : goal.returns-in-Ok-keep_cycles
returns-in-Ok-keep_cycles g c =
    let M = c.args.world.now.mission in
    let w = c.keep_cycles.new.world in
    let log = c.keep_cycles.new.log in
    let gate = c.keep_cycles.new.actuator in
    let start = g.B.Bus.seen c.args.bus.now in
    let bus = g.B.Bus.seen c.keep_cycles.new.bus in
    let out : SinkView = g.K.Sink.seen c.args.out.now in
    let out' : SinkView = g.K.Sink.seen c.put_kept.new.out in
    let at = subst (λ r. KeepsTo g.B.Bus.may c.args.last c.args.trace M M.actuator start M.cycles w bus gate log r)
    c.in-Ok-keep_cycles.is
    (subst (λ k. KeepsTo g.B.Bus.may k c.args.trace M M.actuator start M.cycles w bus gate log c.keep_cycles.result)
    (ap (λ (l : Kept). l.room) c.in-Ok-new.ensures) c.keep_cycles.ensures) in
    let first : c.in-Ok.head ≡ head M = c.in-Ok.ensures ∙ ap head c.mission.ensures in
    let wrote : Puts out out' (kept_text (head M) log.parts ++ last M) c.put_kept.result =
    subst (λ h. Puts out out' (kept_text h log.parts ++ last M) c.put_kept.result) first
    (subst (λ m. Puts out out' (kept_text c.in-Ok.head log.parts ++ last m) c.put_kept.result)
    (c.mission-in-Ok-keep_cycles.ensures
    ∙ kept_mission g.B.Bus.may c.args.last c.args.trace M M.actuator start w bus gate log at.0)
    c.put_kept.ensures) in
    subst (λ r. RunsLast g.B.Bus.may c.args.last c.args.trace M M.actuator start bus out out' r)
    (sym c.run_result.ensures)
    (last_done g.B.Bus.may c.args.last c.args.trace M M.actuator start w bus gate log out out' at.0 at.1
    c.put_kept.result wrote)

pub returns : goal.returns
returns g c =
    let M = c.args.world.now.mission in
    let w = c.keep_cycles.new.world in
    let log = c.keep_cycles.new.log in
    let gate = c.keep_cycles.new.actuator in
    let start = g.B.Bus.seen c.args.bus.now in
    let bus = g.B.Bus.seen c.keep_cycles.new.bus in
    let out : SinkView = g.K.Sink.seen c.args.out.now in
    let out' : SinkView = g.K.Sink.seen c.tell_kept.new.out in
    let at = subst (λ r. KeepsTo g.B.Bus.may c.args.last c.args.trace M M.actuator start M.cycles w bus gate log r)
    c.in-Err.is
    (subst (λ k. KeepsTo g.B.Bus.may k c.args.trace M M.actuator start M.cycles w bus gate log c.keep_cycles.result)
    (ap (λ (l : Kept). l.room) c.in-Ok-new.ensures) c.keep_cycles.ensures) in
    let first : c.in-Ok.head ≡ head M = c.in-Ok.ensures ∙ ap head c.mission.ensures in
    let told : TellsKept c.in-Err.halt (kept_text (head M) log.parts) out out' c.tell_kept.result =
    subst (λ h. TellsKept c.in-Err.halt (kept_text h log.parts) out out' c.tell_kept.result) first
    c.tell_kept.ensures in
    last_halted g.B.Bus.may c.args.last c.args.trace M M.actuator start bus log out out' c.in-Err.halt
    c.tell_kept.result at told
