use Rattle.std.proofs.Common.{◌∙◌}
use Rattle.std.proofs.lemmas.Result.{err_from_is_err_and}
use Rattle.icn_world.proofs.CyclePassed.{settle_halts, may_work, work_fails, may_vote, vote_halts, may_restore, restore_halts, may_end, passes}
use Rattle.icn_world.proofs.world.World.pass.Goals as goal

pub returns-in_err-reconfiguration : goal.returns-in_err-reconfiguration
returns-in_err-reconfiguration g c =
    let p = err_from_is_err_and c.from_residual.result c.from_residual.ensures.1 in
    rw (p.1, p.2)
    (settle_halts c.args.self.now c.begin-disturbance.result _ (c.begin-disturbance.ensures.active ∙ c.active.ensures)
    c.begin-disturbance.ensures.charged c.in_err-reconfiguration.ensures)

pub work-requires-after_bounds : goal.work-requires-after_bounds
work-requires-after_bounds g c κs within =
    may_work c.args.self.now c.begin-disturbance.result _ (c.begin-disturbance.ensures.active ∙ c.active.ensures)
    c.begin-disturbance.ensures.charged
    c.in_ok-reconfiguration.ensures c.requires

pub returns-in_err-traces : goal.returns-in_err-traces
returns-in_err-traces g c =
    let p = err_from_is_err_and c.from_residual-in_err-traces.result c.from_residual-in_err-traces.ensures.1 in
    rw (p.1, p.2)
    (work_fails c.args.self.now c.begin-disturbance.result _ (c.begin-disturbance.ensures.active ∙ c.active.ensures)
    c.begin-disturbance.ensures.charged
    c.in_ok-reconfiguration.ensures c.work.new.self c.work.ensures.kept)

pub vote-requires : goal.vote-requires
vote-requires g c =
    may_vote c.args.self.now c.begin-disturbance.result _ (c.begin-disturbance.ensures.active ∙ c.active.ensures)
    c.begin-disturbance.ensures.charged
    c.in_ok-reconfiguration.ensures c.work.new.self c.in_ok-traces.ensures.worked.0 c.in_ok-traces.traces.items
    c.work.ensures.kept c.in_ok-traces.ensures.worked.1 c.requires

pub returns-in_err-lines : goal.returns-in_err-lines
returns-in_err-lines g c =
    let p = err_from_is_err_and c.from_residual-in_err-lines.result c.from_residual-in_err-lines.ensures.1 in
    rw (p.1, p.2)
    (vote_halts c.args.self.now c.begin-disturbance.result _ (c.begin-disturbance.ensures.active ∙ c.active.ensures)
    c.begin-disturbance.ensures.charged
    c.in_ok-reconfiguration.ensures c.work.new.self c.in_ok-traces.ensures.worked.0 c.in_ok-traces.traces.items
    c.work.ensures.kept c.in_ok-traces.ensures.worked.1
    c.in_err-lines.ensures)

pub restore-requires : goal.restore-requires
restore-requires g c =
    may_restore c.args.self.now c.begin-disturbance.result _ (c.begin-disturbance.ensures.active ∙ c.active.ensures)
    c.begin-disturbance.ensures.charged
    c.in_ok-reconfiguration.ensures c.work.new.self c.in_ok-traces.ensures.worked.0 c.in_ok-traces.traces.items
    c.work.ensures.kept c.in_ok-traces.ensures.worked.1
    c.in_ok-lines.ensures c.targets-joining.result c.targets-joining.ensures c.requires

pub returns-in_err-restored : goal.returns-in_err-restored
returns-in_err-restored g c =
    let p = err_from_is_err_and c.from_residual-in_err-restored.result c.from_residual-in_err-restored.ensures.1 in
    rw (p.1, p.2)
    (restore_halts c.args.self.now c.begin-disturbance.result _ (c.begin-disturbance.ensures.active ∙ c.active.ensures)
    c.begin-disturbance.ensures.charged
    c.in_ok-reconfiguration.ensures c.work.new.self c.in_ok-traces.ensures.worked.0 c.in_ok-traces.traces.items
    c.work.ensures.kept c.in_ok-traces.ensures.worked.1
    c.in_ok-lines.ensures c.targets-joining.result c.targets-joining.ensures c.in_err-restored.ensures)

pub end-requires : goal.end-requires
end-requires g c =
    may_end c.args.self.now c.begin-disturbance.result _ (c.begin-disturbance.ensures.active ∙ c.active.ensures)
    c.begin-disturbance.ensures.charged
    c.in_ok-reconfiguration.ensures c.work.new.self c.in_ok-traces.ensures.worked.0 c.in_ok-traces.traces.items
    c.work.ensures.kept c.in_ok-traces.ensures.worked.1
    c.in_ok-lines.ensures c.targets-joining.result c.targets-joining.ensures c.in_ok-restored.ensures c.requires

pub returns : goal.returns
returns g c =
    passes c.args.self.now c.begin-disturbance.result _ (c.begin-disturbance.ensures.active ∙ c.active.ensures)
    c.begin-disturbance.ensures.charged
    c.in_ok-reconfiguration.ensures c.work.new.self c.in_ok-traces.ensures.worked.0 c.in_ok-traces.traces.items
    c.work.ensures.kept c.in_ok-traces.ensures.worked.1
    c.in_ok-lines.ensures c.targets-joining.result c.targets-joining.ensures c.in_ok-restored.ensures c.end.new.self
    c.record-part.result c.record-part.ensures c.end.ensures
