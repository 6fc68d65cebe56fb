use Rattle.std.proofs.Common.{rules}
use Rattle.icn_world.proofs.WorldWorked.{may_work_by, made_by, work_by}
use Rattle.icn_world.proofs.world.World.work.Goals as goal

pub work-requires : goal.work-requires
work-requires g c =
    let may = may_work_by c.args.self.now _ c.self.view_is c.requires in
    search (rules, may)

pub returns-clause-worked : goal.returns-clause-worked
returns-clause-worked g c = (
  made_by c.work.new.self,
  λ earlier current steps inside.
      work_by c.args.self.now _ earlier current steps c.work.new.self c.in_ok-traces.traces.items c.self.view_is inside
      c.in_ok-traces.ensures.worked c.in_ok-traces.ensures.traces,
)
