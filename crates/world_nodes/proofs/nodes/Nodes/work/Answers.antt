use denote.Param.Send.{param_sync}
use Rattle.std.proofs.Crossing.{sync}
use Rattle.world_nodes.proofs.Crossing.{mission_shares, number_shares}
use Rattle.world_nodes.proofs.nodes.Nodes.work.Lts as lts
use Rattle.world_nodes.proofs.nodes.Nodes.work.Goals as goal

-- the closure may be shared, since each of the six that it captures may be: the threads, the heap, the mission, the
-- cycle's number, the gate and the natives
pub each_beside-list-requires-sync-F : goal.each_beside-list-requires-sync-F
each_beside-list-requires-sync-F g c κs within =
    param_sync 1 (lts.arg-2-1 g.row.C g.row.G g.row.R g.C.laws g.G.laws g.R.laws g.C.Calls-dict g.G.Gate-dict
    g.R.Threads-dict g.R.Wait-dict κs)
    (record {
      shared = λ x b o κ. (
        (
          (λ q. tt, c.type_bounds.sync-R.shared x.0.now x.0.ref_ptr.0 x.0.ref_ptr.1 _),
          (
            (λ q. tt, sync.shared x.1.now x.1.ref_ptr.0 x.1.ref_ptr.1 κ),
            (
              (λ q. tt, mission_shares.shared x.2.now x.2.ref_ptr.0 x.2.ref_ptr.1 _),
              (
                (λ q. tt, number_shares.shared x.3.now x.3.ref_ptr.0 x.3.ref_ptr.1 κ),
                (
                  (λ q. tt, c.type_bounds.sync-G.shared x.4.now x.4.ref_ptr.0 x.4.ref_ptr.1 _),
                  ((λ q. tt, c.type_bounds.sync-C.shared x.5.now x.5.ref_ptr.0 x.5.ref_ptr.1 _), tt),
                ),
              ),
            ),
          ),
        ),
        λ q. tt,
      );
    })
