-- A frame counts only in its own slot.
use Rattle.std.proofs.Common.{◌≡◌, ℕ, ◌==◌, Bool, true, false, cond, ◌&&◌, Option, Some, None, refl, sym, subst, ◌∙◌}
use Rattle.std.specs.Prelude.{option_and_then, find}
use Rattle.std.proofs.lemmas.Bool.{eqb-true}
use Rattle.guards_model.specs.declared.Slot.{Slot}
use Rattle.guards_model.specs.Slots.{round_number}
use Rattle.guards_model.specs.Missions.{MissionValue, FormatValue, format_of}
use Rattle.guards_model.specs.Frames.{FrameValue, BodyValue, exchange_body, ExchangeValue}
use Rattle.guards_model.specs.Fields.{frame_in}
use Rattle.guards_model.specs.Network.{EntryValue, Log, is_carry, counting, suits}
use Rattle.guards_model.proofs.BoolTests.{both}
use Rattle.guards_runs.specs.Cycles.{cycle_at}
use Rattle.guards_world.specs.NodeLists.{Bodies, AreOfRound}
use Rattle.guards_world.specs.Arrivals.{AreArrivals}

suited : (format : FormatValue) (c : ℕ) (slot : Slot) (from to : ℕ) (frame : Option FrameValue) (x : ExchangeValue) →
    option_and_then (counting format c slot from to) frame ≡ Some (exchange_body x) → x.round ≡ round_number slot
suited format c slot from to None x is = absurd cc
suited format c slot from to (Some f) x is =
    by_test ((f.version == format.version && (f.sender == from && f.cycle == c)) && suits format slot to f.body) refl is
  where
    by_test : (b : Bool) → ((f.version == format.version && (f.sender == from && f.cycle == c))
        && suits format slot to f.body) ≡ b → cond b (Some f.body) None ≡ Some (exchange_body x) →
        x.round ≡ round_number slot
    by_test true test k =
        let same : f.body ≡ exchange_body x = cc in
        let fits = both (f.version == format.version && (f.sender == from && f.cycle == c))
        (suits format slot to f.body) test in
        sym (eqb-true (round_number slot) x.round
        (subst (λ (b : BodyValue). suits format slot to b ≡ true) same fits.1))
    by_test false test k = absurd cc

pub of_round : (M : MissionValue) (L : Log) (n : ℕ) (slot : Slot) (got : Bodies) → AreArrivals M L n slot got →
    AreOfRound (round_number slot) got
of_round M L n slot got are j q x is =
    suited (format_of M) n slot j q
    (option_and_then frame_in
    (option_and_then (λ (y : EntryValue). y.delivered) (find (is_carry n slot j q) (cycle_at M L n).entries))) x
    (sym (are j q) ∙ is)
