-- Tables with a place for each channel.
use Rattle.std.specs.Prelude.{◌≡◌, ◌<◌, List, length, slice_get, Some}
use Rattle.guards_model.specs.Channels.{Channel}

-- at each channel's place stands a value of which P holds
abbrev pub IsTableOf : {A : Type 0} → (Channel → A → Type 0) → List A → Type 0
IsTableOf {A} P table = (length table ≡ 7) × ((q : Channel) → q < 7 → (x : A) × (slice_get table q ≡ Some x) × P q x)
