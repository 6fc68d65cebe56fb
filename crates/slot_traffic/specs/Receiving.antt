-- To whom a frame goes.
use Rattle.std.specs.Prelude.{ℕ, List, [], ◌∷◌}
use Rattle.guards_model.specs.Network.{switchboard}
use Rattle.slot_traffic.specs.declared.receivers.Receivers.{Receivers}
use Rattle.slot_traffic.specs.declared.receivers.Receivers.TheVariants.{Channels, Switchboard}

abbrev pub receiver_numbers : Receivers → List ℕ
receiver_numbers (Channels set) = set
receiver_numbers Switchboard = switchboard ∷ []
