-- The value of what closing a cycle answers.
use Rattle.guards_model.specs.Controls.{ClosedValue}
use Rattle.control_state.specs.declared.control.Closed.{Closed}

abbrev pub closed_value : Closed → ClosedValue
closed_value c = record { joined = c.joined; start = c.start; remaining = c.remaining; rest = c.rest }
