-- What the events of a run say of its log and of its rounds. This project's own.
use Rattle.std.specs.Prelude.{◌==◌, List, filter_map, Option, Some, None, if◌then◌else◌}
use Rattle.guards_model.specs.declared.Actor.{Actor}
use Rattle.guards_model.specs.declared.Actor.TheVariants.{Task, Sweep}
use Rattle.guards_model.specs.Channels.{Channel}
use Rattle.guards_model.specs.Network.{EntryValue, Log}
use Rattle.guards_runs.specs.Events.{Event, task_step, copy_step, deliver, crashed, restarted, waited, damaged, sensed, tick}

-- the entry that an event delivers
abbrev pub entry_delivered : Event → Option EntryValue
entry_delivered (deliver entry) = Some entry
entry_delivered (task_step p) = None
entry_delivered (copy_step p) = None
entry_delivered (crashed p) = None
entry_delivered (restarted p) = None
entry_delivered (waited p) = None
entry_delivered (damaged p block word value) = None
entry_delivered (sensed p words) = None
entry_delivered tick = None

-- what some events deliver, in order
abbrev pub delivered : List Event → Log
delivered events = filter_map entry_delivered events

-- the step of a channel's round that an event is
abbrev pub step_by : Channel → Event → Option Actor
step_by p (task_step q) = if q == p then Some Task else None
step_by p (copy_step q) = if q == p then Some Sweep else None
step_by p (deliver entry) = None
step_by p (crashed q) = None
step_by p (restarted q) = None
step_by p (waited q) = None
step_by p (damaged q block word value) = None
step_by p (sensed q words) = None
step_by p tick = None

-- the steps of a channel's round among some events, in order
abbrev pub steps_among : Channel → List Event → List Actor
steps_among p events = filter_map (step_by p) events
