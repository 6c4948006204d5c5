-- A session that is sent, as the headline takes one.
use Rattle.std.specs.Prelude.{◌==◌, if◌then◌else◌, None, option_map}
use Rattle.sender_plan.specs.Session.{object_of}
use Rattle.sender_plan.specs.Session as plans
use Rattle.sender_schedule.specs.Datagram.{sent_of}
use Rattle.held_packets.specs.Session.{Session}

-- its objects by their identifiers, which are counted from 1
abbrev pub objects_sent : plans.Session → Session
objects_sent s toi = if toi == 0 then None else option_map sent_of (object_of s toi)
