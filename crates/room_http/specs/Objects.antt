-- What is sent of a value and of an object, as events of serde's.
use Rattle.std.specs.Prelude.{◌≡◌, ◌≤◌, false}
use Rattle.serde.specs.Event.{Log}
use Rattle.serde_json.specs.Data.{Data, Items, Members}
use Rattle.serde_json.specs.Events.{SendsItems, SendsMembers, SendsValue, members_len}
use Rattle.serde_json.specs.Written.{has_float, items_have_float, members_have_float}

-- the value's events follow those that were sent before; no number in it has a point
unfoldable pub Sends : Data → Log → Log → Type 0
Sends json old new = SendsValue json old new × (has_float json ≡ false)

-- so do those of an object's later members and of its end
unfoldable pub SendsRest : Members → Log → Log → Type 0
SendsRest members old new = SendsMembers members old new × (members_have_float members ≡ false)

-- and those of an array's later items and of its end
abbrev pub SendsLater : Items → Log → Log → Type 0
SendsLater items old new = SendsItems items old new × (items_have_float items ≡ false)

-- an object has so few members that they can be counted
abbrev pub AreCountable : Members → Type 0
AreCountable members = members_len members ≤ 255
