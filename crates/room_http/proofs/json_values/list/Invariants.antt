use Rattle.std.proofs.Common.{drop, map}
use Rattle.serde.specs.Event.{Log}
use Rattle.serde_json.specs.View.{items_of}
use Rattle.room_http.specs.Objects.{SendsLater}
use Rattle.room_http.proofs.json_values.list.Given as goal

-- what ends the list well after the items that are written ends the whole list well
abbrev pub invariant-loop-item : goal.invariant-loop-item
invariant-loop-item g l =
    (end : Log)
    → SendsLater (items_of (map g.T.ToJson.json (drop l.item-index l.items))) (g.S.Serializer.written l.out) end
    → SendsLater (items_of (map g.T.ToJson.json l.items)) (g.S.Serializer.written l.initial.out) end
