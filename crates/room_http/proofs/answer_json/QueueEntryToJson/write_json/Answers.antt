use Rattle.room_http.proofs.answer_json.QueueEntryToJson.write_json.Goals as goal

pub returns : goal.returns
returns g c = rw (← c.callsign_or_empty-vehicle.ensures) c.write_object.ensures
