use Rattle.room_http.proofs.answer_json.IncidentToJson.write_json.Goals as goal

pub returns : goal.returns
returns g c = rw (← c.merged_into.ensures) c.write_object.ensures
