use Rattle.room_http.proofs.answer_json.HistoryToJson.write_json.Goals as goal

pub returns : goal.returns
returns g c = rw (← c.merged_into.ensures, ← c.number.ensures) c.write_object.ensures
