use Rattle.room_http.proofs.answer_json.AnswerToJson.write_json.Goals as goal

pub returns-in-Called : goal.returns-in-Called
returns-in-Called g c = rw c.in-Called.is c.write_object.ensures

pub returns-in-Incidents : goal.returns-in-Incidents
returns-in-Incidents g c = rw c.in-Incidents.is c.write_object-in-Incidents.ensures

pub returns-in-Incident : goal.returns-in-Incident
returns-in-Incident g c = rw c.in-Incident.is c.write_json.ensures

pub returns-in-Job : goal.returns-in-Job
returns-in-Job g c = rw c.in-Job.is c.write_json-in-Job.ensures
