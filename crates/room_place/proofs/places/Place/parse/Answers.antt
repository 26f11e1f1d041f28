use Rattle.std.proofs.Common.{◌∙◌}
use Rattle.room_place.proofs.ReferenceLaws.{parse-reference, parsed_fault, parsed_place}
use Rattle.room_place.proofs.places.Place.parse.Goals as goal

pub returns-clause-place : goal.returns-clause-place
returns-clause-place c = parsed_place c.args.text.now c.read.result c.read.ensures

pub returns-clause-only : goal.returns-clause-only
returns-clause-only c place is = c.read.ensures ∙ parse-reference c.args.text.now place is

pub returns-clause-fault : goal.returns-clause-fault
returns-clause-fault c = parsed_fault c.args.text.now c.read.result c.read.ensures
