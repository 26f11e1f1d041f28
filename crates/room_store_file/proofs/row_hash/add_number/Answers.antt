use Rattle.room_store_file.proofs.Added.{last_added, less_left}
use Rattle.room_store_file.proofs.Numbers.{number_ends, number_goes_on}
use Rattle.room_store_file.proofs.row_hash.add_number.Goals as goal

pub loop-rest-preserved : goal.loop-rest-preserved
loop-rest-preserved c =
    less_left (number_goes_on c.loop-rest.rest c.loop-rest-test.true) c.loop-rest.invariant c.add.ensures

pub returns : goal.returns
returns c = last_added (number_ends c.loop-rest.rest c.loop-rest-test.false) c.loop-rest.invariant c.add-2.ensures
