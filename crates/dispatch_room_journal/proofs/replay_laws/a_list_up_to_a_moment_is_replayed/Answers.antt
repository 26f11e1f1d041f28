use Rattle.dispatch_room_journal.proofs.WholeLaws.{whole_up_to_law}
use Rattle.dispatch_room_journal.specs.Replays.{digits_of}
use Rattle.dispatch_room_journal.proofs.replay_laws.a_list_up_to_a_moment_is_replayed.Goals as goal

pub returns : goal.returns
returns g c place =
    whole_up_to_law g.M.Room.step (digits_of g.M.Digested.digest_of place) g.M.Room.is_trusted g.M.Room.stands
