-- How those are parted from who called where something listens.
use Rattle.std.proofs.Common.{◌≡◌, [], ◌∷◌, Bool, List, Option}
use Rattle.std.specs.declared.time.Duration.{Duration}
use Rattle.room_http_messages.specs.Streams.{Grows}
use Rattle.dispatch_room_sockets.specs.LingeringClose.{IsParted, Step, drains_until}
use Rattle.dispatch_room_tcp.specs.Listeners.{PartsFrom}

-- a peer that was made of two sides is parted from, and then released
pub parts_from : {P : Type 0} (done : P → Option (List Step)) (is_open : P → Bool)
    (answered : P → Option Duration) (peer made last : P)
    (old mid new : Option (List (Option (List Step)))) → made ≡ peer → mid ≡ old
    → ((steps : List Step) × Grows (done made) (done last) steps
    × IsParted (drains_until (is_open made) (answered made)) steps)
    → Grows mid new (done last ∷ []) → PartsFrom done is_open answered peer old new
parts_from done is_open answered peer made last old mid new made_is mid_is parted gone =
    let here = rw made_is at parted in
    record {
      last = last;
      steps = here.0;
      does = here.1;
      is = here.2;
      gone = rw mid_is at gone;
    }
