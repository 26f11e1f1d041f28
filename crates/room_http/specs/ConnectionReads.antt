-- What was read of a connection, as it is answered.
use Rattle.std.specs.Prelude.{◌≡◌, ℕ, List, drop, Result, Ok, Err}
use Rattle.room_http_messages.specs.declared.messages.Layout.{Layout}
use Rattle.room_http_messages.specs.declared.read_faults.Unread.{Unread}
use Rattle.room_http_messages.specs.declared.read_faults.Unread.TheVariants.{End, Cut, ReadFault}
use Rattle.room_http_messages.specs.declared.read_faults.Unread.TheVariants.{ReadsSpent, Refused}
use Rattle.room_http_messages.specs.Messages.{HasMessage}
use Rattle.room_http.specs.declared.session.ServeEnd.{ServeEnd}
use Rattle.room_http.specs.declared.session.ServeEnd.TheVariants as ends
use Rattle.room_http.specs.Arrivals.{Arrival, message, refused}

-- what was read is this arrival: the message at the front of the bytes that are kept, or what is
-- refused
abbrev pub IsReadAs : List ℕ → Result Layout Unread → Arrival → Type 0
IsReadAs kept (Ok layout) (message m) = HasMessage kept m (drop layout.body.end kept)
IsReadAs kept (Ok layout) (refused r head_only) = ⊥
IsReadAs kept (Err (Refused r head_only)) o = o ≡ refused r head_only
IsReadAs kept (Err e) o = ⊥

-- reading stopped, and with it serving ends so
abbrev pub EndsAs : Result Layout Unread → ServeEnd → Type 0
EndsAs (Err End) end = end ≡ ends.Closed
EndsAs (Err Cut) end = end ≡ ends.Cut
EndsAs (Err ReadFault) end = end ≡ ends.ReadFault
EndsAs (Err ReadsSpent) end = end ≡ ends.ReadsSpent
EndsAs read end = ⊥

-- the bytes that are kept once it was answered
abbrev pub kept_after : List ℕ → Result Layout Unread → List ℕ
kept_after kept (Ok layout) = drop layout.body.end kept
kept_after kept (Err e) = kept
