-- Changes of a room other than those by its messages and by its fleets: of its terminals, and of
-- its plan.
use Rattle.std.specs.Prelude.{List, Result, codes, flat_map, true, unwrap_or, [], ℕ, ◌++◌, ◌∷◌, ◌≡◌}
use Rattle.std.specs.Prelude.{◌≢◌, ◌⊎◌}
use Rattle.std.specs.List.{All}
use Rattle.sqlite.specs.Held.{Held}
use Rattle.sqlite_trees.specs.declared.store.Store.{Ghosts}
use Rattle.room_types.specs.Texts.{is_token}
use Rattle.room_types.specs.declared.asks.Who.{Who}
use Rattle.room_types.specs.declared.fleet.Terminal.{Terminal}
use Rattle.room_store.specs.declared.store.Store.{Store}
use Rattle.dispatch_room_csv.specs.PlanFile.{IsPlanText}
use Rattle.dispatch_room_cli.specs.TerminalNames.{IsWho, who_text}
use Rattle.dispatch_room_exit.specs.declared.exit_status.Failure.{Failure}
use Rattle.dispatch_room_tasks.specs.ChangedTerminals.{HasChanged}
use Rattle.dispatch_room_tasks.specs.OpenedRoom.{HoldsNone, IsUnopened, OpensRoom}
use Rattle.dispatch_room_tasks.specs.ReplacedTerminals.{HasReplaced}
use Rattle.dispatch_room_tasks.specs.ReplannedRoom.{HasReplanned}
use Rattle.dispatch_room_lists.specs.declared.room_changes.RoomChange.{RoomChange}
use Rattle.room_tables_schema.specs.FileConnections.{IsClean}
use Rattle.dispatch_room_lists.specs.declared.room_changes.RoomChange.TheVariants as change

-- ---- its text
-- the line of a user and its token, which is empty if the user has no terminal
abbrev pub terminal_line : Who → List ℕ → List ℕ
terminal_line who token = who_text who ++ codes "," ++ token ++ codes "\n"

-- the line of a terminal
abbrev pub line_of : Terminal → List ℕ
line_of terminal = terminal_line terminal.who terminal.token

-- lines under their header
abbrev pub terminals_text : List ℕ → List ℕ
terminals_text lines = codes "terminal,token\n" ++ lines

-- The text of a change in a list: what terminals the users have afterwards whom the change names,
-- or the text of a plan's file.
abbrev pub IsTextOf : RoomChange → List ℕ → Type 0
IsTextOf (change.Token one) text =
    text ≡ terminals_text (terminal_line one.who (unwrap_or one.token []))
IsTextOf (change.Terminals listed) text = text ≡ terminals_text (flat_map line_of listed.items)
IsTextOf (change.Plan file) text = IsPlanText text file

-- a terminal that there may be
abbrev pub IsTerminal : Terminal → Type 0
IsTerminal terminal = IsWho terminal.who × (is_token terminal.token ≡ true)

-- The text is that of no change of terminals: neither of a user who has none any more, nor of any
-- list of terminals (a user's only terminal is such a list, too).
pub record IsNoTerminals (text : List ℕ) : Type 0 where
  pub no_one : (who : Who) → IsWho who → text ≢ terminals_text (terminal_line who [])
  pub no_list : (listed : List Terminal) → All IsTerminal listed
      → text ≢ terminals_text (flat_map line_of listed)

-- ---- the lines under its header
-- the lines are those of no list of terminals
abbrev pub AreNoLines : List ℕ → Type 0
AreNoLines lines =
    (listed : List Terminal) → All IsTerminal listed → lines ≢ flat_map line_of listed

-- the lines are not the one of someone who has no token
abbrev pub IsOfNoOne : List ℕ → Type 0
IsOfNoOne lines = (who : Who) → IsWho who → lines ≢ terminal_line who []

-- where the lines are those of a list of terminals, they are read as these
abbrev pub AreReadAs : List ℕ → List Terminal → Type 0
AreReadAs lines found =
    (listed : List Terminal) → All IsTerminal listed → lines ≡ flat_map line_of listed
    → found ≡ listed

-- a line, without its end, is that of this terminal (44 is the code of a comma)
pub record IsEntry (line : List ℕ) (terminal : Terminal) : Type 0 where
  pub is_terminal : IsTerminal terminal
  pub written : line ≡ who_text terminal.who ++ 44 ∷ terminal.token

-- or of none
abbrev pub IsNoEntry : List ℕ → Type 0
IsNoEntry line = (terminal : Terminal) → ¬ IsEntry line terminal

-- the terminal of a line is added to those before it, where it has one
abbrev pub AddsLine : List ℕ → List Terminal → List Terminal → Type 0
AddsLine line old new = (IsNoEntry line × (new ≡ old))
    ⊎ ((terminal : Terminal) × IsEntry line terminal × (new ≡ old ++ (terminal ∷ [])))

-- ---- what it does
-- In a database the change was made, in one transaction; or the room is as it was, for this.
abbrev pub Makes : {S : Type 0} → Ghosts S → Held S → Held S → RoomChange
    → Result (Unit {0}) Failure → Type 0
Makes g old new (change.Token one) done = HasChanged g old new one.who one.token done
Makes g old new (change.Terminals listed) done = HasReplaced g old new listed.items done
Makes g old new (change.Plan file) done = HasReplanned g old new file done

-- A room was closed, the change made in its database, or not for this, and the room of that
-- database was opened again.
pub record Remakes {S : Type 0} (g : Ghosts S) (old new : Store S) (change : RoomChange)
    (done : Result (Unit {0}) Failure) : Type 0 where
  pub changed : Held S
  pub made : Makes g old.conn changed change done
  pub opens : IsClean g new.conn → OpensRoom g changed new
  pub clean : IsClean g new.conn → IsClean g old.conn

-- or none was opened again, before the change or after it
abbrev pub LosesRoom : {S : Type 0} → Ghosts S → Store S → RoomChange → Failure → Type 0
LosesRoom {S} g old change fault = HoldsNone g old.conn fault
    ⊎ ((changed : Held S) × (done : Result (Unit {0}) Failure)
    × Makes g old.conn changed change done × IsUnopened g changed fault)
