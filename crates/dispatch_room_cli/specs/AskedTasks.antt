-- What a command asks for, by its name and what is given behind it, and what is wrong with that.
use Rattle.std.specs.Prelude.{Bool, IsTrue, List, None, Option, Some, codes, false, true, ℕ, ◌<◌}
use Rattle.std.specs.Prelude.{◌^◌, ◌↔◌, ◌≡◌, ◌≤◌, ◌⊎◌}
use Rattle.std.specs.Borrow.{Bor}
use Rattle.std.specs.Net.Grammar.{IsSocketText}
use Rattle.std.specs.declared.net.socket_addr.SocketAddr.{SocketAddr}
use Rattle.std.specs.Str.Parse.{IsNumeral, digits_value, without_leading_plus}
use Rattle.clap.specs.Words.{Row, Text, first_of, found_of, one_of, rows_of, subcommand_of}
use Rattle.clap.specs.Words.{subcommand_rows_of}
use Rattle.clap.specs.declared.parser.matches.ArgMatches.{ArgMatches}
use Rattle.room_types.specs.declared.asks.Who.{Who}
use Rattle.dispatch_room_cli.specs.CommandForms.{AreForms, program_of}
use Rattle.dispatch_room_cli.specs.DatabaseNames.{IsApart, IsOfDatabase}
use Rattle.dispatch_room_cli.specs.TerminalNames.{Names, NamesNobody}
use Rattle.dispatch_room_cli.specs.declared.argument_parser.Mistake.{Mistake}
use Rattle.dispatch_room_cli.specs.declared.argument_parser.Mistake.TheVariants as mistake
use Rattle.dispatch_room_cli.specs.declared.command_options.CommandForm.{CommandForm}
use Rattle.dispatch_room_cli.specs.declared.tasks.Color.{Color}
use Rattle.dispatch_room_cli.specs.declared.tasks.Color.TheVariants as color
use Rattle.dispatch_room_cli.specs.declared.tasks.Journal.{Journal}
use Rattle.dispatch_room_cli.specs.declared.tasks.Look.{Look}
use Rattle.dispatch_room_cli.specs.declared.tasks.Replay.{Replay as Replayed}
use Rattle.dispatch_room_cli.specs.declared.tasks.Service.{Service}
use Rattle.dispatch_room_cli.specs.declared.tasks.Task.{Task}
use Rattle.dispatch_room_cli.specs.declared.tasks.Task.TheVariants.{Board, Check, Digest, Import}
use Rattle.dispatch_room_cli.specs.declared.tasks.Task.TheVariants.{Init, JoinedTimes, Migrate}
use Rattle.dispatch_room_cli.specs.declared.tasks.Task.TheVariants.{Renew, Replan, Replay, Restore}
use Rattle.dispatch_room_cli.specs.declared.tasks.Task.TheVariants.{Serve, SetTerminals, Terminals}
use Rattle.dispatch_room_cli.specs.declared.tasks.Task.TheVariants.{Times, Verify}
use Rattle.dispatch_room_cli.specs.declared.tasks.Terminals.{Terminals as Wanted}
use Rattle.dispatch_room_cli.specs.declared.tasks.Terminals.TheVariants as wanted
use Rattle.dispatch_room_cli.specs.declared.tasks.TokenPlace.{TokenPlace}
use Rattle.dispatch_room_cli.specs.declared.tasks.TokenPlace.TheVariants.{File, Word}

-- the text writes this number of so many bits, in decimal digits, behind a plus or without one
pub record Writes (bits : ℕ) (text : List ℕ) (number : ℕ) : Type 0 where
  pub digits : IsNumeral 10 (without_leading_plus text)
  pub value : digits_value 10 (without_leading_plus text) ≡ number
  pub small : number < 2 ^ bits

-- what clap found behind a command's name
abbrev pub given_in : ArgMatches → List Row
given_in matches = rows_of (found_of matches)

-- what is given, by its name
module _ (given : List Row) where
  abbrev pub Has : Text → Text → Type 0
  Has name text = first_of name given ≡ Some text

  abbrev pub HasNone : Text → Type 0
  HasNone name = first_of name given ≡ None

  -- a number of so many bits is given
  abbrev pub HasNumber : ℕ → Text → ℕ → Type 0
  HasNumber bits name number =
      (text : Text) × (one_of name given ≡ Some text) × Writes bits text number

  abbrev pub HasNoNumber : ℕ → Text → Type 0
  HasNoNumber bits name = (number : ℕ) → ¬ HasNumber bits name number

  -- a flag: clap has `true` for one that is given, and `false` for one that is not
  abbrev pub IsFlag : Text → Bool → Type 0
  IsFlag name flag = (one_of name given ≡ Some (codes "true") → flag ≡ true)
      × (one_of name given ≡ Some (codes "false") → flag ≡ false)
      × (one_of name given ≡ None → flag ≡ false)

  -- a number that may be given, from the least to the greatest
  abbrev pub IsLimit : Text → ℕ → ℕ → Option ℕ → Type 0
  IsLimit name least greatest None =
      (number : ℕ) → HasNumber 32 name number → ¬ ((least ≤ number) × (number ≤ greatest))
  IsLimit name least greatest (Some number) = HasNumber 32 name number

  -- the list that is kept of a room's file, where one is given: its name is none of the database's
  abbrev pub IsList : Text → Option (Bor (List ℕ)) → Type 0
  IsList file None = HasNone (codes "journal")
  IsList file (Some list) = Has (codes "journal") list.now × IsApart file list.now

  -- the journal of what is served, where one is given
  abbrev pub IsJournal : Text → Option Journal → Type 0
  IsJournal file None = HasNone (codes "journal")
  IsJournal file (Some journal) =
      Has (codes "journal") journal.list.now × IsApart file journal.list.now
      × (IsTrue journal.is_synced ↔ Has (codes "journal-sync") (codes "always"))
      × (IsTrue journal.keeps_questions ↔ Has (codes "journal-of") (codes "all"))

  -- whom the text of an option names, where the option is given
  abbrev pub IsNamed : Text → Option Who → Type 0
  IsNamed option None = HasNone option
  IsNamed option (Some who) = (text : Text) × Has option text × Names text who

  -- what is done to the terminals of one, or of none
  abbrev pub IsWanted : Wanted → Type 0
  IsWanted wanted.List = HasNone (codes "new") × HasNone (codes "revoke")
  IsWanted (wanted.New who) = IsNamed (codes "new") (Some who) × HasNone (codes "revoke")
  IsWanted (wanted.Revoke who) = HasNone (codes "new") × IsNamed (codes "revoke") (Some who)

  -- how many connections are served: without end where no number is given
  abbrev pub IsCount : ℕ → Type 0
  IsCount count = HasNumber 64 (codes "connections") count
      ⊎ (HasNoNumber 64 (codes "connections") × (count ≡ 18446744073709551615))

  abbrev pub IsAddress : SocketAddr → Type 0
  IsAddress address = (text : Text) × Has (codes "ADDRESS") text × IsSocketText text address

  -- where a room is served, and how
  pub record IsService (file : Text) (service : Service) : Type 0 where
    pub address : IsAddress service.address
    pub connections : IsCount service.connections
    pub idle : HasNumber 16 (codes "idle") service.idle
    pub keep : HasNumber 16 (codes "keep") service.keep
    pub patience : HasNumber 16 (codes "patience") service.patience
    pub history : IsFlag (codes "history") service.history
    pub log : IsFlag (codes "log") service.log
    pub journal : IsJournal file service.journal

  -- how much of a journal is replayed, and what is said of it
  pub record IsReplay (replay : Replayed) : Type 0 where
    pub until : IsLimit (codes "until") 0 4102444799 replay.until
    pub answers : IsFlag (codes "answers") replay.answers
    pub history : IsFlag (codes "history") replay.history
    pub is_open : IsFlag (codes "open") replay.open
    pub digest : IsFlag (codes "digest") replay.digest

  abbrev pub IsColor : Color → Type 0
  IsColor color.Always = Has (codes "color") (codes "always")
  IsColor color.Never = Has (codes "color") (codes "never")
  IsColor color.Auto =
      (¬ Has (codes "color") (codes "always")) × (¬ Has (codes "color") (codes "never"))

  -- where the token of a board stands: at its place, or in a file that is named
  abbrev pub IsTokenPlace : TokenPlace → Type 0
  IsTokenPlace (Word word) = Has (codes "TOKEN") word.now × HasNone (codes "token")
  IsTokenPlace (File file) = HasNone (codes "TOKEN") × Has (codes "token") file.now

  -- which served room is looked at, and how
  pub record IsLook (look : Look) : Type 0 where
    pub address : Has (codes "ADDRESS") look.address.now
    pub plain : IsFlag (codes "plain") look.plain
    pub token : IsTokenPlace look.token
    pub incident : IsLimit (codes "incident") 1 2147483647 look.incident
    pub patience : HasNumber 16 (codes "patience") look.patience
    pub color : IsColor look.color

  -- what the command of this name asks for over this file
  abbrev pub IsOver : Text → Text → Task → Type 0
  IsOver name file (Init own plan) =
      (name ≡ codes "init") × (own.now ≡ file) × Has (codes "PLAN") plan.now
  IsOver name file (Import own fleet list) =
      (name ≡ codes "import") × (own.now ≡ file) × Has (codes "FLEET") fleet.now × IsList file list
  IsOver name file (Replan own plan list) =
      (name ≡ codes "replan") × (own.now ≡ file) × Has (codes "PLAN") plan.now × IsList file list
  IsOver name file (Migrate own) = (name ≡ codes "migrate") × (own.now ≡ file)
  IsOver name file (Check own) = (name ≡ codes "check") × (own.now ≡ file)
  IsOver name file (Digest own) = (name ≡ codes "digest") × (own.now ≡ file)
  IsOver name file (Serve own service) =
      (name ≡ codes "serve") × (own.now ≡ file) × IsService file service
  IsOver name file (Replay own replay) =
      (name ≡ codes "replay") × (own.now ≡ file) × IsReplay replay
  IsOver name file (Times own division day) =
      (name ≡ codes "times") × (own.now ≡ file) × HasNumber 16 (codes "DIVISION") division
      × Has (codes "DAY") day.now × HasNone (codes "and")
  IsOver name file (JoinedTimes own older division day) =
      (name ≡ codes "times") × (own.now ≡ file) × HasNumber 16 (codes "DIVISION") division
      × Has (codes "DAY") day.now × Has (codes "and") older.now
  IsOver name file (Terminals own wanted list) =
      (name ≡ codes "terminals") × (own.now ≡ file) × IsWanted wanted × HasNone (codes "from")
      × IsList file list
  IsOver name file (SetTerminals own csv list) =
      (name ≡ codes "terminals") × (own.now ≡ file) × IsWanted wanted.List
      × Has (codes "from") csv.now × IsList file list
  IsOver name file other = ⊥

  -- what the command of this name asks for
  abbrev pub IsAsked : Text → Task → Type 0
  IsAsked name (Board look) = (name ≡ codes "board") × IsLook look
  IsAsked name (Renew file new since) = (name ≡ codes "renew") × Has (codes "OLD") file.now
      × Has (codes "NEW") new.now × Has (codes "since") since.now
  IsAsked name (Restore copy file) =
      (name ≡ codes "restore") × Has (codes "COPY") copy.now × Has (codes "FILE") file.now
  IsAsked name (Verify list) = (name ≡ codes "verify") × Has (codes "LIST") list.now
  IsAsked name other = (file : Text) × Has (codes "FILE") file × IsOver name file other

  -- two of these are given
  abbrev pub AreGiven : Text → Text → Type 0
  AreGiven one other = (¬ HasNone one) × (¬ HasNone other)

  -- where the token of a board stands is left open: neither is given, or both
  abbrev pub LeavesToken : Mistake → Type 0
  LeavesToken mistake.NoToken = HasNone (codes "TOKEN") × HasNone (codes "token")
  LeavesToken (mistake.Conflict one other) = AreGiven (codes "TOKEN") (codes "token")
  LeavesToken other = ⊥

  -- What is wrong with a command over the terminals of this file: an option names nobody, there are
  -- two changes, there is none to be kept, or the list has a name that is the database's.
  abbrev pub IsAmiss : Text → Mistake → Type 0
  IsAmiss file (mistake.Nobody option who) = Has option.now who.now × NamesNobody who.now
  IsAmiss file (mistake.Conflict one other) = AreGiven (codes "new") (codes "revoke")
      ⊎ (AreGiven (codes "new") (codes "from") ⊎ AreGiven (codes "revoke") (codes "from"))
  IsAmiss file mistake.NoChange =
      HasNone (codes "new") × HasNone (codes "revoke") × HasNone (codes "from")
      × (¬ HasNone (codes "journal"))
  IsAmiss file (mistake.OfDatabase list own) =
      (own.now ≡ file) × Has (codes "journal") list.now × IsOfDatabase own.now list.now
  IsAmiss file other = ⊥

-- a task, as the matches of clap ask for it: by the name of a command, and what is given behind it
pub record IsMatched (matches : ArgMatches) (task : Task) : Type 0 where
  pub name : Text
  pub given : List Row
  pub command : subcommand_rows_of matches ≡ Some (name, given)
  pub asked : IsAsked given name task

-- a task, as the words of a command line ask for it: clap finds a command of the program in them
pub record IsRead (words : List Text) (task : Task) : Type 0 where
  pub forms : List CommandForm
  pub are_forms : AreForms forms
  pub name : Text
  pub given : List Row
  pub command : subcommand_of (program_of forms) words ≡ Some (name, given)
  pub asked : IsAsked given name task
