-- What a task of the command line says, step after step.
use Rattle.std.specs.Global.{Global}
use Rattle.std.specs.Option.{option_map}
use Rattle.std.specs.Prelude.{Bool, Err, IfOk, List, MatchResult, None, Ok, Option, Result, Some}
use Rattle.std.specs.Prelude.{Vec, [], codes, false, is_some, map, true, ⊤, ℕ, ◌*◌, ◌∷◌, ◌≡◌, ◌⊎◌}
use Rattle.clap.specs.Words.{kind_of}
use Rattle.clap.specs.declared.error.Error.{Error}
use Rattle.sqlite_disk.specs.declared.Disk.{Ghosts as Disk}
use Rattle.room_types.specs.Texts.{Callsign, Token}
use Rattle.dispatch_room_archive.specs.declared.division_days.DivisionDay.{DivisionDay}
use Rattle.dispatch_room_archive.specs.declared.renewal.Successor.{Successor}
use Rattle.dispatch_room_board.specs.Boards.{IsBoard}
use Rattle.dispatch_room_board.specs.Requests.{report_requests, requests}
use Rattle.dispatch_room_board.specs.ToldReports.{AreVehiclesHeard}
use Rattle.dispatch_room_board.specs.declared.boards.Board.{Board as HeardBoard}
use Rattle.dispatch_room_board.specs.declared.exchange.TheConstants.{MOST_HEARD}
use Rattle.dispatch_room_changes.specs.ChangeSteps.{IsImport, IsInit, IsKeptImport, IsReplan}
use Rattle.dispatch_room_changes.specs.ChangeSteps.{IsSetting, IsTerminals}
use Rattle.dispatch_room_changes.specs.declared.kept_changes.ChangedFile.{ChangedFile}
use Rattle.dispatch_room_cli.specs.Addresses.{IsAnother, IsThisMachine}
use Rattle.dispatch_room_cli.specs.AskedTasks.{IsRead}
use Rattle.dispatch_room_exit.specs.ExitStatus.{status_after}
use Rattle.dispatch_room_cli.specs.Tasks.{IsServedHere}
use Rattle.dispatch_room_exit.specs.declared.exit_status.Done.{Done}
use Rattle.dispatch_room_exit.specs.declared.exit_status.Done.TheVariants.{InPart}
use Rattle.dispatch_room_exit.specs.declared.exit_status.Failure.{Failure}
use Rattle.dispatch_room_exit.specs.declared.exit_status.Failure.TheVariants as failure
use Rattle.dispatch_room_cli.specs.declared.tasks.Color.{Color}
use Rattle.dispatch_room_cli.specs.declared.tasks.Color.TheVariants.{Always, Auto, Never}
use Rattle.dispatch_room_cli.specs.declared.tasks.Look.{Look}
use Rattle.dispatch_room_cli.specs.declared.tasks.Replay.{Replay as How}
use Rattle.dispatch_room_cli.specs.declared.tasks.Task.{Task}
use Rattle.dispatch_room_cli.specs.declared.tasks.Task.TheVariants.{Board, Check, Digest, Import}
use Rattle.dispatch_room_cli.specs.declared.tasks.Task.TheVariants.{Init, JoinedTimes, Migrate}
use Rattle.dispatch_room_cli.specs.declared.tasks.Task.TheVariants.{Renew, Replan, Replay, Restore}
use Rattle.dispatch_room_cli.specs.declared.tasks.Task.TheVariants.{Serve, SetTerminals, Terminals}
use Rattle.dispatch_room_cli.specs.declared.tasks.Task.TheVariants.{Times, Verify}
use Rattle.dispatch_room_cli.specs.declared.tasks.TokenPlace.{TokenPlace}
use Rattle.dispatch_room_cli.specs.declared.tasks.TokenPlace.TheVariants.{File, Word}
use Rattle.dispatch_room_commands.specs.CommandEnds.{IsWordsOutput, IsWordsStatus, end_of_board}
use Rattle.dispatch_room_commands.specs.RoomTasks.{Begins, Digests, Examines, FindsDay, LeavesRows}
use Rattle.dispatch_room_commands.specs.RoomTasks.{Moves, Replays, Reports, ReportsBoth}
use Rattle.dispatch_room_commands.specs.TokenFiles.{IsTokenIn, IsTokenOf}
use Rattle.dispatch_room_commands.specs.VerifiedLists.{FlawsList, none_text, tally_text}
use Rattle.dispatch_room_disk.specs.AsideNames.{found_text}
use Rattle.dispatch_room_disk.specs.CommandSteps.{Gives, Output, Prints, Shows, Silent, Stand, Step}
use Rattle.dispatch_room_disk.specs.CommandSteps.{Takes, Then, Tries, at}
use Rattle.dispatch_room_disk.specs.FileSteps.{Does, StopsFor}
use Rattle.dispatch_room_disk.specs.ReplacingSteps.{IsFaultOf, replacing}
use Rattle.dispatch_room_disk.specs.RoomFiles.{fresh, old, there}
use Rattle.dispatch_room_disk.specs.SystemFiles.{system}
use Rattle.dispatch_room_disk.specs.declared.aside_names.Found.{Found}
use Rattle.dispatch_room_journal.specs.Chains.{sha256_digits}
use Rattle.dispatch_room_journal.specs.ListTallies.{IsVerified}
use Rattle.dispatch_room_journal.specs.RecordFronts.{list_says}
use Rattle.dispatch_room_journal.specs.declared.list_tallies.Tally.{Tally}
use Rattle.dispatch_room_journal.specs.declared.read_progress.Reach.TheVariants.{Full}
use Rattle.dispatch_room_serving.specs.declared.change_marks.ListOnDisk.{ListOnDisk}
use Rattle.dispatch_room_tcp.specs.Hosts.{Command, Effect, IsUnread, Reads, Works, asked, called}
use Rattle.dispatch_room_tcp.specs.Hosts.{found, left, replaced, taken}
use Rattle.dispatch_room_tcp.specs.ServedFiles.{IsServe}

-- what all of a list says, by what is known of its bytes
abbrev pub said_by : Option (List ℕ) → Option (List ℕ)
said_by bytes = option_map (list_says sha256_digits Full) bytes

-- A list was looked through, or has a defect, or memory fails. Whether a read failed is known.
abbrev pub Verifies : Option (List ℕ) → Bool → Step Output (Option Tally)
Verifies list read_failed = Silent (λ looked. MatchResult looked
    (λ found. (text : List ℕ) → list ≡ Some text → IsVerified text found)
    (λ fault. (fault ≡ failure.Memory) ⊎ FlawsList list read_failed fault))

-- it is printed that nothing was begun in it, which is less than a whole list
abbrev pub PrintsNone : Step Output Done
PrintsNone = Then (Prints none_text) (λ _. Gives InPart)

-- that is printed, or what it holds, and whether its end says so
abbrev pub PrintsFound : Bool → Option Tally → Step Output Done
PrintsFound has_ended None = PrintsNone
PrintsFound has_ended (Some tally) = Prints (tally_text tally has_ended)

abbrev pub IsVerifyOf : Option (List ℕ) → Bool → Bool → Step Output Done
IsVerifyOf list read_failed has_ended = Then (Verifies list read_failed) (PrintsFound has_ended)

-- the board of what was said, and of what was told of reports, is made, unless memory fails
abbrev pub MakesBoard : List ℕ → List ℕ → Bool → Bool → Step Output HeardBoard
MakesBoard said told proposes colour = Silent (λ made. MatchResult made
    (IsBoard said told proposes colour)
    (λ fault. fault ≡ failure.Memory))

-- it is printed, and the command ends as what was reached says
abbrev pub PrintsBoard : List ℕ → List ℕ → Bool → Bool → Step Output Done
PrintsBoard said told proposes colour = Then (MakesBoard said told proposes colour)
    (λ board. Then (Prints board.page.text.items)
    (λ _. Silent (λ came. came ≡ end_of_board board.reached)))

-- the two calls of a board end within the seconds that it may take in all: three quarters are for
-- the board, the rest for reports
abbrev pub board_nanos : Look → ℕ
board_nanos look = look.patience * 750_000_000

abbrev pub reports_nanos : Look → ℕ
reports_nanos look = look.patience * 250_000_000

module _ {F : Type 0} where
  -- a copy is put in the place of a file, by all these calls, one after another, or those before
  -- one that fails
  abbrev pub PutsInPlace : List ℕ → List ℕ → Command F Found
  PutsInPlace copy file before after came =
      ((found : Found) × IfOk came (λ it. it ≡ found)
      × MatchResult came
      (λ _. Does (map replaced (replacing copy file found)) before.done after.done)
      (StopsFor IsFaultOf (λ calls. Does (map replaced calls) before.done after.done)
      (replacing copy file found)))
      × (after.printed ≡ before.printed)

  -- a list is opened to be read
  abbrev pub OpensToRead : List ℕ → Command F (Option (List ℕ))
  OpensToRead path = Tries (found path) (λ came. MatchResult came (λ bytes. ⊤) IsUnread)

  -- it is looked through, of whose bytes this is known, and what it holds is printed, with whether
  -- it ended well; and then it is left
  abbrev pub LooksThrough : List ℕ → Option (List ℕ) → Command F Done
  LooksThrough path bytes before after came = (read_failed has_ended : Bool)
      × IsVerifyOf (said_by bytes) read_failed has_ended before.printed after.printed came
      × Does (left path read_failed has_ended ∷ []) before.done after.done

  abbrev pub IsVerify : List ℕ → Command F Done
  IsVerify path = Then (OpensToRead path) (LooksThrough path)

  -- A token may go to the address: it is this machine's, or another machine may get it in plain
  -- HTTP. Else the board is refused.
  abbrev pub MayAsk : Look → Command F (Unit {0})
  MayAsk look = Silent (λ came. MatchResult came
      (λ _. (look.plain ≡ true) ⊎ IsThisMachine look.address.now)
      (λ fault. (fault ≡ failure.Input) × (look.plain ≡ false) × IsAnother look.address.now))

  -- a token is read: the first line of a file
  abbrev pub ReadsToken : List ℕ → Command F Token
  ReadsToken path = Then (Reads path) (λ text. Silent (IsTokenIn text.items))

  -- the token of a desk is read so, or is a word of the command line
  abbrev pub TakesToken : TokenPlace → Command F Token
  TakesToken (Word text) = Silent (IsTokenOf text.now)
  TakesToken (File path) = ReadsToken path.now

  -- whether a board has colours: as it was asked, or where standard output is a terminal
  abbrev pub Colours : Color → Command F Bool
  Colours Auto = Takes asked
  Colours Always = Gives true
  Colours Never = Gives false

  -- a room is called, for so many nanoseconds
  abbrev pub Calls : Look → ℕ → Command F (Unit {0})
  Calls look nanos = Takes (λ _. called look.address.now nanos)

  -- it goes on, unless memory fails
  abbrev pub MayLackMemory : Command F (Unit {0})
  MayLackMemory = Silent (λ came. MatchResult came (λ _. ⊤) (λ fault. fault ≡ failure.Memory))

  -- the vehicles with a report out of turn are found in what was said, unless memory fails
  abbrev pub FindsVehicles : List ℕ → Command F (List Callsign)
  FindsVehicles said = Silent (λ came. MatchResult came (AreVehiclesHeard said)
      (λ fault. fault ≡ failure.Memory))

  -- what is heard where a room is asked: at an address, on a connection that lasts so many
  -- nanoseconds, where this is asked, and so many bytes are heard at most
  module _ (heard : List ℕ → ℕ → List ℕ → ℕ → List ℕ → Type 0) where
    -- a room is called and asked this, and what it answers in this time is heard, unless memory
    -- fails
    abbrev pub HearsAnswers : Look → ℕ → List ℕ → Command F (Vec ℕ Global)
    HearsAnswers look nanos text = Then (Calls look nanos) (λ _. Silent (λ came. MatchResult came
        (λ said. heard look.address.now nanos text MOST_HEARD said.items)
        (λ fault. fault ≡ failure.Memory)))

    -- the same, unless there is no memory for what is asked
    abbrev pub Hears : Look → ℕ → List ℕ → Command F (Vec ℕ Global)
    Hears look nanos text = Then MayLackMemory (λ _. HearsAnswers look nanos text)

    -- the reports of these vehicles are asked for; of none nothing is
    abbrev pub HearsOf : Look → Token → List Callsign → Command F (Vec ℕ Global)
    HearsOf look token [] = Silent (λ came. MatchResult came (λ told. told.items ≡ []) (λ fault. ⊥))
    HearsOf look token (c ∷ cs) =
        Hears look (reports_nanos look) (report_requests token (c ∷ cs))

    -- those of the vehicles with a report out of turn in the queue that was said
    abbrev pub HearsReports : Look → Token → List ℕ → Command F (Vec ℕ Global)
    HearsReports look token said = Then (FindsVehicles said) (HearsOf look token)

    -- a room is asked with a token, and what is heard is shown, in colours as it was asked
    abbrev pub AsksRoom : Look → Token → Command F Done
    AsksRoom look token = Then (Colours look.color)
        (λ colour. Then (Hears look (board_nanos look) (requests token look.incident))
        (λ said. Then (HearsReports look token said.items)
        (λ told. Shows (PrintsBoard said.items told.items (is_some look.incident) colour))))

    -- The board of a desk is shown. Where its token may not go to the address no file is read, and
    -- where it has none no room is called.
    abbrev pub IsBoardOf : Look → Command F Done
    IsBoardOf look = Then (MayAsk look) (λ _. Then (TakesToken look.token) (AsksRoom look))

  -- on such a disk
  module _ {D : Type 0} (g : Disk D) where
    -- the room of a file is moved, and then that is reported
    abbrev pub IsMigrate : List ℕ → Command F Done
    IsMigrate file = Then (Works g (old file) Moves) (λ _. Shows (Prints (codes "migrated\n")))

    -- a room's file is looked at
    abbrev pub IsCheck : List ℕ → Command F Done
    IsCheck file = Works g (there file) Examines

    -- the digest of a file's room is printed
    abbrev pub IsDigest : List ℕ → Command F Done
    IsDigest file = Works g (there file) Digests

    -- A copy is looked at, and put in the place of a file where it is a well-formed room. Then the
    -- name is printed that what was found there has.
    abbrev pub IsRestore : List ℕ → List ℕ → Command F Done
    IsRestore copy file = Then (IsCheck copy)
        (λ done. Then (PutsInPlace copy file)
        (λ found. Then (Shows (Prints (found_text file found))) (λ _. Gives done)))

    -- a division's day is reported of a file's room
    abbrev pub IsTimes : List ℕ → ℕ → List ℕ → Command F Done
    IsTimes file division day = Then (Works g (there file) (Reports division day))
        (λ report. Shows (Prints report.items))

    -- a division's day is found in the room of one file, and reported with the incidents of that of
    -- another
    abbrev pub FindsDayOf : List ℕ → ℕ → List ℕ → Command F DivisionDay
    FindsDayOf file division day = Works g (there file) (FindsDay division day)

    abbrev pub JoinsDayOf : List ℕ → DivisionDay → Command F (Vec ℕ Global)
    JoinsDayOf older newer = Works g (there older) (ReportsBoth newer)

    abbrev pub IsJoinedTimes : List ℕ → List ℕ → ℕ → List ℕ → Command F Done
    IsJoinedTimes file older division day = Then (FindsDayOf file division day)
        (λ newer. Then (JoinsDayOf older newer) (λ report. Shows (Prints report.items)))

    -- a list from standard input is replayed
    abbrev pub IsReplay : List ℕ → How → Command F Done
    IsReplay file how = Then (Takes taken) (λ bytes. Works g (there file) (Replays bytes how))

    -- what the room of a file leaves since a day is read, and then a room is made of it in another
    abbrev pub LeavesRowsOf : List ℕ → List ℕ → Command F Successor
    LeavesRowsOf file day = Works g (there file) (LeavesRows day)

    abbrev pub IsRenew : List ℕ → List ℕ → List ℕ → Command F Done
    IsRenew file successor day =
        Then (LeavesRowsOf file day) (λ left. Works g (fresh successor) (Begins left))

    -- a fleet is imported, and kept in the list of the file before, if there is one
    abbrev pub IsImportIn : (F → Option (List ℕ)) → (F → Option (List ℕ)) → Option (List ℕ)
        → List ℕ → List ℕ → Command F Done
    IsImportIn contents lasting None file fleet = IsImport g file fleet
    IsImportIn contents lasting (Some list) file fleet =
        IsKeptImport g contents lasting file fleet list

    abbrev pub IsImportOf : (F → Option (List ℕ)) → (F → Option (List ℕ)) → ChangedFile → List ℕ
        → Command F Done
    IsImportOf contents lasting place =
        IsImportIn contents lasting (option_map (λ list. list.now) place.list) place.file.now

    -- by what is heard where a room is asked, and by what is known of what the file of a list holds,
    -- and of what of that lasts
    module _ (heard : List ℕ → ℕ → List ℕ → ℕ → List ℕ → Type 0)
        (contents lasting : F → Option (List ℕ)) where
      -- what is asked for
      abbrev pub IsTask : Task → Command F Done
      IsTask (Init file plan) = IsInit g file.now plan.now
      IsTask (Import file fleet list) =
          IsImportOf contents lasting (record { file = file; list = list }) fleet.now
      IsTask (Replan file plan list) =
          IsReplan g contents lasting (record { file = file; list = list }) plan.now
      IsTask (Migrate file) = IsMigrate file.now
      IsTask (Check file) = IsCheck file.now
      IsTask (Digest file) = IsDigest file.now
      IsTask (Restore copy file) = IsRestore copy.now file.now
      IsTask (Serve file service) = IsServe g contents file.now service
      IsTask (Replay file how) = IsReplay file.now how
      IsTask (Verify list) = IsVerify list.now
      IsTask (Board look) = IsBoardOf heard look
      IsTask (Renew file new since) = IsRenew file.now new.now since.now
      IsTask (Times file division day) = IsTimes file.now division day.now
      IsTask (JoinedTimes file older division day) =
          IsJoinedTimes file.now older.now division day.now
      IsTask (Terminals file wanted list) =
          IsTerminals g contents lasting (record { file = file; list = list }) wanted
      IsTask (SetTerminals file csv list) =
          IsSetting g contents lasting (record { file = file; list = list }) csv.now

      -- The exit status of what the words of a command line ask for. Of a task it is by what came of
      -- it; of other words it is by what they are: nothing is done, and nothing is written but help
      -- that is asked for.
      abbrev pub IsExit : Result Task Error → Stand (Effect F) → Stand (Effect F) → ℕ → Type 0
      IsExit (Ok task) before after status =
          (came : Result Done Failure) × IsTask task before after came
          × (status ≡ status_after came)
      IsExit (Err error) before after status =
          IsWordsStatus (kind_of error) status
          × IsWordsOutput (kind_of error) before.printed after.printed
          × (after.done ≡ before.done)

-- the same on the system, of whose files and calls nothing is known
abbrev pub IsExitHere : Result Task Error → Output → Output → ℕ → Type 0
IsExitHere words before after status =
    IsExit {F = ListOnDisk} system (λ address nanos request most said. ⊤) (λ _. None) (λ _. None)
    words (at before None) (at after None) status

-- what the words of a command line are read as: a task is the one that they ask for, and whatever
-- it serves, it serves to this machine
abbrev pub IsAskedBy : List (List ℕ) → Result Task Error → Type 0
IsAskedBy words task = IfOk task IsServedHere × IfOk task (IsRead words)

-- what the words of a command line ask for was done, or not, with this exit status
abbrev pub IsCommand : List (List ℕ) → Option (List ℕ) → Option (List ℕ) → ℕ → Type 0
IsCommand words before after status =
    (task : Result Task Error) × IsAskedBy words task × IsExitHere task before after status
