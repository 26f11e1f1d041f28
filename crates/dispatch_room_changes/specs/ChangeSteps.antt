-- What a command does that changes a room as a file says, step after step.
use Rattle.std.specs.Global.{Global}
use Rattle.std.specs.Prelude.{List, MatchResult, None, Option, Some, Vec, codes, decimal, false}
use Rattle.std.specs.Prelude.{length, option_map, true, ⊤, ℕ, Bool, ◌++◌, ◌≡◌, ◌⊎◌}
use Rattle.dispatch_room_exit.specs.declared.exit_status.Done.{Done}
use Rattle.dispatch_room_exit.specs.declared.exit_status.Failure.{Failure}
use Rattle.dispatch_room_exit.specs.declared.exit_status.Failure.TheVariants as failure
use Rattle.dispatch_room_csv.specs.FleetFile.{IsFleetText}
use Rattle.dispatch_room_csv.specs.PlanFile.{IsPlanText}
use Rattle.dispatch_room_csv.specs.declared.fleet_file.FleetLine.{FleetLine}
use Rattle.dispatch_room_csv.specs.declared.plan_file.PlanFile.{PlanFile}
use Rattle.room_types.specs.Texts.{Token}
use Rattle.room_types.specs.declared.asks.Who.{Who}
use Rattle.room_types.specs.declared.asks.Who.TheVariants.{Crew, Desk, Position}
use Rattle.room_types.specs.declared.fleet.Terminal.{Terminal}
use Rattle.dispatch_room_cli.specs.declared.tasks.Terminals.{Terminals as Wanted}
use Rattle.dispatch_room_cli.specs.declared.tasks.Terminals.TheVariants as wanted
use Rattle.dispatch_room_changes.specs.ChangeTasks.{Changes, ChangesKept, Creates, Enrols}
use Rattle.dispatch_room_changes.specs.ChangeTasks.{EnrolsKept, Lists}
use Rattle.dispatch_room_changes.specs.declared.kept_changes.ChangedFile.{ChangedFile}
use Rattle.dispatch_room_changes.specs.TerminalFiles.{AreGiven, GivesNoFleet, GivesNoPlan}
use Rattle.dispatch_room_changes.specs.TerminalFiles.{GivesNone}
use Rattle.dispatch_room_disk.specs.CommandSteps.{Gives, Prints, Shows, Silent, Then, Tries}
use Rattle.dispatch_room_disk.specs.RoomFiles.{fresh, there}
use Rattle.dispatch_room_journal.specs.declared.list_ends.ListEnd.{ListEnd}
use Rattle.dispatch_room_journal.specs.declared.list_ends.ListEnd.TheVariants.{Chain, Plain}
use Rattle.dispatch_room_journal.specs.declared.record_fronts.Link.{Link}
use Rattle.dispatch_room_lists.specs.RoomChanges.{IsTextOf}
use Rattle.dispatch_room_tasks.specs.RandomTokens.{AreEnough, first_letters}
use Rattle.dispatch_room_tcp.specs.Hosts.{Command, OpensList, Reads, Works, drawn}
use Rattle.sqlite_disk.specs.declared.Disk.{Ghosts as Disk}
use Rattle.dispatch_room_lists.specs.declared.room_changes.RoomChange.{RoomChange}
use Rattle.dispatch_room_lists.specs.declared.room_changes.RoomChange.TheVariants as change

-- whether a user is the crew of a vehicle
abbrev pub is_a_crew : Who → Bool
is_a_crew (Desk d) = false
is_a_crew (Position p) = false
is_a_crew (Crew c) = true

-- the change that leaves a user only this token, or none
abbrev pub reissue_of : Who → Option Token → RoomChange
reissue_of who token = change.Token (record { who = who; token = token })

module _ {F : Type 0} where
  -- a text gives a plan, or none, for this
  abbrev pub GivesPlan : List ℕ → Command F PlanFile
  GivesPlan text = Silent (λ read. MatchResult read (IsPlanText text) (GivesNoPlan text))

  -- a text gives the rows of a fleet, or none, for this
  abbrev pub GivesFleet : List ℕ → Command F (Vec FleetLine Global)
  GivesFleet text = Silent (λ read. MatchResult read (λ lines. IsFleetText text lines.items)
      (GivesNoFleet text))

  -- a text gives terminals, or none, for this
  abbrev pub GivesTerminals : List ℕ → Command F (Vec Terminal Global)
  GivesTerminals text = Silent (λ read. MatchResult read (λ listed. AreGiven text listed.items)
      (GivesNone text))

  -- a change is put down as a text, unless memory fails
  abbrev pub PutsDown : RoomChange → Command F (Vec ℕ Global)
  PutsDown change = Silent (λ text. MatchResult text (λ text. IsTextOf change text.items)
      (λ fault. fault ≡ failure.Memory))

  -- random bytes are drawn, or there are none
  abbrev pub DrawsBytes : Command F (List ℕ)
  DrawsBytes = Tries drawn (λ came. MatchResult came (λ bytes. ⊤) (λ fault. fault ≡ failure.Storage))

  -- A token is that of random bytes; or there is no memory for it, or these are too few.
  abbrev pub GivesToken : List ℕ → Command F Token
  GivesToken bytes = Silent (λ given. MatchResult given
      (λ token. AreEnough bytes × (token ≡ first_letters bytes))
      (λ fault. (fault ≡ failure.Memory) ⊎ ((fault ≡ failure.Storage) × (¬ AreEnough bytes))))

  -- a random token is drawn
  abbrev pub Draws : Command F Token
  Draws = Then DrawsBytes GivesToken

  -- a list that was opened goes on as a chain, or not
  abbrev pub IsChain : F × ListEnd → Command F (F × ListEnd)
  IsChain opened = Silent (λ came. MatchResult came
      (λ list. (list ≡ opened) × ((link : Link) × (opened.1 ≡ Chain link)))
      (λ fault. (fault ≡ failure.Journal) × (opened.1 ≡ Plain)))

  -- a list is opened in which a change may be kept
  abbrev pub OpensChain : List ℕ → Command F (F × ListEnd)
  OpensChain path = Then (OpensList path) IsChain

  -- on such a disk
  module _ {D : Type 0} (g : Disk D) where
    -- `init`: a room is created in a file by the plan of a text, which that of a file is
    abbrev pub IsInitOf : List ℕ → List ℕ → Command F Done
    IsInitOf file text = Then (GivesPlan text) (λ plan. Works g (fresh file) (Creates plan))

    abbrev pub IsInit : List ℕ → List ℕ → Command F Done
    IsInit file plan = Then (Reads plan) (λ text. IsInitOf file text.items)

    -- `import`: the rows of the fleet that a text gives are enrolled
    abbrev pub IsImportOf : List ℕ → List ℕ → Command F Done
    IsImportOf file text = Then (GivesFleet text)
        (λ lines. Works g (there file) (Enrols lines.items))

    abbrev pub IsImport : List ℕ → List ℕ → Command F Done
    IsImport file fleet = Then (Reads fleet) (λ text. IsImportOf file text.items)

    -- by what is known of what the file of a list holds, and of what of that lasts
    module _ (contents lasting : F → Option (List ℕ)) where
      -- A change is made in a room's file. Where there is a list for it, its text is kept there before.
      abbrev pub IsMadeIn : Option (List ℕ) → List ℕ → RoomChange → List ℕ → Command F (Unit {0})
      IsMadeIn None file change text = Works g (there file) (Changes change)
      IsMadeIn (Some list) file change text = Then (OpensChain list)
          (λ opened. Works g (there file) (ChangesKept contents lasting opened change text))

      abbrev pub IsMade : ChangedFile → RoomChange → List ℕ → Command F (Unit {0})
      IsMade place = IsMadeIn (option_map (λ list. list.now) place.list) place.file.now

      -- the same with the text that it is put down as
      abbrev pub IsMadeAsText : ChangedFile → RoomChange → Command F (Unit {0})
      IsMadeAsText place change =
          Then (PutsDown change) (λ text. IsMade place change text.items)

      -- `replan`: a room gets this plan, and then that is reported
      abbrev pub IsReplanned : ChangedFile → List ℕ → PlanFile → Command F Done
      IsReplanned place text plan = Then (IsMade place (change.Plan plan) text)
          (λ _. Shows (Prints (codes "replanned\n")))

      abbrev pub IsReplanOf : ChangedFile → List ℕ → Command F Done
      IsReplanOf place text = Then (GivesPlan text) (IsReplanned place text)

      abbrev pub IsReplan : ChangedFile → List ℕ → Command F Done
      IsReplan place plan = Then (Reads plan) (λ text. IsReplanOf place text.items)

      -- `import` with a list: the rows are kept in it before
      abbrev pub IsKeptImportOf : List ℕ → List ℕ → List ℕ → Command F Done
      IsKeptImportOf file list text = Then (GivesFleet text)
          (λ lines. Then (OpensChain list) (λ opened. Works g (there file)
          (EnrolsKept contents lasting opened lines.items text)))

      abbrev pub IsKeptImport : List ℕ → List ℕ → List ℕ → Command F Done
      IsKeptImport file fleet list = Then (Reads fleet)
          (λ text. IsKeptImportOf file list text.items)

      -- a user gets a new random token
      abbrev pub Renews : ChangedFile → Who → Command F Token
      Renews place who = Then Draws
          (λ token. Then (IsMadeAsText place (reissue_of who (Some token))) (λ _. Gives token))

      -- a user has no terminal any more; or, as a vehicle's crew must have one, that of a new token
      abbrev pub Withdraws : ChangedFile → Who → Bool → Command F (Unit {0})
      Withdraws place who true = Then (Renews place who) (λ _. Gives tt)
      Withdraws place who false = IsMadeAsText place (reissue_of who None)

      -- `terminals`: they are listed; or a user gets a new token, which is printed; or a user's
      -- terminal is revoked
      abbrev pub IsTerminals : ChangedFile → Wanted → Command F Done
      IsTerminals place wanted.List = Works g (there place.file.now) Lists
      IsTerminals place (wanted.New who) =
          Then (Renews place who) (λ token. Shows (Prints (token ++ codes "\n")))
      IsTerminals place (wanted.Revoke who) =
          Then (Withdraws place who (is_a_crew who)) (λ _. Shows (Prints (codes "revoked\n")))

      -- `terminals --from`: all users whom a list names get its terminals, and then the number of
      -- these is printed
      abbrev pub IsSet : ChangedFile → Vec Terminal Global → Command F Done
      IsSet place listed = Then (IsMadeAsText place (change.Terminals listed))
          (λ _. Shows (Prints
          (codes "set: terminals " ++ (decimal (length listed.items) ++ codes "\n"))))

      abbrev pub IsSettingOf : ChangedFile → List ℕ → Command F Done
      IsSettingOf place text = Then (GivesTerminals text) (IsSet place)

      abbrev pub IsSetting : ChangedFile → List ℕ → Command F Done
      IsSetting place csv = Then (Reads csv) (λ text. IsSettingOf place text.items)
