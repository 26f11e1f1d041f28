use Rattle.std.proofs.Common.{false, refl}
use Rattle.sqlite.proofs.Callers.{memory_is_clean}
use Rattle.room_http.specs.declared.settings.HttpSettings.{HttpSettings}
use Rattle.room_model.specs.Rooms.{machine}
use Rattle.dispatch_room_dry_run.specs.Example.{IsExample}
use Rattle.dispatch_room_dry_run.proofs.ExampleLemmas.{zone_is_read}
use Rattle.dispatch_room_dry_run.proofs.ServeLemmas.{serves}
use Rattle.dispatch_room_dry_run.proofs.example_session.serve_example.Goals as goal

pub unwrap-zone-requires : goal.unwrap-zone-requires
unwrap-zone-requires g c =
    c.read.ensures.read.1 (rw (c.zone.ensures, c.plan.ensures, c.in_ok-store.ensures.zone) zone_is_read)

pub returns-clause-dialogue : goal.returns-clause-dialogue
returns-clause-dialogue g c =
    let zone =
    rw (c.unwrap-zone.ensures, c.zone.ensures, c.plan.ensures, c.in_ok-store.ensures.zone) at c.read.ensures.zone in
    let setting : HttpSettings = record { zone = c.unwrap-zone.result; history = false } in (
      setting,
      record { zone = zone; history = refl },
      (
        c.serve-end.ensures.run.course,
        serves machine setting _ _ _ (memory_is_clean c.serve-end.new.room.conn) _ _ _ _ IsExample
            (λ terminals room begins. rw (begins.0, begins.1) c.in_ok-store.ensures.room) c.serve-end.ensures.run.course
            c.args.budget c.serve-end.result (rw c.in-Ok.ensures.setting at c.serve-end.ensures.run.dialogue),
      ),
    )
