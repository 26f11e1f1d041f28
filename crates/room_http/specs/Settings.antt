-- What a service is set to.
use Rattle.std.specs.Prelude.{◌≡◌, Bool, List, ℕ}
use Rattle.jiff.specs.Placed.{IsPosixZone}
use Rattle.room_http_time.specs.Days.{zone_of}
use Rattle.room_http.specs.declared.settings.HttpSettings.{HttpSettings}

-- the zone is the one that this text gives, and the paths of history are served or not
pub record IsSetting (text : List ℕ) (serves : Bool) (setting : HttpSettings) : Type 0 where
  pub zone : IsPosixZone text (zone_of setting.zone)
  pub history : setting.history ≡ serves
