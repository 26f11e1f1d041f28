use Rattle.room_http_time.proofs.ZoneLaws.{one_zone_law}
use Rattle.room_http_time.proofs.laws.one_zone.Goals as goal

pub returns : goal.returns
returns c = one_zone_law
