-- A body with too few or too many members asks for nothing.
use Rattle.std.proofs.Common.{◌≡◌, refl, false}
use Rattle.std.specs.Prelude.{None}
use Rattle.serde_json.specs.Data.{Data}
use Rattle.room_http_requests.specs.Bodies.{ask_with_body, call_form, duty, exactly, lend, merge}
use Rattle.room_http_requests.specs.Bodies.{mobilise, moves, needs_change, point_form, press}
use Rattle.room_http_requests.specs.Bodies.{standby}
use Rattle.room_http_requests.specs.BodyFields.{has_members}
use Rattle.room_http_requests.specs.RequestTable.{members_of}
use Rattle.room_http_requests.specs.declared.request_table.Target.{Target}
use Rattle.room_http_requests.specs.declared.request_table.Target.TheVariants as target

pub not_exact : (t : Target) (fields : Data) → has_members (members_of t) fields ≡ false
    → None ≡ ask_with_body t fields
unfolding exactly call_form mobilise needs_change merge moves standby duty lend point_form press
not_exact target.Call fields none = rw none refl
not_exact (target.Mobilise n) fields none = rw none refl
not_exact (target.Needs n) fields none = rw none refl
not_exact (target.Merge n) fields none = rw none refl
not_exact (target.Close n) fields none = rw none refl
not_exact target.Moves fields none = rw none refl
not_exact (target.StandDown c) fields none = rw none refl
not_exact (target.Standby c) fields none = rw none refl
not_exact (target.Duty c) fields none = rw none refl
not_exact (target.Off c) fields none = rw none refl
not_exact (target.Lend c) fields none = rw none refl
not_exact (target.Withdraw c) fields none = rw none refl
not_exact (target.Decline c) fields none = rw none refl
not_exact (target.Accept c) fields none = rw none refl
not_exact (target.Recall c) fields none = rw none refl
not_exact (target.GiveBack c) fields none = rw none refl
not_exact (target.Clear c n) fields none = rw none refl
not_exact (target.SetPoint n) fields none = rw none refl
not_exact target.Report fields none = rw none refl
not_exact other fields none = refl
