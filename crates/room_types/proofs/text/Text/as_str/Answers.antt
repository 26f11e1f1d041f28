use Rattle.room_types.proofs.TextLaws.{ok_if}
use Rattle.room_types.proofs.text.Text.as_str.Goals as goal

pub unwrap-requires : goal.unwrap-requires
unwrap-requires g c =
    ok_if _ _ _ c.from_utf8.result c.from_utf8.ensures.cases (rw c.as_bytes.ensures.bytes c.as_bytes.ensures.utf8)
