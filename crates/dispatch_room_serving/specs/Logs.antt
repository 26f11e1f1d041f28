-- The line of a message in the log.
use Rattle.std.specs.Prelude.{ℕ, List, ◌∷◌, ◌++◌, codes, decimal, Option, Some, None}
use Rattle.jiff.specs.Words.{iso_datetime_text}
use Rattle.jiff.specs.declared.civil.datetimes.DateTime.{DateTime}
use Rattle.room_types.specs.declared.asks.Who.{Who}
use Rattle.dispatch_room_serving.specs.declared.log_lines.LogLine.{LogLine}
use Rattle.dispatch_room_serving.specs.declared.log_lines.Request.{Request}
use Rattle.dispatch_room_serving.specs.declared.log_lines.Request.TheVariants.{Message, Unread}
use Rattle.dispatch_room_serving.specs.LogLines.{asker_text, visible}

-- a method and a path, or that there is no message
abbrev pub request_text : Option (List ℕ × List ℕ) → List ℕ
request_text None = codes "- -"
request_text (Some (method, path)) = visible method ++ 32 ∷ visible path

-- The line: a moment, as a clock of UTC shows it; who asked; the method and the path; the status;
-- and the milliseconds that it took. Nothing else is in it, so no token but one that stands there.
abbrev pub line_text : DateTime → Option Who → Option (List ℕ × List ℕ) → List ℕ → ℕ → List ℕ
line_text at who request status millis =
    iso_datetime_text at ++ codes "Z " ++ asker_text who ++ 32 ∷ request_text request
    ++ 32 ∷ visible status ++ 32 ∷ decimal millis ++ codes " ms"

-- a method and a path, where there are such
abbrev pub asked_by : Request → Option (List ℕ × List ℕ)
asked_by (Message method path) = Some (method.bytes.now, path.bytes.now)
asked_by Unread = None

-- the text of a line
abbrev pub text_of : LogLine → List ℕ
text_of line =
    line_text line.at line.asker.who (asked_by line.request) line.status.bytes.now line.millis
