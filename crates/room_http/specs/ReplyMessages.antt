-- The bytes of an answer: a message of HTTP/1.1 (RFC 9112, section 2.1).
use Rattle.std.specs.Prelude.{◌≡◌, ℕ, List, [], ◌++◌, length, codes, decimal, Bool, true}
use Rattle.std.specs.Prelude.{if◌then◌else◌, Option, None, Some, Result, Ok, Err}
use Rattle.http.specs.StatusCode.{status_text}
use Rattle.httpdate.specs.Date.{unix_secs, date_text}
use Rattle.httpdate.specs.declared.date.HttpDate.{HttpDate}
use Rattle.room_types.specs.RefusalStatuses.{refusal_status}
use Rattle.room_types.specs.declared.answers.Answer.{Answer}
use Rattle.room_types.specs.declared.refusal_statuses.Allow.{Allow}
use Rattle.room_types.specs.declared.refusal_statuses.Allow.TheVariants.{GetHead, Post}
use Rattle.room_types.specs.declared.refusal_statuses.Refusal.{Refusal}
use Rattle.room_types.specs.declared.refusal_statuses.Refusal.TheVariants.{WrongMethod}
use Rattle.room_http.specs.AnswerJson.{content}

-- 200 OK, or what the refusal has
abbrev pub status_of : Result Answer Refusal → ℕ
status_of (Ok a) = 200
status_of (Err r) = refusal_status r

-- a line of the head
unfoldable pub line : List ℕ → List ℕ
line text = text ++ codes "\r\n"

-- a field of the head
unfoldable pub field : List ℕ → List ℕ → List ℕ
field name value = line (name ++ codes ": " ++ value)

-- the moment of the answer, where it has one
abbrev pub date_field : Option (List ℕ) → List ℕ
date_field None = []
date_field (Some date) = field (codes "Date") date

abbrev pub methods : Allow → List ℕ
methods GetHead = codes "GET, HEAD"
methods Post = codes "POST"

-- the methods that the path takes, where it doesn't take the one that was asked
abbrev pub allow_field : Result Answer Refusal → List ℕ
allow_field (Err (WrongMethod allow)) = field (codes "Allow") (methods allow)
allow_field answer = []

-- whether the connection closes after the answer
abbrev pub closing_field : Bool → List ℕ
closing_field closing = if closing then field (codes "Connection") (codes "close") else []

-- The message that gives an answer. The content is left out after a HEAD request, and its length
-- is given all the same (RFC 9110, section 9.3.2).
abbrev pub message : Option (List ℕ) → Result Answer Refusal → Bool → Bool → List ℕ
message date answer head_only closing =
    line (codes "HTTP/1.1 " ++ status_text (status_of answer))
    ++ date_field date
    ++ field (codes "Content-Type") (codes "application/json")
    ++ field (codes "Content-Length") (decimal (length (content answer)))
    ++ allow_field answer
    ++ closing_field closing
    ++ line []
    ++ (if head_only then [] else content answer)

-- the bytes of an answer whose moment has that text
abbrev pub reply_bytes : Result Answer Refusal → List ℕ → Bool → Bool → List ℕ
reply_bytes answer date head_only closing = message (Some date) answer head_only closing

-- the text is the date of the moment, as fields of HTTP have it (RFC 9110, section 5.6.7)
abbrev pub IsDateOf : ℕ → List ℕ → Type 0
IsDateOf at text = (date : HttpDate) × (unix_secs date ≡ at) × (text ≡ date_text date)

-- the bytes are the answer at the moment
abbrev pub IsReply : Result Answer Refusal → ℕ → Bool → Bool → List ℕ → Type 0
IsReply answer at head_only closing bytes =
    (date : List ℕ) × IsDateOf at date × (bytes ≡ reply_bytes answer date head_only closing)

-- The answer where memory or the database fails. It has no date, so that it is a text that is
-- written beforehand, and it closes the connection.
unfoldable pub fixed_bytes : Refusal → Bool → List ℕ
fixed_bytes refusal head_only = message None (Err refusal) head_only true
