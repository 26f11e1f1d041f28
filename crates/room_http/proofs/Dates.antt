-- A moment has one date.
use Rattle.std.proofs.Common.{ap, sym, ℕ, List, ◌≡◌, ◌∙◌}
use Rattle.httpdate.specs.Text.{imf_fixdate}
use Rattle.httpdate.proofs.Theorems.{unix_secs_injective}
use Rattle.room_http.specs.ReplyMessages.{IsDateOf, reply_bytes}
use Rattle.room_http.specs.ReplyLaws.{IsOneReply}

IsDateOf-one : (at : ℕ) (s t : List ℕ) → IsDateOf at s → IsDateOf at t → s ≡ t
IsDateOf-one at s t (d, d_at, s_is) (e, e_at, t_is) =
    s_is ∙ ap imf_fixdate (unix_secs_injective d e (d_at ∙ sym e_at)) ∙ sym t_is

pub one_reply_law : IsOneReply
one_reply_law answer at head_only closing bytes others (s, s_of, bytes_are) (t, t_of, others_are) =
    bytes_are ∙ ap (λ date. reply_bytes answer date head_only closing) (IsDateOf-one at s t s_of t_of) ∙ sym others_are
