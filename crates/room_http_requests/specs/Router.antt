-- The paths in a router, how a target is looked up among them, and what a request names.
use Rattle.std.specs.Prelude.{ℕ, List, [], codes, Bool, false, not, ◌||◌, bytes_eq, is_none}
use Rattle.std.specs.Prelude.{if◌then◌else◌, Option, Some, None, option_map, option_and_then}
use Rattle.std.specs.Prelude.{Result, Ok, Err}
use Rattle.std.specs.List.{fold}
use Rattle.matchit.specs.Order.{placed}
use Rattle.matchit.specs.Route.{Scan, parse_route}
use Rattle.matchit.specs.Router.{RouteOf, nearest, route_from}
use Rattle.matchit.specs.Rows.{RowsOf}
use Rattle.matchit.specs.Seek.{first}
use Rattle.matchit.specs.declared.error.InsertError.{InsertError}
use Rattle.room_types.specs.KeyedRows.{keep}
use Rattle.room_types.specs.declared.refusal_statuses.Allow.{Allow}
use Rattle.room_types.specs.declared.refusal_statuses.Allow.TheVariants.{GetHead, Post}
use Rattle.room_types.specs.declared.refusal_statuses.Refusal.{Refusal}
use Rattle.room_types.specs.declared.refusal_statuses.Refusal.TheVariants.{NoPath, WrongMethod}
use Rattle.room_http_requests.specs.Parameters.{text_of}
use Rattle.room_http_requests.specs.RequestTable.{allow_of, is_of_history, named_by, path_of}
use Rattle.room_http_requests.specs.RequestTable.{pattern_of}
use Rattle.room_http_requests.specs.declared.request_table.Path.{Path}
use Rattle.room_http_requests.specs.declared.request_table.Target.{Target}
use Rattle.room_http_requests.specs.declared.request_table.TheConstants.{PATHS}

-- what a router holds
abbrev pub Table : Type 0
Table = RowsOf (RouteOf Path)

-- the rows with a path whose pattern was read, in its place
abbrev pub with_read : Result Scan InsertError → Path → Table → Table
with_read (Ok scan) path rows = placed ((route_from scan path).pattern, route_from scan path) rows
with_read (Err fault) path rows = rows

-- the rows with one path more
unfoldable pub with_path : Table → Path → Table
with_path rows path = with_read (parse_route (pattern_of path)) path rows

-- a pattern that was read can be added: it conflicts with none of the rows
abbrev pub is_free : Result Scan InsertError → Table → Bool
is_free (Ok scan) rows = is_none (nearest scan.pattern rows)
is_free (Err fault) rows = false

-- a path can be added
unfoldable pub is_free_for : Table → Path → Bool
is_free_for rows path = is_free (parse_route (pattern_of path)) rows

-- the rows of all paths
unfoldable pub table : Table
table = fold with_path [] PATHS

-- the path of a target, as the router's look-up finds it
unfoldable pub path_at : List ℕ → Option Path
path_at target = option_map (λ route. route.value) (first table target)

-- what a target names, if it names anything
unfoldable pub target_of : List ℕ → Option Target
target_of bytes = option_and_then
    (λ target. option_and_then (λ p. named_by p target) (path_at target)) (text_of bytes)

-- a method is one of those; methods are compared with case
abbrev pub is_allowed : Allow → List ℕ → Bool
is_allowed GetHead method = bytes_eq method (codes "GET") || bytes_eq method (codes "HEAD")
is_allowed Post method = bytes_eq method (codes "POST")

-- a target by a method: the path has to take the method
abbrev pub by_method : List ℕ → Target → Result Target Refusal
by_method method target =
    if is_allowed (allow_of (path_of target)) method then Ok target else Err
    (WrongMethod (allow_of (path_of target)))

abbrev pub known_by : List ℕ → Option Target → Result Target Refusal
known_by method (Some target) = by_method method target
known_by method None = Err NoPath

-- a target is served: one of history only where that is asked for
abbrev pub is_served : Bool → Target → Bool
is_served history target = history || not (is_of_history (path_of target))

-- what a request names by its method and target: a target that names nothing, or is not served, is
-- refused first
abbrev pub routed : Bool → List ℕ → List ℕ → Result Target Refusal
routed history method bytes = known_by method (keep (is_served history) (target_of bytes))
