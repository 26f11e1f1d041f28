-- What a board asks a room for: requests of HTTP/1.1 (RFC 9112, section 2.1), each a GET.
use Rattle.std.specs.Prelude.{◌≡◌, ℕ, List, [], ◌∷◌, ◌++◌, Bool, true, false, codes, decimal}
use Rattle.std.specs.Prelude.{Option, Some, None}
use Rattle.std.specs.Io.KnownBytes.{Appends}

-- what follows the path in each request, up to the fields that only some have
unfoldable pub fields_of : List ℕ → List ℕ
fields_of token = codes " HTTP/1.1\r\nHost: room\r\nX-Terminal: " ++ token ++ codes "\r\n"

-- the GET of a path, with these fields and no more
unfoldable pub get : List ℕ → List ℕ → List ℕ
get path fields = codes "GET " ++ (path ++ (fields ++ codes "\r\n"))

-- the GET of a path after which the connection closes
unfoldable pub last_get : List ℕ → List ℕ → List ℕ
last_get path fields = codes "GET " ++ (path ++ (fields ++ codes "Connection: close\r\n\r\n"))

-- where it is asked what came of an incident
abbrev pub history_path : ℕ → List ℕ
history_path n = codes "/incidents/" ++ decimal n

-- where the vehicles to send to it are asked for
abbrev pub proposals_path : ℕ → List ℕ
proposals_path n = codes "/incidents/" ++ (decimal n ++ codes "/propose")

-- the requests for both, where an incident is named
abbrev pub incident_of : Option ℕ → List ℕ → List ℕ
incident_of None fields = []
incident_of (Some n) fields = get (history_path n) fields ++ get (proposals_path n) fields

-- all requests of a desk, one after another, with these fields
unfoldable pub requests_with : List ℕ → Option ℕ → List ℕ
requests_with fields incident =
    get (codes "/queue") fields
    ++ get (codes "/incidents") fields
    ++ incident_of incident fields
    ++ get (codes "/vehicles") fields
    ++ get (codes "/points") fields
    ++ get (codes "/offers") fields
    ++ last_get (codes "/loans") fields

unfoldable pub requests : List ℕ → Option ℕ → List ℕ
requests token incident = requests_with (fields_of token) incident

-- where a vehicle's reports are asked for
abbrev pub reports_path : List ℕ → List ℕ
reports_path callsign = codes "/vehicles/" ++ (callsign ++ codes "/reports")

-- the request for them: the last, where no others follow
abbrev pub get_reports : List ℕ → List ℕ → List (List ℕ) → List ℕ
get_reports fields callsign [] = last_get (reports_path callsign) fields
get_reports fields callsign (c ∷ others) = get (reports_path callsign) fields

-- the requests for those of some vehicles, one after another
abbrev pub reports_with : List ℕ → List (List ℕ) → List ℕ
reports_with fields [] = []
reports_with fields (c ∷ others) = get_reports fields c others ++ reports_with fields others

unfoldable pub report_requests : List ℕ → List (List ℕ) → List ℕ
report_requests token callsigns = reports_with (fields_of token) callsigns

-- all bytes were written, or the first of them before a write failed
abbrev pub Sends : {W : Type 0} → (W → Option (List ℕ)) → (W → Bool) → W → W → List ℕ → Bool
    → Type 0
Sends held has_failed old new bytes true =
    Appends (held old) (held new) bytes × (has_failed new ≡ false)
Sends held has_failed old new bytes false =
    (front : List ℕ) × (rest : List ℕ) × (bytes ≡ front ++ rest)
    × Appends (held old) (held new) front × (has_failed new ≡ true)
