-- Addresses of this machine only, and those that may be of another one.
use Rattle.std.specs.Prelude.{List, codes, ℕ, ◌++◌, ◌<◌, ◌^◌, ◌≡◌, ◌⊎◌}
use Rattle.std.specs.Net.Addr.{IsLoopbackV4, IsLoopbackV6, MatchIp}
use Rattle.std.specs.Net.Grammar.{IsSocketText}
use Rattle.std.specs.Net.Socket.{socket_ip}
use Rattle.std.specs.Str.Parse.{IsNumeral, digits_value, without_leading_plus}
use Rattle.std.specs.declared.net.socket_addr.SocketAddr.{SocketAddr}

-- it is of 127.0.0.0/8, or ::1
abbrev pub IsLoopback : SocketAddr → Type 0
IsLoopback address = MatchIp (socket_ip address) IsLoopbackV4 IsLoopbackV6

-- the text is no address with a port, or one that more than this machine reaches
abbrev pub IsElsewhere : List ℕ → Type 0
IsElsewhere text = ((address : SocketAddr) → ¬ (IsSocketText text address))
    ⊎ ((address : SocketAddr) × IsSocketText text address × (¬ (IsLoopback address)))

-- the text writes a port in decimal, behind a plus or without one
abbrev pub IsPort : List ℕ → Type 0
IsPort text = IsNumeral 10 (without_leading_plus text)
    × (digits_value 10 (without_leading_plus text) < 2 ^ 16)

-- the text is the name that every machine has for itself, with a port: nothing else stands between
pub record IsLocalhost (text : List ℕ) : Type 0 where
  pub port : List ℕ
  pub named : text ≡ codes "localhost:" ++ port
  pub is_port : IsPort port

-- the text names this machine: by an address that no other reaches, or by that name
abbrev pub IsThisMachine : List ℕ → Type 0
IsThisMachine text = ((address : SocketAddr) × IsSocketText text address × IsLoopback address)
    ⊎ IsLocalhost text

-- or what it names, if anything, may be another one
abbrev pub IsAnother : List ℕ → Type 0
IsAnother text = IsElsewhere text × (¬ IsLocalhost text)
