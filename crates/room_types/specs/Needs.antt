-- Numbers for each kind of vehicle.
use Rattle.std.specs.Prelude.{ℕ, Bool, nat_le, max, ◌+◌, ◌==◌, ◌&&◌}
use Rattle.room_types.specs.declared.codes.Kind.{Kind}
use Rattle.room_types.specs.declared.codes.Kind.TheVariants.{Ambulance, Car, Support}
use Rattle.room_types.specs.declared.needs.Counts.{Counts}

-- at least one vehicle in all
abbrev pub is_some_need : Counts → Bool
is_some_need n = nat_le 1 (n.ambulances + n.cars + n.support)

-- the number for a kind
abbrev pub need_of : Counts → Kind → ℕ
need_of n Ambulance = n.ambulances
need_of n Car = n.cars
need_of n Support = n.support

-- for each kind the larger number
abbrev pub larger : Counts → Counts → Counts
larger a b = record {
  ambulances = max a.ambulances b.ambulances;
  cars = max a.cars b.cars;
  support = max a.support b.support;
}

-- the numbers that a function gives for each kind
abbrev pub needs_by : (Kind → ℕ) → Counts
needs_by f = record { ambulances = f Ambulance; cars = f Car; support = f Support }

abbrev pub same_needs : Counts → Counts → Bool
same_needs a b = a.ambulances == b.ambulances && (a.cars == b.cars && a.support == b.support)
