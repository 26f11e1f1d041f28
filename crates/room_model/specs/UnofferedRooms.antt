-- Rooms that were kept before loans were offered. Such a room is one of today in which nothing is
-- offered: what is asked of it that doesn't speak of offers is decided as it was.
use Rattle.std.specs.Prelude.{Bool, List, [], false, true, ◌∷◌, ◌≡◌}
use Rattle.room_types.specs.Codes.{is_offered}
use Rattle.room_types.specs.KeyedRows.{row_at}
use Rattle.room_types.specs.Keys.{callsign_cmp, offer_key, vehicle_key}
use Rattle.room_types.specs.Texts.{Callsign}
use Rattle.room_types.specs.declared.asks.Ask.{Ask}
use Rattle.room_types.specs.declared.asks.Event.{Event}
use Rattle.room_types.specs.declared.tables.Vehicle.{Vehicle}
use Rattle.room_place.specs.Choice.{Among}
use Rattle.room_model.specs.Events.{is_lend}
use Rattle.room_model.specs.Room.{Room}
use Rattle.room_model.specs.RoomAgreements.{OfferAgrees}
use Rattle.room_types.specs.declared.asks.Ask.TheVariants as ask

-- nothing is offered
abbrev pub IsUnoffered : Room → Type 0
IsUnoffered r = r.offers ≡ []

-- all rows but the offers: what a room had before there were any
abbrev pub without_offers : Room → Room
without_offers r = record r { offers = [] }

-- the ask makes, answers or shows an offer; the queue shows those that nobody answers
abbrev pub speaks_of_offers : Ask → Bool
speaks_of_offers (ask.Lend c to until) = true
speaks_of_offers (ask.Withdraw c) = true
speaks_of_offers (ask.Decline c) = true
speaks_of_offers (ask.Accept c) = true
speaks_of_offers ask.Offers = true
speaks_of_offers ask.Queue = true
speaks_of_offers a = false

-- nobody asks to offer a vehicle, not even so that it is refused
abbrev pub NobodyAsksToLend : List Event → Type 0
NobodyAsksToLend [] = Unit {0}
NobodyAsksToLend (e ∷ es) = (is_lend e.ask ≡ false) × NobodyAsksToLend es

-- the agreement of vehicles and offers, over the whole room
abbrev pub OffersAgree : Room → Type 0
OffersAgree r = (c : Callsign) →
    OfferAgrees r.plan (row_at callsign_cmp vehicle_key r.vehicles c)
    (row_at callsign_cmp offer_key r.offers c)

-- no vehicle is reserved for another division: none is at status 7
abbrev pub NoneIsReserved : Room → Type 0
NoneIsReserved r = (v : Vehicle) → Among v r.vehicles → is_offered v.status ≡ false
