-- The numbers of the tariff's blocks.
--   block_number  the blocks are numbered from 0 on, in their order
use Rattle.std.specs.Prelude.{ℕ}
use Rattle.tariff.specs.declared.Block.{Block}
use Rattle.tariff.specs.declared.Block.TheVariants.{DayFare, AirportTrip, BaseCharge, Luggage, AirportExtra, Discount}

abbrev pub block_number : Block → ℕ
block_number DayFare = 0
block_number AirportTrip = 1
block_number BaseCharge = 2
block_number Luggage = 3
block_number AirportExtra = 4
block_number Discount = 5
